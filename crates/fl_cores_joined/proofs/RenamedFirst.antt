-- Cores at first are as they are under each renaming that keeps the first numbers; so what they do is the machine's run under
-- one by which openings have the numbers that the machine gives.
use Rattle.std.proofs.Common.{◌≡◌, ◌∙◌, ◌<◌, ◌∷◌, [], ℕ, refl, subst, inl, arith, Bool, List, None, Option, Some, ap, false, length, map, nat_lt, option_map, slice_get, suc, sym, true}
use Rattle.fl_base.specs.declared.fragment.Frag.{Frag}
use Rattle.fl_base.specs.declared.identity.EndId.{EndId}
use Rattle.fl_core.specs.Sound.{IsCore}
use Rattle.fl_core.specs.View.{place_of}
use Rattle.fl_core.specs.declared.wiring.WiredEnd.{WiredEnd}
use Rattle.fl_cores_joined.specs.Joined.{AreWhole, JoinedCore}
use Rattle.fl_endpoint.specs.Laws.{OnAnotherCircuit}
use Rattle.fl_hop.specs.declared.entry.Hop.{Hop}
use Rattle.fl_monitor.specs.Saying.{Says}
use Rattle.fl_monitor.specs.declared.message.MonitorMessage.{MonitorMessage}
use Rattle.fl_ring.specs.SharedSides.{TheSide}
use Rattle.fl_world_refines.proofs.FramesBase.{same_some}
use Rattle.fl_world_refines.specs.Laws.{StepsAgree}
use Rattle.fl_world_refines.specs.View.{ring_at}
use Rattle.std.proofs.lemmas.Bool.Decides.{nat_tests}
use Rattle.std.specs.List.{AllZip}
use Rattle.fl_cores_joined.specs.Renamed.{Renaming, end_under, hop_under, wired_under, Standing, SaysRenamed, SeenUnder, SideUnder, CoreUnder, JoinedUnder, AreUnder}
use Rattle.fl_cores_joined.specs.RenamedRuns.{IsQuietSide, IsAtFirst, AreAtFirst, RunsJoinInAnyOrder}
use Rattle.fl_cores_joined.proofs.Earlier.{whole_behind}
use Rattle.fl_cores_joined.proofs.RenamedNumbers.{numbers_are_given}
use Rattle.fl_cores_joined.proofs.RenamedRuns.{runs_join_under}

module _ (r : Renaming) (first : ℕ) (keeps : (n : ℕ) → n < first → r.to n ≡ n) where
  end_same : (e : EndId) → e.binding < first → end_under r e ≡ e
  end_same e less = λ i. record { binding = keeps e.binding less i; side = e.side }

  -- ---- lists in which nothing is renamed

  no_hops : (hops : List (Option Hop)) → ((i : ℕ) (o : Option Hop) → slice_get hops i ≡ Some o → o ≡ None) → map (option_map (hop_under r)) hops ≡ hops
  no_hops [] none = refl
  no_hops (None ∷ hops) none = ap (λ (l : List (Option Hop)). None ∷ l) (no_hops hops (λ i o is. none (suc i) o is))
  no_hops (Some hop ∷ hops) none = absurd (let e : Some hop ≡ None = none 0 (Some hop) refl in cc)

  no_messages : (boxes : List (List Frag)) → ((l : ℕ) (box : List Frag) → slice_get boxes l ≡ Some box → box ≡ []) → AllZip (AllZip (SaysRenamed r)) boxes boxes
  no_messages [] none = tt
  no_messages ([] ∷ boxes) none = (tt, no_messages boxes (λ l box is. none (suc l) box is))
  no_messages ((f ∷ box) ∷ boxes) none = absurd (let e : f ∷ box ≡ [] = none 0 (f ∷ box) refl in cc)

  same_names : (ws : List WiredEnd) → ((i : ℕ) (p : WiredEnd) → slice_get ws i ≡ Some p → p.name.binding < first) → map (wired_under r) ws ≡ ws
  same_names [] few = refl
  same_names (p ∷ ws) few =
      let name = end_same p.name (few 0 p refl) in
      let rest = same_names ws (λ i q is. few (suc i) q is) in
      λ i. record { name = name i; wiring = p.wiring } ∷ rest i

  no_message_in : (fs : List Frag) → ((i : ℕ) (f : Frag) (m : MonitorMessage) → slice_get fs i ≡ Some f → Says f m → ⊥) → AllZip (Standing r) fs fs
  no_message_in [] none = tt
  no_message_in (f ∷ fs) none =
      ((refl, inl (refl, λ m s. absurd (none 0 f m refl s))), no_message_in fs (λ i g m is s. none (suc i) g m is s))

  unseen_same : (o : Option Frag) → o ≡ None → SeenUnder r o o
  unseen_same None h = tt
  unseen_same (Some f) h = absurd (cc)

  -- ---- a core

  module _ (links : ℕ → Bool) (x : JoinedCore) (at_first : IsAtFirst first links x) (core : IsCore x.run.core) where
    none_or : (o : Option ℕ) → ((at : ℕ) → o ≡ Some at → ⊥) → o ≡ None
    none_or None h = refl
    none_or (Some at) h = absurd (h at refl)

    same_place : (e : EndId) → place_of x.run.core (end_under r e) ≡ place_of x.run.core e
    same_place e = by (nat_lt e.binding first) refl
      where
        by : (b : Bool) → nat_lt e.binding first ≡ b → place_of x.run.core (end_under r e) ≡ place_of x.run.core e
        by true q = ap (place_of x.run.core) (end_same e (grind (arith, nat_tests, q)))
        by false q =
            let here : place_of x.run.core e ≡ None =
            none_or (place_of x.run.core e) (λ at is. let less = at_first.ends e at is in absurd (grind (arith, nat_tests, q, less))) in
            let there : place_of x.run.core (end_under r e) ≡ None =
            none_or (place_of x.run.core (end_under r e)) (λ at is.
            let less = at_first.ends (end_under r e) at is in
            let same : r.to e.binding ≡ e.binding =
            sym (r.there (r.to e.binding)) ∙ ap r.back (keeps (r.to e.binding) less) ∙ r.there e.binding in
            absurd (far e.binding q (subst (λ (k : ℕ). k < first) same less))) in
            there ∙ sym here
          where
            far : (n : ℕ) → nat_lt n first ≡ false → n < first → ⊥
            far n t less = absurd (grind (arith, nat_tests, t, less))

    core_same : CoreUnder r x.run.core x.run.core
    core_same = record {
      circuits =
          sym (ap (λ (hops : List (Option Hop)). record x.run.core.monitor.circuits { hops = hops })
          (no_hops x.run.core.monitor.circuits.hops at_first.hops));
      outboxes = no_messages x.run.core.monitor.outboxes at_first.outboxes;
      wired_ends = sym (same_names x.run.core.wired_ends (λ i p is. at_first.ends p.name i (core.named i p is)));
      slots = refl;
      places = same_place;
      rest = refl;
    }

    side_same : (b : Bool) (p : TheSide) → (b ≡ true → IsQuietSide p) → SideUnder r b p p
    side_same false p quiet = refl
    side_same true p quiet =
        let q = quiet refl in (
          record {
            sent = p.sent;
            sent_is = no_message_in p.sent q.sent;
            got = p.got;
            got_is = no_message_in p.got q.got;
            peeked = p.peeked;
            peeked_is = unseen_same p.peeked q.unseen;
          },
          refl,
        )

    joined_same : JoinedUnder r links x x
    joined_same = record {
      run = record {
        core = core_same;
        count = refl;
        rings = λ i number p q number_is p_is q_is.
            let same : p ≡ q = same_some (slice_get x.run.rings i) p q p_is q_is in
            subst (λ (z : TheSide). SideUnder r (links (ring_at number)) p z) same
            (side_same (links (ring_at number)) p (λ is. at_first.sides i number p number_is p_is is));
        queues = refl;
        offers = refl;
      };
      sides = refl;
      queues = refl;
    }

  pub all_same : (links : ℕ → Bool) (xs : List JoinedCore) → AreAtFirst first links xs → AreWhole xs → AreUnder r links xs xs
  all_same links xs at_first whole = record {
    count = refl;
    each = λ n x y x_is y_is.
        let same : x ≡ y = same_some (slice_get xs n) x y x_is y_is in
        subst (λ (z : JoinedCore). JoinedUnder r links x z) same (joined_same links x (at_first n x x_is) (whole n x x_is).core);
  }

pub in_any_order : StepsAgree → OnAnotherCircuit → RunsJoinInAnyOrder
in_any_order law on links jobs xs ys moments s any show at_first wired h still right fresh =
    let (r, keeps, counts) = numbers_are_given (length s.bindings) jobs xs ys moments h fresh in
    let whole = whole_behind jobs xs ys moments h still in
    record {
      renaming = r;
      keeps = keeps;
      counts = counts;
      runs =
          runs_join_under law on r links jobs xs ys xs moments s any show (all_same r (length s.bindings) keeps links xs at_first whole) wired h still right
          counts;
    }
