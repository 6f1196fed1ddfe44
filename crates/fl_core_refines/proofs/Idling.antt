-- Where no binding is over a route, no number of a link leads anywhere, and no monitor has anything to say.
use Rattle.std.proofs.Common.{◌≡◌, refl, sym, ◌∙◌, ap, subst, ℕ, zero, suc, ◌<◌, List, [], ◌∷◌, ◌++◌, length, map, slice_get, Option, Some, None, arith}
use Rattle.std.specs.Prelude.{Contains, filter_map}
use Rattle.fl_base.specs.declared.fragment.Frag.{Frag}
use Rattle.fl_base.specs.Given.{given}
use Rattle.fl_hop.specs.declared.entry.Hop.{Hop}
use Rattle.fl_hop.specs.Table.{TheCircuits, hop_at}
use Rattle.fl_monitor.specs.Outboxes.{AreFragsOf}
use Rattle.fl_core.specs.View.{TheCore}
use Rattle.fl_model.specs.Rings.{MonitorLabel}
use Rattle.fl_model.specs.Monitors.{Link}
use Rattle.fl_model.specs.State.{Back, Route, State, link_between}
use Rattle.fl_model.specs.Standing.{Routed, said_by, on_link, under_way}
use Rattle.fl_model.specs.SoundEntries.{Key, EntryAt}
use Rattle.fl_world_refines.specs.Fragments.{message_of}
use Rattle.fl_world_refines.specs.Cores.{OutboxesShow}
use Rattle.fl_world_refines.specs.View.{TheWorld, side_number}
use Rattle.fl_world_refines.specs.ShowsState.{Shows}
use Rattle.fl_world_refines.proofs.FramesBase.{gets, same_some}
use Rattle.fl_world_refines.proofs.PassingLinkSides.{link_side_side}
use Rattle.fl_core_refines.specs.SetUpUntouched.{IsOffLinks, Untouched}
use Rattle.fl_core_refines.specs.SetUpStart.{CoresAreNumbered, CoresAreIdle}
use Rattle.fl_core_refines.proofs.Apartness.{Linked, linked}

no_route : (s : State) (n : ℕ) (route : Route) → Untouched s → Routed s n route → ⊥
no_route s n route h r = subst (λ (b : Back). IsOffLinks b) r.back (h.bindings n r.binding r.there).back

-- ---- entries

no_entry : (s : State) (n l number side : ℕ) (c : TheCore) (hop : Hop) → ((key : Key) (x : Hop) → EntryAt s key x → ⊥) → Linked s n c l side
    → hop_at c.monitor.circuits l number ≡ Some hop → ⊥
no_entry s n l number side c hop none k there =
    none (record { core = n; neighbour = k.state.neighbour.0; number = number }) hop (record {
      core = k.core;
      core_is = k.core_is;
      link = l;
      link_is = k.to;
      there = ap (λ (t : TheCircuits). hop_at t l number) (sym k.circuits) ∙ there;
    })

none_if : {X : Type 0} (o : Option X) → ((x : X) → o ≡ Some x → ⊥) → o ≡ None
none_if None h = refl
none_if (Some x) h = absurd (h x refl)

-- ---- outboxes

in_middle : (xs ys : List MonitorLabel) (m : MonitorLabel) → Contains (xs ++ m ∷ ys) m
in_middle [] ys m = (0, omega arith, refl)
in_middle (x ∷ xs) ys m = let h = in_middle xs ys m in (suc h.0, (let a : h.0 < length (xs ++ m ∷ ys) = h.1 in omega arith), h.2)

-- what a monitor has to say on a link is under way there
no_message : (s : State) (a b : ℕ) (link : Link) → ((m : MonitorLabel) → Contains (under_way s a b) m → ⊥) → link_between s a b ≡ Some link → link.outbox ≡ []
no_message s a b link none at = by link.outbox refl
  where
    by : (ms : List MonitorLabel) → link.outbox ≡ ms → ms ≡ []
    by [] is = refl
    by (m ∷ ms) is =
        let all : under_way s a b ≡ filter_map said_by (on_link s a b) ++ m ∷ ms =
        ap (λ (o : Option Link). filter_map said_by (on_link s a b) ++ given o [] (λ x. x.outbox)) at
        ∙ ap (λ (xs : List MonitorLabel). filter_map said_by (on_link s a b) ++ xs) is in
        absurd (none m (subst (λ (xs : List MonitorLabel). Contains xs m) (sym all) (in_middle (filter_map said_by (on_link s a b)) ms m)))

-- the fragments of a link's outbox
outbox_at : (links : List Link) (outboxes : List (List Frag)) (l : ℕ) (frags : List Frag) → OutboxesShow links outboxes → slice_get outboxes l ≡ Some frags
    → (link : Link) × (slice_get links l ≡ Some link) × AreFragsOf frags (map message_of link.outbox)
outbox_at links [] l frags h q = absurd (cc)
outbox_at [] (x ∷ outboxes) l frags h q = absurd h
outbox_at (link ∷ links) (x ∷ outboxes) zero frags h q =
    let same : x ≡ frags = cc in (link, refl, subst (λ (fs : List Frag). AreFragsOf fs (map message_of link.outbox)) same h.0)
outbox_at (link ∷ links) (x ∷ outboxes) (suc l) frags h q = outbox_at links outboxes l frags h.1 q

no_frags : (frags : List Frag) → AreFragsOf frags [] → frags ≡ []
no_frags [] h = refl
no_frags (f ∷ frags) h = absurd h

pub cores_are_numbered : (w : TheWorld) (s : State) → Shows w s → CoresAreNumbered w
cores_are_numbered w s shows n c c_is =
    let (k, k_is) = gets w.cores s.cores n c (sym shows.showing.cores.count) c_is in
    let core = shows.showing.cores.each n k c k_is c_is in
    ap (λ (t : TheCircuits). t.core) core.monitor.circuits ∙ (shows.sound.cores n k k_is).number

pub cores_are_idle : (w : TheWorld) (s : State) → Shows w s → Untouched s → CoresAreIdle w
cores_are_idle w s shows h n c c_is =
    let (k, k_is) = gets w.cores s.cores n c (sym shows.showing.cores.count) c_is in
    let core = shows.showing.cores.each n k c k_is c_is in
    let no_key : (key : Key) (x : Hop) → EntryAt s key x → ⊥ = λ key x at. let due = shows.sound.only_entries key x at in no_route s x.binding due.0 h due.1 in
    let none : (a b : ℕ) (m : MonitorLabel) → Contains (under_way s a b) m → ⊥ =
    λ a b m there. let due = shows.sound.messages a b m there in no_route s due.binding due.route h due.routed in
    record {
      counts = λ l link at. h.links n l k link k_is (ap (λ (t : TheCircuits). slice_get t.links l) (sym core.monitor.circuits) ∙ at);
      entries = λ l number side link_side.
          none_if (hop_at c.monitor.circuits l number) (λ hop there. no_entry s n l number side c hop no_key (linked w s n l side c shows c_is link_side) there);
      outboxes = λ l frags at.
          let (link, link_is, are) = outbox_at k.links c.monitor.outboxes l frags core.monitor.outboxes at in
          let x = linked w s n l (side_number link.ring) c shows c_is (link_side_side k c l link core link_is) in
          let core_same = same_some (slice_get s.cores n) x.core k x.core_is k_is in
          let same : x.link ≡ link = same_some (slice_get k.links l) x.link link (ap (λ z. slice_get z.links l) (sym core_same) ∙ x.link_is) link_is in
          let empty : link.outbox ≡ [] = ap (λ (z : Link). z.outbox) (sym same) ∙ no_message s n x.state.neighbour.0 x.link (none n x.state.neighbour.0) x.between in
          no_frags frags (subst (λ (ms : List MonitorLabel). AreFragsOf frags (map message_of ms)) empty are);
    }
