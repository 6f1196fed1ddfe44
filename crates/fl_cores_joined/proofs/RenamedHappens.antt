-- What happens among cores happens under other numbers of bindings.
use Rattle.std.proofs.Common.{◌≡◌, ◌∙◌, ◌<◌, ◌∷◌, if◌then◌else◌, [], ℕ, refl, subst, inl, inr, arith, Bool, List, None, Option, Some, ap, false, length, map, nat_lt, slice_get, slice_set, suc, sym, true, zero}
use Rattle.fl_base.specs.Numbered.{most_bindings}
use Rattle.fl_base.specs.declared.identity.EndId.{EndId}
use Rattle.fl_core.specs.View.{slot_of}
use Rattle.fl_core.specs.declared.core_job.CoreJob.{CoreJob}
use Rattle.fl_core_run.specs.EndProgress.{ChangesIf, TheEndProgress, advanced, progress_place, with_handled, with_refusal}
use Rattle.fl_core_run.specs.LogEntries.{IsSound}
use Rattle.fl_core_run.specs.Run.{TheRun}
use Rattle.fl_core_run_laws.specs.Logs.{InPlace}
use Rattle.fl_cores_joined.proofs.Joining.{long_set}
use Rattle.fl_cores_joined.specs.Joined.{HasSide, JoinedCore, across_from, alone, facing}
use Rattle.fl_cores_joined.specs.Rings.{FacingSide}
use Rattle.fl_ring.specs.SharedSides.{TheSide}
use Rattle.fl_world_refines.proofs.FramesBase.{same_some}
use Rattle.fl_world_refines.specs.View.{ring_at}
use Rattle.std.proofs.lemmas.Bool.Decides.{nat_tests}
use Rattle.std.specs.Prelude.{Err, Ok}
use Rattle.fl_core.specs.declared.answer.MonitorAnswer.TheVariants as answered
use Rattle.fl_core.specs.declared.turn_answer.TurnAnswer.TheVariants as turn
use Rattle.fl_core.specs.declared.fault.OpenFault.TheVariants as opening
use Rattle.fl_monitor.specs.declared.fault.MonitorFault.TheVariants as monitor
use Rattle.fl_core_run.specs.LogEntries.{LogEntry, looked, passed, arrived, heard, said, told, opened, called, ruled, wrote, acked, turned, Does, Notes, ActsSoundly}
use Rattle.fl_core_run.specs.Run.{AtProgress}
use Rattle.fl_core_run_laws.proofs.Aside.{progresses_alone}
use Rattle.fl_hop.proofs.Lists.{set_cases, set_here, within, at_within}
use Rattle.fl_core.proofs.Numbering.{goes_to, came_from}
use Rattle.fl_cores_joined.specs.Steps.{true_ways, HappensAt}
use Rattle.fl_cores_joined.specs.Renamed.{Renaming, SideUnder, CoreUnder, RunUnder, JoinedUnder, AreUnder}
use Rattle.fl_cores_joined.proofs.Passing.{long_map, ring_across}
use Rattle.fl_cores_joined.proofs.RenamedSound.{sound_under}
use Rattle.fl_cores_joined.proofs.RenamedSteps.{SideBeside}
use Rattle.fl_cores_joined.proofs.RenamedRun.{Runs, Done}

-- ---- what is noted at ends' progress can be, whatever it is

module _ (m : TheRun FacingSide) where
  record Noted (e : EndId) (change : TheEndProgress → TheEndProgress) : Type 0 where
    after : List TheEndProgress
    noted : AtProgress e change m (record m { progresses = after })

  noted_at : (e : EndId) (change : TheEndProgress → TheEndProgress) → Noted e change
  noted_at e change = by (progress_place m.progresses e) refl
    where
      far : (n : ℕ) → (if nat_lt e.binding most_bindings then (if nat_lt (slot_of e) (length m.progresses) then Some (slot_of e) else None) else None) ≡ Some n
          → n < length m.progresses
      far n q = one (nat_lt e.binding most_bindings) (nat_lt (slot_of e) (length m.progresses)) refl q
        where
          one : (a b : Bool) → nat_lt (slot_of e) (length m.progresses) ≡ b → (if a then (if b then Some (slot_of e) else None) else None) ≡ Some n
              → n < length m.progresses
          one true true is h = let same : slot_of e ≡ n = cc in subst (λ (k : ℕ). k < length m.progresses) same (grind (arith, nat_tests, is))
          one true false is h = absurd (cc)
          one false b is h = absurd (cc)

      by : (o : Option ℕ) → progress_place m.progresses e ≡ o → Noted e change
      by None q = record {
        after = m.progresses;
        noted = record {
          changes = subst (λ (o : Option ℕ). ChangesIf o m.progresses change m.progresses) (sym q) refl;
          rest = refl;
        };
      }
      by (Some n) q =
          let (d, d_is) = at_within m.progresses n (far n q) in
          record {
            after = slice_set m.progresses n (change d);
            noted = record {
              changes =
                  subst (λ (o : Option ℕ). ChangesIf o m.progresses change (slice_set m.progresses n (change d))) (sym q)
                  (record { progress = d; progress_is = d_is; rest = refl });
              rest = refl;
            };
          }

  record NotedBy (log_entry : LogEntry) : Type 0 where
    after : List TheEndProgress
    noted : Notes log_entry m (record m { progresses = after })

  some_noted : (log_entry : LogEntry) (e : EndId) (change : TheEndProgress → TheEndProgress)
      → ((t : TheRun FacingSide) → AtProgress e change m t → Notes log_entry m t) → NotedBy log_entry
  some_noted log_entry e change is = let it = noted_at e change in record { after = it.after; noted = is (record m { progresses = it.after }) it.noted }

  none_noted : (log_entry : LogEntry) → Notes log_entry m m → NotedBy log_entry
  none_noted log_entry h = record { after = m.progresses; noted = h }

  can_note : (log_entry : LogEntry) → NotedBy log_entry
  can_note (looked n l answer) = none_noted (looked n l answer) refl
  can_note (passed n k frag c outcome) = none_noted (passed n k frag c outcome) refl
  can_note (arrived n l frag e answer) = none_noted (arrived n l frag e answer) refl
  can_note (heard n l frag (Ok answered.Full)) = none_noted (heard n l frag (Ok answered.Full)) refl
  can_note (heard n l frag (Ok answered.Done)) = none_noted (heard n l frag (Ok answered.Done)) refl
  can_note (heard n l frag (Ok (answered.Opened e))) = none_noted (heard n l frag (Ok (answered.Opened e))) refl
  can_note (heard n l frag (Ok (answered.OpeningRefused e reason))) =
      some_noted (heard n l frag (Ok (answered.OpeningRefused e reason))) e (with_refusal reason) (λ t h. h)
  can_note (heard n l frag (Err fault)) = none_noted (heard n l frag (Err fault)) refl
  can_note (said n l answer) = none_noted (said n l answer) refl
  can_note (told n l answer) = none_noted (told n l answer) refl
  can_note (opened name request (Ok e)) = some_noted (opened name request (Ok e)) name advanced (λ t h. h)
  can_note (opened name request (Err (opening.Monitor monitor.OutboxFull))) = none_noted (opened name request (Err (opening.Monitor monitor.OutboxFull))) refl
  can_note (opened name request (Err (opening.Board fault))) = some_noted (opened name request (Err (opening.Board fault))) name _ (λ t h. h)
  can_note (opened name request (Err (opening.Monitor monitor.Misrouted))) =
      some_noted (opened name request (Err (opening.Monitor monitor.Misrouted))) name _ (λ t h. h)
  can_note (opened name request (Err (opening.Monitor monitor.Differs))) =
      some_noted (opened name request (Err (opening.Monitor monitor.Differs))) name _ (λ t h. h)
  can_note (opened name request (Err (opening.Monitor monitor.NoRoute))) =
      some_noted (opened name request (Err (opening.Monitor monitor.NoRoute))) name _ (λ t h. h)
  can_note (opened name request (Err (opening.Monitor monitor.UsedUp))) =
      some_noted (opened name request (Err (opening.Monitor monitor.UsedUp))) name _ (λ t h. h)
  can_note (opened name request (Err (opening.Monitor monitor.PlansDiffer))) =
      some_noted (opened name request (Err (opening.Monitor monitor.PlansDiffer))) name _ (λ t h. h)
  can_note (opened name request (Err (opening.Monitor monitor.Memory))) =
      some_noted (opened name request (Err (opening.Monitor monitor.Memory))) name _ (λ t h. h)
  can_note (called name c (Ok done)) = some_noted (called name c (Ok done)) name advanced (λ t h. h)
  can_note (called name c (Err fault)) = none_noted (called name c (Err fault)) refl
  can_note (ruled name msg reply answer) = some_noted (ruled name msg reply answer) name advanced (λ t h. h)
  can_note (wrote name out answer) = none_noted (wrote name out answer) refl
  can_note (acked name n answer) = none_noted (acked name n answer) refl
  can_note (turned d name from (turn.Handle call)) = some_noted (turned d name from (turn.Handle call)) name (with_handled call) (λ t h. h)
  can_note (turned d name from turn.Part) = none_noted (turned d name from turn.Part) refl
  can_note (turned d name from turn.Ready) = none_noted (turned d name from turn.Ready) refl
  can_note (turned d name from turn.Quiet) = none_noted (turned d name from turn.Quiet) refl
  can_note (turned d name from turn.Full) = none_noted (turned d name from turn.Full) refl
  can_note (turned d name from turn.Nothing) = none_noted (turned d name from turn.Nothing) refl
  can_note (turned d name from (turn.Refused fault)) = none_noted (turned d name from (turn.Refused fault)) refl

-- ---- the core beside the others

module _ (r : Renaming) (links : ℕ → Bool) where
  join : (b : Bool) (p : FacingSide) (q z : TheSide) → SideUnder r b p.side q → SideUnder r b p.across z → SideBeside r b p (facing q z)
  join true p q z (c, c_is) (d, d_is) = record { here = c; there = d; is = λ i. facing (c_is i) (d_is i) }
  join false p q z here there = λ i. facing (here i) (there i)

  own_of : (b : Bool) (p z : FacingSide) → SideBeside r b p z → SideUnder r b p.side z.side
  own_of true p z h = (h.here, ap (λ (x : FacingSide). x.side) h.is)
  own_of false p z h = ap (λ (x : FacingSide). x.side) h

  -- sides across from these, among others
  pub record Rings (xs2 : List JoinedCore) (ns : List ℕ) (ps : List FacingSide) (qs : List TheSide) : Type 0 where
    pub rings : List FacingSide
    pub own : map (λ (p : FacingSide). p.side) rings ≡ qs
    pub beside : (i m : ℕ) (p z : FacingSide) → slice_get ns i ≡ Some m → slice_get ps i ≡ Some p → slice_get rings i ≡ Some z
        → SideBeside r (links (ring_at m)) p z
    pub has : (i m : ℕ) (z : FacingSide) → slice_get ns i ≡ Some m → slice_get rings i ≡ Some z → HasSide xs2 (across_from m) z.across

  abbrev Across : List JoinedCore → ℕ → FacingSide → Type 0
  Across xs2 m p = (z : TheSide) × HasSide xs2 (across_from m) z × SideUnder r (links (ring_at m)) p.across z

  build : (xs2 : List JoinedCore) (ns : List ℕ) (ps : List FacingSide) (qs : List TheSide) → length ns ≡ length ps → length qs ≡ length ps
      → ((i m : ℕ) (p : FacingSide) (q : TheSide) → slice_get ns i ≡ Some m → slice_get ps i ≡ Some p → slice_get qs i ≡ Some q
      → SideUnder r (links (ring_at m)) p.side q)
      → ((i m : ℕ) (p : FacingSide) → slice_get ns i ≡ Some m → slice_get ps i ≡ Some p → Across xs2 m p) → Rings xs2 ns ps qs
  build xs2 [] [] [] a b here there = record {
    rings = [];
    own = refl;
    beside = λ i m p z m_is p_is z_is. absurd (cc);
    has = λ i m z m_is z_is. absurd (cc);
  }
  build xs2 [] [] (q ∷ qs) a b here there = absurd (omega (arith, b))
  build xs2 (n ∷ ns) [] qs a b here there = absurd (omega (arith, a))
  build xs2 [] (p ∷ ps) qs a b here there = absurd (omega (arith, a))
  build xs2 (n ∷ ns) (p ∷ ps) [] a b here there = absurd (omega (arith, b))
  build xs2 (n ∷ ns) (p ∷ ps) (q ∷ qs) a b here there =
      let (z, has, under) = there 0 n p refl refl in
      let rest = build xs2 ns ps qs (omega (arith, a)) (omega (arith, b)) (λ i m x y. here (suc i) m x y) (λ i m x. there (suc i) m x) in
      record {
        rings = facing q z ∷ rest.rings;
        own = ap (λ (l : List TheSide). q ∷ l) rest.own;
        beside = besides z (join (links (ring_at n)) p q z (here 0 n p q refl refl refl) under) rest;
        has = haves z has rest;
      }
    where
      besides : (z : TheSide) → SideBeside r (links (ring_at n)) p (facing q z) → (rest : Rings xs2 ns ps qs) → (i m : ℕ) (x y : FacingSide)
          → slice_get (n ∷ ns) i ≡ Some m → slice_get (p ∷ ps) i ≡ Some x → slice_get (facing q z ∷ rest.rings) i ≡ Some y
          → SideBeside r (links (ring_at m)) x y
      besides z first rest zero m x y m_is x_is y_is =
          let one : n ≡ m = cc in
          let two : p ≡ x = cc in
          let three : facing q z ≡ y = cc in
          subst (λ (k : ℕ). SideBeside r (links (ring_at k)) x y) one
          (subst (λ (w : FacingSide). SideBeside r (links (ring_at n)) w y) two
          (subst (λ (w : FacingSide). SideBeside r (links (ring_at n)) p w) three first))
      besides z first rest (suc i) m x y m_is x_is y_is = rest.beside i m x y m_is x_is y_is

      haves : (z : TheSide) → HasSide xs2 (across_from n) z → (rest : Rings xs2 ns ps qs) → (i m : ℕ) (y : FacingSide)
          → slice_get (n ∷ ns) i ≡ Some m → slice_get (facing q z ∷ rest.rings) i ≡ Some y → HasSide xs2 (across_from m) y.across
      haves z first rest zero m y m_is y_is =
          let one : n ≡ m = cc in
          let three : facing q z ≡ y = cc in
          subst (λ (w : FacingSide). HasSide xs2 (across_from m) w.across) three (subst (λ (k : ℕ). HasSide xs2 (across_from k) z) one first)
      haves z first rest (suc i) m y m_is y_is = rest.has i m y m_is y_is

  -- ---- an event

  module _ (jobs : List CoreJob) (n : ℕ) (log_entry : LogEntry) (xs ms xs2 : List JoinedCore) (h : HappensAt jobs n log_entry xs ms)
      (a : AreUnder r links xs xs2) (long : (k : ℕ) (x : JoinedCore) → slice_get xs k ≡ Some x → length x.sides ≡ length x.run.rings) where
    pub other : (y : JoinedCore) × (slice_get xs2 n ≡ Some y)
    other =
        let less = within xs n h.before h.before_is in
        let count = a.count in
        at_within xs2 n (omega (arith, less, count))

    pub its : JoinedUnder r links h.before other.0
    its = a.each n h.before other.0 h.before_is other.1

    -- a side that stands among them stands among the others
    across_there : (m : ℕ) (side : TheSide) → HasSide xs m side → (z : TheSide) × HasSide xs2 m z × SideUnder r (links (ring_at m)) side z
    across_there m side q =
        let less = within xs q.core q.at q.at_is in
        let count = a.count in
        let (y, y_is) = at_within xs2 q.core (omega (arith, less, count)) in
        let u = a.each q.core q.at y q.at_is y_is in
        let inside = within q.at.run.rings q.place side q.side_is in
        let many = u.run.count in
        let (z, z_is) = at_within y.run.rings q.place (omega (arith, inside, many)) in (
          z,
          record {
            core = q.core;
            at = y;
            at_is = y_is;
            place = q.place;
            number_is = ap (λ (ns : List ℕ). slice_get ns q.place) u.sides ∙ q.number_is;
            side_is = z_is;
          },
          u.run.rings q.place m side z q.number_is q.side_is z_is,
        )

    own_sides : map (λ (p : FacingSide). p.side) h.beside.rings ≡ h.before.run.rings
    own_sides = ap (λ (t : TheRun TheSide). t.rings) h.beside_is.own

    beside_long : length h.beside.rings ≡ length h.before.run.rings
    beside_long = sym (long_map (λ (p : FacingSide). p.side) h.beside.rings) ∙ ap (λ (l : List TheSide). length l) own_sides

    pub rings_there : Rings xs2 h.before.sides h.beside.rings other.0.run.rings
    rings_there =
        build xs2 h.before.sides h.beside.rings other.0.run.rings (long n h.before h.before_is ∙ sym beside_long) (its.run.count ∙ sym beside_long)
        (λ i m p q m_is p_is q_is.
        its.run.rings i m p.side q m_is
        (ap (λ (l : List TheSide). slice_get l i) (sym own_sides) ∙ goes_to (λ (x : FacingSide). x.side) h.beside.rings i p p_is) q_is)
        (λ i m p m_is p_is.
        let (z, z_is, under) = across_there (across_from m) p.across (h.beside_is.across i m p m_is p_is) in
        (z, z_is, subst (λ (k : ℕ). SideUnder r (links k) p.across z) (ring_across m) under))

    -- the core there, beside the others
    abbrev pub there : TheRun FacingSide
    there = record {
      core = other.0.run.core;
      rings = rings_there.rings;
      queues = other.0.run.queues;
      progresses = other.0.run.progresses;
      offers = other.0.run.offers;
    }

    own_there : alone there ≡ other.0.run
    own_there = ap (λ (l : List TheSide). record other.0.run { rings = l }) rings_there.own

    pub under_there : Runs r links h.before.sides h.beside there
    under_there = record {
      core = subst (λ (t : TheRun TheSide). CoreUnder r t.core other.0.run.core) (sym h.beside_is.own) its.run.core;
      count =
          sym (long_map (λ (p : FacingSide). p.side) rings_there.rings) ∙ ap (λ (l : List TheSide). length l) rings_there.own
          ∙ its.run.count ∙ sym beside_long;
      rings = rings_there.beside;
      queues = its.run.queues ∙ sym (ap (λ (t : TheRun TheSide). t.queues) h.beside_is.own);
      offers = its.run.offers ∙ sym (ap (λ (t : TheRun TheSide). t.offers) h.beside_is.own);
    }

    -- ---- what happens there

    pub record HappensThere (jobs2 : List CoreJob) (other_entry : LogEntry) : Type 0 where
      pub after : List JoinedCore
      pub happens : HappensAt jobs2 n other_entry xs2 after
      pub before : JoinedUnder r links h.before happens.before
      pub under : AreUnder r links ms after

    same_in : (i : ℕ) (p : TheSide) (ps : List FacingSide) → slice_get (map (λ (x : FacingSide). x.side) ps) i ≡ Some p
        → (x : FacingSide) × (slice_get ps i ≡ Some x) × (p ≡ x.side)
    same_in i p ps at = let it = came_from (λ (x : FacingSide). x.side) ps i p at in (it.first, it.first_is, it.same)

    module _ (jobs2 : List CoreJob) (other_entry : LogEntry)
        (d : Done r links h.before.sides h.happens.0 (λ x. Does true_ways other_entry there x))
        (in_place : InPlace jobs2 there other_entry) (acts : ActsSoundly other_entry there) where
      note : NotedBy d.run other_entry
      note = can_note d.run other_entry

      abbrev left : TheRun FacingSide
      left = record d.run { progresses = note.after }

      abbrev last : JoinedCore
      last = record other.0 { run = alone left }

      abbrev first : JoinedCore
      first = record h.before { run = alone h.after }

      aside : h.after ≡ record h.happens.0 { progresses = h.after.progresses }
      aside = progresses_alone h.happens.0 h.after log_entry h.happens.2

      acrosses : (i m : ℕ) (p : FacingSide) → slice_get other.0.sides i ≡ Some m → slice_get there.rings i ≡ Some p → HasSide xs2 (across_from m) p.across
      acrosses i m p m_is p_is = rings_there.has i m p (ap (λ (l : List ℕ). slice_get l i) (sym its.sides) ∙ m_is) p_is

      sound : IsSound there.core
      sound = sound_under r h.beside.core other.0.run.core under_there.core h.happens.3

      run_under : RunUnder r links h.before.sides (alone h.after) (alone left)
      run_under = record {
        core = subst (λ (x : TheRun FacingSide). CoreUnder r x.core left.core) (sym aside) d.under.core;
        count =
            long_map (λ (p : FacingSide). p.side) d.run.rings ∙ d.under.count ∙ sym (ap (λ (x : TheRun FacingSide). length x.rings) aside)
            ∙ sym (long_map (λ (p : FacingSide). p.side) h.after.rings);
        rings = λ i m p q m_is p_is q_is.
            let (x, x_is, p_same) = same_in i p h.after.rings p_is in
            let (z, z_is, q_same) = same_in i q d.run.rings q_is in
            let both = d.under.rings i m x z m_is (ap (λ (t : TheRun FacingSide). slice_get t.rings i) (sym aside) ∙ x_is) z_is in
            subst (λ (w : TheSide). SideUnder r (links (ring_at m)) w q) (sym p_same)
            (subst (λ (w : TheSide). SideUnder r (links (ring_at m)) x.side w) (sym q_same) (own_of (links (ring_at m)) x z both));
        queues = d.under.queues ∙ sym (ap (λ (x : TheRun FacingSide). x.queues) aside);
        offers = d.under.offers ∙ sym (ap (λ (x : TheRun FacingSide). x.offers) aside);
      }

      each : (k : ℕ) (x y : JoinedCore) → slice_get ms k ≡ Some x → slice_get (slice_set xs2 n last) k ≡ Some y → JoinedUnder r links x y
      each k x y x_is y_is =
          elim (set_cases xs n first k x (ap (λ (l : List JoinedCore). slice_get l k) (sym h.rest) ∙ x_is)) [
            | inl (place, same) ↦
                (let its_last : y ≡ last =
                same_some (slice_get (slice_set xs2 n last) n) y last (ap (slice_get (slice_set xs2 n last)) (sym place) ∙ y_is)
                (set_here xs2 n other.0 last other.1) in
                subst (λ (w : JoinedCore). JoinedUnder r links w y) (sym same)
                (subst (λ (w : JoinedCore). JoinedUnder r links first w) (sym its_last)
                (record { run = run_under; sides = its.sides; queues = its.queues })))
            | inr (apart, was) ↦ elim (set_cases xs2 n last k y y_is) [
              | inl (place, same) ↦ absurd (apart place)
              | inr (others, stood) ↦ a.each k x y was stood
            ]
          ]

      pub happens_there : HappensThere jobs2 other_entry
      happens_there = record {
        after = slice_set xs2 n last;
        happens = record {
          before = other.0;
          before_is = other.1;
          beside = there;
          beside_is = record { own = own_there; across = acrosses };
          after = left;
          happens = (d.run, d.event, note.noted, sound, acts, tt);
          in_place = in_place;
          rest = refl;
        };
        before = its;
        under = record {
          count = long_set xs2 n last ∙ a.count ∙ sym (ap (λ (l : List JoinedCore). length l) h.rest ∙ long_set xs n first);
          each = each;
        };
      }
