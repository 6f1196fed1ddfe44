-- By the order of events, one event after another.
use Rattle.std.proofs.Common.{ℕ, zero, suc, ◌≡◌, ◌≢◌, ◌<◌, ◌≤◌, ⊎_elim, ◌==◌, eq-eqb, ne_eqb, List, [], ◌∷◌, ◌++◌, length, map, slice_get, Option, Some, ap, subst, ◌∙◌, sym, refl, arith, append-nil, lt_of_not-le}
use mathlib.Core.Logic.{dite}
use mathlib.Core.Option.{some, some-ne-none}
use native.Mathlib.Decide.{dec_le, ℕ_discrete}
use lib.ListN.{get_elem?}
use Rattle.atomic_table.specs.Seated.{TableId}
use Rattle.fl_ring.specs.SharedSides.{TheSide}
use Rattle.fl_core.specs.declared.core_job.CoreJob.{CoreJob}
use Rattle.fl_core_run.specs.Run.{TheRun, over}
use Rattle.fl_core_run.specs.LogEntries.{LogEntry}
use Rattle.fl_cores_joined.specs.Rings.{FacingSide}
use Rattle.fl_cores_joined.specs.Joined.{JoinedCore, HasSide, across_from, alone, IsBeside}
use Rattle.fl_cores_joined.specs.Steps.{HappensAt}
use Rattle.fl_cores_joined.proofs.Lifted.{in_place_lifted}
use Rattle.fl_history_rings.specs.declared.board.Entry.{Entry}
use Rattle.fl_history_rings.specs.declared.board.SideEnd.{SideEnd}
use Rattle.fl_history_rings.specs.Rings.{mate, Way, Goes, Runs, all_empty, IsByItsCore, steps_of}
use Rattle.fl_history_rings.specs.Rule.{gather, one_action, ArePaired, slots_of}
use Rattle.fl_history_rings.specs.Cores.{TheCore}
use Rattle.fl_history_rings.proofs.Logs.{then_is, else_is}
use Rattle.fl_history_sides.specs.States.{TheHistorySide, side_after, shown_of, numbers_of}
use Rattle.fl_history_sides.proofs.Prefixes.{Numbered, numbered}
use Rattle.fl_history_events.specs.Events.{IsEventAfter, IsCut, joined, CoreEvent, events_of, EventGoes, EventsInOneOrder}
use Rattle.fl_history_events.proofs.Cutting.{cons_none, cons_same, events_here, events_else}
use Rattle.fl_history_events.proofs.Gathered.{AllOf, steps_join, steps_own, steps_others, at_either, did_nothing}
use Rattle.fl_history_events.proofs.Moving.{runs_join}
use Rattle.fl_history_events.proofs.Ordering.{events_have_one_order}
use Rattle.fl_history_entries.proofs.Growing.{all_at}
use Rattle.fl_history_entries.proofs.Eventful.{number_at}
use Rattle.fl_history_entries.proofs.Happening.{map_at}
use Rattle.fl_history_facing.specs.Facing.{side_at}
use Rattle.fl_history_facing.specs.Moments.{AreSidesAt, AreOfTwoCores, beside, run_beside}
use Rattle.fl_history_facing.proofs.Acted.{side_by, side_is}
use Rattle.fl_history_facing.proofs.Sides.{slots_at, own_steps}
use Rattle.fl_history_facing.proofs.Happening.{entries_happen_truly}
use Rattle.fl_history_orders.specs.Orders.{CoreMoment, LoggedEvent, IsNext, LogGoes, joined_core, joined_cores, AreHeld, RanInOneOrder, CoreEntry, entries_of, LogsInOneOrder}
use Rattle.fl_history_orders.specs.Laws.{LogsHaveOneOrder}
use Rattle.fl_history_orders.proofs.Cores.{changed, changed_here, changed_else, each_at, each_alike, each_set, across_mate, map_twice}
use Rattle.fl_history_orders.proofs.Events.{steps_in, all_did, log_events}

-- ---- a side at a moment, as its core shows it

side_shown_at : (table : TableId) (ends : List SideEnd) (log : List Entry) (ways : List Way) (c : TheCore) (ss : List TheHistorySide) (i : ℕ) (p : TheHistorySide)
    → Runs (Goes ends) (all_empty (length ends)) log ways → ((j : ℕ) (e : Entry) → get_elem? log j ≡ some e → IsByItsCore ends e)
    → AreSidesAt table ends log c ss → slice_get ss i ≡ Some p → p.side ≡ side_at table ends log p.number
side_shown_at table ends log ways c ss i p run by h at =
    let n : ℕ = p.number in
    let owned = h.owns i p at in
    let slots : slots_of ends n ≡ p.side.size = slots_at ends log ways run n owned.0 owned.1 ∙ owned.3 in
    let p_is : p ≡ shown_of c p.side.size n = all_at (λ (z : TheHistorySide). z ≡ shown_of c z.side.size z.number) ss i p h.sides.each at in
    ap (λ (z : TheHistorySide). z.side) p_is
    ∙ ap (λ (r : TableId). side_after r p.side.size n c.steps) h.table_is
    ∙ ap (λ (z : ℕ). side_after table z n c.steps) (sym slots)
    ∙ side_is table (slots_of ends n) n c.steps
    ∙ ap (side_by table (slots_of ends n) n)
    (ap (gather one_action n) (h.did ∙ ap (λ (j : ℕ). steps_of j log) (sym owned.2))
    ∙ own_steps ends n owned.0 log owned.1 by)
    ∙ sym (side_is table (slots_of ends n) n log)

module _ (table : TableId) (ends : List SideEnd) (jobs : List CoreJob) (count : ℕ) (queues : ℕ → List ℕ) (paired : ArePaired ends) (apart : AreOfTwoCores ends)
    (begin end : ℕ → CoreMoment) (held : AreHeld ends count begin) where
  -- ---- how all cores are, once some events happened

  record Now (log : List Entry) (ways : List Way) (at : ℕ → CoreMoment) (rest : ℕ → List LoggedEvent) : Type 0 where
    runs : Runs (Goes ends) (all_empty (length ends)) log ways
    by : (i : ℕ) (e : Entry) → get_elem? log i ≡ some e → IsByItsCore ends e
    sides : (n : ℕ) → n < count → AreSidesAt table ends log (at n).core (at n).run.rings
    number : (n : ℕ) → n < count → (at n).core.number ≡ n
    numbers : (n : ℕ) → n < count → numbers_of (at n).run.rings ≡ numbers_of (begin n).run.rings
    goes : (n : ℕ) → n < count → LogGoes table ends jobs (at n) (rest n) (end n)
    no_more : (n : ℕ) → count ≤ n → (let none : List LoggedEvent = [] in rest n ≡ none)

  abbrev cores_at : (ℕ → CoreMoment) → List JoinedCore
  cores_at at = joined_cores count queues at

  core_at : (at : ℕ → CoreMoment) (n : ℕ) → n < count → slice_get (cores_at at) n ≡ Some (joined_core (queues n) (at n))
  core_at at n low = each_at (λ k. joined_core (queues k) (at k)) 0 count n low ∙ ap (λ (k : ℕ). Some (joined_core (queues k) (at k))) (omega arith)

  -- ---- the side across is in the hands of its core

  module _ (log : List Entry) (ways : List Way) (at : ℕ → CoreMoment) (rest : ℕ → List LoggedEvent) (now : Now log ways at rest) where
    has_across : (n : ℕ) → n < count → (i : ℕ) (z : TheHistorySide) → slice_get (at n).run.rings i ≡ Some z
        → HasSide (cores_at at) (mate z.number) (side_at table ends log (mate z.number))
    has_across n low i z there =
        let owned = (now.sides n low).owns i z there in
        let other = paired z.number owned.0 owned.1 in
        let has = held (mate z.number) other.0 other.1 in
        let k : ℕ = other.0.core in
        let place = subst (λ (l : List ℕ). slice_get l has.1.0 ≡ Some (mate z.number)) (sym (now.numbers k has.0)) has.1.1 in
        let x : Numbered (at k).run.rings has.1.0 (mate z.number) = numbered (at k).run.rings has.1.0 (mate z.number) place in
        let shown = side_shown_at table ends log ways (at k).core (at k).run.rings has.1.0 x.side now.runs now.by (now.sides k has.0) x.there in
        record {
          core = k;
          at = joined_core (queues k) (at k);
          at_is = core_at at k has.0;
          place = has.1.0;
          number_is = place;
          side_is =
              map_at (λ (p : TheHistorySide). p.side) (at k).run.rings has.1.0 x.side x.there
              ∙ ap (λ (y : TheSide). Some y) (shown ∙ ap (side_at table ends log) x.number);
        }

    abbrev beside_run : ℕ → TheRun FacingSide
    beside_run n = run_beside table ends log (at n).run

    own_is : (s : TheRun TheHistorySide) → alone (run_beside table ends log s) ≡ over (map (λ (p : TheHistorySide). p.side) s.rings) s
    own_is s = ap (λ (l : List TheSide). over l s) (map_twice (beside table ends log) (λ (p : FacingSide). p.side) (λ (p : TheHistorySide). p.side) s.rings (λ x. refl))

    side_there : (ss : List TheHistorySide) (i : ℕ) (p : FacingSide) → slice_get (map (beside table ends log) ss) i ≡ Some p
        → (z : TheHistorySide) × (slice_get ss i ≡ Some z) × (p ≡ beside table ends log z)
    side_there [] i p there = absurd (cc)
    side_there (z ∷ zs) zero p there = (z, refl, cc)
    side_there (z ∷ zs) (suc i) p there = side_there zs i p there

    one_number : (o : Option ℕ) (j k : ℕ) → o ≡ Some j → o ≡ Some k → j ≡ k
    one_number o j k a b = cc

    is_beside : (n : ℕ) → n < count → IsBeside (cores_at at) (joined_core (queues n) (at n)) (beside_run n)
    is_beside n low = record {
      own = own_is (at n).run;
      across = λ i m p number there.
          let x = side_there (at n).run.rings i p there in
          let m_is : m ≡ x.0.number = one_number (slice_get (numbers_of (at n).run.rings) i) m x.0.number number (number_at (at n).run.rings i x.0 x.1) in
          subst (λ (q : FacingSide). HasSide (cores_at at) (across_from m) q.across) (sym x.2)
          (subst (λ (j : ℕ). HasSide (cores_at at) j (side_at table ends log (mate x.0.number))) (sym (ap across_from m_is ∙ across_mate x.0.number))
          (has_across n low i x.0 x.1));
    }

    -- ---- the next event

    module _ (n : ℕ) (low : n < count) (e : LoggedEvent) (more : List LoggedEvent) (rest_is : rest n ≡ e ∷ more) (ways2 : List Way)
        (step : Runs (Goes ends) ways e.steps ways2) (by_n : (j : ℕ) (d : Entry) → get_elem? e.steps j ≡ some d → (d.core ≡ n) × IsByItsCore ends d) where
      abbrev goes_so : LogGoes table ends jobs (at n) (e ∷ more) (end n)
      goes_so = subst (λ (l : List LoggedEvent). LogGoes table ends jobs (at n) l (end n)) rest_is (now.goes n low)

      abbrev m : CoreMoment
      m = goes_so.0

      next : IsNext table ends jobs (at n) e m
      next = goes_so.1

      abbrev log2 : List Entry
      log2 = log ++ e.steps

      abbrev at2 : ℕ → CoreMoment
      at2 = changed at n m

      abbrev rest2 : ℕ → List LoggedEvent
      rest2 = changed rest n more

      all_by : (j : ℕ) (d : Entry) → get_elem? log2 j ≡ some d → IsByItsCore ends d
      all_by j d there =
          ⊎_elim (λ first. now.by first.0 d first.1) (λ then_by. (by_n then_by.0 d then_by.1).1) (at_either log e.steps j d there)

      own_steps_of : AllOf n e.steps
      own_steps_of j d there = (by_n j d there).0

      sides_m : AreSidesAt table ends log2 m.core m.run.rings
      sides_m = record {
        sides = next.holds.sides;
        table_is = next.holds.table_is;
        did =
            next.did
            ∙ ap (λ (l : List Entry). l ++ e.steps) ((now.sides n low).did ∙ ap (λ (j : ℕ). steps_of j log) (now.number n low))
            ∙ ap (λ (l : List Entry). steps_of n log ++ l) (sym (steps_own n e.steps own_steps_of))
            ∙ sym (steps_join n log e.steps)
            ∙ ap (λ (j : ℕ). steps_of j log2) (sym (next.number ∙ now.number n low));
        owns = next.holds.owns;
      }

      sides_else : (k : ℕ) → k < count → k ≢ n → AreSidesAt table ends log2 (at k).core (at k).run.rings
      sides_else k low_k ne =
          let h = now.sides k low_k in
          let is : (at k).core.number ≡ k = now.number k low_k in
          record {
            sides = h.sides;
            table_is = h.table_is;
            did =
                h.did ∙ ap (λ (j : ℕ). steps_of j log) is
                ∙ sym (append-nil (steps_of k log))
                ∙ ap (λ (l : List Entry). steps_of k log ++ l) (sym (steps_others k n e.steps (λ d. ne (sym d)) own_steps_of))
                ∙ sym (steps_join k log e.steps)
                ∙ ap (λ (j : ℕ). steps_of j log2) (sym is);
            owns = h.owns;
          }

      happens_at : HappensAt jobs n e.log_entry (cores_at at) (cores_at at2)
      happens_at = record {
        before = joined_core (queues n) (at n);
        before_is = core_at at n low;
        beside = beside_run n;
        beside_is = is_beside n low;
        after = run_beside table ends log m.run;
        happens =
            entries_happen_truly table ends log e.steps ways ways2 (at n).run m.run e.log_entry (at n).core m.core paired apart now.by now.runs step
            (now.sides n low) sides_m next.number next.did next.happens next.may;
        in_place = in_place_lifted (map (beside table ends log)) (at n).run (long_map (beside table ends log) (at n).run.rings) jobs e.log_entry next.in_place;
        rest =
            each_set (λ k. joined_core (queues k) (at k)) (λ k. joined_core (queues k) (at2 k)) 0 count n
            (record (joined_core (queues n) (at n)) { run = alone (run_beside table ends log m.run) }) low
            (ap (λ (k : ℕ). joined_core (queues k) (at2 k)) (omega arith)
            ∙ ap (joined_core (queues n)) (changed_here at n m n refl)
            ∙ ap (λ (r : TheRun TheSide). record (joined_core (queues n) m) { run = r }) (sym (own_is m.run))
            ∙ ap (λ (l : List ℕ). record (joined_core (queues n) (at n)) { run = alone (run_beside table ends log m.run); sides = l }) next.numbers)
            (λ k ne. ap (joined_core (queues k)) (changed_else at n m k (λ d. ne (d ∙ omega arith))));
      }
        where
          long_map : {A B : Type 0} (f : A → B) (xs : List A) → length (map f xs) ≡ length xs
          long_map f [] = refl
          long_map f (x ∷ xs) = ap suc (long_map f xs)

      now2 : Now log2 ways2 at2 rest2
      now2 = record {
        runs = runs_join (Goes ends) (all_empty (length ends)) ways ways2 log e.steps now.runs step;
        by = all_by;
        sides = λ k low_k.
            dite (ℕ_discrete k n)
            (λ is. subst (λ (x : CoreMoment). AreSidesAt table ends log2 x.core x.run.rings) (sym (changed_here at n m k is)) sides_m)
            (λ ne. subst (λ (x : CoreMoment). AreSidesAt table ends log2 x.core x.run.rings) (sym (changed_else at n m k ne)) (sides_else k low_k ne));
        number = λ k low_k.
            dite (ℕ_discrete k n)
            (λ is. ap (λ (x : CoreMoment). x.core.number) (changed_here at n m k is) ∙ next.number ∙ now.number n low ∙ sym is)
            (λ ne. ap (λ (x : CoreMoment). x.core.number) (changed_else at n m k ne) ∙ now.number k low_k);
        numbers = λ k low_k.
            dite (ℕ_discrete k n)
            (λ is.
            ap (λ (x : CoreMoment). numbers_of x.run.rings) (changed_here at n m k is) ∙ next.numbers ∙ now.numbers n low
            ∙ ap (λ (j : ℕ). numbers_of (begin j).run.rings) (sym is))
            (λ ne. ap (λ (x : CoreMoment). numbers_of x.run.rings) (changed_else at n m k ne) ∙ now.numbers k low_k);
        goes = λ k low_k.
            dite (ℕ_discrete k n)
            (λ is.
            subst (λ (x : CoreMoment). LogGoes table ends jobs x (rest2 k) (end k)) (sym (changed_here at n m k is))
            (subst (λ (l : List LoggedEvent). LogGoes table ends jobs m l (end k)) (sym (changed_here rest n more k is))
            (subst (λ (j : ℕ). LogGoes table ends jobs m more (end j)) (sym is) goes_so.2)))
            (λ ne.
            subst (λ (x : CoreMoment). LogGoes table ends jobs x (rest2 k) (end k)) (sym (changed_else at n m k ne))
            (subst (λ (l : List LoggedEvent). LogGoes table ends jobs (at k) l (end k)) (sym (changed_else rest n more k ne)) (now.goes k low_k)));
        no_more = λ k far.
            dite (ℕ_discrete k n)
            (λ is. absurd (omega (arith, far, is, low)))
            (λ ne. changed_else rest n more k ne ∙ now.no_more k far);
      }

  -- ---- all of them, by the order

  abbrev entries_in : List LoggedEvent → List LogEntry
  entries_in events = map (λ (e : LoggedEvent). e.log_entry) events

  abbrev Turned : (ℕ → CoreMoment) → (ℕ → List LoggedEvent) → Type 0
  Turned at rest = LogsInOneOrder jobs (cores_at at) rest (cores_at end)

  entries_here : (n : ℕ) (x : CoreEntry) (turns : List CoreEntry) → x.core ≡ n → entries_of n (x ∷ turns) ≡ x.log_entry ∷ entries_of n turns
  entries_here n x turns is = then_is (x.core == n) (x.log_entry ∷ entries_of n turns) (entries_of n turns) (eq-eqb x.core n is)

  entries_else : (n : ℕ) (x : CoreEntry) (turns : List CoreEntry) → x.core ≢ n → entries_of n (x ∷ turns) ≡ entries_of n turns
  entries_else n x turns ne = else_is (x.core == n) (x.log_entry ∷ entries_of n turns) (entries_of n turns) (ne_eqb x.core n ne)

  first_of : (events : List LoggedEvent) (steps : List Entry) (more : List (List Entry)) → steps ∷ more ≡ steps_in events
      → (e : LoggedEvent) × (rest : List LoggedEvent) × (events ≡ e ∷ rest) × (steps ≡ e.steps) × (more ≡ steps_in rest)
  first_of [] steps more is = absurd (cons_none steps more is)
  first_of (e ∷ events) steps more is = let parts = cons_same steps e.steps more (steps_in events) is in (e, events, refl, parts.0, parts.1)

  nothing_left : (events : List LoggedEvent) → (let none : List (List Entry) = [] in none ≡ steps_in events) → (let none : List LoggedEvent = [] in events ≡ none)
  nothing_left [] is = refl
  nothing_left (e ∷ events) is = absurd (cons_none e.steps (steps_in events) (sym is))

  finished : (log : List Entry) (ways : List Way) (at : ℕ → CoreMoment) (rest : ℕ → List LoggedEvent) → Now log ways at rest
      → ((n : ℕ) → (let none : List LoggedEvent = [] in rest n ≡ none)) → Turned at rest
  finished log ways at rest now none = record {
    turns = [];
    happen =
        each_alike (λ k. joined_core (queues k) (at k)) (λ k. joined_core (queues k) (end k)) 0 count
        (λ k low high.
        ap (joined_core (queues k))
        (subst (λ (l : List LoggedEvent). LogGoes table ends jobs (at k) l (end k)) (none k) (now.goes k (omega (arith, high)))));
    each = λ n. sym (ap entries_in (none n));
  }

  turned : (order : List CoreEvent) (log : List Entry) (ways ways2 : List Way) (at : ℕ → CoreMoment) (rest : ℕ → List LoggedEvent) → Now log ways at rest
      → Runs (EventGoes ends) ways order ways2
      → ((i j : ℕ) (d : CoreEvent) (e : Entry) → get_elem? order i ≡ some d → get_elem? d.steps j ≡ some e → (e.core ≡ d.core) × IsByItsCore ends e)
      → ((n : ℕ) → events_of n order ≡ steps_in (rest n)) → Turned at rest
  turned [] log ways ways2 at rest now run by did = finished log ways at rest now (λ n. nothing_left (rest n) (did n))
  turned (d ∷ ds) log ways ways2 at rest now run by did =
      let n : ℕ = d.core in
      let f = first_of (rest n) d.steps (events_of n ds) (sym (events_here n d ds refl) ∙ did n) in
      let low : n < count =
      dite (dec_le count n)
      (λ far. absurd (cons_some f.0 f.1 (sym f.2 ∙ now.no_more n far)))
      (λ near. lt_of_not-le near) in
      let step : Runs (Goes ends) ways f.0.steps run.0 = subst (λ (l : List Entry). Runs (Goes ends) ways l run.0) f.3 run.1 in
      let by_n : (j : ℕ) (e : Entry) → get_elem? f.0.steps j ≡ some e → (e.core ≡ n) × IsByItsCore ends e =
      λ j e there. by 0 j d e refl (subst (λ (l : List Entry). get_elem? l j ≡ some e) (sym f.3) there) in
      let then_so : Turned (at2 log ways at rest now n low f.0 f.1 f.2 run.0 step by_n) (rest2 log ways at rest now n low f.0 f.1 f.2 run.0 step by_n) =
      turned ds (log ++ f.0.steps) run.0 ways2 (at2 log ways at rest now n low f.0 f.1 f.2 run.0 step by_n) (rest2 log ways at rest now n low f.0 f.1 f.2 run.0 step by_n)
      (now2 log ways at rest now n low f.0 f.1 f.2 run.0 step by_n) run.2
      (λ i j x e there inside. by (suc i) j x e there inside)
      (λ k.
      dite (ℕ_discrete k n)
      (λ is. ap (λ (j : ℕ). events_of j ds) is ∙ f.4 ∙ ap steps_in (sym (changed_here rest n f.1 k is)))
      (λ ne. sym (events_else k d ds (λ e. ne (sym e))) ∙ did k ∙ ap steps_in (sym (changed_else rest n f.1 k ne)))) in
      record {
        turns = record { core = n; log_entry = f.0.log_entry } ∷ then_so.turns;
        happen = (
          cores_at (at2 log ways at rest now n low f.0 f.1 f.2 run.0 step by_n),
          happens_at log ways at rest now n low f.0 f.1 f.2 run.0 step by_n,
          then_so.happen,
        );
        each = λ k.
            dite (ℕ_discrete n k)
            (λ is.
            entries_here k (record { core = n; log_entry = f.0.log_entry }) then_so.turns is
            ∙ ap (λ (l : List LogEntry). f.0.log_entry ∷ l) (then_so.each k ∙ ap entries_in (changed_here rest n f.1 k (sym is)))
            ∙ ap entries_in (sym f.2) ∙ ap (λ (j : ℕ). entries_in (rest j)) is)
            (λ ne.
            entries_else k (record { core = n; log_entry = f.0.log_entry }) then_so.turns ne
            ∙ then_so.each k ∙ ap entries_in (changed_else rest n f.1 k (λ e. ne (sym e))));
      }
    where
      cons_some : (e : LoggedEvent) (events : List LoggedEvent) → (let none : List LoggedEvent = [] in e ∷ events ≡ none) → ⊥
      cons_some e events is = cc

-- ---- the law

module _ (table : TableId) (ends : List SideEnd) (jobs : List CoreJob) (count : ℕ) (begin end : ℕ → CoreMoment) (logs : ℕ → List LoggedEvent) (queues : ℕ → List ℕ)
    (paired : ArePaired ends) (apart : AreOfTwoCores ends) (ran : RanInOneOrder table ends jobs count begin end logs) where
  abbrev events : ℕ → List (List Entry)
  events n = steps_in (logs n)

  did_by : (n : ℕ) → n < count → joined (events n) ≡ steps_of n ran.log
  did_by n low =
      sym (all_did table ends jobs (begin n) (logs n) (end n) (ran.goes n low) ∙ ap (λ (l : List Entry). l ++ joined (events n)) (ran.nothing_yet n low))
      ∙ sym (ran.did n low)

  -- a step is of one of the cores
  never_above : (n : ℕ) → count ≤ n → (i : ℕ) (e : Entry) → get_elem? ran.log i ≡ some e → e.core ≢ n
  never_above n far i e there is =
      let mine = ran.by_its_core i e there in
      let low = (ran.held e.side mine.0 mine.1).0 in
      absurd (omega (arith, far, low, sym is ∙ mine.2))

  is_cut : IsCut count ran.log events
  is_cut = record {
    whole = λ n.
        dite (dec_le count n)
        (λ far. ap (λ (l : List LoggedEvent). joined (steps_in l)) (ran.no_more n far) ∙ sym (did_nothing n ran.log (never_above n far)))
        (λ near. did_by n (lt_of_not-le near));
    each = λ n before behind steps is.
        dite (dec_le count n)
        (λ far. absurd (none_there before behind steps (ap steps_in (sym (ran.no_more n far)) ∙ is)))
        (λ near.
        let low = lt_of_not-le near in
        subst (λ (l : List Entry). IsEventAfter l steps)
        (ap (λ (l : List Entry). l ++ joined before) (ran.nothing_yet n low))
        (log_events table ends jobs (begin n) (logs n) (end n) (ran.holds n low) (ran.goes n low) before behind steps is));
    within = λ n far. ap steps_in (ran.no_more n far);
  }
    where
      none_there : (before behind : List (List Entry)) (steps : List Entry) → (let none : List (List Entry) = [] in none ≡ before ++ steps ∷ behind) → ⊥
      none_there [] behind steps is = cons_none steps behind (sym is)
      none_there (b ∷ before) behind steps is = cons_none b (before ++ steps ∷ behind) (sym is)

  order : EventsInOneOrder ends (all_empty (length ends)) events ran.ways
  order = events_have_one_order ends (all_empty (length ends)) ran.ways ran.log count events ran.runs ran.by_its_core is_cut

  begun : Now table ends jobs count queues paired apart begin end ran.held [] (all_empty (length ends)) begin logs
  begun = record {
    runs = refl;
    by = λ i e there. absurd (some-ne-none e (sym there));
    sides = λ n low.
        let h = ran.holds n low in
        record { sides = h.sides; table_is = h.table_is; did = ran.nothing_yet n low; owns = h.owns };
    number = ran.numbered;
    numbers = λ n low. refl;
    goes = ran.goes;
    no_more = ran.no_more;
  }

  all_turned : LogsInOneOrder jobs (joined_cores count queues begin) logs (joined_cores count queues end)
  all_turned =
      turned table ends jobs count queues paired apart begin end ran.held order.order [] (all_empty (length ends)) ran.ways begin logs begun order.happen order.by_its_core order.did

pub logs_have_one_order : LogsHaveOneOrder
logs_have_one_order = λ table ends jobs count begin end logs queues paired apart ran. all_turned table ends jobs count begin end logs queues paired apart ran
