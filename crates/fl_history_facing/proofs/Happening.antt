-- An event of a core's log happens over sides that face each other, at its moment.
use Rattle.std.proofs.Common.{ℕ, zero, suc, ◌≡◌, ◌≢◌, List, [], ◌∷◌, ◌++◌, map, length, set, slice_get, Some, ap, subst, ◌∙◌, sym, refl}
use mathlib.Core.Logic.{dite}
use mathlib.Core.Option.{some}
use native.Mathlib.Decide.{ℕ_discrete}
use lib.ListN.{get_elem?}
use Rattle.atomic_table.specs.Seated.{TableId}
use Rattle.fl_link.specs.Looks.{Look, no_room, spent}
use Rattle.fl_hop.specs.declared.forward.ForwardOutcome.TheVariants as outcome
use Rattle.fl_core.specs.declared.wiring.Inlet.TheVariants as inlet
use Rattle.fl_core.specs.declared.wiring.Outlet.TheVariants as outlet
use Rattle.fl_core.specs.Sound.{IsCore}
use Rattle.fl_core.specs.View.{TheCore}
use Rattle.fl_core_run.specs.Run.{TheRun}
use Rattle.fl_core_run.specs.LogEntries.{LogEntry, looked, passed, arrived, heard, said, told, opened, called, ruled, wrote, acked, turned, OnRing, PutsAt, TakesAt, Does}
use Rattle.fl_cores_joined.specs.Rings.{FacingSide}
use Rattle.fl_cores_joined.specs.Steps.{true_ways}
use Rattle.fl_cores_joined.proofs.Lifted.{queue_lifted, core_lifted, notes_lifted, acts_lifted}
use Rattle.fl_history_rings.specs.declared.board.Entry.{Entry}
use Rattle.fl_history_rings.specs.declared.board.SideEnd.{SideEnd}
use Rattle.fl_history_rings.specs.Rings.{Way, Goes, Runs, all_empty, IsByItsCore}
use Rattle.fl_history_rings.specs.Rule.{ArePaired}
use Rattle.fl_history_rings.specs.Cores.{TheCore as HistoryCore}
use Rattle.fl_history_sides.specs.States.{TheHistorySide}
use Rattle.fl_history_sides.specs.Ways.{history_ways}
use Rattle.fl_history_entries.specs.Entries.{MayComeNext}
use Rattle.fl_history_entries.proofs.Eventful.{set_here, set_else, one_there}
use Rattle.fl_history_entries.proofs.Happening.{map_at, ring_seat, notes_leave}
use Rattle.fl_history_facing.specs.Moments.{AreSidesAt, AreOfTwoCores, beside, run_beside}
use Rattle.fl_history_facing.specs.Laws.{EntriesHappenTruly}
use Rattle.fl_history_facing.proofs.Carrying.{Carried, looks_carried, arrives_carried, heard_carried, said_carried, told_carried, wrote_carried, acks_carried, turns_carried}
use Rattle.fl_history_facing.proofs.Moment.{carried, carried_back}

map_set : {A B : Type 0} (f : A → B) (xs : List A) (n : ℕ) (y : A) → map f (set xs n y) ≡ set (map f xs) n (f y)
map_set f [] n y = refl
map_set f (x ∷ xs) zero y = refl
map_set {A} {B} f (x ∷ xs) (suc n) y = ap (λ (l : List B). f x ∷ l) (map_set f xs n y)

module _ (table : TableId) (ends : List SideEnd) (log : List Entry) where
  abbrev m : TheHistorySide → FacingSide
  m = beside table ends log

  abbrev facing_run : TheRun TheHistorySide → TheRun FacingSide
  facing_run = run_beside table ends log

  -- ---- where an event happens

  on_ring : (n : ℕ) (s t : TheRun TheHistorySide) (Event : TheCore → TheHistorySide → TheCore → TheHistorySide → Type 0)
      (Event2 : TheCore → FacingSide → TheCore → FacingSide → Type 0) (on : OnRing n s Event t) → Event2 s.core (m on.before) t.core (m on.after)
      → OnRing n (facing_run s) Event2 (facing_run t)
  on_ring n s t Event Event2 on event = record {
    before = m on.before;
    before_is = map_at m s.rings n on.before on.before_is;
    after = m on.after;
    event = event;
    rest =
        ap facing_run on.rest
        ∙ ap (λ (l : List FacingSide). record (facing_run s) { core = t.core; rings = l }) (map_set m s.rings n on.after);
  }

module _ (table : TableId) (ends : List SideEnd) (log steps : List Entry) (ways after : List Way) (c d : HistoryCore) (s t : TheRun TheHistorySide)
    (paired : ArePaired ends) (apart : AreOfTwoCores ends) (by : (i : ℕ) (e : Entry) → get_elem? log i ≡ some e → IsByItsCore ends e)
    (run : Runs (Goes ends) (all_empty (length ends)) log ways) (goes : Runs (Goes ends) ways steps after)
    (h : AreSidesAt table ends log c s.rings) (k : AreSidesAt table ends (log ++ steps) d t.rings) (same_number : d.number ≡ c.number)
    (more : d.steps ≡ c.steps ++ steps) (sound : IsCore s.core) where
  abbrev f : TheHistorySide → FacingSide
  f = beside table ends log

  abbrev fr : TheRun TheHistorySide → TheRun FacingSide
  fr = run_beside table ends log

  carry : (n : ℕ) (p q : TheHistorySide) → slice_get s.rings n ≡ Some p → slice_get t.rings n ≡ Some q → Carried f history_ways true_ways p q
  carry n p q at at2 = carried table ends log steps ways after c d s.rings t.rings paired apart by run goes h k same_number more n p q at at2

  -- over one side alone
  alone : (n : ℕ) (Event : TheCore → TheHistorySide → TheCore → TheHistorySide → Type 0) (on : OnRing n s Event t) → Carried f history_ways true_ways on.before on.after
  alone n Event on =
      carry n on.before on.after on.before_is
      (ap (λ (z : TheRun TheHistorySide). slice_get z.rings n) on.rest ∙ set_here s.rings n on.before on.after on.before_is)

  -- ---- a fragment passes on

  module _ (mid : TheRun TheHistorySide) (to n : ℕ) (one two : Look) (puts : PutsAt history_ways to one s mid) (takes : TakesAt history_ways n two mid t) where
    put_there : slice_get mid.rings to ≡ Some puts.after
    put_there = ap (λ (z : TheRun TheHistorySide). slice_get z.rings to) puts.rest ∙ set_here s.rings to puts.before puts.after puts.before_is

    taken_there : slice_get t.rings n ≡ Some takes.after
    taken_there = ap (λ (z : TheRun TheHistorySide). slice_get z.rings n) takes.rest ∙ set_here mid.rings n takes.before takes.after takes.before_is

    abbrev Both : Type 0
    Both = true_ways.puts (f puts.before) one (f puts.after) × true_ways.takes (f takes.before) two (f takes.after)

    passed_apart : to ≢ n → Both
    passed_apart ne =
        let put_stays : slice_get t.rings to ≡ Some puts.after =
        ap (λ (z : TheRun TheHistorySide). slice_get z.rings to) takes.rest ∙ set_else mid.rings n to takes.after ne ∙ put_there in
        let taken_stood : slice_get s.rings n ≡ Some takes.before =
        sym (ap (λ (z : TheRun TheHistorySide). slice_get z.rings n) puts.rest ∙ set_else s.rings to n puts.after (λ e. ne (sym e))) ∙ takes.before_is in (
          (carry to puts.before puts.after puts.before_is put_stays).put one puts.event.0,
          (carry n takes.before takes.after taken_stood taken_there).take two takes.event.0,
        )

    passed_back : to ≡ n → Both
    passed_back is =
        let middle : puts.after ≡ takes.before = one_there mid.rings to puts.after takes.before put_there (ap (slice_get mid.rings) is ∙ takes.before_is) in
        let take_so : history_ways.takes puts.after two takes.after = subst (λ (z : TheHistorySide). history_ways.takes z two takes.after) (sym middle) takes.event.0 in
        let both =
        carried_back table ends log steps ways after c d s.rings t.rings paired apart by run goes h k same_number more to puts.before takes.after puts.before_is
        (ap (slice_get t.rings) is ∙ taken_there) puts.after one two puts.event.0 take_so in
        (both.0, subst (λ (z : TheHistorySide). true_ways.takes (f z) two (f takes.after)) middle both.1)

    both_passed : Both
    both_passed = dite (ℕ_discrete to n) passed_back passed_apart

    passed_on : (mid2 : TheRun FacingSide) × PutsAt true_ways to one (fr s) mid2 × TakesAt true_ways n two mid2 (fr t)
    passed_on = (
      fr mid,
      on_ring table ends log to s mid _ _ puts (both_passed.0, puts.event.1),
      on_ring table ends log n mid t _ _ takes (both_passed.1, takes.event.1),
    )

  -- ---- each kind of entry

  does : (log_entry : LogEntry) → Does history_ways log_entry s t → MayComeNext log_entry s → Does true_ways log_entry (fr s) (fr t)
  does (looked n l answer) on may = on_ring table ends log n s t _ _ on (looks_carried f history_ways true_ways on.before on.after (alone n _ on) l.0 s.core t.core answer on.event)
  does (passed n to frag circuit outcome.Moved) (mid, puts, takes) may = passed_on mid to n _ _ puts takes
  does (passed n to frag circuit outcome.Full) on may = on_ring table ends log to s t _ _ on ((alone to _ on).put no_room on.event.0, on.event.1)
  does (passed n to frag circuit outcome.Spent) on may = on_ring table ends log to s t _ _ on ((alone to _ on).put spent on.event.0, on.event.1)
  does (arrived n l frag e answer) on may =
      on_ring table ends log n s t _ _ on (arrives_carried f history_ways true_ways on.before on.after (alone n _ on) _ s.core t.core answer on.event)
  does (heard n l frag answer) on may =
      on_ring table ends log n s t _ _ on (on.event.0, heard_carried f history_ways true_ways on.before on.after (alone n _ on) frag answer on.event.1)
  does (said n l answer) on may = on_ring table ends log n s t _ _ on (said_carried f history_ways true_ways on.before on.after (alone n _ on) l.0 s.core t.core answer on.event)
  does (told n l answer) on may =
      on_ring table ends log n s t _ _ on (told_carried f history_ways true_ways on.before on.after (alone n _ on) answer on.event.0, on.event.1)
  does (opened name request answer) on may = core_lifted (map f) s t _ on
  does (called name call answer) (e, at, on) may = (e, at, core_lifted (map f) s t _ on)
  does (ruled name msg reply answer) (e, at, on) may = (e, at, core_lifted (map f) s t _ on)
  does (wrote name (outlet.Queue n) answer) (e, at, on) may = (e, at, queue_lifted (map f) n s t _ on)
  does (wrote name (outlet.Side n) answer) (e, at, on) may =
      (e, at, on_ring table ends log n s t _ _ on (wrote_carried f history_ways true_ways on.before on.after (alone n _ on) e s.core t.core answer on.event))
  does (acked name n answer) (e, at, on) may =
      let seat = on.event.0 in (
        e,
        at,
        on_ring table ends log n s t _ _ on
            ((seat.0, seat.1, acks_carried f history_ways true_ways on.before on.after (alone n _ on) seat.0.kind seat.0.end answer seat.2), on.event.1),
      )
  does (turned dispatcher name (inlet.Queue n) answer) (e, at, due_is, on) may = (e, at, due_is, queue_lifted (map f) n s t _ on)
  does (turned dispatcher name (inlet.Side n) answer) (e, at, due_is, on) may = (
    e,
    at,
    due_is,
    on_ring table ends log n s t _ _ on
        (record {
          event =
              turns_carried f history_ways true_ways on.before on.after (alone n _ on) dispatcher e s.core.board t.core.board answer on.event.event
              (ring_seat s e n on.event.event.seat sound on.event.event.seat_is (may e at));
          rest = on.event.rest;
        }),
  )
  does (turned dispatcher name inlet.Arrivals answer) (e, at, due_is, on) may = (e, at, due_is, core_lifted (map f) s t _ on)

-- ---- the law

pub entries_happen_truly : EntriesHappenTruly
entries_happen_truly = λ table ends log steps ways after s t log_entry c d paired apart by run goes h k number more happens may.
    let mid : TheRun TheHistorySide = happens.0 in
    let same : t.rings ≡ mid.rings = notes_leave log_entry mid t happens.2 in
    let k_mid : AreSidesAt table ends (log ++ steps) d mid.rings = subst (λ (l : List TheHistorySide). AreSidesAt table ends (log ++ steps) d l) same k in (
      run_beside table ends log mid,
      does table ends log steps ways after c d s mid paired apart by run goes h k_mid number more happens.3.core log_entry happens.1 may,
      notes_lifted (map (beside table ends log)) log_entry mid t happens.2,
      happens.3,
      acts_lifted (map (beside table ends log)) log_entry s happens.4,
      tt,
    )
