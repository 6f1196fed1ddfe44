-- A reported run at a table is a run of the machine: one order of its steps gives one of its cores' logs, and that an interleaving.
use mathlib.Core.Logic.{dite}
use mathlib.Core.Option.{some}
use lib.ListN.{get_elem?}
use native.Mathlib.Decide.{dec_le}
use Rattle.std.proofs.Common.{◌≡◌, refl, sym, ◌∙◌, ap, subst, ℕ, zero, suc, ◌+◌, ◌<◌, ◌≤◌, lt_of_not-le, ◌==◌, Bool}
use Rattle.std.proofs.Common.{true, false, if◌then◌else◌, List, [], ◌∷◌, ◌++◌, length, map, slice_get, Some, None}
use Rattle.std.proofs.Common.{arith}
use Rattle.atomic_table.specs.Seated.{TableId}
use Rattle.fl_core.specs.declared.core_job.CoreJob.{CoreJob}
use Rattle.fl_core.specs.View.{side_of_link}
use Rattle.fl_core_run.specs.LogEntries.{LogEntry}
use Rattle.fl_core_run.specs.Ran.{moment, task, CoreRan}
use Rattle.fl_core_run.specs.Run.{TheRun}
use Rattle.fl_core_run_laws.specs.Flows.{IsApart}
use Rattle.fl_core_run_laws.specs.Logs.{Goes}
use Rattle.fl_core_turned.specs.TurnEvents.{Event, event, log_of}
use Rattle.fl_core_turned.specs.Turned.{shared_ways}
use Rattle.fl_cores_file.specs.Jobs.{Job}
use Rattle.fl_cores_file.specs.Report.{TheReport}
use Rattle.fl_cores_fork.specs.Runs.{TheCoreThread, TheFinishedCore}
use Rattle.fl_cores.specs.Behind.{joined_in}
use Rattle.fl_cores.specs.Outcomes.{ReportsAreOfRuns}
use Rattle.fl_cores.specs.Promised.{Reports}
use Rattle.fl_cores.proofs.FollowsBegin.{is_ready}
use Rattle.fl_cores_shares.specs.Shares.{own_before}
use Rattle.fl_hop.proofs.Lists.{within, at_within}
use Rattle.fl_ring.specs.SharedSides.{TheSide}
use Rattle.fl_world.specs.Booting.{TheConfig}
use Rattle.fl_world_refines.specs.View.{IsWhole}
use Rattle.fl_world_refines.proofs.FramesBase.{same_some}
use Rattle.fl_cores_joined.specs.Joined.{JoinedCore, AreWhole, alone}
use Rattle.fl_cores_joined.specs.Entries.{moments_of}
use Rattle.fl_cores_joined.specs.Runs.{asked_in}
use Rattle.fl_cores_joined.specs.Steps.{Moment, does, forwards, Interleaves}
use Rattle.fl_cores_joined.proofs.Lifted.{in_place_lifted}
use Rattle.fl_cores_joined.proofs.Passing.{long_map}
use Rattle.fl_history_joined.specs.InTurn.{AreInTurn, LinksAreLent}
use Rattle.fl_history_joined.specs.Logged.{entries_in, IsTurnLog, IsLogged, RunsAreOfTurns}
use Rattle.fl_history_joined.specs.Runs.{entries_at, IsRun, OrdersAreRuns}
use Rattle.fl_history_joined.proofs.Logging.{none_did}
use Rattle.fl_history_events.proofs.Gathered.{did_nothing}
use Rattle.fl_history_orders.specs.Laws.{LogsHaveOneOrder}
use Rattle.fl_history_orders.specs.Orders.{CoreMoment, moment_of, HoldsSides, LoggedEvent, AreHeld, LogGoes}
use Rattle.fl_history_orders.specs.Orders.{each_from, joined_core, joined_cores, RanInOneOrder, HappenInTurn}
use Rattle.fl_history_orders.specs.Orders.{LogsInOneOrder}
use Rattle.fl_history_orders.proofs.Cores.{each_at}
use Rattle.fl_history_rings.specs.declared.board.SideEnd.{SideEnd}
use Rattle.fl_history_rings.specs.Cores.{TheCore, InOneOrder}
use Rattle.fl_history_rings.specs.Rings.{steps_of}
use Rattle.fl_history_rings.specs.Rule.{ArePaired}
use Rattle.fl_history_facing.specs.Moments.{AreOfTwoCores}
use Rattle.fl_history_runs.specs.Shown.{IsShownBy, shown_by}
use Rattle.fl_history_runs.proofs.Events.{happens}
use Rattle.fl_history_sides.specs.Core.{AreSidesOf}
use Rattle.fl_history_sides.specs.States.{TheHistorySide, numbers_of as numbers_in}
use Rattle.fl_history_sides.specs.Ways.{history_ways}
use Rattle.fl_cores_whole.specs.AnyOrder.{ReportsJoinInAnyOrder}
use Rattle.fl_cores_whole.specs.Begin.{Owners, numbers_of, joined_from, owners_in}
use Rattle.fl_cores_whole.specs.Machine.{IsMachineRun}
use Rattle.fl_cores_whole.specs.Whole.{begun, events_at, AreLeft}
use Rattle.fl_cores_whole.proofs.Begin.{joined_one, joined_long, links_are_lent, zip_long}
use Rattle.fl_cores_whole.proofs.Home.{HomeLaws, told}
use Rattle.fl_cores_whole.proofs.Own.{own_there}
use Rattle.fl_cores_whole.proofs.Told.{OwnLogs}
use Rattle.fl_cores_whole.proofs.ToldUnder.{calls_stay}
use Rattle.fl_cores_whole.proofs.Whole.{world, is_behind}

-- ---- what there is of each core

each_long : {A : Type 0} (first count : ℕ) (f : ℕ → A) → length (each_from first count f) ≡ count
each_long first zero f = refl
each_long first (suc count) f = ap suc (each_long (suc first) count f)

each_joined : (owners : Owners) (first : ℕ) (threads : List TheCoreThread) (f : ℕ → JoinedCore)
    → ((i : ℕ) (s : TheCoreThread) → slice_get threads i ≡ Some s → f (first + i) ≡ joined_one owners (first + i) s)
    → joined_from owners first threads ≡ each_from first (length threads) f
each_joined owners first [] f each = refl
each_joined owners first (s ∷ threads) f each =
    let sum : first + 0 ≡ first = omega arith in
    let here : joined_one owners first s ≡ f first = ap (λ (k : ℕ). joined_one owners k s) (sym sum) ∙ sym (each 0 s refl) ∙ ap f sum in
    ap (λ (x : JoinedCore). x ∷ joined_from owners (suc first) threads) here
    ∙ ap (λ (l : List JoinedCore). f first ∷ l) (each_joined owners (suc first) threads f (λ i t at.
    let shift : suc first + i ≡ first + suc i = omega arith in
    ap f shift ∙ each (suc i) t at ∙ ap (λ (k : ℕ). joined_one owners k t) (sym shift)))

-- ---- the entries of a core's events

one_entry : (b : Bool) (x : Event TheSide) (xs : List (Event TheSide)) (log : List LogEntry) → log_of xs ≡ log
    → log_of ((if b then x ∷ [] else []) ++ xs) ≡ (if b then x.log_entry ∷ [] else []) ++ log
one_entry true x xs log is = ap (λ (l : List LogEntry). x.log_entry ∷ l) is
one_entry false x xs log is = is

two_entries : (b : Bool) (x y : Event TheSide) (xs : List (Event TheSide)) (log : List LogEntry) → log_of xs ≡ log
    → log_of ((if b then x ∷ y ∷ [] else []) ++ xs) ≡ (if b then x.log_entry ∷ y.log_entry ∷ [] else []) ++ log
two_entries true x y xs log is = ap (λ (l : List LogEntry). x.log_entry ∷ y.log_entry ∷ l) is
two_entries false x y xs log is = is

entries_are : (n : ℕ) (jobs : List CoreJob) (moments : List Moment) (xs ys : List JoinedCore) (h : Interleaves jobs xs moments ys)
    → log_of (events_at n jobs xs moments ys h) ≡ entries_at n moments
entries_are n jobs [] xs ys h = refl
entries_are n jobs (does m log_entry ∷ moments) xs ys h =
    one_entry (m == n) (event log_entry (alone h.1.1.after)) (events_at n jobs h.0 moments ys h.2) (entries_at n moments)
    (entries_are n jobs moments h.0 ys h.2)
entries_are n jobs (forwards m look next ∷ moments) xs ys h =
    two_entries (m == n) (event look (alone h.1.1.1.after)) (event next (alone h.1.1.2.after)) (events_at n jobs h.0 moments ys h.2) (entries_at n moments)
    (entries_are n jobs moments h.0 ys h.2)

-- ---- a core at the table, by itself

-- a running core at the table, as its thread has it: each side by itself
abbrev pub by_itself : CoreMoment → TheRun TheSide
by_itself x = shown_by (λ (p : TheHistorySide). p.side) x.run

by_sides : IsShownBy (λ (p : TheHistorySide). p.side) history_ways shared_ways
by_sides = record { puts = λ p look q h. h.0; takes = λ p look q h. h.0; front = λ p. refl; whole = λ ss one. tt }

goes_by_itself : (table : TableId) (ends : List SideEnd) (jobs : List CoreJob) (x : CoreMoment) (log : List LoggedEvent) (y : CoreMoment)
    → LogGoes table ends jobs x log y → Goes shared_ways jobs (by_itself x) (entries_in log) (by_itself y)
goes_by_itself table ends jobs x [] y h = ap by_itself h
goes_by_itself table ends jobs x (e ∷ log) y h = (
  by_itself h.0,
  happens (λ (p : TheHistorySide). p.side) history_ways shared_ways by_sides e.log_entry x.run h.0.run h.1.happens,
  in_place_lifted (map (λ (p : TheHistorySide). p.side)) x.run (long_map (λ (p : TheHistorySide). p.side) x.run.rings) jobs e.log_entry h.1.in_place,
  goes_by_itself table ends jobs h.0 log y h.2,
)

-- it keeps its sides' numbers, and its own
numbers_stay : (table : TableId) (ends : List SideEnd) (jobs : List CoreJob) (x : CoreMoment) (log : List LoggedEvent) (y : CoreMoment)
    → LogGoes table ends jobs x log y → numbers_in y.run.rings ≡ numbers_in x.run.rings
numbers_stay table ends jobs x [] y h = ap (λ (z : CoreMoment). numbers_in z.run.rings) h
numbers_stay table ends jobs x (e ∷ log) y h = numbers_stay table ends jobs h.0 log y h.2 ∙ h.1.numbers

number_stays : (table : TableId) (ends : List SideEnd) (jobs : List CoreJob) (x : CoreMoment) (log : List LoggedEvent) (y : CoreMoment)
    → LogGoes table ends jobs x log y → y.core.number ≡ x.core.number
number_stays table ends jobs x [] y h = ap (λ (z : CoreMoment). z.core.number) h
number_stays table ends jobs x (e ∷ log) y h = number_stays table ends jobs h.0 log y h.2 ∙ h.1.number

none_by_numbers : (ss : List TheHistorySide) → (let none : List ℕ = [] in numbers_in ss ≡ none) → (let none : List TheHistorySide = [] in ss ≡ none)
none_by_numbers [] is = refl
none_by_numbers (p ∷ ss) is = absurd (cc)

-- ---- a reported run at a table

-- what is told of a core's run at the table: which core it is, how its sides are numbered, and where the runs of all begin and end
pub record TheCoreAt : Type 0 where
  pub number : ℕ
  pub sides : List ℕ
  pub begins : List (TheRun TheHistorySide)
  pub ends : List (TheRun TheHistorySide)

-- it ran over its sides there, from when its core had done nothing, and in the end all of them show what that did
pub record CoreAtTable (table : TableId) (ends : List SideEnd) (gathered : List TheCore) (jobs : List CoreJob) (limit : ℕ) (x : TheCoreAt) (s : TheCoreThread)
    (o : TheFinishedCore) : Type 0 where
  pub begin : CoreMoment
  pub begin_is : slice_get x.begins x.number ≡ Some begin.run
  pub end : CoreMoment
  pub end_is : slice_get x.ends x.number ≡ Some end.run
  pub first_is : by_itself begin ≡ s.run
  pub last_is : by_itself end ≡ o.run
  pub numbers : numbers_in begin.run.rings ≡ x.sides
  pub holds : HoldsSides table ends begin
  pub number : begin.core.number ≡ x.number
  pub nothing_yet : begin.core.steps ≡ []
  pub ran : CoreRan history_ways (task s.plan jobs limit) (moment begin.run s.run_seat) o.part (moment end.run o.run_seat)
  pub did : AreSidesOf end.core end.run.rings
  pub among : 0 < length end.run.rings → (i : ℕ) × (get_elem? gathered i ≡ some end.core)

module _ {c : TheConfig} {jobs : List Job} {limit : ℕ} {r : TheReport} (w : Reports c jobs limit r) where
  abbrev pub the_core_at : ℕ → TheCoreAt
  the_core_at n = record {
    number = n;
    sides = numbers_of n (owners_in w.ran.ran.ran.shares).sides;
    begins = w.ran.ran.ran.order.begins;
    ends = w.ran.ran.ran.order.ends;
  }

  -- so did all cores of a reported run; those with sides were gathered, and one order has all that they did
  pub record CoresAtTable : Type 0 where
    pub table : TableId
    pub ends : List SideEnd
    pub paired : ArePaired ends
    pub apart : AreOfTwoCores ends
    pub owned : (side : ℕ) (end : SideEnd) → get_elem? ends side ≡ some end
        → (end.core < length w.ran.ran.ran.core_threads) × (slice_get (owners_in w.ran.ran.ran.shares).sides side ≡ Some end.core)
    pub gathered : List TheCore
    pub order : InOneOrder ends gathered
    pub cores : (n : ℕ) (s : TheCoreThread) (o : TheFinishedCore) → slice_get w.ran.ran.ran.core_threads n ≡ Some s → slice_get w.ran.ran.ran.outcomes n ≡ Some o
        → CoreAtTable table ends gathered (joined_in w).jobs limit (the_core_at n) s o

-- what is known of reported runs
pub record MachineLaws : Type 0 where
  pub home : HomeLaws
  pub are : ReportsAreOfRuns
  pub order : LogsHaveOneOrder
  pub of_turns : RunsAreOfTurns
  pub orders : OrdersAreRuns
  pub join : ReportsJoinInAnyOrder

module _ (l : MachineLaws) (c : TheConfig) (jobs : List Job) (limit : ℕ) (r : TheReport) (w : Reports c jobs limit r) (ran : CoresAtTable w) (any : CoreMoment) where
  abbrev threads : List TheCoreThread
  threads = w.ran.ran.ran.core_threads

  abbrev outcomes : List TheFinishedCore
  outcomes = w.ran.ran.ran.outcomes

  abbrev owners : Owners
  owners = owners_in w.ran.ran.ran.shares

  abbrev theirs : List CoreJob
  theirs = (joined_in w).jobs

  abbrev queues : ℕ → List ℕ
  queues n = numbers_of n owners.queues

  counted : length threads ≡ length outcomes
  counted = zip_long theirs limit threads outcomes w.ran.ran.ran.ran

  -- ---- one core

  abbrev AtTable : ℕ → TheCoreThread → TheFinishedCore → Type 0
  AtTable n s o = CoreAtTable ran.table ran.ends ran.gathered theirs limit (the_core_at w n) s o

  module _ (n : ℕ) (s : TheCoreThread) (s_is : slice_get threads n ≡ Some s) where
    outcome : (o : TheFinishedCore) × (slice_get outcomes n ≡ Some o)
    outcome = let less = within threads n s s_is in let count = counted in at_within outcomes n (omega (arith, less, count))

    its : AtTable n s outcome.0
    its = ran.cores n s outcome.0 s_is outcome.1

    is_apart : IsApart its.begin.run.core
    is_apart =
        subst IsApart (sym (ap (λ (t : TheRun TheSide). t.core) its.first_is))
        (is_ready l.home.fresh c jobs limit r w n s s_is l.home.leads).apart

    are_lent : LinksAreLent its.begin.run
    are_lent link side at =
        let less =
        links_are_lent (world l.home.fresh c jobs limit r w) w.ran.ran.parts (joined_in w) w.ran.ran.ran.places threads outcomes
        (is_behind l.home.fresh c jobs limit r w) w.ran.ran.ran.sound.begin w.ran.ran.ran.begin w.ran.ran.ran.shares n s s_is link side
        (ap (λ (t : TheRun TheSide). side_of_link t.core.link_sides link) (sym its.first_is) ∙ at) in
        let many : length (map (λ (p : TheHistorySide). p.side) its.begin.run.rings) ≡ length s.run.rings = ap (λ (t : TheRun TheSide). length t.rings) its.first_is in
        let long = long_map (λ (p : TheHistorySide). p.side) its.begin.run.rings in
        omega (arith, less, many, long)

    is_logged : IsLogged ran.table ran.ends (task s.plan theirs limit) outcome.0.part.turns its.begin its.end.run its.end.core
    is_logged =
        l.of_turns ran.table ran.ends (task s.plan theirs limit) (moment its.begin.run s.run_seat) (moment its.end.run outcome.0.run_seat) outcome.0.part
        its.begin.core its.end.core its.holds is_apart are_lent its.ran its.did

  -- ---- each core with its log, and any where there is none

  record LogAt (n : ℕ) (begin end : CoreMoment) (log : List LoggedEvent) : Type 0 where
    thread : TheCoreThread
    thread_is : slice_get threads n ≡ Some thread
    outcome : TheFinishedCore
    outcome_is : slice_get outcomes n ≡ Some outcome
    core : AtTable n thread outcome
    begin_is : begin ≡ core.begin
    goes : LogGoes ran.table ran.ends theirs begin log end
    end_is : end.run ≡ core.end.run
    did : end.core.steps ≡ core.end.core.steps
    same : 0 < length core.end.run.rings → end.core ≡ core.end.core
    turns : IsTurnLog thread.plan theirs outcome.part.turns core.begin.run core.end.run (entries_in log)
    in_turn : AreInTurn None (entries_in log)

  record At (n : ℕ) : Type 0 where
    begin : CoreMoment
    end : CoreMoment
    log : List LoggedEvent
    is : n < length threads → LogAt n begin end log
    no_more : length threads ≤ n → (let none : List LoggedEvent = [] in log ≡ none)

  at : (n : ℕ) → At n
  at n =
      dite (dec_le (length threads) n)
      (λ far. record { begin = any; end = any; log = []; is = λ low. absurd (omega (arith, far, low)); no_more = λ more. refl })
      (λ near.
      let low : n < length threads = lt_of_not-le near in
      let (s, s_is) = at_within threads n low in
      let it = is_logged n s s_is in
      let core = its n s s_is in
      record {
        begin = core.begin;
        end = moment_of core.end.run it.core;
        log = it.log;
        is = λ less. record {
          thread = s;
          thread_is = s_is;
          outcome = (outcome n s s_is).0;
          outcome_is = (outcome n s s_is).1;
          core = core;
          begin_is = refl;
          goes = it.goes;
          end_is = refl;
          did = it.did;
          same = it.same;
          turns = it.turns;
          in_turn = it.in_turn;
        };
        no_more = λ far. absurd (omega (arith, far, low));
      })

  abbrev begin : ℕ → CoreMoment
  begin n = (at n).begin

  abbrev end : ℕ → CoreMoment
  end n = (at n).end

  abbrev logs : ℕ → List LoggedEvent
  logs n = (at n).log

  log_at : (n : ℕ) → n < length threads → LogAt n (begin n) (end n) (logs n)
  log_at n low = (at n).is low

  abbrev last : List JoinedCore
  last = joined_cores (length threads) queues end

  -- ---- one order of their steps

  numbers_at : (n : ℕ) → n < length threads → numbers_in (begin n).run.rings ≡ numbers_of n owners.sides
  numbers_at n low = let it = log_at n low in ap (λ (x : CoreMoment). numbers_in x.run.rings) it.begin_is ∙ it.core.numbers

  number_at : (n : ℕ) → n < length threads → (begin n).core.number ≡ n
  number_at n low = let it = log_at n low in ap (λ (x : CoreMoment). x.core.number) it.begin_is ∙ it.core.number

  are_held : AreHeld ran.ends (length threads) begin
  are_held side end there =
      let (low, owner) = ran.owned side end there in
      let sum : 0 + side ≡ side = omega arith in (
        low,
        (
          own_before end.core side owners.sides,
          ap (λ (numbers : List ℕ). slice_get numbers (own_before end.core side owners.sides)) (numbers_at end.core low)
              ∙ own_there 0 end.core owners.sides side owner ∙ ap (λ (k : ℕ). Some k) sum,
        ),
      )

  -- a core without sides did nothing
  did_none : (n : ℕ) (low : n < length threads) → (let none : List TheHistorySide = [] in (end n).run.rings ≡ none) → steps_of n ran.order.log ≡ (end n).core.steps
  did_none n low none =
      let it = log_at n low in
      let numbers = numbers_stay ran.table ran.ends theirs (begin n) (logs n) (end n) it.goes in
      let first : (let nothing : List ℕ = [] in numbers_in (begin n).run.rings ≡ nothing) = sym numbers ∙ ap numbers_in none in
      let sides = subst (AreSidesOf it.core.end.core) (sym (ap (λ (t : TheRun TheHistorySide). t.rings) it.end_is) ∙ none) it.core.did in
      did_nothing n ran.order.log (λ i e there is.
      let mine = ran.order.by_its_core i e there in
      let has = (are_held e.side mine.0 mine.1).1 in
      let number : slice_get (numbers_in (begin n).run.rings) has.0 ≡ Some e.side =
      ap (λ (k : ℕ). slice_get (numbers_in (begin k).run.rings) has.0) (sym is ∙ mine.2) ∙ has.1 in
      absurd (let clash : None ≡ Some e.side = sym (ap (λ (ns : List ℕ). slice_get ns has.0) first) ∙ number in cc))
      ∙ sym (none_did it.core.end.core.number it.core.end.core.steps sides.did) ∙ sym it.did

  did_at : (n : ℕ) (low : n < length threads) (rings : List TheHistorySide) → (end n).run.rings ≡ rings → steps_of n ran.order.log ≡ (end n).core.steps
  did_at n low [] is = did_none n low is
  did_at n low (p ∷ rings) is =
      let it = log_at n low in
      let more : 0 < length (p ∷ rings) = omega arith in
      let theirs_are : p ∷ rings ≡ it.core.end.run.rings = sym is ∙ ap (λ (t : TheRun TheHistorySide). t.rings) it.end_is in
      let has = subst (λ (rs : List TheHistorySide). 0 < length rs) theirs_are more in
      let (i, there) = it.core.among has in
      let number : it.core.end.core.number ≡ n =
      sym (ap (λ (d : TheCore). d.number) (it.same has)) ∙ number_stays ran.table ran.ends theirs (begin n) (logs n) (end n) it.goes ∙ number_at n low in
      ap (λ (k : ℕ). steps_of k ran.order.log) (sym number) ∙ ran.order.did i it.core.end.core there ∙ sym it.did

  in_one_order : RanInOneOrder ran.table ran.ends theirs (length threads) begin end logs
  in_one_order = record {
    held = are_held;
    holds = λ n low. let it = log_at n low in subst (HoldsSides ran.table ran.ends) (sym it.begin_is) it.core.holds;
    numbered = number_at;
    nothing_yet = λ n low. let it = log_at n low in ap (λ (x : CoreMoment). x.core.steps) it.begin_is ∙ it.core.nothing_yet;
    goes = λ n low. (log_at n low).goes;
    no_more = λ n far. (at n).no_more far;
    log = ran.order.log;
    ways = ran.order.queues;
    runs = ran.order.runs;
    by_its_core = ran.order.by_its_core;
    did = λ n low. did_at n low (end n).run.rings refl;
  }

  -- ---- one order of their logs

  log_order : LogsInOneOrder theirs (joined_cores (length threads) queues begin) logs last
  log_order = l.order ran.table ran.ends theirs (length threads) begin end logs queues ran.paired ran.apart in_one_order

  first_is : (n : ℕ) (s : TheCoreThread) → slice_get threads n ≡ Some s → joined_core (queues n) (begin n) ≡ joined_one owners n s
  first_is n s s_is =
      let low = within threads n s s_is in
      let it = log_at n low in
      let same : it.thread ≡ s = same_some (slice_get threads n) it.thread s it.thread_is s_is in
      let run : by_itself (begin n) ≡ s.run = ap by_itself it.begin_is ∙ it.core.first_is ∙ ap (λ (t : TheCoreThread). t.run) same in
      let numbers = numbers_at n low in
      λ i. record { run = run i; sides = numbers i; queues = queues n }

  begun_is : begun w ≡ joined_cores (length threads) queues begin
  begun_is =
      each_joined owners 0 threads (λ n. joined_core (queues n) (begin n)) (λ i s s_is.
      let sum : 0 + i ≡ i = omega arith in
      ap (λ (k : ℕ). joined_core (queues k) (begin k)) sum ∙ first_is i s s_is ∙ ap (λ (k : ℕ). joined_one owners k s) (sym sum))

  is_run : IsRun theirs (begun w) log_order.turns last
  is_run =
      l.orders theirs (begun w) last log_order.turns
      (subst (λ (xs : List JoinedCore). HappenInTurn theirs xs log_order.turns last) (sym begun_is) log_order.happen)
      (λ n low.
      let many = joined_long owners 0 threads in
      subst (AreInTurn None) (sym (log_order.each n)) (log_at n (omega (arith, low, many))).in_turn)

  -- ---- it is a run of the machine

  abbrev moments : List Moment
  moments = moments_of is_run.steps

  last_at : (n : ℕ) → n < length threads → slice_get last n ≡ Some (joined_core (queues n) (end n))
  last_at n low =
      let sum : 0 + n ≡ n = omega arith in
      each_at (λ k. joined_core (queues k) (end k)) 0 (length threads) n low ∙ ap (λ (k : ℕ). Some (joined_core (queues k) (end k))) sum

  last_is : (n : ℕ) (o : TheFinishedCore) → slice_get outcomes n ≡ Some o → (low : n < length threads) → by_itself (end n) ≡ o.run
  last_is n o o_is low =
      let it = log_at n low in
      let same : it.outcome ≡ o = same_some (slice_get outcomes n) it.outcome o it.outcome_is o_is in
      ap (shown_by (λ (p : TheHistorySide). p.side)) it.end_is ∙ it.core.last_is ∙ ap (λ (u : TheFinishedCore). u.run) same

  are_left : AreLeft w last
  are_left n o o_is =
      let less = within outcomes n o o_is in
      let count = counted in
      let low : n < length threads = omega (arith, less, count) in
      (joined_core (queues n) (end n), last_at n low, last_is n o o_is low)

  are_whole : AreWhole last
  are_whole n y y_is =
      let less = within last n y y_is in
      let many = each_long 0 (length threads) (λ k. joined_core (queues k) (end k)) in
      let count = counted in
      let (o, o_is) = at_within outcomes n (omega (arith, less, many, count)) in
      let sound = w.ran.ran.ran.sound.left n o o_is in
      let there = are_left n o o_is in
      let same : there.0 ≡ y = same_some (slice_get last n) there.0 y there.1 y_is in
      subst (λ (t : TheRun TheSide). IsWhole t.core) (sym there.2 ∙ ap (λ (z : JoinedCore). z.run) same)
      (record { core = sound.core; board = sound.board; outboxes = sound.outboxes })

  entries_there : (n : ℕ) → entries_at n moments ≡ entries_in (logs n)
  entries_there n = is_run.entries n ∙ log_order.each n

  own_logs : OwnLogs w moments last is_run.interleaves
  own_logs n s o s_is o_is =
      let low = within threads n s s_is in
      let it = log_at n low in
      let same : it.thread ≡ s = same_some (slice_get threads n) it.thread s it.thread_is s_is in
      let run : by_itself (begin n) ≡ s.run = ap by_itself it.begin_is ∙ it.core.first_is ∙ ap (λ (t : TheCoreThread). t.run) same in
      record {
        log = entries_in (logs n);
        log_is = entries_are n theirs moments (begun w) last is_run.interleaves ∙ entries_there n;
        goes = subst (λ (t : TheRun TheSide). Goes shared_ways theirs t (entries_in (logs n)) o.run) run
            (subst (λ (t : TheRun TheSide). Goes shared_ways theirs (by_itself (begin n)) (entries_in (logs n)) t) (last_is n o o_is low)
            (goes_by_itself ran.table ran.ends theirs (begin n) (logs n) (end n) it.goes));
      }

  turn_log : (n : ℕ) (s : TheCoreThread) (o : TheFinishedCore) (b e : TheRun TheHistorySide) → slice_get threads n ≡ Some s → slice_get outcomes n ≡ Some o
      → slice_get w.ran.ran.ran.order.begins n ≡ Some b → slice_get w.ran.ran.ran.order.ends n ≡ Some e
      → IsTurnLog s.plan theirs o.part.turns b e (entries_at n moments)
  turn_log n s o b e s_is o_is b_is e_is =
      let it = log_at n (within threads n s s_is) in
      let thread : it.thread ≡ s = same_some (slice_get threads n) it.thread s it.thread_is s_is in
      let result : it.outcome ≡ o = same_some (slice_get outcomes n) it.outcome o it.outcome_is o_is in
      let first : it.core.begin.run ≡ b = same_some (slice_get w.ran.ran.ran.order.begins n) it.core.begin.run b it.core.begin_is b_is in
      let last_run : it.core.end.run ≡ e = same_some (slice_get w.ran.ran.ran.order.ends n) it.core.end.run e it.core.end_is e_is in
      let log : entries_in (logs n) ≡ entries_at n moments = sym (entries_there n) in
      subst (λ (t : TheCoreThread). IsTurnLog t.plan theirs o.part.turns b e (entries_at n moments)) thread
      (subst (λ (u : TheFinishedCore). IsTurnLog it.thread.plan theirs u.part.turns b e (entries_at n moments)) result
      (subst (λ (t : TheRun TheHistorySide). IsTurnLog it.thread.plan theirs it.outcome.part.turns t e (entries_at n moments)) first
      (subst (λ (t : TheRun TheHistorySide). IsTurnLog it.thread.plan theirs it.outcome.part.turns it.core.begin.run t (entries_at n moments)) last_run
      (subst (λ (l : List LogEntry). IsTurnLog it.thread.plan theirs it.outcome.part.turns it.core.begin.run it.core.end.run l) log it.turns))))

  pub machine_run : IsMachineRun w
  machine_run =
      let runs = l.join c jobs limit r w moments last is_run.interleaves are_whole in
      record {
        moments = moments;
        cores = last;
        order = is_run.interleaves;
        left = are_left;
        entries = turn_log;
        runs = runs;
        told = λ e.
            calls_stay runs.renaming e (asked_in theirs (begun w) moments last is_run.interleaves)
            ∙ told l.home c jobs limit r w moments last is_run.interleaves own_logs e l.are;
      }

-- ---- each reported run

module _ (l : MachineLaws) (c : TheConfig) (jobs : List Job) (limit : ℕ) (r : TheReport) (w : Reports c jobs limit r) where
  -- without cores nothing is done
  of_none : (let none : List TheCoreThread = [] in w.ran.ran.ran.core_threads ≡ none) → IsMachineRun w
  of_none none =
      let runs = l.join c jobs limit r w [] (begun w) refl whole in
      record {
        moments = [];
        cores = begun w;
        order = refl;
        left = λ n o o_is. absurd (not_there n o_is);
        entries = λ n s o b e s_is o_is b_is e_is. absurd (no_thread n s s_is);
        runs = runs;
        told = λ e.
            calls_stay runs.renaming e []
            ∙ told l.home c jobs limit r w [] (begun w) refl (λ n s o s_is o_is. absurd (no_thread n s s_is)) e l.are;
      }
    where
      no_thread : (n : ℕ) (s : TheCoreThread) → slice_get w.ran.ran.ran.core_threads n ≡ Some s → ⊥
      no_thread n s s_is = let clash : None ≡ Some s = sym (ap (λ (ts : List TheCoreThread). slice_get ts n) none) ∙ s_is in absurd (cc)

      not_there : (n : ℕ) {o : TheFinishedCore} → slice_get w.ran.ran.ran.outcomes n ≡ Some o → ⊥
      not_there n {o} o_is =
          let less = within w.ran.ran.ran.outcomes n o o_is in
          let count = zip_long (joined_in w).jobs limit w.ran.ran.ran.core_threads w.ran.ran.ran.outcomes w.ran.ran.ran.ran in
          let many : length w.ran.ran.ran.core_threads ≡ 0 = ap length none in
          absurd (omega (arith, less, count, many))

      whole : AreWhole (begun w)
      whole n x x_is =
          let less = within (begun w) n x x_is in
          let count = joined_long (owners_in w.ran.ran.ran.shares) 0 w.ran.ran.ran.core_threads in
          let many : length w.ran.ran.ran.core_threads ≡ 0 = ap length none in
          absurd (omega (arith, less, count, many))

  pub reported : CoresAtTable w → IsMachineRun w
  reported ran = by w.ran.ran.ran.core_threads refl
    where
      by : (ts : List TheCoreThread) → w.ran.ran.ran.core_threads ≡ ts → IsMachineRun w
      by [] none = of_none none
      by (s ∷ ts) begins =
          let s_is : slice_get w.ran.ran.ran.core_threads 0 ≡ Some s = ap (λ (l : List TheCoreThread). slice_get l 0) begins in
          let count = zip_long (joined_in w).jobs limit w.ran.ran.ran.core_threads w.ran.ran.ran.outcomes w.ran.ran.ran.ran in
          let many : length w.ran.ran.ran.core_threads ≡ length (s ∷ ts) = ap length begins in
          let (o, o_is) = at_within w.ran.ran.ran.outcomes 0 (omega (arith, count, many)) in
          machine_run l c jobs limit r w ran (ran.cores 0 s o s_is o_is).begin
