-- What a core's turns did, event by event of its log.
use Rattle.std.proofs.Common.{ℕ, zero, suc, ◌≡◌, ◌⊎◌, inl, inr, ⊎_elim, ◌+◌, List, [], ◌∷◌, length, map, slice_get}
use Rattle.std.proofs.Common.{Option, Some, None, Ok, ap, subst, ◌∙◌, sym, refl, arith}
use Rattle.fl_base.specs.declared.fragment.Frag.{Frag}
use Rattle.fl_base.specs.declared.identity.LinkId.{LinkId}
use Rattle.fl_base.specs.declared.identity.Circuit.{Circuit}
use Rattle.fl_base.specs.Control.{bare}
use Rattle.fl_link.specs.Looks.{Look, Looks, LinkStep, saw}
use Rattle.fl_ring.specs.SharedSeats.{front_seen}
use Rattle.fl_hop.specs.declared.forward.ForwardOutcome.TheVariants as outcome
use Rattle.atomic_table.specs.Seated.{TableId}
use Rattle.fl_core.specs.declared.answer.LinkFront.TheVariants.{Onward}
use Rattle.fl_core.specs.declared.core_job.CoreJob.{CoreJob}
use Rattle.fl_core.specs.declared.wiring.Inlet.TheVariants as inlet
use Rattle.fl_core.specs.View.{inlet_of}
use Rattle.fl_core_run.specs.declared.run.RunEnd.{RunEnd}
use Rattle.fl_core_run.specs.declared.run.RunEnd.TheVariants as end
use Rattle.fl_core_run.specs.Run.{TheRun}
use Rattle.fl_core_run.specs.LogEntries.{LogEntry, looked, passed, arrived, heard, said, told, opened, called, ruled, wrote, acked, turned, Does, Happens}
use Rattle.fl_core_run.specs.Ran.{RunTask, GoesOn}
use Rattle.fl_core_run.proofs.Counted.{turns_of}
use Rattle.fl_core_run_laws.specs.Logs.{InPlace, Goes, IsSeen, AreSeen, Logged, SidesGo}
use Rattle.fl_core_run_laws.proofs.Aside.{rings_aside}
use Rattle.fl_core_run_laws.proofs.Laning.{takes_from}
use Rattle.fl_core_run_laws.proofs.Lends.{as_many}
use Rattle.fl_core_run_laws.proofs.Logging.{logged_then, turns_logged}
use Rattle.fl_core_run_laws.proofs.Looking.{logs_look}
use Rattle.fl_history_rings.specs.declared.board.SideEnd.{SideEnd}
use Rattle.fl_history_rings.specs.Cores.{TheCore, IsSameCore, OwnsSlots}
use Rattle.fl_history_sides.specs.States.{TheHistorySide, numbers_of}
use Rattle.fl_history_sides.specs.Noted.{HistoryPuts, HistoryTakes}
use Rattle.fl_history_sides.specs.Core.{AreSidesOf, AreOfOneCore}
use Rattle.fl_history_sides.specs.Ways.{history_ways}
use Rattle.fl_history_sides.proofs.Laws.{told_by, sides_stay}
use Rattle.fl_history_entries.specs.Entries.{DidAnEvent, HasSeen, MayComeNext}
use Rattle.fl_history_entries.proofs.Eventful.{set_here}
use Rattle.fl_history_entries.proofs.Happening.{entries_are_events}
use Rattle.fl_history_facing.proofs.Moment.{puts_keep, takes_keep}
use Rattle.fl_history_orders.specs.Orders.{CoreMoment, moment_of, HoldsSides, IsNext, LogsOn}
use Rattle.fl_history_orders.specs.Laws.{RunsAreLogged}

-- ---- lists

some_is : {A : Type 0} (x y : A) → Some x ≡ Some y → x ≡ y
some_is x y same = cc

-- a list as long as another has something where that has
there_before : {A : Type 0} (xs ys : List A) (n : ℕ) (y : A) → length ys ≡ length xs → slice_get ys n ≡ Some y → (x : A) × (slice_get xs n ≡ Some x)
there_before [] [] n y long at = absurd (cc)
there_before [] (z ∷ ys) n y long at = absurd (omega (arith, long))
there_before (x ∷ xs) [] n y long at = absurd (omega (arith, long))
there_before (x ∷ xs) (z ∷ ys) zero y long at = (x, refl)
there_before (x ∷ xs) (z ∷ ys) (suc n) y long at = there_before xs ys n y (omega (arith, long)) at

map_kept : {A B : Type 0} (f : A → B) (xs ys : List A) → length ys ≡ length xs
    → ((n : ℕ) (x : A) → slice_get xs n ≡ Some x → (y : A) × (slice_get ys n ≡ Some y) × (f y ≡ f x)) → map f ys ≡ map f xs
map_kept f [] [] long each = refl
map_kept f [] (y ∷ ys) long each = absurd (omega (arith, long))
map_kept f (x ∷ xs) [] long each = absurd (omega (arith, long))
map_kept {A} {B} f (x ∷ xs) (y ∷ ys) long each =
    let first = each zero x refl in
    ap (λ (b : B). b ∷ map f ys) (ap f (some_is y first.0 first.1) ∙ first.2)
    ∙ ap (λ (l : List B). f x ∷ l) (map_kept f xs ys (omega (arith, long)) (λ n z at. each (suc n) z at))

both_none : {A : Type 0} (xs ys : List A) → length ys ≡ length xs → (let none : List A = [] in xs ≡ none) → ys ≡ xs
both_none [] [] long none = refl
both_none [] (y ∷ ys) long none = absurd (omega (arith, long))
both_none (x ∷ xs) ys long none = absurd (cc)

first_there : {A : Type 0} (xs : List A) → (let none : List A = [] in xs ≡ none) ⊎ ((x : A) × (slice_get xs 0 ≡ Some x))
first_there [] = inl refl
first_there (x ∷ xs) = inr (x, refl)

-- ---- a side keeps its number, its slots and its core

record Keeps (p q : TheHistorySide) : Type 0 where
  number : q.number ≡ p.number
  slots : q.side.size ≡ p.side.size
  same : IsSameCore p.core q.core

slots_stay : (p q : TheHistorySide) (looks : List Look) → Looks (LinkStep HistoryPuts HistoryTakes) p looks q → q.side.size ≡ p.side.size
slots_stay p q [] same = ap (λ (x : TheHistorySide). x.side.size) (sym same)
slots_stay p q (look ∷ looks) (m, step, rest) = slots_stay m q looks rest ∙ by step
  where
    by : LinkStep HistoryPuts HistoryTakes p look m → m.side.size ≡ p.side.size
    by (inl puts) = (puts_keep p.side look m.side puts.0).1
    by (inr takes) = (takes_keep p.side look m.side takes.0).1

same_core : (c : TheCore) → IsSameCore c c
same_core c = record { table_is = refl; sides_are = refl; number_is = refl }

-- what two cores show by a side tells that they are the same
core_kept : (c d : TheCore) (ss ts : List TheHistorySide) (n : ℕ) (p q : TheHistorySide) → AreSidesOf c ss → AreSidesOf d ts → slice_get ss n ≡ Some p
    → slice_get ts n ≡ Some q → IsSameCore p.core q.core → IsSameCore c d
core_kept c d ss ts n p q h k at at2 same =
    let one = told_by c ss h n p at in
    let two = told_by d ts k n q at2 in
    record {
      table_is = sym (ap (λ (z : TheCore). z.table) two) ∙ same.table_is ∙ ap (λ (z : TheCore). z.table) one;
      sides_are = sym (ap (λ (z : TheCore). z.sides) two) ∙ same.sides_are ∙ ap (λ (z : TheCore). z.sides) one;
      number_is = sym (ap (λ (z : TheCore). z.number) two) ∙ same.number_is ∙ ap (λ (z : TheCore). z.number) one;
    }

-- ---- what was seen last

peeked_is : (o : Option Frag) (frag : Frag) → front_seen o ≡ saw (bare frag) → (f : Frag) × (o ≡ Some f)
peeked_is None frag is = absurd (cc)
peeked_is (Some f) frag is = (f, refl)

looks_see : (s t : TheRun TheHistorySide) (n to : ℕ) (l : LinkId) (frag : Frag) (c : Circuit)
    → Happens history_ways (looked n l (Ok (Onward frag to c))) s t → HasSeen t n
looks_see s t n to l frag c h =
    let on = h.1 in
    let seen = peeked_is on.after.side.peeked frag on.event.0.seen.finds.1 in
    let there : slice_get t.rings n ≡ Some on.after =
    ap (λ (z : TheRun TheHistorySide). slice_get z.rings n) (h.2 ∙ on.rest) ∙ set_here s.rings n on.before on.after on.before_is in
    (on.after, seen.0, there, seen.1)

-- where the event before was a look that found a fragment which passes on, that was seen
abbrev pub SeenBy : Option LogEntry → TheRun TheHistorySide → Type 0
SeenBy before s = (n to : ℕ) (l : LinkId) (frag : Frag) (c : Circuit) → before ≡ Some (looked n l (Ok (Onward frag to c))) → HasSeen s n

none_seen : (s : TheRun TheHistorySide) → SeenBy None s
none_seen s = λ n to l frag c is. absurd (never (looked n l (Ok (Onward frag to c))) is)
  where
    never : (log_entry : LogEntry) → (let none : Option LogEntry = None in none ≡ Some log_entry) → ⊥
    never log_entry is = cc

seen_then : (log_entry : LogEntry) (s t : TheRun TheHistorySide) → Happens history_ways log_entry s t → SeenBy (Some log_entry) t
seen_then log_entry s t h = λ n to l frag c is.
    looks_see s t n to l frag c (subst (λ (z : LogEntry). Happens history_ways z s t) (some_is log_entry (looked n l (Ok (Onward frag to c))) is) h)

may_come : (jobs : List CoreJob) (before : Option LogEntry) (s m : TheRun TheHistorySide) (log_entry : LogEntry) → Does history_ways log_entry s m
    → InPlace jobs s log_entry → IsSeen before log_entry → SeenBy before s → MayComeNext log_entry s
may_come jobs before s m (passed n k frag c outcome.Moved) does place (l, is) seen = seen n k l frag c is
may_come jobs before s m (passed n k frag c outcome.Full) does place by seen = tt
may_come jobs before s m (passed n k frag c outcome.Spent) does place by seen = tt
may_come jobs before s m (turned d name (inlet.Side n) answer) (f, found, is_due, on) (due, is, at, from, waits) by seen = λ e there.
    let takes : inlet_of s.core f ≡ Some (inlet.Side n) = takes_from s d f due (inlet.Side n) is_due is from in
    let same : f ≡ e = some_is f e (sym found ∙ there) in
    subst (λ (k : ℕ). inlet_of s.core k ≡ Some (inlet.Side n)) same takes
may_come jobs before s m (turned d name (inlet.Queue n) answer) does place by seen = tt
may_come jobs before s m (turned d name inlet.Arrivals answer) does place by seen = tt
may_come jobs before s m (looked n l answer) does place by seen = tt
may_come jobs before s m (arrived n l frag e answer) does place by seen = tt
may_come jobs before s m (heard n l frag answer) does place by seen = tt
may_come jobs before s m (said n l answer) does place by seen = tt
may_come jobs before s m (told n l answer) does place by seen = tt
may_come jobs before s m (opened name request answer) does place by seen = tt
may_come jobs before s m (called name c answer) does place by seen = tt
may_come jobs before s m (ruled name msg reply answer) does place by seen = tt
may_come jobs before s m (wrote name out answer) does place by seen = tt
may_come jobs before s m (acked name n answer) does place by seen = tt

-- ---- one event

module _ (table : TableId) (ends : List SideEnd) (jobs : List CoreJob) where
  record Next (x : CoreMoment) (log_entry : LogEntry) (m : TheRun TheHistorySide) : Type 0 where
    core : TheCore
    did : DidAnEvent x.core core
    next : IsNext table ends jobs x (record { log_entry = log_entry; steps = did.steps }) (moment_of m core)

  module _ (x : CoreMoment) (holds : HoldsSides table ends x) (log_entry : LogEntry) (m : TheRun TheHistorySide)
      (happens : Happens history_ways log_entry x.run m) (place : InPlace jobs x.run log_entry) (may : MayComeNext log_entry x.run) where
    many : length m.rings ≡ length x.run.rings
    many =
        ap (λ (l : List TheHistorySide). length l) (rings_aside happens.0 m log_entry happens.2)
        ∙ (as_many history_ways log_entry x.run happens.0 happens.1).0

    abbrev HasKept : ℕ → TheHistorySide → Type 0
    HasKept n p = (q : TheHistorySide) × (slice_get m.rings n ≡ Some q) × Keeps p q

    kept : (n : ℕ) (p : TheHistorySide) → slice_get x.run.rings n ≡ Some p → HasKept n p
    kept n p at =
        let goes : SidesGo HistoryPuts HistoryTakes x.run.rings m.rings = logs_look history_ways jobs x.run m (log_entry ∷ []) (m, happens, place, refl) in
        let (q, there, looked_so) = goes n p at in
        let stays = sides_stay p q looked_so.0 looked_so.1 in
        (q, there, record { number = stays.0; slots = slots_stay p q looked_so.0 looked_so.1; same = stays.1 })

    numbers : numbers_of m.rings ≡ numbers_of x.run.rings
    numbers = map_kept (λ (p : TheHistorySide). p.number) x.run.rings m.rings many (λ n p at. let k = kept n p at in (k.0, k.1, k.2.number))

    owned : (d : TheCore) → IsSameCore x.core d → (i : ℕ) (q : TheHistorySide) → slice_get m.rings i ≡ Some q → OwnsSlots ends q.number d.number q.side.size
    owned d same i q at =
        let p = there_before x.run.rings m.rings i q many at in
        let k = kept i p.0 p.1 in
        let is : k.0 ≡ q = some_is k.0 q (sym k.1 ∙ at) in
        subst (λ (z : TheHistorySide). OwnsSlots ends z.number d.number z.side.size) is
        (subst (λ (j : ℕ). OwnsSlots ends k.0.number d.number j) (sym k.2.slots)
        (subst (λ (j : ℕ). OwnsSlots ends k.0.number j p.0.side.size) (sym same.number_is)
        (subst (λ (j : ℕ). OwnsSlots ends j x.core.number p.0.side.size) (sym k.2.number) (holds.owns i p.0 p.1))))

    by_core : (d : TheCore) → AreSidesOf d m.rings → IsSameCore x.core d → Next x log_entry m
    by_core d sides same =
        let did_so = entries_are_events x.run m log_entry x.core d holds.sides sides happens may in
        record {
          core = d;
          did = did_so;
          next = record {
            happens = happens;
            in_place = place;
            may = may;
            holds = record { sides = sides; table_is = same.table_is ∙ holds.table_is; owns = owned d same };
            number = same.number_is;
            numbers = numbers;
            did = did_so.did;
          };
        }

    -- with no side nothing is done, and the core is the same
    next_of : AreOfOneCore m.rings → Next x log_entry m
    next_of one =
        ⊎_elim
        (λ none.
        by_core x.core (subst (λ (l : List TheHistorySide). AreSidesOf x.core l) (sym (both_none x.run.rings m.rings many none)) holds.sides)
        (same_core x.core))
        (λ first.
        let k = kept 0 first.0 first.1 in
        by_core one.0 one.1 (core_kept x.core one.0 x.run.rings m.rings 0 first.0 k.0 holds.sides one.1 first.1 k.1 k.2.same))
        (first_there x.run.rings)

  -- ---- one after another

  one_core : (log : List LogEntry) (m t : TheRun TheHistorySide) → Goes history_ways jobs m log t → AreOfOneCore t.rings → AreOfOneCore m.rings
  one_core [] m t goes one = subst (λ (r : TheRun TheHistorySide). AreOfOneCore r.rings) goes one
  one_core (log_entry ∷ log) m t goes one = goes.1.5

  pub logs_on : (log : List LogEntry) (before : Option LogEntry) (x : CoreMoment) (t : TheRun TheHistorySide) → HoldsSides table ends x
      → Goes history_ways jobs x.run log t
      → AreSeen before log → SeenBy before x.run → AreOfOneCore t.rings → LogsOn table ends jobs x log t
  logs_on [] before x t holds goes seen now one =
      record { core = x.core; events = []; goes = ap (λ (r : TheRun TheHistorySide). moment_of r x.core) goes; entries = refl }
  logs_on (log_entry ∷ log) before x t holds goes seen now one =
      let m : TheRun TheHistorySide = goes.0 in
      let may : MayComeNext log_entry x.run = may_come jobs before x.run goes.1.0 log_entry goes.1.1 goes.2 seen.0 now in
      let step = next_of x holds log_entry m goes.1 goes.2 may (one_core log m t goes.3 one) in
      let rest = logs_on log (Some log_entry) (moment_of m step.core) t step.next.holds goes.3 seen.1 (seen_then log_entry x.run m goes.1) one in
      record {
        core = rest.core;
        events = record { log_entry = log_entry; steps = step.did.steps } ∷ rest.events;
        goes = (moment_of m step.core, step.next, rest.goes);
        entries = ap (λ (l : List LogEntry). log_entry ∷ l) rest.entries;
      }

-- ---- a whole run

none_more : (jobs : List CoreJob) (s u : TheRun TheHistorySide) → u ≡ s → Logged history_ways jobs (λ d. 0) s u
none_more jobs s u is = record { log = []; goes = is; few = λ d. omega arith; seen = tt }

more_turns : (t : RunTask) (e : RunEnd) (s u : TheRun TheHistorySide) → GoesOn history_ways t e s u → (most : ℕ) × Logged history_ways t.jobs (λ d. most) s u
more_turns t end.Finished s u h = (h.0, turns_logged history_ways t.plan t.jobs h.0 s u h.1)
more_turns t end.Unfinished s u h = (0, none_more t.jobs s u h)
more_turns t end.Told s u h = (0, none_more t.jobs s u h)

pub runs_are_logged : RunsAreLogged
runs_are_logged = λ table ends t a b part c holds ran one.
    let first : Logged history_ways t.jobs (λ d. part.turns) a.run ran.middle.run =
    turns_logged history_ways t.plan t.jobs part.turns a.run ran.middle.run (turns_of history_ways t a ran.middle part ran.counted) in
    let more = more_turns t part.end ran.middle.run b.run ran.goes_on in
    let all : Logged history_ways t.jobs (λ d. part.turns + more.0) a.run b.run =
    logged_then history_ways t.jobs (λ d. part.turns) (λ d. more.0) (λ d. part.turns + more.0) a.run ran.middle.run b.run (λ d. omega arith) first more.1 in
    (all.log, logs_on table ends t.jobs all.log None (moment_of a.run c) b.run holds all.goes all.seen (none_seen a.run) one)
