-- A core's whole run is events of the log of its turns.
use Rattle.std.proofs.Common.{ℕ, zero, suc, ◌≡◌, ◌≤◌, refl, sym, ◌∙◌, ap, subst, inl, inr, List, [], ◌∷◌, Option, Some}
use Rattle.std.proofs.Common.{None, Ok, arith}
use Rattle.std.specs.List.{AllByRecursion}
use Rattle.atomic_table.specs.Seated.{TableId}
use Rattle.fl_base.specs.declared.fragment.Frag.{Frag}
use Rattle.fl_base.specs.declared.identity.Circuit.{Circuit}
use Rattle.fl_base.specs.declared.identity.LinkId.{LinkId}
use Rattle.fl_core.specs.declared.answer.LinkFront.TheVariants as front
use Rattle.fl_core.specs.declared.core_job.CoreJob.{CoreJob}
use Rattle.fl_core_run.specs.declared.plan.TurnPlan.{TurnPlan}
use Rattle.fl_core_run.specs.declared.run.RunEnd.{RunEnd}
use Rattle.fl_core_run.specs.declared.run.RunEnd.TheVariants.{Finished, Unfinished, Told}
use Rattle.fl_core_run.specs.LogEntries.{LogEntry, looked, passed, arrived, heard, said, told, opened, called, ruled}
use Rattle.fl_core_run.specs.LogEntries.{wrote, acked, turned}
use Rattle.fl_core_run.specs.Ran.{RunTask, GoesOn}
use Rattle.fl_core_run.specs.Run.{SideRelations, TheRun}
use Rattle.fl_core_run.specs.Turn.{Turned}
use Rattle.fl_core_run.proofs.Counted.{turns_of}
use Rattle.fl_core_run_laws.specs.Logs.{Goes, IsSeen, AreSeen}
use Rattle.fl_core_turned.specs.TurnEvents.{log_of, events_of}
use Rattle.fl_core_turned.proofs.Happening.{all_go, happened}
use Rattle.fl_cores_joined.specs.Steps.{IsWholeEvent, Follows}
use Rattle.fl_history_joined.specs.InTurn.{AreInTurn}
use Rattle.fl_history_joined.specs.Logged.{RunsAreOfTurns}
use Rattle.fl_history_joined.proofs.Telling.{turns_are_in_turn}
use Rattle.fl_history_orders.specs.Orders.{CoreMoment, moment_of, HoldsSides, LoggedEvent, LogGoes, LogsOn}
use Rattle.fl_history_orders.proofs.Next.{logs_on}
use Rattle.fl_history_entries.specs.Entries.{HasSeen}
use Rattle.fl_history_rings.specs.declared.board.Entry.{Entry}
use Rattle.fl_history_rings.specs.declared.board.SideEnd.{SideEnd}
use Rattle.fl_history_rings.specs.Cores.{TheCore}
use Rattle.fl_history_sides.specs.Core.{IsStepBy, AreSidesOf}
use Rattle.fl_history_sides.specs.States.{TheHistorySide}
use Rattle.fl_history_sides.specs.Ways.{history_ways}
use Rattle.fl_history_sides.proofs.Follow.{sides_tell_core}

-- ---- what comes in turn comes behind the look at it

whole_seen : (before : Option LogEntry) (log_entry : LogEntry) → IsWholeEvent log_entry → IsSeen before log_entry
whole_seen before (looked n l answer) whole = tt
whole_seen before (passed n m frag c outcome) whole = absurd whole
whole_seen before (arrived n l frag e answer) whole = absurd whole
whole_seen before (heard n l frag answer) whole = absurd whole
whole_seen before (said n l answer) whole = tt
whole_seen before (told n l answer) whole = tt
whole_seen before (opened name request answer) whole = tt
whole_seen before (called name c answer) whole = tt
whole_seen before (ruled name msg reply answer) whole = tt
whole_seen before (wrote name out answer) whole = tt
whole_seen before (acked name n answer) whole = tt
whole_seen before (turned d name from answer) whole = tt

look_seen : (before : Option LogEntry) (look log_entry : LogEntry) → Follows look log_entry → IsSeen before look
look_seen before (looked n l answer) log_entry h = tt
look_seen before look log_entry h = absurd h

follow_seen : (look log_entry : LogEntry) → Follows look log_entry → IsSeen (Some look) log_entry
follow_seen (looked n l (Ok (front.Message frag))) (heard m k f answer) (a, b, d, remembers) = λ i. Some (looked (sym a i) (sym b i) (Ok (front.Message (sym d i))))
follow_seen (looked n l (Ok (front.Onward frag to c))) (passed m k f e outcome) (a, b, d, g) =
    (l, λ i. Some (looked (sym a i) l (Ok (front.Onward (sym d i) (sym b i) (sym g i)))))
follow_seen (looked n l (Ok (front.Arrival frag e))) (arrived m k f g answer) (a, b, d, h) =
    λ i. Some (looked (sym a i) (sym b i) (Ok (front.Arrival (sym d i) (sym h i))))
follow_seen look log_entry h = absurd h

-- the event before is the look that waits, if one does
abbrev Waits : Option LogEntry → Option LogEntry → Type 0
Waits None before = Unit {0}
Waits (Some look) before = before ≡ Some look

first_follows : (look : LogEntry) (log : List LogEntry) → AreInTurn (Some look) log → (log_entry : LogEntry) × Follows look log_entry
first_follows look [] h = absurd h
first_follows look (log_entry ∷ log) h = (log_entry, h.0)

seen_of : (o before : Option LogEntry) (log : List LogEntry) → Waits o before → AreInTurn o log → AreSeen before log
seen_of None before [] waits h = tt
seen_of (Some look) before [] waits h = tt
seen_of None before (log_entry ∷ log) waits (inl whole) = (whole_seen before log_entry whole.0, seen_of None (Some log_entry) log tt whole.1)
seen_of None before (log_entry ∷ log) waits (inr more) =
    let next = first_follows log_entry log more in
    (look_seen before log_entry next.0 next.1, seen_of (Some log_entry) (Some log_entry) log refl more)
seen_of (Some look) before (log_entry ∷ log) waits h =
    (subst (λ (b : Option LogEntry). IsSeen b log_entry) (sym waits) (follow_seen look log_entry h.0), seen_of None (Some log_entry) log tt h.1)

-- ---- a whole run is turns

-- no fewer turns than these
record AtLeast {S : Type 0} (w : SideRelations S) (plan : TurnPlan) (jobs : List CoreJob) (least : ℕ) (s t : TheRun S) : Type 0 where
  turns : ℕ
  enough : least ≤ turns
  turned : Turned w plan jobs turns s t

module _ {S : Type 0} (w : SideRelations S) (plan : TurnPlan) (jobs : List CoreJob) where
  then_turns : (k more : ℕ) (s m t : TheRun S) → Turned w plan jobs k s m → Turned w plan jobs more m t → AtLeast w plan jobs k s t
  then_turns k zero s m t first same =
      record { turns = k; enough = omega arith; turned = subst (λ (x : TheRun S). Turned w plan jobs k s x) (sym same) first }
  then_turns k (suc more) s m t first (between, rest, one) =
      let before = then_turns k more s m between first rest in
      let enough = before.enough in
      record { turns = suc before.turns; enough = omega (arith, enough); turned = (between, before.turned, one) }

went_on : {S : Type 0} (w : SideRelations S) (task : RunTask) (end : RunEnd) (k : ℕ) (s m t : TheRun S) → Turned w task.plan task.jobs k s m
    → GoesOn w task end m t → AtLeast w task.plan task.jobs k s t
went_on w task Finished k s m t first (more, rest) = then_turns w task.plan task.jobs k more s m t first rest
went_on w task Unfinished k s m t first same = then_turns w task.plan task.jobs k zero s m t first same
went_on w task Told k s m t first same = then_turns w task.plan task.jobs k zero s m t first same

-- ---- cores of which all sides tell the same

pub none_did : (n : ℕ) (steps : List Entry) → AllByRecursion (IsStepBy n []) steps → (let none : List Entry = [] in steps ≡ none)
none_did n [] h = refl
none_did n (e ∷ steps) h = absurd (let at = h.0.1.1 in cc)

same_steps : (c d : TheCore) (ss : List TheHistorySide) → AreSidesOf c ss → AreSidesOf d ss → c.steps ≡ d.steps
same_steps c d [] h k = none_did c.number c.steps h.did ∙ sym (none_did d.number d.steps k.did)
same_steps c d (p ∷ ss) h k = ap (λ (x : TheCore). x.steps) (sides_tell_core d c (p ∷ ss) k h (omega arith))

-- ---- the law

-- nothing was seen at first
nothing_seen : (s : TheRun TheHistorySide) (n to : ℕ) (l : LinkId) (frag : Frag) (c : Circuit)
    → (let none : Option LogEntry = None in none ≡ Some (looked n l (Ok (front.Onward frag to c)))) → HasSeen s n
nothing_seen s n to l frag c is = absurd (cc)

-- between any two events all sides are the core's, and in the end
holds_then : (table : TableId) (ends : List SideEnd) (jobs : List CoreJob) (x : CoreMoment) (log : List LoggedEvent) (y : CoreMoment) → HoldsSides table ends x
    → LogGoes table ends jobs x log y → HoldsSides table ends y
holds_then table ends jobs x [] y holds goes = subst (HoldsSides table ends) (sym goes) holds
holds_then table ends jobs x (e ∷ log) y holds goes = holds_then table ends jobs goes.0 log y goes.1.holds goes.2

pub runs_are_of_turns : RunsAreOfTurns
runs_are_of_turns table ends task a b part c d holds apart lent ran sides =
    let counted = turns_of history_ways task a ran.middle part ran.counted in
    let all : AtLeast history_ways task.plan task.jobs part.turns a.run b.run = went_on history_ways task part.end part.turns a.run ran.middle.run b.run counted ran.goes_on in
    let events = events_of history_ways task.jobs task.plan all.turns a.run b.run all.turned in
    let log : List LogEntry = log_of events in
    let in_turn : AreInTurn None log = turns_are_in_turn history_ways task.plan task.jobs all.turns a.run b.run all.turned apart lent in
    let goes : Goes history_ways task.jobs a.run log b.run =
    all_go history_ways task.jobs events a.run b.run (happened history_ways task.jobs task.plan all.turns a.run b.run all.turned) in
    let on : LogsOn table ends task.jobs (moment_of a.run c) log b.run =
    logs_on table ends task.jobs log None (moment_of a.run c) b.run holds goes (seen_of None None log tt in_turn) (nothing_seen a.run) (d, sides) in
    let last = holds_then table ends task.jobs (moment_of a.run c) on.events (moment_of b.run on.core) holds on.goes in
    record {
      log = on.events;
      core = on.core;
      goes = on.goes;
      did = same_steps on.core d b.run.rings last.sides sides;
      same = sides_tell_core d on.core b.run.rings sides last.sides;
      turns = record { turns = all.turns; enough = all.enough; turned = all.turned; log_is = on.entries };
      in_turn = subst (AreInTurn None) (sym on.entries) in_turn;
    }
