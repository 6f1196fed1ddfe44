-- An acknowledgement of an end of one of the cores is the machine's.
use Rattle.std.proofs.Common.{◌≡◌, inl, refl, sym, ◌∙◌, ap, subst, ℕ, nat_lt, Bool, true, false, if◌then◌else◌, length, Option, Some, None}
use Rattle.std.specs.Prelude.{Result, Ok, Err}
use Rattle.fl_base.specs.declared.identity.EndId.{EndId}
use Rattle.fl_base.specs.Given.{given}
use Rattle.fl_ring.specs.Side.{SideTakes}
use Rattle.fl_ring.specs.SharedSides.{SharedTakes}
use Rattle.fl_core.specs.declared.turn_answer.AckAnswer.{AckAnswer}
use Rattle.fl_core.specs.declared.turn_answer.AckAnswer.TheVariants as ack
use Rattle.fl_core.specs.declared.board_fault.BoardFault.{BoardFault}
use Rattle.fl_core.specs.BoardEvents.{Holds, Acks}
use Rattle.fl_core.specs.declared.wiring.Inlet.{Inlet}
use Rattle.fl_core.specs.declared.wiring.Inlet.TheVariants as inlet
use Rattle.fl_core.specs.Numbers.{renumbered}
use Rattle.fl_core.specs.View.{place_of, inlet_of}
use Rattle.fl_core_run.specs.declared.lent.LentRingEnd.{LentRingEnd}
use Rattle.fl_core_run.specs.Run.{TheRun, side_in, lent_ring_end}
use Rattle.fl_core_run.specs.LogEntries.{acked}
use Rattle.fl_model.specs.Events.{ack as acks_event}
use Rattle.fl_world_refines.specs.View.{WhereEnd}
use Rattle.fl_world_refines.specs.Lending.{answer_at}
use Rattle.fl_world_refines.specs.Taking.{IsAcked, AcksWith, AcksAt, Acknowledges}
use Rattle.fl_world_refines.specs.Laws.{StepsAgree}
use Rattle.fl_cores_joined.specs.Rings.{Truly}
use Rattle.fl_cores_joined.specs.Joined.{in_world}
use Rattle.fl_cores_joined.specs.Steps.{acked_answer}
use Rattle.fl_cores_joined.specs.Laws.{IsTheMachines}
use Rattle.fl_cores_joined.proofs.Mapped.{acks}
use Rattle.fl_cores_joined.proofs.Renumbered.{inlet_is}
use Rattle.fl_cores_joined.proofs.Joining.{moved_to}
use Rattle.fl_cores_joined.proofs.Stepping.{begun, ended_whole, there_is, finish, located, lent_side, nothing_noted, IsGood, takes_map}
use Rattle.fl_cores_joined.proofs.Over.{ring_over}

-- ---- the side of a ring from which the end takes

by_inlet : {S : Type 0} (s : TheRun S) (e : ℕ) (from : Option Inlet) (it : LentRingEnd)
    → given from None (λ x. given (side_in x) None λ n. if nat_lt n (length s.rings) then (let p : LentRingEnd = record { end = e; side = n } in Some p) else None) ≡ Some it
    → from ≡ Some (inlet.Side it.side)
by_inlet s e None it h = absurd (cc)
by_inlet s e (Some (inlet.Queue n)) it h = absurd (cc)
by_inlet s e (Some inlet.Arrivals) it h = absurd (cc)
by_inlet s e (Some (inlet.Side n)) it h = by (nat_lt n (length s.rings)) h
  where
    by : (b : Bool) → (if b then (let p : LentRingEnd = record { end = e; side = n } in Some p) else None) ≡ Some it → Some (inlet.Side n) ≡ Some (inlet.Side it.side)
    by true q = ap (λ (o : Option LentRingEnd). given o None λ (p : LentRingEnd). Some (inlet.Side p.side)) q
    by false q = absurd (cc)

pub takes_ring : {S : Type 0} (s : TheRun S) (name : EndId) (e : ℕ) (it : LentRingEnd) (i : ℕ) → place_of s.core name ≡ Some e
    → lent_ring_end s name ≡ Some it → it.side ≡ i → inlet_of s.core e ≡ Some (inlet.Side i)
takes_ring s name e it i at is same =
    by_inlet s e (inlet_of s.core e) it
    (sym (ap (λ (o : Option ℕ). given o None λ (f : ℕ). given (inlet_of s.core f) None λ (x : Inlet). given (side_in x) None λ n. if nat_lt n (length s.rings) then (let p : LentRingEnd = record { end = f; side = n } in Some p) else None) at) ∙ is)
    ∙ ap (λ (j : ℕ). Some (inlet.Side j)) same

-- ---- the event

is_acked : (r : Result AckAnswer BoardFault) → IsAcked r (acked_answer r)
is_acked (Ok ack.Done) = refl
is_acked (Ok ack.Nothing) = refl
is_acked (Ok ack.Full) = refl
is_acked (Err fault) = refl

pub acks_are : StepsAgree → (n : ℕ) (name : EndId) (i : ℕ) (answer : Result AckAnswer BoardFault)
    → IsTheMachines (acked name i answer) n (acks_event name) (acked_answer answer)
acks_are law n name i answer jobs xs ys s show whole still h =
    let (m, (e, found, on), same, sound, acts, known) = h.happens in
    let (its, its_is, is) = h.in_place in
    let noted = nothing_noted h.after m same in
    let x = begun jobs n (acked name i answer) xs ys h in
    let it = ring_over show.world jobs n (acked name i answer) xs ys h show.joined whole m
    (ended_whole jobs n (acked name i answer) xs ys h m noted still) i
    (λ k p k2 q. Holds k.board e (λ y. Acks (Truly SharedTakes) y.kind y.end p answer q) × (k2 ≡ k))
    (AcksWith (answer_at e (acked_answer answer)))
    (λ which p q good event.
    let (seat, seat_is, tells) = event.0 in
    let k = acks (IsGood p.across) (lent_side which) (Truly SharedTakes) SideTakes (takes_map which p.across) seat.kind seat.end p q answer good tells in
    ((answer, (seat, seat_is, k.0), ap (renumbered x.sides x.queues) event.1, is_acked answer), k.1))
    on in
    let there = inlet_is x.sides x.queues h.beside.core e (inlet.Side i) (takes_ring h.beside name e its i found its_is is)
    ∙ ap (λ (j : ℕ). Some (inlet.Side j)) (moved_to x.sides i it.number it.number_is) in
    let core_is = there_is jobs n (acked name i answer) xs ys h show.world show.joined in
    let does : Acknowledges name show.world (acked_answer answer) it.world =
    subst (λ (location : WhereEnd). AcksAt location show.world (acked_answer answer) it.world)
    (sym (located show.world s name n e (in_world x) show.shows core_is found))
    (inlet.Side it.number, (record { core = in_world x; core_is = core_is; inlet_is = there }, inl it.over)) in
    finish jobs n (acked name i answer) xs ys h law (acks_event name) (acked_answer answer) s show.world it.world m show.shows noted it.they_make it.bindings
    does
