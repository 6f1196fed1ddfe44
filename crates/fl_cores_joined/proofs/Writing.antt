-- A write of an end of one of the cores is the machine's: into a queue, onto a ring, or onto the first link of its way.
use Rattle.std.proofs.Common.{◌≡◌, inl, refl, sym, ◌∙◌, ap, subst, ℕ, List, Option, Some}
use Rattle.std.specs.Prelude.{Result, Ok, Err}
use Rattle.fl_base.specs.declared.identity.EndId.{EndId}
use Rattle.fl_link.specs.Looks.{Look}
use Rattle.fl_link.specs.Queue.{QueuePuts}
use Rattle.fl_ring.specs.Side.{SidePuts}
use Rattle.fl_ring.specs.SharedSides.{SharedPuts}
use Rattle.fl_endpoint.specs.declared.fault.EndFault.{EndFault}
use Rattle.fl_endpoint.specs.declared.answer.WriteAnswer.{WriteAnswer}
use Rattle.fl_endpoint.specs.declared.answer.WriteAnswer.TheVariants.{Written, Full, Nothing}
use Rattle.fl_core.specs.declared.wiring.Outlet.{Outlet}
use Rattle.fl_core.specs.declared.wiring.Outlet.TheVariants as outlet
use Rattle.fl_core.specs.View.{TheCore, place_of, outlet_of}
use Rattle.fl_core.specs.Ends.{at_side, TriggersIf, WritesAt}
use Rattle.fl_core.specs.Numbers.{renumbered}
use Rattle.fl_core.specs.declared.core_job.CoreJob.{CoreJob}
use Rattle.fl_core_run.specs.Run.{TheRun}
use Rattle.fl_core_run.specs.LogEntries.{OnRing, OnQueue, wrote}
use Rattle.fl_core_run_laws.proofs.Laning.{puts_to}
use Rattle.fl_model.specs.Events.{write}
use Rattle.fl_model.specs.State.{State}
use Rattle.fl_world_refines.specs.View.{TheWorld, WhereEnd}
use Rattle.fl_world_refines.specs.ShowsState.{Shows}
use Rattle.fl_world_refines.specs.Lending.{answer_at}
use Rattle.fl_world_refines.specs.Sending.{IsWritten, WritesWith, WritesOver, WritesBy, WritesFragment}
use Rattle.fl_world_refines.specs.Laws.{StepsAgree}
use Rattle.fl_cores_joined.specs.Rings.{FacingSide, Truly}
use Rattle.fl_cores_joined.specs.Joined.{JoinedCore, in_world, IsJoined, AreWhole}
use Rattle.fl_cores_joined.specs.Steps.{HappensAt, write_answer}
use Rattle.fl_cores_joined.specs.Laws.{MachineDoes, IsTheMachines}
use Rattle.fl_cores_joined.proofs.Mapped.{writes_at}
use Rattle.fl_cores_joined.proofs.Renumbered.{outlet_is, woken_same}
use Rattle.fl_cores_joined.proofs.Joining.{moved_to}
use Rattle.fl_cores_joined.proofs.Stepping.{begun, ended_whole, there_is, finish, located, lent_side, noted, nothing_noted, IsGood, puts_map}
use Rattle.fl_cores_joined.proofs.Over.{ring_over, queue_over}

is_written : (r : Result WriteAnswer EndFault) → IsWritten r (write_answer r)
is_written (Ok (Written k n)) = refl
is_written (Ok Full) = refl
is_written (Ok Nothing) = refl
is_written (Err fault) = refl

-- under the world's numbers
renumbered_writes : {P : Type 0} (puts : P → Look → P → Type 0) (sides queues : List ℕ) (e : ℕ) (k k2 : TheCore) (p q : P) (r : Result WriteAnswer EndFault)
    → WritesAt puts e (at_side k p) r (at_side k2 q)
    → WritesAt puts e (at_side (renumbered sides queues k) p) r (at_side (renumbered sides queues k2) q)
renumbered_writes puts sides queues e k k2 p q r h = record {
  wrote = h.wrote;
  writes = h.writes;
  triggers = subst (λ (o : Option ℕ). TriggersIf o h.wrote k2.board) (sym (woken_same sides queues k e r)) h.triggers;
  rest = ap (renumbered sides queues) h.rest;
}

module _ (law : StepsAgree) (name : EndId) (out : Outlet) (answer : Result WriteAnswer EndFault) (n : ℕ) (jobs : List CoreJob) (xs ys : List JoinedCore)
    (h : HappensAt jobs n (wrote name out answer) xs ys) (s : State) (w : TheWorld) (joined : IsJoined w xs) (shows : Shows w s) (whole : AreWhole xs)
    (still : AreWhole ys) (m : TheRun FacingSide) (same : h.after ≡ noted jobs n (wrote name out answer) xs ys h m) (e : ℕ) (place_is : place_of h.beside.core name ≡ Some e) where
  abbrev x : JoinedCore
  x = begun jobs n (wrote name out answer) xs ys h

  -- it is done over where the end puts
  does_over : (w2 : TheWorld) (there : Outlet) → outlet_of (in_world x) e ≡ Some there → WritesOver there n e w (write_answer answer) w2
      → WritesFragment name w (write_answer answer) w2
  does_over w2 there puts over =
      let core_is = there_is jobs n (wrote name out answer) xs ys h w joined in
      subst (λ (location : WhereEnd). WritesBy location w (write_answer answer) w2) (sym (located w s name n e (in_world x) shows core_is place_is))
      (there, record { core = in_world x; core_is = core_is; outlet_is = puts }, over)

  over_side : (i : ℕ) → outlet_of h.beside.core e ≡ Some (outlet.Side i)
      → OnRing i h.beside (λ k p k2 q. WritesAt (Truly SharedPuts) e (at_side k p) answer (at_side k2 q)) m
      → MachineDoes (write name) (write_answer answer) s ys
  over_side i puts on =
      let it = ring_over w jobs n (wrote name out answer) xs ys h joined whole m (ended_whole jobs n (wrote name out answer) xs ys h m same still) i
      (λ k p k2 q. WritesAt (Truly SharedPuts) e (at_side k p) answer (at_side k2 q)) (WritesWith SidePuts (answer_at e (write_answer answer)))
      (λ which p q good event.
      let k = writes_at (IsGood p.across) (lent_side which) (Truly SharedPuts) SidePuts (puts_map which p.across) e h.beside.core m.core p q answer good event in
      ((answer, renumbered_writes SidePuts x.sides x.queues e h.beside.core m.core (lent_side which p) (lent_side which q) answer k.0, is_written answer), k.1))
      on in
      let there = outlet_is x.sides x.queues h.beside.core e (outlet.Side i) puts
      ∙ ap (λ (j : ℕ). Some (outlet.Side j)) (moved_to x.sides i it.number it.number_is) in
      finish jobs n (wrote name out answer) xs ys h law (write name) (write_answer answer) s w it.world m shows same it.they_make it.bindings
      (does_over it.world (outlet.Side it.number) there (inl it.over))

  over_queue : (i : ℕ) → outlet_of h.beside.core e ≡ Some (outlet.Queue i)
      → OnQueue i h.beside (λ k p k2 q. WritesAt QueuePuts e (at_side k p) answer (at_side k2 q)) m
      → MachineDoes (write name) (write_answer answer) s ys
  over_queue i puts on =
      let it = queue_over w jobs n (wrote name out answer) xs ys h joined whole m (ended_whole jobs n (wrote name out answer) xs ys h m same still) i
      (λ k p k2 q. WritesAt QueuePuts e (at_side k p) answer (at_side k2 q)) (WritesWith QueuePuts (answer_at e (write_answer answer)))
      (λ p q event. (answer, renumbered_writes QueuePuts x.sides x.queues e h.beside.core m.core p q answer event, is_written answer))
      on in
      let there = outlet_is x.sides x.queues h.beside.core e (outlet.Queue i) puts
      ∙ ap (λ (j : ℕ). Some (outlet.Queue j)) (moved_to x.queues i it.number it.number_is) in
      finish jobs n (wrote name out answer) xs ys h law (write name) (write_answer answer) s w it.world m shows same it.they_make it.bindings
      (does_over it.world (outlet.Queue it.number) there (inl it.over))

pub writes_are : StepsAgree → (n : ℕ) (name : EndId) (out : Outlet) (answer : Result WriteAnswer EndFault)
    → IsTheMachines (wrote name out answer) n (write name) (write_answer answer)
writes_are law n name (outlet.Side i) answer jobs xs ys s show whole still h =
    let (m, (e, found, on), same, sound, acts, known) = h.happens in
    let (post, post_is, is) = h.in_place in
    over_side law name (outlet.Side i) answer n jobs xs ys h s show.world show.joined show.shows whole still m (nothing_noted h.after m same) e found i
    (puts_to h.beside name e post (outlet.Side i) found post_is is) on
writes_are law n name (outlet.Queue i) answer jobs xs ys s show whole still h =
    let (m, (e, found, on), same, sound, acts, known) = h.happens in
    let (post, post_is, is) = h.in_place in
    over_queue law name (outlet.Queue i) answer n jobs xs ys h s show.world show.joined show.shows whole still m (nothing_noted h.after m same) e found i
    (puts_to h.beside name e post (outlet.Queue i) found post_is is) on
