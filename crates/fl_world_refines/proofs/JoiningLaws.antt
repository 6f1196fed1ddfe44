-- By queues, or by a ring: the refusals, and what is done.
use Rattle.std.proofs.Common.{◌≡◌, ◌≢◌, refl, sym, ◌∙◌, ap, subst, ℕ, ◌+◌, ◌*◌, ◌==◌, ◌||◌, ◌&&◌, ◌⊎◌, inl, inr, nat_le, nat_lt, not, Bool, true, false, if◌then◌else◌, [], ◌∷◌, ◌++◌, length, slice_get, Option, Some, None, arith}
use Rattle.std.proofs.lemmas.Bool.{eqb-true, eq-eqb}
use Rattle.fl_base.specs.Given.{given}
use Rattle.fl_hop.proofs.Lists.{within, at_within}
use Rattle.fl_compile.specs.declared.program.Program.{Program}
use Rattle.fl_core.specs.BoardView.{TheDispatcher}
use Rattle.fl_core.specs.View.{TheCore, client_of, server_of}
use Rattle.fl_ring.specs.Duo.{MayHaveSlots}
use Rattle.fl_model.specs.Events.{DispatcherId, Answer, done, refused}
use Rattle.fl_model.specs.Calls.{Planned}
use Rattle.fl_model.specs.Ends.{fresh_queue}
use Rattle.fl_model.specs.Rings.{fresh_ring}
use Rattle.fl_model.specs.Waits.{Dispatcher, has_places}
use Rattle.fl_model.specs.Monitors.{Core, Service}
use Rattle.fl_model.specs.State.{local, over_ring, State, answers}
use Rattle.fl_model.specs.Making.{is_ring_size}
use Rattle.fl_model.specs.Binding.{BindByNames, with_new_binding, binds_both, has_places_for, same_dispatcher, has_both_places, binds_by_queues, binds_by_ring}
use Rattle.fl_world_refines.specs.Ends.{planned_of}
use Rattle.fl_model_laws.proofs.Small.{is_not}
use Rattle.fl_world_refines.specs.View.{If, TheWorld}
use Rattle.fl_world_refines.specs.Lending.{Refuses, DoesNothing}
use Rattle.fl_world_refines.specs.Making.{new_duo}
use Rattle.fl_world_refines.specs.Binding.{BindingRequest, has_places as has_world_places, has_both_places as has_both_world_places, HasEndOf, new_queue, queue_pair, end_for, IsJoined, JoinsByQueues, BindsByQueues, JoinsSide, JoinsByRing, BindsByRing}
use Rattle.fl_world_refines.specs.ShowsState.{ShowsState, Shows}
use Rattle.fl_world_refines.specs.Laws.{Agrees}
use Rattle.fl_world_refines.proofs.MakingBase.{refuses, by_if, same_found}
use Rattle.fl_world_refines.proofs.MakingCores.{all_of, core_there}
use Rattle.fl_world_refines.proofs.MakingSizes.{is_size, may_be_size}
use Rattle.fl_world_refines.proofs.JoiningCores.{machine_dispatcher}
use Rattle.fl_world_refines.proofs.JoiningEnds.{has_no_end}
use Rattle.fl_world_refines.proofs.JoiningQueues.{request, wanted, queues_shown}
use Rattle.fl_world_refines.proofs.JoiningRings.{ring_shown}
use Rattle.fl_world_refines.proofs.JoiningQueues as queues
use Rattle.fl_world_refines.proofs.JoiningRings as rings

-- ---- places

none_some : {X : Type 0} (o : Option X) (x : X) → o ≡ None → o ≡ Some x → ⊥
none_some o x p q = absurd (let e : None ≡ Some x = sym p ∙ q in cc)

pub same_places : (w : TheWorld) (s : State) (d : DispatcherId) (n : ℕ) → ShowsState w s → has_world_places d n w ≡ has_places_for d n s
same_places w s d n h = by (slice_get w.cores d.core) (slice_get s.cores d.core) refl refl
  where
    in_core : (c : TheCore) (k : Core) → slice_get w.cores d.core ≡ Some c → slice_get s.cores d.core ≡ Some k → (o : Option TheDispatcher) (p : Option Dispatcher)
        → slice_get c.board.dispatchers d.place ≡ o → slice_get k.dispatchers d.place ≡ p
        → given o false (λ x. nat_le (length x.ends + n) 1024) ≡ given p false (has_places n)
    in_core c k q r None None t u = refl
    in_core c k q r (Some x) (Some y) t u =
        (let shows = h.cores.each d.core k c r q in
        let (z, zt, count) = machine_dispatcher k c d.place x shows t in
        let same : z ≡ y = same_found (slice_get k.dispatchers d.place) z y zt u in
        ap (λ m. nat_le (m + n) 1024) (sym count) ∙ ap (λ (v : Dispatcher). nat_le (length v.ends + n) 1024) same)
    in_core c k q r (Some x) None t u =
        (let there = machine_dispatcher k c d.place x (h.cores.each d.core k c r q) t in absurd (none_some (slice_get k.dispatchers d.place) there.0 u there.1))
    in_core c k q r None (Some y) t u =
        (let few = within k.dispatchers d.place y u in
        let count = (h.cores.each d.core k c r q).count in
        let there = at_within c.board.dispatchers d.place (omega (arith, few, count)) in
        absurd (none_some (slice_get c.board.dispatchers d.place) there.0 t there.1))

    by : (o : Option TheCore) (p : Option Core) → slice_get w.cores d.core ≡ o → slice_get s.cores d.core ≡ p
        → given o false (λ c. given (slice_get c.board.dispatchers d.place) false (λ x. nat_le (length x.ends + n) 1024))
        ≡ given (given p None (λ k. slice_get k.dispatchers d.place)) false (has_places n)
    by None None q r = refl
    by (Some c) (Some k) q r = in_core c k q r (slice_get c.board.dispatchers d.place) (slice_get k.dispatchers d.place) refl refl
    by (Some c) None q r = (let there = core_there s.cores w.cores d.core c (all_of w s h.cores) q in absurd (none_some (slice_get s.cores d.core) there.0 r there.1))
    by None (Some k) q r =
        (let few = within s.cores d.core k r in
        let count = h.cores.count in
        let there = at_within w.cores d.core (omega (arith, few, count)) in
        absurd (none_some (slice_get w.cores d.core) there.0 q there.1))

pub shown_as : (w2 now : TheWorld) (t made : State) → w2 ≡ now → t ≡ made → ShowsState now made → ShowsState w2 t
shown_as w2 now t made p q h = subst (λ v. ShowsState v t) (sym p) (subst (ShowsState now) (sym q) h)

if_same : (t x y z x2 y2 z2 : Bool) → x ≡ x2 → y ≡ y2 → z ≡ z2 → (if t then x else (y && z)) ≡ (if t then x2 else (y2 && z2))
if_same t x y z x2 y2 z2 p q r = cc

module _ (client : DispatcherId) (i : ℕ) (p : Program) (planned : Planned) (service : Service) (iref : ℕ) (w w2 : TheWorld) (s : State) (a : Answer)
    (h : Shows w s) (interface_is : slice_get s.interfaces i ≡ Some planned) (program_is : planned_of p ≡ planned) where
  abbrev want : BindingRequest
  want = request client i p service iref

  abbrev m : BindByNames
  m = wanted client i planned service iref

  same_both : has_both_world_places want w ≡ has_both_places m s
  same_both =
      if_same (same_dispatcher client service.dispatcher) _ _ _ _ _ _ (same_places w s client 2 h.showing) (same_places w s client 1 h.showing)
      (same_places w s service.dispatcher 1 h.showing)

  -- ---- by queues

  queued : (slots : ℕ) → client.core ≡ service.dispatcher.core → (a ≡ done) × JoinsByQueues want slots w w2
      → Agrees (answers (binds_both (length s.bindings) m (with_new_binding m local 2 (Some (fresh_queue slots)) s)) done) a w2
  queued slots same e =
      let j = e.1 in
      let joined : IsJoined want (length s.bindings) (queue_pair (length w.queues) (new_queue slots) (new_queue slots)) j.core j.after =
      subst (λ n. IsJoined want n (queue_pair (length w.queues) (new_queue slots) (new_queue slots)) j.core j.after) h.showing.bindings.count j.joined in
      let reached = queues.reached client i p planned service iref slots w s h.sound h.showing interface_is program_is same j.core j.after j.core_is j.whole j.still joined in
      let shown = queues.queues_shown client i p planned service iref slots w s h.sound h.showing interface_is program_is same j.core j.after j.core_is j.whole j.still joined in
      record {
        answer = sym e.0;
        showing = shown_as w2 _ (binds_both (length s.bindings) m (with_new_binding m local 2 (Some (fresh_queue slots)) s)) _ j.rest reached shown;
      }

  pub queues_agree : (slots : ℕ) → BindsByQueues want slots w a w2 → Agrees (binds_by_queues m slots s) a w2
  queues_agree slots e =
      by_if (not (client.core == service.dispatcher.core)) (not (client.core == service.dispatcher.core)) _ _ _ _ a w2 refl (refuses 73 w w2 s a h.showing)
      (λ same. by_if (nat_lt slots 1 || nat_lt 1024 slots) (nat_lt slots 1 || nat_lt 1024 slots) _ _ _ _ a w2 refl (refuses 32 w w2 s a h.showing)
      (λ q. by_if (not (has_both_world_places want w)) (not (has_both_places m s)) _ _ _ _ a w2 (ap not same_both) (refuses 54 w w2 s a h.showing)
      (λ r e2. elim e2 [
        | inl b ↦ queued slots (eqb-true client.core service.dispatcher.core (is_not (client.core == service.dispatcher.core) same)) b
        | inr b ↦ absurd (has_no_end w s client.core h.showing b.0)
      ]))) e

  -- ---- by a ring

  ringed : (size : ℕ) → client.core ≢ service.dispatcher.core → (a ≡ done) × JoinsByRing want size w w2
      → Agrees (answers (binds_both (length s.bindings) m (with_new_binding m (over_ring (length s.rings)) 2 None (record s { rings = s.rings ++ fresh_ring size ∷ [] }))) done) a w2
  ringed size apart e =
      let j = e.1 in
      let count = h.showing.bindings.count in
      let jc : JoinsSide want (end_for client (client_of (length s.bindings))) (2 * length w.rings) (new_duo size) j.first j.first_after =
      subst (λ n. JoinsSide want (end_for client (client_of n)) (2 * length w.rings) (new_duo size) j.first j.first_after) count j.client in
      let js : JoinsSide want (end_for service.dispatcher (server_of (length s.bindings))) (2 * length w.rings + 1) (new_duo size) j.second j.second_after =
      subst (λ n. JoinsSide want (end_for service.dispatcher (server_of n)) (2 * length w.rings + 1) (new_duo size) j.second j.second_after) count j.server in
      let reached = rings.reached client i p planned service iref size w s h.sound h.showing interface_is program_is apart j.first j.first_after j.second j.second_after
      j.first_is j.second_is j.first_whole j.first_still j.second_whole j.second_still jc js in
      let shown = rings.ring_shown client i p planned service iref size w s h.sound h.showing interface_is program_is apart j.first j.first_after j.second j.second_after
      j.first_is j.second_is j.first_whole j.first_still j.second_whole j.second_still jc js in
      record {
        answer = sym e.0;
        showing = shown_as w2 _ (binds_both (length s.bindings) m (with_new_binding m (over_ring (length s.rings)) 2 None (record s { rings = s.rings ++ fresh_ring size ∷ [] }))) _ j.rest reached shown;
      }

  placed : (size : ℕ) → client.core ≢ service.dispatcher.core
      → If (not (has_both_world_places want w)) (Refuses 54 w a w2) (((a ≡ done) × JoinsByRing want size w w2)
      ⊎ ((HasEndOf (length w.bindings) client.core w ⊎ HasEndOf (length w.bindings) service.dispatcher.core w) × DoesNothing w a w2))
      → Agrees (if not (has_both_places m s) then answers s (refused 54)
      else answers (binds_both (length s.bindings) m (with_new_binding m (over_ring (length s.rings)) 2 None (record s { rings = s.rings ++ fresh_ring size ∷ [] }))) done) a w2
  placed size apart e =
      by_if (not (has_both_world_places want w)) (not (has_both_places m s)) _ _ _ _ a w2 (ap not same_both) (refuses 54 w w2 s a h.showing)
      (λ r e2. elim e2 [
        | inl b ↦ ringed size apart b
        | inr b ↦ elim b.0 [
          | inl c ↦ absurd (has_no_end w s client.core h.showing c)
          | inr c ↦ absurd (has_no_end w s service.dispatcher.core h.showing c)
        ]
      ]) e

  not_true : (t : Bool) → t ≡ false → not t ≡ true
  not_true true q = absurd (cc)
  not_true false q = refl

  pub ring_agrees : (size : ℕ) → BindsByRing want size w a w2 → Agrees (binds_by_ring m size s) a w2
  ring_agrees size e =
      by_if (client.core == service.dispatcher.core) (client.core == service.dispatcher.core) _ _ _ _ a w2 refl (refuses 73 w w2 s a h.showing)
      (λ other e2. sized (is_ring_size size) refl
      (λ same. absurd (let t : true ≡ false = sym (eq-eqb client.core service.dispatcher.core same) ∙ other in cc)) e2) e
    where
      sized : (t : Bool) → is_ring_size size ≡ t → client.core ≢ service.dispatcher.core
          → ((MayHaveSlots size → ⊥) × Refuses 32 w a w2)
          ⊎ (MayHaveSlots size
          × If (not (has_both_world_places want w)) (Refuses 54 w a w2) (((a ≡ done) × JoinsByRing want size w w2)
          ⊎ ((HasEndOf (length w.bindings) client.core w ⊎ HasEndOf (length w.bindings) service.dispatcher.core w) × DoesNothing w a w2)))
          → Agrees (if not t then answers s (refused 32)
          else (if not (has_both_places m s) then answers s (refused 54)
          else answers (binds_both (length s.bindings) m (with_new_binding m (over_ring (length s.rings)) 2 None (record s { rings = s.rings ++ fresh_ring size ∷ [] }))) done)) a w2
      sized true q apart (inl b) = absurd (b.0 (may_be_size size q))
      sized true q apart (inr b) = placed size apart b.1
      sized false q apart (inl b) = refuses 32 w w2 s a h.showing b.1
      sized false q apart (inr b) = absurd (let t : true ≡ false = sym (is_size size b.0) ∙ q in cc)
