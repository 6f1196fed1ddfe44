-- An end that is ready stays so, but where it is given a fragment that can't follow.
use Rattle.std.proofs.Common.{◌≡◌, refl, sym, subst, ℕ, true, false, Option, Some, None, IsSome, Result, Ok, Err}
use Rattle.fl_value_data.specs.Value.{TheCall}
use Rattle.fl_link.specs.Looks.{Look}
use Rattle.fl_endpoint.specs.declared.fault.EndFault.{EndFault}
use Rattle.fl_endpoint.specs.declared.fault.EndFault.TheVariants.{Spent, Busy, UnknownMessage, Misfit, NotBound, Failed, Wire, Memory}
use Rattle.fl_endpoint.specs.declared.answer.WriteAnswer.{WriteAnswer}
use Rattle.fl_endpoint.specs.declared.answer.WriteAnswer.TheVariants as write
use Rattle.fl_endpoint.specs.declared.answer.ReceiveAnswer.{ReceiveAnswer}
use Rattle.fl_endpoint.specs.declared.answer.ReceiveAnswer.TheVariants as receive
use Rattle.fl_endpoint.specs.View.{TheEnd, is_circuit, bound, bound_by}
use Rattle.fl_endpoint.specs.Events.{IsReady, Calls, Writes, SetsRule, Receives}

-- an end with a circuit, and one without
pub bound_from : (o : Option ℕ) → is_circuit o ≡ true → IsSome o
bound_from None h = absurd (cc)
bound_from (Some circuit) h = refl

pub unbound_from : (o : Option ℕ) → is_circuit o ≡ false → o ≡ None
unbound_from None h = refl
unbound_from (Some circuit) h = absurd (cc)

same_ready : {s t : TheEnd} → t ≡ s → IsReady s → IsReady t
same_ready e ready = subst IsReady (sym e) ready

pub bound_ready : (s : TheEnd) (circuit : ℕ) → IsReady s → IsReady (bound s circuit)
bound_ready s circuit ready = cases s.circuit refl where
  cases : (o : Option ℕ) → s.circuit ≡ o → IsReady (bound_by o circuit s)
  cases None e = let none : Option ℕ = None in let p : IsSome none = subst IsSome e ready.0 in absurd (cc)
  cases (Some before) e = ready

pub calls_ready : (s t : TheEnd) (c : TheCall) (r : Result (Unit {0}) EndFault) → Calls s c r t → IsReady s → IsReady t
calls_ready s t c (Ok done) h ready = subst IsReady (sym h.3) ready
calls_ready s t c (Err UnknownMessage) h ready = same_ready h.1 ready
calls_ready s t c (Err Misfit) h ready = same_ready h.2 ready
calls_ready s t c (Err NotBound) h ready = same_ready h.2 ready
calls_ready s t c (Err Failed) h ready = same_ready h.2 ready
calls_ready s t c (Err Busy) h ready = same_ready h.3 ready
calls_ready s t c (Err Memory) h ready = same_ready h.3 ready
calls_ready s t c (Err Spent) h ready = absurd h
calls_ready s t c (Err (Wire fault)) h ready = absurd h

pub writes_ready : {P : Type 0} (puts : P → Look → P → Type 0) (s t : TheEnd) (p q : P) (r : Result WriteAnswer EndFault) → Writes puts s p r t q → IsReady s → IsReady t
writes_ready puts s t p q (Ok (write.Written number count)) h ready = subst IsReady (sym h.1.6) ready
writes_ready puts s t p q (Ok write.Full) h ready = same_ready h.3 ready
writes_ready puts s t p q (Ok write.Nothing) h ready = same_ready h.3 ready
writes_ready puts s t p q (Err Spent) h ready = same_ready h.3 ready
writes_ready puts s t p q (Err NotBound) h ready = same_ready h.2 ready
writes_ready puts s t p q (Err Failed) h ready = same_ready h.2 ready
writes_ready puts s t p q (Err Busy) h ready = absurd h
writes_ready puts s t p q (Err UnknownMessage) h ready = absurd h
writes_ready puts s t p q (Err Misfit) h ready = absurd h
writes_ready puts s t p q (Err (Wire fault)) h ready = absurd h
writes_ready puts s t p q (Err Memory) h ready = absurd h

pub sets_ready : (s t : TheEnd) (msg reply : ℕ) (r : Result (Unit {0}) EndFault) → SetsRule s msg reply r t → IsReady s → IsReady t
sets_ready s t msg reply (Ok done) h ready = subst IsReady (sym h.3) ready
sets_ready s t msg reply (Err UnknownMessage) h ready = same_ready h.1 ready
sets_ready s t msg reply (Err Misfit) h ready = same_ready h.3 ready
sets_ready s t msg reply (Err Spent) h ready = absurd h
sets_ready s t msg reply (Err Busy) h ready = absurd h
sets_ready s t msg reply (Err NotBound) h ready = absurd h
sets_ready s t msg reply (Err Failed) h ready = absurd h
sets_ready s t msg reply (Err (Wire fault)) h ready = absurd h
sets_ready s t msg reply (Err Memory) h ready = absurd h

-- of receiving, all but a fragment that can't follow
pub receives_ready : {T : Type 0} (takes : T → Look → T → Type 0) (s t : TheEnd) (p q : T) (answer : ReceiveAnswer) → Receives takes s p (Ok answer) t q → IsReady s → IsReady t
receives_ready takes s t p q (receive.Handle call) h ready = subst IsReady (sym h.1.5.1) ready
receives_ready takes s t p q receive.Part h ready = subst IsReady (sym h.1.5.1) ready
receives_ready takes s t p q receive.Quiet h ready = same_ready h.2 ready
receives_ready takes s t p q receive.Empty h ready = same_ready h.2 ready
receives_ready takes s t p q receive.HeldBack h ready = same_ready h.3 ready

pub memory_ready : {T : Type 0} (takes : T → Look → T → Type 0) (s t : TheEnd) (p q : T) → Receives takes s p (Err Memory) t q → IsReady s → IsReady t
memory_ready takes s t p q h ready = same_ready h.1.3.1 ready
