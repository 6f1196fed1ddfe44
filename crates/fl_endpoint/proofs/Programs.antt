-- Each event leaves the program of its end.
use Rattle.std.proofs.Common.{◌≡◌, refl, ap, ℕ, Option, Some, None, Result, Ok, Err}
use Rattle.fl_value_data.specs.Value.{TheCall}
use Rattle.fl_link.specs.Looks.{Look}
use Rattle.fl_endpoint.specs.declared.fault.EndFault.{EndFault}
use Rattle.fl_endpoint.specs.declared.fault.EndFault.TheVariants.{Spent, Busy, UnknownMessage, Misfit, NotBound, Failed, Wire, Memory}
use Rattle.fl_endpoint.specs.declared.answer.WriteAnswer.{WriteAnswer}
use Rattle.fl_endpoint.specs.declared.answer.WriteAnswer.TheVariants.{Written, Full, Nothing}
use Rattle.fl_endpoint.specs.View.{TheEnd, bound, bound_by}
use Rattle.fl_endpoint.specs.Events.{Calls, Writes, SetsRule}

of_same : {s t : TheEnd} → t ≡ s → t.program ≡ s.program
of_same e = ap (λ (x : TheEnd). x.program) e

pub bound_program : (s : TheEnd) (circuit : ℕ) → (bound s circuit).program ≡ s.program
bound_program s circuit = by_circuit s.circuit
  where
    by_circuit : (o : Option ℕ) → (bound_by o circuit s).program ≡ s.program
    by_circuit None = refl
    by_circuit (Some before) = refl

pub calls_program : (s t : TheEnd) (c : TheCall) (r : Result (Unit {0}) EndFault) → Calls s c r t → t.program ≡ s.program
calls_program s t c (Ok done) h = of_same h.3
calls_program s t c (Err UnknownMessage) h = of_same h.1
calls_program s t c (Err Misfit) h = of_same h.2
calls_program s t c (Err NotBound) h = of_same h.2
calls_program s t c (Err Failed) h = of_same h.2
calls_program s t c (Err Busy) h = of_same h.3
calls_program s t c (Err Memory) h = of_same h.3
calls_program s t c (Err Spent) h = absurd h
calls_program s t c (Err (Wire fault)) h = absurd h

pub writes_program : {P : Type 0} (puts : P → Look → P → Type 0) (s t : TheEnd) (p q : P) (r : Result WriteAnswer EndFault) → Writes puts s p r t q → t.program ≡ s.program
writes_program puts s t p q (Ok (Written number count)) h = of_same h.1.6
writes_program puts s t p q (Ok Full) h = of_same h.3
writes_program puts s t p q (Ok Nothing) h = of_same h.3
writes_program puts s t p q (Err Spent) h = of_same h.3
writes_program puts s t p q (Err NotBound) h = of_same h.2
writes_program puts s t p q (Err Failed) h = of_same h.2
writes_program puts s t p q (Err Busy) h = absurd h
writes_program puts s t p q (Err UnknownMessage) h = absurd h
writes_program puts s t p q (Err Misfit) h = absurd h
writes_program puts s t p q (Err (Wire fault)) h = absurd h
writes_program puts s t p q (Err Memory) h = absurd h

pub sets_program : (s t : TheEnd) (msg reply : ℕ) (r : Result (Unit {0}) EndFault) → SetsRule s msg reply r t → t.program ≡ s.program
sets_program s t msg reply (Ok done) h = of_same h.3
sets_program s t msg reply (Err UnknownMessage) h = of_same h.1
sets_program s t msg reply (Err Misfit) h = of_same h.3
sets_program s t msg reply (Err Spent) h = absurd h
sets_program s t msg reply (Err Busy) h = absurd h
sets_program s t msg reply (Err NotBound) h = absurd h
sets_program s t msg reply (Err Failed) h = absurd h
sets_program s t msg reply (Err (Wire fault)) h = absurd h
sets_program s t msg reply (Err Memory) h = absurd h
