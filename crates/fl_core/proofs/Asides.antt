-- What happens to an end by itself happens to it whatever it has taken.
use Rattle.std.proofs.Common.{◌≡◌, refl, ap, ◌∙◌, ℕ, List, Option, Some, None, Result, Ok, Err}
use Rattle.fl_base.specs.declared.fragment.Frag.{Frag}
use Rattle.fl_value_data.specs.Value.{TheCall}
use Rattle.fl_link.specs.Looks.{Look}
use Rattle.fl_endpoint.specs.declared.fault.EndFault.{EndFault}
use Rattle.fl_endpoint.specs.declared.fault.EndFault.TheVariants.{Spent, Busy, UnknownMessage, Misfit, NotBound, Failed, Wire, Memory}
use Rattle.fl_endpoint.specs.declared.answer.WriteAnswer.{WriteAnswer}
use Rattle.fl_endpoint.specs.declared.answer.WriteAnswer.TheVariants as write
use Rattle.fl_endpoint.specs.View.{TheEnd, with_parts, bound, bound_by}
use Rattle.fl_endpoint.specs.Events.{Calls, Writes, ShowsNext, SetsRule, Exchanges}

module _ (parts : List Frag) where
  both : {s t : TheEnd} → t ≡ s → with_parts t parts ≡ with_parts s parts
  both e = ap (λ (x : TheEnd). with_parts x parts) e

  bound_by_with : (o : Option ℕ) (circuit : ℕ) (s : TheEnd) → with_parts (bound_by o circuit s) parts ≡ bound_by o circuit (with_parts s parts)
  bound_by_with None circuit s = refl
  bound_by_with (Some before) circuit s = refl

  pub bound_with : (s t : TheEnd) (circuit : ℕ) → t ≡ bound s circuit → with_parts t parts ≡ bound (with_parts s parts) circuit
  bound_with s t circuit e = both e ∙ bound_by_with s.circuit circuit s

  pub calls_with : (s t : TheEnd) (c : TheCall) (r : Result (Unit {0}) EndFault) → Calls s c r t → Calls (with_parts s parts) c r (with_parts t parts)
  calls_with s t c (Ok done) h = (h.0, h.1, h.2, both h.3)
  calls_with s t c (Err UnknownMessage) h = (h.0, both h.1)
  calls_with s t c (Err Misfit) h = (h.0, h.1, both h.2)
  calls_with s t c (Err NotBound) h = (h.0, h.1, both h.2)
  calls_with s t c (Err Failed) h = (h.0, h.1, both h.2)
  calls_with s t c (Err Busy) h = (h.0, h.1, h.2, both h.3)
  calls_with s t c (Err Memory) h = (h.0, h.1, h.2, both h.3)
  calls_with s t c (Err Spent) h = absurd h
  calls_with s t c (Err (Wire fault)) h = absurd h

  pub writes_with : {P : Type 0} (puts : P → Look → P → Type 0) (s t : TheEnd) (p q : P) (r : Result WriteAnswer EndFault) → Writes puts s p r t q → Writes puts (with_parts s parts) p r (with_parts t parts) q
  writes_with puts s t p q (Ok (write.Written number count)) (ready, (f, rest, now, count_is, number_is, step, is)) = (ready, (f, rest, now, count_is, number_is, step, both is))
  writes_with puts s t p q (Ok write.Full) h = (h.0, h.1, h.2, both h.3)
  writes_with puts s t p q (Ok write.Nothing) h = (h.0, h.1, h.2, both h.3)
  writes_with puts s t p q (Err Spent) h = (h.0, h.1, h.2, both h.3)
  writes_with puts s t p q (Err NotBound) h = (h.0, h.1, both h.2)
  writes_with puts s t p q (Err Failed) h = (h.0, h.1, both h.2)
  writes_with puts s t p q (Err Busy) h = absurd h
  writes_with puts s t p q (Err UnknownMessage) h = absurd h
  writes_with puts s t p q (Err Misfit) h = absurd h
  writes_with puts s t p q (Err (Wire fault)) h = absurd h
  writes_with puts s t p q (Err Memory) h = absurd h

  pub shows_with : (epoch told : ℕ) (s : TheEnd) (r : Result (Option Frag) EndFault) → ShowsNext epoch told s r → ShowsNext epoch told (with_parts s parts) r
  shows_with epoch told s (Ok (Some frag)) h = h
  shows_with epoch told s (Ok None) h = h
  shows_with epoch told s (Err NotBound) h = h
  shows_with epoch told s (Err Failed) h = h
  shows_with epoch told s (Err Spent) h = absurd h
  shows_with epoch told s (Err Busy) h = absurd h
  shows_with epoch told s (Err UnknownMessage) h = absurd h
  shows_with epoch told s (Err Misfit) h = absurd h
  shows_with epoch told s (Err (Wire fault)) h = absurd h
  shows_with epoch told s (Err Memory) h = absurd h

  pub sets_with : (s t : TheEnd) (msg reply : ℕ) (r : Result (Unit {0}) EndFault) → SetsRule s msg reply r t → SetsRule (with_parts s parts) msg reply r (with_parts t parts)
  sets_with s t msg reply (Ok done) h = (h.0, h.1, h.2, both h.3)
  sets_with s t msg reply (Err UnknownMessage) h = (h.0, both h.1)
  sets_with s t msg reply (Err Misfit) h = (h.0, h.1, h.2, both h.3)
  sets_with s t msg reply (Err Spent) h = absurd h
  sets_with s t msg reply (Err Busy) h = absurd h
  sets_with s t msg reply (Err NotBound) h = absurd h
  sets_with s t msg reply (Err Failed) h = absurd h
  sets_with s t msg reply (Err (Wire fault)) h = absurd h
  sets_with s t msg reply (Err Memory) h = absurd h

  pub exchanges_with : (s o t p : TheEnd) → Exchanges s o t p → Exchanges (with_parts s parts) o (with_parts t parts) p
  exchanges_with s o t p h = (both h.0, h.1)
