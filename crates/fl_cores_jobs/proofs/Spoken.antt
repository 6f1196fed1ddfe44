-- Why an end that is set up refuses a rule.
use Rattle.std.proofs.Common.{◌≡◌, refl, sym, ap, ◌∙◌, ℕ, zero, suc, ◌<◌, nat_lt, List, [], ◌∷◌, length, slice_get, Option, Some, None, Bool, true, false, Ok, Err, arith}
use Rattle.std.specs.Prelude.{IsSome}
use Rattle.std.proofs.lemmas.Bool.{lt-ltb, ltb-true}
use Rattle.fl_base.specs.declared.identity.EndId.{EndId}
use Rattle.fl_core.specs.BoardEvents.{ChangesEnd}
use Rattle.fl_endpoint.specs.declared.fault.EndFault.{EndFault}
use Rattle.fl_endpoint.specs.declared.fault.EndFault.TheVariants as fault
use Rattle.fl_endpoint.specs.Events.{IsMessage, SameTypes, SetsRule}
use Rattle.fl_endpoint.specs.Faults.{fault_number}
use Rattle.fl_endpoint.specs.View.{TheEnd, interface_in}
use Rattle.fl_interface.specs.Types.{TheArgType}
use Rattle.fl_interface.specs.SameTypes.{same_arguments}
use Rattle.fl_interface.proofs.SameTypes.{same_arguments_are, tests_same}
use Rattle.fl_core.specs.Ends.{OnBoard}
use Rattle.fl_core.specs.View.{TheCore, place_of}
use Rattle.fl_model.specs.Taking.{arguments_of, has_message}
use Rattle.fl_cores_file.specs.declared.stop.CoresLineFault.{CoresLineFault}
use Rattle.fl_cores_file.specs.declared.stop.CoresLineFault.TheVariants as stop
use Rattle.fl_cores_jobs.specs.Faults.{spoken_by, misfit, core_fault, the_first, StopsFor, RuleStops}
use Rattle.fl_cores_jobs.proofs.Openings.{within}

some_at : {X : Type 0} (xs : List X) (n : ℕ) → nat_lt n (length xs) ≡ true → IsSome (slice_get xs n)
some_at [] n h = let below = ltb-true n 0 h in absurd (omega (arith, below))
some_at (x ∷ xs) zero h = refl
some_at (x ∷ xs) (suc n) h = let below = ltb-true (suc n) (suc (length xs)) h in some_at xs n (lt-ltb n (length xs) (omega (arith, below)))

it_is : {X : Type 0} (xs : List X) (n : ℕ) (o : Option X) → slice_get xs n ≡ o → IsSome o → n < length xs
it_is xs n (Some x) at h = within xs n x at
it_is xs n None at h = absurd (cc)

there : {X : Type 0} (xs : List X) (n : ℕ) → IsSome (slice_get xs n) → nat_lt n (length xs) ≡ true
there xs n h = lt-ltb n (length xs) (it_is xs n (slice_get xs n) refl h)

module _ (msg answer : ℕ) (s : TheEnd) where
  unknown : (a b : Bool) → has_message msg (spoken_by s) ≡ a → has_message answer (spoken_by s) ≡ b
      → (IsMessage (interface_in s) msg × IsMessage (interface_in s) answer → ⊥) → misfit msg answer (spoken_by s) ≡ Some 41
  unknown true true a b h = absurd (h (some_at (interface_in s).messages msg a, some_at (interface_in s).messages answer b))
  unknown true false a b h = rw (a, b) refl
  unknown false b2 a b h = rw a refl

  differs : (c : Bool) → same_arguments (arguments_of msg (spoken_by s)) (arguments_of answer (spoken_by s)) ≡ c → has_message msg (spoken_by s) ≡ true
      → has_message answer (spoken_by s) ≡ true → (SameTypes (interface_in s) msg answer → ⊥) → misfit msg answer (spoken_by s) ≡ Some 42
  differs true c a b h = absurd (h (same_arguments_are (arguments_of msg (spoken_by s)) (arguments_of answer (spoken_by s)) c))
  differs false c a b h = rw (a, b, c) refl

  fits_not : (f : EndFault) (t : TheEnd) → SetsRule s msg answer (Err f) t → misfit msg answer (spoken_by s) ≡ Some (fault_number f)
  fits_not fault.UnknownMessage t (h, same) = unknown (has_message msg (spoken_by s)) (has_message answer (spoken_by s)) refl refl h
  fits_not fault.Misfit t (m, a, h, same) =
      differs (same_arguments (arguments_of msg (spoken_by s)) (arguments_of answer (spoken_by s))) refl (there (interface_in s).messages msg m)
      (there (interface_in s).messages answer a) h
  fits_not fault.Spent t h = absurd h
  fits_not fault.Busy t h = absurd h
  fits_not fault.NotBound t h = absurd h
  fits_not fault.Failed t h = absurd h
  fits_not (fault.Wire w) t h = absurd h
  fits_not fault.Memory t h = absurd h

-- its core tells what the end tells
pub end_refuses : (k k2 : TheCore) (e : EndId) (place msg answer : ℕ) (f : EndFault) → place_of k e ≡ Some place
    → OnBoard k (λ b c. ChangesEnd b place (λ s t. SetsRule s msg answer (Err f) t) c) k2 → core_fault k e msg answer ≡ Some (fault_number f)
end_refuses k k2 e place msg answer f at h =
    let seat = h.event.seat in
    let found : core_fault k e msg answer ≡ misfit msg answer (spoken_by seat.end) = rw (at, h.event.seat_is) refl in
    found ∙ fits_not msg answer seat.end f h.event.end h.event.event

same_types : (as_ bs : List TheArgType) → as_ ≡ bs → same_arguments as_ bs ≡ true
same_types as_ bs same = sym (tests_same true as_ bs ((λ t. same), (λ t. refl)))

-- one that takes the rule has no fault
fits : (msg answer : ℕ) (s t : TheEnd) → SetsRule s msg answer (Ok tt) t → misfit msg answer (spoken_by s) ≡ None
fits msg answer s t (m, a, types, is) =
    let one : has_message msg (spoken_by s) ≡ true = there (interface_in s).messages msg m in
    let other : has_message answer (spoken_by s) ≡ true = there (interface_in s).messages answer a in
    let same : same_arguments (arguments_of msg (spoken_by s)) (arguments_of answer (spoken_by s)) ≡ true =
    same_types (arguments_of msg (spoken_by s)) (arguments_of answer (spoken_by s)) types in
    rw (one, other, same) refl

pub end_takes : (k k2 : TheCore) (e : EndId) (place msg answer : ℕ) → place_of k e ≡ Some place
    → OnBoard k (λ b c. ChangesEnd b place (λ s t. SetsRule s msg answer (Ok tt) t) c) k2 → core_fault k e msg answer ≡ None
end_takes k k2 e place msg answer at h =
    let seat = h.event.seat in
    let found : core_fault k e msg answer ≡ misfit msg answer (spoken_by seat.end) = rw (at, h.event.seat_is) refl in
    found ∙ fits msg answer seat.end h.event.end h.event.event

-- ---- whatever was found before

pub as_found : (found set_up : Option ℕ) (s : CoresLineFault) → StopsFor found s → RuleStops found set_up s
as_found found set_up (stop.Refused number) h = ap (λ (o : Option ℕ). the_first o set_up) h
as_found found set_up stop.Memory h = h

pub as_set_up : (found set_up : Option ℕ) (s : CoresLineFault) → found ≡ None → StopsFor set_up s → RuleStops found set_up s
as_set_up found set_up (stop.Refused number) none h = ap (λ (o : Option ℕ). the_first o set_up) none ∙ h
as_set_up found set_up stop.Memory none h = none

pub neither_found : (found set_up : Option ℕ) → found ≡ None → set_up ≡ None → the_first found set_up ≡ None
neither_found found set_up none none_later = ap (λ (o : Option ℕ). the_first o set_up) none ∙ none_later
