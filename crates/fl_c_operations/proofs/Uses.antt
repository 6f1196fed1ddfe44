-- A use of a handle, by the number of what is asked for.
use Rattle.std.proofs.Common.{◌≡◌, ◌≢◌, ℕ, List, Result, Err, refl, arith}
use Rattle.fl_c_operations.specs.declared.answer.Outcome.{Outcome}
use Rattle.fl_c_operations.specs.declared.answer.UseFault.{UseFault}
use Rattle.fl_c_operations.specs.declared.answer.UseFault.TheVariants.{NoSuchOperation}
use Rattle.fl_c_operations.specs.declared.answer.Answered.{Answered}
use Rattle.fl_c_operations.specs.declared.handle.Handle.{Handle}
use Rattle.fl_c_operations.specs.declared.handle.Handle.TheVariants.{Side, End, Program, Sender, Receiver, Ended}
use Rattle.fl_c_operations.specs.View.{TheHeld}
use Rattle.fl_c_operations.specs.Numbers.{operation_at, answer_of}
use Rattle.fl_c_operations.specs.Handles.{Frees, UsesKind, SendsAt, TakesCallAt, Uses}

pub uses_send : (s t : Handle) (numbers : List ℕ) (answer : Answered) (r : Result Outcome UseFault) → answer ≡ answer_of r → SendsAt s numbers r t → Uses s 16 numbers answer t numbers
uses_send s t numbers answer r is sends = (
  r,
  is,
  record {
    frees = λ e. absurd (omega (arith, e));
    sends = λ e. (sends, refl);
    takes_call = λ e. absurd (omega (arith, e));
    uses = λ free other more. absurd (other refl);
  },
)

pub uses_take_call : (s t : Handle) (room : List ℕ) (answer : Answered) (r : Result Outcome UseFault) (written : List ℕ) → answer ≡ answer_of r → TakesCallAt s room r t written
    → Uses s 17 room answer t written
uses_take_call s t room answer r written is takes = (
  r,
  is,
  record {
    frees = λ e. absurd (omega (arith, e));
    sends = λ e. absurd (omega (arith, e));
    takes_call = λ e. takes;
    uses = λ free other more. absurd (more refl);
  },
)

pub uses_other : (s t : Handle) (what : ℕ) (numbers : List ℕ) (answer : Answered) (r : Result Outcome UseFault) (written : List ℕ) → what ≢ 16 → what ≢ 17 → answer ≡ answer_of r
    → (what ≡ 5 → Frees numbers r t written) → (what ≢ 5 → UsesKind (operation_at what) s numbers r t written) → Uses s what numbers answer t written
uses_other s t what numbers answer r written no_send no_take is frees uses = (
  r,
  is,
  record { frees = frees; sends = λ e. absurd (no_send e); takes_call = λ e. absurd (no_take e); uses = λ free other more. uses free },
)

-- nothing but an end sends and takes calls
pub sends_nothing : (s : Handle) (numbers : List ℕ) → ((x : TheHeld) → s ≡ End x → ⊥) → SendsAt s numbers (Err NoSuchOperation) s
sends_nothing (Side x) numbers other = (refl, refl)
sends_nothing (End x) numbers other = absurd (other x refl)
sends_nothing (Program x) numbers other = (refl, refl)
sends_nothing (Sender x) numbers other = (refl, refl)
sends_nothing (Receiver x) numbers other = (refl, refl)
sends_nothing Ended numbers other = (refl, refl)

pub takes_nothing : (s : Handle) (room : List ℕ) → ((x : TheHeld) → s ≡ End x → ⊥) → TakesCallAt s room (Err NoSuchOperation) s room
takes_nothing (Side x) room other = (refl, refl, refl)
takes_nothing (End x) room other = absurd (other x refl)
takes_nothing (Program x) room other = (refl, refl, refl)
takes_nothing (Sender x) room other = (refl, refl, refl)
takes_nothing (Receiver x) room other = (refl, refl, refl)
takes_nothing Ended room other = (refl, refl, refl)
