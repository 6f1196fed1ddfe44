-- A call that fits is one of a message; whether there is a call of numbers, and why there is none.
use Rattle.std.proofs.Common.{◌≡◌, ◌<◌, ℕ, zero, suc, true, List, [], ◌∷◌, length, refl, subst, arith}
use Rattle.std.specs.Prelude.{slice_get}
use Rattle.std.proofs.lemmas.Bool.{false≢true}
use Rattle.fl_interface.specs.Interface.{TheInterface, TheMessage}
use Rattle.fl_value_data.specs.declared.value.PlanNo.{PlanNo}
use Rattle.fl_value_data.specs.Value.{Datum, TheCall}
use Rattle.fl_value_data.specs.Fits.{fit_message}
use Rattle.fl_value_data.specs.Taken.{HasTape}
use Rattle.fl_compile.specs.Programs.{TheProgram}
use Rattle.fl_endpoint.specs.declared.fault.EndFault.TheVariants.{Spent, Busy, UnknownMessage, Misfit, NotBound, Failed, Wire, Memory}
use Rattle.fl_c_operations.specs.declared.answer.UseFault.{UseFault}
use Rattle.fl_c_operations.specs.declared.answer.UseFault.TheVariants.{NoSuchOperation, WrongRoom, ShortRoom, Unread, OnlyAcknowledges, Link, End}
use Rattle.fl_c_operations.specs.declared.answer.UseFault.TheVariants.{Unwritten, HandledShort, HandledMemory}
use Rattle.fl_c_operations.specs.Calls.{AreCall, RefusesNumbers, LacksCall}

pub known : (ms : List TheMessage) (n : ℕ) (ds : List Datum) → fit_message (slice_get ms n) ds ≡ true → n < length ms
known [] n ds h = absurd (false≢true h)
known (m ∷ ms) zero ds h = omega arith
known (m ∷ ms) (suc n) ds h = omega (arith, known ms n ds h)

-- numbers that are no call's lack one
pub refused : (x : TheProgram) (numbers : List ℕ) (fault : UseFault) → RefusesNumbers x numbers fault → LacksCall x numbers fault
refused x numbers WrongRoom h = h
refused x numbers (End UnknownMessage) h = h
refused x numbers (End Misfit) h = h
refused x numbers (End Spent) h = absurd h
refused x numbers (End Busy) h = absurd h
refused x numbers (End NotBound) h = absurd h
refused x numbers (End Failed) h = absurd h
refused x numbers (End (Wire fault)) h = absurd h
refused x numbers (End Memory) h = absurd h
refused x numbers NoSuchOperation h = absurd h
refused x numbers (ShortRoom wanted) h = absurd h
refused x numbers Unread h = absurd h
refused x numbers OnlyAcknowledges h = absurd h
refused x numbers (Unwritten fault) h = absurd h
refused x numbers (HandledShort wanted) h = absurd h
refused x numbers HandledMemory h = absurd h
refused x numbers (Link fault) h = absurd h

-- a call that has the tape, by the program's own interface and plan
pub tape_there : (x : TheProgram) (plan : PlanNo) (i : TheInterface) (msg : ℕ) (tape : List ℕ) → plan ≡ x.plan → i ≡ x.interface
    → (c : TheCall) × HasTape plan i msg tape c → (c : TheCall) × AreCall x (msg ∷ tape) c
tape_there x plan i msg tape p e (c, has) =
    (c, (msg, tape, refl, subst (λ (j : TheInterface). HasTape x.plan j msg tape c) e (subst (λ (q : PlanNo). HasTape q i msg tape c) p has)))

pub tape_missing : (x : TheProgram) (plan : PlanNo) (i : TheInterface) (msg : ℕ) (tape : List ℕ) → plan ≡ x.plan → i ≡ x.interface → msg < length x.interface.messages
    → ((c : TheCall) → HasTape plan i msg tape c → ⊥) → RefusesNumbers x (msg ∷ tape) (End Misfit)
tape_missing x plan i msg tape p e known none =
    (msg, tape, refl, known, subst (λ (j : TheInterface). (c : TheCall) → HasTape x.plan j msg tape c → ⊥) e (subst (λ (q : PlanNo). (c : TheCall) → HasTape q i msg tape c → ⊥) p none))
