-- What the compiled stubs write for a message.
use Rattle.std.proofs.Common.{◌≡◌, ℕ, true, List, [], ◌∷◌, refl, sym, ◌∙◌, ap, Some}
use Rattle.std.specs.Prelude.{slice_get}
use Rattle.std.specs.Option.{option_map}
use Rattle.fl_base.specs.declared.fragment.Frag.{Frag}
use Rattle.fl_interface.specs.Interface.{TheMessage, TheInterface}
use Rattle.fl_value_data.specs.Tape.{tape_of}
use Rattle.fl_value_data.specs.declared.value.PlanNo.{PlanNo}
use Rattle.fl_value_data.specs.declared.value.PlanNo.TheVariants.{One}
use Rattle.fl_stub.specs.Code.{TheCode}
use Rattle.fl_stub.specs.Frames.{block_of}
use Rattle.fl_stub.specs.Given.{bytes_given}
use Rattle.fl_stub.specs.declared.op.Column.TheVariants.{Send}
use Rattle.fl_compile.specs.Codes.{compiled_code}
use Rattle.fl_compile.specs.Laws.{HasMessage}
use Rattle.fl_machine.specs.Sending.{frags_holding}
use Rattle.fl_machine.specs.Laws.{SendsFragments}
use Rattle.fl_monitor.specs.declared.message.MonitorMessage.{MonitorMessage}
use Rattle.fl_monitor.specs.declared.message.MonitorMessage.TheVariants.{OpenCircuit, CircuitOpened, CircuitRefused}
use Rattle.fl_monitor.specs.Intermon.{intermon, call_for, tape_for, HasWidths}
use Rattle.fl_monitor.proofs.Calls.{widths_fit}
use Rattle.fl_monitor.proofs.Single.{frag_for, frags_are}
use Rattle.fl_monitor.proofs.Tapes.{tape_is}

-- the code of a message's declaration
record HasCode (m : MonitorMessage) (code : TheCode) : Type 0 where
  declared : TheMessage
  has : HasMessage intermon (call_for m).msg declared
  is : code ≡ compiled_code Send One declared

of_some : (c d : TheCode) → Some c ≡ Some d → c ≡ d
of_some c d e = cc

has_code : (m : MonitorMessage) (code : TheCode) → Some code ≡ option_map (compiled_code Send One) (slice_get intermon.messages (call_for m).msg) → HasCode m code
has_code (OpenCircuit circuit binding service path) code e = record { declared = _; has = record { within = refl; words = refl; message = refl }; is = of_some code _ e }
has_code (CircuitOpened circuit) code e = record { declared = _; has = record { within = refl; words = refl; message = refl }; is = of_some code _ e }
has_code (CircuitRefused circuit reason) code e = record { declared = _; has = record { within = refl; words = refl; message = refl }; is = of_some code _ e }

pub written : SendsFragments → (m : MonitorMessage) → HasWidths m → (i : TheInterface) (plan : PlanNo) (msg : ℕ) (code : TheCode) (tape : List ℕ)
    → i ≡ intermon → plan ≡ One → msg ≡ (call_for m).msg → Some code ≡ option_map (compiled_code Send plan) (slice_get i.messages msg) → tape ≡ tape_for m
    → frags_holding true msg 0 (bytes_given (block_of code.ops) tape) ≡ frag_for m ∷ []
written sends m w i plan msg code tape i_is plan_is msg_is found told =
    let at : Some code ≡ option_map (compiled_code Send One) (slice_get intermon.messages (call_for m).msg)
    = found ∙ (λ k. option_map (compiled_code Send (plan_is k)) (slice_get (TheInterface.messages (i_is k)) (msg_is k))) in
    let has = has_code m code at in
    let tape_told : tape ≡ tape_of One intermon (call_for m) = told ∙ sym (tape_is m w) in
    (λ k. frags_holding true (msg_is k) 0 (bytes_given (block_of code.ops) (tape_told k)))
    ∙ sends 0 One intermon has.declared (call_for m) code has.has (widths_fit m w) has.is
    ∙ frags_are m w

pub first_is : (left : List Frag) (f : Frag) → left ≡ f ∷ [] → slice_get left 0 ≡ Some f
first_is left f e = ap (λ (fs : List Frag). slice_get fs 0) e

-- the first fragment of the run that was started with a message's tape
pub peeked : SendsFragments → (m : MonitorMessage) → HasWidths m → (i : TheInterface) (plan : PlanNo) (msg : ℕ) (code : TheCode) (tape : List ℕ) (left : List Frag)
    → i ≡ intermon → plan ≡ One → msg ≡ (call_for m).msg → Some code ≡ option_map (compiled_code Send plan) (slice_get i.messages msg) → tape ≡ tape_for m
    → left ≡ frags_holding true msg 0 (bytes_given (block_of code.ops) tape) → slice_get left 0 ≡ Some (frag_for m)
peeked sends m w i plan msg code tape left i_is plan_is msg_is found told given =
    first_is left (frag_for m) (given ∙ written sends m w i plan msg code tape i_is plan_is msg_is found told)

pub same_frag : (f g : Frag) → Some f ≡ Some g → f ≡ g
same_frag f g e = cc
