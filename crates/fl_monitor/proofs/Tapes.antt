-- The tapes of the monitors' calls.
use Rattle.std.proofs.Common.{◌≡◌, ◌<◌, ◌≤◌, ◌^◌, ◌%◌, List, [], ◌∷◌, ◌++◌, All, length, map, refl, sym, ◌∙◌, ap, arith}
use Rattle.std.proofs.lemmas.List.{append-nil, length-map}
use Rattle.fl_base.specs.declared.identity.CoreId.{CoreId}
use Rattle.fl_interface.specs.declared.interface.Scalar.TheVariants.{Uint8}
use Rattle.fl_interface.specs.Interface.{scalar}
use Rattle.fl_value_data.specs.Value.{data_from}
use Rattle.fl_value_data.specs.Tape.{elements_tape, tape_of}
use Rattle.fl_value_data.specs.declared.value.PlanNo.TheVariants.{One}
use Rattle.fl_layout.specs.Layouts.{tape_length}
use Rattle.fl_machine.specs.Receiving.{HoldsTapes}
use Rattle.fl_monitor.specs.declared.message.MonitorMessage.{MonitorMessage}
use Rattle.fl_monitor.specs.declared.message.MonitorMessage.TheVariants.{OpenCircuit, CircuitOpened, CircuitRefused}
use Rattle.fl_monitor.specs.Intermon.{intermon, call_for, tape_for, HasWidths}
use Rattle.fl_monitor.specs.Parts.{numbers}
use Rattle.fl_monitor.proofs.Values.{count_numbers, first_small, rest_small}
use Rattle.fl_monitor.proofs.Calls.{each_call}

numbers_tape : (cores : List CoreId) → All (λ (c : CoreId). c.0 < 2 ^ 8) cores → elements_tape (scalar Uint8) (data_from (numbers cores)) ≡ map (λ (core : CoreId). core.0) cores
numbers_tape [] small = refl
numbers_tape (core ∷ cores) small =
    let here : core.0 % 256 ≡ core.0 = omega (arith, first_small core cores small) in
    let rest = numbers_tape cores (rest_small core cores small) in
    λ i. here i ∷ rest i

pub tape_is : (m : MonitorMessage) → HasWidths m → tape_of One intermon (call_for m) ≡ tape_for m
tape_is (OpenCircuit circuit binding service path) w =
    let c : circuit.0 % 65536 ≡ circuit.0 = omega (arith, w.0) in
    let b : binding % 4294967296 ≡ binding = omega (arith, w.1) in
    let s : service.0 % 4294967296 ≡ service.0 = omega (arith, w.2) in
    let n = count_numbers path in
    let p : elements_tape (scalar Uint8) (data_from (numbers path)) ++ [] ≡ map (λ (core : CoreId). core.0) path
    = append-nil (elements_tape (scalar Uint8) (data_from (numbers path))) ∙ numbers_tape path w.3.small in
    λ i. c i ∷ b i ∷ s i ∷ n i ∷ p i
tape_is (CircuitOpened circuit) w =
    let c : circuit.0 % 65536 ≡ circuit.0 = omega (arith, w) in
    λ i. c i ∷ []
tape_is (CircuitRefused circuit reason) w =
    let c : circuit.0 % 65536 ≡ circuit.0 = omega (arith, w.0) in
    let r : reason % 4294967296 ≡ reason = omega (arith, w.1) in
    λ i. c i ∷ r i ∷ []

short : (m : MonitorMessage) → HasWidths m → length (tape_for m) ≤ 20
short (OpenCircuit circuit binding service path) w = omega (arith, length-map path (λ (core : CoreId). core.0), w.3.few)
short (CircuitOpened circuit) w = omega arith
short (CircuitRefused circuit reason) w = omega arith

pub holds_tapes : HoldsTapes One intermon 20
holds_tapes c fits =
    let m = each_call c fits in
    let long : tape_length One intermon c ≡ length (tape_for m.0) = ap (tape_length One intermon) (sym m.2) ∙ ap length (tape_is m.0 m.1) in
    omega (arith, long, short m.0 m.1)
