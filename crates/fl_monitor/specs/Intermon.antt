-- The monitors' interface, and what the monitors' messages are as its calls.
use Rattle.std.specs.Prelude.{◌<◌, ◌^◌, ℕ, pos, List, [], ◌∷◌, map, length, codes}
use Rattle.fl_base.specs.declared.identity.CoreId.{CoreId}
use Rattle.fl_interface.specs.declared.interface.Scalar.TheVariants.{Uint8, Uint16, Uint32, Iref}
use Rattle.fl_interface.specs.Interface.{scalar, fixed, sized, TheInterface}
use Rattle.fl_value_data.specs.Value.{Datum, number, elements, data_from, TheCall}
use Rattle.fl_monitor.specs.Routes.{FitsPath}
use Rattle.fl_monitor.specs.declared.message.MonitorMessage.{MonitorMessage}
use Rattle.fl_monitor.specs.declared.message.MonitorMessage.TheVariants.{OpenCircuit, CircuitOpened, CircuitRefused}

-- interface intermon "between monitors" {
--     message open_circuit(uint16 circuit, uint32 binding, iref service, uint8 path[n, 16]);
--     message circuit_opened(uint16 circuit);
--     message circuit_refused(uint16 circuit, uint32 reason);
-- };
abbrev pub intermon : TheInterface
intermon = record {
  name = codes "intermon";
  messages =
      record { name = codes "open_circuit"; args = fixed (scalar Uint16) ∷ fixed (scalar Uint32) ∷ fixed (scalar Iref) ∷ sized 16 (scalar Uint8) ∷ [] }
      ∷ record { name = codes "circuit_opened"; args = fixed (scalar Uint16) ∷ [] }
      ∷ record { name = codes "circuit_refused"; args = fixed (scalar Uint16) ∷ fixed (scalar Uint32) ∷ [] }
      ∷ [];
}

-- a number from 0 as a value
abbrev pub natural : ℕ → Datum
natural n = number (pos n)

-- a route as a value: an array of core numbers
abbrev pub route : List CoreId → Datum
route cores = elements (data_from (map (λ (core : CoreId). natural core.0) cores))

-- a message as a call of the interface
abbrev pub call_for : MonitorMessage → TheCall
call_for (OpenCircuit circuit binding service path) =
    record { msg = 0; args = natural circuit.0 ∷ natural binding ∷ natural service.0 ∷ route path ∷ [] }
call_for (CircuitOpened circuit) = record { msg = 1; args = natural circuit.0 ∷ [] }
call_for (CircuitRefused circuit reason) = record { msg = 2; args = natural circuit.0 ∷ natural reason ∷ [] }

-- a message's numbers have their widths: circuits 16 bits; bindings, interface references and reasons 32; cores 8
abbrev pub HasWidths : MonitorMessage → Type 0
HasWidths (OpenCircuit circuit binding service path) =
    (circuit.0 < 2 ^ 16) × (binding < 2 ^ 32) × (service.0 < 2 ^ 32) × FitsPath path
HasWidths (CircuitOpened circuit) = circuit.0 < 2 ^ 16
HasWidths (CircuitRefused circuit reason) = (circuit.0 < 2 ^ 16) × (reason < 2 ^ 32)

-- a message's tape: its numbers, a route after its length
abbrev pub tape_for : MonitorMessage → List ℕ
tape_for (OpenCircuit circuit binding service path) =
    circuit.0 ∷ binding ∷ service.0 ∷ length path ∷ map (λ (core : CoreId). core.0) path
tape_for (CircuitOpened circuit) = circuit.0 ∷ []
tape_for (CircuitRefused circuit reason) = circuit.0 ∷ reason ∷ []
