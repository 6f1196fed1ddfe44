-- The monitors' messages are the calls that fit their interface.
use Rattle.std.proofs.Common.{◌≡◌, ◌<◌, ◌^◌, ℕ, zero, suc, true, List, [], ◌∷◌, refl, sym, ap, arith}
use Rattle.std.specs.Prelude.{nat_lt}
use Rattle.std.proofs.lemmas.Bool.{ltb-true, lt-ltb}
use Rattle.fl_base.specs.declared.identity.CoreId.{CoreId}
use Rattle.fl_interface.specs.declared.interface.Scalar.TheVariants.{Uint8, Uint16, Uint32, Iref}
use Rattle.fl_interface.specs.Interface.{scalar, fixed, sized, TheArgType}
use Rattle.fl_value_data.specs.Value.{Datum, data_from, TheCall}
use Rattle.fl_value_data.specs.Fits.{is_argument, are_arguments, fits_of}
use Rattle.fl_monitor.specs.declared.message.MonitorMessage.{MonitorMessage}
use Rattle.fl_monitor.specs.declared.message.MonitorMessage.TheVariants.{OpenCircuit, CircuitOpened, CircuitRefused}
use Rattle.fl_monitor.specs.Routes.{FitsPath}
use Rattle.fl_monitor.specs.Intermon.{intermon, natural, route, call_for, HasWidths}
use Rattle.fl_monitor.specs.Parts.{numbers}
use Rattle.fl_monitor.specs.Saying.{FitsByWidths, EachCallIsAMessage, OneMessageACall}
use Rattle.fl_monitor.proofs.Values.{false_true, first_half, second_half, has_16_bits, has_32_bits, is_reference, route_fits, fits_route, route_of, same_route}

-- ---- a message's call fits where its numbers have their widths

pub widths_fit : (m : MonitorMessage) → HasWidths m → fits_of intermon (call_for m) ≡ true
widths_fit (OpenCircuit circuit binding service path) w =
    rw (lt-ltb circuit.0 65536 w.0, lt-ltb binding 4294967296 w.1, lt-ltb service.0 4294967296 w.2, route_fits path w.3) refl
widths_fit (CircuitOpened circuit) w = rw (lt-ltb circuit.0 65536 w) refl
widths_fit (CircuitRefused circuit reason) w = rw (lt-ltb circuit.0 65536 w.0, lt-ltb reason 4294967296 w.1) refl

-- the arguments of one type, then others
record Begins (t : TheArgType) (ts : List TheArgType) (ds : List Datum) : Type 0 where
  first : Datum
  rest : List Datum
  is : ds ≡ first ∷ rest
  has : is_argument t first ≡ true
  more : are_arguments ts rest ≡ true

begins : (t : TheArgType) (ts : List TheArgType) (ds : List Datum) → are_arguments (t ∷ ts) ds ≡ true → Begins t ts ds
begins t ts [] h = false_true h
begins t ts (d ∷ ds) h = record {
  first = d;
  rest = ds;
  is = refl;
  has = first_half (is_argument t d) (are_arguments ts ds) h;
  more = second_half (is_argument t d) (are_arguments ts ds) h;
}

ends : (ds : List Datum) → are_arguments [] ds ≡ true → ds ≡ []
ends [] h = refl
ends (d ∷ ds) h = false_true h

-- the arguments of a message that asks for a circuit
pub record IsOpening (args : List Datum) : Type 0 where
  pub circuit : ℕ
  pub binding : ℕ
  pub service : ℕ
  pub cores : List CoreId
  pub is : args ≡ natural circuit ∷ natural binding ∷ natural service ∷ route cores ∷ []
  pub widths : (circuit < 2 ^ 16) × (binding < 2 ^ 32) × (service < 2 ^ 32) × FitsPath cores

pub opening_of : (args : List Datum) → are_arguments (fixed (scalar Uint16) ∷ fixed (scalar Uint32) ∷ fixed (scalar Iref) ∷ sized 16 (scalar Uint8) ∷ []) args ≡ true → IsOpening args
opening_of args h =
    let a = begins (fixed (scalar Uint16)) (fixed (scalar Uint32) ∷ fixed (scalar Iref) ∷ sized 16 (scalar Uint8) ∷ []) args h in
    let b = begins (fixed (scalar Uint32)) (fixed (scalar Iref) ∷ sized 16 (scalar Uint8) ∷ []) a.rest a.more in
    let s = begins (fixed (scalar Iref)) (sized 16 (scalar Uint8) ∷ []) b.rest b.more in
    let p = begins (sized 16 (scalar Uint8)) [] s.rest s.more in
    let end = ends p.rest p.more in
    let circuit = has_16_bits a.first a.has in
    let binding = has_32_bits b.first b.has in
    let service = is_reference s.first s.has in
    let path = route_of p.first p.has in
    let a_is = a.is in
    let b_is = b.is in
    let s_is = s.is in
    let p_is = p.is in
    let circuit_is = circuit.is in
    let binding_is = binding.is in
    let service_is = service.is in
    let path_is = path.is in
    record {
      circuit = circuit.n;
      binding = binding.n;
      service = service.n;
      cores = path.cores;
      is = cc;
      widths = (circuit.small, binding.small, service.small, path.fits);
    }

-- the arguments of an answer
pub record IsOpened (args : List Datum) : Type 0 where
  pub circuit : ℕ
  pub is : args ≡ natural circuit ∷ []
  pub width : circuit < 2 ^ 16

pub opened_of : (args : List Datum) → are_arguments (fixed (scalar Uint16) ∷ []) args ≡ true → IsOpened args
opened_of args h =
    let a = begins (fixed (scalar Uint16)) [] args h in
    let end = ends a.rest a.more in
    let circuit = has_16_bits a.first a.has in
    let a_is = a.is in
    let circuit_is = circuit.is in
    record { circuit = circuit.n; is = cc; width = circuit.small }

pub record IsRefusing (args : List Datum) : Type 0 where
  pub circuit : ℕ
  pub reason : ℕ
  pub is : args ≡ natural circuit ∷ natural reason ∷ []
  pub widths : (circuit < 2 ^ 16) × (reason < 2 ^ 32)

pub refusing_of : (args : List Datum) → are_arguments (fixed (scalar Uint16) ∷ fixed (scalar Uint32) ∷ []) args ≡ true → IsRefusing args
refusing_of args h =
    let a = begins (fixed (scalar Uint16)) (fixed (scalar Uint32) ∷ []) args h in
    let b = begins (fixed (scalar Uint32)) [] a.rest a.more in
    let end = ends b.rest b.more in
    let circuit = has_16_bits a.first a.has in
    let reason = has_32_bits b.first b.has in
    let a_is = a.is in
    let b_is = b.is in
    let circuit_is = circuit.is in
    let reason_is = reason.is in
    record { circuit = circuit.n; reason = reason.n; is = cc; widths = (circuit.small, reason.small) }

pub fit_widths : (m : MonitorMessage) → fits_of intermon (call_for m) ≡ true → HasWidths m
fit_widths (OpenCircuit circuit binding service path) h =
    let r = second_half (nat_lt circuit.0 65536) _ h in
    let s = second_half (nat_lt binding 4294967296) _ r in
    let p = second_half (nat_lt service.0 4294967296) _ s in
    (ltb-true circuit.0 65536 (first_half (nat_lt circuit.0 65536) _ h), ltb-true binding 4294967296 (first_half (nat_lt binding 4294967296) _ r), ltb-true service.0 4294967296 (first_half (nat_lt service.0 4294967296) _ s), fits_route path (first_half (is_argument (sized 16 (scalar Uint8)) (route path)) true p))
fit_widths (CircuitOpened circuit) h = ltb-true circuit.0 65536 (first_half (nat_lt circuit.0 65536) _ h)
fit_widths (CircuitRefused circuit reason) h =
    let r = second_half (nat_lt circuit.0 65536) _ h in
    (ltb-true circuit.0 65536 (first_half (nat_lt circuit.0 65536) _ h), ltb-true reason 4294967296 (first_half (nat_lt reason 4294967296) _ r))

pub fits_by_widths : FitsByWidths
fits_by_widths m = (widths_fit m, fit_widths m)

-- ---- each call that fits is that of a message, and of no other

abbrev IsMessage : ℕ → List Datum → Type 0
IsMessage msg args = (m : MonitorMessage) × HasWidths m × (call_for m ≡ record { msg = msg; args = args })

message_of_call : (msg : ℕ) (args : List Datum) → fits_of intermon (record { msg = msg; args = args }) ≡ true → IsMessage msg args
message_of_call zero args h =
    let o = opening_of args h in
    (OpenCircuit (record { 0 = o.circuit }) o.binding (record { 0 = o.service }) o.cores, o.widths, λ i. record { msg = 0; args = sym o.is i })
message_of_call (suc zero) args h =
    let o = opened_of args h in
    (CircuitOpened (record { 0 = o.circuit }), o.width, λ i. record { msg = 1; args = sym o.is i })
message_of_call (suc (suc zero)) args h =
    let o = refusing_of args h in
    (CircuitRefused (record { 0 = o.circuit }) o.reason, o.widths, λ i. record { msg = 2; args = sym o.is i })
message_of_call (suc (suc (suc msg))) args h = false_true h

pub each_call : EachCallIsAMessage
each_call c h = message_of_call c.msg c.args h

arguments : (c d : TheCall) → c ≡ d → c.args ≡ d.args
arguments c d e = ap (λ (x : TheCall). x.args) e

pub one_message : OneMessageACall
one_message (OpenCircuit a b s p) (OpenCircuit c d t q) e =
    let args = arguments (call_for (OpenCircuit a b s p)) (call_for (OpenCircuit c d t q)) e in
    let circuit : a.0 ≡ c.0 = cc in
    let binding : b ≡ d = cc in
    let service : s.0 ≡ t.0 = cc in
    let data_are : data_from (numbers p) ≡ data_from (numbers q) = cc in
    let path = same_route p q data_are in
    λ i. OpenCircuit (record { 0 = circuit i }) (binding i) (record { 0 = service i }) (path i)
one_message (OpenCircuit a b s p) (CircuitOpened c) e = absurd (omega (arith, ap (λ (x : TheCall). x.msg) e))
one_message (OpenCircuit a b s p) (CircuitRefused c r) e = absurd (omega (arith, ap (λ (x : TheCall). x.msg) e))
one_message (CircuitOpened a) (OpenCircuit c d t q) e = absurd (omega (arith, ap (λ (x : TheCall). x.msg) e))
one_message (CircuitOpened a) (CircuitOpened c) e =
    let args = arguments (call_for (CircuitOpened a)) (call_for (CircuitOpened c)) e in
    let circuit : a.0 ≡ c.0 = cc in
    λ i. CircuitOpened (record { 0 = circuit i })
one_message (CircuitOpened a) (CircuitRefused c r) e = absurd (omega (arith, ap (λ (x : TheCall). x.msg) e))
one_message (CircuitRefused a b) (OpenCircuit c d t q) e = absurd (omega (arith, ap (λ (x : TheCall). x.msg) e))
one_message (CircuitRefused a b) (CircuitOpened c) e = absurd (omega (arith, ap (λ (x : TheCall). x.msg) e))
one_message (CircuitRefused a b) (CircuitRefused c r) e =
    let args = arguments (call_for (CircuitRefused a b)) (call_for (CircuitRefused c r)) e in
    let circuit : a.0 ≡ c.0 = cc in
    let reason : b ≡ r = cc in
    λ i. CircuitRefused (record { 0 = circuit i }) (reason i)
