-- A message is read from its tape.
use Rattle.std.proofs.Common.{◌≡◌, ◌≢◌, ◌<◌, ◌^◌, ◌+◌, ℕ, List, [], ◌∷◌, ◌++◌, All, length, map, take, get_or, refl, sym, ◌∙◌, ap, subst, arith}
use Rattle.std.specs.Prelude.{slice_set}
use Rattle.std.proofs.lemmas.List.{take_more, take_more_set, map-append, length-map, get_or-map}
use Rattle.fl_base.specs.declared.identity.CoreId.{CoreId}
use Rattle.fl_base.specs.Numbered.{core_id}
use Rattle.fl_monitor.specs.declared.message.MonitorMessage.{MonitorMessage}
use Rattle.fl_monitor.specs.declared.message.MonitorMessage.TheVariants.{OpenCircuit, CircuitOpened, CircuitRefused}
use Rattle.fl_monitor.specs.Paths.{filler}
use Rattle.fl_monitor.specs.Intermon.{call_for, tape_for, HasWidths}
use Rattle.fl_monitor.specs.Tapes.{message_on, IsOpeningTape, IsOpenedTape, IsRefusedTape, IsTapeOfMessage}

-- ---- a route

-- one more core
pub next_core : (cores : List CoreId) (xs : List ℕ) (k : ℕ) → k < length cores → k < length xs → take k cores ≡ map core_id (take k xs)
    → take (k + 1) (slice_set cores k (core_id (get_or xs k 0))) ≡ map core_id (take (k + 1) xs)
next_core cores xs k inside within same =
    let core = core_id (get_or xs k 0) in
    take_more_set cores k core inside ∙ (λ i. same i ++ core ∷ [])
    ∙ sym (ap (map core_id) (take_more xs k 0 within) ∙ map-append core_id (take k xs) (get_or xs k 0 ∷ []))

cores_back : (cores : List CoreId) → map core_id (map (λ (core : CoreId). core.0) cores) ≡ cores
cores_back [] = refl
cores_back (core ∷ cores) = ap (λ (cs : List CoreId). core ∷ cs) (cores_back cores)

small_cores : (cores : List CoreId) → All (λ (core : CoreId). core.0 < 2 ^ 8) cores → All (λ (n : ℕ). n < 2 ^ 8) (map (λ (core : CoreId). core.0) cores)
small_cores cores h k d within =
    let inside : k < length cores = omega (arith, within, length-map cores (λ (core : CoreId). core.0)) in
    let here : get_or (map (λ (core : CoreId). core.0) cores) k d ≡ (get_or cores k filler).0 = get_or-map (λ (core : CoreId). core.0) cores k filler d inside in
    let small : (get_or cores k filler).0 < 2 ^ 8 = h k filler inside in
    omega (arith, here, small)

-- ---- a message

back : (m : MonitorMessage) → message_on (call_for m).msg (tape_for m) ≡ m
back (OpenCircuit circuit binding service path) = ap (OpenCircuit circuit binding service) (cores_back path)
back (CircuitOpened circuit) = refl
back (CircuitRefused circuit reason) = refl

pub read_back : (number : ℕ) (tape : List ℕ) (t : IsTapeOfMessage number tape) → message_on number tape ≡ t.message
read_back number tape t = (λ k. message_on (t.number_is k) (t.tape_is k)) ∙ back t.message

-- ---- the tape of the message with each number

opening : (m : MonitorMessage) → HasWidths m → (call_for m).msg ≡ 0 → IsOpeningTape (tape_for m)
opening (OpenCircuit circuit binding service path) w is = record {
  long = omega arith;
  few = omega (arith, length-map path (λ (core : CoreId). core.0), w.3.few);
  circuit = w.0;
  binding = w.1;
  service = w.2;
  route = small_cores path w.3.small;
}
opening (CircuitOpened circuit) w is = absurd (omega (arith, is))
opening (CircuitRefused circuit reason) w is = absurd (omega (arith, is))

opened : (m : MonitorMessage) → HasWidths m → (call_for m).msg ≡ 1 → IsOpenedTape (tape_for m)
opened (OpenCircuit circuit binding service path) w is = absurd (omega (arith, is))
opened (CircuitOpened circuit) w is = record { long = omega arith; circuit = w }
opened (CircuitRefused circuit reason) w is = absurd (omega (arith, is))

refused : (m : MonitorMessage) → HasWidths m → (call_for m).msg ≢ 0 → (call_for m).msg ≢ 1 → IsRefusedTape (tape_for m)
refused (OpenCircuit circuit binding service path) w none one = absurd (none refl)
refused (CircuitOpened circuit) w none one = absurd (one refl)
refused (CircuitRefused circuit reason) w none one = record { long = omega arith; circuit = w.0; reason = w.1 }

pub opening_tape : (number : ℕ) (tape : List ℕ) → IsTapeOfMessage number tape → number ≡ 0 → IsOpeningTape tape
opening_tape number tape t is = subst IsOpeningTape (sym t.tape_is) (opening t.message t.widths (sym t.number_is ∙ is))

pub opened_tape : (number : ℕ) (tape : List ℕ) → IsTapeOfMessage number tape → number ≡ 1 → IsOpenedTape tape
opened_tape number tape t is = subst IsOpenedTape (sym t.tape_is) (opened t.message t.widths (sym t.number_is ∙ is))

pub refused_tape : (number : ℕ) (tape : List ℕ) → IsTapeOfMessage number tape → number ≢ 0 → number ≢ 1 → IsRefusedTape tape
refused_tape number tape t none one =
    subst IsRefusedTape (sym t.tape_is) (refused t.message t.widths (λ e. none (t.number_is ∙ e)) (λ e. one (t.number_is ∙ e)))
