-- Each message takes one fragment, and no fragment says two.
use Rattle.std.proofs.Common.{◌≡◌, ◌<◌, ◌≤◌, ◌^◌, ◌+◌, ◌*◌, ◌/◌, ◌%◌, ℕ, false, List, [], ◌∷◌, ◌++◌, length, map, refl, sym, ◌∙◌, ap, subst, arith}
use Rattle.std.specs.List.{range_with_len}
use Rattle.std.proofs.lemmas.Bool.{ne_eqb, eq-eqb}
use Rattle.fl_base.specs.declared.identity.CoreId.{CoreId}
use Rattle.fl_base.specs.declared.fragment.Frag.{Frag}
use Rattle.fl_base.specs.Control.{is_ack_only, bare}
use Rattle.fl_interface.specs.declared.interface.Scalar.TheVariants.{Uint8}
use Rattle.fl_interface.specs.Interface.{scalar}
use Rattle.fl_value_data.specs.Value.{data_from, TheCall}
use Rattle.fl_value_data.specs.Fits.{count_of}
use Rattle.fl_value_data.specs.declared.value.PlanNo.TheVariants.{One}
use Rattle.fl_layout.specs.Leaves.{Leaf, whole, elements_onto, leaves}
use Rattle.fl_layout.specs.Places.{size, count, count_for}
use Rattle.fl_wire.specs.Payload.{payload_of, frag_on, frags_of}
use Rattle.fl_wire.proofs.Readings.{two_begin}
use Rattle.fl_monitor.specs.declared.message.MonitorMessage.{MonitorMessage}
use Rattle.fl_monitor.specs.declared.message.MonitorMessage.TheVariants.{OpenCircuit, CircuitOpened, CircuitRefused}
use Rattle.fl_monitor.specs.Intermon.{intermon, call_for, HasWidths}
use Rattle.fl_monitor.specs.Parts.{numbers}
use Rattle.fl_monitor.specs.Saying.{Says, EachTakesOneFragment, NoneIsPart, SaysNoOther, SaysWhatIsWritten, SaysTheSame, SaysAlone}
use Rattle.fl_monitor.proofs.Calls.{widths_fit, each_call, one_message}

-- core numbers take a byte each
numbers_size : (cores : List CoreId) (before : List Leaf) → size (elements_onto (scalar Uint8) (data_from (numbers cores)) before) ≡ size before + length cores
numbers_size [] before = omega arith
numbers_size (core ∷ cores) before = numbers_size cores (whole 1 core.0 ∷ before) ∙ omega arith

one_for : (bytes : ℕ) → bytes ≤ 56 → count_for bytes ≡ 1
one_for bytes few = omega (arith, few)

pub one_each : (m : MonitorMessage) → HasWidths m → count One intermon (call_for m) ≡ 1
one_each (OpenCircuit circuit binding service path) w =
    let bytes : size (leaves One intermon (call_for (OpenCircuit circuit binding service path))) ≡ 24 + length path
    = numbers_size path (whole 8 (count_of (data_from (numbers path))) ∷ whole 4 service.0 ∷ whole 4 binding ∷ whole 2 circuit.0 ∷ []) in
    one_for (size (leaves One intermon (call_for (OpenCircuit circuit binding service path)))) (omega (arith, bytes, w.3.few))
one_each (CircuitOpened circuit) w = refl
one_each (CircuitRefused circuit reason) w = refl

pub one_fragment : EachTakesOneFragment
one_fragment c fits =
    let m = each_call c fits in
    subst (λ (d : TheCall). count One intermon d ≡ 1) m.2 (one_each m.0 m.1)

pub none_is_part : NoneIsPart
none_is_part f frags part = absurd (omega (arith, part.short, one_fragment part.call part.fits))

-- a message's one fragment
pub frag_for : MonitorMessage → Frag
frag_for m = frag_on 0 (call_for m).msg (payload_of One intermon (call_for m)) 0

pub frags_are : (m : MonitorMessage) → HasWidths m → frags_of One intermon (call_for m) ≡ frag_for m ∷ []
unfolding frag_for
frags_are m w = ap (λ (n : ℕ). map (frag_on 0 (call_for m).msg (payload_of One intermon (call_for m))) (range_with_len 0 n)) (one_each m w)

first_in : (x y : Frag) (xs ys : List Frag) → x ∷ xs ≡ y ∷ ys → x ≡ y
first_in x y xs ys e = cc

-- what a saying fragment is, epoch and count told aside
pub says_bare : (f : Frag) (m : MonitorMessage) → Says f m → bare f ≡ frag_for m
says_bare f m s = first_in (bare f) (frag_for m) [] [] (s.means ∙ frags_are m s.widths)

same_call : (m n : MonitorMessage) → HasWidths m → HasWidths n → frag_for m ≡ frag_for n → call_for m ≡ call_for n
same_call m n v w e =
    two_begin One intermon (call_for m) (call_for n) [] [] refl (widths_fit m v) (widths_fit n w)
    (ap (λ (fs : List Frag). fs ++ []) (frags_are m v ∙ ap (λ (f : Frag). f ∷ []) e ∙ sym (frags_are n w)))

pub says_no_other : SaysNoOther
says_no_other f m n s t = one_message m n (same_call m n s.widths t.widths (sym (says_bare f m s) ∙ says_bare f n t))

pub says_the_same : SaysTheSame
says_the_same f g m same s = record { widths = s.widths; means = ap (λ (h : Frag). h ∷ []) same ∙ s.means }

msg_small : (m : MonitorMessage) → (call_for m).msg < 3
msg_small (OpenCircuit circuit binding service path) = omega arith
msg_small (CircuitOpened circuit) = omega arith
msg_small (CircuitRefused circuit reason) = omega arith

pub bare_frag : (m : MonitorMessage) → bare (frag_for m) ≡ frag_for m
unfolding frag_for
bare_frag m =
    let small = msg_small m in
    let same : 2 * ((2 + 65536 * (call_for m).msg + 2 ^ 32 * 0) / 2 % 2 ^ 47) ≡ 2 + 65536 * (call_for m).msg + 2 ^ 32 * 0 = omega (arith, small) in
    λ i. record { words = (frag_for m).words; control = same i }

pub says_what_is_written : SaysWhatIsWritten
says_what_is_written f m w e =
    let is : f ≡ frag_for m = first_in f (frag_for m) [] [] (e ∙ frags_are m w) in
    record { widths = w; means = ap (λ (h : Frag). h ∷ []) (ap bare is ∙ bare_frag m) ∙ sym (frags_are m w) }

-- a control word with the bits of a message's
control_bits : (m : MonitorMessage) (f : Frag) → bare f ≡ frag_for m → f.control / 2 % 2 ^ 47 ≡ 1 + 32768 * (call_for m).msg
unfolding frag_for
control_bits m f is =
    let control : 2 * (f.control / 2 % 2 ^ 47) ≡ 2 + 65536 * (call_for m).msg + 2 ^ 32 * 0 = ap (λ (h : Frag). h.control) is in
    omega (arith, control)

no_ack : (f : Frag) → (f.control / 2 % 2 ^ 47 ≡ 2 → ⊥) → is_ack_only f ≡ false
no_ack f other = rw (ne_eqb (f.control / 2 % 2 ^ 47) 2 other) refl

pub says_alone : SaysAlone
says_alone f m s =
    let small = msg_small m in
    let bits = control_bits m f (says_bare f m s) in
    record {
      first = eq-eqb (f.control / 2 % 2) 1 (omega (arith, bits));
      number = omega (arith, small, bits);
      circuit = omega (arith, small, bits);
      no_ack = no_ack f (λ two. absurd (omega (arith, bits, two)));
    }
