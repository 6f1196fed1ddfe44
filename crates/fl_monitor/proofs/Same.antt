-- Epochs and counts told change no fault.
use Rattle.std.proofs.Common.{◌≡◌, ◌^◌, ◌+◌, ◌*◌, ◌/◌, ◌%◌, inl, inr, ℕ, zero, suc, ◌&&◌, not, if◌then◌else◌, List, [], ◌∷◌, length, refl, sym, ◌∙◌, ap, arith, Option, Some, None}
use Rattle.std.specs.Prelude.{◌==◌, nat_lt, slice_get, slice_index}
use Rattle.std.specs.Int.{byte_at}
use Rattle.fl_base.specs.declared.fragment.Frag.{Frag}
use Rattle.fl_base.specs.Control.{message_of, circuit_of, bare}
use Rattle.fl_value_data.specs.declared.value.PlanNo.TheVariants.{One}
use Rattle.fl_layout.specs.Leaves.{Leaf, leaves}
use Rattle.fl_wire.specs.Reading.{IsWrong}
use Rattle.fl_wire.specs.Standing.{words_in, byte_in}
use Rattle.fl_wire.specs.Shapes.{Agrees}
use Rattle.fl_wire.specs.Wrong.{start_fault, HasFault, WrongByte}
use Rattle.fl_wire.specs.declared.fault.WireFault.{WireFault}
use Rattle.fl_wire.specs.declared.fault.WireFault.TheVariants.{NotFirst, FirstInside, UnknownMessage, NotZero, OutOfType, TooLong, Memory}
use Rattle.fl_monitor.specs.Intermon.{intermon}
use Rattle.fl_monitor.specs.Saying.{RefusedTheSame}

-- ---- the control word

start_with : ℕ → ℕ → ℕ → ℕ → ℕ → Option WireFault
start_with mark bits circuit first msg =
    if not (not (mark == 1) && (bits == 0) && (circuit == 0)) then Some NotZero
    else (if not (first == 1) then Some NotFirst
    else (if nat_lt msg (length intermon.messages) then None else Some UnknownMessage))

start_is : (f : Frag) → start_fault intermon f ≡ start_with (f.control / 4 % 2) (f.control / 8 % 8192) (circuit_of f.control) (f.control / 2 % 2) (message_of f.control)
unfolding start_with
start_is f = refl

same_bits : (f g : Frag) → bare g ≡ bare f → g.control / 2 % 2 ^ 47 ≡ f.control / 2 % 2 ^ 47
same_bits f g same =
    let control : 2 * (g.control / 2 % 2 ^ 47) ≡ 2 * (f.control / 2 % 2 ^ 47) = ap (λ (h : Frag). h.control) same in
    omega (arith, control)

same_message : (f g : Frag) → bare g ≡ bare f → message_of g.control ≡ message_of f.control
same_message f g same = let bits = same_bits f g same in omega (arith, bits)

same_start : (f g : Frag) → bare g ≡ bare f → start_fault intermon g ≡ start_fault intermon f
same_start f g same =
    let bits = same_bits f g same in
    let mark : g.control / 4 % 2 ≡ f.control / 4 % 2 = omega (arith, bits) in
    let reserved : g.control / 8 % 8192 ≡ f.control / 8 % 8192 = omega (arith, bits) in
    let circuit : circuit_of g.control ≡ circuit_of f.control = omega (arith, bits) in
    let first : g.control / 2 % 2 ≡ f.control / 2 % 2 = omega (arith, bits) in
    let message = same_message f g same in
    start_is g ∙ (λ i. start_with (mark i) (reserved i) (circuit i) (first i) (message i)) ∙ sym (start_is f)

-- ---- the payload

same_words : (f g : Frag) → bare g ≡ bare f → (k : ℕ) → words_in (slice_get (g ∷ []) k) ≡ words_in (slice_get (f ∷ []) k)
same_words f g same zero = ap (λ (h : Frag). h.words) same
same_words f g same (suc k) = refl

same_byte : (f g : Frag) → bare g ≡ bare f → (p : ℕ) → byte_in (g ∷ []) p ≡ byte_in (f ∷ []) p
same_byte f g same p = ap (λ (ws : List ℕ). byte_at (p % 8) (slice_index ws (p / 8 % 7))) (same_words f g same (p / 56))

same_agrees : (f g : Frag) → bare g ≡ bare f → (full : List Leaf) (n : ℕ) → Agrees (f ∷ []) full n → Agrees (g ∷ []) full n
same_agrees f g same full n a = record { at = λ p h. same_byte f g same p ∙ a.at p h }

same_wrong_byte : (f g : Frag) (fault : WireFault) → bare g ≡ bare f → WrongByte One intermon (message_of f.control) (f ∷ []) fault → WrongByte One intermon (message_of g.control) (g ∷ []) fault
same_wrong_byte f g fault same w = record {
  p = w.p;
  inside = w.inside;
  call = w.call;
  of = w.of ∙ sym (same_message f g same);
  fits = w.fits;
  before = same_agrees f g same (leaves One intermon w.call) w.p w.before;
  none = λ c e h a. w.none c (e ∙ same_message f g same) h (same_agrees g f (sym same) (leaves One intermon c) (w.p + 1) a);
  is = w.is;
}

same_fault : (f g : Frag) (fault : WireFault) → bare g ≡ bare f → HasFault One intermon [] f fault → HasFault One intermon [] g fault
same_fault f g fault same (inl h) = inl (same_start f g same ∙ h)
same_fault f g fault same (inr h) = inr (same_start f g same ∙ h.0, same_wrong_byte f g fault same h.1)

same_wrong : (f g : Frag) → bare g ≡ bare f → IsWrong One intermon (f ∷ []) → IsWrong One intermon (g ∷ [])
same_wrong f g same wrong calls more fit e = wrong calls more fit (e ∙ ap (λ (h : Frag). h ∷ more) same)

pub refused_the_same : RefusedTheSame
refused_the_same f g NotFirst same r = (same_fault f g NotFirst same r.0, same_wrong f g same r.1)
refused_the_same f g FirstInside same r = (same_fault f g FirstInside same r.0, same_wrong f g same r.1)
refused_the_same f g UnknownMessage same r = (same_fault f g UnknownMessage same r.0, same_wrong f g same r.1)
refused_the_same f g NotZero same r = (same_fault f g NotZero same r.0, same_wrong f g same r.1)
refused_the_same f g OutOfType same r = (same_fault f g OutOfType same r.0, same_wrong f g same r.1)
refused_the_same f g TooLong same r = (same_fault f g TooLong same r.0, same_wrong f g same r.1)
refused_the_same f g Memory same r = absurd r
