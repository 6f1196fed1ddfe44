-- Numbers on a link.
use Rattle.std.proofs.Common.{◌≡◌, ◌≢◌, refl, sym, ◌∙◌, ℕ, ◌+◌, ◌-◌, ◌*◌, ◌/◌, ◌%◌, ◌^◌, ◌<◌, ◌≤◌, Bool, true, false, IsTrue, ◌==◌, ◌&&◌, nat_lt, if◌then◌else◌, arith}
use mathlib.Core.Bool.{beq}
use Rattle.std.proofs.lemmas.Bool.Decides.{nat_tests}
use Rattle.fl_base.specs.declared.fragment.Frag.{Frag}
use Rattle.fl_base.specs.Control.{circuit_of, is_ack_only, with_circuit}
use Rattle.fl_hop.specs.Numbers.{number, IsAmong}
use Rattle.fl_hop.proofs.Cells.{is_less, less_is}

among_odd : (n count : ℕ) → n ≢ 0 → n % 2 ≡ 1 → ((n - 1) / 2 < count → (k : ℕ) × (k < count) × (n ≡ 2 * k + 1)) × ((k : ℕ) → k < count → n ≡ 2 * k + 1 → (n - 1) / 2 < count)
among_odd n count some odd = ((λ l. ((n - 1) / 2, l, omega arith)), (λ k l e. omega arith))

among_even : (n count : ℕ) → n ≢ 0 → n % 2 ≡ 0 → ((n - 1) / 2 < count → (k : ℕ) × (k < count) × (n ≡ 2 * k + 2)) × ((k : ℕ) → k < count → n ≡ 2 * k + 2 → (n - 1) / 2 < count)
among_even n count some even = ((λ l. ((n - 1) / 2, l, omega arith)), (λ k l e. omega arith))

-- two tests that agree
pub same_test : (a b : Bool) → beq a b ≡ true → a ≡ b
same_test true true e = refl
same_test true false e = cc
same_test false true e = cc
same_test false false e = refl

among_step : (b : Bool) (n count : ℕ) → n ≢ 0 → (n % 2 == 1) ≡ b → (IsTrue (nat_lt ((n - 1) / 2) count) → (k : ℕ) × (k < count) × (n ≡ (if b then 2 * k + 1 else 2 * k + 2))) × ((k : ℕ) × (k < count) × (n ≡ (if b then 2 * k + 1 else 2 * k + 2)) → IsTrue (nat_lt ((n - 1) / 2) count))
among_step true n count some e =
    let odd : n % 2 ≡ 1 = grind (arith, nat_tests, e) in
    let (f, g) = among_odd n count some odd in
    ((λ h. f (is_less ((n - 1) / 2) count h)), (λ p. less_is ((n - 1) / 2) count (g p.0 p.1 p.2)))
among_step false n count some e =
    let even : n % 2 ≡ 0 = grind (arith, nat_tests, e) in
    let (f, g) = among_even n count some even in
    ((λ h. f (is_less ((n - 1) / 2) count h)), (λ p. less_is ((n - 1) / 2) count (g p.0 p.1 p.2)))

-- the numbers of a core, from 0 on, where the first is this one
pub among : (core other n count : ℕ) → n ≢ 0 → (n % 2 == 1) ≡ nat_lt core other → (IsTrue (nat_lt ((n - 1) / 2) count) → IsAmong core other count n) × (IsAmong core other count n → IsTrue (nat_lt ((n - 1) / 2) count))
among core other n count some e = among_step (nat_lt core other) n count some e

number_step : (b : Bool) (k n : ℕ) → n ≡ (if b then 2 * k + 1 else 2 * k + 2) → k ≤ 1022 → (n ≢ 0) × (n ≤ 2046)
number_step true k n e l = ((λ z. omega arith), omega arith)
number_step false k n e l = ((λ z. omega arith), omega arith)

-- a number that was given is one of a link's, and not 0
pub small : (core other count n : ℕ) → count ≤ 1023 → IsAmong core other count n → (n ≢ 0) × (n ≤ 2046)
small core other count n most among = number_step (nat_lt core other) among.0 n among.2 (omega (arith, among.1, most))

once_step : (b : Bool) (i k : ℕ) → (if b then 2 * i + 1 else 2 * i + 2) ≡ (if b then 2 * k + 1 else 2 * k + 2) → i ≡ k
once_step true i k e = omega arith
once_step false i k e = omega arith

-- a core's numbers are all different
pub number_once : (core other i k : ℕ) → number core other i ≡ number core other k → i ≡ k
number_once core other i k e = once_step (nat_lt core other) i k e

apart_step : (b d : Bool) (i k : ℕ) → b ≢ d → (if b then 2 * i + 1 else 2 * i + 2) ≡ (if d then 2 * k + 1 else 2 * k + 2) → ⊥
apart_step true true i k n e = n refl
apart_step true false i k n e = omega arith
apart_step false true i k n e = omega arith
apart_step false false i k n e = n refl

unlike : (a b : ℕ) → a ≢ b → nat_lt a b ≢ nat_lt b a
unlike a b n = λ e. grind (arith, nat_tests, n, e)

-- and different from the numbers of the core on the link's other side
pub number_apart : (core other i k : ℕ) → core ≢ other → number core other i ≡ number other core k → ⊥
number_apart core other i k n e = apart_step (nat_lt core other) (nat_lt other core) i k (unlike core other n) e

circuit_step : (w d : ℕ) → d < 65536 → circuit_of (w - 2 ^ 32 * circuit_of w + 2 ^ 32 * d) ≡ d
circuit_step w d l = omega arith

ack_step : (w : ℕ) → circuit_of w ≢ 0 → (w / 2 % 2 ^ 47 == 2) ≡ false
ack_step w n = grind (arith, nat_tests, n)

and_false : (a b : Bool) → a ≡ false → (a && b) ≡ false
and_false true b e = cc
and_false false b e = refl

-- a fragment of a circuit doesn't only acknowledge
pub not_ack : (frag : Frag) → circuit_of frag.control ≢ 0 → is_ack_only frag ≡ false
not_ack frag some = and_false _ _ (ack_step frag.control some)

pub of_call : (frag : Frag) (d : ℕ) → d ≢ 0 → d ≤ 2046 → is_ack_only (with_circuit d frag) ≡ false
of_call frag d some small =
    let e = circuit_step frag.control d (omega arith) in
    and_false _ _ (ack_step (frag.control - 2 ^ 32 * circuit_of frag.control + 2 ^ 32 * d) (λ z. some (sym e ∙ z)))
