-- Control words, with what links write set aside.
use Rattle.std.proofs.Common.{◌≡◌, ap, ℕ, ◌+◌, ◌-◌, ◌*◌, ◌<◌, ◌^◌, arith}
use Rattle.fl_base.specs.declared.fragment.Frag.{Frag}
use Rattle.fl_base.specs.Control.{body, circuit_of}
use Rattle.fl_world_refines.specs.FragmentLaws.{IsSetAside}

body_twice : (w : ℕ) → body (body w) ≡ body w
body_twice w = omega arith

circuit_stays : (w : ℕ) → circuit_of (body w) ≡ circuit_of w
circuit_stays w = omega arith

another_stays : (w n : ℕ) → n < 2 ^ 16 → body (w - 2 ^ 32 * circuit_of w + 2 ^ 32 * n) ≡ body w - 2 ^ 32 * circuit_of (body w) + 2 ^ 32 * n
another_stays w n h = omega (arith, h)

pub set_aside : (f : Frag) → IsSetAside f
set_aside f = record {
  twice = ap (λ (w : ℕ). record { words = f.words; control = w }) (body_twice f.control);
  circuit = circuit_stays f.control;
  another = λ n h. ap (λ (w : ℕ). record { words = f.words; control = w }) (another_stays f.control n h);
}
