-- A type, where so many may stand in one another.
use Rattle.std.proofs.Common.{◌≡◌, ℕ, zero, suc, ◌-◌, ◌<◌, List, Ok, Err, ap, ◌∙◌, arith}
use Rattle.fl_interface.specs.Interface.{TheType}
use Rattle.fl_image.specs.declared.fault.BadImage.TheVariants.{BadField}
use Rattle.fl_image.specs.declared.fault.ImageFault.{ImageFault}
use Rattle.fl_image.specs.declared.fault.ImageFault.TheVariants as faults
use Rattle.fl_image.specs.Reading.{◌>>=◌, Read, Fails, one_at, coded_at, type_at}

fails_then : {A B : Type 0} (e : ImageFault) (r : Read A) (f : A × List ℕ → Read B) → Fails e r → Fails e (r >>= f)
fails_then faults.Memory r f h = tt
fails_then {A = A} (faults.Refused e) r f h = ap (λ (x : Read A). x >>= f) h

pub no_code : (e : ImageFault) (left : ℕ) (bytes : List ℕ) → Fails e (one_at bytes) → Fails e (type_at left bytes)
unfolding type_at
no_code e zero bytes h = fails_then e (one_at bytes) (λ code. Err BadField) h
no_code e (suc left) bytes h = fails_then e (one_at bytes) (λ code. coded_at (type_at left) code.0 code.1) h

pub too_deep : (left code : ℕ) (bytes rest : List ℕ) → left ≡ 0 → one_at bytes ≡ Ok (code, rest) → type_at left bytes ≡ Err BadField
unfolding type_at
too_deep left code bytes rest e h = rw e (ap (λ (r : Read ℕ). r >>= λ c. no_type) h)
  where
    no_type : Read TheType
    no_type = Err BadField

pub behind_code : (left code : ℕ) (bytes rest : List ℕ) → 0 < left → one_at bytes ≡ Ok (code, rest) → type_at left bytes ≡ coded_at (type_at (left - 1)) code rest
unfolding type_at
behind_code zero code bytes rest lt h = absurd (omega (arith, lt))
behind_code (suc left) code bytes rest lt h =
    let one_less : left ≡ suc left - 1 = omega arith in
    ap (λ (r : Read ℕ). r >>= λ c. coded_at (type_at left) c.0 c.1) h ∙ ap (λ (k : ℕ). coded_at (type_at k) code rest) one_less
