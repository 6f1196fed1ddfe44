-- Reading one after another, as a loop does.
use Rattle.std.proofs.Common.{◌≡◌, ℕ, suc, ◌-◌, ◌+◌, ◌≤◌, ◌<◌, List, [], ◌∷◌, ◌++◌, Ok, Err, refl, sym, ◌∙◌, arith}
use Rattle.fl_image.specs.declared.fault.ImageFault.{ImageFault}
use Rattle.fl_image.specs.declared.fault.ImageFault.TheVariants as faults
use Rattle.fl_image.specs.Reading.{Read, Fails, more_at}

pub goes_on : {A : Type 0} (read : List A → List ℕ → Read A) (before : List A) (count i : ℕ) (bytes : List ℕ) (x : A) (after : List ℕ) (total : Read (List A))
    → i < count → read before bytes ≡ Ok (x, after) → more_at read (count - i) before bytes ≡ total → more_at read (count - (i + 1)) (before ++ x ∷ []) after ≡ total
goes_on read before count i bytes x after total lt h so_far =
    let k : count - i ≡ suc (count - (i + 1)) = omega arith in
    let one : more_at read (count - i) before bytes ≡ more_at read (count - (i + 1)) (before ++ x ∷ []) after = rw (k, h) refl in
    sym one ∙ so_far

pub ends : {A : Type 0} (e : ImageFault) (read : List A → List ℕ → Read A) (before : List A) (count i : ℕ) (bytes : List ℕ) (total : Read (List A))
    → i < count → Fails e (read before bytes) → more_at read (count - i) before bytes ≡ total → Fails e total
ends faults.Memory read before count i bytes total lt h so_far = tt
ends (faults.Refused f) read before count i bytes total lt h so_far =
    let k : count - i ≡ suc (count - (i + 1)) = omega arith in
    let one : more_at read (count - i) before bytes ≡ Err f = rw (k, h) refl in
    sym so_far ∙ one

pub is_done : {A : Type 0} (read : List A → List ℕ → Read A) (before : List A) (count i : ℕ) (bytes : List ℕ) (total : Read (List A))
    → count ≤ i → more_at read (count - i) before bytes ≡ total → total ≡ Ok (before, bytes)
is_done read before count i bytes total le so_far =
    let k : count - i ≡ 0 = omega arith in
    let one : more_at read (count - i) before bytes ≡ Ok (before, bytes) = rw k refl in
    sym so_far ∙ one
