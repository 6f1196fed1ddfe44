-- The low bytes of a number are the first of all its bytes; and bytes that are appended.
use Rattle.std.proofs.Common.{◌≡◌, ◌≤◌, ℕ, zero, suc, List, ◌∷◌, take, refl, ap, ◌∙◌, arith}
use Rattle.std.specs.Prelude.{Result, Ok, Err, OnOk, is_ok, if◌then◌else◌}
use Rattle.std.specs.Int.{bytes_low_first, byte_at}

pub taken : (k i m n : ℕ) → k ≤ m → take k (bytes_low_first i m n) ≡ bytes_low_first i k n
taken zero i m n few = refl
taken (suc k) i zero n few = absurd (omega (arith, few))
taken (suc k) i (suc m) n few = ap (λ (xs : List ℕ). byte_at i n ∷ xs) (taken k (suc i) m n (omega (arith, few)))

pub if_appended : {T E : Type 0} (r : Result T E) (new both old whole : List ℕ) → new ≡ (if is_ok r then both else old) → both ≡ whole → OnOk r (new ≡ whole)
if_appended (Ok x) new both old whole is e = is ∙ e
if_appended (Err x) new both old whole is e = tt
