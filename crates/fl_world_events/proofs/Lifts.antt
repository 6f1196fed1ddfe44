-- What was read at a place of a list stands there.
use Rattle.std.proofs.Common.{◌≡◌, refl, sym, ap, ◌∙◌, ℕ, ◌<◌, length, slice_get, slice_set, slice_index_or, List, Some}
use Rattle.std.proofs.lemmas.List.{set-get_or}
use Rattle.std.proofs.lemmas.Option.{slice_get_read}

pub one_value : {X : Type 0} (x y : X) → Some x ≡ Some y → x ≡ y
one_value x y h = cc

-- what was read at a place stands there
pub stands : {X : Type 0} (xs : List X) (n : ℕ) (x read : X) → n < length xs → read ≡ slice_index_or xs n read → x ≡ read → slice_get xs n ≡ Some x
stands xs n x read below value view = slice_get_read xs (length xs) n read refl below value ∙ ap Some (sym view)

-- ---- what is kept

-- what stood at a place was put there again
pub put_back : {X : Type 0} (xs : List X) (n : ℕ) (x k read : X) → read ≡ slice_index_or xs n read → k ≡ read → x ≡ k → slice_set xs n x ≡ xs
put_back xs n x k read value view same = ap (slice_set xs n) (same ∙ view ∙ value) ∙ set-get_or xs n read
