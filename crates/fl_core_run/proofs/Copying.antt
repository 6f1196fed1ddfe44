-- What is found at a place of a list.
use Rattle.std.proofs.Common.{◌≡◌, refl, sym, ap, ◌∙◌, ℕ, nat_lt, true, List, length, slice_get, slice_index_or, Some}
use Rattle.std.proofs.lemmas.Option.{slice_get_read}
use Rattle.std.proofs.lemmas.Bool.{ltb-true}

pub stands_at : {X : Type 0} (xs items : List X) (n : ℕ) (x : X) → items ≡ xs → true ≡ nat_lt n (length items) → x ≡ slice_index_or items n x → slice_get xs n ≡ Some x
stands_at {X} xs items n x same within here =
    ap (λ (l : List X). slice_get l n) (sym same) ∙ slice_get_read items (length items) n x refl (ltb-true n (length items) (sym within)) here
