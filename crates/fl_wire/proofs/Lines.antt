-- What holds of the fragments so far, one by one.
use Rattle.std.proofs.Common.{◌≡◌, ℕ, ◌+◌, ◌<◌, ◌≤◌, false, ⊎_elim, List, get_or, Some, None, refl, sym, ◌∙◌, ap, subst, arith}
use Rattle.std.specs.Prelude.{slice_get, Option}
use Rattle.std.specs.Option.{is_some}
use Rattle.std.proofs.lemmas.Option.{get_or_from_slice_get}
use Rattle.std.proofs.lemmas.Bool.{cases_lt, false≢true}
use Rattle.fl_base.specs.declared.fragment.Frag.{Frag}

-- an element at an index
pub at_index : (P : Frag → Type 0) (frags : List Frag) (k : ℕ) (d f : Frag) → slice_get frags k ≡ Some f → P (get_or frags k d) → P f
at_index P frags k d f is holds = subst P (get_or_from_slice_get frags k f d is) holds

-- one fragment more
pub one_more : (P : Frag → Type 0) (frags : List Frag) (k : ℕ) (d : Frag) → P (get_or frags k d) → ((n : ℕ) (f : Frag) → n < k → slice_get frags n ≡ Some f → P f)
    → (n : ℕ) (f : Frag) → n < k + 1 → slice_get frags n ≡ Some f → P f
one_more P frags k d holds before n f small is = ⊎_elim
    (λ (h : n < k). before n f h is)
    (λ (h : k ≤ n). let here : n ≡ k = omega (arith, h, small) in at_index P frags k d f (ap (slice_get frags) (sym here) ∙ is) holds)
    (cases_lt n k)

pub none_there : {A : Type 0} (found : Option A) → is_some found ≡ false → found ≡ None
none_there None h = refl
none_there (Some x) h = absurd (false≢true (sym h))
