-- What stands at a place of a route, and which core comes behind another.
use Rattle.std.proofs.Common.{◌≡◌, sym, ap, ◌∙◌, ◌<◌, ◌==◌, ◌-◌, ◌+◌, ℕ, nat_lt, Bool, true, false, if◌then◌else◌, List, length, slice_get, slice_index_or, Option, Some, None, is_some, IfSome, refl, arith}
use Rattle.std.proofs.lemmas.Bool.{ltb-true, ltb-false, lt-ltb}
use Rattle.std.proofs.lemmas.Option.{slice_get_read, slice_get_past}
use Rattle.fl_base.specs.declared.identity.CoreId.{CoreId}
use Rattle.fl_base.specs.Given.{given}
use Rattle.fl_monitor.specs.Routing.{is_core, comes_after}

pub found_at : {X : Type 0} (xs : List X) (i : ℕ) (x : X) → true ≡ nat_lt i (length xs) → x ≡ slice_index_or xs i x → slice_get xs i ≡ Some x
found_at xs i x within read = slice_get_read xs (length xs) i x refl (ltb-true i (length xs) (sym within)) read

pub none_at : {X : Type 0} (xs : List X) (i : ℕ) → false ≡ nat_lt i (length xs) → slice_get xs i ≡ None
none_at xs i past = slice_get_past xs i (ltb-false i (length xs) (sym past))

if_true : (b x y : Bool) → b ≡ true → (if b then x else y) ≡ x
if_true true x y h = refl
if_true false x y h = absurd (cc)

-- behind the first place it is what stands before
pub behind : (path : List CoreId) (place neighbour : ℕ) (o : Option CoreId) → (place ≡ 0 → ⊥) → slice_get path (place - 1) ≡ o → given o false (is_core neighbour) ≡ comes_after path place neighbour
behind path place neighbour o later is =
    let positive : 0 < place = omega (arith, later) in
    sym (if_true (nat_lt 0 place) (given (slice_get path (place - 1)) false (is_core neighbour)) false (lt-ltb 0 place positive) ∙ ap (λ (x : Option CoreId). given x false (is_core neighbour)) is)
