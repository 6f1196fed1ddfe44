-- Rules by message, in a list.
use Rattle.std.proofs.Common.{◌≡◌, ◌≢◌, refl, ap, subst, Bool, true, false, ℕ, zero, suc, ◌<◌, ◌==◌, ◌++◌, if◌then◌else◌, List, [], ◌∷◌, length, slice_set, Option, Some, None, arith}
use Rattle.std.proofs.lemmas.Bool.Decides.{nat_tests}
use Rattle.fl_base.specs.declared.identity.MsgNo.{MsgNo}
use Rattle.fl_cores_jobs.specs.EndWork.{rule_at}

pub rule_more : (rules : List (Option MsgNo)) (m : ℕ) → rule_at (rules ++ None ∷ []) m ≡ rule_at rules m
rule_more [] zero = refl
rule_more [] (suc m) = refl
rule_more (r ∷ rules) zero = refl
rule_more (r ∷ rules) (suc m) = rule_more rules m

put_here : (rules : List (Option MsgNo)) (n : ℕ) (a : MsgNo) → n < length rules → rule_at (slice_set rules n (Some a)) n ≡ Some a.0
put_here [] n a h = absurd (omega (arith, h))
put_here (r ∷ rules) zero a h = refl
put_here (r ∷ rules) (suc n) a h = put_here rules n a (omega (arith, h))

put_elsewhere : (rules : List (Option MsgNo)) (n m : ℕ) (a : MsgNo) → m ≢ n → rule_at (slice_set rules n (Some a)) m ≡ rule_at rules m
put_elsewhere [] n m a h = refl
put_elsewhere (r ∷ rules) zero zero a h = absurd (h refl)
put_elsewhere (r ∷ rules) zero (suc m) a h = refl
put_elsewhere (r ∷ rules) (suc n) zero a h = refl
put_elsewhere (r ∷ rules) (suc n) (suc m) a h = put_elsewhere rules n m a (λ e. h (ap suc e))

put_by : (rules : List (Option MsgNo)) (n m : ℕ) (a : MsgNo) (b : Bool) → (n == m) ≡ b → n < length rules
    → rule_at (slice_set rules n (Some a)) m ≡ (if b then Some a.0 else rule_at rules m)
put_by rules n m a true same h =
    let eq : n ≡ m = grind (arith, nat_tests, same) in
    subst (λ (i : ℕ). rule_at (slice_set rules n (Some a)) i ≡ Some a.0) eq (put_here rules n a h)
put_by rules n m a false same h = put_elsewhere rules n m a (λ e. absurd (grind (arith, nat_tests, same, e)))

pub rule_put : (rules : List (Option MsgNo)) (n m : ℕ) (a : MsgNo) → n < length rules
    → rule_at (slice_set rules n (Some a)) m ≡ (if n == m then Some a.0 else rule_at rules m)
rule_put rules n m a h = put_by rules n m a (n == m) refl h
