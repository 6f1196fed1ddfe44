-- A route that is told as too long stays as it is.
use Rattle.std.proofs.Common.{◌≡◌, ◌≤◌, ℕ, List, [], ◌∷◌, ◌++◌, length, take, sym, ap, ◌∙◌, arith}
use Rattle.std.proofs.lemmas.List.{length-take-le, take-append-le, take-take}

pub full : (cores : List ℕ) (count core : ℕ) → length cores ≡ 17 → count ≤ 17 → 17 ≤ count → take count cores ≡ take 17 (take count cores ++ core ∷ [])
full cores count core all few most =
    let is : count ≡ 17 = omega (arith, few, most) in
    let long : length (take count cores) ≡ count = length-take-le count cores (omega (arith, all, few)) in
    sym (take-append-le 17 (take count cores) (core ∷ []) (omega (arith, long, most))
    ∙ (take-take 17 count cores most ∙ ap (λ (n : ℕ). take n cores) (sym is)))
