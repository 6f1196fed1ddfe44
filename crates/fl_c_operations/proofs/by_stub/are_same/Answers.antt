use Rattle.std.proofs.Common.{rules, ℕ, ◌≡◌, List, [], ◌∷◌, length, refl, ap, ◌∙◌, arith}
use Rattle.std.specs.Prelude.{slice_index_or}
use Rattle.fl_base.specs.declared.fragment.Frag.{Frag}
use Rattle.fl_c_operations.proofs.by_stub.are_same.Goals as goal

-- seven words one by one
one_by_one : (ws : List ℕ) → length ws ≡ 7
    → ws ≡ slice_index_or ws 0 0 ∷ slice_index_or ws 1 0 ∷ slice_index_or ws 2 0 ∷ slice_index_or ws 3 0
    ∷ slice_index_or ws 4 0 ∷ slice_index_or ws 5 0 ∷ slice_index_or ws 6 0 ∷ []
one_by_one [] seven = absurd (omega (arith, seven))
one_by_one (w0 ∷ []) seven = absurd (omega (arith, seven))
one_by_one (w0 ∷ w1 ∷ []) seven = absurd (omega (arith, seven))
one_by_one (w0 ∷ w1 ∷ w2 ∷ []) seven = absurd (omega (arith, seven))
one_by_one (w0 ∷ w1 ∷ w2 ∷ w3 ∷ []) seven = absurd (omega (arith, seven))
one_by_one (w0 ∷ w1 ∷ w2 ∷ w3 ∷ w4 ∷ []) seven = absurd (omega (arith, seven))
one_by_one (w0 ∷ w1 ∷ w2 ∷ w3 ∷ w4 ∷ w5 ∷ []) seven = absurd (omega (arith, seven))
one_by_one (w0 ∷ w1 ∷ w2 ∷ w3 ∷ w4 ∷ w5 ∷ w6 ∷ []) seven = refl
one_by_one (w0 ∷ w1 ∷ w2 ∷ w3 ∷ w4 ∷ w5 ∷ w6 ∷ w7 ∷ ws) seven = absurd (omega (arith, seven))

same_frag : (f g : Frag) → f.words ≡ g.words → f.control ≡ g.control → f ≡ g
same_frag f g e h = ap (λ (ws : List ℕ). record { words = ws; control = f.control }) e ∙ ap (λ (n : ℕ). record { words = g.words; control = n }) h

pub returns : goal.returns
returns c =
    let xs : List ℕ = c.args.one.now.words in
    let ys : List ℕ = c.args.other.now.words in
    let seven : length xs ≡ 7 = search rules in
    let seven_too : length ys ≡ 7 = search rules in
    let same : xs ≡ ys = cc (one_by_one xs seven, one_by_one ys seven_too) in
    record { same = λ h. same_frag c.args.one.now c.args.other.now same (search rules) }
