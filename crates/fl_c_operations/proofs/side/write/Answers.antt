use Rattle.std.proofs.Common.{rules, ℕ, ◌≡◌, List, [], ◌∷◌, ◌++◌, length, slice_set, refl, ◌∙◌, arith}
use Rattle.std.specs.Prelude.{slice_index_or}
use Rattle.fl_c_operations.proofs.side.write.Goals as goal

-- a list of eight with others in all places
others : (xs : List ℕ) (a b c d e f g h : ℕ) → length xs ≡ 8
    → slice_set (slice_set (slice_set (slice_set (slice_set (slice_set (slice_set (slice_set xs 0 a) 1 b) 2 c) 3 d) 4 e) 5 f) 6 g) 7 h
    ≡ a ∷ b ∷ c ∷ d ∷ e ∷ f ∷ g ∷ h ∷ []
others [] a b c d e f g h eight = absurd (omega (arith, eight))
others (x0 ∷ []) a b c d e f g h eight = absurd (omega (arith, eight))
others (x0 ∷ x1 ∷ []) a b c d e f g h eight = absurd (omega (arith, eight))
others (x0 ∷ x1 ∷ x2 ∷ []) a b c d e f g h eight = absurd (omega (arith, eight))
others (x0 ∷ x1 ∷ x2 ∷ x3 ∷ []) a b c d e f g h eight = absurd (omega (arith, eight))
others (x0 ∷ x1 ∷ x2 ∷ x3 ∷ x4 ∷ []) a b c d e f g h eight = absurd (omega (arith, eight))
others (x0 ∷ x1 ∷ x2 ∷ x3 ∷ x4 ∷ x5 ∷ []) a b c d e f g h eight = absurd (omega (arith, eight))
others (x0 ∷ x1 ∷ x2 ∷ x3 ∷ x4 ∷ x5 ∷ x6 ∷ []) a b c d e f g h eight = absurd (omega (arith, eight))
others (x0 ∷ x1 ∷ x2 ∷ x3 ∷ x4 ∷ x5 ∷ x6 ∷ x7 ∷ []) a b c d e f g h eight = refl
others (x0 ∷ x1 ∷ x2 ∷ x3 ∷ x4 ∷ x5 ∷ x6 ∷ x7 ∷ x8 ∷ xs) a b c d e f g h eight = absurd (omega (arith, eight))

-- seven words one by one, and what stands behind them
one_by_one : (ws : List ℕ) (h : ℕ) → length ws ≡ 7
    → slice_index_or ws 0 0 ∷ slice_index_or ws 1 0 ∷ slice_index_or ws 2 0 ∷ slice_index_or ws 3 0
    ∷ slice_index_or ws 4 0 ∷ slice_index_or ws 5 0 ∷ slice_index_or ws 6 0 ∷ h ∷ [] ≡ ws ++ h ∷ []
one_by_one [] h seven = absurd (omega (arith, seven))
one_by_one (w0 ∷ []) h seven = absurd (omega (arith, seven))
one_by_one (w0 ∷ w1 ∷ []) h seven = absurd (omega (arith, seven))
one_by_one (w0 ∷ w1 ∷ w2 ∷ []) h seven = absurd (omega (arith, seven))
one_by_one (w0 ∷ w1 ∷ w2 ∷ w3 ∷ []) h seven = absurd (omega (arith, seven))
one_by_one (w0 ∷ w1 ∷ w2 ∷ w3 ∷ w4 ∷ []) h seven = absurd (omega (arith, seven))
one_by_one (w0 ∷ w1 ∷ w2 ∷ w3 ∷ w4 ∷ w5 ∷ []) h seven = absurd (omega (arith, seven))
one_by_one (w0 ∷ w1 ∷ w2 ∷ w3 ∷ w4 ∷ w5 ∷ w6 ∷ []) h seven = refl
one_by_one (w0 ∷ w1 ∷ w2 ∷ w3 ∷ w4 ∷ w5 ∷ w6 ∷ w7 ∷ ws) h seven = absurd (omega (arith, seven))

pub returns : goal.returns
returns c =
    let words : List ℕ = c.args.frag.now.words in
    let at = λ (k : ℕ). slice_index_or words k 0 in
    let seven : length words ≡ 7 = search rules in record {
      numbers = others c.args.numbers.now (at 0) (at 1) (at 2) (at 3) (at 4) (at 5) (at 6) c.args.frag.now.control c.requires
          ∙ one_by_one words c.args.frag.now.control seven;
    }
