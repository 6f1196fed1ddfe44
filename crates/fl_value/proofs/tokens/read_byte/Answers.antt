use Rattle.std.proofs.Common.{◌≡◌, ◌≤◌, ◌-◌, ℕ, List, [], ◌∷◌, length, take, drop, get_or, arith}
use Rattle.std.proofs.lemmas.List.{take_all}
use Rattle.fl_value.specs.CallText.{coded}
use Rattle.fl_value.proofs.tokens.read_byte.Goals as goal

four : (a : List ℕ) → 4 ≤ length a → get_or a 0 0 ≡ 92 → get_or a 1 0 ≡ 120 → a ≡ 92 ∷ 120 ∷ get_or a 2 0 ∷ get_or a 3 0 ∷ take (length a - 4) (drop 4 a)
four [] h e f = absurd (omega arith)
four (b ∷ []) h e f = absurd (omega arith)
four (b ∷ c ∷ []) h e f = absurd (omega arith)
four (b ∷ c ∷ d ∷ []) h e f = absurd (omega arith)
four (b ∷ c ∷ d ∷ g ∷ a) h e f =
    let rest : take (length (b ∷ c ∷ d ∷ g ∷ a) - 4) a ≡ a = take_all _ a (omega arith) in
    cc

pub returns-in_ok-low-in-92-clause-found : goal.returns-in_ok-low-in-92-clause-found
returns-in_ok-low-in-92-clause-found c =
    let a = c.args.bytes.now in
    let split = four a (omega arith) (omega arith) (omega arith) in
    let high = c.in_ok-high-in-92.ensures.value in
    let low = c.in_ok-low-in-92.ensures.value in
    coded (get_or a 2 0) (get_or a 3 0) (omega (arith, high.0, high.1)) (omega (arith, low.0, low.1)) (omega (arith, high.0, low.0)) split
