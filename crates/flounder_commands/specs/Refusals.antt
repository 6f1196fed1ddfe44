-- The lines of a transcript that tell of refused lines. Public promises rest on this file.
use Rattle.std.specs.Prelude.{◌==◌, ◌||◌, ℕ, Bool, true, false, List, [], ◌∷◌, codes, if◌then◌else◌}
use Rattle.std.specs.Char.{is_ascii_digit}

-- a text begins with these bytes, and what stands behind them passes a test
abbrev pub begins : List ℕ → (List ℕ → Bool) → List ℕ → Bool
begins [] test text = test text
begins (c ∷ cs) test [] = false
begins (c ∷ cs) test (b ∷ bs) = if b == c then begins cs test bs else false

-- whatever it is
abbrev pub is_any : List ℕ → Bool
is_any text = true

-- digits, and behind them nothing, or ` at ` and what follows that
abbrev pub is_numbered : List ℕ → Bool
is_numbered [] = true
is_numbered (b ∷ bs) = if is_ascii_digit b then is_numbered bs else begins (codes " at ") is_any (b ∷ bs)

-- a line that tells of a refused line: `refused En`, or `refused En at OFFSET`
unfoldable pub is_refusal : List ℕ → Bool
is_refusal line = begins (codes "refused E") is_numbered line

-- A line of a text passes a test, and a line feed ends it. The first line has a test of its own.
abbrev pub any_line : (List ℕ → Bool) → (List ℕ → Bool) → List ℕ → Bool
any_line test first [] = false
any_line test first (b ∷ bs) = if b == 10 then first [] || any_line test test bs else any_line test (λ rest. first (b ∷ rest)) bs

-- a line of a transcript tells of a refused line
unfoldable pub has_refusal : List ℕ → Bool
has_refusal text = any_line is_refusal is_refusal text
