-- How often something was done, where that is counted.
use Rattle.std.specs.Prelude.{◌≡◌, ◌+◌, ◌≤◌, ℕ, Option, Some, None, ⊤}

-- Once more. What counts may stop, as where its number has no room; then it never counts again.
abbrev pub CountsOne : Option ℕ → Option ℕ → Type 0
CountsOne None None = ⊤
CountsOne None (Some after) = ⊥
CountsOne (Some before) None = ⊤
CountsOne (Some before) (Some after) = after ≡ before + 1

-- so often at most
abbrev pub CountsUpTo : ℕ → Option ℕ → Option ℕ → Type 0
CountsUpTo most (Some before) (Some after) = after ≤ before + most
CountsUpTo most (Some before) None = ⊤
CountsUpTo most None after = ⊤
