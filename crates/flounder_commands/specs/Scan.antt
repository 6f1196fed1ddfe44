-- How far a transcript was read for lines that tell of refused lines. No public promise rests on this file.
use Rattle.std.specs.Prelude.{◌<◌, ◌==◌, ◌&&◌, ◌||◌, ℕ, Bool, true, false, not, List, [], ◌∷◌, length, codes, if◌then◌else◌, Option, Some, None}
use Rattle.std.specs.Char.{is_ascii_digit}
use Rattle.std.specs.List.{list_any}
use Rattle.std.specs.Str.{bytes_eq}
use Rattle.memchr.specs.Find.{Nowhere, Passes, is_byte}

-- What is to come of a line if it tells of a refused line: these bytes before its number, or digits if there are none; these bytes
-- behind its number; or it tells of none.
pub data Ahead : Type 0 where
  before : List ℕ → Ahead
  behind : List ℕ → Ahead
  other : Ahead

-- one more byte of the line
abbrev pub after : Ahead → ℕ → Ahead
after (before []) b = if is_ascii_digit b then before [] else (if b == 32 then behind (codes "at ") else other)
after (before (c ∷ cs)) b = if b == c then before cs else other
after (behind []) b = behind []
after (behind (c ∷ cs)) b = if b == c then behind cs else other
after other b = other

-- whether the line is a refusal where it ends here
abbrev pub ends_line : Ahead → Bool
ends_line (before []) = true
ends_line (before (c ∷ cs)) = false
ends_line (behind []) = true
ends_line (behind (c ∷ cs)) = false
ends_line other = false

-- what was found so far, and what is to come of the line
pub record Scanned : Type 0 where
  pub found : Bool
  pub line : Ahead

abbrev pub at_start : Scanned
at_start = record { found = false; line = before (codes "refused E") }

abbrev pub found_after : Scanned → ℕ → Bool
found_after s b = if b == 10 then s.found || ends_line s.line else s.found

abbrev pub line_after : Scanned → ℕ → Ahead
line_after s b = if b == 10 then before (codes "refused E") else after s.line b

abbrev pub after_byte : Scanned → ℕ → Scanned
after_byte s b = record { found = found_after s b; line = line_after s b }

abbrev pub after_all : Scanned → List ℕ → Scanned
after_all s [] = s
after_all s (b ∷ bs) = after_all (after_byte s b) bs

-- whether the line tells of no refusal before an `E` comes
abbrev pub awaits : Ahead → Bool
awaits (before cs) = list_any (λ c. c == 69) cs
awaits (behind cs) = false
awaits other = true

-- a line ends here, and no `E` stands before that
abbrev pub EndsBeforeE : List ℕ → ℕ → Type 0
EndsBeforeE bytes k = (k < length bytes) × Passes (is_byte 10) bytes k × Nowhere (Passes (is_byte 69) bytes) 0 k

-- ---- whether two are the same

abbrev pub same_line : Ahead → Ahead → Bool
same_line (before a) (before b) = bytes_eq a b
same_line (behind a) (behind b) = bytes_eq a b
same_line other other = true
same_line (before a) (behind b) = false
same_line (before a) other = false
same_line (behind a) (before b) = false
same_line (behind a) other = false
same_line other (before b) = false
same_line other (behind b) = false

abbrev pub same_found : Bool → Bool → Bool
same_found true found = found
same_found false found = not found

abbrev pub same_scan : Scanned → Scanned → Bool
same_scan s t = same_found s.found t.found && same_line s.line t.line

-- what a writer tells, where the whole of it was scanned
abbrev pub told_by : Scanned → Option (List ℕ) → Option (List ℕ)
told_by s None = None
told_by s (Some all) = if same_scan s (after_all at_start all) then Some all else None
