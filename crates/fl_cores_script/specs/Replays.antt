-- A script that does what a run of cores is reported to have done: at each end its transcript has the report's
-- calls.
use Rattle.std.specs.Prelude.{◌≡◌, ◌==◌, ℕ, Bool, true, false, if◌then◌else◌, List, [], ◌∷◌, codes}
use Rattle.std.specs.Prelude.{Option, None, Some}
use Rattle.std.specs.List.{flat_map, filter, All}
use Rattle.std.specs.Str.{bytes_eq}
use Rattle.fl_base.specs.Given.{given}
use Rattle.fl_script_lines.specs.Answers.{line}
use Rattle.fl_script_lines.specs.Items.{is_too_long}
use Rattle.fl_script_exec.specs.Transcript.{Transcript}

-- what stands behind these bytes, where a text begins with them
abbrev pub behind : List ℕ → List ℕ → Option (List ℕ)
behind [] text = Some text
behind (b ∷ bytes) [] = None
behind (b ∷ bytes) (c ∷ text) = if b == c then behind bytes text else None

-- the bytes before the first blank
abbrev pub first_word : List ℕ → List ℕ
first_word [] = []
first_word (b ∷ text) = if b == 32 then [] else b ∷ first_word text

-- of a line `handle P.c CALL` its end
abbrev pub end_in : List ℕ → Option (List ℕ)
end_in text = given (behind (codes "handle ") text) None λ rest. Some (first_word rest)

abbrev pub is_at : List ℕ → List ℕ → Bool
is_at end text = given (end_in text) false λ other. bytes_eq other end

-- the lines of calls that were handled at an end, in order
abbrev pub handled_at : List ℕ → List (List ℕ) → List (List ℕ)
handled_at end lines = filter (is_at end) lines

abbrev pub HasNoFeed : List ℕ → Type 0
HasNoFeed text = All (λ b. (b == 10) ≡ false) text

-- a text's lines, each without its line feed
pub record AreLines (text : List ℕ) (lines : List (List ℕ)) : Type 0 where
  pub text_is : text ≡ flat_map line lines
  pub whole : All HasNoFeed lines

-- at each end two texts tell the same calls, in the same order
pub record HandlesAlike (one other : List ℕ) : Type 0 where
  pub lines : List (List ℕ)
  pub others : List (List ℕ)
  pub are_lines : AreLines one lines
  pub are_others : AreLines other others
  pub each : (end : List ℕ) → handled_at end lines ≡ handled_at end others

-- the script isn't too long to be run, and its transcript tells, at each end, the calls that the report tells
pub record Replays (script report : List ℕ) : Type 0 where
  pub fits : is_too_long script ≡ false
  pub transcript : List ℕ
  pub is_transcript : Transcript script transcript
  pub alike : HandlesAlike transcript report
