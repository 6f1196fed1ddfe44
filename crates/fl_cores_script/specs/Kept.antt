-- Which lines a script of a run has: the cores file's own, and those that ask for an event of a core.
use Rattle.std.specs.Prelude.{◌≡◌, ◌⊎◌, ◌||◌, ℕ, Bool, true, List, [], ◌∷◌, ◌++◌, codes, is_some}
use Rattle.std.specs.List.{All, Contains}
use Rattle.fl_cores_script.specs.Replays.{behind, AreLines}

-- a text begins with these bytes
abbrev pub begins : List ℕ → List ℕ → Bool
begins bytes text = is_some (behind bytes text)

-- a line asks for an event of a core; in a cores file no such line stands outside the text of an interface
abbrev pub is_event : List ℕ → Bool
is_event text =
    begins (codes "write ") text || (begins (codes "turn ") text || (begins (codes "ack ") text
    || (begins (codes "forward ") text || (begins (codes "mwrite ") text || begins (codes "mack ") text))))

-- a text's lines, where its last line may lack its line feed (so an empty line more may be counted)
abbrev pub AreFileLines : List ℕ → List (List ℕ) → Type 0
AreFileLines file lines = AreLines file lines ⊎ AreLines (file ++ 10 ∷ []) lines

-- the line is one of these, or asks for an event
pub record IsKept (own : List (List ℕ)) (line : List ℕ) : Type 0 where
  pub either : Contains own line ⊎ (is_event line ≡ true)

-- each line of the script stands in this file, or asks for an event
pub record KeepsToFile (script file : List ℕ) : Type 0 where
  pub lines : List (List ℕ)
  pub own : List (List ℕ)
  pub are_lines : AreLines script lines
  pub are_own : AreFileLines file own
  pub each : All (IsKept own) lines
