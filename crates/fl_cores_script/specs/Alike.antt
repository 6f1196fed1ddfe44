-- Parts of the comparison of two texts' lines.
use Rattle.std.specs.Prelude.{◌≡◌, ℕ, true, List, []}
use Rattle.fl_cores_script.specs.Replays.{is_at, handled_at}

-- a call of this end is among these lines
abbrev pub IsAmong : List (List ℕ) → List ℕ → Type 0
IsAmong lines end = handled_at end lines ≡ [] → ⊥

abbrev pub AlikeAt : List (List ℕ) → List (List ℕ) → List ℕ → Type 0
AlikeAt lines others end = handled_at end lines ≡ handled_at end others

-- at the end of this line, if it tells of one, that holds
abbrev pub OfEnd : (List ℕ → Type 0) → List ℕ → Type 0
OfEnd P line = (end : List ℕ) → is_at end line ≡ true → P end
