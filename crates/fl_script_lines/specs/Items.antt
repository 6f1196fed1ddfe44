-- A script's lines, and its items: lines outside blocks, and blocks that hold an interface's text.
use Rattle.std.specs.Prelude.{◌≡◌, ◌⊎◌, ℕ, ◌==◌, if◌then◌else◌, List, [], ◌∷◌, ◌++◌, codes, Bool, nat_lt, length}
use Rattle.fl_value_data.specs.declared.value.PlanNo.{PlanNo}
use Rattle.fl_script_lines.specs.Grammar.{Line, silent, heading, command, unread, LineIs}

-- ---- lines

-- A line ends with its line feed; the last may lack it.
abbrev pub put_first : ℕ → List (List ℕ) → List (List ℕ)
put_first b [] = (b ∷ []) ∷ []
put_first b (line ∷ lines) = if b == 10 then (b ∷ []) ∷ line ∷ lines else (b ∷ line) ∷ lines

-- the lines of a text, each with its line end
abbrev pub lines_of : List ℕ → List (List ℕ)
lines_of [] = []
lines_of (b ∷ bytes) = put_first b (lines_of bytes)

-- the bytes don't end with this one
abbrev pub EndsNotWith : ℕ → List ℕ → Type 0
EndsNotWith b bytes = (front : List ℕ) → bytes ≡ front ++ b ∷ [] → ⊥

-- the text is the line without its end: a line feed, with the one carriage return directly before it if there is one
abbrev pub WithoutEnd : List ℕ → List ℕ → Type 0
WithoutEnd line text =
    (line ≡ text ++ 13 ∷ 10 ∷ [])
    ⊎ ((line ≡ text ++ 10 ∷ []) × EndsNotWith 13 text)
    ⊎ ((line ≡ text) × EndsNotWith 10 text)

-- a text of more than 1,048,576 bytes is refused whole
abbrev pub is_too_long : List ℕ → Bool
is_too_long bytes = nat_lt 1048576 (length bytes)

-- ---- items

-- what is answered by itself, if at all: a line outside blocks, or a whole block
pub data Item : Type 0 where
  -- a line outside blocks, which isn't the head of one
  a_line : Line → Item
  -- a block: its plan, and its text with all line ends
  a_block : PlanNo → List ℕ → Item
  -- a block that the script's end leaves open
  open_block : Item

-- a block ends with a line that is `.` and nothing else
abbrev pub EndsBlock : List ℕ → Type 0
EndsBlock line = WithoutEnd line (codes ".")

-- outside of blocks, or within one: its plan, and its text so far
pub data Mode : Type 0 where
  outside : Mode
  inside : PlanNo → List ℕ → Mode

-- behind a line that was read outside of blocks, where this is what further lines are
abbrev pub Behind : Line → (Mode → List Item → Type 0) → List Item → Type 0
Behind (heading plan) further items = further (inside plan []) items
Behind silent further items = (rest : List Item) × further outside rest × (items ≡ a_line silent ∷ rest)
Behind (command c) further items = (rest : List Item) × further outside rest × (items ≡ a_line (command c) ∷ rest)
Behind unread further items = (rest : List Item) × further outside rest × (items ≡ a_line unread ∷ rest)

-- these lines are these items
abbrev pub Items : List (List ℕ) → Mode → List Item → Type 0
Items [] outside items = items ≡ []
Items [] (inside plan text) items = items ≡ open_block ∷ []
Items (line ∷ lines) outside items =
    (bare : List ℕ) × (l : Line) × WithoutEnd line bare × LineIs bare l × Behind l (Items lines) items
Items (line ∷ lines) (inside plan text) items =
    (EndsBlock line × (rest : List Item) × Items lines outside rest × (items ≡ a_block plan text ∷ rest))
    ⊎ ((EndsBlock line → ⊥) × Items lines (inside plan (text ++ line)) items)

-- the items of a script
abbrev pub ItemsOf : List ℕ → List Item → Type 0
ItemsOf bytes items = Items (lines_of bytes) outside items

-- the items of a block's lines, its head left out
abbrev pub BlockOf : PlanNo → List ℕ → List ℕ → List Item → Type 0
BlockOf plan text bytes items = Items (lines_of bytes) (inside plan text) items

-- ---- the laws

-- a script has a list of items
abbrev pub SomeItems : Type 0
SomeItems = (bytes : List ℕ) → (items : List Item) × ItemsOf bytes items

-- and no other
abbrev pub OneItems : Type 0
OneItems = (bytes : List ℕ) (xs ys : List Item) → ItemsOf bytes xs → ItemsOf bytes ys → xs ≡ ys
