-- A working file: what reading the beginning of a text finds, an item, or the flaw that stands there.
use Rattle.std.specs.Prelude.{◌≡◌, ℕ, ◌<◌, ◌≤◌, List, [], ◌∷◌, take, drop, length, Option, Some, None, Result, Ok, Err}
use Rattle.fl_lex.specs.Spelling.{class_of, Item, gap, token, IsItem, Begins}
use Rattle.fl_lex.specs.Outcome.{KindFits, Stands, no_token, open_comment, open_description, long_word, large_number}
use Rattle.fl_lex.specs.declared.token.TokenKind.{TokenKind}
use Rattle.fl_lex.specs.declared.item.LexItem.{LexItem}
use Rattle.fl_lex.specs.declared.class.ByteClass.{ByteClass}
use Rattle.fl_lex.specs.declared.fault.LexFault.{LexFault}
use Rattle.fl_lex.specs.declared.fault.LexFault.TheVariants as faults

-- the text has a first byte, of this class
abbrev pub FirstIs : ByteClass → List ℕ → Type 0
FirstIs class [] = ⊥
FirstIs class (byte ∷ more) = class_of byte ≡ class

-- what the code's kind stands for: none is a gap
abbrev pub item_of : Option TokenKind → Item
item_of None = gap
item_of (Some kind) = token kind

-- an item within the limits of length and value
abbrev pub ItemFits : Item → List ℕ → Type 0
ItemFits gap bytes = Unit {0}
ItemFits (token kind) bytes = KindFits kind bytes

-- these bytes are such an item, within the limits
pub record IsRight (item : Item) (bytes : List ℕ) : Type 0 where
  pub is_item : IsItem item bytes
  pub fits : ItemFits item bytes

-- the first bytes of the text, this many, are the item that the text begins with
pub record Cuts (text : List ℕ) (item : Item) (count : ℕ) : Type 0 where
  pub within : count ≤ length text
  pub nonempty : 0 < count
  pub begins : Begins text item (take count text) (drop count text)
  pub fits : ItemFits item (take count text)

-- the flaw that the fault names stands at the beginning of the text, which lies at this offset
abbrev pub FlawAt : LexFault → ℕ → List ℕ → Type 0
FlawAt (faults.NoToken place) at text = (place ≡ at) × Stands no_token text
FlawAt (faults.OpenComment place) at text = (place ≡ at) × Stands open_comment text
FlawAt (faults.OpenDescription place) at text = (place ≡ at) × Stands open_description text
FlawAt (faults.LongWord place) at text = (place ≡ at) × Stands long_word text
FlawAt (faults.LargeNumber place) at text = (place ≡ at) × Stands large_number text
FlawAt faults.LongText at text = ⊥
FlawAt faults.Memory at text = ⊥

-- what reading the beginning of a text, which lies at this offset, answers
abbrev pub Finds : List ℕ → ℕ → Result LexItem LexFault → Type 0
Finds text at (Ok piece) = Cuts text (item_of piece.kind) piece.length
Finds text at (Err fault) = FlawAt fault at text
