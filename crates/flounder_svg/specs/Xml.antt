-- Well-formed XML, as drawings need it: elements that are closed in order, each attribute once, and in text
-- and
-- values no mark that would end them.
use Rattle.std.specs.Prelude.{◌≡◌, ℕ, ◌≤◌, List, [], ◌∷◌, ◌++◌, codes, ◌⊎◌, ◌≢◌}
use Rattle.std.specs.Fmt.{decimal}
use Rattle.flounder_svg.specs.declared.names.Tag.{Tag}
use Rattle.flounder_svg.specs.declared.names.Tag.TheVariants.{Svg}
use Rattle.flounder_svg.specs.declared.names.Attribute.{Attribute}
use Rattle.flounder_svg.specs.Names.{tag_name, attribute_name}

-- a byte that stands for itself: printable, and none of the marks & < > and "
abbrev pub IsPlain : ℕ → Type 0
IsPlain byte = (32 ≤ byte) × ((byte ≤ 126) × ((byte ≢ 38) × ((byte ≢ 60) × ((byte ≢ 62) × (byte ≢ 34)))))

-- a character that a document may have, and no blank or line end
abbrev pub IsXmlCharacter : ℕ → Type 0
IsXmlCharacter c = ((32 ≤ c) × (c ≤ 55295)) ⊎ (((57344 ≤ c) × (c ≤ 65533)) ⊎ ((65536 ≤ c) × (c ≤ 1114111)))

-- what may stand between tags and in a value's quotes, and the characters that a reader takes from it:
-- plain bytes, line ends, and
-- references to characters
pub data Spells : List ℕ → List ℕ → Type 0 where
  nothing : Spells [] []
  line_end : (text chars : List ℕ) → Spells text chars → Spells (text ++ 10 ∷ []) (chars ++ 10 ∷ [])
  plain : (text chars : List ℕ) (byte : ℕ) → Spells text chars → IsPlain byte → Spells (text ++ byte ∷ []) (chars ++ byte ∷ [])
  less : (text chars : List ℕ) → Spells text chars → Spells (text ++ codes "&lt;") (chars ++ codes "<")
  greater : (text chars : List ℕ) → Spells text chars → Spells (text ++ codes "&gt;") (chars ++ codes ">")
  ampersand : (text chars : List ℕ) → Spells text chars → Spells (text ++ codes "&amp;") (chars ++ codes "&")
  quote : (text chars : List ℕ) → Spells text chars → Spells (text ++ codes "&quot;") (chars ++ codes "\"")
  numbered : (text chars : List ℕ) (c : ℕ) → Spells text chars → IsXmlCharacter c
      → Spells (text ++ (codes "&#" ++ decimal c ++ codes ";")) (chars ++ c ∷ [])

-- an attribute whose name none of these has
abbrev pub IsNewTo : List Attribute → Attribute → Type 0
IsNewTo [] attribute = Unit {0}
IsNewTo (other ∷ given) attribute = (attribute_name other ≢ attribute_name attribute) × IsNewTo given attribute

-- a start tag without its end, in which these attributes are given: no name twice, each value in quotes
pub data IsStart : Tag → List Attribute → List ℕ → Type 0 where
  named : (tag : Tag) → IsStart tag [] (codes "<" ++ tag_name tag)
  with_one_more : (tag : Tag) (given : List Attribute) (text : List ℕ) (attribute : Attribute) (value chars : List ℕ)
      → IsStart tag given text → IsNewTo given attribute → Spells value chars
      → IsStart tag (given ++ attribute ∷ []) (text ++ codes " " ++ attribute_name attribute ++ codes "=\"" ++ value ++ codes "\"")

abbrev pub end_tag : Tag → List ℕ
end_tag tag = codes "</" ++ tag_name tag ++ codes ">"

-- a document so far: its root stands open, and inside it these elements, outermost first
pub data IsBegun : List Tag → List ℕ → Type 0 where
  root : (given : List Attribute) (start : List ℕ) → IsStart Svg given start → IsBegun [] (start ++ codes ">")
  opened : (tags : List Tag) (text : List ℕ) (tag : Tag) (given : List Attribute) (start : List ℕ)
      → IsBegun tags text → IsStart tag given start → IsBegun (tags ++ tag ∷ []) (text ++ (start ++ codes ">"))
  closed : (tags : List Tag) (text : List ℕ) (tag : Tag)
      → IsBegun (tags ++ tag ∷ []) text → IsBegun tags (text ++ end_tag tag)
  empty : (tags : List Tag) (text : List ℕ) (tag : Tag) (given : List Attribute) (start : List ℕ)
      → IsBegun tags text → IsStart tag given start → IsBegun tags (text ++ (start ++ codes "/>"))
  told : (tags : List Tag) (text words chars : List ℕ) → IsBegun tags text → Spells words chars → IsBegun tags (text ++ words)

-- a whole document: nothing stands open but the root, and that is closed
pub record IsDocument (text : List ℕ) : Type 0 where
  pub begun : List ℕ
  pub is_begun : IsBegun [] begun
  pub ended : text ≡ begun ++ codes "</svg>\n"

-- what a start tag and a document are seen as
pub record Start : Type 0 where
  pub tag : Tag
  pub given : List Attribute
  pub text : List ℕ

pub record Written : Type 0 where
  pub tags : List Tag
  pub text : List ℕ

-- the element that was opened last was closed, with this behind its end tag; the root alone stays as it is
abbrev pub Closes : List ℕ → Written → Written → Type 0
Closes behind old new =
    ((old.tags ≡ []) × (new ≡ old))
    ⊎ ((tag : Tag) × ((old.tags ≡ new.tags ++ tag ∷ []) × (new.text ≡ old.text ++ (end_tag tag ++ behind))))
