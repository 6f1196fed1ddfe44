-- How a text is shown: which characters stand for it, and what is added where it is put in.
use Rattle.std.specs.Prelude.{◌≡◌, ℕ, ◌<◌, List, [], ◌∷◌, ◌++◌, codes, ◌⊎◌}
use Rattle.flounder_svg.specs.declared.names.Attribute.{Attribute}
use Rattle.flounder_svg.specs.Names.{attribute_name}
use Rattle.flounder_svg.specs.Xml.{Spells, Start}

-- a tab or a line end
abbrev pub IsBlank : ℕ → Type 0
IsBlank c = (c ≡ 9) ⊎ ((c ≡ 10) ⊎ (c ≡ 13))

-- a character is shown as itself; a tab or line end as a blank; and one that isn't printable ASCII may be
-- shown as U+FFFD
abbrev pub IsShownAs : ℕ → ℕ → Type 0
IsShownAs c shown = (shown ≡ c) ⊎ (((shown ≡ 32) × IsBlank c) ⊎ ((shown ≡ 65533) × ((c < 32) ⊎ (126 < c))))

-- the same for texts, character by character
pub data AreShownAs : List ℕ → List ℕ → Type 0 where
  none : AreShownAs [] []
  one_more : (text shown : List ℕ) (c d : ℕ) → AreShownAs text shown → IsShownAs c d → AreShownAs (text ++ c ∷ []) (shown ++ d ∷ [])

-- what spells a text, as it is shown, was put behind what was there
pub record AddsText (text old new : List ℕ) : Type 0 where
  pub shown : List ℕ
  pub are_shown : AreShownAs text shown
  pub spelling : List ℕ
  pub spelled : Spells spelling shown
  pub added : new ≡ old ++ spelling

-- a start tag was given one attribute more, whose value shows a text
pub record GivesOne (before : Start) (attribute : Attribute) (value : List ℕ) (after : Start) : Type 0 where
  pub quoted : List ℕ
  pub value_added : AddsText value (before.text ++ codes " " ++ attribute_name attribute ++ codes "=\"") quoted
  pub text : after.text ≡ quoted ++ codes "\""
  pub given : after.given ≡ before.given ++ attribute ∷ []
