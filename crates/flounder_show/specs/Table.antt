-- The plan table of an interface: which figures it tells, and how.
use Rattle.std.specs.Prelude.{◌≡◌, ℕ, ◌+◌, List, [], ◌∷◌, ◌++◌, Option, Some, None, codes}
use Rattle.std.specs.Fmt.{decimal}
use Rattle.fl_interface.specs.Interface.{TheArgType, fixed, text, sized, TheMessage, TheInterface}
use Rattle.fl_interface.specs.Sizes.{size_of}
use Rattle.fl_value_data.specs.declared.value.PlanNo.{PlanNo}
use Rattle.fl_value_data.specs.declared.value.PlanNo.TheVariants.{One, Two}
use Rattle.fl_layout.specs.Layouts.{payload_length, IsLeast, IsGreatest, IsPlace}
use Rattle.fl_layout.specs.Places.{count_for}
use Rattle.flounder_show.specs.declared.row.MessageSizes.{MessageSizes}
use Rattle.flounder_show.specs.declared.row.ArgKind.{ArgKind}
use Rattle.flounder_show.specs.declared.row.ArgKind.TheVariants.{Fixed, Text, Sized}

-- an offset, or a dash where it depends on the call
abbrev pub place_text : Option ℕ → List ℕ
place_text None = codes "-"
place_text (Some at) = decimal at

-- what an argument takes: its bytes; its most bytes; its most elements, and the bytes of one
abbrev pub kind_of : TheArgType → ArgKind
kind_of (fixed t) = Fixed (size_of t)
kind_of (text most) = Text most
kind_of (sized most t) = Sized most (size_of t)

abbrev pub kind_text : ArgKind → List ℕ
kind_text (Fixed size) = codes "fixed " ++ decimal size
kind_text (Text most) = codes "string max " ++ decimal most
kind_text (Sized most stride) = codes "array max " ++ decimal most ++ codes " stride " ++ decimal stride

abbrev pub argument_line : ℕ → Option ℕ → ArgKind → List ℕ
argument_line j place kind = codes "arg " ++ decimal j ++ codes " at " ++ place_text place ++ codes " " ++ kind_text kind ++ codes "\n"

abbrev pub figures_text : MessageSizes → List ℕ
figures_text f = codes "least " ++ decimal f.least ++ codes " greatest " ++ decimal f.greatest ++ codes " fragments " ++ decimal f.fragments

abbrev pub message_line : ℕ → List ℕ → MessageSizes → List ℕ
message_line number name figures =
    codes "message " ++ decimal number ++ codes " " ++ name ++ codes " " ++ figures_text figures ++ codes "\n"

abbrev pub plan_number : PlanNo → ℕ
plan_number One = 1
plan_number Two = 2

abbrev pub interface_line : List ℕ → PlanNo → List ℕ
interface_line name plan = codes "interface " ++ name ++ codes " plan " ++ decimal (plan_number plan) ++ codes "\n"

-- lines that tell of things one after another, which are numbered
abbrev pub TellsEach : {A : Type 0} → (ℕ → A → List ℕ → Type 0) → ℕ → List A → List ℕ → Type 0
TellsEach tells from [] lines = lines ≡ []
TellsEach tells from (x ∷ xs) lines = (first rest : List ℕ) × tells from x first × TellsEach tells (from + 1) xs rest × (lines ≡ first ++ rest)

-- a line tells of argument j of a message where it begins in every call, and what it takes
pub record TellsArgument (plan : PlanNo) (i : TheInterface) (msg j : ℕ) (type : TheArgType) (line : List ℕ) : Type 0 where
  pub place : Option ℕ
  pub is_place : IsPlace plan i msg j place
  pub spelled : line ≡ argument_line j place (kind_of type)

-- a line tells a message's least and greatest payload in bytes, and the fragments of the greatest
pub record TellsFigures (plan : PlanNo) (i : TheInterface) (msg : ℕ) (name line : List ℕ) : Type 0 where
  pub figures : MessageSizes
  pub is_least : IsLeast (payload_length plan i) i msg figures.least
  pub is_greatest : IsGreatest (payload_length plan i) i msg figures.greatest
  pub are_fragments : figures.fragments ≡ count_for figures.greatest
  pub spelled : line ≡ message_line msg name figures

-- lines tell of a message: its figures, then each argument
abbrev pub TellsMessage : PlanNo → TheInterface → ℕ → TheMessage → List ℕ → Type 0
TellsMessage plan i msg m lines =
    (line rest : List ℕ) × TellsFigures plan i msg m.name line × TellsEach (TellsArgument plan i msg) 0 m.args rest × (lines ≡ line ++ rest)

-- the table of an interface under a plan: its own line, then each message
abbrev pub IsTable : PlanNo → TheInterface → List ℕ → Type 0
IsTable plan i table =
    (lines : List ℕ) × TellsEach (TellsMessage plan i) 0 i.messages lines × (table ≡ interface_line i.name plan ++ lines)
