-- What a file's content shows: the interface that a text stands for or that an image is of, or the first fault.
use Rattle.std.specs.Prelude.{◌≡◌, ◌≤◌, ◌⊎◌, ◌==◌, All, length, ℕ, Bool, true, false, List, take, drop, Err, IfSome, Option, None, Some, option_map}
use Rattle.std.specs.List.{position}
use Rattle.std.specs.Str.{bytes_eq}
use Rattle.fl_lex.specs.Token.{TheTokens}
use Rattle.fl_lex.specs.Outcome as lex
use Rattle.fl_lex.specs.Outcome.{lexed, Lexes}
use Rattle.fl_lex.specs.declared.fault.LexFault.TheVariants as lex_faults
use Rattle.fl_parse.specs.Tree.{TheTree}
use Rattle.fl_parse.specs.Outcome as parse
use Rattle.fl_parse.specs.Grammar.{parsed, Parses, HasHead}
use Rattle.fl_parse.specs.declared.fault.ParseFault.TheVariants as parse_faults
use Rattle.fl_interface.specs.Interface.{TheInterface}
use Rattle.fl_check.specs.Outcome as check
use Rattle.fl_check.specs.Checks.{checked, Checks, IsSound}
use Rattle.fl_check.specs.Places.{first_looks}
use Rattle.fl_check.specs.declared.fault.CheckFault.TheVariants as check_faults
use Rattle.fl_check.specs.declared.explained.TextFault.{TextFault}
use Rattle.fl_check.specs.declared.explained.TextFault.TheVariants.{Lex, Parse, Check}
use Rattle.fl_check.specs.Explained.{text_fault_offset, place_of, place_in}
use Rattle.fl_value_data.specs.declared.value.PlanNo.{PlanNo}
use Rattle.fl_value_data.specs.declared.value.PlanNo.TheVariants.{Two}
use Rattle.fl_image.specs.Image.{magic, has_image, image_of}
use Rattle.fl_image.specs.Reading.{FirstFault}
use Rattle.fl_image.specs.Outcome.{BeginsAsImage}
use Rattle.flounder_show.specs.declared.fault.ShowFault.{ShowFault}
use Rattle.flounder_show.specs.declared.fault.ShowFault.TheVariants.{Refused, NoImage, Memory}
use Rattle.flounder_show.specs.Table.{IsTable}
use Rattle.flounder_header.specs.Header.{IsHeader}

-- the bytes spell the tokens, the tokens are those of the tree, and the tree stands for the interface
pub record StandsFor (bytes : List ℕ) (i : TheInterface) : Type 0 where
  pub tokens : TheTokens
  pub tree : TheTree
  pub spells : Lexes bytes (lexed tokens)
  pub derives : Parses tokens (parsed tree)
  pub checks : Checks tree (checked i)

-- the first fault of a text; where memory ran out, what was found before it did: that the text is no longer than one may be,
-- or its tokens, with an interface's head, or its tree, which keeps the rules at the place that is looked at first
abbrev pub IsFaultOf : List ℕ → TextFault → Type 0
IsFaultOf bytes (Lex fault) = IfSome (lex.outcome_of (Err fault)) (Lexes bytes) × (fault ≡ lex_faults.Memory → length bytes ≤ 65536)
IsFaultOf bytes (Parse fault) =
    (tokens : TheTokens) × Lexes bytes (lexed tokens) × IfSome (parse.outcome_of (Err fault)) (Parses tokens)
    × (fault ≡ parse_faults.Memory → HasHead tokens.tokens)
IsFaultOf bytes (Check fault) =
    (tokens : TheTokens) × (tree : TheTree) × Lexes bytes (lexed tokens) × Parses tokens (parsed tree)
    × IfSome (check.outcome_of (Err fault)) (Checks tree) × (fault ≡ check_faults.Memory → All IsSound (first_looks tree.declarations))

-- bytes up to the place, where there is one
abbrev pub up_to : Option ℕ → List ℕ → List ℕ
up_to None bytes = bytes
up_to (Some place) bytes = take place bytes

-- to the end of the first line
abbrev pub first_line : List ℕ → List ℕ
first_line bytes = up_to (position (λ byte. byte == 10) bytes) bytes

-- what stands at an offset, to the end of its line, 40 bytes at most
abbrev pub excerpt_at : List ℕ → ℕ → List ℕ
excerpt_at bytes offset = take 40 (first_line (drop offset bytes))

-- what is told of a text's fault: where it stands, in bytes and in lines, and what stands there; where memory ran out only that
-- the text is no longer than one may be
abbrev pub IsRefusalOf : List ℕ → ShowFault → Type 0
IsRefusalOf bytes (Refused r) =
    IsFaultOf bytes r.explained.fault
    × (text_fault_offset r.explained.fault ≡ Some r.offset)
    × (option_map place_of r.explained.place ≡ Some (place_in bytes r.offset))
    × (r.found.now ≡ excerpt_at bytes r.offset)
IsRefusalOf bytes (NoImage r) = ⊥
IsRefusalOf bytes Memory = length bytes ≤ 65536

-- what is told of an image's fault: the first; where memory ran out only that the bytes begin as an image does
abbrev pub IsImageRefusalOf : List ℕ → ShowFault → Type 0
IsImageRefusalOf bytes (Refused r) = ⊥
IsImageRefusalOf bytes (NoImage r) = FirstFault bytes r.fault
IsImageRefusalOf bytes Memory = BeginsAsImage bytes

-- the image of an interface that has one
pub record IsImageOf (bytes : List ℕ) (plan : PlanNo) (i : TheInterface) : Type 0 where
  pub has : has_image i ≡ true
  pub spelled : bytes ≡ image_of plan i

-- a text's table is that of its interface under plan 2, an image's that of its interface under its plan
abbrev pub ShowsText : List ℕ → List ℕ → Type 0
ShowsText bytes table = (i : TheInterface) × StandsFor bytes i × IsTable Two i table

abbrev pub ShowsImage : List ℕ → List ℕ → Type 0
ShowsImage bytes table = (plan : PlanNo) × (i : TheInterface) × IsImageOf bytes plan i × IsTable plan i table

-- a file that begins with an image's first four bytes is meant as an image, every other as a text
abbrev pub is_meant_as_image : List ℕ → Bool
is_meant_as_image bytes = bytes_eq magic (take 4 bytes)

abbrev pub Shows : List ℕ → List ℕ → Type 0
Shows bytes table = ((is_meant_as_image bytes ≡ true) × ShowsImage bytes table) ⊎ ((is_meant_as_image bytes ≡ false) × ShowsText bytes table)

-- a text's header is that of its interface under plan 2, an image's that of its interface under its plan
abbrev pub HeadsText : List ℕ → List ℕ → Type 0
HeadsText bytes header = (i : TheInterface) × StandsFor bytes i × IsHeader Two i header

abbrev pub HeadsImage : List ℕ → List ℕ → Type 0
HeadsImage bytes header = (plan : PlanNo) × (i : TheInterface) × IsImageOf bytes plan i × IsHeader plan i header

abbrev pub HasHeader : List ℕ → List ℕ → Type 0
HasHeader bytes header = ((is_meant_as_image bytes ≡ true) × HeadsImage bytes header) ⊎ ((is_meant_as_image bytes ≡ false) × HeadsText bytes header)

abbrev pub IsRefusedAs : List ℕ → ShowFault → Type 0
IsRefusedAs bytes e = ((is_meant_as_image bytes ≡ true) × IsImageRefusalOf bytes e) ⊎ ((is_meant_as_image bytes ≡ false) × IsRefusalOf bytes e)

-- The interface that a text stands for has an image.
abbrev pub TextsHaveImages : Type 0
TextsHaveImages = (bytes : List ℕ) (i : TheInterface) → StandsFor bytes i → has_image i ≡ true

-- the status that a program ends with
abbrev pub status_of : ShowFault → ℕ
status_of (Refused r) = 2
status_of (NoImage r) = 2
status_of Memory = 3
