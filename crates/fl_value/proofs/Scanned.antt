-- What stands behind values, where none are made.
use Rattle.std.proofs.Common.{◌≡◌, ◌≤◌, ◌+◌, ◌++◌, ℕ, List, [], ◌∷◌, length, true, Option, Some, None, refl, subst, sym, arith}
use Rattle.std.specs.Option.{IfSome}
use Rattle.fl_value_data.specs.Value.{Datum, string, elements, fields, Data}
use Rattle.fl_lex.specs.Words.{is_name}
use Rattle.fl_value.specs.CallText.{Blanks, SpellsCall, TextByte, TextBytes, Token, a_text, a_mark, SpellsValue, SpellsValues, Listed, Enclosed, depth_of, greatest_depth}
use Rattle.fl_value.proofs.Once.{token_once, bytes_more}
use Rattle.fl_value.proofs.Words.{spelled_call}
use Rattle.fl_value_data.proofs.Turns.{list_from, data_again}
use Rattle.fl_value.proofs.Nested.{Commas, with_last, commas_more, commas_end, depth_last}

-- one byte more of a text
pub byte_behind : (bytes rest after : List ℕ) (b : ℕ) → (s : List ℕ) × TextBytes s bytes rest → TextByte b rest after → (s : List ℕ) × TextBytes s bytes after
byte_behind bytes rest after b (s, so_far) here = (s ++ (b ∷ []), bytes_more s b bytes rest after so_far here)

-- nothing is enclosed where the values don't stand inside
pub not_within : (opening closing depth : ℕ) (bytes inside : List ℕ) → Token (a_mark opening) bytes inside
    → ((ds : Data) (rest : List ℕ) → 1 + greatest_depth ds ≤ depth → Listed closing ds inside rest → ⊥)
    → (ds : Data) (rest : List ℕ) → 1 + greatest_depth ds ≤ depth → Enclosed opening closing ds bytes rest → ⊥
not_within opening closing depth bytes inside t none ds rest shallow (within, last, o, v, c) =
    let same = (token_once (a_mark opening) (a_mark opening) bytes inside within t o).1 in
    none ds rest shallow (last, subst (λ q. SpellsValues ds q last) (sym same) v, c)

-- values so far, one more, and a comma
pub value_behind : (depth : ℕ) (bytes start after next : List ℕ) → (ds : Data) × Commas ds bytes start × (greatest_depth ds ≤ depth)
    → (d : Datum) × SpellsValue d start after × (depth_of d ≤ depth) → Token (a_mark 44) after next → (ds : Data) × Commas ds bytes next × (greatest_depth ds ≤ depth)
value_behind depth bytes start after next (ds, so_far, shallow) (d, here, low) comma =
    (with_last ds d, commas_more ds d bytes start after next so_far here comma, depth_last ds d depth shallow low)

-- values so far, one more, and the closing mark
pub value_last : (closing depth : ℕ) (bytes start after rest : List ℕ) → (ds : Data) × Commas ds bytes start × (greatest_depth ds ≤ depth)
    → (d : Datum) × SpellsValue d start after × (depth_of d ≤ depth) → Token (a_mark closing) after rest → (ds : Data) × Listed closing ds bytes rest × (greatest_depth ds ≤ depth)
value_last closing depth bytes start after rest (ds, so_far, shallow) (d, here, low) closed =
    (with_last ds d, (after, commas_end ds d bytes start after so_far here, closed), depth_last ds d depth shallow low)

-- ---- values of each kind

abbrev pub SomeValue : ℕ → List ℕ → List ℕ → Type 0
SomeValue depth bytes rest = (d : Datum) × SpellsValue d bytes rest × (depth_of d ≤ depth)

pub text_spelled : (depth : ℕ) (bytes rest : List ℕ) → (s : List ℕ) × Token (a_text s) bytes rest → SomeValue depth bytes rest
text_spelled depth bytes rest (s, t) = (string s, t, omega arith)

pub list_spelled : (depth : ℕ) (bytes inside rest : List ℕ) → Token (a_mark 91) bytes inside → (ds : Data) × Listed 93 ds inside rest × (1 + greatest_depth ds ≤ depth)
    → SomeValue depth bytes rest
list_spelled depth bytes inside rest t (ds, (last, v, closed), shallow) = (elements ds, (inside, last, t, v, closed), shallow)

pub struct_spelled : (depth : ℕ) (bytes inside rest : List ℕ) → Token (a_mark 123) bytes inside → (ds : Data) × Listed 125 ds inside rest × (1 + greatest_depth ds ≤ depth)
    → SomeValue depth bytes rest
struct_spelled depth bytes inside rest t (ds, (last, v, closed), shallow) = (fields ds, (inside, last, t, v, closed), shallow)

-- what a call answered

pub some_weaker : {T : Type 0} (o : Option T) (P Q : T → Type 0) → ((x : T) → P x → Q x) → IfSome o P → IfSome o Q
some_weaker None P Q f h = h
some_weaker (Some x) P Q f h = f x h

-- ---- a whole call

pub spelled_so : (bytes start name after inside end left : List ℕ) → Blanks bytes start → is_name name ≡ true → start ≡ name ++ after → Token (a_mark 40) after inside
    → (ds : Data) × Listed 41 ds inside end × (greatest_depth ds ≤ 20) → Blanks end left → length left ≡ 0 → (values : List Datum) × SpellsCall bytes name values
spelled_so bytes start name after inside end left before named split opens (ds, listed, nested) blanks none =
    let same = sym (data_again ds) in
    let values = list_from ds in (
      values,
      spelled_call bytes start name after inside end left name values before named split opens (subst (λ (es : Data). Listed 41 es inside end) same listed)
          (subst (λ (es : Data). greatest_depth es ≤ 20) same nested) blanks none refl,
    )
