-- How a call is printed: one text for each call.
use Rattle.std.specs.Prelude.{ℕ, ℤ, pos, negsuc, ◌+◌, ◌/◌, ◌%◌, ◌^◌, ◌==◌, ◌≤◌, ◌&&◌, nat_lt, nat_le, Bool, true, if◌then◌else◌}
use Rattle.std.specs.Prelude.{List, [], ◌∷◌, ◌++◌, Ok, Some, slice_get, ◌≡◌}
use Rattle.std.specs.List.{flat_map, list_all}
use Rattle.std.specs.Char.{digit_char}
use Rattle.std.specs.Fmt.{signed_decimal}
use Rattle.fl_interface.specs.declared.interface.Interface.{Interface}
use Rattle.fl_interface.specs.Interface.{TheMessage, TheInterface, interface_of}
use Rattle.fl_interface.specs.Limits.{is_within_limits}
use Rattle.fl_interface.specs.Counts.{interface_words_fit}
use Rattle.fl_lex.specs.Words.{is_name}
use Rattle.fl_value.specs.CallText.{is_literal, SpellsCall, greatest_depth}
use Rattle.fl_value_data.specs.Fits.{fits_of}
use Rattle.fl_value.specs.Resolve.{ComesTo}
use Rattle.fl_value_data.specs.Value.{TheCall, Datum, number, string, elements, fields, Data, nothing_more, also, data_from}

-- a byte that is printed as it is
abbrev pub is_shown : ℕ → Bool
is_shown b = is_literal b && nat_le b 126

-- bytes 32 to 126 as they are, but `\"` and `\\`; all others as `\x` and two lower-case digits
abbrev pub printed_byte : ℕ → List ℕ
printed_byte b =
    if b == 34 then 92 ∷ 34 ∷ []
    else if b == 92 then 92 ∷ 92 ∷ []
    else if nat_le 32 b && nat_le b 126 then b ∷ []
    else 92 ∷ 120 ∷ digit_char (b / 16) ∷ digit_char (b % 16) ∷ []

abbrev pub printed_text : List ℕ → List ℕ
printed_text bytes = 34 ∷ (flat_map printed_byte bytes ++ 34 ∷ [])

-- numbers in their shortest form, and `, ` between values
abbrev mutual
  pub printed_value : Datum → List ℕ
  printed_value (number z) = signed_decimal z
  printed_value (string bytes) = printed_text bytes
  printed_value (elements ds) = 91 ∷ (printed_values ds ++ 93 ∷ [])
  printed_value (fields ds) = 123 ∷ (printed_values ds ++ 125 ∷ [])

  pub printed_values : Data → List ℕ
  printed_values nothing_more = []
  printed_values (also d ds) = printed_value d ++ printed_more ds

  -- `, ` before each
  pub printed_more : Data → List ℕ
  printed_more nothing_more = []
  printed_more (also d ds) = 44 ∷ 32 ∷ (printed_value d ++ printed_more ds)

abbrev pub printed_call : List ℕ → List Datum → List ℕ
printed_call name values = name ++ 40 ∷ (printed_values (data_from values) ++ 41 ∷ [])

-- `, ` before a value, but the first
abbrev pub separator : ℕ → List ℕ
separator index = if index == 0 then [] else 44 ∷ 32 ∷ []

-- what stood there still stands, and behind it a prefix of the text
abbrev pub BeginsToAppend : (old new whole : List ℕ) → Type 0
BeginsToAppend old new whole = (prefix : List ℕ) × (rest : List ℕ) × (whole ≡ prefix ++ rest) × (new ≡ old ++ prefix)

-- numbers of at most 20 digits, and bytes in texts
abbrev pub is_short : ℤ → Bool
is_short (pos n) = nat_lt n (10 ^ 20)
is_short (negsuc n) = nat_lt (n + 1) (10 ^ 20)

abbrev mutual
  pub is_printable : Datum → Bool
  is_printable (number z) = is_short z
  is_printable (string bytes) = list_all (λ b. nat_lt b 256) bytes
  is_printable (elements ds) = are_printable ds
  is_printable (fields ds) = are_printable ds

  pub are_printable : Data → Bool
  are_printable nothing_more = true
  are_printable (also d ds) = is_printable d && are_printable ds

-- a call that an interface prints and reads: it fits the interface, which is within the limits and whose counts fit words of
-- 32 bits, as those of each interface in memory; and the name of its message is a word
pub record HasText (i : TheInterface) (m : TheMessage) (c : TheCall) : Type 0 where
  pub within : is_within_limits i ≡ true
  pub counted : interface_words_fit i ≡ true
  pub fits : fits_of i c ≡ true
  pub message : slice_get i.messages c.msg ≡ Some m
  pub word : is_name m.name ≡ true

-- ---- laws

-- what is printed of a name and values reads as these: the name a word, numbers of at most 20 digits, nested at most 20 deep
abbrev pub PrintedReads : Type 0
PrintedReads = (name : List ℕ) (values : List Datum) → is_name name ≡ true → are_printable (data_from values) ≡ true
    → greatest_depth (data_from values) ≤ 20 → SpellsCall (printed_call name values) name values

-- what is printed of a call that an interface prints is that call there
abbrev pub PrintedCallReads : Type 0
PrintedCallReads = (i : TheInterface) (m : TheMessage) (c : TheCall) → HasText i m c → ComesTo i (printed_call m.name c.args) (Ok c)

-- each interface in memory prints every call that fits it, so that it is that call there
abbrev pub FittingCallReads : Type 0
FittingCallReads = (i : Interface) (m : TheMessage) (c : TheCall) → fits_of (interface_of i) c ≡ true → slice_get (interface_of i).messages c.msg ≡ Some m
    → ComesTo (interface_of i) (printed_call m.name c.args) (Ok c)
