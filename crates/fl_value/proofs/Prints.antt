-- What is printed, and that it reads as what was printed.
use Rattle.std.proofs.Common.{◌≡◌, ◌≤◌, ◌<◌, ◌+◌, ◌/◌, ◌%◌, ◌^◌, ◌&&◌, ℕ, ℤ, pos, negsuc, zero, suc, cond, not, List, [], ◌∷◌, ◌++◌, arith, refl, ap, sym, subst, ◌∙◌, Bool, true, false, eqb, ltb, leb, append_assoc}
use Rattle.std.specs.Prelude.{nat_le}
use Rattle.std.proofs.lemmas.Bool.{eqb-true, ltb-true, le-leb}
use Rattle.std.proofs.lemmas.Str.Parse.{digit_from_value}
use Rattle.std.proofs.lemmas.Bool.Decides.{nat_tests}
use Rattle.std.proofs.lemmas.Fmt.{decimal_is_IsNumeral_wide, length-decimal-le_wide}
use Rattle.std.specs.Cmp.{first_so, second_so}
use Rattle.std.specs.Fmt.{decimal, signed_decimal}
use Rattle.std.specs.Char.{digit_char, digit_value}
use Rattle.std.specs.Str.Parse.{AllDigits}
use Rattle.std.specs.List.{flat_map, list_all}
use Rattle.fl_value_data.specs.Value.{Datum, number, string, elements, fields, Data, nothing_more, also, data_from}
use Rattle.fl_value.specs.Printed.{printed_byte, printed_text, printed_value, printed_values, printed_more, printed_call, is_short, is_printable, are_printable}
use Rattle.fl_lex.specs.Words.{is_digit, is_name}
use Rattle.fl_value.specs.CallText.{is_literal, StopsAt, Digits, Number, unsigned, minus, TextByte, itself, quote, backslash, coded, TextBytes, TokenAt, Token, TheToken, a_number, a_text, a_mark, SpellsValue, SpellsValues, SpellsMore, SpellsCall, greatest_depth}
use Rattle.fl_value.proofs.Scan.{blank_none}

-- the values from an index on, as they stand after those before
abbrev pub printed_from : ℕ → Data → List ℕ
printed_from zero ds = printed_values ds
printed_from (suc k) ds = printed_more ds

-- numbers
digit_passes : (d : ℕ) → digit_value d < 10 → is_digit d ≡ true
digit_passes d h =
    let (least, most) = digit_from_value d h in
    ap (λ t. t && nat_le d 57) (le-leb 48 d least) ∙ le-leb d 57 most

passing_digits : (ds : List ℕ) → AllDigits 10 ds → list_all is_digit ds ≡ true
passing_digits [] h = refl
passing_digits (d ∷ ds) h = ap (λ t. t && list_all is_digit ds) (digit_passes d h.0) ∙ passing_digits ds h.1

decimal_digits : (n : ℕ) (rest : List ℕ) → n < 10 ^ 20 → StopsAt is_digit rest → Digits n (decimal n ++ rest) rest
decimal_digits n rest small stops =
    let numeral = decimal_is_IsNumeral_wide n (omega arith) in
    record {
      digits = decimal n;
      all = passing_digits (decimal n) numeral.0.1;
      some = numeral.0.0;
      few = length-decimal-le_wide 20 n (omega arith) small (omega arith);
      value = sym numeral.1;
      split = refl;
      stops = stops;
    }

printed_number : (z : ℤ) (rest : List ℕ) → is_short z ≡ true → StopsAt is_digit rest → Number z (signed_decimal z ++ rest) rest
printed_number (pos n) rest short stops = unsigned n refl (decimal_digits n rest (ltb-true n (10 ^ 20) short) stops)
printed_number (negsuc n) rest short stops = minus (suc n) (decimal (suc n) ++ rest) refl refl (decimal_digits (suc n) rest (omega (arith, ltb-true (n + 1) (10 ^ 20) short)) stops)

-- texts
hex_reads : (n : ℕ) → n < 16 → digit_value (digit_char n) ≡ n
hex_reads n h = grind (arith, nat_tests)

printed_code : (b : ℕ) (x : List ℕ) → b < 256 → TextByte b (92 ∷ 120 ∷ digit_char (b / 16) ∷ digit_char (b % 16) ∷ x) x
printed_code b x h =
    let high = hex_reads (b / 16) (omega arith) in
    let low = hex_reads (b % 16) (omega arith) in
    coded (digit_char (b / 16)) (digit_char (b % 16)) (omega (arith, high)) (omega (arith, low)) (omega (arith, high, low)) refl

literal_byte : (b : ℕ) → eqb b 34 ≡ false → eqb b 92 ≡ false → (leb 32 b && leb b 126) ≡ true → is_literal b ≡ true
literal_byte b no_quote no_backslash here =
    let from : leb 32 b ≡ true = first_so (leb 32 b) (leb b 126) here in
    ap (λ t. t && not (eqb b 34) && not (eqb b 92)) from ∙ ap (λ t. not t && not (eqb b 92)) no_quote ∙ ap not no_backslash

byte_reads : (b : ℕ) (x : List ℕ) (v w u : Bool) → eqb b 34 ≡ v → eqb b 92 ≡ w → (leb 32 b && leb b 126) ≡ u → b < 256
    → TextByte b ((cond v (92 ∷ 34 ∷ []) (cond w (92 ∷ 92 ∷ []) (cond u (b ∷ []) (92 ∷ 120 ∷ digit_char (b / 16) ∷ digit_char (b % 16) ∷ [])))) ++ x) x
byte_reads b x true w u e f g h = quote (eqb-true b 34 e) refl
byte_reads b x false true u e f g h = backslash (eqb-true b 92 f) refl
byte_reads b x false false true e f g h = itself (literal_byte b e f g) refl
byte_reads b x false false false e f g h = printed_code b x h

printed_byte_reads : (b : ℕ) (x : List ℕ) → b < 256 → TextByte b (printed_byte b ++ x) x
printed_byte_reads b x h = byte_reads b x (eqb b 34) (eqb b 92) (leb 32 b && leb b 126) refl refl refl h

printed_bytes : (s rest : List ℕ) → list_all (λ b. ltb b 256) s ≡ true → TextBytes s (flat_map printed_byte s ++ rest) rest
printed_bytes [] rest h = refl
printed_bytes (b ∷ s) rest h =
    let small : ltb b 256 ≡ true = first_so (ltb b 256) (list_all (λ c. ltb c 256) s) h in
    let one = printed_byte_reads b (flat_map printed_byte s ++ rest) (ltb-true b 256 small) in (
      flat_map printed_byte s ++ rest,
      subst (λ a. TextByte b a (flat_map printed_byte s ++ rest)) (sym (append_assoc (printed_byte b) (flat_map printed_byte s) rest)) one,
      printed_bytes s rest (second_so (ltb b 256) (list_all (λ c. ltb c 256) s) h),
    )

-- tokens
token_here : (t : TheToken) (a x : List ℕ) → TokenAt t a x → Token t a x
token_here t a x h = (a, blank_none a, h)

blank_before : (t : TheToken) (a x : List ℕ) → Token t a x → Token t (32 ∷ a) x
blank_before t a x (start, blanks, at) = (start, record { blanks = 32 ∷ blanks.blanks; all = blanks.all; split = ap (λ q. 32 ∷ q) blanks.split }, at)

blank_before_value : (d : Datum) (a x : List ℕ) → SpellsValue d a x → SpellsValue d (32 ∷ a) x
blank_before_value (number z) a x h = blank_before (a_number z) a x h
blank_before_value (string s) a x h = blank_before (a_text s) a x h
blank_before_value (elements ds) a x (inside, last, o, v, c) = (inside, last, blank_before (a_mark 91) a inside o, v, c)
blank_before_value (fields ds) a x (inside, last, o, v, c) = (inside, last, blank_before (a_mark 123) a inside o, v, c)

more_stops : (ds : Data) (x : List ℕ) → StopsAt is_digit x → StopsAt is_digit (printed_more ds ++ x)
more_stops nothing_more x h = h
more_stops (also d ds) x h = refl

-- values
mutual
  pub value_reads : (d : Datum) (x : List ℕ) → is_printable d ≡ true → StopsAt is_digit x → SpellsValue d (printed_value d ++ x) x
  value_reads (number z) x h stops = token_here (a_number z) (signed_decimal z ++ x) x (printed_number z x h stops)
  value_reads (string s) x h stops =
      let inside : List ℕ = flat_map printed_byte s ++ (34 ∷ x) in
      let split : printed_text s ++ x ≡ 34 ∷ inside = ap (λ q. 34 ∷ q) (append_assoc (flat_map printed_byte s) (34 ∷ []) x) in
      token_here (a_text s) (printed_text s ++ x) x (inside, split, printed_bytes s (34 ∷ x) h)
  value_reads (elements ds) x h stops =
      let inside : List ℕ = printed_values ds ++ (93 ∷ x) in
      let split : printed_value (elements ds) ++ x ≡ 91 ∷ inside = ap (λ q. 91 ∷ q) (append_assoc (printed_values ds) (93 ∷ []) x) in
      (inside, 93 ∷ x, token_here (a_mark 91) (printed_value (elements ds) ++ x) inside (refl, split), values_read ds (93 ∷ x) h refl, token_here (a_mark 93) (93 ∷ x) x (refl, refl))
  value_reads (fields ds) x h stops =
      let inside : List ℕ = printed_values ds ++ (125 ∷ x) in
      let split : printed_value (fields ds) ++ x ≡ 123 ∷ inside = ap (λ q. 123 ∷ q) (append_assoc (printed_values ds) (125 ∷ []) x) in
      (inside, 125 ∷ x, token_here (a_mark 123) (printed_value (fields ds) ++ x) inside (refl, split), values_read ds (125 ∷ x) h refl, token_here (a_mark 125) (125 ∷ x) x (refl, refl))

  pub values_read : (ds : Data) (x : List ℕ) → are_printable ds ≡ true → StopsAt is_digit x → SpellsValues ds (printed_values ds ++ x) x
  values_read nothing_more x h stops = refl
  values_read (also d ds) x h stops =
      let next : List ℕ = printed_more ds ++ x in
      let one = value_reads d next (first_so (is_printable d) (are_printable ds) h) (more_stops ds x stops) in
      (next, subst (λ a. SpellsValue d a next) (sym (append_assoc (printed_value d) (printed_more ds) x)) one, more_read ds x (second_so (is_printable d) (are_printable ds) h) stops)

  pub more_read : (ds : Data) (x : List ℕ) → are_printable ds ≡ true → StopsAt is_digit x → SpellsMore ds (printed_more ds ++ x) x
  more_read nothing_more x h stops = refl
  more_read (also d ds) x h stops =
      let next : List ℕ = printed_more ds ++ x in
      let start : List ℕ = 32 ∷ ((printed_value d ++ printed_more ds) ++ x) in
      let one = value_reads d next (first_so (is_printable d) (are_printable ds) h) (more_stops ds x stops) in
      let here = subst (λ a. SpellsValue d a next) (sym (append_assoc (printed_value d) (printed_more ds) x)) one in
      (start, next, token_here (a_mark 44) (44 ∷ start) start (refl, refl), blank_before_value d ((printed_value d ++ printed_more ds) ++ x) next here, more_read ds x (second_so (is_printable d) (are_printable ds) h) stops)

pub call_reads : (name : List ℕ) (values : List Datum) → is_name name ≡ true → are_printable (data_from values) ≡ true → greatest_depth (data_from values) ≤ 20 → SpellsCall (printed_call name values) name values
call_reads name values word printable shallow =
    let inside : List ℕ = printed_values (data_from values) ++ (41 ∷ []) in
    record {
      start = printed_call name values;
      after = 40 ∷ inside;
      inside = inside;
      last = 41 ∷ [];
      end = [];
      before = blank_none (printed_call name values);
      word = word;
      named = refl;
      opens = token_here (a_mark 40) (40 ∷ inside) inside (refl, refl);
      spelled = values_read (data_from values) (41 ∷ []) printable refl;
      closes = token_here (a_mark 41) (41 ∷ []) [] (refl, refl);
      ends = blank_none [];
      nested = shallow;
    }
