-- Each text has an outcome.
use Rattle.std.proofs.Common.{◌≡◌, ℕ, zero, suc, ◌+◌, ◌-◌, ◌<◌, ◌≤◌, ◌⊎◌, inl, inr, Bool, true, false, List, [], ◌∷◌, ◌++◌, length, get_or, take, drop, refl, sym, ap, ◌∙◌, arith, leb, eqb}
use Rattle.std.specs.List.{prefix_len, AllByRecursion}
use Rattle.std.proofs.lemmas.Bool.{leb-true, leb-false, eqb-true, eqb-false}
use Rattle.std.proofs.lemmas.List.{length-drop}
use Rattle.fl_lex.specs.Token.{TheToken}
use Rattle.fl_lex.specs.Spelling.{class_of, is_on_line, is_described, decimal_value, Item, gap, token, token_in, Spells}
use Rattle.fl_lex.specs.Words.{is_word_byte, is_digit}
use Rattle.fl_lex.specs.Outcome.{Fits, Flaw, no_token, open_comment, open_description, long_word, large_number, number_of, Stands, LexOutcome, lexed, lex_fault, Lexes, SomeOutcome}
use Rattle.fl_lex.specs.Item.{FirstIs, Cuts}
use Rattle.fl_lex.specs.declared.token.TokenKind.TheVariants as kinds
use Rattle.fl_lex.specs.declared.class.ByteClass.{ByteClass}
use Rattle.fl_lex.specs.declared.class.ByteClass.TheVariants as classes
use Rattle.fl_lex.proofs.Cuts.{word_cuts, word_too_long, number_cuts, number_too_large, described_cuts, described_open, line_cuts, block_cuts, block_open, lone_slash, mark_cuts, blank_cuts}
use Rattle.fl_lex.proofs.Lexing.{goes_on, still_fits, ends_at}
use Rattle.fl_lex.proofs.Turns.{spells_nothing}

-- an item within the limits, or a flaw, stands first in the text
abbrev First : List ℕ → Type 0
First text = ((item : Item) × (n : ℕ) × Cuts text item n) ⊎ ((flaw : Flaw) × Stands flaw text)

a_word : (text : List ℕ) → FirstIs classes.Letter text → First text
a_word text first = by_test (leb (prefix_len is_word_byte text) 64) refl
  where
    by_test : (b : Bool) → leb (prefix_len is_word_byte text) 64 ≡ b → First text
    by_test true few = inl (token kinds.Word, prefix_len is_word_byte text, word_cuts text _ first refl (leb-true _ _ few))
    by_test false many = inr (long_word, word_too_long text _ first refl (leb-false _ _ many))

a_number : (text : List ℕ) → FirstIs classes.Digit text → First text
a_number text first = by_test (leb (decimal_value (take (prefix_len is_digit text) text)) 1000000) refl
  where
    value : ℕ
    value = decimal_value (take (prefix_len is_digit text) text)

    by_test : (b : Bool) → leb (decimal_value (take (prefix_len is_digit text) text)) 1000000 ≡ b → First text
    by_test true few = inl (token (kinds.Number value), prefix_len is_digit text, number_cuts text _ _ first refl (leb-true _ _ few, refl))
    by_test false many = inr (large_number, number_too_large text _ first refl (λ small. omega (arith, leb-false _ _ many, small)))

a_description : (text : List ℕ) → FirstIs classes.Quote text → First text
a_description text first = by_test (leb (suc n) (length more)) (eqb (get_or more n 0) 34) refl refl
  where
    more : List ℕ
    more = drop 1 text

    n : ℕ
    n = prefix_len is_described more

    by_test : (some quote : Bool) → leb (suc n) (length more) ≡ some → eqb (get_or more n 0) 34 ≡ quote → First text
    by_test true true within last =
        inl (token kinds.Description, n + 2, described_cuts text more n refl first refl (leb-true _ _ within) (eqb-true _ _ last))
    by_test true false within other =
        inr (open_description, described_open text more n refl first refl (λ _ last. eqb-false _ _ other last))
    by_test false quote none last =
        inr (open_description, described_open text more n refl first refl (λ within _. omega (arith, within, leb-false _ _ none)))

-- where a comment ends that is open before these bytes, or that it doesn't
abbrev Ending : List ℕ → Type 0
Ending bytes =
    ((n : ℕ) × (n + 1 < length bytes) × (get_or bytes n 0 ≡ 42) × (get_or bytes (n + 1) 0 ≡ 47)
    × ((k : ℕ) → k < n → get_or bytes k 0 ≡ 42 → get_or bytes (k + 1) 0 ≡ 47 → ⊥))
    ⊎ ((k : ℕ) → k + 1 < length bytes → get_or bytes k 0 ≡ 42 → get_or bytes (k + 1) 0 ≡ 47 → ⊥)

one_later : (x : ℕ) (bytes : List ℕ) (k : ℕ) → get_or (x ∷ bytes) (suc k + 1) 0 ≡ get_or bytes (k + 1) 0
one_later x bytes k = let e : suc k + 1 ≡ suc (k + 1) = omega arith in ap (λ (j : ℕ). get_or (x ∷ bytes) j 0) e

module _ (x y : ℕ) (bytes : List ℕ) (no_end : x ≡ 42 → y ≡ 47 → ⊥) where
  not_before : (n : ℕ) → ((k : ℕ) → k < n → get_or (y ∷ bytes) k 0 ≡ 42 → get_or (y ∷ bytes) (k + 1) 0 ≡ 47 → ⊥)
      → (k : ℕ) → k < suc n → get_or (x ∷ y ∷ bytes) k 0 ≡ 42 → get_or (x ∷ y ∷ bytes) (k + 1) 0 ≡ 47 → ⊥
  not_before n none zero less star slash = no_end star slash
  not_before n none (suc k) less star slash = none k (omega (arith, less)) star (sym (one_later x (y ∷ bytes) k) ∙ slash)

  not_within : ((k : ℕ) → k + 1 < length (y ∷ bytes) → get_or (y ∷ bytes) k 0 ≡ 42 → get_or (y ∷ bytes) (k + 1) 0 ≡ 47 → ⊥)
      → (k : ℕ) → k + 1 < length (x ∷ y ∷ bytes) → get_or (x ∷ y ∷ bytes) k 0 ≡ 42 → get_or (x ∷ y ∷ bytes) (k + 1) 0 ≡ 47 → ⊥
  not_within none zero less star slash = no_end star slash
  not_within none (suc k) less star slash = none k (omega (arith, less)) star (sym (one_later x (y ∷ bytes) k) ∙ slash)

  later : Ending (y ∷ bytes) → Ending (x ∷ y ∷ bytes)
  later (inl (n, within, star, slash, none)) =
      inl (suc n, omega (arith, within), star, one_later x (y ∷ bytes) n ∙ slash, not_before n none)
  later (inr none) = inr (not_within none)

ending : (bytes : List ℕ) → Ending bytes
ending [] = inr (λ k less star slash. omega (arith, less))
ending (x ∷ []) = inr (λ k less star slash. omega (arith, less))
ending (x ∷ y ∷ bytes) = by_test (eqb x 42) (eqb y 47) refl refl (ending (y ∷ bytes))
  where
    by_test : (a b : Bool) → eqb x 42 ≡ a → eqb y 47 ≡ b → Ending (y ∷ bytes) → Ending (x ∷ y ∷ bytes)
    by_test true true star slash rest = inl (0, omega arith, eqb-true x 42 star, eqb-true y 47 slash, λ k less a b. omega (arith, less))
    by_test true false star other rest = later x y bytes (λ a b. eqb-false y 47 other b) rest
    by_test false b other slash rest = later x y bytes (λ a c. eqb-false x 42 other a) rest

a_slash : (text : List ℕ) → FirstIs classes.Slash text → First text
a_slash [] first = absurd first
a_slash (byte ∷ []) first =
    inr (no_token, lone_slash (byte ∷ []) first (λ some second. omega (arith, some)) (λ some second. omega (arith, some)))
a_slash (byte ∷ x ∷ tail) first = by_test (eqb x 47) (eqb x 42) refl refl
  where
    some : 1 < length (byte ∷ x ∷ tail)
    some = omega arith

    block : x ≡ 42 → Ending tail → First (byte ∷ x ∷ tail)
    block star (inl (n, within, first_byte, second_byte, none)) =
        inl (gap, n + 4, block_cuts (byte ∷ x ∷ tail) n first some star tail refl (within, first_byte, second_byte, none))
    block star (inr none) = inr (open_comment, block_open (byte ∷ x ∷ tail) first some star tail refl none)

    by_test : (line star : Bool) → eqb x 47 ≡ line → eqb x 42 ≡ star → First (byte ∷ x ∷ tail)
    by_test true star second other =
        inl (gap, prefix_len is_on_line tail + 2, line_cuts (byte ∷ x ∷ tail) _ first some (eqb-true x 47 second) tail refl refl)
    by_test false true other second = block (eqb-true x 42 second) (ending tail)
    by_test false false no_line no_block =
        inr (no_token, lone_slash (byte ∷ x ∷ tail) first (λ _ e. eqb-false x 47 no_line e) (λ _ e. eqb-false x 42 no_block e))

first_of : (byte : ℕ) (tail : List ℕ) → First (byte ∷ tail)
first_of byte tail = by_class (class_of byte) refl
  where
    by_class : (class : ByteClass) → class_of byte ≡ class → First (byte ∷ tail)
    by_class classes.Letter first = a_word (byte ∷ tail) first
    by_class classes.Digit first = a_number (byte ∷ tail) first
    by_class classes.Blank first = inl (gap, 1, blank_cuts (byte ∷ tail) (omega arith) first)
    by_class classes.Quote first = a_description (byte ∷ tail) first
    by_class classes.Slash first = a_slash (byte ∷ tail) first
    by_class (classes.Mark mark) first = inl (token (kinds.Mark mark), 1, mark_cuts (byte ∷ tail) mark (omega arith) first)
    by_class classes.Other first = inr (no_token, (byte, tail, refl, inl first))

abbrev SomeOf : List ℕ → Type 0
SomeOf text = (outcome : LexOutcome) × Lexes text outcome

-- what is left of a text is read by turns; there are at most so many
module _ (text : List ℕ) (short : length text ≤ 65536) where
  read_on : (turns : ℕ) (rest : List ℕ) (tokens : List TheToken) → length rest ≤ turns → length rest ≤ length text
      → Spells text tokens rest → AllByRecursion Fits tokens → SomeOf text
  read_on turns [] tokens few within spelled fits =
      (lexed (record { tokens = tokens; end = length text }), record { short = short; whole = refl; spelled = spelled; fits = fits })
  read_on zero (byte ∷ tail) tokens few within spelled fits = absurd (omega (arith, few))
  read_on (suc turns) (byte ∷ tail) tokens few within spelled fits = by_first (λ rest ts. read_on turns rest ts) (first_of byte tail)
    where
      rest : List ℕ
      rest = byte ∷ tail

      at : ℕ
      at = length text - length rest

      by_first : ((left : List ℕ) (ts : List TheToken) → length left ≤ turns → length left ≤ length text
          → Spells text ts left → AllByRecursion Fits ts → SomeOf text) → First rest → SomeOf text
      by_first go (inl (item, n, cut)) =
          let bytes = take n rest in
          let more = tokens ++ token_in at item bytes in
          let shorter = length-drop n rest in
          go (drop n rest) more (omega (arith, few, shorter, cut.nonempty)) (omega (arith, within, shorter))
          (goes_on text rest tokens more item n at bytes (drop n rest) cut refl refl within refl refl spelled)
          (still_fits text rest tokens more item n at bytes (drop n rest) cut refl refl fits)
      by_first go (inr (flaw, stands)) =
          (lex_fault (number_of flaw) at, inr (ends_at text rest tokens short within spelled fits flaw at at refl refl stands))

pub some_outcome : SomeOutcome
some_outcome text = by_length (leb (length text) 65536) refl
  where
    by_length : (b : Bool) → leb (length text) 65536 ≡ b → (outcome : LexOutcome) × Lexes text outcome
    by_length true few =
        let short = leb-true _ _ few in
        read_on text short (length text) text [] (omega arith) (omega arith) (spells_nothing text) tt
    by_length false many = (lex_fault 6 65536, inl (leb-false _ _ many, refl, refl))
