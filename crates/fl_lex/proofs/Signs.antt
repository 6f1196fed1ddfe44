-- Joined tokens are lexed as the same tokens.
use Rattle.std.proofs.Common.{◌∙◌, ◌≡◌, ℕ, Bool, true, false, if◌then◌else◌, List, [], ◌∷◌, ◌++◌, length, map, sym, refl, ap, subst}
use Rattle.std.specs.List.{AllByRecursion}
use Rattle.fl_lex.specs.Token.{TheTokens}
use Rattle.fl_lex.specs.Spelling.{class_of, IsItem, gap, token, Begins, Piece, InTurn, tokens_from, Spells}
use Rattle.fl_lex.specs.Words.{is_word_byte, is_digit}
use Rattle.fl_lex.proofs.Classes.{in_word, in_number, letter_class, word_byte_is, digit_is}
use Rattle.fl_lex.specs.Outcome.{Fits, IsLexed}
use Rattle.fl_lex.specs.Joined.{Sign, sign_of, Edge, closed, to_digits, to_letters, edge_of, runs_into, joined_after, joined, IsSign, JoinedLexes}
use Rattle.fl_lex.specs.declared.token.TokenKind.{TokenKind}
use Rattle.fl_lex.specs.declared.token.TokenKind.TheVariants as kinds
use Rattle.fl_lex.specs.declared.class.ByteClass.TheVariants as classes
use Rattle.fl_lex.proofs.Runs.{Stops}
use Rattle.fl_lex.proofs.Items.{word_begins, number_begins, mark_begins, blank_begins, description_begins}

blank_class : class_of 32 ≡ classes.Blank
unfolding class_of
blank_class = refl

-- the text doesn't go on with what stands before it
abbrev pub Stopped : Edge → List ℕ → Type 0
Stopped closed rest = Unit {0}
Stopped to_digits rest = Stops is_digit rest
Stopped to_letters rest = Stops is_word_byte rest

-- a token with its blank doesn't go on with what stands before it
one_stops : (edge : Edge) (kind : TokenKind) (text more : List ℕ) → IsItem (token kind) text
    → Stopped edge ((if runs_into edge kind then (32 ∷ []) else []) ++ (text ++ more))
one_stops closed kind text more is = tt
one_stops to_digits kinds.Word [] more is = absurd is
one_stops to_digits kinds.Word (byte ∷ text) more is = digit_is byte ∙ ap in_number (letter_class byte is.0)
one_stops to_digits (kinds.Number value) text more is = refl
one_stops to_digits kinds.Description text more (inside, is, all) =
    subst (λ (t : List ℕ). Stops is_digit (t ++ more)) (sym is) refl
one_stops to_digits (kinds.Mark mark) text more (byte, is, class) =
    subst (λ (t : List ℕ). Stops is_digit (t ++ more)) (sym is) (digit_is byte ∙ ap in_number class)
one_stops to_letters kinds.Word text more is = refl
one_stops to_letters (kinds.Number value) text more is = refl
one_stops to_letters kinds.Description text more (inside, is, all) =
    subst (λ (t : List ℕ). Stops is_word_byte (t ++ more)) (sym is) refl
one_stops to_letters (kinds.Mark mark) text more (byte, is, class) =
    subst (λ (t : List ℕ). Stops is_word_byte (t ++ more)) (sym is) (word_byte_is byte ∙ ap in_word class)

nothing_stops : (edge : Edge) → Stopped edge []
nothing_stops closed = tt
nothing_stops to_digits = tt
nothing_stops to_letters = tt

after_stops : (edge : Edge) (signs : List Sign) → AllByRecursion IsSign signs → Stopped edge (joined_after edge signs)
after_stops edge [] all = nothing_stops edge
after_stops edge (sign ∷ signs) all = one_stops edge sign.kind sign.text (joined_after (edge_of sign.kind) signs) all.0.of_kind

-- a token stands first, where what follows doesn't go on with it
sign_begins : (kind : TokenKind) (text rest : List ℕ) → IsItem (token kind) text → Stopped (edge_of kind) rest → Begins (text ++ rest) (token kind) text rest
sign_begins kinds.Word [] rest is stops = absurd is
sign_begins kinds.Word (byte ∷ more) rest is stops = word_begins byte more rest (letter_class byte is.0) is.1 stops
sign_begins (kinds.Number value) text rest is stops =
    subst (λ v. Begins (text ++ rest) (token (kinds.Number v)) text rest) (sym is.2) (number_begins text rest is.0 is.1 stops)
sign_begins kinds.Description text rest (inside, is, all) stops =
    let begun = description_begins inside rest all in
    subst (λ (t : List ℕ). Begins (t ++ rest) (token kinds.Description) t rest) (sym is)
    (subst (λ (t : List ℕ). Begins t (token kinds.Description) (34 ∷ inside ++ (34 ∷ [])) rest) (sym begun.joined) begun)
sign_begins (kinds.Mark mark) text rest (byte, is, class) stops =
    subst (λ (t : List ℕ). Begins (t ++ rest) (token (kinds.Mark mark)) t rest) (sym is) (mark_begins byte mark rest class)

abbrev blank : List Piece
blank = record { item = gap; bytes = 32 ∷ [] } ∷ []

abbrev piece_of : Sign → Piece
piece_of sign = record { item = token sign.kind; bytes = sign.text }

abbrev pieces_after : Edge → List Sign → List Piece
pieces_after edge [] = []
pieces_after edge (sign ∷ signs) = (if runs_into edge sign.kind then blank else []) ++ (piece_of sign ∷ pieces_after (edge_of sign.kind) signs)

in_turn_after : (edge : Edge) (signs : List Sign) → AllByRecursion IsSign signs → InTurn (pieces_after edge signs) (joined_after edge signs) []
in_turn_after edge [] all = refl
in_turn_after edge (sign ∷ signs) all = by_test (runs_into edge sign.kind) (in_turn_after (edge_of sign.kind) signs all.1)
  where
    rest : List ℕ
    rest = joined_after (edge_of sign.kind) signs

    here : Begins (sign.text ++ joined_after (edge_of sign.kind) signs) (token sign.kind) sign.text (joined_after (edge_of sign.kind) signs)
    here = sign_begins sign.kind sign.text (joined_after (edge_of sign.kind) signs) all.0.of_kind (after_stops (edge_of sign.kind) signs all.1)

    by_test : (b : Bool) → InTurn (pieces_after (edge_of sign.kind) signs) (joined_after (edge_of sign.kind) signs) []
        → InTurn ((if b then blank else []) ++ (piece_of sign ∷ pieces_after (edge_of sign.kind) signs)) ((if b then (32 ∷ []) else []) ++ (sign.text ++ joined_after (edge_of sign.kind) signs)) []
    by_test true turn =
        (sign.text ++ joined_after (edge_of sign.kind) signs, blank_begins 32 (sign.text ++ joined_after (edge_of sign.kind) signs) blank_class, (joined_after (edge_of sign.kind) signs, here, turn))
    by_test false turn = (joined_after (edge_of sign.kind) signs, here, turn)

signs_after : (edge : Edge) (signs : List Sign) (at : ℕ) → map sign_of (tokens_from at (pieces_after edge signs)) ≡ signs
signs_after edge [] at = refl
signs_after edge (sign ∷ signs) at = by_test (runs_into edge sign.kind) (λ n. signs_after (edge_of sign.kind) signs n)
  where
    by_test : (b : Bool) → ((n : ℕ) → map sign_of (tokens_from n (pieces_after (edge_of sign.kind) signs)) ≡ signs)
        → map sign_of (tokens_from at ((if b then blank else []) ++ (piece_of sign ∷ pieces_after (edge_of sign.kind) signs))) ≡ sign ∷ signs
    by_test true same = ap (λ ss. sign ∷ ss) (same _)
    by_test false same = ap (λ ss. sign ∷ ss) (same _)

fits_after : (edge : Edge) (signs : List Sign) (at : ℕ) → AllByRecursion IsSign signs → AllByRecursion Fits (tokens_from at (pieces_after edge signs))
fits_after edge [] at all = tt
fits_after edge (sign ∷ signs) at all = by_test (runs_into edge sign.kind) (λ n. fits_after (edge_of sign.kind) signs n all.1)
  where
    by_test : (b : Bool) → ((n : ℕ) → AllByRecursion Fits (tokens_from n (pieces_after (edge_of sign.kind) signs)))
        → AllByRecursion Fits (tokens_from at ((if b then blank else []) ++ (piece_of sign ∷ pieces_after (edge_of sign.kind) signs)))
    by_test true fit = (all.0.fits, fit _)
    by_test false fit = (all.0.fits, fit _)

pub joined_lexes : JoinedLexes
joined_lexes signs all short =
    let found : TheTokens = record { tokens = tokens_from 0 (pieces_after closed signs); end = length (joined signs) } in
    let spelled : Spells (joined signs) found.tokens [] = record { pieces = pieces_after closed signs; in_turn = in_turn_after closed signs all; the_tokens = refl } in
    let is : IsLexed (joined signs) found = record { short = short; whole = refl; spelled = spelled; fits = fits_after closed signs 0 all } in
    (found, is, signs_after closed signs 0)
