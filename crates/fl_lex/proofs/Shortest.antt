-- No text of some tokens is shorter than these tokens joined.
use Rattle.std.proofs.Common.{◌≡◌, ℕ, ◌+◌, ◌≤◌, Bool, true, false, if◌then◌else◌, List, [], ◌∷◌, ◌++◌, length, map, sym, refl, ap, ◌∙◌, subst, arith, append_assoc}
use Rattle.std.specs.List.{AllByRecursion, list_all}
use Rattle.std.specs.Cmp.{first_so, second_so}
use Rattle.std.proofs.lemmas.List.{length-append}
use Rattle.fl_lex.specs.Token.{TheToken}
use Rattle.fl_lex.specs.Spelling.{decimal_value, AllBytes, IsWord, Item, gap, token, IsItem, Begins, Piece, InTurn, token_in, tokens_from}
use Rattle.fl_lex.specs.Words.{is_word_byte, is_digit}
use Rattle.fl_lex.proofs.Classes.{in_word, letter_in_word, word_byte_is, digit_is_digit}
use Rattle.fl_lex.specs.Outcome.{Fits, IsTokenIn, AreTokensIn}
use Rattle.fl_lex.specs.Joined.{Sign, sign_of, Edge, closed, to_digits, to_letters, edge_of, runs_into, joined_after, joined, IsSign, JoinedIsShortest}
use Rattle.fl_lex.specs.declared.token.TokenKind.{TokenKind}
use Rattle.fl_lex.specs.declared.token.TokenKind.TheVariants as kinds
use Rattle.fl_lex.proofs.Runs.{Stops}
use Rattle.fl_lex.proofs.Items.{nonempty}
use Rattle.fl_lex.proofs.Turns.{tokens_in}
use Rattle.fl_lex.proofs.Signs.{Stopped}

-- an edge costs a blank at most
cost : (edge : Edge) (signs : List Sign) → length (joined_after edge signs) ≤ 1 + length (joined_after closed signs)
cost edge [] = omega arith
cost edge (sign ∷ signs) = by_test (runs_into edge sign.kind)
  where
    by_test : (b : Bool) → length ((if b then (32 ∷ []) else []) ++ (sign.text ++ joined_after (edge_of sign.kind) signs)) ≤ 1 + length (sign.text ++ joined_after (edge_of sign.kind) signs)
    by_test true = omega arith
    by_test false = omega arith

-- A token is the longest, so what follows doesn't go on with it.

all_more : (p : ℕ → Bool) (bytes : List ℕ) (next : ℕ) → AllBytes p bytes → p next ≡ true → AllBytes p (bytes ++ next ∷ [])
all_more p [] next all e = rw e refl
all_more p (byte ∷ bytes) next all e =
    let others : list_all p (bytes ++ next ∷ []) ≡ true = all_more p bytes next (second_so (p byte) _ all) e in
    rw (first_so (p byte) _ all) others

word_more : (bytes : List ℕ) (next : ℕ) → IsWord bytes → is_word_byte next ≡ true → IsWord (bytes ++ next ∷ [])
word_more [] next is e = absurd is
word_more (byte ∷ bytes) next is e = (is.0, all_more is_word_byte bytes next is.1 e)

longer : (text bytes rest : List ℕ) (item other : Item) (next : ℕ) → Begins text item bytes (next ∷ rest) → IsItem other (bytes ++ next ∷ []) → ⊥
longer text bytes rest item other next begins is =
    omega (arith, begins.longest other (bytes ++ next ∷ []) rest (append_assoc bytes (next ∷ []) rest ∙ begins.joined) is, length-append bytes (next ∷ []))

word_stops : (text bytes rest : List ℕ) → Begins text (token kinds.Word) bytes rest → Stops is_word_byte rest
word_stops text bytes [] begins = tt
word_stops text bytes (next ∷ rest) begins = by_test (is_word_byte next) refl
  where
    by_test : (b : Bool) → is_word_byte next ≡ b → is_word_byte next ≡ false
    by_test false e = e
    by_test true e = absurd (longer text bytes rest (token kinds.Word) (token kinds.Word) next begins (word_more bytes next begins.is_item e))

number_stops : (value : ℕ) (text bytes rest : List ℕ) → Begins text (token (kinds.Number value)) bytes rest → Stops is_digit rest
number_stops value text bytes [] begins = tt
number_stops value text bytes (next ∷ rest) begins = by_test (is_digit next) refl
  where
    by_test : (b : Bool) → is_digit next ≡ b → is_digit next ≡ false
    by_test false e = e
    by_test true e =
        absurd (longer text bytes rest (token (kinds.Number value)) (token (kinds.Number (decimal_value (bytes ++ next ∷ [])))) next begins
        (omega (arith, length-append bytes (next ∷ [])), all_more is_digit bytes next begins.is_item.1 e, refl))

token_stops : (kind : TokenKind) (text bytes rest : List ℕ) → Begins text (token kind) bytes rest → Stopped (edge_of kind) rest
token_stops kinds.Word text bytes rest begins = word_stops text bytes rest begins
token_stops (kinds.Number value) text bytes rest begins = number_stops value text bytes rest begins
token_stops kinds.Description text bytes rest begins = tt
token_stops (kinds.Mark mark) text bytes rest begins = tt

-- What doesn't go on with a token needs no blank behind it.
needs_none : (edge : Edge) (kind : TokenKind) (bytes rest : List ℕ) → IsItem (token kind) bytes → Stopped edge (bytes ++ rest) → runs_into edge kind ≡ false
needs_none closed kind bytes rest is stopped = refl
needs_none to_digits kinds.Word bytes rest is stopped = refl
needs_none to_digits (kinds.Number value) [] rest is stopped = absurd (omega (arith, is.0))
needs_none to_digits (kinds.Number value) (byte ∷ bytes) rest is stopped = let yes : is_digit byte ≡ true = first_so (is_digit byte) _ is.1 in cc
needs_none to_digits kinds.Description bytes rest is stopped = refl
needs_none to_digits (kinds.Mark mark) bytes rest is stopped = refl
needs_none to_letters kinds.Word [] rest is stopped = absurd is
needs_none to_letters kinds.Word (byte ∷ bytes) rest is stopped = let yes = letter_in_word byte is.0 in cc
needs_none to_letters (kinds.Number value) [] rest is stopped = absurd (omega (arith, is.0))
needs_none to_letters (kinds.Number value) (byte ∷ bytes) rest is stopped =
    let yes = word_byte_is byte ∙ ap in_word (digit_is_digit byte (first_so (is_digit byte) _ is.1)) in cc
needs_none to_letters kinds.Description bytes rest is stopped = refl
needs_none to_letters (kinds.Mark mark) bytes rest is stopped = refl

one_more : (item : Item) (text bytes rest : List ℕ) (at : ℕ) (edge : Edge) (later : List TheToken) → Begins text item bytes rest → Stopped edge text
    → ((next : Edge) → Stopped next rest → length (joined_after next (map sign_of later)) ≤ length rest)
    → length (joined_after edge (map sign_of (token_in at item bytes ++ later))) ≤ length text
one_more gap text bytes rest at edge later begins stopped shorter =
    omega (arith, cost edge (map sign_of later), shorter closed tt, nonempty gap bytes begins.is_item, ap length begins.joined, length-append bytes rest)
one_more (token kind) text bytes rest at edge later begins stopped shorter =
    by_test (runs_into edge kind) (needs_none edge kind bytes rest begins.is_item (subst (λ (t : List ℕ). Stopped edge t) (sym begins.joined) stopped))
  where
    by_test : (b : Bool) → b ≡ false → length ((if b then (32 ∷ []) else []) ++ (bytes ++ joined_after (edge_of kind) (map sign_of later))) ≤ length text
    by_test true e = cc
    by_test false e =
        omega (arith, shorter (edge_of kind) (token_stops kind text bytes rest begins), ap length begins.joined, length-append bytes rest, length-append bytes (joined_after (edge_of kind) (map sign_of later)))

shortest_after : (pieces : List Piece) (text left : List ℕ) (at : ℕ) (edge : Edge) → Stopped edge text → InTurn pieces text left
    → length (joined_after edge (map sign_of (tokens_from at pieces))) ≤ length text
shortest_after [] text left at edge stopped turn = omega arith
shortest_after (piece ∷ pieces) text left at edge stopped (rest, begins, turn) =
    one_more piece.item text piece.bytes rest at edge (tokens_from (at + length piece.bytes) pieces) begins stopped
    (λ next ends. shortest_after pieces rest left (at + length piece.bytes) next ends turn)

are_signs : (text : List ℕ) (tokens : List TheToken) → AllByRecursion (IsTokenIn text) tokens → AllByRecursion Fits tokens → AllByRecursion IsSign (map sign_of tokens)
are_signs text [] each fits = tt
are_signs text (first ∷ tokens) each fits = (record { of_kind = each.0.of_kind; fits = fits.0 }, are_signs text tokens each.1 fits.1)

pub joined_is_shortest : JoinedIsShortest
joined_is_shortest text found lexed =
    let all : AreTokensIn text found = tokens_in text found lexed in (
      are_signs text found.tokens all.each all.fits,
      subst (λ ts. length (joined (map sign_of ts)) ≤ length text) (sym lexed.spelled.the_tokens) (shortest_after lexed.spelled.pieces text [] 0 closed tt lexed.spelled.in_turn),
    )
