-- Pieces in turn: one more piece, and what their bytes and tokens add up to.
use Rattle.std.proofs.Common.{◌≡◌, ℕ, ◌+◌, ◌<◌, ◌≤◌, List, [], ◌∷◌, ◌++◌, length, take, drop, sym, refl, ap, ◌∙◌, subst, arith, append_assoc}
use Rattle.std.specs.List.{AllByRecursion}
use Rattle.std.proofs.Math.Seq.{drop-append_seam, take-append_seam}
use Rattle.std.proofs.lemmas.List.{length-append, append-nil}
use Rattle.fl_lex.specs.Token.{TheToken, TheTokens}
use Rattle.fl_lex.specs.Spelling.{Item, gap, token, IsItem, Begins, Piece, InTurn, token_in, tokens_from, Spells}
use Rattle.fl_lex.specs.Outcome.{InOrder, IsTokenIn, AreTokensIn, IsLexed}
use Rattle.fl_lex.proofs.Items.{nonempty}

abbrev size : List Piece → ℕ
size [] = 0
size (piece ∷ pieces) = length piece.bytes + size pieces

size_left : (pieces : List Piece) (text left : List ℕ) → InTurn pieces text left → size pieces + length left ≡ length text
size_left [] text left e = omega (arith, ap length e)
size_left (piece ∷ pieces) text left (rest, begins, turn) =
    omega (arith, size_left pieces rest left turn, ap length begins.joined, length-append piece.bytes rest)

in_turn_more : (pieces : List Piece) (text left rest : List ℕ) (piece : Piece) → InTurn pieces text left → Begins left piece.item piece.bytes rest → InTurn (pieces ++ piece ∷ []) text rest
in_turn_more [] text left rest piece e begins = (rest, subst (λ t. Begins t piece.item piece.bytes rest) (sym e) begins, refl)
in_turn_more (first ∷ pieces) text left rest piece (after, begun, turn) begins = (after, begun, in_turn_more pieces after left rest piece turn begins)

tokens_from_more : (pieces : List Piece) (at : ℕ) (piece : Piece) → tokens_from at (pieces ++ piece ∷ []) ≡ tokens_from at pieces ++ token_in (at + size pieces) piece.item piece.bytes
tokens_from_more [] at piece = append-nil _ ∙ ap (λ n. token_in n piece.item piece.bytes) (let e : at ≡ at + 0 = omega arith in e)
tokens_from_more (first ∷ pieces) at piece =
    ap (λ ts. token_in at first.item first.bytes ++ ts) (tokens_from_more pieces (at + length first.bytes) piece)
    ∙ sym (append_assoc (token_in at first.item first.bytes) _ _)
    ∙ ap (λ n. token_in at first.item first.bytes ++ tokens_from (at + length first.bytes) pieces ++ token_in n piece.item piece.bytes) (let e : at + length first.bytes + size pieces ≡ at + (length first.bytes + size pieces) = omega arith in e)

pub spells_nothing : (text : List ℕ) → Spells text [] text
spells_nothing text = record { pieces = []; in_turn = refl; the_tokens = refl }

-- one more piece, at the offset where what is left begins
pub spells_more : (text : List ℕ) (tokens : List TheToken) (left : List ℕ) (item : Item) (bytes rest : List ℕ) (at : ℕ) → Spells text tokens left → Begins left item bytes rest → at + length left ≡ length text → Spells text (tokens ++ token_in at item bytes) rest
spells_more text tokens left item bytes rest at spelled begins place =
    let piece : Piece = record { item = item; bytes = bytes } in
    let here : 0 + size spelled.pieces ≡ at = omega (arith, size_left spelled.pieces text left spelled.in_turn) in
    record {
      pieces = spelled.pieces ++ piece ∷ [];
      in_turn = in_turn_more spelled.pieces text left rest piece spelled.in_turn begins;
      the_tokens = sym (tokens_from_more spelled.pieces 0 piece ∙ ap (λ n. tokens_from 0 spelled.pieces ++ token_in n item bytes) here ∙ ap (λ ts. ts ++ token_in at item bytes) (sym spelled.the_tokens));
    }

in_order_from : (ts : List TheToken) (low from end : ℕ) → low ≤ from → InOrder from ts end → InOrder low ts end
in_order_from [] low from end less order = omega (arith, less, order)
in_order_from (t ∷ ts) low from end less order = (omega (arith, less, order.0), order.1, order.2)

pieces_in_order : (pieces : List Piece) (text left : List ℕ) (at end : ℕ) → InTurn pieces text left → at + length text ≡ end + length left → InOrder at (tokens_from at pieces) end
pieces_in_order [] text left at end e place = omega (arith, ap length e)
pieces_in_order (piece ∷ pieces) text left at end (rest, begins, turn) place =
    let next : at + length piece.bytes + length rest ≡ end + length left = omega (arith, ap length begins.joined, length-append piece.bytes rest) in
    one_more piece.item (nonempty piece.item piece.bytes begins.is_item) (pieces_in_order pieces rest left (at + length piece.bytes) end turn next)
  where
    one_more : (item : Item) → 0 < length piece.bytes → InOrder (at + length piece.bytes) (tokens_from (at + length piece.bytes) pieces) end → InOrder at (token_in at item piece.bytes ++ tokens_from (at + length piece.bytes) pieces) end
    one_more gap some order = in_order_from _ at (at + length piece.bytes) end (omega arith) order
    one_more (token kind) some order = (omega arith, some, order)

-- the tokens of a text stand one behind another, up to the end of what is spelled
pub spells_in_order : (text : List ℕ) (tokens : List TheToken) (left : List ℕ) (end : ℕ) → Spells text tokens left → end + length left ≡ length text → InOrder 0 tokens end
spells_in_order text tokens left end spelled place =
    subst (λ ts. InOrder 0 ts end) (sym spelled.the_tokens) (pieces_in_order spelled.pieces text left 0 end spelled.in_turn (omega arith))

in_order_few : (ts : List TheToken) (from end : ℕ) → InOrder from ts end → from + length ts ≤ end
in_order_few [] from end order = omega (arith, order)
in_order_few (t ∷ ts) from end order = omega (arith, order.0, order.1, in_order_few ts (t.at + length t.text) end order.2)

piece_in : (prefix bytes rest text : List ℕ) → bytes ++ rest ≡ text → take (length bytes) (drop (length prefix) (prefix ++ text)) ≡ bytes
piece_in prefix bytes rest text e =
    ap (λ (l : List ℕ). take (length bytes) l) (drop-append_seam prefix text ∙ sym e) ∙ take-append_seam bytes rest

pieces_in : (prefix : List ℕ) (pieces : List Piece) (text left : List ℕ) → InTurn pieces text left → AllByRecursion (IsTokenIn (prefix ++ text)) (tokens_from (length prefix) pieces)
pieces_in prefix [] text left turn = tt
pieces_in prefix (piece ∷ pieces) text left (rest, begins, turn) =
    let joined : (prefix ++ piece.bytes) ++ rest ≡ prefix ++ text = append_assoc prefix piece.bytes rest ∙ ap (λ (l : List ℕ). prefix ++ l) begins.joined in
    let here : length (prefix ++ piece.bytes) ≡ length prefix + length piece.bytes = length-append prefix piece.bytes in
    let more : AllByRecursion (IsTokenIn (prefix ++ text)) (tokens_from (length prefix + length piece.bytes) pieces) =
    subst (λ n. AllByRecursion (IsTokenIn (prefix ++ text)) (tokens_from n pieces)) here
    (subst (λ (l : List ℕ). AllByRecursion (IsTokenIn l) (tokens_from (length (prefix ++ piece.bytes)) pieces)) joined (pieces_in (prefix ++ piece.bytes) pieces rest left turn)) in
    one_more piece.item begins.is_item (piece_in prefix piece.bytes rest text begins.joined) more
  where
    one_more : (item : Item) → IsItem item piece.bytes → take (length piece.bytes) (drop (length prefix) (prefix ++ text)) ≡ piece.bytes
        → AllByRecursion (IsTokenIn (prefix ++ text)) (tokens_from (length prefix + length piece.bytes) pieces)
        → AllByRecursion (IsTokenIn (prefix ++ text)) (token_in (length prefix) item piece.bytes ++ tokens_from (length prefix + length piece.bytes) pieces)
    one_more gap is there more = more
    one_more (token kind) is there more = (record { in_text = there; of_kind = is }, more)

-- what holds of the tokens of every text
pub tokens_in : (text : List ℕ) (found : TheTokens) → IsLexed text found → AreTokensIn text found
tokens_in text found lexed =
    let order : InOrder 0 found.tokens found.end = spells_in_order text found.tokens [] found.end lexed.spelled (omega (arith, lexed.whole)) in
    record {
      whole = lexed.whole;
      short = omega (arith, lexed.whole, lexed.short);
      few = omega (arith, in_order_few found.tokens 0 found.end order);
      in_order = order;
      each = subst (λ ts. AllByRecursion (IsTokenIn text) ts) (sym lexed.spelled.the_tokens) (pieces_in [] lexed.spelled.pieces text [] lexed.spelled.in_turn);
      fits = lexed.fits;
    }
