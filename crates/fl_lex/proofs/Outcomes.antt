-- At most one outcome stands for a text.
use Rattle.std.proofs.Common.{◌≡◌, ℕ, ◌+◌, ◌≤◌, ◌==◌, ◌⊎◌, inl, inr, Bool, true, false, cond, eqb-true, List, [], ◌∷◌, ◌++◌, length, sym, refl, ap, ◌∙◌, subst, arith, append_assoc}
use Rattle.std.specs.List.{AllByRecursion}
use Rattle.std.specs.Cmp.{first_so}
use Rattle.std.proofs.lemmas.List.{length-append}
use Rattle.fl_lex.specs.Token.{TheToken}
use Rattle.fl_lex.specs.Spelling.{class_of, is_described, decimal_value, AllBytes, Has, IsLineComment, IsBlockComment, IsDescription, Item, gap, token, IsItem, Begins, Piece, InTurn, token_in, tokens_from, Spells}
use Rattle.fl_lex.specs.Outcome.{Fits, Stands, Flaw, no_token, open_comment, open_description, long_word, large_number, number_of, EndsLine, BeginsWith, lexed, lex_fault, OneOutcome}
use Rattle.fl_lex.specs.Item.{ItemFits}
use Rattle.fl_lex.specs.declared.token.TokenKind.TheVariants as kinds
use Rattle.fl_lex.specs.declared.class.ByteClass.{ByteClass}
use Rattle.fl_lex.specs.declared.class.ByteClass.TheVariants as classes
use Rattle.fl_lex.proofs.Cuts.{slash_is}
use Rattle.fl_lex.proofs.Runs.{Stops, run_longest}
use Rattle.fl_lex.proofs.Items.{shape_at, nonempty, quote_class, slash_class}
use Rattle.fl_lex.proofs.Classes.{letter_class, digit_is_digit}

-- the item that these bytes are, by the class of the first
abbrev item_for : ByteClass → List ℕ → Item
item_for classes.Letter bytes = token kinds.Word
item_for classes.Digit bytes = token (kinds.Number (decimal_value bytes))
item_for classes.Blank bytes = gap
item_for classes.Quote bytes = token kinds.Description
item_for classes.Slash bytes = gap
item_for (classes.Mark mark) bytes = token (kinds.Mark mark)
item_for classes.Other bytes = gap

named : (item : Item) (byte : ℕ) (more : List ℕ) → IsItem item (byte ∷ more) → item ≡ item_for (class_of byte) (byte ∷ more)
named gap byte more (inl (b, e, class)) =
    let same : byte ≡ b = cc in
    ap (λ k. item_for k (byte ∷ more)) (sym (ap class_of same ∙ class))
named gap byte more (inr (inl (inside, e, all))) =
    let same : byte ≡ 47 = cc in
    ap (λ k. item_for k (byte ∷ more)) (sym (ap class_of same ∙ slash_class))
named gap byte more (inr (inr (inside, e, none))) =
    let same : byte ≡ 47 = cc in
    ap (λ k. item_for k (byte ∷ more)) (sym (ap class_of same ∙ slash_class))
named (token kinds.Word) byte more is = ap (λ k. item_for k (byte ∷ more)) (sym (letter_class byte is.0))
named (token (kinds.Number value)) byte more is =
    let same : class_of byte ≡ classes.Digit = digit_is_digit byte (first_so _ _ is.1) in
    ap (λ v. token (kinds.Number v)) is.2 ∙ ap (λ k. item_for k (byte ∷ more)) (sym same)
named (token kinds.Description) byte more (inside, e, all) =
    let same : byte ≡ 34 = cc in
    ap (λ k. item_for k (byte ∷ more)) (sym (ap class_of same ∙ quote_class))
named (token (kinds.Mark mark)) byte more (b, e, class) =
    let same : byte ≡ b = cc in
    ap (λ k. item_for k (byte ∷ more)) (sym (ap class_of same ∙ class))

one_item : (some other : Item) (bytes : List ℕ) → IsItem some bytes → IsItem other bytes → some ≡ other
one_item some other [] is also = absurd (omega (arith, nonempty some [] is))
one_item some other (byte ∷ more) is also = named some byte more is ∙ sym (named other byte more also)

-- two ways to cut a text at the same place are one
same_cut : (a b c d : List ℕ) → a ++ b ≡ c ++ d → length a ≡ length c → (a ≡ c) × (b ≡ d)
same_cut [] b [] d e same = (refl, e)
same_cut [] b (y ∷ c) d e same = absurd (omega (arith, same))
same_cut (x ∷ a) b [] d e same = absurd (omega (arith, same))
same_cut (x ∷ a) b (y ∷ c) d e same =
    let tails : a ++ b ≡ c ++ d = cc in
    let heads : x ≡ y = cc in
    let rest = same_cut a b c d tails (omega (arith, same)) in
    ((λ i. heads i ∷ rest.0 i), rest.1)

pub one_beginning : (text : List ℕ) (some other : Item) (bytes more rest left : List ℕ) → Begins text some bytes rest → Begins text other more left → (some ≡ other) × (bytes ≡ more) × (rest ≡ left)
one_beginning text some other bytes more rest left begins also =
    let joined : bytes ++ rest ≡ more ++ left = begins.joined ∙ sym also.joined in
    let longer : length more ≤ length bytes = begins.longest other more left also.joined also.is_item in
    let shorter : length bytes ≤ length more = also.longest some bytes rest begins.joined begins.is_item in
    let same = same_cut bytes rest more left joined (omega (arith, longer, shorter)) in
    (one_item some other more (subst (λ (b : List ℕ). IsItem some b) same.0 begins.is_item) also.is_item, same.0, same.1)

-- where a flaw stands, no item within the limits begins the text

ends_stop : (rest : List ℕ) → EndsLine rest → Stops is_described rest
ends_stop [] ends = tt
ends_stop (byte ∷ rest) ends = ap is_described ends

open_description_blocks : (inside rest bytes left : List ℕ) → AllBytes is_described inside → EndsLine rest → bytes ++ left ≡ 34 ∷ (inside ++ rest) → IsDescription bytes → ⊥
open_description_blocks inside rest bytes left all ends e (ins, is, every) =
    let whole : (34 ∷ ins ++ (34 ∷ [])) ++ left ≡ 34 ∷ (inside ++ rest) = ap (λ (l : List ℕ). l ++ left) (sym is) ∙ e in
    let tails : (ins ++ (34 ∷ [])) ++ left ≡ inside ++ rest = cc in
    let flat : ins ++ (34 ∷ left) ≡ inside ++ rest = sym (append_assoc ins (34 ∷ []) left) ∙ tails in
    let shorter : length ins ≤ length inside = run_longest is_described ins (34 ∷ left) inside rest flat every (ends_stop rest ends) in
    let longer : length inside ≤ length ins = run_longest is_described inside rest ins (34 ∷ left) (sym flat) all refl in
    let same = same_cut ins (34 ∷ left) inside rest flat (omega (arith, shorter, longer)) in
    let ended : EndsLine (34 ∷ left) = subst EndsLine (sym same.1) ends in
    omega (arith, ended)

open_comment_blocks : (inside bytes left : List ℕ) → ¬ Has (42 ∷ 47 ∷ []) inside → bytes ++ left ≡ 47 ∷ 42 ∷ inside → IsLineComment bytes ⊎ IsBlockComment bytes → ⊥
open_comment_blocks inside bytes left none e (inl (ins, is, all)) =
    let whole : (47 ∷ 47 ∷ ins) ++ left ≡ 47 ∷ 42 ∷ inside = ap (λ (l : List ℕ). l ++ left) (sym is) ∙ e in
    let slash : ℕ = 47 in
    let wrong : slash ≡ 42 = cc in
    omega (arith, wrong)
open_comment_blocks inside bytes left none e (inr (ins, is, also)) =
    let whole : (47 ∷ 42 ∷ ins ++ (42 ∷ 47 ∷ [])) ++ left ≡ 47 ∷ 42 ∷ inside = ap (λ (l : List ℕ). l ++ left) (sym is) ∙ e in
    let tails : (ins ++ (42 ∷ 47 ∷ [])) ++ left ≡ inside = cc in
    none (ins, left, sym tails)

lone_slash_blocks : (text bytes left : List ℕ) → ¬ BeginsWith (47 ∷ 47 ∷ []) text → ¬ BeginsWith (47 ∷ 42 ∷ []) text → bytes ++ left ≡ text → IsLineComment bytes ⊎ IsBlockComment bytes → ⊥
lone_slash_blocks text bytes left no_line no_block e (inl (ins, is, all)) = no_line (ins ++ left, sym e ∙ ap (λ (l : List ℕ). l ++ left) is)
lone_slash_blocks text bytes left no_line no_block e (inr (ins, is, also)) = no_block ((ins ++ (42 ∷ 47 ∷ [])) ++ left, sym e ∙ ap (λ (l : List ℕ). l ++ left) is)

pub flaw_blocks : (flaw : Flaw) (text : List ℕ) (item : Item) (bytes rest : List ℕ) → Stands flaw text → Begins text item bytes rest → ItemFits item bytes → ⊥
flaw_blocks no_token text item bytes rest (byte, more, e, inl other) begins fits =
    shape_at classes.Other byte more item bytes rest other (begins.joined ∙ e) begins.is_item
flaw_blocks no_token text item bytes rest (byte, more, e, inr (slash, no_line, no_block)) begins fits =
    lone_slash_blocks text bytes rest no_line no_block begins.joined (shape_at classes.Slash byte more item bytes rest slash (begins.joined ∙ e) begins.is_item)
flaw_blocks open_comment text item bytes rest (inside, e, none) begins fits =
    open_comment_blocks inside bytes rest none (begins.joined ∙ e) (shape_at classes.Slash 47 (42 ∷ inside) item bytes rest slash_class (begins.joined ∙ e) begins.is_item)
flaw_blocks open_description text item bytes rest (inside, left, e, all, ends) begins fits =
    open_description_blocks inside left bytes rest all ends (begins.joined ∙ e) (shape_at classes.Quote 34 (inside ++ left) item bytes rest quote_class (begins.joined ∙ e) begins.is_item)
flaw_blocks long_word text item bytes rest (word, left, begun, long) begins fits =
    let same = one_beginning text item (token kinds.Word) bytes word rest left begins begun in
    let few : ItemFits (token kinds.Word) word = subst (λ k. ItemFits k word) same.0 (subst (λ (b : List ℕ). ItemFits item b) same.1 fits) in
    omega (arith, few, long)
flaw_blocks large_number text item bytes rest (digits, left, value, begun, large) begins fits =
    let same = one_beginning text item (token (kinds.Number value)) bytes digits rest left begins begun in
    let small : ItemFits (token (kinds.Number value)) digits = subst (λ k. ItemFits k digits) same.0 (subst (λ (b : List ℕ). ItemFits item b) same.1 fits) in
    omega (arith, small, large)

-- the flaw that stands at the beginning of a text, by its first two bytes
abbrev at_slash : List ℕ → Flaw
at_slash [] = no_token
at_slash (byte ∷ more) = cond (byte == 42) open_comment no_token

abbrev flaw_for : ByteClass → List ℕ → Flaw
flaw_for classes.Letter more = long_word
flaw_for classes.Digit more = large_number
flaw_for classes.Blank more = no_token
flaw_for classes.Quote more = open_description
flaw_for classes.Slash more = at_slash more
flaw_for (classes.Mark mark) more = no_token
flaw_for classes.Other more = no_token

flaw_named : (flaw : Flaw) (byte : ℕ) (more : List ℕ) → Stands flaw (byte ∷ more) → flaw ≡ flaw_for (class_of byte) more
flaw_named no_token byte more (b, m, e, inl other) =
    let same : byte ≡ b = cc in
    ap (λ k. flaw_for k more) (sym (ap class_of same ∙ other))
flaw_named no_token byte more (b, m, e, inr (slash, no_line, no_block)) =
    let same : byte ≡ b = cc in
    let class : class_of byte ≡ classes.Slash = ap class_of same ∙ slash in
    lone byte more (slash_is byte class) no_block ∙ ap (λ k. flaw_for k more) (sym class)
  where
    star : (x : ℕ) (t : Bool) → (x == 42) ≡ t → (x ≡ 42 → ⊥) → no_token ≡ cond t open_comment no_token
    star x true e no_star = absurd (no_star (eqb-true x 42 e))
    star x false e no_star = refl

    lone : (byte : ℕ) (more : List ℕ) → byte ≡ 47 → ¬ BeginsWith (47 ∷ 42 ∷ []) (byte ∷ more) → no_token ≡ at_slash more
    lone byte [] e no_block = refl
    lone byte (x ∷ more) e no_block = star x (x == 42) refl (λ is. no_block (more, (λ i. e i ∷ is i ∷ more)))
flaw_named open_comment byte more (inside, e, none) =
    let same : byte ≡ 47 = cc in
    let tails : more ≡ 42 ∷ inside = cc in
    sym (ap (λ (l : List ℕ). at_slash l) tails) ∙ ap (λ k. flaw_for k more) (sym (ap class_of same ∙ slash_class))
flaw_named open_description byte more (inside, rest, e, all, ends) =
    let same : byte ≡ 34 = cc in
    ap (λ k. flaw_for k more) (sym (ap class_of same ∙ quote_class))
flaw_named long_word byte more ([], rest, begun, long) = absurd begun.is_item
flaw_named long_word byte more (w ∷ word, rest, begun, long) =
    let joined : (w ∷ word) ++ rest ≡ byte ∷ more = begun.joined in
    let same : byte ≡ w = cc in
    ap (λ k. flaw_for k more) (sym (ap class_of same ∙ letter_class w begun.is_item.0))
flaw_named large_number byte more ([], rest, value, begun, large) = absurd (omega (arith, begun.is_item.0))
flaw_named large_number byte more (d ∷ digits, rest, value, begun, large) =
    let joined : (d ∷ digits) ++ rest ≡ byte ∷ more = begun.joined in
    let same : byte ≡ d = cc in
    ap (λ k. flaw_for k more) (sym (ap class_of same ∙ digit_is_digit d (first_so _ _ begun.is_item.1)))

nothing_stands : (flaw : Flaw) → Stands flaw [] → ⊥
nothing_stands no_token (byte, more, e, why) = cc
nothing_stands open_comment (inside, e, none) = cc
nothing_stands open_description (inside, rest, e, all, ends) = cc
nothing_stands long_word (word, rest, begun, long) = omega (arith, long, ap length begun.joined, length-append word rest)
nothing_stands large_number (digits, rest, value, begun, large) = omega (arith, nonempty (token (kinds.Number value)) digits begun.is_item, ap length begun.joined, length-append digits rest)

one_flaw : (some other : Flaw) (text : List ℕ) → Stands some text → Stands other text → some ≡ other
one_flaw some other [] stands also = absurd (nothing_stands some stands)
one_flaw some other (byte ∷ more) stands also = flaw_named some byte more stands ∙ sym (flaw_named other byte more also)

-- reading ends at a text's end and at a flaw
abbrev Ends : List ℕ → Type 0
Ends left = (left ≡ []) ⊎ ((flaw : Flaw) × Stands flaw left)

ends_block : (text : List ℕ) (item : Item) (bytes rest : List ℕ) → Ends text → Begins text item bytes rest → ItemFits item bytes → ⊥
ends_block text item bytes rest (inl e) begins fits =
    omega (arith, ap length e, ap length begins.joined, length-append bytes rest, nonempty item bytes begins.is_item)
ends_block text item bytes rest (inr (flaw, stands)) begins fits = flaw_blocks flaw text item bytes rest stands begins fits

abbrev PiecesFit : List Piece → Type 0
PiecesFit [] = Unit {0}
PiecesFit (piece ∷ pieces) = ItemFits piece.item piece.bytes × PiecesFit pieces

pieces_fit : (pieces : List Piece) (at : ℕ) → AllByRecursion Fits (tokens_from at pieces) → PiecesFit pieces
pieces_fit [] at fit = tt
pieces_fit (piece ∷ pieces) at fit =
    let parts = split piece.item fit in
    (parts.0, pieces_fit pieces (at + length piece.bytes) parts.1)
  where
    split : (item : Item) → AllByRecursion Fits (token_in at item piece.bytes ++ tokens_from (at + length piece.bytes) pieces) → ItemFits item piece.bytes × AllByRecursion Fits (tokens_from (at + length piece.bytes) pieces)
    split gap fit = (tt, fit)
    split (token kind) fit = (fit.0, fit.1)

same_pieces : (some other : List Piece) (text left rest : List ℕ) → InTurn some text left → InTurn other text rest → PiecesFit some → PiecesFit other → Ends left → Ends rest → (some ≡ other) × (left ≡ rest)
same_pieces [] [] text left rest turn also fit fits ends stops = (refl, sym turn ∙ also)
same_pieces [] (q ∷ qs) text left rest turn (after, begins, also) fit fits ends stops =
    absurd (ends_block text q.item q.bytes after (subst Ends (sym turn) ends) begins fits.0)
same_pieces (p ∷ ps) [] text left rest (after, begins, turn) also fit fits ends stops =
    absurd (ends_block text p.item p.bytes after (subst Ends (sym also) stops) begins fit.0)
same_pieces (p ∷ ps) (q ∷ qs) text left rest (after, begins, turn) (behind, begun, also) fit fits ends stops =
    let same = one_beginning text p.item q.item p.bytes q.bytes after behind begins begun in
    let more = same_pieces ps qs behind left rest (subst (λ (t : List ℕ). InTurn ps t left) same.2 turn) also fit.1 fits.1 ends stops in
    let heads : p ≡ q = λ i. record { item = same.0 i; bytes = same.1 i } in
    ((λ i. heads i ∷ more.0 i), more.1)

-- two spellings that both go as far as they can
pub same_spelling : (text : List ℕ) (some other : List TheToken) (left rest : List ℕ) → Spells text some left → Spells text other rest → AllByRecursion Fits some → AllByRecursion Fits other → Ends left → Ends rest → (some ≡ other) × (left ≡ rest)
same_spelling text some other left rest spelled also fit fits ends stops =
    let same = same_pieces spelled.pieces also.pieces text left rest spelled.in_turn also.in_turn
    (pieces_fit spelled.pieces 0 (subst (λ ts. AllByRecursion Fits ts) spelled.the_tokens fit))
    (pieces_fit also.pieces 0 (subst (λ ts. AllByRecursion Fits ts) also.the_tokens fits)) ends stops in
    (spelled.the_tokens ∙ ap (λ ps. tokens_from 0 ps) same.0 ∙ sym also.the_tokens, same.1)

pub one_outcome : OneOutcome
one_outcome text (lexed some) (lexed other) a b =
    let same = same_spelling text some.tokens other.tokens [] [] a.spelled b.spelled a.fits b.fits (inl refl) (inl refl) in
    let ends : some.end ≡ other.end = a.whole ∙ sym b.whole in
    let tokens : some ≡ other = λ i. record { tokens = same.0 i; end = ends i } in
    ap (λ t. lexed t) tokens
one_outcome text (lexed some) (lex_fault number offset) a (inl b) = absurd (omega (arith, a.short, b.0))
one_outcome text (lexed some) (lex_fault number offset) a (inr b) =
    let same = same_spelling text some.tokens b.tokens [] b.left a.spelled b.spelled a.fits b.fits (inl refl) (inr (b.flaw, b.stands)) in
    absurd (nothing_stands b.flaw (subst (λ (t : List ℕ). Stands b.flaw t) (sym same.1) b.stands))
one_outcome text (lex_fault number offset) (lexed other) (inl a) b = absurd (omega (arith, b.short, a.0))
one_outcome text (lex_fault number offset) (lexed other) (inr a) b =
    let same = same_spelling text a.tokens other.tokens a.left [] a.spelled b.spelled a.fits b.fits (inr (a.flaw, a.stands)) (inl refl) in
    absurd (nothing_stands a.flaw (subst (λ (t : List ℕ). Stands a.flaw t) same.1 a.stands))
one_outcome text (lex_fault number offset) (lex_fault n at) (inl a) (inl b) = cc
one_outcome text (lex_fault number offset) (lex_fault n at) (inl a) (inr b) = absurd (omega (arith, b.short, a.0))
one_outcome text (lex_fault number offset) (lex_fault n at) (inr a) (inl b) = absurd (omega (arith, a.short, b.0))
one_outcome text (lex_fault number offset) (lex_fault n at) (inr a) (inr b) =
    let same = same_spelling text a.tokens b.tokens a.left b.left a.spelled b.spelled a.fits b.fits (inr (a.flaw, a.stands)) (inr (b.flaw, b.stands)) in
    let flaws : a.flaw ≡ b.flaw = one_flaw a.flaw b.flaw b.left (subst (λ (t : List ℕ). Stands a.flaw t) same.1 a.stands) b.stands in
    let numbers : number ≡ n = a.numbered ∙ ap number_of flaws ∙ sym b.numbered in
    let places : offset ≡ at = omega (arith, a.place, b.place, ap length same.1) in
    (λ i. lex_fault (numbers i) (places i))
