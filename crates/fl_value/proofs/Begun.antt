-- A text that is appended in pieces: what is left of it, and what stands where a piece is refused.
use Rattle.std.proofs.Common.{◌≡◌, ◌++◌, List, [], ℕ, cond, refl, sym, ap, ◌∙◌, append_assoc, append-nil}
use Rattle.std.specs.Prelude.{Result, Ok, Err, OnOk, OnErr, is_ok}
use Rattle.fl_value.specs.Printed.{BeginsToAppend}

-- a prefix of the text was appended, and this of it is left
abbrev pub IsLeft : List ℕ → List ℕ → List ℕ → List ℕ → Type 0
IsLeft old new text left = (prefix : List ℕ) × (text ≡ prefix ++ left) × (new ≡ old ++ prefix)

pub all_left : (old text : List ℕ) → IsLeft old old text text
all_left old text = ([], refl, sym (append-nil old))

pub one_piece_less : (old out new text left piece rest : List ℕ) → IsLeft old out text left → left ≡ piece ++ rest → new ≡ out ++ piece → IsLeft old new text rest
one_piece_less old out new text left piece rest (prefix, whole, was) split now = (
  prefix ++ piece,
  whole ∙ ap (λ (xs : List ℕ). prefix ++ xs) split ∙ sym (append_assoc prefix piece rest),
  now ∙ ap (λ (xs : List ℕ). xs ++ piece) was ∙ append_assoc old prefix piece,
)

pub none_left : (old new text left : List ℕ) → left ≡ [] → IsLeft old new text left → new ≡ old ++ text
none_left old new text left none (prefix, whole, was) =
    was ∙ ap (λ (xs : List ℕ). old ++ xs) (sym (append-nil prefix) ∙ ap (λ (xs : List ℕ). prefix ++ xs) (sym none) ∙ sym whole)

-- where a piece is refused
pub begun_piece : (old out new text left piece rest : List ℕ) → IsLeft old out text left → left ≡ piece ++ rest → BeginsToAppend out new piece → BeginsToAppend old new text
begun_piece old out new text left piece rest (prefix, whole, was) split (first, last, parts, now) = (
  prefix ++ first,
  last ++ rest,
  whole ∙ ap (λ (xs : List ℕ). prefix ++ xs) (split ∙ ap (λ (xs : List ℕ). xs ++ rest) parts ∙ append_assoc first last rest) ∙ sym (append_assoc prefix first (last ++ rest)),
  now ∙ ap (λ (xs : List ℕ). xs ++ first) was ∙ append_assoc old prefix first,
)

pub begun_left : (old out new text left : List ℕ) → IsLeft old out text left → new ≡ out → BeginsToAppend old new text
begun_left old out new text left (prefix, whole, was) same = (prefix, left, whole, same ∙ was)

pub not_begun : (old new text : List ℕ) → new ≡ old → BeginsToAppend old new text
not_begun old new text same = begun_left old old new text text (all_left old text) same

pub on_refusal : {T E P : Type 0} (r : Result T E) → P → OnErr r P
on_refusal (Ok x) p = tt
on_refusal (Err e) p = p

-- one append does all or nothing
pub begun_at_once : {T E : Type 0} (r : Result T E) (old new all text : List ℕ) → new ≡ cond (is_ok r) all old → OnErr r (BeginsToAppend old new text)
begun_at_once (Ok x) old new all text same = tt
begun_at_once (Err e) old new all text same = not_begun old new text same

pub printed_at_once : {T E : Type 0} (r : Result T E) (old new all text : List ℕ) → new ≡ cond (is_ok r) all old → all ≡ old ++ text → OnOk r (new ≡ old ++ text)
printed_at_once (Ok x) old new all text same whole = same ∙ whole
printed_at_once (Err e) old new all text same whole = tt
