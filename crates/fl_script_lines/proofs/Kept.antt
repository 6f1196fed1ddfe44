-- What stood in a text stays there, whatever is appended behind it.
use Rattle.std.proofs.Common.{true, false, ◌≡◌, ◌+◌, ◌<◌, ◌++◌, List, [], ℕ, get_or, sym, ap, ◌∙◌, append_assoc, append-nil, take, length}
use Rattle.std.proofs.lemmas.List.{take_more, flat_map_more}
use Rattle.std.specs.List.{flat_map}
use Rattle.std.proofs.Math.Seq.{take-append_seam}
use Rattle.std.specs.Prelude.{Result, Ok, Err, OnOk, OnErr, IsErr, is_ok, if◌then◌else◌}
use Rattle.fl_base.specs.Prefix.{IsPrefix}
use Rattle.fl_value.specs.Printed.{BeginsToAppend}

pub kept_same : (xs ys : List ℕ) → ys ≡ xs → IsPrefix xs ys
kept_same xs ys same = ([], same ∙ sym (append-nil xs))

pub kept_more : (xs ys more : List ℕ) → ys ≡ xs ++ more → IsPrefix xs ys
kept_more xs ys more same = (more, same)

pub kept_then : (xs ys zs : List ℕ) → IsPrefix xs ys → IsPrefix ys zs → IsPrefix xs zs
kept_then xs ys zs (first, one) (more, other) = (first ++ more, other ∙ (ap (λ (t : List ℕ). t ++ more) one ∙ append_assoc xs first more))

-- one append does all or nothing
pub kept_once : {T E : Type 0} (r : Result T E) (xs ys more : List ℕ) → ys ≡ (if is_ok r then xs ++ more else xs) → IsPrefix xs ys
kept_once (Ok _) xs ys more same = (more, same)
kept_once (Err _) xs ys more same = kept_same xs ys same

-- one that may stop inside its text
pub kept_text : {T E : Type 0} (r : Result T E) (xs ys text : List ℕ) → OnOk r (ys ≡ xs ++ text) → OnErr r (BeginsToAppend xs ys text) → IsPrefix xs ys
kept_text (Ok _) xs ys text all begun = (text, all)
kept_text (Err _) xs ys text all (prefix, rest, parts, same) = (prefix, same)

pub ruleset pieces = (kept_same, kept_more, kept_then, kept_once, kept_text)

-- what was appended is taken back
pub taken_back : (xs ys : List ℕ) → IsPrefix xs ys → take (length xs) ys ≡ xs
taken_back xs ys (more, same) = ap (take (length xs)) same ∙ take-append_seam xs more

-- ---- one append after another

-- where an append failed nothing is asked of the whole text
pub not_ok : {T E : Type 0} (P : Type 0) (r : Result T E) → IsErr r → OnOk r P
not_ok P (Ok _) err = absurd (let no : false ≡ true = err in cc)
not_ok P (Err _) err = tt

pub joined : (old mid new first more : List ℕ) → mid ≡ old ++ first → new ≡ mid ++ more → new ≡ old ++ (first ++ more)
joined old mid new first more one other = other ∙ (ap (λ (t : List ℕ). t ++ more) one ∙ append_assoc old first more)

pub then_ok : {T E : Type 0} (r : Result T E) (old mid new first more : List ℕ) → mid ≡ old ++ first → OnOk r (new ≡ mid ++ more) → OnOk r (new ≡ old ++ (first ++ more))
then_ok (Ok _) old mid new first more one other = joined old mid new first more one other
then_ok (Err _) old mid new first more one other = tt

pub then_kept : (old mid new first : List ℕ) → mid ≡ old ++ first → IsPrefix mid new → IsPrefix old new
then_kept old mid new first one more = kept_then old mid new (kept_more old mid first one) more

-- the text of one word more
pub word_more : (text : ℕ → List ℕ) (words : List ℕ) (n d : ℕ) (old mid new : List ℕ) → n < length words → mid ≡ old ++ flat_map text (take n words)
    → new ≡ mid ++ text (get_or words n d) → new ≡ old ++ flat_map text (take (n + 1) words)
word_more text words n d old mid new below one other =
    other ∙ (ap (λ (t : List ℕ). t ++ text (get_or words n d)) one
    ∙ (flat_map_more text old (take n words) (get_or words n d)
    ∙ ap (λ (ws : List ℕ). old ++ flat_map text ws) (sym (take_more words n d below))))
