-- Lines of texts, and what is compared of them.
use Rattle.std.proofs.Common.{◌≡◌, ◌⊎◌, inl, inr, ℕ, zero, suc, ◌==◌, cond, get_or, ◌+◌, ◌<◌, Bool, true, false, if◌then◌else◌, List, [], ◌∷◌, ◌++◌, map, refl, sym, ap, ◌∙◌, length, take, drop, subst, arith, append_assoc}
use Rattle.std.proofs.lemmas.Bool.Decides.{nat_tests}
use Rattle.std.proofs.lemmas.List.Quantifiers.{position-Some}
use Rattle.std.proofs.lemmas.List.{append-nil}
use Rattle.std.specs.Prelude.{Some, None, position, slice_index_or}
use Rattle.std.specs.List.{All, flat_map}
use Rattle.std.proofs.lemmas.Grind.{flat_map-append}
use Rattle.fl_script_lines.specs.Answers.{line}
use Rattle.fl_cores_script.specs.Replays.{is_at, handled_at, first_word, HasNoFeed}
use Rattle.fl_cores_script.specs.Alike.{IsAmong, AlikeAt, OfEnd}

-- ---- words

word_by : (t : Bool) (b : ℕ) (text : List ℕ) → take (length (first_word text)) text ≡ first_word text
    → take (length (if t then [] else b ∷ first_word text)) (b ∷ text) ≡ (if t then [] else b ∷ first_word text)
word_by true b text rest = refl
word_by false b text rest = ap (λ (z : List ℕ). b ∷ z) rest

pub word_is : (text : List ℕ) → take (length (first_word text)) text ≡ first_word text
word_is [] = refl
word_is (b ∷ text) = word_by (b == 32) b text (word_is text)

-- ---- lines

pub one_more : (text rest l behind : List ℕ) (ls : List (List ℕ)) → text ≡ flat_map line ls ++ rest → rest ≡ line l ++ behind
    → text ≡ flat_map line (ls ++ l ∷ []) ++ behind
one_more text rest l behind ls e q =
    let more : flat_map line (ls ++ l ∷ []) ≡ flat_map line ls ++ line l = flat_map-append line ls (l ∷ []) ∙ ap (λ (z : List ℕ). flat_map line ls ++ z) (append-nil (line l)) in
    e ∙ (ap (λ (z : List ℕ). flat_map line ls ++ z) q ∙ (sym (append_assoc (flat_map line ls) (line l) behind) ∙ ap (λ (z : List ℕ). z ++ behind) (sym more)))

pub cut_text : (text : List ℕ) (at : ℕ) → at < length text → (get_or text at 0 == 10) ≡ true → text ≡ line (take at text) ++ drop 1 (drop at text)
cut_text [] at below feed = absurd (omega (arith, below))
cut_text (b ∷ text) zero below feed = let is : b ≡ 10 = grind (arith, nat_tests, feed) in ap (λ (x : ℕ). x ∷ text) is
cut_text (b ∷ text) (suc at) below feed = ap (λ (z : List ℕ). b ∷ z) (cut_text text at (omega (arith, below)) feed)

none_before : (text : List ℕ) (at : ℕ) → ((k d : ℕ) → k < at → (get_or text k d == 10) ≡ false)
    → (k d : ℕ) → k < length (take at text) → (slice_index_or (take at text) k d == 10) ≡ false
none_before text zero none k d below = absurd (omega (arith, below))
none_before [] (suc at) none k d below = absurd (omega (arith, below))
none_before (b ∷ text) (suc at) none zero d below = none 0 d (omega arith)
none_before (b ∷ text) (suc at) none (suc k) d below = none_before text at (λ j e few. none (suc j) e (omega (arith, few))) k d (omega (arith, below))

pub line_at : (text : List ℕ) (at : ℕ) → position (λ b. b == 10) text ≡ Some at
    → (text ≡ line (take at text) ++ drop 1 (drop at text)) × HasNoFeed (take at text)
line_at text at found = (
  let s = position-Some (λ b. b == 10) text at 0 found in cut_text text at s.0 s.1,
  none_before text at (λ k d below. (position-Some (λ b. b == 10) text at d found).2 k below),
)

-- ---- ends

passed : (end l : List ℕ) (ls : List (List ℕ)) → is_at end l ≡ false → handled_at end (l ∷ ls) ≡ handled_at end ls
passed end l ls at = ap (λ (t : Bool). cond t (l ∷ handled_at end ls) (handled_at end ls)) at

pub here : (end l : List ℕ) (ls : List (List ℕ)) → is_at end l ≡ true → IsAmong (l ∷ ls) end
here end l ls at = λ none.
    let kept : handled_at end (l ∷ ls) ≡ l ∷ handled_at end ls = ap (λ (t : Bool). cond t (l ∷ handled_at end ls) (handled_at end ls)) at in
    let count : length (l ∷ handled_at end ls) ≡ 0 = ap (λ (z : List (List ℕ)). length z) (sym kept ∙ none) in
    omega (arith, count)

pub further : (end l : List ℕ) (ls : List (List ℕ)) → is_at end l ≡ false → IsAmong ls end → IsAmong (l ∷ ls) end
further end l ls at among = λ none. among (sym (passed end l ls at) ∙ none)

-- no line tells of an end, or one does
pub record HasOne (end : List ℕ) (ls : List (List ℕ)) : Type 0 where
  pub k : ℕ
  pub below : k < length ls
  pub at : is_at end (slice_index_or ls k []) ≡ true

find_by : (t : Bool) (end l : List ℕ) (ls : List (List ℕ)) → is_at end l ≡ t → (handled_at end ls ≡ []) ⊎ HasOne end ls
    → (handled_at end (l ∷ ls) ≡ []) ⊎ HasOne end (l ∷ ls)
find_by true end l ls at rest = inr (record { k = 0; below = omega arith; at = at })
find_by false end l ls at (inl none) = inl (passed end l ls at ∙ none)
find_by false end l ls at (inr one) = inr (record { k = suc one.k; below = let b = one.below in omega (arith, b); at = one.at })

find : (end : List ℕ) (ls : List (List ℕ)) → (handled_at end ls ≡ []) ⊎ HasOne end ls
find end [] = inl refl
find end (l ∷ ls) = find_by (is_at end l) end l ls refl (find end ls)

-- where none of the firsts tells of an end, none of the lines does whose ends are among theirs
none_in : (fs zs : List (List ℕ)) (end : List ℕ) → All (OfEnd (IsAmong fs)) zs → handled_at end fs ≡ []
    → (handled_at end zs ≡ []) ⊎ HasOne end zs → handled_at end zs ≡ []
none_in fs zs end among none (inl is) = is
none_in fs zs end among none (inr one) = absurd (among one.k [] one.below end one.at none)

by_found : (fs xs ys : List (List ℕ)) (end : List ℕ) → All (OfEnd (IsAmong fs)) xs → All (OfEnd (IsAmong fs)) ys
    → All (OfEnd (AlikeAt xs ys)) fs → (handled_at end fs ≡ []) ⊎ HasOne end fs → AlikeAt xs ys end
by_found fs xs ys end in_x in_y alike (inr one) = alike one.k [] one.below end one.at
by_found fs xs ys end in_x in_y alike (inl none) = none_in fs xs end in_x none (find end xs) ∙ sym (none_in fs ys end in_y none (find end ys))

pub each_alike : (fs xs ys : List (List ℕ)) → All (OfEnd (IsAmong fs)) xs → All (OfEnd (IsAmong fs)) ys → All (OfEnd (AlikeAt xs ys)) fs
    → (end : List ℕ) → AlikeAt xs ys end
each_alike fs xs ys in_x in_y alike end = by_found fs xs ys end in_x in_y alike (find end fs)
