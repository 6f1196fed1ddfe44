-- The lines of a script and of its blocks, one after another.
use Rattle.std.proofs.Common.{◌≡◌, ◌≢◌, ◌<◌, inl, inr, ℕ, ◌+◌, Bool, true, false, List, [], ◌∷◌, ◌++◌, Option, None, Some, length, take, drop, get_or, refl, sym, ap, subst, ◌∙◌, arith, suc, zero, append_assoc, length-append}
use Rattle.std.proofs.lemmas.Bool.{false≢true}
use Rattle.std.proofs.lemmas.Bool.Decides.{nat_tests, not_from_Decides}
use Rattle.std.proofs.lemmas.List.{take_all, drop_all, length-take-le}
use Rattle.std.specs.Prelude.{nat_eq}
use Rattle.std.specs.Prelude.{codes}
use Rattle.std.specs.Str.{bytes_eq}
use Rattle.std.proofs.lemmas.Slice.Eq.{bytes_eq-Decides}
use Rattle.memchr.specs.Find.{NoneBefore, Nowhere, Passes, is_byte}
use Rattle.fl_value_data.specs.declared.value.PlanNo.{PlanNo}
use Rattle.fl_script_lines.specs.Grammar.{Line, silent, heading, command, unread, LineIs}
use Rattle.fl_script_lines.specs.Items.{put_first, lines_of, WithoutEnd, Item, a_line, a_block, open_block, EndsBlock, Mode, outside, inside, Behind, Items, ItemsOf, BlockOf, SomeItems, OneItems}
use Rattle.fl_script_lines.specs.Reading.{read_line, line_with}
use Rattle.fl_script_lines.specs.Commands.{Command}
use Rattle.fl_script_lines.proofs.GrammarLemmas.{one_line_is, line_is_read}
use Rattle.fl_script_lines.proofs.LineEnds.{some_text, one_text}

-- a line feed ends a line
feed_first : (ls : List (List ℕ)) → put_first 10 ls ≡ (10 ∷ []) ∷ ls
feed_first [] = refl
feed_first (l ∷ ls) = refl

other_first : (b : ℕ) (l : List ℕ) (ls : List (List ℕ)) → b ≢ 10 → put_first b (l ∷ ls) ≡ (b ∷ l) ∷ ls
other_first b l ls h = let e : nat_eq b 10 ≡ false = grind (arith, nat_tests, h) in rw e refl

-- the first line feed ends the first line
pub line_at : (i : ℕ) (bytes : List ℕ) → i < length bytes → ((k : ℕ) → k < i → get_or bytes k 0 ≢ 10) → get_or bytes i 0 ≡ 10
    → lines_of bytes ≡ take (suc i) bytes ∷ lines_of (drop (suc i) bytes)
line_at i [] h others feed = absurd (omega (arith, h))
line_at zero (b ∷ bytes) h others feed = rw feed (feed_first (lines_of bytes))
line_at (suc i) (b ∷ bytes) h others feed =
    let e = line_at i bytes (omega (arith, h)) (λ k below. others (suc k) (omega (arith, below))) feed in
    ap (put_first b) e ∙ other_first b _ _ (others zero (omega arith))

-- the same, as a search tells it
pub line_found : (i : ℕ) (bytes : List ℕ) → NoneBefore (Passes (is_byte 10) bytes) 0 (length bytes) i × Passes (is_byte 10) bytes i
    → lines_of bytes ≡ take (suc i) bytes ∷ lines_of (drop (suc i) bytes)
line_found i bytes (none, feed) =
    line_at i bytes none.high (λ k below same. none.before k (omega arith) below (rw same refl)) (grind (arith, nat_tests, feed))

pub none_found : (bytes : List ℕ) → Nowhere (Passes (is_byte 10) bytes) 0 (length bytes) → (k : ℕ) → k < length bytes → get_or bytes k 0 ≢ 10
none_found bytes none k below same = none k (omega arith) below (rw same refl)

-- with no line feed, all is one line
pub line_whole : (bytes : List ℕ) → 0 < length bytes → ((k : ℕ) → k < length bytes → get_or bytes k 0 ≢ 10) → lines_of bytes ≡ bytes ∷ []
line_whole [] h others = absurd (omega (arith, h))
line_whole (b ∷ []) h others = refl
line_whole (b ∷ c ∷ bytes) h others =
    let e = line_whole (c ∷ bytes) (omega arith) (λ k below. others (suc k) (omega (arith, below))) in
    ap (put_first b) e ∙ other_first b _ _ (others zero (omega arith))

pub line_rest : (bytes front back : List ℕ) → front ≡ take (length bytes) bytes → back ≡ drop (length bytes) bytes
    → 0 < length bytes → ((k : ℕ) → k < length bytes → get_or bytes k 0 ≢ 10) → lines_of bytes ≡ front ∷ lines_of back
line_rest bytes front back f b some others =
    rw (f, b, take_all (length bytes) bytes (omega arith), drop_all (length bytes) bytes (omega arith)) (line_whole bytes some others)

-- ---- what was taken

take_front : (xs ys : List ℕ) → take (length xs) (xs ++ ys) ≡ xs
take_front [] ys = refl
take_front (x ∷ xs) ys = ap (λ (z : List ℕ). x ∷ z) (take_front xs ys)

taken_more : (bytes rest line behind : List ℕ) (taken : ℕ) → bytes ≡ take taken bytes ++ rest → taken + length rest ≡ length bytes → rest ≡ line ++ behind
    → take (taken + length line) bytes ≡ take taken bytes ++ line
taken_more bytes rest line behind taken whole long split =
    let front : List ℕ = take taken bytes in
    let l : length front ≡ taken = length-take-le taken bytes (omega (arith, long)) in
    let all : bytes ≡ (front ++ line) ++ behind = whole ∙ (ap (λ (z : List ℕ). front ++ z) split ∙ sym (append_assoc front line behind)) in
    let n : taken + length line ≡ length (front ++ line) = ap (λ k. k + length line) (sym l) ∙ sym (length-append front line) in
    ap (λ k. take k bytes) n ∙ (ap (λ (z : List ℕ). take (length (front ++ line)) z) all ∙ take_front (front ++ line) behind)

-- ---- blocks

-- what is known within a block: so much was taken, and what the rest is, the whole is
pub record Within (bytes rest : List ℕ) (taken : ℕ) : Type 0 where
  pub items : (plan : PlanNo) (items : List Item) → BlockOf plan (take taken bytes) rest items → BlockOf plan [] bytes items
  pub whole : bytes ≡ take taken bytes ++ rest
  pub long : taken + length rest ≡ length bytes

goes_on : (plan : PlanNo) (text line : List ℕ) (lines : List (List ℕ)) (items : List Item) → (EndsBlock line → ⊥)
    → Items lines (inside plan (text ++ line)) items → Items (line ∷ lines) (inside plan text) items
goes_on plan text line lines items e h = inr (e, h)

stops : (plan : PlanNo) (text line : List ℕ) (lines : List (List ℕ)) (items : List Item) → EndsBlock line
    → Items lines outside items → Items (line ∷ lines) (inside plan text) (a_block plan text ∷ items)
stops plan text line lines items e h = inl (e, items, h, refl)

pub within_more : (bytes rest line behind : List ℕ) (taken : ℕ) → Within bytes rest taken
    → lines_of rest ≡ line ∷ lines_of behind → rest ≡ line ++ behind → (EndsBlock line → ⊥) → Within bytes behind (taken + length line)
within_more bytes rest line behind taken w lines split e =
    let more = taken_more bytes rest line behind taken w.whole w.long split in
    let sizes : length rest ≡ length line + length behind = ap (λ (z : List ℕ). length z) split ∙ length-append line behind in
    record {
      items = λ plan items h. w.items plan items
          (subst (λ (ls : List (List ℕ)). Items ls (inside plan (take taken bytes)) items) (sym lines)
          (goes_on plan (take taken bytes) line (lines_of behind) items e (subst (λ (t : List ℕ). Items (lines_of behind) (inside plan t) items) more h)));
      whole = w.whole ∙ (ap (λ (z : List ℕ). take taken bytes ++ z) split ∙ (sym (append_assoc (take taken bytes) line behind) ∙ ap (λ (z : List ℕ). z ++ behind) (sym more)));
      long = let size = w.long in omega (arith, size, sizes);
    }

-- ---- items

first_line : (bytes line bare behind : List ℕ) (l : Line) (items : List Item) → lines_of bytes ≡ line ∷ lines_of behind → WithoutEnd line bare
    → LineIs bare l → Behind l (Items (lines_of behind)) items → ItemsOf bytes items
first_line bytes line bare behind l items lines end is h = subst (λ (ls : List (List ℕ)). Items ls outside items) (sym lines) (bare, l, end, is, h)

-- the same of a line that was told from its words
behind_words : (o : Option Command) (lines : List (List ℕ)) (items : List Item) → Items lines outside items
    → Behind (line_with o) (Items lines) (a_line (line_with o) ∷ items)
behind_words None lines items h = (items, h, refl)
behind_words (Some c) lines items h = (items, h, refl)

pub line_of_words : (bytes line bare behind : List ℕ) (o : Option Command) → lines_of bytes ≡ line ∷ lines_of behind → WithoutEnd line bare
    → line_with o ≡ read_line bare → (items : List Item) → ItemsOf behind items → ItemsOf bytes (a_line (line_with o) ∷ items)
line_of_words bytes line bare behind o lines end told items h =
    first_line bytes line bare behind (line_with o) (a_line (line_with o) ∷ items) lines end
    (subst (λ (x : Line). LineIs bare x) (sym told) (line_is_read bare)) (behind_words o (lines_of behind) items h)

-- ---- some list of items

-- whether a line ends a block
pub ends_where : (line bare : List ℕ) → WithoutEnd line bare → bare ≡ codes "." → EndsBlock line
ends_where line bare end e = subst (λ (z : List ℕ). WithoutEnd line z) e end

pub ends_nowhere : (line bare : List ℕ) → WithoutEnd line bare → (bare ≡ codes "." → ⊥) → EndsBlock line → ⊥
ends_nowhere line bare end n h = n (one_text line bare (codes ".") end h)

pub other_text : (r : Bool) (a p q : List ℕ) → r ≡ bytes_eq a p → p ≡ q → r ≡ false → a ≡ q → ⊥
other_text r a p q is e f same =
    let yes = (bytes_eq-Decides a p).1 (same ∙ sym e) in
    absurd (false≢true (sym f ∙ (is ∙ yes)))

has_ended : (plan : PlanNo) (text line bare : List ℕ) (lines : List (List ℕ)) → WithoutEnd line bare → (t : Bool) → bytes_eq bare (codes ".") ≡ t
    → ((mode : Mode) → (items : List Item) × Items lines mode items) → (items : List Item) × Items (line ∷ lines) (inside plan text) items
has_ended plan text line bare lines end true t more =
    let rest = more outside in
    (a_block plan text ∷ rest.0, stops plan text line lines rest.0 (ends_where line bare end ((bytes_eq-Decides bare (codes ".")).0 t)) rest.1)
has_ended plan text line bare lines end false t more =
    let rest = more (inside plan (text ++ line)) in
    let is = bytes_eq-Decides bare (codes ".") in
    (rest.0, goes_on plan text line lines rest.0 (ends_nowhere line bare end (not_from_Decides (bytes_eq bare (codes ".")) is t)) rest.1)

has_behind : (l : Line) (lines : List (List ℕ)) → ((mode : Mode) → (items : List Item) × Items lines mode items)
    → (items : List Item) × Behind l (Items lines) items
has_behind (heading plan) lines more = more (inside plan [])
has_behind silent lines more = let rest = more outside in (a_line silent ∷ rest.0, (rest.0, rest.1, refl))
has_behind (command c) lines more = let rest = more outside in (a_line (command c) ∷ rest.0, (rest.0, rest.1, refl))
has_behind unread lines more = let rest = more outside in (a_line unread ∷ rest.0, (rest.0, rest.1, refl))

has_items : (lines : List (List ℕ)) (mode : Mode) → (items : List Item) × Items lines mode items
has_items [] outside = ([], refl)
has_items [] (inside plan text) = (open_block ∷ [], refl)
has_items (line ∷ lines) outside =
    let text = some_text line in
    let found = has_behind (read_line text.0) lines (has_items lines) in
    (found.0, (text.0, read_line text.0, text.1, line_is_read text.0, found.1))
has_items (line ∷ lines) (inside plan block) =
    let text = some_text line in
    has_ended plan block line text.0 lines text.1 (bytes_eq text.0 (codes ".")) refl (has_items lines)

pub some_items_is : SomeItems
some_items_is bytes = has_items (lines_of bytes) outside

-- ---- one list of items

Once : List (List ℕ) → Type 0
Once lines = (mode : Mode) (xs ys : List Item) → Items lines mode xs → Items lines mode ys → xs ≡ ys

same_first : (i : Item) (xs ys rest more : List Item) → xs ≡ i ∷ rest → ys ≡ i ∷ more → rest ≡ more → xs ≡ ys
same_first i xs ys rest more e f g = e ∙ (ap (λ (z : List Item). i ∷ z) g ∙ sym f)

behind_once : (lines : List (List ℕ)) → Once lines → (l : Line) (xs ys : List Item) → Behind l (Items lines) xs → Behind l (Items lines) ys → xs ≡ ys
unfolding Once
behind_once lines once (heading plan) xs ys h k = once (inside plan []) xs ys h k
behind_once lines once silent xs ys h k = same_first (a_line silent) xs ys h.0 k.0 h.2 k.2 (once outside h.0 k.0 h.1 k.1)
behind_once lines once (command c) xs ys h k = same_first (a_line (command c)) xs ys h.0 k.0 h.2 k.2 (once outside h.0 k.0 h.1 k.1)
behind_once lines once unread xs ys h k = same_first (a_line unread) xs ys h.0 k.0 h.2 k.2 (once outside h.0 k.0 h.1 k.1)

items_once : (lines : List (List ℕ)) → Once lines
unfolding Once
items_once [] outside xs ys h k = h ∙ sym k
items_once [] (inside plan text) xs ys h k = h ∙ sym k
items_once (line ∷ lines) outside xs ys (a, x, ea, ix, h) (b, y, eb, iy, k) =
    let text : a ≡ b = one_text line a b ea eb in
    let same : x ≡ y = one_line_is b x y (subst (λ (z : List ℕ). LineIs z x) text ix) iy in
    behind_once lines (items_once lines) y xs ys (subst (λ (l : Line). Behind l (Items lines) xs) same h) k
items_once (line ∷ lines) (inside plan text) xs ys (inl h) (inl k) = same_first (a_block plan text) xs ys h.1 k.1 h.3 k.3 (items_once lines outside h.1 k.1 h.2 k.2)
items_once (line ∷ lines) (inside plan text) xs ys (inl h) (inr k) = absurd (k.0 h.0)
items_once (line ∷ lines) (inside plan text) xs ys (inr h) (inl k) = absurd (h.0 k.0)
items_once (line ∷ lines) (inside plan text) xs ys (inr h) (inr k) = items_once lines (inside plan (text ++ line)) xs ys h.1 k.1

pub one_items_is : OneItems
unfolding Once
one_items_is bytes xs ys h k = items_once (lines_of bytes) outside xs ys h k
