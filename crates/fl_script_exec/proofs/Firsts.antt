-- A script with a byte has an item.
use Rattle.std.proofs.Common.{◌≡◌, inl, inr, ◌<◌, List, [], ◌∷◌, ◌++◌, ℕ, Bool, true, false, length, arith, refl}
use Rattle.std.specs.Prelude.{◌==◌}
use Rattle.fl_value_data.specs.declared.value.PlanNo.{PlanNo}
use Rattle.fl_script_lines.specs.Grammar.{Line, silent, heading, command, unread}
use Rattle.fl_script_lines.specs.Items.{Item, a_line, a_block, open_block, outside, inside, put_first, lines_of, Behind, Items, ItemsOf}

abbrev pub HasItem : List Item → Type 0
HasItem items = (item : Item) × (more : List Item) × (items ≡ item ∷ more)

inside_first : (lines : List (List ℕ)) (plan : PlanNo) (text : List ℕ) (items : List Item) → Items lines (inside plan text) items → HasItem items
inside_first [] plan text items h = (open_block, [], h)
inside_first (line ∷ lines) plan text items (inl (ends, rest, more, e)) = (a_block plan text, rest, e)
inside_first (line ∷ lines) plan text items (inr (goes, more)) = inside_first lines plan (text ++ line) items more

behind_first : (l : Line) (lines : List (List ℕ)) (items : List Item) → Behind l (Items lines) items → HasItem items
behind_first (heading plan) lines items h = inside_first lines plan [] items h
behind_first silent lines items (rest, more, e) = (a_line silent, rest, e)
behind_first (command c) lines items (rest, more, e) = (a_line (command c), rest, e)
behind_first unread lines items (rest, more, e) = (a_line unread, rest, e)

lines_first : (lines : List (List ℕ)) (items : List Item) → 0 < length lines → Items lines outside items → HasItem items
lines_first [] items some h = absurd (omega (arith, some))
lines_first (line ∷ lines) items some (bare, l, end, is, h) = behind_first l lines items h

by_feed : (b : ℕ) (l : List ℕ) (lines : List (List ℕ)) (t : Bool) → (b == 10) ≡ t → 0 < length (put_first b (l ∷ lines))
by_feed b l lines true e = rw e (omega arith)
by_feed b l lines false e = rw e (omega arith)

put_has_line : (b : ℕ) (lines : List (List ℕ)) → 0 < length (put_first b lines)
put_has_line b [] = omega arith
put_has_line b (l ∷ lines) = by_feed b l lines (b == 10) refl

has_line : (bytes : List ℕ) → 0 < length bytes → 0 < length (lines_of bytes)
has_line [] some = absurd (omega (arith, some))
has_line (b ∷ bytes) some = put_has_line b (lines_of bytes)

pub has_item : (bytes : List ℕ) (items : List Item) → 0 < length bytes → ItemsOf bytes items → HasItem items
has_item bytes items some h = lines_first (lines_of bytes) items (has_line bytes some) h
