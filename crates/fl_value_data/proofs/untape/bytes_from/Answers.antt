use Rattle.std.proofs.Common.{◌≡◌, ℕ, Bool, true, false, List, ◌++◌, refl, ap, sym, ◌∙◌}
use Rattle.std.proofs.lemmas.List.Folds.{list_all-append}
use Rattle.std.specs.List.{list_all}
use Rattle.std.specs.Prelude.{◌&&◌}
use Rattle.fl_value_data.specs.Fits.{is_text_byte}
use Rattle.fl_value_data.proofs.untape.bytes_from.Goals.{then-not-branch-via-then-not-branch, then-not-branch-via-else-not-branch+then-not-are_text_bytes}
use Rattle.fl_value_data.proofs.untape.bytes_from.Goals as goal

and_no : (b : Bool) → (b && false) ≡ false
and_no true = refl
and_no false = refl

some_other : (xs ys zs : List ℕ) → xs ++ ys ≡ zs → list_all is_text_byte ys ≡ false → list_all is_text_byte zs ≡ false
some_other xs ys zs e other =
    sym (ap (list_all is_text_byte) e) ∙ list_all-append is_text_byte xs ys ∙ ap (λ (b : Bool). list_all is_text_byte xs && b) other ∙ and_no (list_all is_text_byte xs)

pub returns-then-not-branch-clause-none : goal.returns-then-not-branch-clause-none
returns-then-not-branch-clause-none c =
    let eights = c.push_eights.new.bytes.items in
    let rest = c.in_ok-rest.rest.now in
    let numbers = c.args.numbers.now in
    let whole : eights ++ rest ≡ numbers = c.in_ok-rest.ensures.put ∙ ap (λ (l : List ℕ). l ++ numbers) c.in_ok-bytes.ensures.items in
    elim c.then-not-branch.branch [
      | then-not-branch-via-then-not-branch w ↦ some_other eights rest numbers whole (c.in_ok-push_each.ensures.other w.if-not-branch.true)
      | then-not-branch-via-else-not-branch+then-not-are_text_bytes w ↦
          sym (ap (list_all is_text_byte) (w.deref.ensures.value ∙ c.in_ok-push_each.ensures.put w.if-not-branch.false ∙ whole))
          ∙ sym w.are_text_bytes.ensures.same ∙ w.if-not-are_text_bytes.true
    ]

pub returns-clause-found : goal.returns-clause-found
returns-clause-found c =
    let numbers = c.args.numbers.now in
    let whole : c.push_each.new.bytes.items ≡ numbers
    = c.in_ok-push_each.ensures.put c.if-not-branch.false ∙ c.in_ok-rest.ensures.put ∙ ap (λ (l : List ℕ). l ++ numbers) c.in_ok-bytes.ensures.items in
    (whole, sym (ap (list_all is_text_byte) (c.deref.ensures.value ∙ whole)) ∙ sym c.are_text_bytes.ensures.same ∙ c.if-not-are_text_bytes.false)
