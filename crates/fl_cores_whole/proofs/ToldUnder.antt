-- An end handles the same calls under other numbers: what it handles in the machine's run is told there too.
use Rattle.std.proofs.Common.{◌≡◌, refl, sym, ◌∙◌, ap, ℕ, ◌==◌, ◌&&◌, Bool, true, false, if◌then◌else◌, List, [], ◌∷◌, ◌++◌}
use Rattle.std.proofs.lemmas.Bool.{eq-eqb, eqb-true}
use Rattle.fl_base.specs.declared.identity.EndId.{EndId}
use Rattle.fl_value_data.specs.Value.{TheCall}
use Rattle.fl_model.specs.Events.{Answer, done, accepted, nothing, full, written, handle, part, ready, quiet, forwarded, opened, opening_refused, words, refused}
use Rattle.fl_model.specs.Runs.{Exchange, same_side, handled_in, calls_handled}
use Rattle.fl_cores_joined.specs.Renamed.{Renaming, end_under}
use Rattle.fl_cores_joined.specs.RenamedRuns.{answer_under, all_under}

module _ (r : Renaming) (e : EndId) where
  one_number : (a b : ℕ) → r.to a ≡ r.to b → a ≡ b
  one_number a b same = sym (r.there a) ∙ ap r.back same ∙ r.there b

  same_test : (a b : ℕ) → (r.to a == r.to b) ≡ (a == b)
  same_test a b = by (r.to a == r.to b) (a == b) refl refl
    where
      by : (x y : Bool) → (r.to a == r.to b) ≡ x → (a == b) ≡ y → (r.to a == r.to b) ≡ (a == b)
      by true true p q = p ∙ sym q
      by false false p q = p ∙ sym q
      by true false p q =
          let clash : true ≡ false = sym (eq-eqb a b (one_number a b (eqb-true (r.to a) (r.to b) p))) ∙ q in
          absurd (cc)
      by false true p q =
          let clash : true ≡ false = sym (eq-eqb (r.to a) (r.to b) (ap r.to (eqb-true a b q))) ∙ p in
          absurd (cc)

  by_answer : (answer : Answer) → handled_in (end_under r e) (answer_under r answer) ≡ handled_in e answer
  by_answer (handle f call) =
      ap (λ (b : Bool). if b && same_side e.side f.side then call ∷ [] else []) (same_test e.binding f.binding)
  by_answer done = refl
  by_answer accepted = refl
  by_answer nothing = refl
  by_answer full = refl
  by_answer (written k n) = refl
  by_answer (part f) = refl
  by_answer (ready f) = refl
  by_answer (quiet f) = refl
  by_answer forwarded = refl
  by_answer (opened f) = refl
  by_answer (opening_refused fault f) = refl
  by_answer (words frag) = refl
  by_answer (refused fault) = refl

  stay : (xs : List Exchange) → calls_handled (end_under r e) (all_under r xs) ≡ calls_handled e xs
  stay [] = refl
  stay (x ∷ xs) =
      ap (λ (l : List TheCall). l ++ calls_handled (end_under r e) (all_under r xs)) (by_answer x.answer)
      ∙ ap (λ (l : List TheCall). handled_in e x.answer ++ l) (stay xs)

-- Under other numbers an end handles just the calls that it handled, at its number there: no two bindings have one.
pub calls_stay : (renaming : Renaming) (e : EndId) (exchanges : List Exchange)
    → calls_handled (end_under renaming e) (all_under renaming exchanges) ≡ calls_handled e exchanges
calls_stay renaming e exchanges = stay renaming e exchanges
