-- What is written of things one after another tells of each.
use Rattle.std.proofs.Common.{◌≡◌, ◌∙◌, ℕ, ◌+◌, ◌≤◌, List, [], ◌∷◌, ◌++◌, length, map, drop, refl, sym, ap, subst, append_assoc}
use Rattle.std.proofs.lemmas.List.{drop_all, append-nil}
use Rattle.flounder_show.specs.Table.{TellsEach}

-- some things are written behind what stood there, and what tells of the others tells behind them of all
pub record Told {A : Type 0} (tells : ℕ → A → List ℕ → Type 0) (all : List A) (number : ℕ) (left : List A) (start now : List ℕ) : Type 0 where
  pub lines : List ℕ
  pub written : now ≡ start ++ lines
  pub rest : (more : List ℕ) → TellsEach tells number left more → TellsEach tells 0 all (lines ++ more)

pub told_none : {A : Type 0} (tells : ℕ → A → List ℕ → Type 0) (all : List A) (start : List ℕ) → Told tells all 0 all start start
told_none tells all start = record { lines = []; written = sym (append-nil start); rest = λ more h. h }

pub told_one : {A : Type 0} (tells : ℕ → A → List ℕ → Type 0) (all : List A) (number : ℕ) (x : A) (left left' : List A) (start old new : List ℕ)
    → left ≡ x ∷ left' → Told tells all number left start old → (line : List ℕ) × tells number x line × (new ≡ old ++ line)
    → Told tells all (number + 1) left' start new
told_one tells all number x left left' start old new e t (line, h, w) = record {
  lines = t.lines ++ line;
  written = w ∙ ap (λ z. z ++ line) t.written ∙ append_assoc start t.lines line;
  rest = λ more m. subst (TellsEach tells 0 all) (sym (append_assoc t.lines line more))
      (t.rest (line ++ more) (subst (λ z. TellsEach tells number z (line ++ more)) (sym e) (line, more, h, m, refl)));
}

pub told_all : {A : Type 0} (tells : ℕ → A → List ℕ → Type 0) (all : List A) (number : ℕ) (left : List A) (start now : List ℕ)
    → left ≡ [] → Told tells all number left start now → (lines : List ℕ) × TellsEach tells 0 all lines × (now ≡ start ++ lines)
told_all tells all number left start now e t =
    (t.lines ++ [], t.rest [] (subst (λ z. TellsEach tells number z []) (sym e) refl), t.written ∙ ap (λ z. start ++ z) (sym (append-nil t.lines)))

pub none_left : {A B : Type 0} (f : A → B) (xs : List A) (n : ℕ) → length xs ≤ n → map f (drop n xs) ≡ []
none_left f xs n h = ap (map f) (drop_all n xs h)
