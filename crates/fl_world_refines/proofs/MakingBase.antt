-- How the laws go through what an event comes to in a world: by its tests, beside the machine's.
use Rattle.std.proofs.Common.{◌≡◌, refl, sym, ◌∙◌, ap, subst, ℕ, zero, suc, Bool, true, false, if◌then◌else◌, ◌||◌, List, [], ◌∷◌, ◌++◌, length, map, slice_get, Option, Some, None}
use Rattle.std.specs.Prelude.{is_some}
use Rattle.std.specs.List.{list_any}
use Rattle.fl_base.specs.Given.{given}
use Rattle.fl_model.specs.Events.{Answer, refused}
use Rattle.fl_model.specs.State.{State, StepOutcome, answers}
use Rattle.fl_world_refines.specs.View.{Given, If, TheWorld}
use Rattle.fl_world_refines.specs.Lending.{Refuses}
use Rattle.fl_world_refines.specs.ShowsState.{ShowsState}
use Rattle.fl_world_refines.specs.Laws.{Agrees}

-- ---- outcomes

pub refuses : (n : ℕ) (w w2 : TheWorld) (s : State) (a : Answer) → ShowsState w s → Refuses n w a w2 → Agrees (answers s (refused n)) a w2
refuses n w w2 s a h r = record { answer = sym r.0; showing = subst (λ v. ShowsState v s) (sym r.1) h }

pub by_if : (b c : Bool) (T E : Type 0) (x y : StepOutcome) (a : Answer) (w : TheWorld) → b ≡ c → (T → Agrees x a w)
    → (c ≡ false → E → Agrees y a w) → If b T E → Agrees (if c then x else y) a w
by_if true true T E x y a w q f g h = f h
by_if false false T E x y a w q f g h = g refl h
by_if true false T E x y a w q f g h = absurd (cc)
by_if false true T E x y a w q f g h = absurd (cc)

pub by_both : {X Y : Type 0} (o : Option X) (p : Option Y) (T : Type 0) (E : X → Type 0) (x : StepOutcome) (f : Y → StepOutcome) (a : Answer) (w : TheWorld)
    → is_some o ≡ is_some p → (T → Agrees x a w) → ((u : X) (v : Y) → o ≡ Some u → p ≡ Some v → E u → Agrees (f v) a w)
    → Given o T E → Agrees (given p x f) a w
by_both None None T E x f a w q k l h = k h
by_both (Some u) (Some v) T E x f a w q k l h = l u v refl refl h
by_both None (Some v) T E x f a w q k l h = absurd (cc)
by_both (Some u) None T E x f a w q k l h = absurd (cc)

-- ---- lists

pub map_at : {X Y : Type 0} (f : X → Y) (xs : List X) (n : ℕ) (y : Y) → slice_get (map f xs) n ≡ Some y → (x : X) × (slice_get xs n ≡ Some x) × (f x ≡ y)
map_at f [] n y h = absurd (cc)
map_at f (x ∷ xs) zero y h = (x, refl, (let e : f x ≡ y = cc in e))
map_at f (x ∷ xs) (suc n) y h = map_at f xs n y h

pub at_map : {X Y : Type 0} (f : X → Y) (xs : List X) (n : ℕ) (x : X) → slice_get xs n ≡ Some x → slice_get (map f xs) n ≡ Some (f x)
at_map f [] n x h = absurd (cc)
at_map f (y ∷ xs) zero x h = let e : y ≡ x = cc in ap (λ z. Some (f z)) e
at_map f (y ∷ xs) (suc n) x h = at_map f xs n x h

pub map_some : {X Y : Type 0} (f : X → Y) (xs : List X) (n : ℕ) → is_some (slice_get xs n) ≡ is_some (slice_get (map f xs) n)
map_some f [] n = refl
map_some f (x ∷ xs) zero = refl
map_some f (x ∷ xs) (suc n) = map_some f xs n

pub length_map : {X Y : Type 0} (f : X → Y) (xs : List X) → length (map f xs) ≡ length xs
length_map f [] = refl
length_map f (x ∷ xs) = ap suc (length_map f xs)

pub map_push : {X Y : Type 0} (f : X → Y) (xs : List X) (x : X) → map f (xs ++ x ∷ []) ≡ map f xs ++ f x ∷ []
map_push f [] x = refl
map_push f (y ∷ xs) x = ap (λ ys. f y ∷ ys) (map_push f xs x)

pub any_map : {X Y : Type 0} (f : X → Y) (p : Y → Bool) (xs : List X) → list_any (λ x. p (f x)) xs ≡ list_any p (map f xs)
any_map f p [] = refl
any_map f p (x ∷ xs) = ap (λ b. p (f x) || b) (any_map f p xs)

pub some_is : {X : Type 0} (x y : X) → Some x ≡ Some y → x ≡ y
some_is x y h = cc

pub same_found : {X : Type 0} (o : Option X) (x y : X) → o ≡ Some x → o ≡ Some y → x ≡ y
same_found o x y h k = some_is x y (sym h ∙ k)
