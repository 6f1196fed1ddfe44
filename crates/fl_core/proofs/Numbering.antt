-- A core whose sides and queues have other numbers: what is known of it stays.
use Rattle.std.proofs.Common.{◌≡◌, refl, sym, ap, ◌∙◌, subst, ℕ, ◌+◌, zero, suc, List, [], ◌∷◌, length, map, slice_get, slice_set, Some, arith}
use Rattle.std.proofs.lemmas.List.{length-map, length-set}
use Rattle.fl_base.specs.declared.identity.EndId.{EndId}
use Rattle.fl_core.specs.declared.kind.ChannelKind.{ChannelKind}
use Rattle.fl_core.specs.declared.wiring.EndWiring.{EndWiring}
use Rattle.fl_core.specs.declared.wiring.EndWiring.TheVariants.{Queues, Ring, Circuit}
use Rattle.fl_core.specs.declared.wiring.WiredEnd.{WiredEnd}
use Rattle.fl_core.specs.declared.wiring.LinkSide.{LinkSide}
use Rattle.fl_core.specs.View.{TheCore, kind_of, arrivals_by, place_of}
use Rattle.fl_core.specs.Sound.{IsCore, IsWired, IsPlaced, kinds_wired}
use Rattle.fl_core.specs.Numbers.{moved_link_side, moved_wiring, moved_wired_end, renumbered}

-- ---- a list whose first elements are changed, so many of them

abbrev pub changed_to : {X : Type 0} → (X → X) → List X → ℕ → List X
changed_to f xs zero = xs
changed_to f [] (suc k) = []
changed_to f (x ∷ xs) (suc k) = f x ∷ changed_to f xs k

-- the next is as it was
next_is : {X : Type 0} (f : X → X) (xs : List X) (k : ℕ) → slice_get (changed_to f xs k) k ≡ slice_get xs k
next_is f [] zero = refl
next_is f [] (suc k) = refl
next_is f (x ∷ xs) zero = refl
next_is f (x ∷ xs) (suc k) = next_is f xs k

-- and then it is changed too
one_more : {X : Type 0} (f : X → X) (xs : List X) (k : ℕ) (x : X) → slice_get xs k ≡ Some x
    → slice_set (changed_to f xs k) k (f x) ≡ changed_to f xs (suc k)
one_more f [] k x is = absurd (cc)
one_more f (y ∷ xs) zero x is = let it : y ≡ x = cc in ap (λ z. f z ∷ xs) (sym it)
one_more f (y ∷ xs) (suc k) x is = ap (λ zs. f y ∷ zs) (one_more f xs k x is)

-- until all are
all_changed : {X : Type 0} (f : X → X) (xs : List X) → changed_to f xs (length xs) ≡ map f xs
all_changed f [] = refl
all_changed f (x ∷ xs) = ap (λ zs. f x ∷ zs) (all_changed f xs)

-- what stands in the changed list comes from the first one
pub record CameFrom {X Y : Type 0} (f : X → Y) (xs : List X) (k : ℕ) (y : Y) : Type 0 where
  pub first : X
  pub first_is : slice_get xs k ≡ Some first
  pub same : y ≡ f first

pub came_from : {X Y : Type 0} (f : X → Y) (xs : List X) (k : ℕ) (y : Y) → slice_get (map f xs) k ≡ Some y → CameFrom f xs k y
came_from f [] k y is = absurd (cc)
came_from f (x ∷ xs) zero y is = record { first = x; first_is = refl; same = cc }
came_from f (x ∷ xs) (suc k) y is =
    let it = came_from f xs k y is in
    record { first = it.first; first_is = it.first_is; same = it.same }

pub goes_to : {X Y : Type 0} (f : X → Y) (xs : List X) (k : ℕ) (x : X) → slice_get xs k ≡ Some x → slice_get (map f xs) k ≡ Some (f x)
goes_to f [] k x is = absurd (cc)
goes_to f (y ∷ xs) zero x is = let it : y ≡ x = cc in ap (λ z. Some (f z)) it
goes_to f (y ∷ xs) (suc k) x is = goes_to f xs k x is

-- ---- wirings

same_kind : (sides queues : List ℕ) (w : EndWiring) → kind_of (moved_wiring sides queues w) ≡ kind_of w
same_kind sides queues (Queues out from) = refl
same_kind sides queues (Ring side) = refl
same_kind sides queues (Circuit link arrivals) = refl

same_arrivals : (sides queues : List ℕ) (w : EndWiring) → arrivals_by (moved_wiring sides queues w) ≡ arrivals_by w
same_arrivals sides queues (Queues out from) = refl
same_arrivals sides queues (Ring side) = refl
same_arrivals sides queues (Circuit link arrivals) = refl

same_kinds : (sides queues : List ℕ) (wired_ends : List WiredEnd) → kinds_wired (map (moved_wired_end sides queues) wired_ends) ≡ kinds_wired wired_ends
same_kinds sides queues [] = refl
same_kinds sides queues (p ∷ wired_ends) =
    ap (λ (kind : ChannelKind). kind ∷ kinds_wired (map (moved_wired_end sides queues) wired_ends)) (same_kind sides queues p.wiring)
    ∙ ap (λ (kinds : List ChannelKind). kind_of p.wiring ∷ kinds) (same_kinds sides queues wired_ends)

still_wired : (sides queues : List ℕ) (k : TheCore) (w : EndWiring) → IsWired k w → IsWired (renumbered sides queues k) (moved_wiring sides queues w)
still_wired sides queues k (Queues out from) h = h
still_wired sides queues k (Ring side) h = h
still_wired sides queues k (Circuit link arrivals) h = (omega (arith, h.0, length-map k.link_sides (moved_link_side sides)), h.1)

-- ---- the core

pub renumbered_kept : (sides queues : List ℕ) (k : TheCore) → IsCore k → IsCore (renumbered sides queues k)
renumbered_kept sides queues k sound = record {
  kinds = sound.kinds ∙ sym (same_kinds sides queues k.wired_ends);
  link_sides = length-map k.link_sides (moved_link_side sides) ∙ sound.link_sides;
  slots = sound.slots;
  named = named;
  placed = placed;
  wired = wired;
  apart = apart;
} where
  wired_ends : List WiredEnd
  wired_ends = map (moved_wired_end sides queues) k.wired_ends

  named : (e : ℕ) (p : WiredEnd) → slice_get wired_ends e ≡ Some p → place_of k p.name ≡ Some e
  named e p is =
      let it = came_from (moved_wired_end sides queues) k.wired_ends e p is in
      ap (λ (q : WiredEnd). place_of k q.name) it.same ∙ sound.named e it.first it.first_is

  placed : (name : EndId) (e : ℕ) → place_of k name ≡ Some e → IsPlaced wired_ends name e
  placed name e is =
      let it = sound.placed name e is in
      record { wired_end = moved_wired_end sides queues it.wired_end; wired_end_is = goes_to (moved_wired_end sides queues) k.wired_ends e it.wired_end it.wired_end_is; name_is = it.name_is }

  wired : (e : ℕ) (p : WiredEnd) → slice_get wired_ends e ≡ Some p → IsWired (renumbered sides queues k) p.wiring
  wired e p is =
      let it = came_from (moved_wired_end sides queues) k.wired_ends e p is in
      subst (λ (q : WiredEnd). IsWired (renumbered sides queues k) q.wiring) (sym it.same) (still_wired sides queues k it.first.wiring (sound.wired e it.first it.first_is))

  arrivals : (p q : WiredEnd) (a : ℕ) → p ≡ moved_wired_end sides queues q → arrivals_by p.wiring ≡ Some a → arrivals_by q.wiring ≡ Some a
  arrivals p q a same is = sym (same_arrivals sides queues q.wiring) ∙ ap (λ (x : WiredEnd). arrivals_by x.wiring) (sym same) ∙ is

  apart : (e f a : ℕ) (p q : WiredEnd) → slice_get wired_ends e ≡ Some p → slice_get wired_ends f ≡ Some q → arrivals_by p.wiring ≡ Some a → arrivals_by q.wiring ≡ Some a → e ≡ f
  apart e f a p q ate atf pa qa =
      let x = came_from (moved_wired_end sides queues) k.wired_ends e p ate in
      let y = came_from (moved_wired_end sides queues) k.wired_ends f q atf in
      sound.apart e f a x.first y.first x.first_is y.first_is (arrivals p x.first a x.same pa) (arrivals q y.first a y.same qa)

-- with lists that are equal to those of the renumbered core
pub renumbered_is : (sides queues : List ℕ) (k : TheCore) (wired_ends : List WiredEnd) (link_sides : List LinkSide) → IsCore k
    → wired_ends ≡ map (moved_wired_end sides queues) k.wired_ends → link_sides ≡ map (moved_link_side sides) k.link_sides
    → IsCore (record { board = k.board; monitor = k.monitor; wired_ends = wired_ends; places = k.places; link_sides = link_sides; arrivals = k.arrivals })
renumbered_is sides queues k wired_ends link_sides sound wired_ends_are link_sides_are =
    subst (λ (ps : List WiredEnd). IsCore (record { board = k.board; monitor = k.monitor; wired_ends = ps; places = k.places; link_sides = link_sides; arrivals = k.arrivals })) (sym wired_ends_are)
    (subst (λ (ls : List LinkSide). IsCore (record { board = k.board; monitor = k.monitor; wired_ends = map (moved_wired_end sides queues) k.wired_ends; places = k.places; link_sides = ls; arrivals = k.arrivals })) (sym link_sides_are)
    (renumbered_kept sides queues k sound))

-- ---- a loop that changes each element in turn

-- what is known of the list while the first k are changed
pub record Changed {X : Type 0} (f : X → X) (xs now : List X) (k : ℕ) : Type 0 where
  pub so_far : now ≡ changed_to f xs k
  pub long : length now ≡ length xs

pub changed_none : {X : Type 0} (f : X → X) (xs : List X) → Changed f xs xs 0
changed_none f xs = record { so_far = refl; long = refl }

pub changed_one : {X : Type 0} (f : X → X) (xs now : List X) (k : ℕ) (x y : X) → Changed f xs now k → slice_get now k ≡ Some x → y ≡ f x
    → Changed f xs (slice_set now k y) (k + 1)
changed_one f xs now k x y is at same =
    let next : suc k ≡ k + 1 = omega arith in
    record {
      so_far = ap (λ z. slice_set now k z) same
          ∙ ap (λ zs. slice_set zs k (f x)) is.so_far
          ∙ one_more f xs k x (sym (next_is f xs k) ∙ ap (λ zs. slice_get zs k) (sym is.so_far) ∙ at)
          ∙ ap (changed_to f xs) next;
      long = length-set now k y ∙ is.long;
    }

pub changed_all : {X : Type 0} (f : X → X) (xs now : List X) (k : ℕ) → Changed f xs now k → length xs ≡ k → now ≡ map f xs
changed_all f xs now k is long = is.so_far ∙ ap (changed_to f xs) (sym long) ∙ all_changed f xs
