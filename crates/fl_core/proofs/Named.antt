-- Names of ends, and their slots in the table of places.
use Rattle.std.proofs.Common.{◌≡◌, ◌≢◌, refl, sym, ap, ◌∙◌, [], ◌∷◌, zero, suc, ℕ, ◌<◌, ◌≤◌, ◌⊎◌, inl, inr, nat_lt, Bool, true, false, if◌then◌else◌, List, length, slice_set, slice_index_or, Option, None, arith}
use Rattle.std.proofs.lemmas.List.{get_or-set_same, get_or-set_other}
use Rattle.fl_base.specs.declared.identity.Side.{Side}
use Rattle.fl_base.specs.declared.identity.Side.TheVariants.{Client, Server}
use Rattle.fl_base.specs.declared.identity.EndId.{EndId}
use Rattle.fl_hop.proofs.Cells.{less_is}
use Rattle.fl_hop.proofs.Entering.{same_or}
use Rattle.fl_core.specs.View.{side_number, slot_of, place_in}

few_side : (s : Side) → side_number s ≤ 1
few_side Client = omega arith
few_side Server = omega arith

same_side : (s t : Side) → side_number s ≡ side_number t → s ≡ t
same_side Client Client h = refl
same_side Server Server h = refl
same_side Client Server h = absurd (omega (arith, h))
same_side Server Client h = absurd (omega (arith, h))

-- no two names have one slot
pub same_name : (a b : EndId) → slot_of a ≡ slot_of b → a ≡ b
same_name a b h =
    let la = few_side a.side in
    let lb = few_side b.side in
    let bindings : a.binding ≡ b.binding = omega (arith, h, la, lb) in
    let numbers : side_number a.side ≡ side_number b.side = omega (arith, h, bindings) in
    ap (λ (n : ℕ). let e : EndId = record { binding = n; side = a.side } in e) bindings
    ∙ ap (λ (s : Side). let e : EndId = record { binding = b.binding; side = s } in e) (same_side a.side b.side numbers)

pub slot_below : (a : EndId) → a.binding < 1024 → slot_of a < 2048
slot_below a few = let la = few_side a.side in omega (arith, few, la)

if_true : {X : Type 0} (b : Bool) (x y : X) → b ≡ true → (if b then x else y) ≡ x
if_true true x y h = refl
if_true false x y h = absurd (cc)

-- what is put at a name's slot is found there, and elsewhere nothing changes
pub put_here : (places : List (Option ℕ)) (a : EndId) (x : Option ℕ) → length places ≡ 2048 → a.binding < 1024 → place_in (slice_set places (slot_of a) x) a ≡ x
put_here places a x long few =
    let below = slot_below a few in
    let within : slot_of a < length places = omega (arith, below, long) in
    if_true (nat_lt a.binding 1024) (slice_index_or (slice_set places (slot_of a) x) (slot_of a) None) None (less_is a.binding 1024 few)
    ∙ get_or-set_same places (slot_of a) x None within

pub put_elsewhere : (places : List (Option ℕ)) (a b : EndId) (x : Option ℕ) → slot_of b ≢ slot_of a → place_in (slice_set places (slot_of a) x) b ≡ place_in places b
put_elsewhere places a b x other =
    ap (λ (o : Option ℕ). if nat_lt b.binding 1024 then o else None) (get_or-set_other places (slot_of a) (slot_of b) x None other)

pub here_or_not : (a b : EndId) → (a ≡ b) ⊎ (slot_of a ≢ slot_of b)
here_or_not a b = elim (same_or (slot_of a) (slot_of b)) [
  | inl same ↦ inl (same_name a b same)
  | inr other ↦ inr other
]

none_set : (places : List (Option ℕ)) (i : ℕ) → slice_index_or places i None ≡ None → slice_set places i None ≡ places
none_set [] i h = refl
none_set (x ∷ places) zero h = ap (λ (y : Option ℕ). y ∷ places) (sym h)
none_set (x ∷ places) (suc i) h = ap (λ (ys : List (Option ℕ)). x ∷ ys) (none_set places i h)

-- where a name has no place, clearing its slot changes nothing
pub cleared : (places : List (Option ℕ)) (a : EndId) → a.binding < 1024 → place_in places a ≡ None → slice_set places (slot_of a) None ≡ places
cleared places a few none =
    none_set places (slot_of a) (sym (if_true (nat_lt a.binding 1024) (slice_index_or places (slot_of a) None) None (less_is a.binding 1024 few)) ∙ none)
