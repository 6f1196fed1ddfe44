-- The bindings of entries.
use Rattle.std.proofs.Common.{◌≡◌, ◌⊎◌, inl, inr, refl, sym, ap, ◌∙◌, ℕ, zero, suc, nat_lt, Bool, true, false, if◌then◌else◌, List, [], ◌∷◌, slice_set, slice_index_or, Option, Some, None, option_map}
use Rattle.fl_hop.specs.declared.entry.HopTarget.{HopTarget}
use Rattle.fl_hop.specs.declared.entry.HopTarget.TheVariants.{Link, End}
use Rattle.fl_hop.specs.declared.entry.Hop.{Hop}
use Rattle.fl_hop.specs.Joined.{Sound}
use Rattle.fl_hop.specs.Later.{Later, unanswered}
use Rattle.fl_hop.specs.Numbers.{Given, OpenedThere}
use Rattle.fl_hop.specs.Table.{TheCircuits, slot, hop_at, put_at, with_hops, with_entry, leading}
use Rattle.fl_hop.proofs.Answering.{numbers_apart}

-- ---- a new entry

set_index : (xs : List (Option Hop)) (i j : ℕ) (o : Option Hop) → (slice_index_or (slice_set xs i o) j None ≡ o) ⊎ (slice_index_or (slice_set xs i o) j None ≡ slice_index_or xs j None)
set_index [] i j o = inr refl
set_index (x ∷ xs) zero zero o = inl refl
set_index (x ∷ xs) zero (suc j) o = inr refl
set_index (x ∷ xs) (suc i) zero o = inr refl
set_index (x ∷ xs) (suc i) (suc j) o = set_index xs i j o

put_binding : (t : TheCircuits) (way : HopTarget) (o : Option Hop) (l n : ℕ) (h : Hop) → hop_at (with_hops t (put_at way o t.hops)) l n ≡ Some h → (o ≡ Some h) ⊎ (hop_at t l n ≡ Some h)
put_binding t (End e) o l n h at = inr at
put_binding t (Link m d) o l n h at = by (nat_lt n 2047) at where
  by : (b : Bool) → (if b then slice_index_or (slice_set t.hops (slot m.0 d.0) o) (slot l n) None else None) ≡ Some h
      → (o ≡ Some h) ⊎ ((if b then slice_index_or t.hops (slot l n) None else None) ≡ Some h)
  by true is = elim (set_index t.hops (slot m.0 d.0) (slot l n) o) [
    | inl same ↦ inl (sym same ∙ is)
    | inr old ↦ inr (sym old ∙ is)
  ]
  by false is = absurd (cc)

pub binding_in : (binding : ℕ) (ok : Bool) (way : HopTarget) (h : Hop) → leading binding ok way ≡ Some h → h.binding ≡ binding
binding_in binding ok way h is = let same : record { binding = binding; way = way; answered = ok } ≡ h = cc in sym (ap (λ (x : Hop). x.binding) same)

-- what stands where an entry was made is of its binding, or stood there before
pub entry_binding : (t : TheCircuits) (binding : ℕ) (ok : Bool) (a b : HopTarget) (l n : ℕ) (h : Hop) → hop_at (with_entry t binding ok a b) l n ≡ Some h → (h.binding ≡ binding) ⊎ (hop_at t l n ≡ Some h)
entry_binding t binding ok a b l n h at =
    let first : TheCircuits = with_hops t (put_at a (leading binding ok b) t.hops) in
    elim (put_binding first b (leading binding ok a) l n h at) [
      | inl new ↦ inl (binding_in binding ok a h new)
      | inr old ↦ elim (put_binding t a (leading binding ok b) l n h old) [
        | inl new ↦ inl (binding_in binding ok b h new)
        | inr older ↦ inr older
      ]
    ]

way_in : (binding : ℕ) (ok : Bool) (way : HopTarget) (h : Hop) → leading binding ok way ≡ Some h → h.way ≡ way
way_in binding ok way h is = let same : record { binding = binding; way = way; answered = ok } ≡ h = cc in sym (ap (λ (x : Hop). x.way) same)

-- and it leads one of the entry's two ways, or stood there before
pub entry_way : (t : TheCircuits) (binding : ℕ) (ok : Bool) (a b : HopTarget) (l n : ℕ) (h : Hop) → hop_at (with_entry t binding ok a b) l n ≡ Some h
    → (h.way ≡ a) ⊎ (h.way ≡ b) ⊎ (hop_at t l n ≡ Some h)
entry_way t binding ok a b l n h at =
    let first : TheCircuits = with_hops t (put_at a (leading binding ok b) t.hops) in
    elim (put_binding first b (leading binding ok a) l n h at) [
      | inl new ↦ inl (way_in binding ok a h new)
      | inr old ↦ elim (put_binding t a (leading binding ok b) l n h old) [
        | inl new ↦ inr (inl (way_in binding ok b h new))
        | inr older ↦ inr (inr older)
      ]
    ]

-- ---- an entry that stood

pub given_there : (t : TheCircuits) (l n : ℕ) (h : Hop) → Sound t → hop_at t l n ≡ Some h → Given t l n
given_there t l n h sound at = elim (sound.toward l n h.binding h.way (record { answered = h.answered; there = at })) [
  | inl x ↦ inl x.0
  | inr x ↦ inr x.0
]

pub map_some : (o : Option Hop) (y : Hop) → option_map unanswered o ≡ Some y → (x : Hop) × (o ≡ Some x) × (unanswered x ≡ y)
map_some None y h = absurd (cc)
map_some (Some x) y h = (x, refl, let e : unanswered x ≡ y = cc in e)

pub record Stood (t : TheCircuits) (l n binding : ℕ) : Type 0 where
  pub hop : Hop
  pub at : hop_at t l n ≡ Some hop
  pub binding_is : hop.binding ≡ binding

-- what stands at a number that was given stood there, of the same binding
pub old_entry : (t u : TheCircuits) (l n : ℕ) (h : Hop) → Later t u → Given t l n → hop_at u l n ≡ Some h → Stood t l n h.binding
old_entry t u l n h later given at = elim (later.kept l n given) [
  | inl same ↦ (let (x, there, is) = map_some (hop_at t l n) (unanswered h) (sym same ∙ ap (option_map unanswered) at) in
      record { hop = x; at = there; binding_is = ap (λ (y : Hop). y.binding) is })
  | inr gone ↦ (let clash : None ≡ Some h = sym gone ∙ at in absurd (cc))
]

-- a number of the neighbour's that was given before was its own
pub there_before : (t u : TheCircuits) (l n : ℕ) → Sound u → Later t u → Given t l n → OpenedThere u l n → OpenedThere t l n
there_before t u l n sound later (inl here) there = absurd (numbers_apart u sound l n (later.here l n here) there)
there_before t u l n sound later (inr before) there = before
