-- An end of a circuit more, at a core under other numbers of bindings.
use Rattle.std.proofs.Common.{◌≡◌, ◌≢◌, inl, inr, refl, sym, ◌∙◌, ap, ℕ, zero, suc, ◌+◌, ◌*◌, ◌<◌, nat_lt, Bool, true, false, if◌then◌else◌, List, [], ◌∷◌, ◌++◌, length, map, slice_set, slice_index_or, Option, Some, None, arith}
use Rattle.std.proofs.lemmas.List.{map-append}
use Rattle.fl_base.specs.Numbered.{most_bindings}
use Rattle.fl_base.specs.declared.identity.EndId.{EndId}
use Rattle.fl_base.specs.declared.identity.LinkId.{LinkId}
use Rattle.fl_base.specs.declared.identity.Side.{Side}
use Rattle.fl_base.specs.declared.identity.Side.TheVariants.{Client, Server}
use Rattle.fl_hop.proofs.Entering.{same_or}
use Rattle.fl_core.specs.BoardView.{TheBoard}
use Rattle.fl_core.specs.View.{TheCore, side_number, slot_of, place_in, new_arrivals, circuit_wired_end, with_circuit_wired_end}
use Rattle.fl_core.specs.declared.wiring.WiredEnd.{WiredEnd}
use Rattle.fl_cores_joined.specs.Renamed.{CoreUnder, Renaming, reversed, end_under, wired_under}
use Rattle.fl_cores_joined.proofs.Joining.{long_set}
use Rattle.fl_cores_joined.proofs.RenamedTable.{few_same}

index_here : {X : Type 0} (xs : List X) (i : ℕ) (x d : X) → i < length xs → slice_index_or (slice_set xs i x) i d ≡ x
index_here [] i x d less = absurd (omega (arith, less))
index_here (y ∷ xs) zero x d less = refl
index_here (y ∷ xs) (suc i) x d less = index_here xs i x d (omega (arith, less))

index_other : {X : Type 0} (xs : List X) (i j : ℕ) (x d : X) → j ≢ i → slice_index_or (slice_set xs i x) j d ≡ slice_index_or xs j d
index_other [] i j x d other = refl
index_other (y ∷ xs) zero zero x d other = absurd (other refl)
index_other (y ∷ xs) zero (suc j) x d other = refl
index_other (y ∷ xs) (suc i) zero x d other = refl
index_other (y ∷ xs) (suc i) (suc j) x d other = index_other xs i j x d (λ e. other (ap suc e))

module _ (r : Renaming) where
  twice_over : (e : EndId) → end_under (reversed r) (end_under r e) ≡ e
  twice_over e = λ i. record { binding = r.there e.binding i; side = e.side }

  -- ends with one slot are one
  one_end : (e f : EndId) → slot_of e ≡ slot_of f → e ≡ f
  one_end e f same = by e.side f.side refl refl same
    where
      by : (a b : Side) → e.side ≡ a → f.side ≡ b → 2 * e.binding + side_number e.side ≡ 2 * f.binding + side_number f.side → e ≡ f
      by Client Client p q h =
          let one : 2 * e.binding + 0 ≡ 2 * f.binding + 0 =
          ap (λ (s : Side). 2 * e.binding + side_number s) (sym p) ∙ h ∙ ap (λ (s : Side). 2 * f.binding + side_number s) q in
          let number : e.binding ≡ f.binding = omega (arith, one) in
          let side = p ∙ sym q in
          λ i. record { binding = number i; side = side i }
      by Server Server p q h =
          let one : 2 * e.binding + 1 ≡ 2 * f.binding + 1 =
          ap (λ (s : Side). 2 * e.binding + side_number s) (sym p) ∙ h ∙ ap (λ (s : Side). 2 * f.binding + side_number s) q in
          let number : e.binding ≡ f.binding = omega (arith, one) in
          let side = p ∙ sym q in
          λ i. record { binding = number i; side = side i }
      by Client Server p q h =
          let one : 2 * e.binding + 0 ≡ 2 * f.binding + 1 =
          ap (λ (s : Side). 2 * e.binding + side_number s) (sym p) ∙ h ∙ ap (λ (s : Side). 2 * f.binding + side_number s) q in
          absurd (omega (arith, one))
      by Server Client p q h =
          let one : 2 * e.binding + 1 ≡ 2 * f.binding + 0 =
          ap (λ (s : Side). 2 * e.binding + side_number s) (sym p) ∙ h ∙ ap (λ (s : Side). 2 * f.binding + side_number s) q in
          absurd (omega (arith, one))

  slot_small : (e : EndId) → e.binding < 1024 → slot_of e < 2048
  slot_small e less = by e.side
    where
      by : (s : Side) → 2 * e.binding + side_number s < 2048
      by Client = omega (arith, less)
      by Server = omega (arith, less)

  module _ (ps qs : List (Option ℕ)) (long : length ps ≡ 2048) (same : length qs ≡ 2048) (places : (e : EndId) → place_in qs (end_under r e) ≡ place_in ps e)
      (name : EndId) (few : name.binding < 1024) (at : ℕ) where
    placed : (f : EndId) → place_in (slice_set qs (slot_of (end_under r name)) (Some at)) (end_under r f) ≡ place_in (slice_set ps (slot_of name) (Some at)) f
    placed f = by (nat_lt f.binding most_bindings) refl
      where
        there : nat_lt (r.to f.binding) most_bindings ≡ nat_lt f.binding most_bindings
        there = few_same r f.binding

        off : (xs : List (Option ℕ)) (e : EndId) → nat_lt e.binding most_bindings ≡ false → place_in xs e ≡ None
        off xs e q = ap (λ (b : Bool). if b then slice_index_or xs (slot_of e) None else None) q

        on : (xs : List (Option ℕ)) (e : EndId) → nat_lt e.binding most_bindings ≡ true → place_in xs e ≡ slice_index_or xs (slot_of e) None
        on xs e q = ap (λ (b : Bool). if b then slice_index_or xs (slot_of e) None else None) q

        by : (b : Bool) → nat_lt f.binding most_bindings ≡ b
            → place_in (slice_set qs (slot_of (end_under r name)) (Some at)) (end_under r f) ≡ place_in (slice_set ps (slot_of name) (Some at)) f
        by false q = off (slice_set qs (slot_of (end_under r name)) (Some at)) (end_under r f) (there ∙ q)
            ∙ sym (off (slice_set ps (slot_of name) (Some at)) f q)
        by true q =
            on (slice_set qs (slot_of (end_under r name)) (Some at)) (end_under r f) (there ∙ q)
            ∙ elim (same_or (slot_of f) (slot_of name)) [
              | inl e ↦
                  (let it = one_end f name e in
                  let here = slot_small name few in
                  let far = slot_small (end_under r name) (r.few name.binding few) in
                  ap (λ (z : EndId). slice_index_or (slice_set qs (slot_of (end_under r name)) (Some at)) (slot_of (end_under r z)) None) it
                  ∙ index_here qs (slot_of (end_under r name)) (Some at) None (omega (arith, far, same))
                  ∙ sym (index_here ps (slot_of name) (Some at) None (omega (arith, here, long)))
                  ∙ ap (λ (z : EndId). slice_index_or (slice_set ps (slot_of name) (Some at)) (slot_of z) None) (sym it))
              | inr other ↦
                  (let apart : slot_of (end_under r f) ≢ slot_of (end_under r name) =
                  λ e. other (ap slot_of (sym (twice_over f) ∙ ap (end_under (reversed r)) (one_end (end_under r f) (end_under r name) e) ∙ twice_over name)) in
                  index_other qs (slot_of (end_under r name)) (slot_of (end_under r f)) (Some at) None apart
                  ∙ sym (on qs (end_under r f) (there ∙ q)) ∙ places f ∙ on ps f q
                  ∙ sym (index_other ps (slot_of name) (slot_of f) (Some at) None other))
            ]
            ∙ sym (on (slice_set ps (slot_of name) (Some at)) f q)

pub ends_made : (r : Renaming) (k k2 : TheCore) (b : TheBoard) (at : ℕ) (name : EndId) (l : LinkId) → CoreUnder r k k2
    → length k.places ≡ 2048 → name.binding < 1024
    → CoreUnder r (with_circuit_wired_end k b at name l) (with_circuit_wired_end k2 b at (end_under r name) l)
ends_made r k k2 b at name l h slots few =
    let arrivals = ap (λ (c : TheCore). c.arrivals) h.rest in
    let sides = ap (λ (c : TheCore). c.link_sides) h.rest in
    let p = circuit_wired_end name l (length k.arrivals) in
    record {
      circuits = h.circuits;
      outboxes = h.outboxes;
      wired_ends = ap (λ (ws : List WiredEnd). ws ++ circuit_wired_end (end_under r name) l (length k2.arrivals) ∷ []) h.wired_ends
          ∙ ap (λ (n : ℕ). map (wired_under r) k.wired_ends ++ circuit_wired_end (end_under r name) l n ∷ []) (ap length arrivals)
          ∙ sym (map-append (wired_under r) k.wired_ends (p ∷ []));
      slots = long_set k2.places (slot_of (end_under r name)) (Some at) ∙ h.slots ∙ sym (long_set k.places (slot_of name) (Some at));
      places = placed r k.places k2.places slots (h.slots ∙ slots) h.places name few at;
      rest = λ i. record (with_circuit_wired_end k2 b at (end_under r name) l) { link_sides = sides i; arrivals = arrivals i ++ new_arrivals ∷ [] };
    }
