-- Links of cores whose run begins as a set-up made them: each has a core on its other side.
use Rattle.std.proofs.Common.{◌≡◌, ◌⊎◌, inl, inr, refl, sym, ap, ◌∙◌, subst, ℕ, ◌+◌, ◌-◌, ◌*◌, ◌/◌, ◌%◌, ◌==◌, ◌<◌, if◌then◌else◌, List, length, slice_get, Some}
use Rattle.std.proofs.Common.{Bool, true, false, arith}
use Rattle.std.proofs.lemmas.Bool.Decides.{nat_tests}
use Rattle.fl_base.specs.declared.identity.LinkId.{LinkId}
use Rattle.fl_core.proofs.BoardPlaces.{one_stands}
use Rattle.fl_core.specs.View.{TheCore, side_of_link}
use Rattle.fl_core.specs.Numbers.{moved}
use Rattle.fl_world_refines.specs.View.{ring_at}
use Rattle.fl_core_refines.specs.SetUpStart.{across}
use Rattle.fl_cores_laws.specs.Cores.{OneCore}
use Rattle.fl_cores_laws.specs.Crossing.{Crosses}
use Rattle.fl_cores_laws.specs.Neighbours.{IsUnused}
use Rattle.fl_cores_laws.specs.Back.{HasNeighbour}
use Rattle.fl_cores.proofs.SidesCross.{SideLaws, ring_crosses}
use Rattle.fl_cores.proofs.StartNumbers.{link_side_to}
use Rattle.fl_cores.proofs.StartShared.{side_owner}
use Rattle.fl_cores.proofs.StartBindings.{TheBeginning, IsBegun, parts_ready, made_of, ran_of}

-- ---- the two sides of a ring

-- this side is the ring's first, and the other its second
abbrev IsFirst : ℕ → Type 0
IsFirst side = (2 * ring_at side ≡ side) × (2 * ring_at side + 1 ≡ across side)

abbrev IsSecond : ℕ → Type 0
IsSecond side = (2 * ring_at side + 1 ≡ side) × (2 * ring_at side ≡ across side)

which_by : (side : ℕ) (b : Bool) → (side % 2 == 0) ≡ b → IsFirst side ⊎ IsSecond side
which_by side true is =
    let even : side % 2 ≡ 0 = grind (arith, nat_tests, is) in
    let first : 2 * (side / 2) ≡ side = omega (arith, even) in
    let other : 2 * (side / 2) + 1 ≡ side + 1 = omega (arith, even) in
    inl (first, other ∙ ap (λ (t : Bool). if t then side + 1 else side - 1) (sym is))
which_by side false is =
    let odd : side % 2 ≡ 1 = grind (arith, nat_tests, is) in
    let second : 2 * (side / 2) + 1 ≡ side = omega (arith, odd) in
    let other : 2 * (side / 2) ≡ side - 1 = omega (arith, odd) in
    inr (second, other ∙ ap (λ (t : Bool). if t then side + 1 else side - 1) (sym is))

module _ (l : SideLaws) (b : TheBeginning) (h : IsBegun b) where
  abbrev CrossesAt : OneCore → OneCore → ℕ → ℕ → Type 0
  CrossesAt c d x y = Crosses c.start.rings c.finish.rings d.start.rings d.finish.rings (moved b.places.sides x) (moved b.places.sides y)

  -- a ring by its two sides, whichever is named
  pub crossed : (n m side : ℕ) (c d : OneCore) → ring_at side < length b.world.rings → slice_get h.shares.side_owners (across side) ≡ Some n
      → slice_get h.shares.side_owners side ≡ Some m → slice_get b.cores n ≡ Some c → slice_get b.cores m ≡ Some d
      → CrossesAt c d (across side) side ⊎ CrossesAt d c side (across side)
  crossed n m side c d within owner_n owner_m c_is d_is = elim (which_by side (side % 2 == 0) refl) [
    | inl first ↦ inr (
        subst (λ (x : ℕ). CrossesAt d c x (across side)) first.0
        (subst (λ (x : ℕ). CrossesAt d c (2 * ring_at side) x) first.1
        (on_ring m n d c (ap (slice_get h.shares.side_owners) first.0 ∙ owner_m) (ap (slice_get h.shares.side_owners) first.1 ∙ owner_n) d_is c_is)))
    | inr second ↦ inl (
        subst (λ (x : ℕ). CrossesAt c d x side) second.1
        (subst (λ (x : ℕ). CrossesAt c d (2 * ring_at side) x) second.0
        (on_ring n m c d (ap (slice_get h.shares.side_owners) second.1 ∙ owner_n) (ap (slice_get h.shares.side_owners) second.0 ∙ owner_m) c_is d_is)))
  ]
    where
      below : ring_at side < length b.parts.rings.items
      below = subst (λ (rings : List _). ring_at side < length rings) (sym (parts_ready b h).rings) within

      on_ring : (i j : ℕ) (x y : OneCore) → slice_get h.shares.side_owners (2 * ring_at side) ≡ Some i
          → slice_get h.shares.side_owners (2 * ring_at side + 1) ≡ Some j → slice_get b.cores i ≡ Some x → slice_get b.cores j ≡ Some y
          → CrossesAt x y (2 * ring_at side) (2 * ring_at side + 1)
      on_ring i j x y owner_i owner_j x_is y_is =
          ring_crosses l b.parts b.places b.joined.jobs b.core_threads b.outcomes b.cores h.shares h.runs (ring_at side) i j x y below owner_i owner_j x_is y_is

  -- a link whose core had a side for it has a core on its other side
  pub has_neighbour : (n side : ℕ) (d : OneCore) (m : LinkId) (d_is : slice_get b.cores n ≡ Some d)
      → side_of_link (made_of b h n d d_is).core.link_sides m.0 ≡ Some side → HasNeighbour b.cores d m
  has_neighbour n side d m d_is link_side =
      let md = made_of b h n d d_is in
      let it = (parts_ready b h).links n m.0 side md.core md.core_is link_side in
      let place : ℕ = it.link.neighbour.0 in
      let (c, c_is) = ran_of b h place it.core it.core_is in
      let mc = made_of b h place c c_is in
      let same : it.core ≡ mc.core = one_stands b.parts.cores.items place it.core mc.core it.core_is mc.core_is in
      let back : side_of_link mc.core.link_sides it.back ≡ Some (across side) =
      subst (λ (k : TheCore). side_of_link k.link_sides it.back ≡ Some (across side)) same it.side_is in
      let owner_c = side_owner b.world b.parts (parts_ready b h) b.places b.core_threads b.outcomes h.shares place (across side) mc.core mc.core_is (inl (it.back, back)) in
      let owner_d = side_owner b.world b.parts (parts_ready b h) b.places b.core_threads b.outcomes h.shares n side md.core md.core_is (inl (m.0, link_side)) in
      record {
        place = place;
        core = c;
        core_is = c_is;
        link = record { 0 = it.back };
        one = record {
          near = moved b.places.sides (across side);
          near_is = ap (λ (k : TheCore). side_of_link k.link_sides it.back) mc.numbers ∙ link_side_to b.places.sides mc.core.link_sides it.back (across side) back;
          far = moved b.places.sides side;
          far_is = ap (λ (k : TheCore). side_of_link k.link_sides m.0) md.numbers ∙ link_side_to b.places.sides md.core.link_sides m.0 side link_side;
          ring = crossed place n side c d it.within owner_c owner_d c_is d_is;
        };
      }

  -- no number of a circuit was given before the run, and nothing waited to be said
  pub unused : (n : ℕ) (c : OneCore) → slice_get b.cores n ≡ Some c → IsUnused c.start.core.monitor
  unused n c c_is =
      let m = made_of b h n c c_is in
      let idle = (parts_ready b h).idle n m.core m.core_is in
      subst (λ (k : TheCore). IsUnused k.monitor) (sym m.numbers) (record { outboxes = idle.outboxes; counts = idle.counts })
