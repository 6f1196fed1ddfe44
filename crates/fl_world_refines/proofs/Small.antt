-- The numbers of circuits have 16 bits.
use Rattle.std.proofs.Common.{◌≡◌, refl, sym, ◌∙◌, ap, ℕ, zero, suc, ◌+◌, ◌*◌, ◌<◌, ◌≤◌, ◌^◌, min, nat_lt, Bool, true, false, if◌then◌else◌, List, [], ◌∷◌, length, slice_get, Option, Some, None, is_some, arith}
use Rattle.std.specs.Prelude.{IsSome}
use Rattle.std.proofs.lemmas.Bool.{false≢true}
use Rattle.std.proofs.lemmas.Option.{slice_get_within, get_or_from_slice_get}
use Rattle.fl_base.specs.Given.{given}
use Rattle.fl_hop.specs.declared.links.LinkState.{LinkState}
use Rattle.fl_model.specs.Monitors.{Core, Link, link_to}
use Rattle.fl_model.specs.State.{Route, State, core_of, link_between, place_in, number_between}
use Rattle.fl_model.specs.Standing.{core_at, number_at, link_state}
use Rattle.fl_model.specs.SoundPlaces.{CoresStand}
use Rattle.fl_model.specs.SoundRoutes.{NumbersGoAlongRoutes, NumbersWereOpened}
use Rattle.fl_world_refines.specs.FragmentLaws.{NumbersAreSmall}

-- the number stands somewhere among the route's
at_place : (route : Route) (a b c : ℕ) → number_between a b route ≡ Some c → (j : ℕ) × (slice_get route.numbers j ≡ Some c)
at_place route a b c h = first (place_in route.cores a) h where
  second : (i : ℕ) (o : Option ℕ) → given o None (λ j. slice_get route.numbers (min i j)) ≡ Some c → (j : ℕ) × (slice_get route.numbers j ≡ Some c)
  second i None q = absurd (cc)
  second i (Some j) q = (min i j, q)

  first : (o : Option ℕ) → given o None (λ i. given (place_in route.cores b) None λ j. slice_get route.numbers (min i j)) ≡ Some c
      → (j : ℕ) × (slice_get route.numbers j ≡ Some c)
  first None q = absurd (cc)
  first (Some i) q = second i (place_in route.cores b) q

-- a link, and its counts
record Counted (s : State) (a b : ℕ) : Type 0 where
  pub state : LinkState
  pub state_is : link_state s a b ≡ Some state
  pub few : state.opened ≤ 1023

there : (xs : List LinkState) (n : ℕ) → n < length xs → (x : LinkState) × (slice_get xs n ≡ Some x)
there [] n h = absurd (omega (arith, h))
there (x ∷ xs) zero h = (x, refl)
there (x ∷ xs) (suc n) h = there xs n (omega (arith, h))

within : (xs : List Link) (n : ℕ) → is_some (slice_get xs n) ≡ true → n < length xs
within [] n h = absurd (false≢true h)
within (x ∷ xs) zero h = omega arith
within (x ∷ xs) (suc n) h = omega (arith, within xs n h)

counted : (s : State) (a b : ℕ) → CoresStand s → IsSome (link_between s a b) → Counted s a b
counted s a b stand h = by_core (core_of s a) refl h where
  by_link : (k : Core) → core_of s a ≡ Some k → (o : Option ℕ) → link_to b k ≡ o → is_some (given o None λ l. slice_get k.links l) ≡ true → Counted s a b
  by_link k p None q r = absurd (false≢true r)
  by_link k p (Some l) q r =
      let core = stand a k p in
      let same = core.links in
      let inside = within k.links l r in
      let x = there k.circuits.links l (omega (arith, same, inside)) in
      record {
        state = x.0;
        state_is = ap (λ (o : Option Core). given o None λ y. given (link_to b y) None λ m. slice_get y.circuits.links m) p
            ∙ ap (λ (o : Option ℕ). given o None λ m. slice_get k.circuits.links m) q ∙ x.1;
        few = (core.table.counts l x.0 x.1).0;
      }

  by_core : (o : Option Core) → core_of s a ≡ o → is_some (given o None λ k. given (link_to b k) None λ l. slice_get k.links l) ≡ true → Counted s a b
  by_core None p r = absurd (false≢true r)
  by_core (Some k) p r = by_link k p (link_to b k) refl r

small_by : (t : Bool) (k n : ℕ) → k < 1023 → n ≡ (if t then 2 * k + 1 else 2 * k + 2) → (1 ≤ n) × (n < 2 ^ 16)
small_by true k n h e = (omega (arith, h, e), omega (arith, h, e))
small_by false k n h e = (omega (arith, h, e), omega (arith, h, e))

pub small_numbers : (s : State) → CoresStand s → NumbersGoAlongRoutes s → NumbersWereOpened s → NumbersAreSmall s
small_numbers s stand go open_ n route a b c routed h =
    let p = at_place route a b c h in
    let j : ℕ = p.0 in
    let inside : p.0 < length route.numbers = slice_get_within route.numbers p.0 c p.1 in
    let is : number_at route p.0 ≡ c = get_or_from_slice_get route.numbers p.0 c 0 p.1 in
    let k = counted s (core_at route p.0) (core_at route (p.0 + 1)) stand ((go n route routed).linked p.0 inside) in
    let among = open_ n route p.0 k.state routed inside k.state_is in
    let few = k.few in
    let less = among.1 in
    small_by (nat_lt (core_at route p.0) (core_at route (p.0 + 1))) among.0 c (omega (arith, few, less)) (sym is ∙ among.2)
