-- A side beside the one across from it, both as they are under other numbers of bindings: each step that it takes it takes
-- there too.
use Rattle.std.proofs.Common.{◌≡◌, ◌≢◌, ◌∙◌, ◌+◌, ◌*◌, ◌≤◌, ◌∷◌, ◌++◌, ◌^◌, ◌-◌, if◌then◌else◌, [], ℕ, refl, subst, arith, Bool, List, Some, ap, drop, false, length, slice_get, slice_set, suc, sym, true, zero}
use Rattle.fl_base.specs.Control.{bare, body, circuit_of, is_ack_only, with_circuit}
use Rattle.fl_base.specs.declared.fragment.Frag.{Frag}
use Rattle.fl_cores_joined.specs.Joined.{facing}
use Rattle.fl_cores_joined.specs.Rings.{FacingSide, Truly}
use Rattle.fl_link.proofs.Carried.{bare-bare}
use Rattle.fl_link.specs.Queue.{look_at}
use Rattle.fl_ring.specs.SharedSeats.{front_seen}
use Rattle.fl_ring.specs.SharedSides.{SharedPuts, SharedTakes, TheSide}
use Rattle.std.specs.List.{AllZip}
use Rattle.fl_link.specs.Looks.{Look, placed, no_room, spent, saw, saw_ack, found, missed, told, found_ack, kept}
use Rattle.fl_cores_joined.specs.Renamed.{Renaming, copied, FragUnder, Copy}
use Rattle.fl_cores_joined.proofs.RenamedSides.{alike, one_renamed, same_body, calls_stay, StepsSo, puts_so, no_room_so, spent_so, sees_so, founds_so, sees_ack_so, founds_ack_so, keeps_so, no_tell_so, misses_so, tells_so}

-- ---- lists, item by item

pub zip_long : {X Y : Type 0} (R : X → Y → Type 0) (xs : List X) (ys : List Y) → AllZip R xs ys → length ys ≡ length xs
zip_long R [] [] h = refl
zip_long R [] (y ∷ ys) h = absurd h
zip_long R (x ∷ xs) [] h = absurd h
zip_long R (x ∷ xs) (y ∷ ys) h = ap suc (zip_long R xs ys h.1)

pub zip_set : {X Y : Type 0} (R : X → Y → Type 0) (xs : List X) (ys : List Y) (n : ℕ) (x : X) (y : Y) → AllZip R xs ys → R x y
    → AllZip R (slice_set xs n x) (slice_set ys n y)
zip_set R [] [] n x y h k = tt
zip_set R [] (b ∷ ys) n x y h k = absurd h
zip_set R (a ∷ xs) [] n x y h k = absurd h
zip_set R (a ∷ xs) (b ∷ ys) zero x y h k = (k, h.1)
zip_set R (a ∷ xs) (b ∷ ys) (suc n) x y h k = (h.0, zip_set R xs ys n x y h.1 k)

pub zip_more : {X Y : Type 0} (R : X → Y → Type 0) (xs : List X) (ys : List Y) (x : X) (y : Y) → AllZip R xs ys → R x y
    → AllZip R (xs ++ x ∷ []) (ys ++ y ∷ [])
zip_more R [] [] x y h k = (k, tt)
zip_more R [] (b ∷ ys) x y h k = absurd h
zip_more R (a ∷ xs) [] x y h k = absurd h
zip_more R (a ∷ xs) (b ∷ ys) x y h k = (h.0, zip_more R xs ys x y h.1 k)

pub zip_at : {X Y : Type 0} (R : X → Y → Type 0) (xs : List X) (ys : List Y) (n : ℕ) (x : X) → AllZip R xs ys → slice_get xs n ≡ Some x
    → (y : Y) × (slice_get ys n ≡ Some y) × R x y
zip_at R [] ys n x h at = absurd (cc)
zip_at R (a ∷ xs) [] n x h at = absurd h
zip_at R (a ∷ xs) (b ∷ ys) zero x h at = let same : a ≡ x = cc in (b, refl, subst (λ z. R z b) same h.0)
zip_at R (a ∷ xs) (b ∷ ys) (suc n) x h at = zip_at R xs ys n x h.1 at

pub zip_first : {X Y : Type 0} (R : X → Y → Type 0) (x : X) (xs : List X) (ys : List Y) → AllZip R (x ∷ xs) ys
    → (y : Y) × (rest : List Y) × (ys ≡ y ∷ rest) × R x y
zip_first R x xs [] h = absurd h
zip_first R x xs (y ∷ ys) h = (y, ys, refl, h.0)

pub zip_none : {X Y : Type 0} (R : X → Y → Type 0) (xs : List X) (ys : List Y) → AllZip R xs ys → xs ≡ [] → ys ≡ []
zip_none R [] [] h is = refl
zip_none R [] (y ∷ ys) h is = absurd h
zip_none R (x ∷ xs) ys h is = absurd (cc)

pub zip_some : {X Y : Type 0} (R : X → Y → Type 0) (xs : List X) (ys : List Y) → AllZip R xs ys → xs ≢ [] → ys ≢ []
zip_some R [] ys h some is = some refl
zip_some R (x ∷ xs) [] h some is = absurd h
zip_some R (x ∷ xs) (y ∷ ys) h some is = absurd (cc)

pub zip_less : {X Y : Type 0} (R : X → Y → Type 0) (xs : List X) (ys : List Y) → AllZip R xs ys → AllZip R (drop 1 xs) (drop 1 ys)
zip_less R [] [] h = tt
zip_less R [] (y ∷ ys) h = absurd h
zip_less R (x ∷ xs) [] h = absurd h
zip_less R (x ∷ xs) (y ∷ ys) h = h.1

-- ---- two sides of a ring

module _ (r : Renaming) where
  -- both are as they are under the other numbers
  pub record Beside (p pp : FacingSide) : Type 0 where
    pub here : Copy r p.side
    pub there : Copy r p.across
    pub is : pp ≡ facing (copied r here) (copied r there)

  -- on a ring of a binding nothing is renamed
  abbrev pub SideBeside : Bool → FacingSide → FacingSide → Type 0
  SideBeside true p pp = Beside p pp
  SideBeside false p pp = pp ≡ p

  same_there : (a b : TheSide) (d : Copy r a) → b ≡ a → (e : Copy r b) × (copied r e ≡ copied r d)
  same_there a b d same = subst (λ (z : TheSide). (e : Copy r z) × (copied r e ≡ copied r d)) (sym same) (d, refl)

  -- a step of it there, and what that leaves
  pub record Goes (step : TheSide → Look → TheSide → Type 0) (pp : FacingSide) (look : Look) (q : FacingSide) : Type 0 where
    pub left : FacingSide
    pub goes : Truly step pp look left
    pub beside : Beside q left

  go : (step : TheSide → Look → TheSide → Type 0) (p q pp : FacingSide) (look : Look) (b : Beside p pp) → q.across ≡ p.across
      → StepsSo r p b.here b.there step look q.side → Goes step pp look q
  go step p q pp look b same so =
      let (e, is) = same_there p.across q.across b.there same in
      record {
        left = facing (copied r so.copy) (copied r b.there);
        goes = subst (λ (z : FacingSide). Truly step z look (facing (copied r so.copy) (copied r b.there))) (sym b.is) so.steps;
        beside = record { here = so.copy; there = e; is = λ i. facing (copied r so.copy) (sym is i) };
      }

  module _ (p q pp : FacingSide) (b : Beside p pp) where
    pub puts : (f g : Frag) → FragUnder r f g → Truly SharedPuts p (placed f) q → Goes SharedPuts pp (placed g) q
    puts f g h step = go SharedPuts p q pp (placed g) b step.2 (puts_so r p b.here b.there f g q.side h step.0 step.1)

    pub finds_no_room : Truly SharedPuts p no_room q → Goes SharedPuts pp no_room q
    finds_no_room step = go SharedPuts p q pp no_room b step.2 (no_room_so r p b.here b.there q.side step.0 step.1)

    pub is_spent : Truly SharedPuts p spent q → Goes SharedPuts pp spent q
    is_spent step = go SharedPuts p q pp spent b step.2 (spent_so r p b.here b.there q.side step.0 step.1)

    pub tells : Truly SharedTakes p told q → Goes SharedTakes pp told q
    tells step = go SharedTakes p q pp told b step.2 (tells_so r p b.here b.there q.side step.0 step.1)

    pub keeps : Truly SharedTakes p kept q → Goes SharedTakes pp kept q
    keeps step = go SharedTakes p q pp kept b step.2 (keeps_so r p b.here b.there q.side step.0 step.1)

    pub tells_not : Truly SharedTakes p no_room q → Goes SharedTakes pp no_room q
    tells_not step = go SharedTakes p q pp no_room b step.2 (no_tell_so r p b.here b.there q.side step.0 step.1)

    pub misses : Truly SharedTakes p missed q → Goes SharedTakes pp missed q
    misses step = go SharedTakes p q pp missed b step.2 (misses_so r p b.here b.there q.side step.0 step.1)

    pub sees_ack : Truly SharedTakes p saw_ack q → Goes SharedTakes pp saw_ack q
    sees_ack step = go SharedTakes p q pp saw_ack b step.2 (sees_ack_so r p b.here b.there q.side step.0 step.1)

    pub takes_ack : Truly SharedTakes p found_ack q → Goes SharedTakes pp found_ack q
    takes_ack step = go SharedTakes p q pp found_ack b step.2 (founds_ack_so r p b.here b.there q.side step.0 step.1)

    -- where nothing is done
    pub stays : q ≡ p → Beside q pp
    stays same = subst (λ (z : FacingSide). Beside z pp) (sym same) b

  -- ---- a fragment is seen, or taken: whichever it is there

  looked_bare : (one g : Frag) → look_at one ≡ saw g → bare g ≡ g
  looked_bare one g look = by (is_ack_only one) refl
    where
      by : (b : Bool) → is_ack_only one ≡ b → bare g ≡ g
      by true q = absurd (let e : saw_ack ≡ saw g = sym (ap (λ (b : Bool). if b then saw_ack else saw (bare one)) q) ∙ look in cc)
      by false q =
          let e : saw g ≡ saw (bare one) = sym look ∙ ap (λ (b : Bool). if b then saw_ack else saw (bare one)) q in
          let is : g ≡ bare one = cc in
          ap bare is ∙ bare-bare one ∙ sym is

  module _ (p q pp : FacingSide) (b : Beside p pp) where
    -- one such fragment is seen there
    pub sees : (f : Frag) → Truly SharedTakes p (saw f) q → (g : Frag) × FragUnder r f g × (bare g ≡ g) × Goes SharedTakes pp (saw g) q
    sees f step =
        let (g, under, so) = sees_so r p b.here b.there f q.side step.0 step.1 in
        (g, under, looked_bare so.steps.0.0 g so.steps.0.1, go SharedTakes p q pp (saw g) b step.2 so)

    takes : (f : Frag) → Truly SharedTakes p (found f) q → (g : Frag) × FragUnder r f g × (bare g ≡ g) × Goes SharedTakes pp (found g) q
    takes f step =
        let (g, under, so) = founds_so r p b.here b.there f q.side step.0 step.1 in
        (g, under, looked_bare so.steps.0.0 g so.steps.0.1, go SharedTakes p q pp (found g) b step.2 so)

    -- this one, whichever is renamed to it
    same_bare : (f g h : Frag) → FragUnder r (bare f) g → bare g ≡ g → FragUnder r f h → g ≡ bare h
    same_bare f g h under is other =
        sym is ∙ one_renamed r (bare f) g h under (alike r f h (bare f) h (bare-bare f) refl other)

    pub sees_it : (f h : Frag) → FragUnder r f h → Truly SharedTakes p (saw (bare f)) q → Goes SharedTakes pp (saw (bare h)) q
    sees_it f h other step =
        let (g, under, is, it) = sees (bare f) step in
        subst (λ (z : Frag). Goes SharedTakes pp (saw z) q) (same_bare f g h under is other) it

    pub takes_it : (f h : Frag) → FragUnder r f h → Truly SharedTakes p (found (bare f)) q → Goes SharedTakes pp (found (bare h)) q
    takes_it f h other step =
        let (g, under, is, it) = takes (bare f) step in
        subst (λ (z : Frag). Goes SharedTakes pp (found z) q) (same_bare f g h under is other) it

  -- what stands first is seen there
  pub seen_first : (pp left : FacingSide) (g : Frag) → Truly SharedTakes pp (saw g) left → front_seen left.side.peeked ≡ saw g
  seen_first pp left g ((one, is, (may, now, knows)), finds, same) = ap (λ (s : TheSide). front_seen s.peeked) now ∙ is

  -- ---- circuits

  bare_circuit : (w : ℕ) → circuit_of (body w) ≡ circuit_of w
  bare_circuit w = omega arith

  pub same_circuit : (f g : Frag) → FragUnder r f g → circuit_of g.control ≡ circuit_of f.control
  same_circuit f g h = sym (bare_circuit g.control) ∙ ap circuit_of (same_body r f g h) ∙ bare_circuit f.control

  circuit_set : (w c : ℕ) → c ≤ 2046 → circuit_of (body (w - 2 ^ 32 * circuit_of w + 2 ^ 32 * c)) ≡ c
  circuit_set w c few = omega (arith, few)

  -- a call's fragment goes on as it is
  pub goes_on_as_it_is : (f : Frag) (c : ℕ) → c ≢ 0 → c ≤ 2046 → FragUnder r (bare (with_circuit c f)) (bare (with_circuit c f))
  goes_on_as_it_is f c some few = calls_stay r (bare (with_circuit c f)) (λ e. some (sym (circuit_set f.control c few) ∙ e))
