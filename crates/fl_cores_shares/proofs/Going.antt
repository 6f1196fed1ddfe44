-- Sides in use, in their owners' hands.
use Rattle.std.proofs.Common.{◌≡◌, refl, sym, ap, ◌∙◌, subst, ℕ, zero, suc, ◌==◌, if◌then◌else◌, List, [], ◌∷◌, ◌++◌, drop, length, Bool, true, false, arith}
use Rattle.std.proofs.lemmas.Bool.Decides.{nat_tests}
use Rattle.fl_link.specs.Looks.{Look}
use Rattle.fl_ring.specs.SharedSides.{TheSide}
use Rattle.fl_ring.specs.Laws.{SideLaw}
use Rattle.fl_cores_shares.specs.Shares.{Holdings, holding_at, own_things, AreHandedOut}
use Rattle.fl_cores_shares.specs.Settled.{WentOn, AllWentOn, HoldingsWentOn, HandedOutGoOn, RingsStay}
use Rattle.fl_cores_shares.proofs.Places.{self_test}
use Rattle.fl_cores_shares.proofs.Giving.{own_of}

pub record First (s : TheSide) (xs zs : List TheSide) : Type 0 where
  pub side : TheSide
  pub went : WentOn s side
  pub is : zs ≡ side ∷ drop 1 zs
  pub others : AllWentOn xs (drop 1 zs)

first : (s : TheSide) (xs zs : List TheSide) → AllWentOn (s ∷ xs) zs → First s xs zs
first s xs [] h = absurd h
first s xs (z ∷ zs) h = record { side = z; went = h.0; is = refl; others = h.1 }

abbrev skipped : Bool → ℕ
skipped true = 1
skipped false = 0

behind : (b : Bool) (s : TheSide) (xs zs : List TheSide) → AllWentOn ((if b then s ∷ [] else []) ++ xs) zs → AllWentOn xs (drop (skipped b) zs)
behind true s xs zs h = (first s xs zs h).others
behind false s xs zs h = h

none_went : (zs : List TheSide) → AllWentOn [] zs → zs ≡ []
none_went [] h = refl
none_went (z ∷ zs) h = absurd h

-- sides of these owners, of which core c has this
pub record Still (owners : List ℕ) (sides : List TheSide) (holding : ℕ → List TheSide) : Type 0 where
  pub sides2 : List TheSide
  pub count : length sides2 ≡ length owners
  pub each : (c : ℕ) → holding c ≡ own_things c owners sides2
  pub went : AllWentOn sides sides2

pub still : (owners : List ℕ) (sides : List TheSide) (holding : ℕ → List TheSide) → length sides ≡ length owners
    → ((c : ℕ) → AllWentOn (own_things c owners sides) (holding c)) → Still owners sides holding
still [] [] holding same went = record { sides2 = []; count = refl; each = λ c. none_went (holding c) (went c); went = tt }
still [] (s ∷ sides) holding same went = absurd (omega (arith, same))
still (o ∷ owners) [] holding same went = absurd (omega (arith, same))
still (o ∷ owners) (s ∷ sides) holding same went =
    let at_owner : AllWentOn (s ∷ own_things o owners sides) (holding o) =
    subst (λ (b : Bool). AllWentOn ((if b then s ∷ [] else []) ++ own_things o owners sides) (holding o)) (self_test o) (went o) in
    let one = first s (own_things o owners sides) (holding o) at_owner in
    let more = still owners sides (λ c. drop (skipped (o == c)) (holding c)) (omega (arith, same)) (λ c. behind (o == c) s (own_things c owners sides) (holding c) (went c)) in
    record {
      sides2 = one.side ∷ more.sides2;
      count = ap suc more.count;
      each = λ c. each_by c (o == c) refl one.side one.is (more.each c);
      went = (one.went, more.went);
    }
  where
    each_by : (c : ℕ) (b : Bool) → (o == c) ≡ b → (t : TheSide) → holding o ≡ t ∷ drop 1 (holding o) → {rest : List TheSide} → drop (skipped (o == c)) (holding c) ≡ rest
        → holding c ≡ own_of c o t ++ rest
    each_by c true is t front {rest} others =
        let same : o ≡ c = grind (arith, nat_tests, is) in
        subst (λ (x : ℕ). holding x ≡ t ∷ drop 1 (holding x)) same front
        ∙ ap (λ (xs : List TheSide). t ∷ xs) (ap (λ (x : Bool). drop (skipped x) (holding c)) (sym is) ∙ others)
        ∙ ap (λ (x : Bool). (if x then t ∷ [] else []) ++ rest) (sym is)
    each_by c false is t front {rest} others =
        ap (λ (x : Bool). drop (skipped x) (holding c)) (sym is) ∙ others ∙ ap (λ (x : Bool). (if x then t ∷ [] else []) ++ rest) (sym is)

pub handed_out_go_on : HandedOutGoOn
handed_out_go_on owners sides holdings hands2 d went =
    let s = still owners sides (holding_at hands2) d.count (λ c. subst (λ (xs : List TheSide). AllWentOn xs (holding_at hands2 c)) (d.each c) (went c)) in
    (s.sides2, record { count = s.count; each = s.each }, s.went)

pub rings_stay : SideLaw → RingsStay
rings_stay law s t went = (law s t went.0 went.1).same_ring
