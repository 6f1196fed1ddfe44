-- What came of rings whose sides were in the hands of cores. Laws.
use Rattle.std.specs.Prelude.{ℕ, ◌≡◌, List, [], ◌∷◌, map}
use Rattle.fl_base.specs.Control.{bare}
use Rattle.fl_base.specs.Prefix.{IsPrefix}
use Rattle.fl_link.specs.Looks.{Look, Looks, LinkStep, puts_of, takes_of}
use Rattle.fl_ring.specs.SharedSides.{TheSide, SharedPuts, SharedTakes, SidesNear}
use Rattle.fl_cores_shares.specs.Shares.{Holdings, holding_at, AreHandedOut, AreNew}

-- ---- sides in use

-- over these looks, puts and takes a side went on
abbrev pub Goes : TheSide → List Look → TheSide → Type 0
Goes s looks t = Looks (LinkStep SharedPuts SharedTakes) s looks t

abbrev pub WentOn : TheSide → TheSide → Type 0
WentOn s t = (looks : List Look) × Goes s looks t

-- each side did, and stands where it stood
abbrev pub AllWentOn : List TheSide → List TheSide → Type 0
AllWentOn [] [] = Unit {0}
AllWentOn (s ∷ sides) (t ∷ sides2) = WentOn s t × AllWentOn sides sides2
AllWentOn sides sides2 = ⊥

abbrev pub HoldingsWentOn : Holdings TheSide → Holdings TheSide → Type 0
HoldingsWentOn holdings hands2 = (core : ℕ) → AllWentOn (holding_at holdings core) (holding_at hands2 core)

-- ---- rings

-- a ring by its two sides
pub record TwoSides : Type 0 where
  pub one : TheSide
  pub two : TheSide

-- their sides, by number
abbrev pub sides_of : List TwoSides → List TheSide
sides_of [] = []
sides_of (p ∷ pairs) = p.one ∷ p.two ∷ sides_of pairs

abbrev pub Each : (TwoSides → Type 0) → List TwoSides → Type 0
Each P [] = Unit {0}
Each P (p ∷ pairs) = P p × Each P pairs

-- what each side took is the first of what the other put
pub record IsNear (p : TwoSides) : Type 0 where
  pub forth : SidesNear p.one p.two
  pub back : SidesNear p.two p.one

-- ---- laws

-- where sides were handed out and then went on, they are still in their owners' hands
abbrev pub HandedOutGoOn : Type 0
HandedOutGoOn = (owners : List ℕ) (sides : List TheSide) (holdings hands2 : Holdings TheSide) → AreHandedOut owners sides holdings
    → HoldingsWentOn holdings hands2
    → (sides2 : List TheSide) × AreHandedOut owners sides2 hands2 × AllWentOn sides sides2

-- a side that went on is of the same ring
abbrev pub RingsStay : Type 0
RingsStay = (s t : TheSide) → WentOn s t → t.ring ≡ s.ring

-- what the sides of a new ring took, once they went on and were put together again, are the first of the fragments that the other put, in order
pub record Conserves (forth back : List Look) : Type 0 where
  pub there : IsPrefix (takes_of back) (map bare (puts_of forth))
  pub again : IsPrefix (takes_of forth) (map bare (puts_of back))

abbrev pub RingsConserve : Type 0
RingsConserve = (size : ℕ) (p q : TwoSides) (forth back : List Look) → AreNew size p.one p.two → Goes p.one forth q.one → Goes p.two back q.two → IsNear q
    → Conserves forth back
