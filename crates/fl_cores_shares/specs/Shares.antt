-- Which things each core has in its hand: sides of rings, or queues. A thing is known by its number.
use Rattle.std.specs.Prelude.{ℕ, ◌≡◌, ◌==◌, zero, suc, if◌then◌else◌, List, [], ◌∷◌, ◌++◌, length, map, slice_get, unwrap_or, Some}
use Rattle.fl_ring.specs.SharedSides.{TheSide, started_side}
use Rattle.fl_ring.specs.declared.shared.duo_board.SeatHolder.TheVariants.{One, Two}
use Rattle.fl_cores_shares.specs.declared.shares.CoreShares.{CoreShares}

-- by core, its hand
abbrev pub Holdings : Type 0 → Type 0
Holdings T = List (List T)

abbrev pub holding_at : {T : Type 0} → Holdings T → ℕ → List T
holding_at holdings core = unwrap_or (slice_get holdings core) []

-- what a core has in its hand of things whose owners are these: its own, in order
abbrev pub own_things : {T : Type 0} → ℕ → List ℕ → List T → List T
own_things core (owner ∷ owners) (thing ∷ things) = (if owner == core then thing ∷ [] else []) ++ own_things core owners things
own_things core owners things = []

-- the things are in their owners' hands
pub record AreHandedOut {T : Type 0} (owners : List ℕ) (things : List T) (holdings : Holdings T) : Type 0 where
  pub count : length things ≡ length owners
  pub each : (core : ℕ) → holding_at holdings core ≡ own_things core owners things

-- and stand there at the places that are told of them
pub record IsAt {T : Type 0} (holdings : Holdings T) (places : List ℕ) (number owner : ℕ) (thing : T) : Type 0 where
  pub place : ℕ
  pub place_is : slice_get places number ≡ Some place
  pub stands : slice_get (holding_at holdings owner) place ≡ Some thing

abbrev pub AreAt : {T : Type 0} → List ℕ → List T → Holdings T → List ℕ → Type 0
AreAt {T} owners things holdings places =
    (number owner : ℕ) (thing : T) → slice_get owners number ≡ Some owner → slice_get things number ≡ Some thing → IsAt holdings places number owner thing

-- and of one owner's things no two are told the same place
abbrev pub AreApart : List ℕ → List ℕ → Type 0
AreApart owners places =
    (n m owner place : ℕ) → slice_get owners n ≡ Some owner → slice_get owners m ≡ Some owner
    → slice_get places n ≡ Some place → slice_get places m ≡ Some place → n ≡ m

-- how many things of an owner stand before this number
abbrev pub own_before : ℕ → ℕ → List ℕ → ℕ
own_before owner n [] = 0
own_before owner zero (o ∷ owners) = 0
own_before owner (suc n) (o ∷ owners) = if o == owner then suc (own_before owner n owners) else own_before owner n owners

-- that is the place that is told of each thing
pub record AreCounted (owners places : List ℕ) : Type 0 where
  pub each : (number owner : ℕ) → slice_get owners number ≡ Some owner → slice_get places number ≡ Some (own_before owner number owners)

abbrev pub holdings_in : {T : Type 0} → CoreShares T → Holdings T
holdings_in d = map (λ holding. holding.items) d.holdings.items

-- these things are handed out
pub record Holds {T : Type 0} (d : CoreShares T) (things : List T) : Type 0 where
  pub handed_out : AreHandedOut d.owners.items things (holdings_in d)
  pub numbered : length d.places.items ≡ length d.owners.items
  pub places : AreAt d.owners.items things (holdings_in d) d.places.items
  pub apart : AreApart d.owners.items d.places.items
  pub counted : AreCounted d.owners.items d.places.items

-- one thing more
pub record Gives {T : Type 0} (owner : ℕ) (thing : T) (d d2 : CoreShares T) : Type 0 where
  pub cores : length d2.holdings.items ≡ length d.holdings.items
  pub owners : d2.owners.items ≡ d.owners.items ++ owner ∷ []
  pub holds : (things : List T) → Holds d things → Holds d2 (things ++ thing ∷ [])

-- the sides of a new ring of this size
pub record AreNew (size : ℕ) (one two : TheSide) : Type 0 where
  pub one_is : one ≡ started_side two.ring One size 0
  pub two_is : two ≡ started_side two.ring Two size 0
