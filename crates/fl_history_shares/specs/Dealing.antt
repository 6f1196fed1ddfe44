-- Rings' sides dealt, as the code has it; no promise rests on it by itself.
use Rattle.std.specs.Prelude.{ℕ, suc, ◌≡◌, List, [], ◌∷◌, length}
use Rattle.std.specs.List.{AllByRecursion}
use Rattle.fl_history_rings.specs.declared.board.RingEnds.{RingEnds}
use Rattle.fl_history_rings.specs.declared.board.SideEnd.{SideEnd}
use Rattle.fl_history_rings.specs.Cores.{Owns, TheCoresLeft}
use Rattle.fl_history_sides.specs.Core.{IsDistinct}
use Rattle.fl_cores_shares.specs.declared.shares.CoreShares.{CoreShares}
use Rattle.fl_cores_shares.specs.Shares.{Holdings, Holds}
use Rattle.fl_history_shares.specs.Dealt.{owners_in, numbers_below}

-- by number, so many cores have the sides of these rings
pub record NumbersSides (cores : ℕ) (rings : List RingEnds) (d : CoreShares ℕ) : Type 0 where
  pub owners : d.owners.items ≡ owners_in rings
  pub holds : Holds d (numbers_below (length (owners_in rings)))
  pub cores_are : length d.holdings.items ≡ cores

-- the sides of these numbers are this core's, each once
pub record AreMine (ends : List SideEnd) (core : ℕ) (numbers : List ℕ) : Type 0 where
  pub each : AllByRecursion (λ n. Owns ends n core) numbers
  pub apart : IsDistinct numbers

-- from this core on
abbrev pub AreAllMine : List SideEnd → ℕ → Holdings ℕ → Type 0
AreAllMine ends core [] = Unit {0}
AreAllMine ends core (numbers ∷ holdings) = AreMine ends core numbers × AreAllMine ends (suc core) holdings

-- what is left once so many cores are given out
abbrev pub left_after : TheCoresLeft → ℕ → TheCoresLeft
left_after o count = record { table = o.table; sides = o.sides; cores = o.cores; next = count }
