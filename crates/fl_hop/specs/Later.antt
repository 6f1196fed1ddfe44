-- What a table keeps while calls change it: numbers stay given, and where an entry stood at a number no other ever stands.
use Rattle.std.specs.Prelude.{ℕ, ◌≡◌, ◌⊎◌, false, Option, None, option_map}
use Rattle.fl_hop.specs.declared.entry.HopTarget.{HopTarget}
use Rattle.fl_hop.specs.declared.entry.Hop.{Hop}
use Rattle.fl_hop.specs.Table.{TheCircuits, hop_at}
use Rattle.fl_hop.specs.Numbers.{OpenedHere, OpenedThere, Given}

-- which way number n of link l leads
abbrev pub way_at : TheCircuits → ℕ → ℕ → Option HopTarget
way_at t l n = option_map (λ (hop : Hop). hop.way) (hop_at t l n)

-- an entry, whether it was answered set aside
abbrev pub unanswered : Hop → Hop
unanswered hop = record { binding = hop.binding; way = hop.way; answered = false }

-- the entry at number n of link l, whether it was answered set aside
abbrev pub entry_at : TheCircuits → ℕ → ℕ → Option Hop
entry_at t l n = option_map unanswered (hop_at t l n)

-- u is what t became
pub record Later (t u : TheCircuits) : Type 0 where
  pub core : u.core ≡ t.core
  pub here : (l n : ℕ) → OpenedHere t l n → OpenedHere u l n
  pub there : (l n : ℕ) → OpenedThere t l n → OpenedThere u l n
  -- at a number that was given no other entry ever comes: the one that stood there stands, or is gone
  pub kept : (l n : ℕ) → Given t l n → (entry_at u l n ≡ entry_at t l n) ⊎ (hop_at u l n ≡ None)
