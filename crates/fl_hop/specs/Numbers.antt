-- How circuits are numbered on a link. Each of its two cores counts its own openings there, from 0. The lower core
-- gives 1, 3, 5 and so on, the higher 2, 4, 6; number 0 stands for the monitors' own messages.
use Rattle.std.specs.Prelude.{ℕ, ◌≡◌, ◌⊎◌, ◌+◌, ◌*◌, ◌<◌, nat_lt, if◌then◌else◌, List, slice_get, slice_set, Option, Some, None}
use Rattle.fl_hop.specs.declared.links.LinkState.{LinkState}
use Rattle.fl_hop.specs.Table.{TheCircuits, most_openings, with_links}

-- the number of a core's opening k on a link to another core
abbrev pub number : ℕ → ℕ → ℕ → ℕ
number core other k = if nat_lt core other then 2 * k + 1 else 2 * k + 2

-- the number of the next opening, after so many; none after 1,023
abbrev pub next_number : ℕ → ℕ → ℕ → Option ℕ
next_number core other count = if nat_lt count most_openings then Some (number core other count) else None

-- this core's next number on one of its links
abbrev pub next_here : ℕ → Option LinkState → Option ℕ
next_here core None = None
next_here core (Some link) = next_number core link.neighbour.0 link.opened

-- the neighbour's next number there, by the count of those taken
abbrev pub next_there : ℕ → Option LinkState → Option ℕ
next_there core None = None
next_there core (Some link) = next_number link.neighbour.0 core link.taken

-- the next number of this core's own on link l
abbrev pub next_own : TheCircuits → ℕ → Option ℕ
next_own t l = next_here t.core (slice_get t.links l)

-- the next number of the neighbour's on link l
abbrev pub next_due : TheCircuits → ℕ → Option ℕ
next_due t l = next_there t.core (slice_get t.links l)

-- one more opening of this core's own on a link
abbrev pub with_opening : LinkState → LinkState
with_opening link = record { neighbour = link.neighbour; opened = link.opened + 1; taken = link.taken }

-- one more opening of the neighbour's on a link
abbrev pub with_taking : LinkState → LinkState
with_taking link = record { neighbour = link.neighbour; opened = link.opened; taken = link.taken + 1 }

-- link l changed, and the other links as they are
abbrev pub changed : (LinkState → LinkState) → List LinkState → ℕ → Option LinkState → List LinkState
changed f links l None = links
changed f links l (Some link) = slice_set links l (f link)

-- the links with one more opening of this core's own on link l
abbrev pub count_opening : List LinkState → ℕ → List LinkState
count_opening links l = changed with_opening links l (slice_get links l)

-- the links with one more opening of the neighbour's on link l
abbrev pub count_taking : List LinkState → ℕ → List LinkState
count_taking links l = changed with_taking links l (slice_get links l)

-- the table with one more opening of this core's own on link l
abbrev pub after_opening : TheCircuits → ℕ → TheCircuits
after_opening t l = with_links t (count_opening t.links l)

-- the table with one more opening of the neighbour's on link l
abbrev pub after_taking : TheCircuits → ℕ → TheCircuits
after_taking t l = with_links t (count_taking t.links l)

-- n is one of the first so many numbers of a core on a link to another
abbrev pub IsAmong : ℕ → ℕ → ℕ → ℕ → Type 0
IsAmong core other count n = (k : ℕ) × (k < count) × (n ≡ number core other k)

-- n is a number that a core of these links gave on link l
pub record IsOpened (core : ℕ) (links : List LinkState) (l n : ℕ) : Type 0 where
  pub link : LinkState
  pub there : slice_get links l ≡ Some link
  pub among : IsAmong core link.neighbour.0 link.opened n

-- n is a number that the neighbour gave on link l, and that was taken at a core of these links
pub record IsTaken (core : ℕ) (links : List LinkState) (l n : ℕ) : Type 0 where
  pub link : LinkState
  pub there : slice_get links l ≡ Some link
  pub among : IsAmong link.neighbour.0 core link.taken n

-- n was given on link l, by either core
abbrev pub IsGiven : ℕ → List LinkState → ℕ → ℕ → Type 0
IsGiven core links l n = IsOpened core links l n ⊎ IsTaken core links l n

-- the same in a table
abbrev pub OpenedHere : TheCircuits → ℕ → ℕ → Type 0
OpenedHere t l n = IsOpened t.core t.links l n

abbrev pub OpenedThere : TheCircuits → ℕ → ℕ → Type 0
OpenedThere t l n = IsTaken t.core t.links l n

abbrev pub Given : TheCircuits → ℕ → ℕ → Type 0
Given t l n = IsGiven t.core t.links l n
