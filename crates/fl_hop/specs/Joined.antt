-- What holds of every table: entries are joined both ways, at numbers that were given, from the client to the server, and
-- a binding has one.
use Rattle.std.specs.Prelude.{ℕ, ◌≡◌, ◌≢◌, ◌⊎◌, ◌*◌, ◌≤◌, Bool, List, length, slice_get, Some}
use Rattle.fl_base.specs.declared.identity.LinkId.{LinkId}
use Rattle.fl_base.specs.declared.identity.Circuit.{Circuit}
use Rattle.fl_base.specs.declared.identity.Side.TheVariants.{Client, Server}
use Rattle.fl_hop.specs.declared.entry.HopTarget.{HopTarget}
use Rattle.fl_hop.specs.declared.entry.HopTarget.TheVariants.{Link, End}
use Rattle.fl_hop.specs.declared.links.LinkState.{LinkState}
use Rattle.fl_hop.specs.Table.{TheCircuits, most_links, most_openings, numbers, hop_at, leading}
use Rattle.fl_hop.specs.Numbers.{IsOpened, IsTaken, OpenedHere, OpenedThere}

-- an entry of this binding leads from number n of link l this way
pub record Leads (t : TheCircuits) (l n binding : ℕ) (way : HopTarget) : Type 0 where
  pub answered : Bool
  pub there : hop_at t l n ≡ leading binding answered way

-- a way toward the client: a number that the neighbour gave, or the client's own end
abbrev pub IsClientWay : ℕ → List LinkState → ℕ → HopTarget → Type 0
IsClientWay core links binding (Link l c) = IsTaken core links l.0 c.0
IsClientWay core links binding (End e) = e ≡ record { binding = binding; side = Client }

-- a way toward the server: a number that this core gave, or the server's own end
abbrev pub IsServerWay : ℕ → List LinkState → ℕ → HopTarget → Type 0
IsServerWay core links binding (Link l c) = IsOpened core links l.0 c.0
IsServerWay core links binding (End e) = e ≡ record { binding = binding; side = Server }

-- what holds of every table
pub record Sound (t : TheCircuits) : Type 0 where
  pub few : length t.links ≤ most_links
  pub whole : length t.hops ≡ numbers * length t.links
  -- no link goes to the core itself, and no two to one core
  pub apart : (l : ℕ) (a : LinkState) → slice_get t.links l ≡ Some a → a.neighbour.0 ≢ t.core
  pub once : (l m : ℕ) (a b : LinkState) → slice_get t.links l ≡ Some a → slice_get t.links m ≡ Some b
      → a.neighbour.0 ≡ b.neighbour.0 → l ≡ m
  pub counts : (l : ℕ) (a : LinkState) → slice_get t.links l ≡ Some a → (a.opened ≤ most_openings) × (a.taken ≤ most_openings)
  -- a number that this core gave leads to the client, and one that the neighbour gave to the server
  pub toward : (l n binding : ℕ) (way : HopTarget) → Leads t l n binding way
      → (OpenedHere t l n × IsClientWay t.core t.links binding way) ⊎ (OpenedThere t l n × IsServerWay t.core t.links binding way)
  -- reading an entry from its other side leads back
  pub both : (l m : LinkId) (c d : Circuit) (binding : ℕ) → Leads t l.0 c.0 binding (Link m d)
      → Leads t m.0 d.0 binding (Link l c)
  -- an entry joins two links
  pub over : (l n binding : ℕ) (m : LinkId) (d : Circuit) → Leads t l n binding (Link m d) → l ≢ m.0
  -- a binding has one entry: where two numbers are of one binding, they are one, or the entry's two sides
  pub one : (l m : LinkId) (c d : Circuit) (binding : ℕ) (a b : HopTarget) → Leads t l.0 c.0 binding a → Leads t m.0 d.0 binding b
      → ((l ≡ m) × (c ≡ d)) ⊎ (a ≡ Link m d)
