-- One core's table of circuits: its links, and where each circuit number on each link leads.
use Rattle.std.specs.Prelude.{ℕ, ◌≡◌, ◌+◌, ◌*◌, ◌==◌, nat_lt, Bool, false, if◌then◌else◌, Option, Some, None, is_some}
use Rattle.std.specs.Prelude.{List, [], ◌∷◌, ◌++◌, length, replicate, position, slice_set, slice_index_or}
use Rattle.std.specs.List.{list_any}
use Rattle.fl_base.specs.declared.identity.CoreId.{CoreId}
use Rattle.fl_hop.specs.declared.entry.HopTarget.{HopTarget}
use Rattle.fl_hop.specs.declared.entry.HopTarget.TheVariants.{Link, End}
use Rattle.fl_hop.specs.declared.entry.Hop.{Hop}
use Rattle.fl_hop.specs.declared.links.LinkState.{LinkState}
use Rattle.fl_hop.specs.declared.fault.HopFault.{HopFault}
use Rattle.fl_hop.specs.declared.fault.HopFault.TheVariants.{NoLink, Limit}

-- what contracts see of a table
pub record TheCircuits : Type 0 where
  -- the core whose table it is
  pub core : ℕ
  -- its links, in order of making
  pub links : List LinkState
  -- where each number of each link leads, None where no entry stands: number n of link l is at 2,047 l + n
  pub hops : List (Option Hop)

-- how many links a core may have: one to each other core of a world
abbrev pub most_links : ℕ
most_links = 15

-- how many circuits a core may open on one link
abbrev pub most_openings : ℕ
most_openings = 1023

-- the numbers on a link are those below this: 0, which is no circuit's, and 1,023 for each of its two cores
abbrev pub numbers : ℕ
numbers = 2047

-- where number n of link l stands in the list of all
abbrev pub slot : ℕ → ℕ → ℕ
slot l n = numbers * l + n

-- what the entry at number n of link l says, if one stands there
abbrev pub hop_at : TheCircuits → ℕ → ℕ → Option Hop
hop_at t l n = if nat_lt n numbers then slice_index_or t.hops (slot l n) None else None

-- whether an entry is of this binding
abbrev pub is_of : ℕ → Option Hop → Bool
is_of binding None = false
is_of binding (Some hop) = hop.binding == binding

-- whether an entry of this binding stands at the core
abbrev pub stands : TheCircuits → ℕ → Bool
stands t binding = list_any (is_of binding) t.hops

-- the table with other links, and all else the same
abbrev pub with_links : TheCircuits → List LinkState → TheCircuits
with_links t links = record { core = t.core; links = links; hops = t.hops }

-- the table with other entries, and all else the same
abbrev pub with_hops : TheCircuits → List (Option Hop) → TheCircuits
with_hops t hops = record { core = t.core; links = t.links; hops = hops }

-- the entries with this at a way's own number; a way to an end has none
abbrev pub put_at : HopTarget → Option Hop → List (Option Hop) → List (Option Hop)
put_at (Link l c) hop hops = slice_set hops (slot l.0 c.0) hop
put_at (End e) hop hops = hops

-- what an entry says of where it leads
abbrev pub leading : ℕ → Bool → HopTarget → Option Hop
leading binding answered way = Some (record { binding = binding; way = way; answered = answered })

-- the table with an entry that joins two ways: each leads to the other
abbrev pub with_entry : TheCircuits → ℕ → Bool → HopTarget → HopTarget → TheCircuits
with_entry t binding answered a b = with_hops t (put_at b (leading binding answered a) (put_at a (leading binding answered b) t.hops))

-- the table without the entry that joins two ways
abbrev pub without_entry : TheCircuits → HopTarget → HopTarget → TheCircuits
without_entry t a b = with_hops t (put_at b None (put_at a None t.hops))

-- the link to a core, if there is one
abbrev pub link_of : TheCircuits → ℕ → Option ℕ
link_of t core = position (λ (link : LinkState). link.neighbour.0 == core) t.links

-- why no link to a core is made, out of memory aside
abbrev pub link_fault : TheCircuits → ℕ → Option HopFault
link_fault t core =
    if core == t.core then Some NoLink
    else if is_some (link_of t core) then Some NoLink
    else if nat_lt (length t.links) most_links then None
    else Some Limit

-- the table with one more link, to this core, on which nothing was opened
abbrev pub with_link : TheCircuits → CoreId → TheCircuits
with_link t core = record {
  core = t.core;
  links = t.links ++ record { neighbour = core; opened = 0; taken = 0 } ∷ [];
  hops = t.hops ++ replicate numbers None;
}

-- a table to which a link was added, with nothing else since
pub record IsLinked (t : TheCircuits) : Type 0 where
  pub before : TheCircuits
  pub neighbour : CoreId
  pub table : t ≡ with_link before neighbour
