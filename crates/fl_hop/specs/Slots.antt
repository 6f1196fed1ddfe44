-- Working file: how a table keeps its entries, each once, in a slab, found by a cell for each number of each link.
use Rattle.std.specs.Prelude.{ℕ, ◌≡◌, ◌≢◌, ◌*◌, ◌≤◌, nat_lt, if◌then◌else◌, Option, Some, None, option_map}
use Rattle.std.specs.Prelude.{List, length, map, slice_get, slice_set, slice_index_or}
use Rattle.slab.specs.Slab.{Slab, get, Updates}
use Rattle.fl_base.specs.declared.identity.LinkId.{LinkId}
use Rattle.fl_base.specs.declared.identity.Circuit.{Circuit}
use Rattle.fl_hop.specs.declared.entry.HopTarget.{HopTarget}
use Rattle.fl_hop.specs.declared.entry.HopTarget.TheVariants.{Link, End}
use Rattle.fl_hop.specs.declared.entry.Hop.{Hop}
use Rattle.fl_hop.specs.declared.entry.Entry.{Entry}
use Rattle.fl_hop.specs.declared.entry.Cell.{Cell}
use Rattle.fl_hop.specs.declared.entry.Cell.TheVariants.{Free, ClientSide, ServerSide}
use Rattle.fl_hop.specs.declared.links.LinkState.{LinkState}
use Rattle.fl_hop.specs.Table.{TheCircuits, most_links, most_openings, numbers, slot}
use Rattle.fl_hop.specs.Joined.{IsClientWay, IsServerWay}

-- an entry as it is read from its client's side, and from its server's
abbrev pub from_client : Entry → Hop
from_client e = record { binding = e.binding; way = e.server; answered = e.answered }

abbrev pub from_server : Entry → Hop
from_server e = record { binding = e.binding; way = e.client; answered = e.answered }

-- what a cell shows
abbrev pub shown : Slab Entry → Cell → Option Hop
shown s Free = None
shown s (ClientSide key) = option_map from_client (get s key)
shown s (ServerSide key) = option_map from_server (get s key)

-- the table that is kept so
abbrev pub table_of : ℕ → List LinkState → List Cell → Slab Entry → TheCircuits
table_of core links cells s = record { core = core; links = links; hops = map (shown s) cells }

-- what stands at number n of link l
abbrev pub cell_of : List Cell → ℕ → ℕ → Cell
cell_of cells l n = if nat_lt n numbers then slice_index_or cells (slot l n) Free else Free

-- the cells with this at a way's own number; a way to an end has none
abbrev pub with_cell : HopTarget → Cell → List Cell → List Cell
with_cell (Link l c) cell cells = slice_set cells (slot l.0 c.0) cell
with_cell (End e) cell cells = cells

-- number n of link l is at place i, and is a number of a link
pub record IsAt (l : LinkId) (c : Circuit) (i : ℕ) : Type 0 where
  pub place : i ≡ slot l.0 c.0
  pub small : c.0 ≤ 2046

-- the way is a number of a link, at this place
abbrev pub IsPlaced : HopTarget → ℕ → Type 0
IsPlaced (Link l c) i = IsAt l c i
IsPlaced (End e) i = ⊥

-- this stands at a way's own number; a way to an end has none
abbrev pub Sits : List Cell → HopTarget → Cell → Type 0
Sits cells (Link l c) cell = (c.0 ≤ 2046) × (slice_get cells (slot l.0 c.0) ≡ Some cell)
Sits cells (End e) cell = Unit {0}

-- the entry with this key, one of whose sides stands at a place
pub record Found (side : Entry → HopTarget) (s : Slab Entry) (i key : ℕ) : Type 0 where
  pub entry : Entry
  pub kept : get s key ≡ Some entry
  pub placed : IsPlaced (side entry) i

-- two ways are over two links, or one of them is
abbrev pub IsOver : HopTarget → HopTarget → Type 0
IsOver (Link l c) (Link m d) = l.0 ≢ m.0
IsOver (Link l c) (End e) = Unit {0}
IsOver (End e) (Link l c) = Unit {0}
IsOver (End e) (End f) = ⊥

-- how the parts of a table fit together
pub record SlotsKept (core : ℕ) (links : List LinkState) (cells : List Cell) (s : Slab Entry) : Type 0 where
  pub few : length links ≤ most_links
  pub whole : length cells ≡ numbers * length links
  pub apart : (l : ℕ) (a : LinkState) → slice_get links l ≡ Some a → a.neighbour.0 ≢ core
  pub once : (l m : ℕ) (a b : LinkState) → slice_get links l ≡ Some a → slice_get links m ≡ Some b
      → a.neighbour.0 ≡ b.neighbour.0 → l ≡ m
  pub counts : (l : ℕ) (a : LinkState) → slice_get links l ≡ Some a → (a.opened ≤ most_openings) × (a.taken ≤ most_openings)
  -- each cell leads to its entry, and that side of the entry is where the cell stands
  pub client : (i key : ℕ) → slice_get cells i ≡ Some (ClientSide key) → Found (λ e. e.client) s i key
  pub server : (i key : ℕ) → slice_get cells i ≡ Some (ServerSide key) → Found (λ e. e.server) s i key
  -- each side of an entry that is a number of a link has its cell
  pub client_back : (key : ℕ) (e : Entry) → get s key ≡ Some e → Sits cells e.client (ClientSide key)
  pub server_back : (key : ℕ) (e : Entry) → get s key ≡ Some e → Sits cells e.server (ServerSide key)
  pub ways : (key : ℕ) (e : Entry) → get s key ≡ Some e
      → IsClientWay core links e.binding e.client × IsServerWay core links e.binding e.server
  pub over : (key : ℕ) (e : Entry) → get s key ≡ Some e → IsOver e.client e.server
  pub one : (key other : ℕ) (e f : Entry) → get s key ≡ Some e → get s other ≡ Some f → e.binding ≡ f.binding → key ≡ other

-- an entry was put into a slab, and its sides into the cells
pub record Entered (e : Entry) (cells : List Cell) (s : Slab Entry) (cells2 : List Cell) (s2 : Slab Entry) : Type 0 where
  pub key : ℕ
  pub vacant : get s key ≡ None
  pub updates : Updates s s2 key (Some e)
  pub placed : cells2 ≡ with_cell e.server (ServerSide key) (with_cell e.client (ClientSide key) cells)
