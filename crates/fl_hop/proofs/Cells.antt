-- Cells, and what a table shows of them.
use Rattle.std.proofs.Common.{◌≡◌, ◌≢◌, refl, sym, ap, ◌∙◌, ℕ, ◌<◌, ◌≤◌, ◌⊎◌, inl, inr, Bool, true, false, cond, nat_lt, List, map, slice_get, slice_index_or, Option, Some, None, option_map, arith}
use Rattle.std.proofs.lemmas.Bool.Decides.{nat_tests}
use Rattle.slab.specs.Slab.{Slab, get}
use Rattle.fl_base.specs.declared.identity.LinkId.{LinkId}
use Rattle.fl_base.specs.declared.identity.Circuit.{Circuit}
use Rattle.fl_hop.specs.declared.entry.HopTarget.{HopTarget}
use Rattle.fl_hop.specs.declared.entry.HopTarget.TheVariants.{Link, End}
use Rattle.fl_hop.specs.declared.entry.Hop.{Hop}
use Rattle.fl_hop.specs.declared.entry.Entry.{Entry}
use Rattle.fl_hop.specs.declared.entry.Cell.{Cell}
use Rattle.fl_hop.specs.declared.entry.Cell.TheVariants.{Free, ClientSide, ServerSide}
use Rattle.fl_hop.specs.declared.links.LinkState.{LinkState}
use Rattle.fl_hop.specs.Table.{TheCircuits, slot, hop_at}
use Rattle.fl_hop.specs.Slots.{table_of, shown, from_client, from_server, cell_of, IsPlaced, SlotsKept}
use Rattle.fl_hop.proofs.Lists.{index_map, index_found, index_there}

-- a number's place tells it
pub slot_once : (l n m k : ℕ) → slot l n ≡ slot m k → n ≤ 2046 → k ≤ 2046 → (l ≡ m) × (n ≡ k)
slot_once l n m k e a b = (omega arith, omega arith)

pub same_link : (a b : LinkId) → a.0 ≡ b.0 → a ≡ b
same_link a b e = let f : ℕ → LinkId = λ x. record { 0 = x } in ap f e

pub same_circuit : (a b : Circuit) → a.0 ≡ b.0 → a ≡ b
same_circuit a b e = let f : ℕ → Circuit = λ x. record { 0 = x } in ap f e

-- a way that stands at a number's place is that number's
pub placed_at : (way : HopTarget) (l : LinkId) (c : Circuit) → IsPlaced way (slot l.0 c.0) → c.0 ≤ 2046 → way ≡ Link l c
placed_at (Link m d) l c at small =
    let (a, b) = slot_once l.0 c.0 m.0 d.0 at.place small at.small in
    let f : LinkId → HopTarget = λ x. Link x d in
    let g : Circuit → HopTarget = λ x. Link l x in
    ap f (same_link m l (sym a)) ∙ ap g (same_circuit d c (sym b))
placed_at (End e) l c at small = absurd at

cond_cell : (b : Bool) (v x : Cell) → cond b v Free ≡ x → x ≢ Free → (b ≡ true) × (v ≡ x)
cond_cell true v x e n = (refl, e)
cond_cell false v x e n = absurd (n (sym e))

pub is_less : (n m : ℕ) → nat_lt n m ≡ true → n < m
is_less n m e = grind (arith, nat_tests, e)

pub less_is : (n m : ℕ) → n < m → nat_lt n m ≡ true
less_is n m l = grind (arith, nat_tests, l)

-- a cell that isn't free stands at its number's place
pub cell_found : (cells : List Cell) (l n : ℕ) (x : Cell) → cell_of cells l n ≡ x → x ≢ Free → (n ≤ 2046) × (slice_get cells (slot l n) ≡ Some x)
cell_found cells l n x e used =
    let (b, v) = cond_cell (nat_lt n 2047) (slice_index_or cells (slot l n) Free) x e used in
    let small = is_less n 2047 b in
    (omega arith, index_found cells (slot l n) Free x v used)

pub cond_true : {X : Type 0} (b : Bool) (x y : X) → b ≡ true → cond b x y ≡ x
cond_true true x y e = refl
cond_true false x y e = cc

pub cond_false : {X : Type 0} (b : Bool) (x y : X) → b ≡ false → cond b x y ≡ y
cond_false true x y e = cc
cond_false false x y e = refl

pub cell_there : (cells : List Cell) (l n : ℕ) (x : Cell) → n ≤ 2046 → slice_get cells (slot l n) ≡ Some x → cell_of cells l n ≡ x
cell_there cells l n x small e =
    cond_true (nat_lt n 2047) (slice_index_or cells (slot l n) Free) Free (less_is n 2047 (omega arith)) ∙ index_there cells (slot l n) Free x e

show_cond : (s : Slab Entry) (b : Bool) (o : Option Hop) (x : Cell) → o ≡ shown s x → cond b o None ≡ shown s (cond b x Free)
show_cond s true o x e = e
show_cond s false o x e = refl

-- what a table shows at a number is what its cell shows
pub hop_is : (core : ℕ) (links : List LinkState) (cells : List Cell) (s : Slab Entry) (l n : ℕ) → hop_at (table_of core links cells s) l n ≡ shown s (cell_of cells l n)
hop_is core links cells s l n =
    show_cond s (nat_lt n 2047) (slice_index_or (map (shown s) cells) (slot l n) None) (slice_index_or cells (slot l n) Free) (index_map (shown s) cells (slot l n) Free)

-- the same, where the cell was read
pub hop_read : (core : ℕ) (links : List LinkState) (cells : List Cell) (s : Slab Entry) (t : TheCircuits) → table_of core links cells s ≡ t → (l n : ℕ) (slice : List Cell) (cell x : Cell) → slice ≡ cells → cell ≡ cell_of slice l n → cell ≡ x → shown s x ≡ hop_at t l n
hop_read core links cells s t is l n slice cell x same at e =
    let show : Cell → Option Hop = λ y. shown s y in
    ap show (sym e ∙ at) ∙ ap (λ v. shown s (cell_of v l n)) same ∙ sym (hop_is core links cells s l n) ∙ ap (λ u. hop_at u l n) is

-- what is known of a number where an entry stands: the entry, and which of its sides is there
pub record AtClient (cells : List Cell) (s : Slab Entry) (l n : ℕ) (hop : Hop) : Type 0 where
  pub key : ℕ
  pub entry : Entry
  pub kept : get s key ≡ Some entry
  pub small : n ≤ 2046
  pub cell : slice_get cells (slot l n) ≡ Some (ClientSide key)
  pub placed : IsPlaced entry.client (slot l n)
  pub is : hop ≡ from_client entry

pub record AtServer (cells : List Cell) (s : Slab Entry) (l n : ℕ) (hop : Hop) : Type 0 where
  pub key : ℕ
  pub entry : Entry
  pub kept : get s key ≡ Some entry
  pub small : n ≤ 2046
  pub cell : slice_get cells (slot l n) ≡ Some (ServerSide key)
  pub placed : IsPlaced entry.server (slot l n)
  pub is : hop ≡ from_server entry

map_some : {X Y : Type 0} (f : X → Y) (o : Option X) (x : X) (y : Y) → o ≡ Some x → option_map f o ≡ Some y → y ≡ f x
map_some f None x y e h = cc
map_some f (Some z) x y e h = let same : x ≡ z = cc in let there : y ≡ f z = cc in there ∙ ap f (sym same)

side_of : (core : ℕ) (links : List LinkState) (cells : List Cell) (s : Slab Entry) → SlotsKept core links cells s → (l n : ℕ) (hop : Hop) (x : Cell) → cell_of cells l n ≡ x → shown s x ≡ Some hop → AtClient cells s l n hop ⊎ AtServer cells s l n hop
side_of core links cells s k l n hop Free e h = absurd (cc)
side_of core links cells s k l n hop (ClientSide key) e h =
    let (small, at) = cell_found cells l n (ClientSide key) e (λ q. cc) in
    let f = k.client (slot l n) key at in
    inl (record { key = key; entry = f.entry; kept = f.kept; small = small; cell = at; placed = f.placed; is = map_some from_client (get s key) f.entry hop f.kept h })
side_of core links cells s k l n hop (ServerSide key) e h =
    let (small, at) = cell_found cells l n (ServerSide key) e (λ q. cc) in
    let f = k.server (slot l n) key at in
    inr (record { key = key; entry = f.entry; kept = f.kept; small = small; cell = at; placed = f.placed; is = map_some from_server (get s key) f.entry hop f.kept h })

pub side : (core : ℕ) (links : List LinkState) (cells : List Cell) (s : Slab Entry) → SlotsKept core links cells s → (l n : ℕ) (hop : Hop) → hop_at (table_of core links cells s) l n ≡ Some hop → AtClient cells s l n hop ⊎ AtServer cells s l n hop
side core links cells s k l n hop e =
    side_of core links cells s k l n hop (cell_of cells l n) refl (sym (hop_is core links cells s l n) ∙ e)
