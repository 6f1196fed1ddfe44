-- How one table of nodes holds three lists.
use Rattle.std.specs.Prelude.{ℕ, ◌≡◌, ◌≢◌, ◌+◌, ◌-◌, ◌≤◌, ◌==◌, true, false, if◌then◌else◌, List}
use Rattle.std.specs.Prelude.{[], ◌∷◌, length, map, zero, suc, Option, Some, None, Bool, slice_index_or}
use Rattle.fl_lists.specs.declared.place.Place.{Place}
use Rattle.fl_lists.specs.declared.place.Place.TheVariants.{Idle, Polled, Pending}
use Rattle.fl_lists.specs.declared.node.Node.{Node}
use Rattle.fl_lists.specs.ThreeLists.{ThreeLists, is_in, NoRepeat}

-- a node that is in no list
abbrev pub free_node : Node
free_node = record { prev = 0; next = 0; place = None }

abbrev pub node_at : List Node → ℕ → Node
node_at nodes i = slice_index_or nodes i free_node

abbrev pub next_at : List Node → ℕ → ℕ
next_at nodes i = (node_at nodes i).next

abbrev pub prev_at : List Node → ℕ → ℕ
prev_at nodes i = (node_at nodes i).prev

abbrev pub place_at : List Node → ℕ → Option Place
place_at nodes i = (node_at nodes i).place

-- `right` now comes after `left`, and nothing else has changed
pub record Joined (old new : List Node) (left right : ℕ) : Type 0 where
  pub nexts : (k : ℕ) → next_at new k ≡ (if k == left then right else next_at old k)
  pub prevs : (k : ℕ) → prev_at new k ≡ (if k == right then left else prev_at old k)
  pub places : (k : ℕ) → place_at new k ≡ place_at old k
  pub size : length new ≡ length old

-- the neighbours of `at` are now each other's, and `at` is in no list
pub record TakenOut (old new : List Node) (at : ℕ) : Type 0 where
  pub nexts : (k : ℕ) → k ≢ at → next_at new k ≡ (if k == prev_at old at then next_at old at else next_at old k)
  pub prevs : (k : ℕ) → k ≢ at → prev_at new k ≡ (if k == next_at old at then prev_at old at else prev_at old k)
  pub places : (k : ℕ) → place_at new k ≡ (if k == at then None else place_at old k)
  pub size : length new ≡ length old

-- `at` now stands between what was the last node of the list and its head
pub record PutBefore (old new : List Node) (at head : ℕ) (place : Place) : Type 0 where
  pub nexts : (k : ℕ) → next_at new k ≡ (if k == at then head else (if k == prev_at old head then at else next_at old k))
  pub prevs : (k : ℕ) → prev_at new k ≡ (if k == head then at else (if k == at then prev_at old head else prev_at old k))
  pub places : (k : ℕ) → place_at new k ≡ (if k == at then Some place else place_at old k)
  pub size : length new ≡ length old

-- beside the node at index `moved`, at most `most` nodes or heads differ
pub record ChangesFew (most moved : ℕ) (old new : List Node) : Type 0 where
  pub changed : List ℕ
  pub few : length changed ≤ most
  pub others : (k : ℕ) → k ≢ moved → is_in k changed ≡ false → node_at new k ≡ node_at old k

-- the first three nodes of the table are the heads of the three lists
abbrev pub head_of : Place → ℕ
head_of Idle = 0
head_of Polled = 1
head_of Pending = 2

-- and behind them stand the nodes of the numbers
abbrev pub index_of : ℕ → ℕ
index_of c = c + 3

abbrev pub indexes : List ℕ → List ℕ
indexes xs = map index_of xs

-- the numbers whose nodes stand at these indexes
abbrev pub numbers : List ℕ → List ℕ
numbers ks = map (λ k. k - 3) ks

-- `next` leads from a over the list to b, and `prev` leads back
abbrev pub Chain : (ℕ → ℕ) → (ℕ → ℕ) → ℕ → List ℕ → ℕ → Type 0
Chain next prev a [] b = (next a ≡ b) × (prev b ≡ a)
Chain next prev a (x ∷ xs) b = (next a ≡ x) × ((prev x ≡ a) × Chain next prev x xs b)

-- a head and its list: a ring of different nodes, which are just the nodes of this place
pub record Ring (nodes : List Node) (head : ℕ) (place : Place) (xs : List ℕ) : Type 0 where
  pub chain : Chain (next_at nodes) (prev_at nodes) head xs head
  pub once : NoRepeat (head ∷ xs)
  pub placed : (k : ℕ) → is_in k (head ∷ xs) ≡ true → place_at nodes k ≡ Some place
  pub listed : (k : ℕ) → place_at nodes k ≡ Some place → is_in k (head ∷ xs) ≡ true

-- the nodes from a on, until the head comes
abbrev pub walk : (ℕ → ℕ) → ℕ → ℕ → ℕ → List ℕ
walk next head zero a = []
walk next head (suc steps) a = if a == head then [] else a ∷ walk next head steps (next a)

-- the list in this place: from the first node on, by `next`
abbrev pub list_from : List Node → Place → List ℕ
list_from nodes place =
    let head = head_of place in numbers (walk (next_at nodes) head (length nodes) (next_at nodes head))

abbrev pub lists_of : List Node → ThreeLists
lists_of nodes = record {
  size = length nodes - 3;
  idle = list_from nodes Idle;
  polled = list_from nodes Polled;
  pending = list_from nodes Pending;
}

-- the table holds three heads, its indexes have 16 bits, and each list is a ring
pub record IsTable (nodes : List Node) : Type 0 where
  pub heads : 3 ≤ length nodes
  pub short : length nodes ≤ 65536
  pub ring : (place : Place) → Ring nodes (head_of place) place (indexes (list_from nodes place))

-- a table in which nothing stands
abbrev pub AllFree : List Node → Type 0
AllFree nodes = (k : ℕ) → node_at nodes k ≡ free_node

-- two tables of the same nodes: one may be longer by free ones
abbrev pub SameNodes : List Node → List Node → Type 0
SameNodes xs ys = (k : ℕ) → node_at ys k ≡ node_at xs k

-- the same lists, of the numbers below another size
abbrev pub sized : ℕ → ThreeLists → ThreeLists
sized n w = record w { size = n }

-- what callers see of a `Lists`: its three lists, and the table that holds them
pub record TheLists : Type 0 where
  pub lists : ThreeLists
  pub table : List Node

-- the table that is in use: the near one, or the large one
abbrev pub in_use : Bool → List Node → List Node → List Node
in_use few near nodes = if few then near else nodes

abbrev pub seen_of : Bool → List Node → List Node → ℕ → TheLists
seen_of few near nodes n =
    record { lists = sized n (lists_of (in_use few near nodes)); table = in_use few near nodes }

-- the lists are those of a table with nodes of some of the numbers, or of all
pub record IsOver (w : TheLists) : Type 0 where
  pub table : IsTable w.table
  pub within : length w.table ≤ w.lists.size + 3
  pub short : w.lists.size ≤ 65533
  pub lists : w.lists ≡ sized w.lists.size (lists_of w.table)

-- the near table has eight nodes, and the large one those of all numbers, which are free while the near one is in
-- use; `n` is the size
pub record IsHeld (few : Bool) (near nodes : List Node) (n : ℕ) : Type 0 where
  pub table : IsTable (in_use few near nodes)
  pub within : length (in_use few near nodes) ≤ n + 3
  pub eight : length near ≡ 8
  pub whole : length nodes ≡ n + 3
  pub short : n ≤ 65533
  pub free : few ≡ true → AllFree nodes
