use Rattle.std.proofs.Common.{◌-◌, ◌<◌, ◌≤◌, ◌++◌, false, List, length, take, drop, sym, ◌∙◌, ap, subst, arith}
use Rattle.fl_lists.specs.ThreeLists.{ThreeLists, place_of, pushed}
use Rattle.fl_lists.specs.Table.{index_of, lists_of, AllFree, IsTable}
use Rattle.fl_lists.specs.declared.node.Node.{Node}
use Rattle.fl_lists.proofs.Sized.{After, pushed_sized, below_nodes, nodes_short, near_longer, near_table, near_place, near_after, large_table, large_place, large_after, wider_after}
use Rattle.fl_lists.proofs.lists.Lists.push_back.Goals as goal

-- the large table is in use
pub push-requires-clause-table : goal.push-requires-clause-table
push-requires-clause-table c =
    subst (λ (xs : List Node). IsTable xs) (sym c.deref_mut.ensures.value)
    (large_table _ _ _ _ _ c.self.invariant c.self.view_is c.if-not-self.true)

pub push-requires-clause-below : goal.push-requires-clause-below
push-requires-clause-below c =
    subst (λ (xs : List Node). c.args.c < length xs - 3) (sym c.deref_mut.ensures.value)
    (below_nodes _ _ _ _ _ c.self.invariant c.self.view_is c.args.c c.requires.below)

pub push-requires-clause-free : goal.push-requires-clause-free
push-requires-clause-free c =
    ap (λ (xs : List Node). place_of (lists_of xs) c.args.c) c.deref_mut.ensures.value
    ∙ large_place _ _ _ _ _ c.self.invariant c.self.view_is c.if-not-self.true c.args.c ∙ c.requires.free

large : (c : goal.After-self-1) → After 2 (index_of c.args.c) c.args.self.now c.self.inside.few c.self.inside.near (take c.self.inside.nodes.len (c.push.new.nodes ++ drop (length c.push.new.nodes) c.self.inside.nodes.items)) c.self.inside.size (pushed c.args.self.now.lists c.args.c c.args.place)
large c =
    large_after 2 (index_of c.args.c) _ _ _ c.deref_mut.result.now _ c.self.inside.nodes.len _ _ (λ (w : ThreeLists). pushed w c.args.c c.args.place)
    c.self.invariant c.self.view_is c.if-not-self.true c.deref_mut.ensures.value c.deref_mut.ensures.len c.push.auto.nodes
    record { table = c.push.ensures.table; lists = c.push.ensures.lists; few = c.push.ensures.few } (pushed_sized _ _ c.args.c c.args.place)

pub invariant_of-self : goal.invariant_of-self
invariant_of-self c = (large c).held

pub returns-then-not-self : goal.returns-then-not-self
returns-then-not-self c = let left = large c in record { lists = left.lists; few = left.few_changed; apart = left.apart }

-- the near table is in use, and has a node of c
pub push-requires-then-c-lt-FEW-clause-table : goal.push-requires-then-c-lt-FEW-clause-table
push-requires-then-c-lt-FEW-clause-table c = near_table _ _ _ _ _ c.self.invariant c.self.view_is c.if-not-self.false

pub push-requires-then-c-lt-FEW-clause-below : goal.push-requires-then-c-lt-FEW-clause-below
push-requires-then-c-lt-FEW-clause-below c = let eight = c.self.invariant.eight in omega (arith, c.if-c-lt-FEW.true)

pub push-requires-then-c-lt-FEW-clause-free : goal.push-requires-then-c-lt-FEW-clause-free
push-requires-then-c-lt-FEW-clause-free c =
    near_place _ _ _ _ _ c.self.invariant c.self.view_is c.if-not-self.false c.args.c ∙ c.requires.free

near : (c : goal.After-push-then-c-lt-FEW) → After 2 (index_of c.args.c) c.args.self.now c.self.inside.few c.push-then-c-lt-FEW.new.nodes c.self.inside.nodes.items c.self.inside.size (pushed c.args.self.now.lists c.args.c c.args.place)
near c =
    near_after 2 (index_of c.args.c) _ _ _ _ _ _ (λ (w : ThreeLists). pushed w c.args.c c.args.place) c.self.invariant c.self.view_is
    c.if-not-self.false c.push-then-c-lt-FEW.auto.nodes
    record { table = c.push-then-c-lt-FEW.ensures.table; lists = c.push-then-c-lt-FEW.ensures.lists; few = c.push-then-c-lt-FEW.ensures.few }
    (pushed_sized _ _ c.args.c c.args.place)

pub invariant_of-self-then-c-lt-FEW : goal.invariant_of-self-then-c-lt-FEW
invariant_of-self-then-c-lt-FEW c = (near c).held

pub returns-then-c-lt-FEW : goal.returns-then-c-lt-FEW
returns-then-c-lt-FEW c = let left = near c in record { lists = left.lists; few = left.few_changed; apart = left.apart }

-- the near table is in use, and has no node of c
pub push_wider-requires-clause-table : goal.push_wider-requires-clause-table
push_wider-requires-clause-table c = near_table _ _ _ _ _ c.self.invariant c.self.view_is c.if-not-self.false

pub push_wider-requires-clause-longer : goal.push_wider-requires-clause-longer
push_wider-requires-clause-longer c =
    subst (λ (xs : List Node). length c.self.inside.near ≤ length xs) (sym c.deref_mut-else-c-lt-FEW.ensures.value)
    (near_longer _ _ _ _ _ c.self.invariant c.self.view_is c.if-not-self.false)

pub push_wider-requires-clause-short : goal.push_wider-requires-clause-short
push_wider-requires-clause-short c =
    subst (λ (xs : List Node). length xs ≤ 65536) (sym c.deref_mut-else-c-lt-FEW.ensures.value)
    (nodes_short _ _ _ _ _ c.self.invariant c.self.view_is)

pub push_wider-requires-clause-nothing : goal.push_wider-requires-clause-nothing
push_wider-requires-clause-nothing c =
    subst (λ (xs : List Node). AllFree xs) (sym c.deref_mut-else-c-lt-FEW.ensures.value) (c.self.invariant.free c.if-not-self.false)

pub push_wider-requires-clause-below : goal.push_wider-requires-clause-below
push_wider-requires-clause-below c =
    subst (λ (xs : List Node). c.args.c < length xs - 3) (sym c.deref_mut-else-c-lt-FEW.ensures.value)
    (below_nodes _ _ _ _ _ c.self.invariant c.self.view_is c.args.c c.requires.below)

pub push_wider-requires-clause-free : goal.push_wider-requires-clause-free
push_wider-requires-clause-free c = near_place _ _ _ _ _ c.self.invariant c.self.view_is c.if-not-self.false c.args.c ∙ c.requires.free

wider : (c : goal.After-self-else-c-lt-FEW-2-1) → After 2 (index_of c.args.c) c.args.self.now false c.self.inside.near (take c.self.inside.nodes.len (c.push_wider.new.nodes ++ drop (length c.push_wider.new.nodes) c.self.inside.nodes.items)) c.self.inside.size (pushed c.args.self.now.lists c.args.c c.args.place)
wider c =
    wider_after 2 (index_of c.args.c) _ _ _ c.deref_mut-else-c-lt-FEW.result.now _ c.self.inside.nodes.len _ _
    (λ (w : ThreeLists). pushed w c.args.c c.args.place) c.self.invariant c.self.view_is c.if-not-self.false
    c.deref_mut-else-c-lt-FEW.ensures.value c.deref_mut-else-c-lt-FEW.ensures.len c.push_wider.auto.nodes
    c.push_wider.ensures.table c.push_wider.ensures.lists c.push_wider.ensures.few (pushed_sized _ _ c.args.c c.args.place)

pub invariant_of-self-else-c-lt-FEW : goal.invariant_of-self-else-c-lt-FEW
invariant_of-self-else-c-lt-FEW c = (wider c).held

pub returns-else-c-lt-FEW : goal.returns-else-c-lt-FEW
returns-else-c-lt-FEW c = let left = wider c in record { lists = left.lists; few = left.few_changed; apart = left.apart }
