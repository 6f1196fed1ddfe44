use Rattle.std.proofs.Common.{◌++◌, List, length, take, drop, sym, ◌∙◌, ap, subst, refl, Option, IsSome}
use Rattle.fl_lists.specs.ThreeLists.{ThreeLists, place_of, unlinked}
use Rattle.fl_lists.specs.Table.{index_of, lists_of, IsTable}
use Rattle.fl_lists.specs.declared.node.Node.{Node}
use Rattle.fl_lists.specs.declared.place.Place.{Place}
use Rattle.fl_lists.proofs.Sized.{After, near_table, near_place, near_after, large_table, large_place, large_after}
use Rattle.fl_lists.proofs.lists.Lists.unlink.Goals as goal

pub unlink-requires-clause-table : goal.unlink-requires-clause-table
unlink-requires-clause-table c = near_table _ _ _ _ _ c.self.invariant c.self.view_is c.if-self.true

pub unlink-requires-clause-linked : goal.unlink-requires-clause-linked
unlink-requires-clause-linked c =
    subst (λ (o : Option Place). IsSome o) (sym (near_place _ _ _ _ _ c.self.invariant c.self.view_is c.if-self.true c.args.c)) c.requires.linked

pub unlink-requires-else-self-clause-table : goal.unlink-requires-else-self-clause-table
unlink-requires-else-self-clause-table c =
    subst (λ (xs : List Node). IsTable xs) (sym c.deref_mut.ensures.value)
    (large_table _ _ _ _ _ c.self.invariant c.self.view_is c.if-self.false)

pub unlink-requires-else-self-clause-linked : goal.unlink-requires-else-self-clause-linked
unlink-requires-else-self-clause-linked c =
    subst (λ (o : Option Place). IsSome o)
    (sym (ap (λ (xs : List Node). place_of (lists_of xs) c.args.c) c.deref_mut.ensures.value
    ∙ large_place _ _ _ _ _ c.self.invariant c.self.view_is c.if-self.false c.args.c)) c.requires.linked

-- what is left where the near table is in use
near : (c : goal.After-unlink) → After 2 (index_of c.args.c) c.args.self.now c.self.inside.few c.unlink.new.nodes c.self.inside.nodes.items c.self.inside.size (unlinked c.args.self.now.lists c.args.c)
near c =
    near_after 2 (index_of c.args.c) _ _ _ _ _ _ (λ (w : ThreeLists). unlinked w c.args.c) c.self.invariant c.self.view_is c.if-self.true c.unlink.auto.nodes
    record { table = c.unlink.ensures.table; lists = c.unlink.ensures.lists; few = c.unlink.ensures.few } refl

pub invariant_of-self : goal.invariant_of-self
invariant_of-self c = (near c).held

pub returns-then-self : goal.returns-then-self
returns-then-self c = let left = near c in record { lists = left.lists; few = left.few_changed; apart = left.apart }

-- and where the large one is
large : (c : goal.After-self-1) → After 2 (index_of c.args.c) c.args.self.now c.self.inside.few c.self.inside.near (take c.self.inside.nodes.len (c.unlink-else-self.new.nodes ++ drop (length c.unlink-else-self.new.nodes) c.self.inside.nodes.items)) c.self.inside.size (unlinked c.args.self.now.lists c.args.c)
large c =
    large_after 2 (index_of c.args.c) _ _ _ c.deref_mut.result.now _ c.self.inside.nodes.len _ _ (λ (w : ThreeLists). unlinked w c.args.c) c.self.invariant c.self.view_is
    c.if-self.false c.deref_mut.ensures.value c.deref_mut.ensures.len c.unlink-else-self.auto.nodes
    record { table = c.unlink-else-self.ensures.table; lists = c.unlink-else-self.ensures.lists; few = c.unlink-else-self.ensures.few } refl

pub invariant_of-self-else-self : goal.invariant_of-self-else-self
invariant_of-self-else-self c = (large c).held

pub returns-else-self : goal.returns-else-self
returns-else-self c = let left = large c in record { lists = left.lists; few = left.few_changed; apart = left.apart }
