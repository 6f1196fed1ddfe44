use Rattle.std.proofs.Common.{◌+◌, List, replicate, sym, subst, refl, arith}
use Rattle.fl_lists.specs.Table.{free_node, AllFree}
use Rattle.fl_lists.specs.declared.node.Node.{Node}
use Rattle.fl_lists.proofs.Tables.{all_free}
use Rattle.fl_lists.proofs.Sized.{new_near, new_large}
use Rattle.fl_lists.proofs.lists.Lists.new.Goals as goal

pub put_heads-requires-clause-free : goal.put_heads-requires-clause-free
put_heads-requires-clause-free c =
    subst (λ (xs : List Node). AllFree xs) (sym c.deref_mut.ensures.value)
    (all_free c.in_ok-nodes.nodes.items (c.args.size + 3) (c.in_ok-nodes.ensures.items_if_clones_equal (λ y same. same)))

pub put_heads-requires-2-clause-free : goal.put_heads-requires-2-clause-free
put_heads-requires-2-clause-free c = all_free _ 8 refl

pub invariant_of-result : goal.invariant_of-result
invariant_of-result c =
    (new_large _ c.in_ok-nodes.nodes.items c.deref_mut.result.now c.put_heads.new.nodes c.in_ok-nodes.nodes.len c.args.size _
    c.put_heads.ensures.table c.put_heads.ensures.lists refl (omega (arith, c.if-size-gt-MOST.false))
    (c.in_ok-nodes.ensures.items_if_clones_equal (λ y same. same)) c.deref_mut.ensures.value c.deref_mut.ensures.len c.put_heads.auto.nodes).held

pub returns-then-size-lt-FEW : goal.returns-then-size-lt-FEW
returns-then-size-lt-FEW c =
    let left = new_large (replicate 8 free_node) c.in_ok-nodes.nodes.items c.deref_mut.result.now c.put_heads.new.nodes c.in_ok-nodes.nodes.len c.args.size _
    c.put_heads.ensures.table c.put_heads.ensures.lists refl (omega (arith, c.if-size-gt-MOST.false))
    (c.in_ok-nodes.ensures.items_if_clones_equal (λ y same. same)) c.deref_mut.ensures.value c.deref_mut.ensures.len c.put_heads.auto.nodes in
    record { made = left.lists; apart = left.apart; short = omega (arith, c.if-size-gt-MOST.false) }

pub invariant_of-result-2 : goal.invariant_of-result-2
invariant_of-result-2 c =
    (new_near c.put_heads-2.new.nodes c.in_ok-nodes.nodes.items c.args.size _ c.put_heads-2.ensures.table c.put_heads-2.ensures.lists
    c.put_heads-2.auto.nodes c.if-size-lt-FEW.false (omega (arith, c.if-size-gt-MOST.false)) (c.in_ok-nodes.ensures.items_if_clones_equal (λ y same. same))).held

pub returns : goal.returns
returns c =
    let left = new_near c.put_heads-2.new.nodes c.in_ok-nodes.nodes.items c.args.size _ c.put_heads-2.ensures.table c.put_heads-2.ensures.lists
    c.put_heads-2.auto.nodes c.if-size-lt-FEW.false (omega (arith, c.if-size-gt-MOST.false)) (c.in_ok-nodes.ensures.items_if_clones_equal (λ y same. same)) in
    record { made = left.lists; apart = left.apart; short = omega (arith, c.if-size-gt-MOST.false) }
