use Rattle.std.proofs.Common.{◌*◌, arith}
use Rattle.fl_world_refines.specs.ShowsState.{NamesQueue, NamesSide}
use Rattle.fl_cores_parts.proofs.Owning.{one_core_more, all_cores, core_at}
use Rattle.fl_cores_parts.proofs.sharing.SideOwners.from_names.Goals as goal

pub loop-k-preserved : goal.loop-k-preserved
loop-k-preserved c = record {
  sides = one_core_more c.args.cores.now NamesSide (2 * c.args.rings) c.loop-k.k c.index-cores-k.result c.loop-k.sides.items c.own_sides.new.owners.items
      (core_at c.args.cores.now c.loop-k.k c.index-cores-k.result c.loop-k-test.true c.index-cores-k.is) c.loop-k.invariant.sides c.own_sides.ensures.owns;
  queues = one_core_more c.args.cores.now NamesQueue c.args.queues c.loop-k.k c.index-cores-k-in-loop-k.result c.loop-k.all_queues.items
      c.own_queues.new.owners.items
      (core_at c.args.cores.now c.loop-k.k c.index-cores-k-in-loop-k.result c.loop-k-test.true c.index-cores-k-in-loop-k.is) c.loop-k.invariant.queues
      c.own_queues.ensures.owns;
}

pub returns-clause-sides : goal.returns-clause-sides
returns-clause-sides c =
    let low = c.loop-k.auto.k-end in
    let high = c.loop-k-test.false in
    all_cores c.args.cores.now NamesSide (2 * c.args.rings) c.loop-k.k c.loop-k.sides.items (omega (arith, low, high)) c.loop-k.invariant.sides

pub returns-clause-queues : goal.returns-clause-queues
returns-clause-queues c =
    let low = c.loop-k.auto.k-end in
    let high = c.loop-k-test.false in
    all_cores c.args.cores.now NamesQueue c.args.queues c.loop-k.k c.loop-k.all_queues.items (omega (arith, low, high)) c.loop-k.invariant.queues
