use Rattle.std.proofs.Common.{◌*◌}
use Rattle.fl_world_refines.specs.ShowsState.{NamesQueue, NamesSide}
use Rattle.fl_cores_parts.proofs.Owning.{SoFar}
use Rattle.fl_cores_parts.proofs.sharing.SideOwners.from_names.Given as goal

-- whose the things are that the cores so far name
abbrev pub invariant-loop-k : goal.invariant-loop-k
invariant-loop-k l = record {
  sides : SoFar l.cores NamesSide (2 * l.fn.rings) l.k l.sides.items;
  queues : SoFar l.cores NamesQueue l.fn.queues l.k l.all_queues.items;
}
