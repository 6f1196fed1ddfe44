use Rattle.std.proofs.Common.{◌≡◌, ◌*◌, take}
use Rattle.fl_cores_parts.specs.AtTable.{AreBetween}
use Rattle.fl_cores_parts.proofs.sharing.ring_ends.Given as goal

-- the rings so far
abbrev pub invariant-loop-ring : goal.invariant-loop-ring
invariant-loop-ring l = record {
  place : l.place ≡ 2 * l.ring-index;
  between : AreBetween (take l.ring-index l.rings) (take l.place l.owners) l.fn.cores l.ends.items;
}
