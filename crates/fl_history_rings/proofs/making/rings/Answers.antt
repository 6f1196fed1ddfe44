use Rattle.std.proofs.Common.{subst, sym}
use Rattle.fl_history_rings.specs.declared.board.SideEnd.{SideEnd}
use Rattle.fl_history_rings.specs.Rule.{ArePaired}
use Rattle.fl_history_rings.specs.Seats.{HaveSlots}
use Rattle.fl_history_rings.proofs.Plans.{both_paired, both_sized}
use Rattle.fl_history_rings.proofs.making.rings.Goals as goal

pub lay-requires : goal.lay-requires
lay-requires c =
    let is = c.in-Ok.ensures.sides in
    record {
      slots = subst HaveSlots (sym is) (both_sized c.args.cores c.args.rings.now c.requires.rings);
      paired = subst ArePaired (sym is) (both_paired c.args.rings.now);
    }
