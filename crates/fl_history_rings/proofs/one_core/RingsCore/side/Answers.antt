use Rattle.std.proofs.Common.{refl}
use Rattle.std.specs.Arc.{arc_value}
use Rattle.fl_history_rings.proofs.SideCalls.{not_owned, side_may, made_side}
use Rattle.fl_history_rings.proofs.one_core.RingsCore.side.Goals as goal

pub first_side-requires : goal.first_side-requires
first_side-requires c =
    let mine = c.in-Some.ensures.some in
    let may = side_may (arc_value c.self.inside.board) c.deref.result.now c.self.inside.seat _ _ c.self.invariant c.self.view_is c.deref.ensures c.as_slice-sides.result.now c.as_slice-sides.ensures.value c.args.side c.in-Some.slots mine.0 mine.1 mine.3 in
    record { fits = may.0; within = (may.1, may.2); slots = may.3 }

pub returns-in_default : goal.returns-in_default
returns-in_default c = record {
  own = not_owned (arc_value c.self.inside.board) c.deref.result.now c.self.inside.seat _ _ c.self.invariant c.self.view_is c.deref.ensures c.as_slice-sides.result.now c.as_slice-sides.ensures.value c.args.side (c.in_default.ensures.none refl);
}

pub returns : goal.returns
returns c = record {
  own = made_side (arc_value c.self.inside.board) c.deref.result.now c.self.inside.seat _ _ c.self.invariant c.self.view_is c.deref.ensures c.as_slice-sides.result.now c.as_slice-sides.ensures.value c.args.side c.in-Some.slots c.first_side.result c.requires.new c.in-Some.ensures.some c.first_side.ensures.first;
}
