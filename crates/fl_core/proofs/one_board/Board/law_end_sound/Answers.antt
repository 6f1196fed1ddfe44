use Rattle.std.proofs.Common.{refl, arith}
use Rattle.fl_core.proofs.Together.{below_seats}
use Rattle.fl_core.proofs.Seats.{here, reads_before}
use Rattle.fl_core.proofs.one_board.Board.law_end_sound.Goals as goal

pub returns : goal.returns
returns c = let at = here c.args.self.now c.self.inside.dispatchers.items c.self.inside.seats.items c.self.inside.calls c.self.view_is c.self.invariant c.args.e c.requires _ _ c.index-seat.ensures refl in record { sound = (_, reads_before c.args.self.now c.self.inside.dispatchers.items c.self.inside.seats.items c.self.inside.calls c.self.view_is c.self.invariant c.args.e c.requires _ _ c.index-seat.ensures refl, at.of.sound) }

pub index-seat-requires : goal.index-seat-requires
index-seat-requires c =
    let within = below_seats c.args.self.now c.self.inside.dispatchers.items c.self.inside.seats.items c.self.inside.calls c.self.view_is c.self.invariant.together c.args.e c.requires in
    omega (arith, within, c.self.inside.seats.ok.0)
