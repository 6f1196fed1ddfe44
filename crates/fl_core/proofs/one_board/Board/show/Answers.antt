use Rattle.std.proofs.Common.{arith}
use Rattle.fl_core.proofs.Asides.{shows_with}
use Rattle.fl_core.proofs.Together.{below_seats}
use Rattle.fl_core.proofs.Seats.{here, reads_before}
use Rattle.fl_core.proofs.one_board.Board.show.Goals as goal

pub returns : goal.returns
returns g c =
    let at = here c.args.self.now c.self.inside.dispatchers.items c.self.inside.seats.items c.self.inside.calls c.self.view_is c.self.invariant c.args.e c.requires _ _ c.index-seat.ensures c.seat.view_is in
    record { shows = (_, reads_before c.args.self.now c.self.inside.dispatchers.items c.self.inside.seats.items c.self.inside.calls c.self.view_is c.self.invariant c.args.e c.requires _ _ c.index-seat.ensures c.seat.view_is, shows_with at.call.parts (g.P.PutSide.epoch_of c.args.out.now) (g.P.PutSide.told_of c.args.out.now) c.seat.inside.end c.show.result c.show.ensures.shows) }

pub index-seat-requires : goal.index-seat-requires
index-seat-requires g c =
    let within = below_seats c.args.self.now c.self.inside.dispatchers.items c.self.inside.seats.items c.self.inside.calls c.self.view_is c.self.invariant.together c.args.e c.requires in
    omega (arith, within, c.self.inside.seats.ok.0)
