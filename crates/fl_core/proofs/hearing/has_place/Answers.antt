use Rattle.std.proofs.Common.{◌≤◌, ◌<◌, length, arith}
use Rattle.fl_core.proofs.Room.{place_told, no_place_past}
use Rattle.fl_core.proofs.hearing.has_place.Goals as goal

pub returns-then-dispatcher-dispatchers-clause-place : goal.returns-then-dispatcher-dispatchers-clause-place
returns-then-dispatcher-dispatchers-clause-place c =
    let past : length c.args.board.now.dispatchers ≤ c.args.dispatcher = omega arith in
    no_place_past c.args.board.now c.args.dispatcher past

pub returns-clause-place : goal.returns-clause-place
returns-clause-place c =
    let below : c.args.dispatcher < length c.args.board.now.dispatchers = omega arith in
    place_told c.args.board.now c.args.dispatcher below c.ends_at.result c.ends_at.ensures.ends
