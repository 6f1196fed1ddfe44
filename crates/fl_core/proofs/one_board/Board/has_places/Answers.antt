use Rattle.std.proofs.Common.{◌<◌, length, arith}
use Rattle.fl_core.proofs.Room.{ends_few, places_told}
use Rattle.fl_core.proofs.one_board.Board.has_places.Goals as goal

pub overflow_add-result : goal.overflow_add-result
overflow_add-result c =
    let there : c.args.dispatcher < length c.args.self.now.dispatchers = omega (arith, c.if-dispatcher-dispatchers.false, c.dispatchers.ensures.dispatchers) in
    let few = ends_few c.args.self.now c.law_sound.ensures.sound c.args.dispatcher there c.ends_at.result c.ends_at.ensures.ends in
    let small = c.requires.few in
    omega (arith, few, small)

pub returns : goal.returns
returns c =
    let there : c.args.dispatcher < length c.args.self.now.dispatchers = omega (arith, c.if-dispatcher-dispatchers.false, c.dispatchers.ensures.dispatchers) in
    record { places = places_told c.args.self.now c.law_sound.ensures.sound c.args.dispatcher there c.ends_at.result c.ends_at.ensures.ends c.args.count }
