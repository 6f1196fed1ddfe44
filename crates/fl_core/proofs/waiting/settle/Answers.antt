use Rattle.std.proofs.Common.{refl}
use Rattle.fl_lists.specs.declared.place.Place.TheVariants as place
use Rattle.fl_core.specs.BoardTurns.{lent}
use Rattle.fl_core.proofs.Picks.{first_pending}
use Rattle.fl_core.proofs.BoardParts.{settles_held, settles_on}
use Rattle.fl_core.proofs.waiting.settle.Goals as goal

pub returns-in-HeldBack-clause-settles : goal.returns-in-HeldBack-clause-settles
returns-in-HeldBack-clause-settles g c =
    let off = c.put_off.ensures.put_off place.Pending (first_pending c.args.waitset.now c.args.c c.requires.first) in
    settles_held g.T.TakeSide.takes c.args.kind c.args.c.0 (lent c.args.waitset.now c.args.from.now) (lent c.put_off.new.waitset c.args.from.now) c.args.answer.now c.in-HeldBack.is (off, refl)

pub returns-in-Handle-clause-settles : goal.returns-in-Handle-clause-settles
returns-in-Handle-clause-settles g c =
    let off = c.put_off-in-Handle.ensures.put_off place.Pending (first_pending c.args.waitset.now c.args.c c.requires.first) in
    settles_on g.T.TakeSide.takes c.args.kind c.args.c.0 (lent c.args.waitset.now c.args.from.now) (lent c.put_off-in-Handle.new.waitset c.place_for-place.new.from) c.args.answer.now c.in-Handle.is
    (c.place_for-place.result, c.place_for-place.ensures.waits, off)
