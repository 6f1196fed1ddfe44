use Rattle.fl_core.proofs.Room.{place_there, none_left}
use Rattle.fl_core.proofs.makers.find_place.Goals as goal

pub returns-then-ends_at-ge-MAX_CHANNELS-clause-refused : goal.returns-then-ends_at-ge-MAX_CHANNELS-clause-refused
returns-then-ends_at-ge-MAX_CHANNELS-clause-refused c =
    none_left c.args.board.now c.law_sound.ensures.sound c.args.dispatcher c.requires c.ends_at.result c.ends_at.ensures.ends c.if-ends_at-ge-MAX_CHANNELS.true

pub returns-clause-place : goal.returns-clause-place
returns-clause-place c =
    place_there c.args.board.now c.law_sound.ensures.sound c.args.dispatcher c.requires c.ends_at.result c.ends_at.ensures.ends
    c.if-ends_at-ge-MAX_CHANNELS.false
