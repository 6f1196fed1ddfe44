use Rattle.fl_codec.proofs.Kept.{placing_more}
use Rattle.fl_codec.proofs.placing.Placing.push.Goals as goal

pub returns-clause-sound : goal.returns-clause-sound
returns-clause-sound c =
    let (t, is) = c.requires.number in
    placing_more c.args.self.now c.next_multiple-at.result t c.args.number c.requires.sound c.requires.room is c.next_multiple-at.ensures.same
