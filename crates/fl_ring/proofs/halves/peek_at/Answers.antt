use Rattle.std.proofs.Common.{sym, ◌∙◌}
use Rattle.fl_ring.specs.Halves.{half_of}
use Rattle.fl_ring.proofs.RingSteps.{front_data, front_ack}
use Rattle.fl_ring.proofs.DuoGoes.{miss_goes, look_goes}
use Rattle.fl_ring.proofs.halves.peek_at.Goals as goal

pub look_back-requires : goal.look_back-requires
look_back-requires c = c.requires

pub returns-in-None-clause-look : goal.returns-in-None-clause-look
returns-in-None-clause-look c n b s =
    let l = c.in-None.ensures.looks n b s in
    miss_goes n c.args.words.now c.args.mine.now c.look_back.new.mine b l.0 l.1 (c.in-None.ensures.steps n b s)

pub returns-in-Some-clause-look : goal.returns-in-Some-clause-look
returns-in-Some-clause-look c n b s =
    let l = c.in-Some.ensures.looks n b s in
    let k = look_goes n c.args.words.now c.args.mine.now c.look_back.new.mine b c.in-Some.frag l.0.0 l.0.1 l.1 in
    let front = front_ack (half_of n c.args.words.now c.args.mine.now b).waiting c.in-Some.frag l.0.0 l.0.1 (sym c.is_ack_only.ensures ∙ c.if-is_ack_only.true) in
    (c.in-Some.ensures.steps n b s, k.base, (front, k.mine, k.theirs))

pub returns-in-Some-2-clause-look : goal.returns-in-Some-2-clause-look
returns-in-Some-2-clause-look c n b s =
    let l = c.in-Some.ensures.looks n b s in
    let k = look_goes n c.args.words.now c.args.mine.now c.look_back.new.mine b c.in-Some.frag l.0.0 l.0.1 l.1 in
    let front = front_data (half_of n c.args.words.now c.args.mine.now b).waiting c.in-Some.frag l.0.0 l.0.1 (sym c.is_ack_only.ensures ∙ c.if-is_ack_only.false) in
    (c.in-Some.ensures.steps n b s, k.base, (front, k.mine, k.theirs))
