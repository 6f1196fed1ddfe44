use Rattle.std.proofs.Common.{◌∙◌, ap, sym}
use Rattle.fl_link.specs.Cursor.{TheCursor}
use Rattle.fl_ring.specs.declared.halves.DuoHalf.{DuoHalf}
use Rattle.fl_ring.proofs.DuoGoes.{miss_goes, take_goes, took_data, took_ack}
use Rattle.fl_ring.proofs.halves.take_at.Goals as goal

pub returns-then-is_ack_only-clause-look : goal.returns-then-is_ack_only-clause-look
returns-then-is_ack_only-clause-look c n b s =
    let m = c.look_back.new.mine in
    let l = c.in-Some.ensures.looks n b s in
    let k = take_goes n c.args.words.now c.args.mine.now m (record { base = m.base; other = m.other; put = m.put; take = c.advance.new.self; known = m.known; told = m.told }) b c.in-Some.frag l.0.0 l.0.1 l.1 (c.in-Some.ensures.steps n b s)
    (ap (λ (p : TheCursor). let y : DuoHalf = record { base = m.base; other = m.other; put = m.put; take = p; known = m.known; told = m.told } in y) c.advance.ensures.next) in
    (k.steps, ap (λ (x : DuoHalf). x.base) l.1, took_ack n c.args.words.now c.args.mine.now (record { base = m.base; other = m.other; put = m.put; take = c.advance.new.self; known = m.known; told = m.told }) b c.in-Some.frag k (sym c.is_ack_only.ensures ∙ c.if-is_ack_only.true))

pub returns-clause-look : goal.returns-clause-look
returns-clause-look c n b s =
    let m = c.look_back.new.mine in
    let l = c.in-Some.ensures.looks n b s in
    let k = take_goes n c.args.words.now c.args.mine.now m (record { base = m.base; other = m.other; put = m.put; take = c.advance.new.self; known = m.known; told = m.told }) b c.in-Some.frag l.0.0 l.0.1 l.1 (c.in-Some.ensures.steps n b s)
    (ap (λ (p : TheCursor). let y : DuoHalf = record { base = m.base; other = m.other; put = m.put; take = p; known = m.known; told = m.told } in y) c.advance.ensures.next) in
    (k.steps, ap (λ (x : DuoHalf). x.base) l.1, took_data n c.args.words.now c.args.mine.now (record { base = m.base; other = m.other; put = m.put; take = c.advance.new.self; known = m.known; told = m.told }) b c.in-Some.frag k (sym c.is_ack_only.ensures ∙ c.if-is_ack_only.false))

pub returns-in_default-clause-look : goal.returns-in_default-clause-look
returns-in_default-clause-look c n b s =
    let l = c.in_default.ensures.looks n b s in
    miss_goes n c.args.words.now c.args.mine.now c.look_back.new.mine b l.0 l.1 (c.in_default.ensures.steps n b s)
