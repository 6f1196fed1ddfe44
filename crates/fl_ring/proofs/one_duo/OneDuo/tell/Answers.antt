use Rattle.std.proofs.Common.{ℕ}
use Rattle.fl_link.specs.Looks.{tells}
use Rattle.fl_ring.specs.Duo.{HalfTakes}
use Rattle.fl_ring.proofs.DuoSteps.{turned}
use Rattle.fl_ring.proofs.DuoGoes.{one_kept, one_steps, two_steps}
use Rattle.fl_ring.proofs.one_duo.OneDuo.tell.Goals as goal

pub tell_at-requires : goal.tell_at-requires
tell_at-requires c = (c.self.inside.one.put.size, c.self.inside.two, c.self.invariant.1)

pub invariant_of-self : goal.invariant_of-self
invariant_of-self c =
    let i = c.self.inside in
    let n : ℕ = i.one.put.size in
    let went = c.tell_at.ensures.tell n i.two c.self.invariant.1 in
    one_kept n c.tell_at.new.words.items i.one c.tell_at.new.mine i.two c.self.invariant.0 went.1 went.0

pub returns-in-One-clause-tell : goal.returns-in-One-clause-tell
returns-in-One-clause-tell c =
    let i = c.self.inside in
    let n : ℕ = i.one.put.size in
    let went = c.tell_at.ensures.tell n i.two c.self.invariant.1 in
    one_steps HalfTakes n i.words.items c.tell_at.new.words.items i.one c.tell_at.new.mine i.two (tells c.tell_at.result) c.args.which c.args.self.now c.in-One.is c.self.view_is went.0 went.2

pub tell_at-requires-in-Two : goal.tell_at-requires-in-Two
tell_at-requires-in-Two c =
    let i = c.self.inside in
    (i.one.put.size, i.one, turned i.one.put.size i.words.items i.one i.two c.self.invariant.1)

pub invariant_of-self-in-Two : goal.invariant_of-self-in-Two
invariant_of-self-in-Two c =
    let i = c.self.inside in
    let n : ℕ = i.one.put.size in
    let went = c.tell_at-in-Two.ensures.tell n i.one (turned n i.words.items i.one i.two c.self.invariant.1) in
    (c.self.invariant.0, turned n c.tell_at-in-Two.new.words.items c.tell_at-in-Two.new.mine i.one went.0)

pub returns-in-Two-clause-tell : goal.returns-in-Two-clause-tell
returns-in-Two-clause-tell c =
    let i = c.self.inside in
    let n : ℕ = i.one.put.size in
    let went = c.tell_at-in-Two.ensures.tell n i.one (turned n i.words.items i.one i.two c.self.invariant.1) in
    two_steps HalfTakes n i.words.items c.tell_at-in-Two.new.words.items i.one i.two c.tell_at-in-Two.new.mine (tells c.tell_at-in-Two.result) c.args.which c.args.self.now c.in-Two.is c.self.view_is went.2
