use Rattle.std.proofs.Common.{ℕ}
use Rattle.fl_base.specs.Control.{bare}
use Rattle.fl_link.specs.Looks.{Look}
use Rattle.fl_ring.specs.Duo.{HalfPuts}
use Rattle.fl_ring.specs.Halves.{Goes}
use Rattle.fl_ring.proofs.DuoSteps.{turned}
use Rattle.fl_ring.proofs.DuoGoes.{put_went, one_kept}
use Rattle.fl_ring.proofs.one_duo.OneDuo.put.Goals as goal

pub put_at-requires-clause-steps : goal.put_at-requires-clause-steps
put_at-requires-clause-steps c = (c.self.inside.one.put.size, c.self.inside.two, c.self.invariant.1)

pub invariant_of-self : goal.invariant_of-self
invariant_of-self c =
    let i = c.self.inside in
    let n : ℕ = i.one.put.size in
    let goes : Look → Type 0 = λ look. Goes HalfPuts i.words.items i.one look c.put_at.new.words.items c.put_at.new.mine in
    let e = c.put_at.ensures in
    let went = (put_went c.put_at.result goes (bare c.args.frag.now) e.placed e.full e.spent).1 n i.two c.self.invariant.1 in
    one_kept n c.put_at.new.words.items i.one c.put_at.new.mine i.two c.self.invariant.0 went.1 went.0

pub put_at-requires-in-Two-clause-steps : goal.put_at-requires-in-Two-clause-steps
put_at-requires-in-Two-clause-steps c =
    let i = c.self.inside in
    (i.one.put.size, i.one, turned i.one.put.size i.words.items i.one i.two c.self.invariant.1)

pub invariant_of-self-in-Two : goal.invariant_of-self-in-Two
invariant_of-self-in-Two c =
    let i = c.self.inside in
    let n : ℕ = i.one.put.size in
    let goes : Look → Type 0 = λ look. Goes HalfPuts i.words.items i.two look c.put_at-in-Two.new.words.items c.put_at-in-Two.new.mine in
    let e = c.put_at-in-Two.ensures in
    let went = (put_went c.put_at-in-Two.result goes (bare c.args.frag.now) e.placed e.full e.spent).1 n i.one (turned n i.words.items i.one i.two c.self.invariant.1) in
    (c.self.invariant.0, turned n c.put_at-in-Two.new.words.items c.put_at-in-Two.new.mine i.one went.0)
