use Rattle.std.proofs.Common.{ℕ, subst, sym}
use Rattle.fl_ring.specs.Duo.{TheDuo, MayForget, side_of}
use Rattle.fl_ring.specs.declared.one_duo.WhichSide.{WhichSide}
use Rattle.fl_ring.proofs.DuoSteps.{forget_steps, turned}
use Rattle.fl_ring.proofs.one_duo.OneDuo.forget.Goals as goal

pub invariant_of-self : goal.invariant_of-self
invariant_of-self c =
    let i = c.self.inside in
    let n : ℕ = i.one.put.size in
    let named = subst (λ (w : WhichSide). MayForget c.args.self.now.size (side_of w c.args.self.now) c.args.known) c.in-One.is c.requires.before in
    let shown = subst (λ (d : TheDuo). MayForget d.size d.one c.args.known) (sym c.self.view_is) named in
    (c.self.invariant.0, forget_steps n i.words.items i.one i.two c.args.known c.self.invariant.1 shown)

pub invariant_of-self-in-Two : goal.invariant_of-self-in-Two
invariant_of-self-in-Two c =
    let i = c.self.inside in
    let n : ℕ = i.one.put.size in
    let named = subst (λ (w : WhichSide). MayForget c.args.self.now.size (side_of w c.args.self.now) c.args.known) c.in-Two.is c.requires.before in
    let shown = subst (λ (d : TheDuo). MayForget d.size d.two c.args.known) (sym c.self.view_is) named in
    (c.self.invariant.0, turned n i.words.items _ i.one (forget_steps n i.words.items i.two i.one c.args.known (turned n i.words.items i.one i.two c.self.invariant.1) shown))
