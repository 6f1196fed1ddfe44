use Rattle.std.proofs.Common.{ℕ, List, subst, sym}
use Rattle.fl_link.specs.Looks.{taken}
use Rattle.fl_link.specs.Queue.{BeginsWith}
use Rattle.fl_ring.specs.Duo.{TheDuo, HalfTakes, side_of}
use Rattle.fl_ring.specs.Halves.{InStep, half_of}
use Rattle.fl_ring.specs.declared.one_duo.WhichSide.{WhichSide}
use Rattle.fl_ring.proofs.DuoSteps.{turned}
use Rattle.fl_ring.proofs.DuoGoes.{one_kept, one_steps, two_steps}
use Rattle.fl_ring.proofs.one_duo.OneDuo.take.Goals as goal

pub take_at-requires : goal.take_at-requires
take_at-requires c =
    let i = c.self.inside in
    (i.one.put.size, i.two, subst (λ (ws : List ℕ). InStep i.one.put.size ws i.one i.two) (sym c.deref.ensures.value) c.self.invariant.1)

pub invariant_of-self : goal.invariant_of-self
invariant_of-self c =
    let i = c.self.inside in
    let n : ℕ = i.one.put.size in
    let look = rw c.deref.ensures.value at c.take_at.ensures.look in
    let went = look n i.two c.self.invariant.1 in
    one_kept n i.words.items i.one c.take_at.new.mine i.two c.self.invariant.0 went.1 went.0

pub returns-in-One : goal.returns-in-One
returns-in-One c =
    let i = c.self.inside in
    let n : ℕ = i.one.put.size in
    let look = rw c.deref.ensures.value at c.take_at.ensures.look in
    let went = look n i.two c.self.invariant.1 in
    let step = one_steps HalfTakes n i.words.items i.words.items i.one c.take_at.new.mine i.two (taken c.take_at.result) c.args.which c.args.self.now c.in-One.is c.self.view_is went.0 went.2 in
    record {
      look = step;
      whole = λ frag e.
          let s = subst (λ (ws : List ℕ). InStep n ws i.one i.two) (sym c.deref.ensures.value) c.self.invariant.1 in
          let there = subst (λ (ws : List ℕ). BeginsWith (half_of n ws i.one i.two).waiting frag) c.deref.ensures.value (c.take_at.ensures.whole n i.two s frag e) in
          let shown = subst (λ (d : TheDuo). BeginsWith d.one.waiting frag) c.self.view_is there in
          subst (λ (w : WhichSide). BeginsWith (side_of w c.args.self.now).waiting frag) (sym c.in-One.is) shown;
    }

pub take_at-requires-in-Two : goal.take_at-requires-in-Two
take_at-requires-in-Two c =
    let i = c.self.inside in
    (i.one.put.size, i.one, subst (λ (ws : List ℕ). InStep i.one.put.size ws i.two i.one) (sym c.deref-in-Two.ensures.value) (turned i.one.put.size i.words.items i.one i.two c.self.invariant.1))

pub invariant_of-self-in-Two : goal.invariant_of-self-in-Two
invariant_of-self-in-Two c =
    let i = c.self.inside in
    let n : ℕ = i.one.put.size in
    let look = rw c.deref-in-Two.ensures.value at c.take_at-in-Two.ensures.look in
    let went = look n i.one (turned n i.words.items i.one i.two c.self.invariant.1) in
    (c.self.invariant.0, turned n i.words.items c.take_at-in-Two.new.mine i.one went.0)

pub returns-in-Two : goal.returns-in-Two
returns-in-Two c =
    let i = c.self.inside in
    let n : ℕ = i.one.put.size in
    let look = rw c.deref-in-Two.ensures.value at c.take_at-in-Two.ensures.look in
    let went = look n i.one (turned n i.words.items i.one i.two c.self.invariant.1) in
    let step = two_steps HalfTakes n i.words.items i.words.items i.one i.two c.take_at-in-Two.new.mine (taken c.take_at-in-Two.result) c.args.which c.args.self.now c.in-Two.is c.self.view_is went.2 in
    record {
      look = step;
      whole = λ frag e.
          let s = subst (λ (ws : List ℕ). InStep n ws i.two i.one) (sym c.deref-in-Two.ensures.value) (turned n i.words.items i.one i.two c.self.invariant.1) in
          let there = subst (λ (ws : List ℕ). BeginsWith (half_of n ws i.two i.one).waiting frag) c.deref-in-Two.ensures.value (c.take_at-in-Two.ensures.whole n i.one s frag e) in
          let shown = subst (λ (d : TheDuo). BeginsWith d.two.waiting frag) c.self.view_is there in
          subst (λ (w : WhichSide). BeginsWith (side_of w c.args.self.now).waiting frag) (sym c.in-Two.is) shown;
    }
