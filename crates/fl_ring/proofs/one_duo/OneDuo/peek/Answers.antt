use Rattle.std.proofs.Common.{ℕ, List, subst, sym, ◌∙◌}
use Rattle.fl_link.specs.Looks.{peeked}
use Rattle.fl_link.specs.Queue.{BeginsWith}
use Rattle.fl_ring.specs.Duo.{TheDuo, HalfTakes, side_of}
use Rattle.fl_ring.specs.Halves.{InStep, half_of, duo_of}
use Rattle.fl_ring.specs.declared.one_duo.WhichSide.{WhichSide}
use Rattle.fl_ring.proofs.DuoSteps.{turned}
use Rattle.fl_ring.proofs.DuoGoes.{one_kept, one_steps, two_steps, duo_front}
use Rattle.fl_ring.proofs.one_duo.OneDuo.peek.Goals as goal

pub peek_at-requires : goal.peek_at-requires
peek_at-requires c =
    let i = c.self.inside in
    (i.one.put.size, i.two, subst (λ (ws : List ℕ). InStep i.one.put.size ws i.one i.two) (sym c.deref.ensures.value) c.self.invariant.1)

pub invariant_of-self : goal.invariant_of-self
invariant_of-self c =
    let i = c.self.inside in
    let n : ℕ = i.one.put.size in
    let look = rw c.deref.ensures.value at c.peek_at.ensures.look in
    let went = look n i.two c.self.invariant.1 in
    one_kept n i.words.items i.one c.peek_at.new.mine i.two c.self.invariant.0 went.1 went.0

pub returns-in-One : goal.returns-in-One
returns-in-One c =
    let i = c.self.inside in
    let n : ℕ = i.one.put.size in
    let look = rw c.deref.ensures.value at c.peek_at.ensures.look in
    let went = look n i.two c.self.invariant.1 in
    let step = one_steps HalfTakes n i.words.items i.words.items i.one c.peek_at.new.mine i.two (peeked c.peek_at.result) c.args.which c.args.self.now c.in-One.is c.self.view_is went.0 went.2 in
    let front = duo_front c.args.which c.args.self.now (duo_of c.peek_at.new.mine.put.size i.words.items c.peek_at.new.mine i.two) c.peek_at.result step in
    record {
      look = step;
      again = λ frag e. sym front ∙ e;
      again_acknowledged = λ e. sym front ∙ e;
      whole = λ frag e.
          let s = subst (λ (ws : List ℕ). InStep n ws i.one i.two) (sym c.deref.ensures.value) c.self.invariant.1 in
          let there = subst (λ (ws : List ℕ). BeginsWith (half_of n ws i.one i.two).waiting frag) c.deref.ensures.value (c.peek_at.ensures.whole n i.two s frag e) in
          let shown = subst (λ (d : TheDuo). BeginsWith d.one.waiting frag) c.self.view_is there in
          subst (λ (w : WhichSide). BeginsWith (side_of w c.args.self.now).waiting frag) (sym c.in-One.is) shown;
      of_call = c.peek_at.ensures.of_call;
    }

pub peek_at-requires-in-Two : goal.peek_at-requires-in-Two
peek_at-requires-in-Two c =
    let i = c.self.inside in
    (i.one.put.size, i.one, subst (λ (ws : List ℕ). InStep i.one.put.size ws i.two i.one) (sym c.deref-in-Two.ensures.value) (turned i.one.put.size i.words.items i.one i.two c.self.invariant.1))

pub invariant_of-self-in-Two : goal.invariant_of-self-in-Two
invariant_of-self-in-Two c =
    let i = c.self.inside in
    let n : ℕ = i.one.put.size in
    let look = rw c.deref-in-Two.ensures.value at c.peek_at-in-Two.ensures.look in
    let went = look n i.one (turned n i.words.items i.one i.two c.self.invariant.1) in
    (c.self.invariant.0, turned n i.words.items c.peek_at-in-Two.new.mine i.one went.0)

pub returns-in-Two : goal.returns-in-Two
returns-in-Two c =
    let i = c.self.inside in
    let n : ℕ = i.one.put.size in
    let look = rw c.deref-in-Two.ensures.value at c.peek_at-in-Two.ensures.look in
    let went = look n i.one (turned n i.words.items i.one i.two c.self.invariant.1) in
    let step = two_steps HalfTakes n i.words.items i.words.items i.one i.two c.peek_at-in-Two.new.mine (peeked c.peek_at-in-Two.result) c.args.which c.args.self.now c.in-Two.is c.self.view_is went.2 in
    let front = duo_front c.args.which c.args.self.now (duo_of n i.words.items i.one c.peek_at-in-Two.new.mine) c.peek_at-in-Two.result step in
    record {
      look = step;
      again = λ frag e. sym front ∙ e;
      again_acknowledged = λ e. sym front ∙ e;
      whole = λ frag e.
          let s = subst (λ (ws : List ℕ). InStep n ws i.two i.one) (sym c.deref-in-Two.ensures.value) (turned n i.words.items i.one i.two c.self.invariant.1) in
          let there = subst (λ (ws : List ℕ). BeginsWith (half_of n ws i.two i.one).waiting frag) c.deref-in-Two.ensures.value (c.peek_at-in-Two.ensures.whole n i.one s frag e) in
          let shown = subst (λ (d : TheDuo). BeginsWith d.two.waiting frag) c.self.view_is there in
          subst (λ (w : WhichSide). BeginsWith (side_of w c.args.self.now).waiting frag) (sym c.in-Two.is) shown;
      of_call = c.peek_at-in-Two.ensures.of_call;
    }
