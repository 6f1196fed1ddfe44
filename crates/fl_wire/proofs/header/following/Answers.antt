use Rattle.std.proofs.Common.{◌≡◌, ◌<◌, length, sym, ◌∙◌, arith, None, length}
use Rattle.std.proofs.lemmas.Option.{slice_get_within}
use Rattle.fl_base.specs.declared.fragment.Frag.{Frag}
use Rattle.fl_wire.specs.Wrong.{follow_fault}
use Rattle.fl_wire.specs.Headers.{Line}
use Rattle.fl_wire.proofs.Lines.{at_index, one_more, none_there}
use Rattle.fl_wire.proofs.header.following.Goals as goal

pub loop-k-preserved : goal.loop-k-preserved
loop-k-preserved c =
    let none = none_there c.follow_fault-fault.result (sym c.is_some.ensures ∙ c.if-is_some.false) in
    record {
      follow = one_more (λ (f : Frag). follow_fault c.args.msg.0 f ≡ None) c.args.frags.now c.loop-k.k _ (sym c.follow_fault-fault.ensures.fault ∙ none) c.loop-k.invariant.follow;
      lines = one_more Line c.args.frags.now c.loop-k.k _ c.is_line.ensures.line c.loop-k.invariant.lines;
    }

pub returns-then-is_some-clause-follow : goal.returns-then-is_some-clause-follow
returns-then-is_some-clause-follow c = c.loop-k.invariant.follow

pub returns-then-is_some-clause-lines : goal.returns-then-is_some-clause-lines
returns-then-is_some-clause-lines c = c.loop-k.invariant.lines

pub returns-then-is_some-clause-next : goal.returns-then-is_some-clause-next
returns-then-is_some-clause-next c = λ f is.
    at_index (λ (g : Frag). follow_fault c.args.msg.0 g ≡ c.follow_fault-fault.result) c.args.frags.now c.loop-k.k _ f is (sym c.follow_fault-fault.ensures.fault)

pub returns-clause-follow : goal.returns-clause-follow
returns-clause-follow c = λ k f small is. c.loop-k.invariant.follow k f (omega (arith, small, c.loop-k-test.false)) is

pub returns-clause-lines : goal.returns-clause-lines
returns-clause-lines c = λ k f small is. c.loop-k.invariant.lines k f (omega (arith, small, c.loop-k-test.false)) is

pub returns-clause-next : goal.returns-clause-next
returns-clause-next c = λ f is. let inside : length c.args.frags.now < length c.args.frags.now = slice_get_within c.args.frags.now (length c.args.frags.now) f is in absurd (omega (arith, inside))
