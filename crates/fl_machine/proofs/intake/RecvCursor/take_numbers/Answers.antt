use Rattle.std.proofs.Common.{◌≡◌, ◌+◌, ◌-◌, ◌%◌, ◌++◌, ℕ, List, take, drop, refl, sym, ◌∙◌, ap, subst, arith}
use Rattle.fl_machine.specs.declared.intake.RecvCursor.{RecvCursor}
use Rattle.fl_machine.specs.Taking.{IsFed, bytes_left}
use Rattle.fl_machine.specs.Straight.{straight_behind}
use Rattle.fl_machine.proofs.Intakes.{take_kept, stance_depth}
use Rattle.fl_machine.proofs.Straights.{straight_begin, straight_settled, phase_further}
use Rattle.fl_machine.proofs.intake.RecvCursor.take_numbers.Goals as goal

pub is_alone-requires : goal.is_alone-requires
is_alone-requires c = let (before, all, fed) = c.requires.fed in stance_depth c.args.ops.now c.args.self.now fed.at.stance

pub loop-more-init : goal.loop-more-init
loop-more-init c = record {
  from = omega arith;
  inside = c.requires.inside;
  more = omega arith;
  within = c.requires.count;
  long = refl;
  kept = refl;
  fed = λ before all fed. straight_begin c.args.ops.now (before ++ take c.args.self.now.count c.args.tape.now) c.args.self.now ((c.args.self.now.phase % 8 + (c.args.used - c.args.used)) % 8) all _ fed
      (omega (arith, c.if-self-ne0.false)) (omega arith);
  pace = omega arith;
}

pub take_number-requires-clause-fed : goal.take_number-requires-clause-fed
take_number-requires-clause-fed c = let (before, all, fed) = c.requires.fed in (before, all, _, c.loop-more.invariant.fed before all fed)

pub loop-more-preserved : goal.loop-more-preserved
loop-more-preserved c =
    let i = c.loop-more.invariant in
    let e = c.in-Some.ensures in
    let least = e.more.0 in
    let pace = e.more.1 in
    let end = e.end.0 in
    let from = i.from in
    let here = c.loop-more in
    let next = c.in-Some.next in
    let phase = c.args.self.now.phase in
    record {
      from = omega (arith, from, end);
      inside = e.end.1;
      more = omega (arith, i.more, least);
      within = e.more.2;
      long = e.long ∙ i.long;
      kept = take_kept c.args.self.now.count c.loop-more.count c.take_number.new.tape c.loop-more.tape i.more e.kept ∙ i.kept;
      fed = λ before all fed.
          subst (λ (p : ℕ). IsFed c.args.ops.now (before ++ take c.in-Some.more c.take_number.new.tape) (straight_behind c.args.self.now (here.place + 1) c.in-Some.more p) all (drop next (take 56 c.args.buffer.now)))
          (phase_further phase c.args.used here.end next from (omega (arith, end)))
          (e.fed before all ((phase % 8 + (here.end - c.args.used)) % 8) (i.fed before all fed));
      pace = omega (arith, i.pace, pace);
    }

pub settle-requires : goal.settle-requires
settle-requires c = let (before, all, fed) = c.requires.fed in (c.loop-more.invariant.fed before all fed).at.stance

pub returns-clause-fed : goal.returns-clause-fed
returns-clause-fed c before all fed =
    let same : c.take_number.new.tape ≡ c.loop-more.tape = c.in_default.ensures.none in
    let here = c.loop-more.invariant.fed before all fed in
    let behind = straight_behind c.args.self.now c.loop-more.place c.loop-more.count ((c.args.self.now.phase % 8 + (c.loop-more.end - c.args.used)) % 8) in
    let passes = c.settle.ensures.passes in
    let count : c.settle.new.self.count ≡ c.loop-more.count = ap RecvCursor.count passes.others in
    let settled = straight_settled c.args.ops.now (before ++ take c.loop-more.count c.loop-more.tape) behind c.settle.new.self all (bytes_left c.args.buffer.now c.loop-more.end) here refl refl passes in
    subst (λ (k : ℕ). IsFed c.args.ops.now (before ++ take k c.take_number.new.tape) c.settle.new.self all (bytes_left c.args.buffer.now c.loop-more.end)) (sym count)
    (subst (λ (t : List ℕ). IsFed c.args.ops.now (before ++ take c.loop-more.count t) c.settle.new.self all (bytes_left c.args.buffer.now c.loop-more.end)) (sym same) settled)
