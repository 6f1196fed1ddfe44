use Rattle.std.proofs.Common.{arith, sym, ◌∙◌}
use Rattle.fl_value.proofs.Reading.{blank_step, skip_step, tail_shorter}
use Rattle.fl_value.proofs.tokens.skip_blanks.Goals as goal

pub loop-rest-preserved : goal.loop-rest-preserved
loop-rest-preserved c =
    let blank = sym c.is_blank.ensures.same ∙ c.if-not-is_blank.false in
    record {
      blank = blank_step c.args.bytes.now c.loop-rest.rest.now c.loop-rest.invariant.blank c.in-len1-up.len_at_least blank;
      shorter = omega (arith, tail_shorter c.loop-rest.rest.now, c.loop-rest.invariant.shorter);
      same = skip_step c.args.bytes.now c.loop-rest.rest.now c.loop-rest.invariant.same c.in-len1-up.len_at_least blank;
    }
