use Rattle.fl_value.proofs.Reading.{mark_none, none_weaker}
use Rattle.fl_value.proofs.tokens.read_mark.Goals as goal

pub returns-clause-none : goal.returns-clause-none
returns-clause-none c =
    none_weaker c.after_byte.result (mark_none c.args.bytes.now c.skip_blanks.result.now c.args.mark c.skip_blanks.ensures.blank c.skip_blanks.ensures.stops) c.after_byte.ensures.none
