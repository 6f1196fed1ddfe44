use Rattle.fl_value.proofs.Reading.{text_unopened, text_unclosed}
use Rattle.fl_value.proofs.tokens.read_text.Goals as goal

pub returns-in_default-clause-none : goal.returns-in_default-clause-none
returns-in_default-clause-none c =
    text_unopened c.args.bytes.now c.skip_blanks.result.now c.skip_blanks.ensures.blank c.skip_blanks.ensures.stops c.in_default.ensures.none

pub returns-in_default-after_byte-clause-none : goal.returns-in_default-after_byte-clause-none
returns-in_default-after_byte-clause-none c =
    text_unclosed c.args.bytes.now c.skip_blanks.result.now c.in-Some.inside.now c.in_ok-text.text.items c.in_ok-text.last.now c.skip_blanks.ensures.blank c.skip_blanks.ensures.stops c.in-Some.ensures.found c.in_ok-text.ensures.found c.in_ok-text.ensures.stops c.in_default-after_byte.ensures.none
