use Rattle.fl_value.proofs.Reading.{text_found, text_unopened, text_unclosed}
use Rattle.fl_value.proofs.scanner.after_text.Goals as goal

pub returns-in_default-clause-none : goal.returns-in_default-clause-none
returns-in_default-clause-none c =
    text_unopened c.args.bytes.now c.skip_blanks.result.now c.skip_blanks.ensures.blank c.skip_blanks.ensures.stops c.in_default.ensures.none

pub returns-in_default-after_byte-clause-none : goal.returns-in_default-after_byte-clause-none
returns-in_default-after_byte-clause-none c =
    text_unclosed c.args.bytes.now c.skip_blanks.result.now c.in-Some.inside.now c.after_bytes.ensures.found.0 c.after_bytes.result.now c.skip_blanks.ensures.blank
    c.skip_blanks.ensures.stops c.in-Some.ensures.found c.after_bytes.ensures.found.1 c.after_bytes.ensures.stops c.in_default-after_byte.ensures.none

pub returns-clause-found : goal.returns-clause-found
returns-clause-found c = (
  c.after_bytes.ensures.found.0,
  text_found c.args.bytes.now c.skip_blanks.result.now c.in-Some.inside.now c.after_bytes.result.now c.in-Some-after_byte.rest.now c.after_bytes.ensures.found.0
      c.skip_blanks.ensures.blank c.in-Some.ensures.found c.after_bytes.ensures.found.1 c.in-Some-after_byte.ensures.found,
)
