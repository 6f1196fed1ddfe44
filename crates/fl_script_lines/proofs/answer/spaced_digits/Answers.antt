use Rattle.std.proofs.Common.{refl}
use Rattle.fl_script_lines.proofs.answer.spaced_digits.Goals as goal

pub returns : goal.returns
returns c =
    rw (c.digit.ensures, c.digit-2.ensures, c.digit-3.ensures, c.digit-4.ensures, c.digit-5.ensures, c.digit-6.ensures, c.digit-7.ensures, c.digit-8.ensures, c.digit-9.ensures, c.digit-10.ensures, c.digit-11.ensures, c.digit-12.ensures, c.digit-13.ensures, c.digit-14.ensures, c.digit-15.ensures, c.digit-16.ensures, c.to_be_bytes.ensures) refl
