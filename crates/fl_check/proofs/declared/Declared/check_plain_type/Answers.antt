use Rattle.std.proofs.Common.{Option, ap, sym, ◌∙◌}
use Rattle.std.specs.Prelude.{unwrap_or}
use Rattle.fl_interface.specs.Interface.{TheType, enumeration, fixed}
use Rattle.fl_check.proofs.declared.Declared.check_plain_type.Goals as goal

pub returns-clause-stands : goal.returns-clause-stands
returns-clause-stands c =
    let found = rw c.in-Some.is at c.in_ok-measured.ensures.exact in
    rw (sym c.is_string.ensures.exact ∙ c.if-is_string.false) (ap (λ (o : Option TheType). fixed (unwrap_or o (enumeration 0))) found)
