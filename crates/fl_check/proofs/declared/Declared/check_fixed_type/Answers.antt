use Rattle.std.proofs.Common.{Option, ap}
use Rattle.std.specs.Prelude.{unwrap_or}
use Rattle.fl_interface.specs.Interface.{TheType, enumeration}
use Rattle.fl_check.proofs.declared.Declared.check_fixed_type.Goals as goal

pub returns-clause-stands : goal.returns-clause-stands
returns-clause-stands c =
    let found = rw c.in-Some.is at c.in_ok-measured.ensures.exact in
    ap (λ (o : Option TheType). unwrap_or o (enumeration 0)) found
