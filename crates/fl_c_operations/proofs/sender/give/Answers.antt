use Rattle.std.proofs.Common.{refl}
use Rattle.fl_c_operations.proofs.Gives.{gives_one, gives_none}
use Rattle.fl_c_operations.proofs.sender.give.Goals as goal

pub returns-in-Some-next_frag-clause-gives : goal.returns-in-Some-next_frag-clause-gives
returns-in-Some-next_frag-clause-gives c = (
  c.in-Some-next_frag.frag,
  c.write.ensures.numbers,
  gives_one _ c.in-Some.code.now _ _ _ c.in-Some.ensures.exact c.in-Some-next_frag.ensures.frag c.in-Some-next_frag.ensures.left,
)

pub returns-in-None-clause-gives : goal.returns-in-None-clause-gives
returns-in-None-clause-gives c =
    let none = gives_none _ c.in-Some.code.now _ _ c.in-Some.ensures.exact c.in-None.ensures.frag c.in-None.ensures.left in
    (none.0, none.1, refl)
