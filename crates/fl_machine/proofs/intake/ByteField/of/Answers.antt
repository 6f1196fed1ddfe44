use Rattle.std.proofs.Common.{ap}
use Rattle.fl_machine.specs.Taking.{field_view}
use Rattle.fl_machine.proofs.intake.ByteField.of.Goals as goal

pub returns-in-ReadBool : goal.returns-in-ReadBool
returns-in-ReadBool c = λ at same. rw c.in-ReadBool.is (ap field_view c.number-in-ReadBool.ensures)

pub returns-in-ReadText : goal.returns-in-ReadText
returns-in-ReadText c = λ at same. rw c.in-ReadText.is (ap field_view c.number-in-ReadText.ensures)

pub returns-in-ReadChar : goal.returns-in-ReadChar
returns-in-ReadChar c = λ at same. rw c.in-ReadChar.is (ap field_view c.number-in-ReadChar.ensures)

pub returns-in-Skip : goal.returns-in-Skip
returns-in-Skip c = λ at same. rw c.in-Skip.is c.zeros.ensures
