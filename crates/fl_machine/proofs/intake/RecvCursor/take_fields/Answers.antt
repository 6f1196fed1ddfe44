use Rattle.std.proofs.Common.{◌∙◌}
use Rattle.fl_machine.proofs.Intakes.{take_kept}
use Rattle.fl_machine.proofs.intake.RecvCursor.take_fields.Goals as goal

pub take_numbers-requires-clause-fed : goal.take_numbers-requires-clause-fed
take_numbers-requires-clause-fed c = let (before, all, fed) = c.requires.fed in (before, all, c.in-Ok.ensures.fed before all fed)

pub returns-in-Ok-clause-fed : goal.returns-in-Ok-clause-fed
returns-in-Ok-clause-fed c before all fed = c.take_numbers.ensures.fed before all (c.in-Ok.ensures.fed before all fed)

pub returns-in-Ok-clause-kept : goal.returns-in-Ok-clause-kept
returns-in-Ok-clause-kept c =
    take_kept c.args.self.now.count c.take_field.new.self.count c.take_numbers.new.tape c.take_field.new.tape c.take_field.ensures.count.0 c.take_numbers.ensures.kept
    ∙ c.take_field.ensures.kept
