use Rattle.std.proofs.Common.{ap, ◌∙◌, List, [], ◌∷◌, ◌++◌}
use Rattle.fl_compile.specs.declared.program.Program.{Program}
use Rattle.fl_world.proofs.Kept.{no_answer, on_any, same_programs}
use Rattle.fl_world.proofs.Makes.{adds_program}
use Rattle.fl_world.proofs.world.World.with_program.Goals as goal

pub returns-clause-adds : goal.returns-clause-adds
returns-clause-adds c = adds_program c.args.self.now _ c.self.view_is _ c.args.plan c.in_ok-program.program c.in_ok-program.ensures.interface
    c.in_ok-program.ensures.plan c.args.interface.now.within _
    (c.push_reserved.ensures.items ∙ ap (λ (ps : List Program). ps ++ c.in_ok-program.program ∷ []) c.reserve.ensures.items)

pub returns-in_err-reserve-clause-adds : goal.returns-in_err-reserve-clause-adds
returns-in_err-reserve-clause-adds c = no_answer _ c.from_residual.result c.from_residual.ensures.0

pub returns-in_err-reserve-clause-kept : goal.returns-in_err-reserve-clause-kept
returns-in_err-reserve-clause-kept c = on_any _ c.from_residual.result (same_programs c.args.self.now _ c.self.view_is _ c.reserve.ensures.items)

pub returns-in_err-program-clause-adds : goal.returns-in_err-program-clause-adds
returns-in_err-program-clause-adds c = no_answer _ c.from_residual-in_err-program.result c.from_residual-in_err-program.ensures.0

pub returns-in_err-program-clause-kept : goal.returns-in_err-program-clause-kept
returns-in_err-program-clause-kept c = on_any _ c.from_residual-in_err-program.result (same_programs c.args.self.now _ c.self.view_is _
    c.reserve.ensures.items)
