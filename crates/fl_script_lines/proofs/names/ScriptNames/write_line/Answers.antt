use Rattle.std.proofs.Common.{refl}
use Rattle.fl_model.specs.Events as event
use Rattle.fl_script_lines.specs.Commands.{write}
use Rattle.fl_script_lines.specs.Lines.{told_as, a_write}
use Rattle.fl_script_lines.specs.Told.{names_of}
use Rattle.fl_script_lines.proofs.LineLemmas.{end_tells}
use Rattle.fl_script_lines.proofs.names.ScriptNames.write_line.Goals as goal

pub returns : goal.returns
returns c = record {
  tells =
      end_tells (names_of c.args.self.now) write event.write c.args.rest.now (told_as a_write c.end_line.result) (λ e. refl)
      (c.end_line.ensures.tells event.write a_write (λ e. refl));
}
