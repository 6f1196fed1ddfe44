use Rattle.std.proofs.Common.{refl}
use Rattle.fl_model.specs.Events as event
use Rattle.fl_script_lines.specs.Commands.{ack}
use Rattle.fl_script_lines.specs.Lines.{told_as, an_ack}
use Rattle.fl_script_lines.specs.Told.{names_of}
use Rattle.fl_script_lines.proofs.LineLemmas.{end_tells}
use Rattle.fl_script_lines.proofs.names.ScriptNames.ack_line.Goals as goal

pub returns : goal.returns
returns c = record {
  tells =
      end_tells (names_of c.args.self.now) ack event.ack c.args.rest.now (told_as an_ack c.end_line.result) (λ e. refl)
      (c.end_line.ensures.tells event.ack an_ack (λ e. refl));
}
