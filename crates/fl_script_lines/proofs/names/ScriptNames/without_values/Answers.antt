use Rattle.std.proofs.Common.{map}
use Rattle.fl_value_data.specs.Value.{datum_of}
use Rattle.fl_script_lines.specs.Lines.{a_call}
use Rattle.fl_script_lines.specs.Told.{names_of}
use Rattle.fl_script_lines.specs.Views.{end_name_of}
use Rattle.fl_script_lines.proofs.LineLemmas.{refused_call, wanted_call, no_call}
use Rattle.fl_script_lines.proofs.names.ScriptNames.without_values.Goals as goal

pub returns-in_default : goal.returns-in_default
returns-in_default c = record { tells = no_call (names_of c.args.self.now) (end_name_of c.args.end) c.args.text.now c.in_default.ensures.none }

-- the names hold the call's end and message, so that memory alone is wanting
pub returns-in-Ok : goal.returns-in-Ok
returns-in-Ok c = record {
  tells = wanted_call (names_of c.args.self.now) (end_name_of c.args.end) c.args.text.now c.in-Some.name.now (map datum_of c.new.result.items) c.in-Some.ensures.found.0
      (a_call c.in-Ok._asked) c.in-Some.ensures.found.1 c.in-Ok.ensures.tells;
}

pub returns-in-Err : goal.returns-in-Err
returns-in-Err c = record {
  tells = refused_call (names_of c.args.self.now) (end_name_of c.args.end) c.args.text.now c.in-Some.name.now (map datum_of c.new.result.items) c.in-Some.ensures.found.0
      c.in-Err.fault c.in-Some.ensures.found.1 c.in-Err.ensures.tells;
}
