use Rattle.std.proofs.Common.{rules}
use Rattle.std.proofs.lemmas.Grind.{common_steps}
use Rattle.fl_script_exec.proofs.ExecLemmas.{on_err, gives_more}
use Rattle.fl_script_exec.proofs.running.read_script.Goals as goal

pub returns-in_err-extend_from_slice-clause-some : goal.returns-in_err-extend_from_slice-clause-some
returns-in_err-extend_from_slice-clause-some g c =
    on_err c.from_residual.result (gives_more _ _ _ _ _ c.loop-turn.invariant.0 c.loop-turn.invariant.2 c.in-Ok.ensures.bytes.0 (search (rules, common_steps)))
