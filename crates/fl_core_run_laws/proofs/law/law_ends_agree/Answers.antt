use Rattle.fl_core_run_laws.proofs.Agreeing.{agree, off_links}
use Rattle.fl_core_run_laws.proofs.law.law_ends_agree.Goals as goal

pub returns : goal.returns
returns c = record {
  agree = agree c.law_handles_in_order.ensures.handles c.law_on_another_circuit.ensures.on;
  off_links = off_links c.law_handles_in_order.ensures.handles c.law_on_another_circuit.ensures.on;
}
