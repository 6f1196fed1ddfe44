use Rattle.std.proofs.Common.{inr}
use Rattle.flounder_commands.specs.Streams.{output_of}
use Rattle.flounder_run.proofs.Doing.{told_so}
use Rattle.flounder_run.proofs.cores.print_told.Goals as goal

pub returns-in-Ok : goal.returns-in-Ok
returns-in-Ok g c = record {
  told =
      told_so c.outcome_of.result c.args.end c.args.told.now (output_of g.W.Write.contents c.args.output.now c.print.new.output) c.in-Ok.ensures.put c.outcome_of.ensures.status;
}

pub fault_unprinted-requires : goal.fault_unprinted-requires
fault_unprinted-requires g c = record { failed = c.in-Err.ensures.part.0 }

pub returns-in-Err : goal.returns-in-Err
returns-in-Err g c = record { told = inr (c.fault_unprinted.ensures.status, c.in-Err.ensures.part.1) }
