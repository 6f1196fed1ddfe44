use Rattle.std.proofs.Common.{◌∙◌, refl, ap, subst, List, ℕ, Option}
use Rattle.flounder_commands.specs.Commands.{EndsRun}
use Rattle.std.specs.Io.Buffered.{writer_buffer, writer_contents}
use Rattle.flounder_commands.specs.Streams.{streams_of}
use Rattle.flounder_commands.proofs.Doing.{ran, cut_short, not_flushed}
use Rattle.flounder_commands.proofs.commands.run_script.Goals as goal

pub returns-in-Err : goal.returns-in-Err
returns-in-Err g c = record {
  ran =
      cut_short g.M.Machine.shows c.args.strict (streams_of g.R.Read.remaining g.W.Write.contents c.args.input.now c.exec-outcome.new.reader c.args.output.now c.flush-flushed.new.self)
      (writer_contents g.W.Write.contents c.exec-outcome.new.writer) c.in-Err.fault c.finish.result
      c.in-Err.ensures.err c.flush-flushed.ensures.bytes (c.finish.ensures.fault ∙ c.cut_short.ensures.fault);
}

pub returns-in-Ok-flushed : goal.returns-in-Ok-flushed
returns-in-Ok-flushed g c = record {
  ran =
      ran g.M.Machine.shows c.args.strict (streams_of g.R.Read.remaining g.W.Write.contents c.args.input.now c.exec-outcome.new.reader c.args.output.now c.flush-flushed.new.self)
      (writer_contents g.W.Write.contents c.exec-outcome.new.writer) (writer_buffer c.flush-flushed.new.self) c.end_status.result
      c.in-Ok.ensures.ran c.in-Ok.ensures.ok c.flush-flushed.ensures.bytes refl c.in-Ok-flushed.ensures.ok
      (subst (λ (o : Option (List ℕ)). EndsRun c.args.strict o c.end_status.result) (ap g.W.Write.contents c.get_ref-in-Ok-flushed.ensures) c.end_status.ensures.ends);
}

pub returns-in-Err-flushed : goal.returns-in-Err-flushed
returns-in-Err-flushed g c = record {
  ran =
      not_flushed g.M.Machine.shows c.args.strict (streams_of g.R.Read.remaining g.W.Write.contents c.args.input.now c.exec-outcome.new.reader c.args.output.now c.flush-flushed.new.self)
      (writer_contents g.W.Write.contents c.exec-outcome.new.writer) c.finish-in-Err-flushed.result
      c.in-Ok.ensures.ok c.flush-flushed.ensures.bytes (c.finish-in-Err-flushed.ensures.fault ∙ c.unflushed.ensures.status);
}
