use Rattle.std.proofs.lemmas.Result.{on_ok_weaker}
use Rattle.fl_wire.proofs.Encoding.{gap_written}
use Rattle.fl_wire.proofs.encode.put_gap.Goals as goal

pub returns : goal.returns
returns c = record {
  ok = on_ok_weaker c.align_to.result (λ is before stands. gap_written before _ _ c.args.align stands is) c.align_to.ensures.ok;
}
