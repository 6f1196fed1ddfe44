use Rattle.std.proofs.lemmas.Result.{on_ok_weaker}
use Rattle.fl_wire.proofs.Bytes.{number_written}
use Rattle.fl_wire.proofs.encode.put_number.Goals as goal

pub returns : goal.returns
returns c = record {
  ok = on_ok_weaker c.put_low_bytes.result
      (λ is before old. number_written before _ _ _ c.args.width c.args.number c.requires.width old c.in_ok-align_to.ensures.ok is) c.put_low_bytes.ensures.ok;
}
