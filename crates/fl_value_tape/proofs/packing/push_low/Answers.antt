use Rattle.std.proofs.Common.{◌++◌, ◌∙◌, ℕ, List, take, ap}
use Rattle.fl_value_tape.proofs.Lows.{taken, if_appended}
use Rattle.fl_value_tape.proofs.packing.push_low.Goals as goal

pub returns : goal.returns
returns c = record {
  packed = if_appended c.extend_from_slice.result _ _ _ _ c.extend_from_slice.ensures.items
      (ap (λ (bs : List ℕ). c.args.out.now.items ++ bs) (ap (take c.args.width) c.to_le_bytes-bytes.ensures ∙ taken c.args.width 0 8 c.args.number c.requires.few));
}
