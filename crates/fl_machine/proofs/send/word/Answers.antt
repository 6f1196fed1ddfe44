use Rattle.std.proofs.Common.{◌*◌, slice_index, sym, ◌∙◌, ap}
use Rattle.std.specs.Int.{from_le_bytes, w64}
use Rattle.fl_machine.proofs.Fragments.{eight}
use Rattle.fl_machine.proofs.send.word.Goals as goal

pub returns : goal.returns
returns c = c.from_le_bytes.ensures ∙ sym (ap (from_le_bytes w64) (eight (slice_index c.args.buffer.now) (8 * c.args.index)))
