use Rattle.std.proofs.Common.{◌∙◌, ap}
use Rattle.std.specs.Int.{from_le_bytes, w64}
use Rattle.fl_wire.proofs.Texts.{eight_at}
use Rattle.fl_wire.proofs.fragments.whole_word.Goals as goal

pub returns : goal.returns
returns c = record { word = c.from_le_bytes.ensures ∙ ap (from_le_bytes w64) (eight_at c.args.bytes.now c.args.start) }
