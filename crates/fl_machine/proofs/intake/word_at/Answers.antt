use Rattle.std.proofs.Common.{arith}
use Rattle.fl_machine.proofs.Octets.{bytes_again}
use Rattle.fl_machine.proofs.intake.word_at.Goals as goal

pub returns : goal.returns
returns c = bytes_again c.args.at c.args.buffer.now c.from_le_bytes.result (omega (arith, c.requires, c.told-buffer)) c.fits-buffer c.from_le_bytes.ensures
