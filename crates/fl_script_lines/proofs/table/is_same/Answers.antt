use Rattle.std.proofs.Common.{arith}
use Rattle.fl_script_lines.proofs.TableLemmas.{same_bytes}
use Rattle.fl_script_lines.proofs.table.is_same.Goals as goal

pub returns : goal.returns
returns c = record { same = same_bytes c.args.name.now c.args.other.now c.loop-place.invariant.long (λ k below. c.loop-place.invariant.same k (omega arith)) }
