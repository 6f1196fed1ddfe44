use Rattle.std.proofs.Common.{◌∙◌, ◌%◌, ℕ, List, get_or, ap, arith}
use Rattle.fl_wire.proofs.Turns.{byte_low}
use Rattle.fl_wire.proofs.leaf.byte_of.Goals as goal

pub returns : goal.returns
returns c = record {
  byte = ap (λ (bs : List ℕ). get_or bs (c.args.p % 8) 0) c.to_le_bytes.ensures ∙ byte_low c.args.word (c.args.p % 8) (omega arith);
}
