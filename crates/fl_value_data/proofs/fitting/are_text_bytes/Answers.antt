use Rattle.std.proofs.Common.{arith, rules}
use Rattle.fl_value_data.proofs.Counting.{text_bytes}
use Rattle.fl_value_data.proofs.fitting.are_text_bytes.Goals as goal

pub returns : goal.returns
returns c =
    let text = text_bytes c.args.bytes.now (λ k. omega (arith, c.type_inv.bytes k)) in
    search (rules, text)
