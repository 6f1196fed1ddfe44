use Rattle.std.proofs.Common.{◌≡◌, ap, ◌∙◌, rules}
use Rattle.fl_lex.specs.Words.{is_name}
use Rattle.fl_monitor.proofs.interface.word.Goals as goal

pub invariant_of-result : goal.invariant_of-result
invariant_of-result c =
    let same : c.in_ok-bytes.bytes.items ≡ c.args.text.now = search rules in
    record { named = ap is_name same ∙ c.requires }
