use Rattle.std.proofs.Common.{◌∙◌, ap, arith}
use Rattle.std.proofs.lemmas.List.{take_rest}
use Rattle.flounder_commands.specs.Scan.{after_all}
use Rattle.flounder_commands.specs.ScanView.{ahead, scanned}
use Rattle.flounder_commands.proofs.Scanning.{passes_over, passes_all}
use Rattle.flounder_commands.proofs.refusals.Scan.unread.Goals as goal

pub returns-in-Some-clause-same : goal.returns-in-Some-clause-same
returns-in-Some-clause-same c =
    let s = scanned c.args.self in
    let bytes = c.args.bytes.now in
    ap (after_all s) (take_rest bytes c.in-Some.end) ∙ passes_over s bytes c.in-Some.end (ap ahead c.in-Other.is) (omega (arith, c.in-Some.ensures.0.high)) c.in-Some.ensures.0.before

pub returns-in-None-clause-same : goal.returns-in-None-clause-same
returns-in-None-clause-same c = passes_all (scanned c.args.self) c.args.bytes.now (ap ahead c.in-Other.is) c.in-None.ensures
