use Rattle.std.proofs.Common.{◌≡◌, ◌∙◌, ◌+◌, ℕ, true, drop, ap, sym, add-one}
use Rattle.std.proofs.lemmas.List.{take_rest}
use Rattle.flounder_commands.specs.Scan.{after_all, awaits}
use Rattle.flounder_commands.specs.ScanView.{ahead, scanned}
use Rattle.flounder_commands.proofs.Scanning.{at_line, lines_over}
use Rattle.flounder_commands.proofs.refusals.Scan.past_lines.Goals as goal

pub returns : goal.returns
returns c =
    let s = scanned c.args.self in
    let bytes = c.args.bytes.now in
    let at = c.in-Some.at in
    let waits : awaits (ahead c.args.self.line) ≡ true = sym c.awaits.ensures.same ∙ c.if-not-awaits.false in
    record {
      same =
          ap (after_all (at_line s.found)) (take_rest bytes (at + 1)) ∙ ap (λ (k : ℕ). after_all (at_line s.found) (drop k bytes)) (add-one at)
          ∙ lines_over s bytes at waits c.in-Some.ensures.last;
    }
