use Rattle.flounder_commands.specs.ScanView.{scanned}
use Rattle.flounder_commands.proofs.Scanning.{found_in_told}
use Rattle.flounder_commands.proofs.watched.WatchedFindsRefusals.has_refusal.Goals as goal

pub returns : goal.returns
returns g c = record { is = found_in_told (scanned c.args.self.now.scan) (g.W.Write.contents c.args.self.now.inner) }
