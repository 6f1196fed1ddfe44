use Rattle.std.specs.Prelude.{take}
use Rattle.flounder_commands.specs.ScanView.{scanned}
use Rattle.flounder_commands.proofs.Scanning.{told_appends}
use Rattle.flounder_commands.proofs.watched.WatchedWrite.write.Goals as goal

pub returns-after-keep-clause-bytes : goal.returns-after-keep-clause-bytes
returns-after-keep-clause-bytes g c =
    told_appends (scanned c.args.self.now.scan) (scanned c.after-self.result) (g.W.Write.contents c.args.self.now.inner) (g.W.Write.contents c.write.new.self)
    (take c.in-Ok.n c.args.buf.now) c.after-self.ensures.is c.in-Ok.ensures.bytes

pub returns-else-get-clause-bytes : goal.returns-else-get-clause-bytes
returns-else-get-clause-bytes g c =
    told_appends (scanned c.args.self.now.scan) (scanned c.after-self.result) (g.W.Write.contents c.args.self.now.inner) (g.W.Write.contents c.write.new.self)
    (take c.in-Ok.n c.args.buf.now) c.after-self.ensures.is c.in-Ok.ensures.bytes
