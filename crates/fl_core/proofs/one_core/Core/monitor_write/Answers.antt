use Rattle.std.proofs.Common.{sym, ◌∙◌}
use Rattle.fl_core.proofs.Monitoring.{nothing_waits, first_written}
use Rattle.fl_core.proofs.one_core.Core.monitor_write.Goals as goal

pub returns-in_default : goal.returns-in_default
returns-in_default g c = record { writes = nothing_waits g.P.PutSide.puts c.args.link.0 c.args.self.now _ c.self.view_is c.args.out.now (sym c.next_out.ensures.next ∙ c.in_default.is) }

pub returns-in-Ok : goal.returns-in-Ok
returns-in-Ok g c = record { writes = first_written g.P.PutSide.puts c.args.link.0 c.args.self.now _ c.self.view_is c.args.out.now c.in-Some.frag c.sent_out.new.self c.put.new.self (sym c.next_out.ensures.next ∙ c.in-Some.is) c.in-Some.ensures.bare c.in-Ok.ensures.placed c.sent_out.ensures.rest }
