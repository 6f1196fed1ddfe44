use Rattle.std.proofs.Common.{◌<◌, sym, subst}
use Rattle.std.specs.Prelude.{All}
use Rattle.std.proofs.lemmas.Result.{on_ok_weaker}
use Rattle.fl_base.specs.declared.identity.CoreId.{CoreId as TheCore}
use Rattle.fl_monitor.specs.Intermon.{HasWidths}
use Rattle.fl_monitor.proofs.message.MonitorMessage.tape.Goals as goal

pub returns-in-OpenCircuit-clause-widths : goal.returns-in-OpenCircuit-clause-widths
returns-in-OpenCircuit-clause-widths c =
    on_ok_weaker c.opening_tape.result
    (λ small. subst HasWidths (sym c.in-OpenCircuit.is) (small.0, small.1, small.2, record { few = c.cores.ensures.few; small = subst (All (λ (core : TheCore). core.0 < 256)) c.cores.ensures.cores small.3 }))
    c.opening_tape.ensures.small
