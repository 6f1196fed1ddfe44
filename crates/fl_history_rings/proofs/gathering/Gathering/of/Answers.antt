use Rattle.std.proofs.Common.{ap, ◌∙◌}
use Rattle.fl_history_rings.specs.Cores.{gathering_of}
use Rattle.fl_history_rings.proofs.Cores.{one_gathering, one_gathered}
use Rattle.fl_history_rings.proofs.gathering.Gathering.of.Goals as goal

pub invariant_of-gathering : goal.invariant_of-gathering
invariant_of-gathering c = one_gathering _ c.core.inside.seat _ c.core.invariant

pub returns : goal.returns
returns c = record { one = one_gathered _ _ c.core.inside.seat c.core.invariant.seated ∙ ap gathering_of c.core.view_is }
