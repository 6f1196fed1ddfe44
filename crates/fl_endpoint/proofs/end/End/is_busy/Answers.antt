use Rattle.std.proofs.Common.{ap, ◌∙◌}
use Rattle.fl_endpoint.specs.View.{TheEnd, is_busy, number_or_0}
use Rattle.fl_endpoint.specs.Inside.{circuit_of, program_in}
use Rattle.fl_endpoint.proofs.end.End.is_busy.Goals as goal

pub returns : goal.returns
returns c =
    let i = c.self.inside in
    record { busy = c.is_busy.ensures.busy (program_in i) (number_or_0 (circuit_of i.circuit)) ∙ ap (λ (s : TheEnd). is_busy s.outgoing) c.self.view_is }
