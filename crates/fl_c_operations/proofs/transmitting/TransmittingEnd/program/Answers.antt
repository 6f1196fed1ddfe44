use Rattle.std.proofs.Common.{ap, sym, ◌∙◌}
use Rattle.fl_endpoint.specs.View.{TheEnd}
use Rattle.fl_c_operations.proofs.Transmissions.{program_transmitting}
use Rattle.fl_c_operations.proofs.transmitting.TransmittingEnd.program.Goals as goal

pub returns : goal.returns
returns c =
    let h = c.self.inside in
    record { program = c.program.ensures.program ∙ sym (program_transmitting h.in_transmission h.end) ∙ ap (λ (s : TheEnd). s.program) c.self.view_is }
