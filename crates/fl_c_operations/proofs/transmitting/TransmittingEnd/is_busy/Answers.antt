use Rattle.std.proofs.Common.{ap, ◌∙◌}
use Rattle.fl_endpoint.specs.View.{TheEnd, is_busy}
use Rattle.fl_c_operations.proofs.Transmissions.{none_is, some_is}
use Rattle.fl_c_operations.proofs.transmitting.TransmittingEnd.is_busy.Goals as goal

pub returns-in-Some : goal.returns-in-Some
returns-in-Some c =
    let h = c.self.inside in
    let same = some_is h.in_transmission c.in-Some.field-0 h.end c.in-Some.is ∙ c.self.view_is in
    record { busy = ap (λ (s : TheEnd). is_busy s.outgoing) same }

pub returns-in-None : goal.returns-in-None
returns-in-None c =
    let h = c.self.inside in
    let same = none_is h.in_transmission h.end c.in-None.is ∙ c.self.view_is in
    record { busy = c.is_busy.ensures.busy ∙ ap (λ (s : TheEnd). is_busy s.outgoing) same }
