use Rattle.std.proofs.Common.{subst, ◌∙◌}
use Rattle.fl_endpoint.specs.View.{TheEnd}
use Rattle.fl_c_operations.specs.Transmissions.{RefusesFitting}
use Rattle.fl_c_operations.proofs.Transmissions.{none_is, some_is, transmits_is}
use Rattle.fl_c_operations.proofs.transmitting.TransmittingEnd.without_memory.Goals as goal

pub refused_transmitting-requires : goal.refused_transmitting-requires
refused_transmitting-requires c =
    let transmits = transmits_is c.self.inside.in_transmission c.in-Some.field-0 c.self.inside.end c.in-Some.is c.self.invariant.transmits in
    record { bound = transmits.bound }

pub returns-in-Some : goal.returns-in-Some
returns-in-Some c =
    let h = c.self.inside in
    let same = some_is h.in_transmission c.in-Some.field-0 h.end c.in-Some.is ∙ c.self.view_is in
    record {
      refuses = subst (λ (s : TheEnd). RefusesFitting s c.refused_transmitting.result) same
          (c.refused_transmitting.ensures.refuses c.in-Some.field-0);
    }

pub returns-in-None : goal.returns-in-None
returns-in-None c =
    let h = c.self.inside in
    let same = none_is h.in_transmission h.end c.in-None.is ∙ c.self.view_is in
    record {
      refuses = subst (λ (s : TheEnd). RefusesFitting s c.without_memory.result) same c.without_memory.ensures.refuses;
    }
