use Rattle.std.proofs.Common.{refl, ap, subst, ◌∙◌}
use Rattle.fl_value_data.specs.Value.{call_of}
use Rattle.fl_endpoint.specs.View.{TheEnd}
use Rattle.fl_endpoint.specs.Events.{Calls}
use Rattle.fl_c_operations.specs.Transmissions.{transmitting, RefusesFitting}
use Rattle.fl_c_operations.proofs.Transmissions.{none_is, some_is, transmits_is, transmits_none, coded_as, program_transmitting}
use Rattle.fl_c_operations.proofs.transmitting.TransmittingEnd.call.Goals as goal

pub refused_transmitting-requires : goal.refused_transmitting-requires
refused_transmitting-requires c =
    let transmits = transmits_is c.self.inside.in_transmission c.in-Some.field-0 c.self.inside.end c.in-Some.is c.self.invariant.transmits in
    record { bound = transmits.bound }

pub returns-in-Some : goal.returns-in-Some
returns-in-Some c =
    let h = c.self.inside in
    let same = some_is h.in_transmission c.in-Some.field-0 h.end c.in-Some.is ∙ c.self.view_is in
    let refuses = subst (λ (s : TheEnd). RefusesFitting s c.refused_transmitting.result) same
    (c.refused_transmitting.ensures.refuses c.in-Some.field-0) in
    record { calls = refuses (call_of c.args.call.now) c.requires.fits; program = refl }

pub invariant_of-self : goal.invariant_of-self
invariant_of-self c = record {
  transmits = transmits_none c.self.inside.in_transmission c.call.new.self c.in-None.is;
  coded = coded_as c.self.inside.end c.call.new.self c.self.inside.codecs.items c.call.ensures.program c.self.invariant.coded;
}

pub returns-in-None : goal.returns-in-None
returns-in-None c =
    let h = c.self.inside in
    let d = call_of c.args.call.now in
    let same = none_is h.in_transmission h.end c.in-None.is ∙ c.self.view_is in
    let after = none_is h.in_transmission c.call.new.self c.in-None.is in
    record {
      calls = subst (λ (s : TheEnd). Calls s d c.call.result (transmitting h.in_transmission c.call.new.self)) same (subst (λ (t : TheEnd). Calls h.end d c.call.result t) after c.call.ensures.calls);
      program = program_transmitting h.in_transmission c.call.new.self ∙ c.call.ensures.program ∙ ap (λ (s : TheEnd). s.program) same;
    }
