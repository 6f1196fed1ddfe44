use Rattle.std.proofs.Common.{◌≡◌, true, [], ◌∷◌, Ok, refl, ap, subst, ◌∙◌}
use Rattle.fl_value_data.specs.Value.{TheCall}
use Rattle.fl_value_data.specs.Fits.{fits_of}
use Rattle.fl_endpoint.specs.View.{TheEnd, interface_in, frags_from}
use Rattle.fl_endpoint.specs.Events.{Calls}
use Rattle.fl_c_operations.specs.Transmissions.{transmitting_frag, RefusesFitting}
use Rattle.fl_c_operations.proofs.Transmissions.{none_is, some_is, transmits_is, calls_transmitting, transmits_new}
use Rattle.fl_c_operations.proofs.transmitting.TransmittingEnd.call_frag.Goals as goal

pub refused_transmitting-requires : goal.refused_transmitting-requires
refused_transmitting-requires c =
    let transmits = transmits_is c.self.inside.in_transmission c.in-Some.field-0 c.self.inside.end c.in-Some.is c.self.invariant.transmits in
    record { bound = transmits.bound }

pub returns-in-Some : goal.returns-in-Some
returns-in-Some c =
    let h = c.self.inside in
    let same = some_is h.in_transmission c.in-Some.field-0 h.end c.in-Some.is ∙ c.self.view_is in
    let refuses = subst (λ (s : TheEnd). RefusesFitting s c.refused_transmitting.result) same
    (c.refused_transmitting.ensures.refuses c.in-Some.field-0) in
    record { calls = λ call fits frags. refuses call fits; not_memory = λ e. c.refused_transmitting.ensures.not_memory (cc); program = refl }

pub returns-in-Some-refused : goal.returns-in-Some-refused
returns-in-Some-refused c =
    let h = c.self.inside in
    let same = none_is h.in_transmission h.end c.in-None.is ∙ c.self.view_is in
    let refuses = subst (λ (s : TheEnd). RefusesFitting s c.in-Some-refused.fault) same c.in-Some-refused.ensures.some in
    record { calls = λ call fits frags. refuses call fits; not_memory = λ e. c.in-Some-refused.ensures.not_memory (cc); program = refl }

pub invariant_of-self : goal.invariant_of-self
invariant_of-self c = record {
  transmits = transmits_new c.self.inside.end c.args.frag c.law_sound.ensures.sound c.requires.own c.in-None-refused.ensures.none.0 c.in-None-refused.ensures.none.1;
  coded = c.self.invariant.coded;
}

pub returns-in-None-refused : goal.returns-in-None-refused
returns-in-None-refused c =
    let h = c.self.inside in
    let same = none_is h.in_transmission h.end c.in-None.is ∙ c.self.view_is in
    record {
      calls = subst (λ (s : TheEnd). (call : TheCall) → fits_of (interface_in s) call ≡ true → frags_from s call ≡ c.args.frag ∷ [] → Calls s call (Ok tt) (transmitting_frag c.args.frag h.end)) same
          (λ call fits frags. calls_transmitting h.end c.args.frag call c.in-None-refused.ensures.none.0 c.in-None-refused.ensures.none.1 fits frags);
      not_memory = λ e. absurd (cc);
      program = ap (λ (s : TheEnd). s.program) same;
    }
