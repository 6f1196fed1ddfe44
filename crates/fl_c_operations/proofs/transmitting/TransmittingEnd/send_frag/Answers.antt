use Rattle.std.proofs.Common.{◌≡◌, true, [], ◌∷◌, Ok, Err, refl, ap, subst, ◌∙◌}
use Rattle.fl_c_operations.specs.declared.transmitting.Sent.TheVariants.{PutNow, NoRoom, RingSpent}
use Rattle.fl_value_data.specs.Value.{TheCall}
use Rattle.fl_value_data.specs.Fits.{fits_of}
use Rattle.fl_endpoint.specs.View.{TheEnd, interface_in, frags_from}
use Rattle.fl_c_operations.specs.Transmissions.{transmitting_frag, RefusesFitting, SendsOne}
use Rattle.fl_c_operations.proofs.Transmissions.{none_is, some_is, transmits_is, transmits_new, sends_at_once, sends_none, sends_spent}
use Rattle.fl_c_operations.proofs.transmitting.TransmittingEnd.send_frag.Goals as goal

pub refused_transmitting-requires : goal.refused_transmitting-requires
refused_transmitting-requires c =
    let transmits = transmits_is c.self.inside.in_transmission c.in-Some.field-0 c.self.inside.end c.in-Some.is c.self.invariant.transmits in
    record { bound = transmits.bound }

pub returns-in-Some : goal.returns-in-Some
returns-in-Some c =
    let h = c.self.inside in
    let same = some_is h.in_transmission c.in-Some.field-0 h.end c.in-Some.is ∙ c.self.view_is in
    let refuses = subst (λ (s : TheEnd). RefusesFitting s c.refused_transmitting.result) same
    (c.refused_transmitting.ensures.refuses c.in-Some.field-0) in
    record { sends = λ call fits frags. (refuses call fits, refl); program = refl }

pub returns-in-Some-refused : goal.returns-in-Some-refused
returns-in-Some-refused c =
    let h = c.self.inside in
    let same = none_is h.in_transmission h.end c.in-None.is ∙ c.self.view_is in
    let refuses = subst (λ (s : TheEnd). RefusesFitting s c.in-Some-refused.fault) same c.in-Some-refused.ensures.some in
    record { sends = λ call fits frags. (refuses call fits, refl); program = refl }

pub put-requires : goal.put-requires
put-requires c = c.requires.own.data_is

pub returns-in-Ok : goal.returns-in-Ok
returns-in-Ok c =
    let h = c.self.inside in
    let same = none_is h.in_transmission h.end c.in-None.is ∙ c.self.view_is in
    let idle = c.in-None-refused.ensures.none in
    record {
      sends = subst (λ (s : TheEnd). (call : TheCall) → fits_of (interface_in s) call ≡ true → frags_from s call ≡ c.args.frag ∷ [] → SendsOne s c.args.side.now.side call (Ok PutNow) s c.put.new.self.side) same
          (λ call fits frags. sends_at_once h.end c.args.frag call c.args.side.now.side c.put.new.self.side c.law_sound.ensures.sound c.requires.own idle.0 idle.1 fits frags c.in-Ok.ensures.placed);
      program = refl;
    }

pub returns-in-Err-Full : goal.returns-in-Err-Full
returns-in-Err-Full c =
    let h = c.self.inside in
    let same = none_is h.in_transmission h.end c.in-None.is ∙ c.self.view_is in
    let idle = c.in-None-refused.ensures.none in
    record {
      sends = subst (λ (s : TheEnd). (call : TheCall) → fits_of (interface_in s) call ≡ true → frags_from s call ≡ c.args.frag ∷ [] → SendsOne s c.args.side.now.side call (Ok NoRoom) (transmitting_frag c.args.frag h.end) c.put.new.self.side) same
          (λ call fits frags. sends_none h.end c.args.frag call c.args.side.now.side c.put.new.self.side idle.0 idle.1 fits frags (c.put.ensures.full (cc)));
      program = ap (λ (s : TheEnd). s.program) same;
    }

pub returns-in-Err-Spent : goal.returns-in-Err-Spent
returns-in-Err-Spent c =
    let h = c.self.inside in
    let same = none_is h.in_transmission h.end c.in-None.is ∙ c.self.view_is in
    let idle = c.in-None-refused.ensures.none in
    record {
      sends = subst (λ (s : TheEnd). (call : TheCall) → fits_of (interface_in s) call ≡ true → frags_from s call ≡ c.args.frag ∷ [] → SendsOne s c.args.side.now.side call (Ok RingSpent) (transmitting_frag c.args.frag h.end) c.put.new.self.side) same
          (λ call fits frags. sends_spent h.end c.args.frag call c.args.side.now.side c.put.new.self.side idle.0 idle.1 fits frags (c.put.ensures.spent (cc)));
      program = ap (λ (s : TheEnd). s.program) same;
    }

pub invariant_of-self : goal.invariant_of-self
invariant_of-self c = record {
  transmits = transmits_new c.self.inside.end c.args.frag c.law_sound.ensures.sound c.requires.own c.in-None-refused.ensures.none.0 c.in-None-refused.ensures.none.1;
  coded = c.self.invariant.coded;
}

pub invariant_of-self-in-Err-Spent : goal.invariant_of-self-in-Err-Spent
invariant_of-self-in-Err-Spent c = record {
  transmits = transmits_new c.self.inside.end c.args.frag c.law_sound.ensures.sound c.requires.own c.in-None-refused.ensures.none.0 c.in-None-refused.ensures.none.1;
  coded = c.self.invariant.coded;
}
