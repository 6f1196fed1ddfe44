use Rattle.std.proofs.Common.{refl, sym, ap, subst, ◌∙◌}
use Rattle.fl_endpoint.specs.View.{TheEnd}
use Rattle.fl_endpoint.specs.Lent.{receipt, ReceivesAt}
use Rattle.fl_c_operations.specs.Transmissions.{transmitting_frag, transmitting}
use Rattle.fl_c_operations.proofs.Transmissions.{none_is, some_is, transmits_is, transmits_at, transmits_none, coded_after, program_transmitting, place_as}
use Rattle.fl_c_operations.proofs.transmitting.TransmittingEnd.receive.Goals as goal

pub receive_transmitting-requires : goal.receive_transmitting-requires
receive_transmitting-requires g c =
    let h = c.self.inside in
    let program = ap (λ (s : TheEnd). s.program) (sym c.self.view_is) ∙ program_transmitting h.in_transmission h.end in
    record {
      transmits = transmits_is h.in_transmission c.in-Some.frag h.end c.in-Some.is c.self.invariant.transmits;
      place = place_as c.args.self.now h.end c.args.calls.now c.args.place program c.requires.place;
    }

pub receive-requires : goal.receive-requires
receive-requires g c =
    let h = c.self.inside in
    let program = ap (λ (s : TheEnd). s.program) (sym c.self.view_is) ∙ program_transmitting h.in_transmission h.end in
    record { place = place_as c.args.self.now h.end c.args.calls.now c.args.place program c.requires.place }

pub invariant_of-self : goal.invariant_of-self
invariant_of-self g c =
    let h = c.self.inside in
    let t = c.receive_transmitting.new.end in
    let place = place_as c.args.self.now h.end c.args.calls.now c.args.place (ap (λ (s : TheEnd). s.program) (sym c.self.view_is) ∙ program_transmitting h.in_transmission h.end) c.requires.place in
    record {
      transmits = transmits_at h.in_transmission c.in-Some.frag t c.in-Some.is c.receive_transmitting.ensures.transmits;
      coded = coded_after g.T.TakeSide.takes (transmitting_frag c.in-Some.frag h.end) (transmitting_frag c.in-Some.frag t) c.args.from.now c.receive_transmitting.new.from c.receive_transmitting.result
          c.args.calls.now c.args.place c.receive_transmitting.new.calls h.codecs.items
          (place_as h.end (transmitting_frag c.in-Some.frag h.end) c.args.calls.now c.args.place refl place) c.receive_transmitting.ensures.receives c.self.invariant.coded;
    }

pub invariant_of-self-in-None : goal.invariant_of-self-in-None
invariant_of-self-in-None g c =
    let h = c.self.inside in
    let t = c.receive.new.self in
    let place = place_as c.args.self.now h.end c.args.calls.now c.args.place (ap (λ (s : TheEnd). s.program) (sym c.self.view_is) ∙ program_transmitting h.in_transmission h.end) c.requires.place in
    record {
      transmits = transmits_none h.in_transmission t c.in-None.is;
      coded = coded_after g.T.TakeSide.takes h.end t c.args.from.now c.receive.new.from c.receive.result c.args.calls.now c.args.place c.receive.new.calls h.codecs.items
          place c.receive.ensures.receives c.self.invariant.coded;
    }

pub returns-in-Some : goal.returns-in-Some
returns-in-Some g c =
    let h = c.self.inside in
    let t = c.receive_transmitting.new.end in
    let same = some_is h.in_transmission c.in-Some.frag h.end c.in-Some.is ∙ c.self.view_is in
    let after = some_is h.in_transmission c.in-Some.frag t c.in-Some.is in
    record {
      receives = subst (λ (s : TheEnd). ReceivesAt g.T.TakeSide.takes (receipt s c.args.from.now c.receive_transmitting.result (transmitting h.in_transmission t) c.receive_transmitting.new.from) c.args.calls.now c.args.place c.receive_transmitting.new.calls) same
          (subst (λ (s : TheEnd). ReceivesAt g.T.TakeSide.takes (receipt (transmitting_frag c.in-Some.frag h.end) c.args.from.now c.receive_transmitting.result s c.receive_transmitting.new.from) c.args.calls.now c.args.place c.receive_transmitting.new.calls) after
          c.receive_transmitting.ensures.receives);
      place = place_as t (transmitting h.in_transmission t) c.receive_transmitting.new.calls c.args.place (sym (program_transmitting h.in_transmission t)) c.receive_transmitting.ensures.place;
    }

pub returns-in-None : goal.returns-in-None
returns-in-None g c =
    let h = c.self.inside in
    let t = c.receive.new.self in
    let same = none_is h.in_transmission h.end c.in-None.is ∙ c.self.view_is in
    let after = none_is h.in_transmission t c.in-None.is in
    record {
      receives = subst (λ (s : TheEnd). ReceivesAt g.T.TakeSide.takes (receipt s c.args.from.now c.receive.result (transmitting h.in_transmission t) c.receive.new.from) c.args.calls.now c.args.place c.receive.new.calls) same
          (subst (λ (s : TheEnd). ReceivesAt g.T.TakeSide.takes (receipt h.end c.args.from.now c.receive.result s c.receive.new.from) c.args.calls.now c.args.place c.receive.new.calls) after c.receive.ensures.receives);
      place = place_as t (transmitting h.in_transmission t) c.receive.new.calls c.args.place (sym (program_transmitting h.in_transmission t)) c.receive.ensures.place;
    }
