use Rattle.std.proofs.Common.{◌≡◌, [], refl, sym, subst}
use Rattle.fl_value_data.specs.Value.{call_of}
use Rattle.fl_endpoint.specs.View.{TheEnd}
use Rattle.fl_endpoint.specs.Inside.{end_of}
use Rattle.fl_endpoint.proofs.Sounds.{Fits}
use Rattle.fl_endpoint.proofs.Insides.{called_is_end, none_sending}
use Rattle.fl_endpoint.proofs.end.End.call.Goals as goal

pub invariant_of-self : goal.invariant_of-self
invariant_of-self c =
    let admits = c.in-Ok.ensures.admits in
    called_is_end c.self.inside c.begin_from.new.self c.in-Ok-of.queued c.args.self.now (call_of c.args.call.now) c.in-Ok.circuit.0 c.self.view_is c.self.invariant.sound
    admits.1 admits.3 admits.0 c.in-Ok-of.ensures.queues c.begin_from.ensures.outgoing c.begin_from.ensures.queued

pub begin_from-requires-clause-idle : goal.begin_from-requires-clause-idle
begin_from-requires-clause-idle c =
    let e = c.self.inside in
    none_sending e.outgoing.sending e.outgoing.payload (subst (λ (s : TheEnd). s.outgoing.unwritten ≡ []) (sym c.self.view_is) c.in-Ok.ensures.admits.3)

pub of-requires : goal.of-requires
of-requires c =
    let fits : Fits (end_of c.self.inside) (call_of c.args.call.now) = subst (λ (s : TheEnd). Fits s (call_of c.args.call.now)) (sym c.self.view_is) c.in-Ok.ensures.admits.0 in
    record { sends = record { fits = fits; fits_so = fits; types = refl } }
