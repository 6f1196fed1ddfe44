use Rattle.std.proofs.Common.{◌≡◌, ℕ, [], refl, sym, subst}
use Rattle.fl_value_data.specs.Value.{call_of}
use Rattle.fl_endpoint.specs.View.{TheEnd}
use Rattle.fl_endpoint.specs.Stored.{sent_as, SendsAs, Queues}
use Rattle.fl_endpoint.specs.Inside.{end_of, program_in}
use Rattle.fl_endpoint.proofs.Sounds.{Fits}
use Rattle.fl_endpoint.proofs.Insides.{called_is_end, none_sending}
use Rattle.fl_endpoint.proofs.end.End.call_compact.Goals as goal

pub invariant_of-self : goal.invariant_of-self
invariant_of-self c =
    let e = c.self.inside in
    let d = call_of c.args.call.now in
    let admits = c.in-Ok.ensures.admits in
    let queues : Queues (program_in e) d c.in-Ok-of_compact.queued
    = subst (λ (msg : ℕ). Queues (program_in e) (sent_as msg d) c.in-Ok-of_compact.queued) c.msg.ensures.msg c.in-Ok-of_compact.ensures.queues in
    called_is_end e c.begin_from.new.self c.in-Ok-of_compact.queued c.args.self.now d c.in-Ok.circuit.0 c.self.view_is c.self.invariant.sound
    admits.1 admits.3 admits.0 queues c.begin_from.ensures.outgoing c.begin_from.ensures.queued

pub begin_from-requires-clause-idle : goal.begin_from-requires-clause-idle
begin_from-requires-clause-idle c =
    let e = c.self.inside in
    none_sending e.outgoing.sending e.outgoing.payload (subst (λ (s : TheEnd). s.outgoing.unwritten ≡ []) (sym c.self.view_is) c.in-Ok.ensures.admits.3)

pub of_compact-requires : goal.of_compact-requires
of_compact-requires c =
    let d = call_of c.args.call.now in
    let fits : Fits (end_of c.self.inside) d = subst (λ (s : TheEnd). Fits s d) (sym c.self.view_is) c.in-Ok.ensures.admits.0 in
    record { sends = subst (λ (msg : ℕ). SendsAs (program_in c.self.inside).interface d msg) (sym c.msg.ensures.msg) (record { fits = fits; fits_so = fits; types = refl }) }
