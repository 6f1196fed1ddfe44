use Rattle.std.proofs.Common.{◌≡◌, ℕ, true, false, Option, Some, refl, sym, ap, subst, ◌∙◌}
use Rattle.std.specs.Prelude.{IsSome}
use Rattle.std.specs.Option.{option_map}
use Rattle.fl_value_data.specs.Value.{call_of}
use Rattle.fl_value_data.specs.Fits.{fits_of}
use Rattle.fl_endpoint.specs.View.{TheEnd, interface_in, holds_back, queued_if, with_handled}
use Rattle.fl_endpoint.specs.Stored.{queued_frags, outgoing_of}
use Rattle.fl_endpoint.specs.Inside.{program_in, end_of}
use Rattle.fl_endpoint.proofs.Sounds.{sound_handled}
use Rattle.fl_endpoint.proofs.Insides.{handled_end, handled_is_end, kept_end, kept_is_end, room_for}
use Rattle.fl_endpoint.proofs.end.End.handle_with_reply.Goals as goal

pub accept-requires-clause-few : goal.accept-requires-clause-few
accept-requires-clause-few c =
    let e = c.self.inside in
    let held : holds_back (end_of e) ≡ false = ap (λ (s : TheEnd). holds_back s) c.self.view_is ∙ c.requires.takes in
    room_for (program_in e) 0 e (call_of c.args.call) c.in-Ok.reply c.in-Ok.ensures.reply held c.self.invariant.sound

pub invariant_of-self : goal.invariant_of-self
invariant_of-self c =
    let e = c.self.inside in
    let k = c.args.circuit.0 in
    let bound : (end_of e).circuit ≡ Some k = ap (λ (s : TheEnd). s.circuit) c.self.view_is ∙ c.requires.bound in
    let kept : outgoing_of (program_in e) k c.accept.new.self ≡ outgoing_of (program_in e) k e.outgoing = c.in_default.ensures.kept in
    kept_is_end e c.accept.new.self c.accept.ensures.outgoing (kept_end e c.accept.new.self k bound kept) c.self.invariant.sound

pub returns-in_default : goal.returns-in_default
returns-in_default c =
    let e = c.self.inside in
    let k = c.args.circuit.0 in
    let bound : (end_of e).circuit ≡ Some k = ap (λ (s : TheEnd). s.circuit) c.self.view_is ∙ c.requires.bound in
    let kept : outgoing_of (program_in e) k c.accept.new.self ≡ outgoing_of (program_in e) k e.outgoing = c.in_default.ensures.kept in
    record { handles = kept_end e c.accept.new.self k bound kept ∙ c.self.view_is }

pub invariant_of-self-in-Ok : goal.invariant_of-self-in-Ok
invariant_of-self-in-Ok c =
    let e = c.self.inside in
    let d = call_of c.args.call in
    let k = c.args.circuit.0 in
    let bound : (end_of e).circuit ≡ Some k = ap (λ (s : TheEnd). s.circuit) c.self.view_is ∙ c.requires.bound in
    let some : IsSome (end_of e).circuit = subst (λ (o : Option ℕ). IsSome o) (sym bound) refl in
    let held : holds_back (end_of e) ≡ false = ap (λ (s : TheEnd). holds_back s) c.self.view_is ∙ c.requires.takes in
    let fits : fits_of (program_in e).interface d ≡ true = subst (λ (s : TheEnd). fits_of (interface_in s) d ≡ true) (sym c.self.view_is) c.requires.fits in
    let out : outgoing_of (program_in e) k c.accept.new.self ≡ queued_if (outgoing_of (program_in e) k e.outgoing) (option_map (queued_frags (program_in e) k) c.in-Ok.reply)
    = c.in-Ok-accept.ensures.accepted in
    let outgoing = c.accept.ensures.outgoing in
    handled_is_end e c.accept.new.self d outgoing
    (handled_end e c.accept.new.self d c.in-Ok.reply k bound c.in-Ok.ensures.reply out)
    (sound_handled (end_of e) d some fits held c.self.invariant.sound)

pub returns-in-Ok-accept : goal.returns-in-Ok-accept
returns-in-Ok-accept c =
    let e = c.self.inside in
    let d = call_of c.args.call in
    let k = c.args.circuit.0 in
    let bound : (end_of e).circuit ≡ Some k = ap (λ (s : TheEnd). s.circuit) c.self.view_is ∙ c.requires.bound in
    let out : outgoing_of (program_in e) k c.accept.new.self ≡ queued_if (outgoing_of (program_in e) k e.outgoing) (option_map (queued_frags (program_in e) k) c.in-Ok.reply)
    = c.in-Ok-accept.ensures.accepted in
    record {
      handles = (
        refl,
        handled_end e c.accept.new.self d c.in-Ok.reply k bound c.in-Ok.ensures.reply out ∙ ap (λ (s : TheEnd). with_handled s d) c.self.view_is,
      );
    }
