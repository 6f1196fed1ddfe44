use Rattle.std.proofs.Common.{◌≡◌, ℕ, ◌+◌, List, length, Option, Some, sym, ap, subst, ◌∙◌, arith, rules}
use Rattle.std.specs.Global.{Vec}
use Rattle.fl_base.specs.declared.fragment.Frag.{Frag}
use Rattle.fl_wire.specs.Payload.{frag_on}
use Rattle.fl_endpoint.specs.Stored.{frags_behind, AreOwn, IsSending}
use Rattle.fl_endpoint.proofs.Outgoings.{from_next_on}
use Rattle.fl_endpoint.proofs.outgoing.SendingCall.advance_in.Goals as goal

pub returns-clause-frags : goal.returns-clause-frags
returns-clause-frags c = λ done.
    let s = c.args.self.now in
    let kept : c.args.payload.now ≡ Some c.in-Some.bytes = search rules in
    let sending : IsSending s (Some c.in-Some.bytes) = subst (λ (o : Option (Vec ℕ)). IsSending s o) kept (record { own = c.requires.own; counted = c.requires.counted }) in
    from_next_on s c.in-Some.bytes c.fragment_on-self.result sending c.if-self.false
    (c.fragment_on-self.ensures.frag ∙ ap (λ (bytes : List ℕ). frag_on s.circuit.0 s.msg.0 bytes (s.written + 1)) c.deref.ensures.value)
    ∙ ap (frags_behind s) (sym kept)

pub returns-clause-more : goal.returns-clause-more
returns-clause-more c = λ done.
    let frags = returns-clause-frags c done in
    let long = ap length frags in
    let counted = c.requires.counted in
    record {
      own = subst (λ (xs : List Frag). AreOwn xs) (sym frags) c.requires.own.1;
      counted = omega (arith, long, counted);
    }
