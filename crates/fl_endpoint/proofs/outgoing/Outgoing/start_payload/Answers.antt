use Rattle.std.proofs.Common.{◌≡◌, ℕ, ◌+◌, List, length, sym, ap, subst, ◌∙◌, arith, rules}
use Rattle.fl_base.specs.declared.fragment.Frag.{Frag}
use Rattle.fl_layout.specs.Places.{count_for}
use Rattle.fl_wire.specs.Payload.{frag_on}
use Rattle.fl_endpoint.specs.Stored.{AreOwn}
use Rattle.fl_endpoint.proofs.Outgoings.{own_frags, length_payload_frags, from_first_on}
use Rattle.fl_endpoint.proofs.outgoing.Outgoing.start_payload.Goals as goal

pub returns-clause-frags : goal.returns-clause-frags
returns-clause-frags c =
    from_first_on c.args.msg.0 c.args.circuit.0 c.args.payload.items c.fragment_on.result
    (c.fragment_on.ensures.frag ∙ ap (λ (bytes : List ℕ). frag_on c.args.circuit.0 c.args.msg.0 bytes 0) c.deref.ensures.value)

pub returns-clause-count : goal.returns-clause-count
returns-clause-count c =
    let counted : c.fragment_count.result ≡ count_for (length c.args.payload.items) = search rules in
    counted ∙ sym (length_payload_frags c.args.msg.0 c.args.circuit.0 c.args.payload.items)

zero_more : (n : ℕ) → 0 + n ≡ n
zero_more n = omega arith

pub returns-clause-now : goal.returns-clause-now
returns-clause-now c = λ waiting.
    let all = returns-clause-frags c in
    record {
      own = subst (λ (xs : List Frag). AreOwn xs) (sym all) (own_frags c.args.msg.0 c.args.circuit.0 c.args.payload.items (search rules) (search rules));
      counted = zero_more _ ∙ ap length all ∙ sym (returns-clause-count c);
    }
