use Rattle.std.proofs.Common.{◌≡◌, ℕ, ◌∷◌, drop, Option, Some, refl, sym, ap, subst, ◌∙◌, rules}
use Rattle.std.specs.Prelude.{IsSome}
use Rattle.fl_base.specs.declared.fragment.Frag.{Frag}
use Rattle.fl_link.specs.Looks.{placed}
use Rattle.fl_endpoint.specs.View.{TheEnd, wrote, with_written}
use Rattle.fl_endpoint.specs.Accounts.{Sound}
use Rattle.fl_endpoint.specs.Stored.{outgoing_of}
use Rattle.fl_endpoint.specs.Inside.{program_in, end_of}
use Rattle.fl_endpoint.proofs.Outgoings.{none_first, first_and_rest, not_none}
use Rattle.fl_endpoint.proofs.Sounds.{sound_written}
use Rattle.fl_endpoint.proofs.Insides.{written_end, busy_sending}
use Rattle.fl_endpoint.proofs.end.End.write.Goals as goal

pub returns-in_default : goal.returns-in_default
returns-in_default g c = record { writes = ((search rules, search rules), none_first c.args.self.now.outgoing.unwritten (sym c.in_default.ensures.next), refl, refl); program = refl }

pub put-requires : goal.put-requires
put-requires g c = record { «data» = c.in-Some.ensures.own.data_is }

pub mark_written-number-requires-clause-busy : goal.mark_written-number-requires-clause-busy
mark_written-number-requires-clause-busy g c =
    let e = c.self.inside in
    let now = first_and_rest c.args.self.now.outgoing.unwritten c.in-Some.frag (sym c.in-Some.ensures.next) in
    let is : (end_of e).outgoing.unwritten ≡ c.in-Some.frag ∷ drop 1 c.args.self.now.outgoing.unwritten = ap (λ (s : TheEnd). s.outgoing.unwritten) c.self.view_is ∙ now in
    busy_sending e.outgoing.sending e.outgoing.payload c.in-Some.frag (drop 1 c.args.self.now.outgoing.unwritten) is

pub returns-in-Err-Full : goal.returns-in-Err-Full
returns-in-Err-Full g c = record { writes = ((search rules, search rules), not_none c.args.self.now.outgoing.unwritten c.in-Some.frag (sym c.in-Some.ensures.next), search rules, refl); program = refl }

pub returns-in-Err-Spent : goal.returns-in-Err-Spent
returns-in-Err-Spent g c = record { writes = ((search rules, search rules), not_none c.args.self.now.outgoing.unwritten c.in-Some.frag (sym c.in-Some.ensures.next), search rules, refl); program = refl }

pub invariant_of-self : goal.invariant_of-self
invariant_of-self g c =
    let e = c.self.inside in
    let k = c.in-Ok.circuit.0 in
    let f = c.in-Some.frag in
    let rest = drop 1 c.args.self.now.outgoing.unwritten in
    let view : end_of e ≡ c.args.self.now = c.self.view_is in
    let bound : (end_of e).circuit ≡ Some k = ap (λ (s : TheEnd). s.circuit) view ∙ c.in-Ok.ensures.ready.0 in
    let is : (end_of e).outgoing.unwritten ≡ f ∷ rest = ap (λ (s : TheEnd). s.outgoing.unwritten) view ∙ first_and_rest c.args.self.now.outgoing.unwritten f (sym c.in-Some.ensures.next) in
    let here : (outgoing_of (program_in e) k e.outgoing).unwritten ≡ f ∷ rest = is in
    let wrote_is = c.mark_written-number.ensures.wrote in
    let out : outgoing_of (program_in e) k c.mark_written-number.new.self ≡ wrote rest (outgoing_of (program_in e) k e.outgoing) = wrote_is f rest here in
    let some : IsSome (end_of e).circuit = subst (λ (o : Option ℕ). IsSome o) (sym bound) refl in
    record {
      outgoing = c.mark_written-number.ensures.outgoing;
      sound = subst (λ (s : TheEnd). Sound s) (sym (written_end e c.mark_written-number.new.self rest k bound out)) (sound_written (end_of e) f rest c.self.invariant.sound some is);
    }

pub returns-in-Ok-put : goal.returns-in-Ok-put
returns-in-Ok-put g c =
    let e = c.self.inside in
    let k = c.in-Ok.circuit.0 in
    let f = c.in-Some.frag in
    let rest = drop 1 c.args.self.now.outgoing.unwritten in
    let view : end_of e ≡ c.args.self.now = c.self.view_is in
    let bound : (end_of e).circuit ≡ Some k = ap (λ (s : TheEnd). s.circuit) view ∙ c.in-Ok.ensures.ready.0 in
    let now : c.args.self.now.outgoing.unwritten ≡ f ∷ rest = first_and_rest c.args.self.now.outgoing.unwritten f (sym c.in-Some.ensures.next) in
    let is : (end_of e).outgoing.unwritten ≡ f ∷ rest = ap (λ (s : TheEnd). s.outgoing.unwritten) view ∙ now in
    let here : (outgoing_of (program_in e) k e.outgoing).unwritten ≡ f ∷ rest = is in
    let wrote_is = c.mark_written-number.ensures.wrote in
    let out : outgoing_of (program_in e) k c.mark_written-number.new.self ≡ wrote rest (outgoing_of (program_in e) k e.outgoing) = wrote_is f rest here in
    let number_is = c.mark_written-number.ensures.number in
    let count : c.mark_written-number.result.1 ≡ c.args.self.now.outgoing.count = c.mark_written-number.ensures.count ∙ ap (λ (s : TheEnd). s.outgoing.count) view in
    let after = written_end e c.mark_written-number.new.self rest k bound out ∙ ap (λ (s : TheEnd). with_written s rest) view in
    let placed_is : g.P.PutSide.puts c.args.out.now (placed f) c.put.new.self = subst (λ (x : Frag). g.P.PutSide.puts c.args.out.now (placed x) c.put.new.self) c.in-Some.ensures.own.bare_is (search rules) in
    record {
      writes = (
        (search rules, search rules),
        (f, rest, now, count, number_is f rest here, placed_is, after),
      );
      program = ap (λ (s : TheEnd). s.program) after;
    }
