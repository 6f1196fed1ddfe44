use Rattle.std.proofs.Common.{Option, sym, ap, subst, ◌∙◌}
use Rattle.std.specs.Prelude.{slice_get, IfSome}
use Rattle.fl_base.specs.declared.fragment.Frag.{Frag}
use Rattle.fl_endpoint.specs.View.{TheEnd, number_or_0}
use Rattle.fl_endpoint.specs.Stored.{IsOwn}
use Rattle.fl_endpoint.specs.Inside.{circuit_of, program_in}
use Rattle.fl_endpoint.proofs.Insides.{next_own}
use Rattle.fl_endpoint.proofs.end.End.next.Goals as goal

pub returns : goal.returns
returns c =
    let e = c.self.inside in
    let k = number_or_0 (circuit_of e.circuit) in
    record {
      next = c.next.ensures.next (program_in e) k ∙ ap (λ (s : TheEnd). slice_get s.outgoing.unwritten 0) c.self.view_is;
      own = subst (λ (o : Option Frag). IfSome o IsOwn) (sym (c.next.ensures.next (program_in e) k)) (next_own e.outgoing.sending e.outgoing.payload e.outgoing.waiting.items c.self.invariant.outgoing.now);
    }
