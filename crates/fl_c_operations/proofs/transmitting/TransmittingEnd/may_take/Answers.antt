use Rattle.std.proofs.Common.{sym, subst, arith}
use Rattle.std.proofs.lemmas.Bool.{ltb-true}
use Rattle.fl_endpoint.specs.View.{TheEnd}
use Rattle.fl_endpoint.specs.Events.{IsOpen}
use Rattle.fl_c_operations.proofs.Refused.{bound}
use Rattle.fl_c_operations.proofs.Transmissions.{opens}
use Rattle.fl_c_operations.proofs.transmitting.TransmittingEnd.may_take.Goals as goal

pub returns : goal.returns
returns c =
    let h = c.self.inside in
    record {
      opened = λ few. subst (λ (s : TheEnd). IsOpen s) c.self.view_is
          (opens h.in_transmission h.end (bound h.end.circuit c.if-not-is_bound.ensures.bound, sym c.if-is_failed.ensures.failed)
          (omega (arith, ltb-true c.replies_waiting.result 15 few, c.replies_waiting.ensures.waiting)));
    }
