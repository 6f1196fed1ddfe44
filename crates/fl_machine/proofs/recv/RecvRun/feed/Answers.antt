use Rattle.std.proofs.Common.{◌∷◌, ◌++◌, [], subst}
use Rattle.std.specs.Prelude.{IfOk}
use Rattle.fl_wire.specs.Reading.{IsWrong}
use Rattle.fl_machine.specs.Receiving.{TheReceiving, plan_in, interface_in}
use Rattle.fl_machine.proofs.Feeding.{right_of}
use Rattle.fl_machine.proofs.recv.RecvRun.feed.Goals as goal

pub returns-clause-right : goal.returns-clause-right
returns-clause-right c =
    subst (λ (s : TheReceiving). IfOk c.feed.result (λ fed. IsWrong (plan_in s) (interface_in s) (s.parts ++ c.args.frag.now ∷ []) → ⊥)) c.self.view_is
    (right_of _ c.args.frag.now c.feed.result _ c.feed.ensures.feeds)
