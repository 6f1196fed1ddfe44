use Rattle.fl_stub_steps.proofs.Stacks.{inside_some}
use Rattle.fl_stub_steps.proofs.preparing.put_inside.Goals as goal

pub returns : goal.returns
returns c = λ blocks o.
    inside_some c.args.stack.now.items c.pop.new.self.items c.push.new.self.items c.in-Some.inner c.put_move.new.steps c.args.op blocks
    c.in-Some.ensures.items c.in_ok-push.ensures.items c.in_ok-put_move.ensures o
