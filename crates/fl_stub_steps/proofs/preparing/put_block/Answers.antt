use Rattle.fl_stub_steps.proofs.Stacks.{begins}
use Rattle.fl_stub_steps.proofs.preparing.put_block.Goals as goal

pub returns : goal.returns
returns c = λ blocks o. begins c.args.stack.now.items c.push.new.self.items c.new.result blocks c.new.ensures.items c.in_ok-push.ensures.items o
