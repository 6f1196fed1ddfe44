use Rattle.fl_stub.specs.Structure.{times}
use Rattle.fl_stub_steps.proofs.Stacks.{closes_two, times_put}
use Rattle.fl_stub_steps.proofs.preparing.close_times.Goals as goal

pub returns : goal.returns
returns c = λ blocks o.
    closes_two c.args.stack.now.items c.pop.new.self.items c.pop-2.new.self.items c.push.new.self.items c.in-Some.body c.in-Some-pop.outer c.put_times.new.steps
    (times c.args.turns) blocks c.in-Some.ensures.items c.in-Some-pop.ensures.items c.in_ok-push.ensures.items
    (times_put c.in-Some.body.items c.in-Some-pop.outer.items c.put_times.new.steps.items c.args.turns c.in_ok-put_times.ensures) o
