use Rattle.fl_stub.specs.Structure.{counted}
use Rattle.fl_stub_steps.proofs.Stacks.{closes_two, counted_put}
use Rattle.fl_stub_steps.proofs.preparing.close_counted.Goals as goal

pub returns : goal.returns
returns c = λ blocks most o.
    closes_two c.args.stack.now.items c.pop.new.self.items c.pop-2.new.self.items c.push.new.self.items c.in-Some.body c.in-Some-pop.outer c.put_counted.new.steps
    (counted most) blocks c.in-Some.ensures.items c.in-Some-pop.ensures.items c.in_ok-push.ensures.items
    (counted_put c.in-Some.body.items c.in-Some-pop.outer.items c.put_counted.new.steps.items most c.in_ok-put_counted.ensures) o
