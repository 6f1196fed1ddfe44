use Rattle.std.proofs.Common.{◌≡◌, ap, sym}
use Rattle.fl_link.specs.Queue.{TheQueue}
use Rattle.fl_link.proofs.Firsts.{first_begins}
use Rattle.fl_link.proofs.queue.QueueLink.peek.Goals as goal

pub returns-in-Some-2-clause-whole : goal.returns-in-Some-2-clause-whole
returns-in-Some-2-clause-whole c frag e =
    let same : c.in-Some.frag.now ≡ frag = cc in
    let item = c.in-Some.ensures.item in
    first_begins c.self.inside.items.items c.args.self.now.items c.in-Some.frag.now frag (ap (λ (q : TheQueue). q.items) (sym c.self.view_is)) same item.3.0 item.3.1
