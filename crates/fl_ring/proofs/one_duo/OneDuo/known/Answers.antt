use Rattle.std.proofs.Common.{subst, rules}
use Rattle.fl_ring.specs.Duo.{TheDuo, CountsAreNear}
use Rattle.fl_ring.proofs.DuoViews.{counts_near}
use Rattle.fl_ring.proofs.DuoSteps.{turned}
use Rattle.fl_ring.proofs.one_duo.OneDuo.known.Goals as goal

pub returns-in-One-clause-near : goal.returns-in-One-clause-near
returns-in-One-clause-near c =
    let i = c.self.inside in
    rw c.in-One.is (subst (λ (d : TheDuo). CountsAreNear d.size d.one d.two) c.self.view_is (counts_near i.one.put.size i.words.items i.one i.two c.self.invariant.1))

pub returns-in-Two-clause-near : goal.returns-in-Two-clause-near
returns-in-Two-clause-near c =
    let i = c.self.inside in
    rw c.in-Two.is (subst (λ (d : TheDuo). CountsAreNear d.size d.two d.one) c.self.view_is (counts_near i.one.put.size i.words.items i.two i.one (turned i.one.put.size i.words.items i.one i.two c.self.invariant.1)))

pub returns-in-One-clause-known : goal.returns-in-One-clause-known
returns-in-One-clause-known c = search rules
