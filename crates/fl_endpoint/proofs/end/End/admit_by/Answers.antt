use Rattle.std.proofs.Common.{◌≡◌, true, false, sym, ◌∙◌, rules}
use Rattle.fl_endpoint.specs.View.{are_some}
use Rattle.fl_endpoint.proofs.Outgoings.{some_are, none_are}
use Rattle.fl_endpoint.proofs.end.End.admit_by.Goals as goal

pub returns-then-is_busy : goal.returns-then-is_busy
returns-then-is_busy c =
    let busy : are_some c.args.self.now.outgoing.unwritten ≡ true = sym c.is_busy.ensures.busy ∙ c.if-is_busy.true in
    record { admits = (search rules, (search rules, search rules), some_are c.args.self.now.outgoing.unwritten busy) }

pub returns : goal.returns
returns c =
    let idle : are_some c.args.self.now.outgoing.unwritten ≡ false = sym c.is_busy.ensures.busy ∙ c.if-is_busy.false in
    record { admits = (search rules, search rules, search rules, none_are c.args.self.now.outgoing.unwritten idle) }
