use Rattle.std.proofs.Common.{false, ◌∙◌, ap, List, ◌++◌, ◌∷◌, []}
use Rattle.fl_core.specs.declared.wiring.LinkSide.{LinkSide}
use Rattle.fl_core.proofs.Making.{linked_is}
use Rattle.fl_core.proofs.one_core.Core.add_link.Goals as goal

pub returns-clause-linked : goal.returns-clause-linked
returns-clause-linked c = linked_is c.args.self.now _ c.self.view_is c.add_link.new.self c.push_reserved.new.self.items c.args.neighbour c.args.side c.in_ok-link.ensures.circuits c.in_ok-link.ensures.outboxes (c.push_reserved.ensures.items ∙ ap (λ (ls : List LinkSide). ls ++ record { side = c.args.side; failed = false } ∷ []) c.in_ok-reserve.ensures.items)
