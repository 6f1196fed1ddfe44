use Rattle.std.proofs.Common.{sym, ap, subst, ◌∙◌}
use Rattle.fl_hop.specs.Numbers.{after_taking}
use Rattle.fl_hop.specs.Later.{Later}
use Rattle.fl_hop.specs.Slots.{table_of, SlotsKept}
use Rattle.fl_hop.proofs.Lists.{within}
use Rattle.fl_hop.proofs.Counting.{Due, due_few, kept_taking, grown_taking}
use Rattle.fl_hop.proofs.Laters.{due_at, later_links}
use Rattle.fl_hop.proofs.circuits.Circuits.refuse.Goals as goal

due : (c : goal.After-count_taking-arg-1) → Due c.self.inside.core.0 c.self.inside.links.items c.args.link.0 c.args.circuit.0
due c = due_at c.self.inside.core.0 c.self.inside.links.items c.self.inside.cells.items c.self.inside.entries c.args.self.now c.self.view_is c.args.link.0 c.args.circuit.0 c.is_next.result c.is_next.ensures.next c.if-not-is_next.false

pub count_taking-requires-clause-there : goal.count_taking-requires-clause-there
count_taking-requires-clause-there c = let d = due c in within c.self.inside.links.items c.args.link.0 d.link d.there

pub count_taking-requires-clause-few : goal.count_taking-requires-clause-few
count_taking-requires-clause-few c = due_few c.self.inside.core.0 c.self.inside.links.items c.args.link.0 c.args.circuit.0 (due c)

after : (c : goal.After-count_taking) → Due c.self.inside.core.0 c.self.inside.links.items c.args.link.0 c.args.circuit.0
after c = due_at c.self.inside.core.0 c.self.inside.links.items c.self.inside.cells.items c.self.inside.entries c.args.self.now c.self.view_is c.args.link.0 c.args.circuit.0 c.is_next.result c.is_next.ensures.next c.if-not-is_next.false

pub invariant_of-self : goal.invariant_of-self
invariant_of-self c =
    subst (λ v. SlotsKept c.self.inside.core.0 v c.self.inside.cells.items c.self.inside.entries) (sym c.count_taking.ensures)
    (kept_taking c.self.inside.core.0 c.self.inside.links.items c.self.inside.cells.items c.self.inside.entries c.self.invariant c.args.link.0 c.args.circuit.0 (after c))

pub returns-clause-counted : goal.returns-clause-counted
returns-clause-counted c =
    ap (λ v. table_of c.self.inside.core.0 v c.self.inside.cells.items c.self.inside.entries) c.count_taking.ensures
    ∙ ap (λ t. after_taking t c.args.link.0) c.self.view_is

pub returns-clause-later : goal.returns-clause-later
returns-clause-later c =
    let g = grown_taking c.self.inside.core.0 c.self.inside.links.items c.self.inside.cells.items c.self.inside.entries c.self.invariant c.args.link.0 c.args.circuit.0 (after c) in
    subst (λ t. Later t (table_of c.self.inside.core.0 c.count_taking.new.links.items c.self.inside.cells.items c.self.inside.entries)) c.self.view_is
    (subst (λ v. Later (table_of c.self.inside.core.0 c.self.inside.links.items c.self.inside.cells.items c.self.inside.entries) (table_of c.self.inside.core.0 v c.self.inside.cells.items c.self.inside.entries)) (sym c.count_taking.ensures)
    (later_links c.self.inside.core.0 c.self.inside.links.items _ c.self.inside.cells.items c.self.inside.entries g))
