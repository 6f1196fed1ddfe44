use Rattle.std.proofs.Common.{refl, sym, ap, subst, ◌∙◌, false}
use Rattle.fl_base.specs.declared.identity.Side.TheVariants.{Server}
use Rattle.fl_hop.specs.declared.entry.Entry.{Entry}
use Rattle.fl_hop.specs.declared.entry.HopTarget.TheVariants.{Link, End}
use Rattle.fl_hop.specs.Numbers.{count_taking}
use Rattle.fl_hop.specs.Openings.{arrived}
use Rattle.fl_hop.specs.Later.{Later}
use Rattle.fl_hop.specs.Slots.{table_of, SlotsKept}
use Rattle.fl_hop.proofs.Lists.{within}
use Rattle.fl_hop.proofs.Counting.{Due, due_few, kept_taking, grown_taking, taken_now}
use Rattle.fl_hop.proofs.Laters.{due_at, due_fresh, none_stands}
use Rattle.fl_hop.proofs.Opening.{Opened, opened_so, same_slots}
use Rattle.fl_hop.proofs.circuits.Circuits.arrive.Goals as goal

due : (c : goal.After-count_taking-arg-1) → Due c.self.inside.core.0 c.self.inside.links.items c.args.link.0 c.args.circuit.0
due c = due_at c.self.inside.core.0 c.self.inside.links.items c.self.inside.cells.items c.self.inside.entries c.args.self.now c.self.view_is c.args.link.0 c.args.circuit.0 c.is_next.result c.is_next.ensures.next c.if-not-is_next.false

pub count_taking-requires-clause-there : goal.count_taking-requires-clause-there
count_taking-requires-clause-there c = let d = due c in within c.self.inside.links.items c.args.link.0 d.link d.there

pub count_taking-requires-clause-few : goal.count_taking-requires-clause-few
count_taking-requires-clause-few c = due_few c.self.inside.core.0 c.self.inside.links.items c.args.link.0 c.args.circuit.0 (due c)

pub invariant_of-self : goal.invariant_of-self
invariant_of-self c = (same_slots c.self.inside.core.0 c.self.inside.links.items c.self.inside.cells.items c.enter.new.cells.items c.self.inside.entries c.enter.new.entries c.self.invariant c.in_default.ensures.cells c.in_default.ensures.entries).0

entry : (c : goal.After-count_taking) → Entry
entry c = record { binding = c.args.binding; client = Link c.args.link c.args.circuit; server = End (record { binding = c.args.binding; side = Server }); answered = false }

so : (c : goal.After-count_taking) → Opened c.self.inside.core.0 c.self.inside.links.items (count_taking c.self.inside.links.items c.args.link.0) c.self.inside.cells.items c.self.inside.entries (entry c) c.enter.new.cells.items c.enter.new.entries
unfolding entry
so c =
    let k = c.self.invariant in
    let d = due_at c.self.inside.core.0 c.self.inside.links.items c.self.inside.cells.items c.self.inside.entries c.args.self.now c.self.view_is c.args.link.0 c.args.circuit.0 c.is_next.result c.is_next.ensures.next c.if-not-is_next.false in
    opened_so c.self.inside.core.0 c.self.inside.links.items (count_taking c.self.inside.links.items c.args.link.0) c.self.inside.cells.items c.self.inside.entries (entry c) c.enter.new.cells.items c.enter.new.entries
    k
    (kept_taking c.self.inside.core.0 c.self.inside.links.items c.self.inside.cells.items c.self.inside.entries k c.args.link.0 c.args.circuit.0 d)
    (grown_taking c.self.inside.core.0 c.self.inside.links.items c.self.inside.cells.items c.self.inside.entries k c.args.link.0 c.args.circuit.0 d)
    c.in-Ok.ensures.entered
    (due_fresh c.self.inside.core.0 c.self.inside.links.items c.self.inside.cells.items c.self.inside.entries k c.args.link c.args.circuit d)
    tt
    tt
    (taken_now c.self.inside.core.0 c.self.inside.links.items c.self.inside.cells.items c.self.inside.entries k c.args.link.0 c.args.circuit.0 d)
    refl
    (none_stands (table_of c.self.inside.core.0 c.self.inside.links.items c.self.inside.cells.items c.self.inside.entries) c.args.self.now c.self.view_is c.args.binding c.stands.result c.stands.ensures.stands c.if-stands.false)

pub invariant_of-self-2 : goal.invariant_of-self-2
unfolding entry
invariant_of-self-2 c =
    let x = so c in
    subst (λ v. SlotsKept c.self.inside.core.0 v c.enter.new.cells.items c.enter.new.entries) (sym c.count_taking.ensures) x.kept

pub returns-clause-arrived : goal.returns-clause-arrived
unfolding entry
returns-clause-arrived c =
    let x = so c in
    ap (λ v. table_of c.self.inside.core.0 v c.enter.new.cells.items c.enter.new.entries) c.count_taking.ensures
    ∙ x.view
    ∙ ap (λ t. arrived t c.args.link c.args.circuit c.args.binding) c.self.view_is

pub returns-clause-later : goal.returns-clause-later
unfolding entry
returns-clause-later c =
    let x = so c in
    subst (λ t. Later t (table_of c.self.inside.core.0 c.count_taking.new.links.items c.enter.new.cells.items c.enter.new.entries)) c.self.view_is
    (subst (λ v. Later (table_of c.self.inside.core.0 c.self.inside.links.items c.self.inside.cells.items c.self.inside.entries) (table_of c.self.inside.core.0 v c.enter.new.cells.items c.enter.new.entries)) (sym c.count_taking.ensures)
    x.later)
