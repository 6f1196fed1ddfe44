use Rattle.std.proofs.Common.{true, refl, sym, ap, subst, ◌∙◌}
use Rattle.slab.specs.Slab.{with_value}
use Rattle.fl_hop.specs.declared.entry.Hop.{Hop}
use Rattle.fl_hop.specs.declared.entry.HopTarget.{HopTarget}
use Rattle.fl_hop.specs.Table.{TheCircuits, with_entry}
use Rattle.fl_hop.specs.Openings.{answered}
use Rattle.fl_hop.specs.Later.{Later}
use Rattle.fl_hop.specs.Slots.{table_of, SlotsKept}
use Rattle.fl_hop.proofs.Cells.{AtServer}
use Rattle.fl_hop.proofs.Answering.{answered_entry, answered_updates, kept_answered, view_answered, later_answered, at_server, server_way, waits, waits_not, with_same}
use Rattle.fl_hop.proofs.circuits.Circuits.answer.Goals as goal

pub returns-in_default : goal.returns-in_default
returns-in_default c = record {
  waited = tt;
  answered = tt;
  later = tt;
  misrouted = λ hop w. waits_not c.self.inside.core.0 c.self.inside.links.items c.self.inside.cells.items c.self.inside.entries c.self.invariant c.args.self.now c.self.view_is c.args.link.0 c.args.circuit.0 hop c.as_slice.result.now c.cell_at.result c.as_slice.ensures.value c.cell_at.ensures c.in_default.not-ServerSide w;
  refused = refl;
  kept = refl;
}

pub invariant_of-self-then-hop : goal.invariant_of-self-then-hop
invariant_of-self-then-hop c =
    subst (SlotsKept c.self.inside.core.0 c.self.inside.links.items c.self.inside.cells.items) (sym (with_same c.self.inside.entries c.in-ServerSide.key c.in-Some.entry.now (sym c.in-Some.ensures.value))) c.self.invariant

pub returns-then-hop-clause-kept : goal.returns-then-hop-clause-kept
returns-then-hop-clause-kept c =
    ap (table_of c.self.inside.core.0 c.self.inside.links.items c.self.inside.cells.items) (with_same c.self.inside.entries c.in-ServerSide.key c.in-Some.entry.now (sym c.in-Some.ensures.value)) ∙ c.self.view_is

pub invariant_of-self-2 : goal.invariant_of-self-2
invariant_of-self-2 c = kept_answered c.self.inside.core.0 c.self.inside.links.items c.self.inside.cells.items c.self.inside.entries c.self.invariant c.in-ServerSide.key c.in-Some.entry.now (sym c.in-Some.ensures.value) (with_value c.self.inside.entries c.in-ServerSide.key (answered_entry c.in-Some.entry.now)) (answered_updates c.self.inside.entries c.in-ServerSide.key c.in-Some.entry.now (sym c.in-Some.ensures.value))

pub returns-clause-waited : goal.returns-clause-waited
returns-clause-waited c =
    let f : Hop → Type 0 = λ h. AtServer c.self.inside.cells.items c.self.inside.entries c.args.link.0 c.args.circuit.0 h in
    waits c.self.inside.core.0 c.self.inside.links.items c.self.inside.cells.items c.self.inside.entries c.self.invariant c.args.self.now c.self.view_is c.args.link.0 c.args.circuit.0 c.from_server-hop.result
    (subst f (sym c.from_server-hop.ensures) (at_server c.self.inside.core.0 c.self.inside.links.items c.self.inside.cells.items c.self.inside.entries c.self.invariant c.args.link.0 c.args.circuit.0 c.in-ServerSide.key c.in-Some.entry.now c.as_slice.result.now c.cell_at.result c.as_slice.ensures.value c.cell_at.ensures c.in-ServerSide.is (sym c.in-Some.ensures.value))) c.if-hop.false

pub returns-clause-answered : goal.returns-clause-answered
returns-clause-answered c =
    let t = table_of c.self.inside.core.0 c.self.inside.links.items c.self.inside.cells.items c.self.inside.entries in
    let b = c.in-Some.entry.now.binding in
    let client : HopTarget = c.in-Some.entry.now.client in
    let to : Hop → TheCircuits = λ h. answered t c.args.link c.args.circuit h in
    view_answered c.self.inside.core.0 c.self.inside.links.items c.self.inside.cells.items c.self.inside.entries c.self.invariant c.in-ServerSide.key c.in-Some.entry.now (sym c.in-Some.ensures.value) (with_value c.self.inside.entries c.in-ServerSide.key (answered_entry c.in-Some.entry.now)) (answered_updates c.self.inside.entries c.in-ServerSide.key c.in-Some.entry.now (sym c.in-Some.ensures.value))
    ∙ ap (λ w. with_entry t b true client w) (server_way c.self.inside.core.0 c.self.inside.links.items c.self.inside.cells.items c.self.inside.entries c.self.invariant c.args.link c.args.circuit c.in-ServerSide.key c.in-Some.entry.now c.as_slice.result.now c.cell_at.result c.as_slice.ensures.value c.cell_at.ensures c.in-ServerSide.is (sym c.in-Some.ensures.value))
    ∙ ap to (sym c.from_server-hop.ensures)
    ∙ ap (λ v. answered v c.args.link c.args.circuit c.from_server-hop.result) c.self.view_is

pub returns-clause-later : goal.returns-clause-later
returns-clause-later c =
    subst (λ t. Later t (table_of c.self.inside.core.0 c.self.inside.links.items c.self.inside.cells.items (with_value c.self.inside.entries c.in-ServerSide.key (answered_entry c.in-Some.entry.now)))) c.self.view_is
    (later_answered c.self.inside.core.0 c.self.inside.links.items c.self.inside.cells.items c.self.inside.entries c.self.invariant c.in-ServerSide.key c.in-Some.entry.now (sym c.in-Some.ensures.value) (with_value c.self.inside.entries c.in-ServerSide.key (answered_entry c.in-Some.entry.now)) (answered_updates c.self.inside.entries c.in-ServerSide.key c.in-Some.entry.now (sym c.in-Some.ensures.value)))
