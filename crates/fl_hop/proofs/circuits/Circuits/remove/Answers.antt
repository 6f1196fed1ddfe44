use Rattle.std.proofs.Common.{◌≡◌, sym, ap, ◌∙◌, subst, refl, Option, Some, option_map}
use Rattle.fl_hop.specs.declared.entry.Cell.TheVariants.{Free, ClientSide, ServerSide}
use Rattle.fl_hop.specs.declared.entry.Entry.{Entry}
use Rattle.fl_hop.specs.declared.entry.Hop.{Hop}
use Rattle.fl_hop.specs.declared.entry.HopTarget.{HopTarget}
use Rattle.fl_hop.specs.declared.entry.HopTarget.TheVariants.{Link}
use Rattle.fl_hop.specs.Table.{without_entry}
use Rattle.fl_hop.specs.Later.{Later}
use Rattle.fl_hop.specs.Slots.{table_of, from_client, from_server, SlotsKept}
use Rattle.fl_hop.proofs.Cells.{hop_read}
use Rattle.fl_hop.proofs.Leaving.{Sides, stands_client, stands_server, kept_left, view_left}
use Rattle.fl_hop.proofs.Laters.{later_without}
use Rattle.fl_hop.proofs.circuits.Circuits.remove.Goals as goal

sides-ClientSide : (c : goal.After-from_client) → Sides c.self.inside.cells.items c.self.inside.entries c.in-ClientSide.key c.in-Some.entry (Link c.args.link c.args.circuit) c.in-Some.entry.server
sides-ClientSide c = stands_client c.self.inside.core.0 c.self.inside.links.items c.self.inside.cells.items c.self.inside.entries c.self.invariant c.args.link c.args.circuit c.in-ClientSide.key c.in-Some.entry c.as_slice.result.now c.cell_at.result c.try_remove.result c.as_slice.ensures.value c.cell_at.ensures c.in-ClientSide.is c.try_remove.ensures.value c.in-Some.is

pub invariant_of-self-in-ClientSide : goal.invariant_of-self-in-ClientSide
invariant_of-self-in-ClientSide c =
    subst (λ v. SlotsKept c.self.inside.core.0 c.self.inside.links.items v c.try_remove.new.self) (sym c.clear.ensures)
    (kept_left c.self.inside.core.0 c.self.inside.links.items c.self.inside.cells.items c.self.inside.entries c.self.invariant c.in-ClientSide.key c.in-Some.entry (Link c.args.link c.args.circuit) c.in-Some.entry.server (sides-ClientSide c) c.try_remove.new.self c.try_remove.ensures.updates)

view-ClientSide : (c : goal.After-from_client) → table_of c.self.inside.core.0 c.self.inside.links.items c.clear.new.cells.items c.try_remove.new.self ≡ without_entry c.args.self.now (Link c.args.link c.args.circuit) c.in-Some.entry.server
view-ClientSide c =
    ap (λ v. table_of c.self.inside.core.0 c.self.inside.links.items v c.try_remove.new.self) c.clear.ensures
    ∙ view_left c.self.inside.core.0 c.self.inside.links.items c.self.inside.cells.items c.self.inside.entries c.self.invariant c.in-ClientSide.key c.in-Some.entry (Link c.args.link c.args.circuit) c.in-Some.entry.server (sides-ClientSide c) c.try_remove.new.self c.try_remove.ensures.updates
    ∙ ap (λ t. without_entry t (Link c.args.link c.args.circuit) c.in-Some.entry.server) c.self.view_is

pub returns-in-Some-clause-removed : goal.returns-in-Some-clause-removed
returns-in-Some-clause-removed c =
    let way : Hop → HopTarget = λ h. h.way in
    view-ClientSide c ∙ ap (λ w. without_entry c.args.self.now (Link c.args.link c.args.circuit) w) (sym (ap way c.from_client.ensures))

pub returns-in-Some-clause-later : goal.returns-in-Some-clause-later
returns-in-Some-clause-later c = subst (Later c.args.self.now) (sym (view-ClientSide c)) (later_without c.args.self.now (Link c.args.link c.args.circuit) c.in-Some.entry.server)

sides-ServerSide : (c : goal.After-from_server) → Sides c.self.inside.cells.items c.self.inside.entries c.in-ServerSide.key c.in-Some-try_remove.entry (Link c.args.link c.args.circuit) c.in-Some-try_remove.entry.client
sides-ServerSide c = stands_server c.self.inside.core.0 c.self.inside.links.items c.self.inside.cells.items c.self.inside.entries c.self.invariant c.args.link c.args.circuit c.in-ServerSide.key c.in-Some-try_remove.entry c.as_slice.result.now c.cell_at.result c.try_remove-in-ServerSide.result c.as_slice.ensures.value c.cell_at.ensures c.in-ServerSide.is c.try_remove-in-ServerSide.ensures.value c.in-Some-try_remove.is

pub invariant_of-self-in-ServerSide : goal.invariant_of-self-in-ServerSide
invariant_of-self-in-ServerSide c =
    subst (λ v. SlotsKept c.self.inside.core.0 c.self.inside.links.items v c.try_remove-in-ServerSide.new.self) (sym c.clear-in-ServerSide.ensures)
    (kept_left c.self.inside.core.0 c.self.inside.links.items c.self.inside.cells.items c.self.inside.entries c.self.invariant c.in-ServerSide.key c.in-Some-try_remove.entry (Link c.args.link c.args.circuit) c.in-Some-try_remove.entry.client (sides-ServerSide c) c.try_remove-in-ServerSide.new.self c.try_remove-in-ServerSide.ensures.updates)

view-ServerSide : (c : goal.After-from_server) → table_of c.self.inside.core.0 c.self.inside.links.items c.clear-in-ServerSide.new.cells.items c.try_remove-in-ServerSide.new.self ≡ without_entry c.args.self.now (Link c.args.link c.args.circuit) c.in-Some-try_remove.entry.client
view-ServerSide c =
    ap (λ v. table_of c.self.inside.core.0 c.self.inside.links.items v c.try_remove-in-ServerSide.new.self) c.clear-in-ServerSide.ensures
    ∙ view_left c.self.inside.core.0 c.self.inside.links.items c.self.inside.cells.items c.self.inside.entries c.self.invariant c.in-ServerSide.key c.in-Some-try_remove.entry (Link c.args.link c.args.circuit) c.in-Some-try_remove.entry.client (sides-ServerSide c) c.try_remove-in-ServerSide.new.self c.try_remove-in-ServerSide.ensures.updates
    ∙ ap (λ t. without_entry t (Link c.args.link c.args.circuit) c.in-Some-try_remove.entry.client) c.self.view_is

pub returns-in-Some-try_remove-clause-removed : goal.returns-in-Some-try_remove-clause-removed
returns-in-Some-try_remove-clause-removed c =
    let way : Hop → HopTarget = λ h. h.way in
    view-ServerSide c ∙ ap (λ w. without_entry c.args.self.now (Link c.args.link c.args.circuit) w) (sym (ap way c.from_server.ensures))

pub returns-in-Some-try_remove-clause-later : goal.returns-in-Some-try_remove-clause-later
returns-in-Some-try_remove-clause-later c = subst (Later c.args.self.now) (sym (view-ServerSide c)) (later_without c.args.self.now (Link c.args.link c.args.circuit) c.in-Some-try_remove.entry.client)

pub returns-in-Free-clause-hop : goal.returns-in-Free-clause-hop
returns-in-Free-clause-hop c = hop_read c.self.inside.core.0 c.self.inside.links.items c.self.inside.cells.items c.self.inside.entries c.args.self.now c.self.view_is c.args.link.0 c.args.circuit.0 c.as_slice.result.now c.cell_at.result Free c.as_slice.ensures.value c.cell_at.ensures c.in-Free.is

pub returns-in-Free-clause-none : goal.returns-in-Free-clause-none
returns-in-Free-clause-none c = refl

pub invariant_of-self : goal.invariant_of-self
invariant_of-self c = subst (λ s. SlotsKept c.self.inside.core.0 c.self.inside.links.items c.self.inside.cells.items s) (sym c.in_default.ensures.absent) c.self.invariant

pub returns-in_default-clause-hop : goal.returns-in_default-clause-hop
returns-in_default-clause-hop c =
    let show : Option Entry → Option Hop = λ o. option_map from_client o in
    ap show (sym c.in_default.is ∙ c.try_remove.ensures.value)
    ∙ hop_read c.self.inside.core.0 c.self.inside.links.items c.self.inside.cells.items c.self.inside.entries c.args.self.now c.self.view_is c.args.link.0 c.args.circuit.0 c.as_slice.result.now c.cell_at.result (ClientSide c.in-ClientSide.key) c.as_slice.ensures.value c.cell_at.ensures c.in-ClientSide.is

pub returns-in_default-clause-none : goal.returns-in_default-clause-none
returns-in_default-clause-none c = ap (λ s. table_of c.self.inside.core.0 c.self.inside.links.items c.self.inside.cells.items s) c.in_default.ensures.absent ∙ c.self.view_is

pub returns-in-Some-clause-hop : goal.returns-in-Some-clause-hop
returns-in-Some-clause-hop c =
    let some : Hop → Option Hop = λ h. Some h in
    let show : Option Entry → Option Hop = λ o. option_map from_client o in
    ap some c.from_client.ensures
    ∙ ap show (sym c.in-Some.is ∙ c.try_remove.ensures.value)
    ∙ hop_read c.self.inside.core.0 c.self.inside.links.items c.self.inside.cells.items c.self.inside.entries c.args.self.now c.self.view_is c.args.link.0 c.args.circuit.0 c.as_slice.result.now c.cell_at.result (ClientSide c.in-ClientSide.key) c.as_slice.ensures.value c.cell_at.ensures c.in-ClientSide.is

pub invariant_of-self-in_default-try_remove : goal.invariant_of-self-in_default-try_remove
invariant_of-self-in_default-try_remove c = subst (λ s. SlotsKept c.self.inside.core.0 c.self.inside.links.items c.self.inside.cells.items s) (sym c.in_default-try_remove.ensures.absent) c.self.invariant

pub returns-in_default-try_remove-clause-hop : goal.returns-in_default-try_remove-clause-hop
returns-in_default-try_remove-clause-hop c =
    let show : Option Entry → Option Hop = λ o. option_map from_server o in
    ap show (sym c.in_default-try_remove.is ∙ c.try_remove-in-ServerSide.ensures.value)
    ∙ hop_read c.self.inside.core.0 c.self.inside.links.items c.self.inside.cells.items c.self.inside.entries c.args.self.now c.self.view_is c.args.link.0 c.args.circuit.0 c.as_slice.result.now c.cell_at.result (ServerSide c.in-ServerSide.key) c.as_slice.ensures.value c.cell_at.ensures c.in-ServerSide.is

pub returns-in_default-try_remove-clause-none : goal.returns-in_default-try_remove-clause-none
returns-in_default-try_remove-clause-none c = ap (λ s. table_of c.self.inside.core.0 c.self.inside.links.items c.self.inside.cells.items s) c.in_default-try_remove.ensures.absent ∙ c.self.view_is

pub returns-in-Some-try_remove-clause-hop : goal.returns-in-Some-try_remove-clause-hop
returns-in-Some-try_remove-clause-hop c =
    let some : Hop → Option Hop = λ h. Some h in
    let show : Option Entry → Option Hop = λ o. option_map from_server o in
    ap some c.from_server.ensures
    ∙ ap show (sym c.in-Some-try_remove.is ∙ c.try_remove-in-ServerSide.ensures.value)
    ∙ hop_read c.self.inside.core.0 c.self.inside.links.items c.self.inside.cells.items c.self.inside.entries c.args.self.now c.self.view_is c.args.link.0 c.args.circuit.0 c.as_slice.result.now c.cell_at.result (ServerSide c.in-ServerSide.key) c.as_slice.ensures.value c.cell_at.ensures c.in-ServerSide.is
