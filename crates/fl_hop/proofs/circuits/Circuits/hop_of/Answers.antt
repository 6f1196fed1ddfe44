use Rattle.std.proofs.Common.{ap, ◌∙◌, Option, Some, option_map}
use Rattle.fl_hop.specs.declared.entry.Cell.TheVariants.{Free, ClientSide, ServerSide}
use Rattle.fl_hop.specs.declared.entry.Entry.{Entry}
use Rattle.fl_hop.specs.declared.entry.Hop.{Hop}
use Rattle.fl_hop.specs.Slots.{from_client, from_server}
use Rattle.fl_hop.proofs.Cells.{hop_read}
use Rattle.fl_hop.proofs.circuits.Circuits.hop_of.Goals as goal

pub returns-in-Free : goal.returns-in-Free
returns-in-Free c = record { hop = hop_read c.self.inside.core.0 c.self.inside.links.items c.self.inside.cells.items c.self.inside.entries c.args.self.now c.self.view_is c.args.link.0 c.args.circuit.0 c.as_slice.result.now c.cell_at.result Free c.as_slice.ensures.value c.cell_at.ensures c.in-Free.is }

pub returns-in-Some : goal.returns-in-Some
returns-in-Some c =
    let some : Hop → Option Hop = λ h. Some h in
    let show : Option Entry → Option Hop = λ o. option_map from_client o in
    record {
      hop =
          ap some c.from_client.ensures
          ∙ ap show c.in-Some.ensures
          ∙ hop_read c.self.inside.core.0 c.self.inside.links.items c.self.inside.cells.items c.self.inside.entries c.args.self.now c.self.view_is c.args.link.0 c.args.circuit.0 c.as_slice.result.now c.cell_at.result (ClientSide c.in-ClientSide.key) c.as_slice.ensures.value c.cell_at.ensures c.in-ClientSide.is;
    }

pub returns-in-None : goal.returns-in-None
returns-in-None c =
    let show : Option Entry → Option Hop = λ o. option_map from_client o in
    record { hop = ap show c.in-None.ensures ∙ hop_read c.self.inside.core.0 c.self.inside.links.items c.self.inside.cells.items c.self.inside.entries c.args.self.now c.self.view_is c.args.link.0 c.args.circuit.0 c.as_slice.result.now c.cell_at.result (ClientSide c.in-ClientSide.key) c.as_slice.ensures.value c.cell_at.ensures c.in-ClientSide.is }

pub returns-in-Some-get : goal.returns-in-Some-get
returns-in-Some-get c =
    let some : Hop → Option Hop = λ h. Some h in
    let show : Option Entry → Option Hop = λ o. option_map from_server o in
    record {
      hop =
          ap some c.from_server.ensures
          ∙ ap show c.in-Some-get.ensures
          ∙ hop_read c.self.inside.core.0 c.self.inside.links.items c.self.inside.cells.items c.self.inside.entries c.args.self.now c.self.view_is c.args.link.0 c.args.circuit.0 c.as_slice.result.now c.cell_at.result (ServerSide c.in-ServerSide.key) c.as_slice.ensures.value c.cell_at.ensures c.in-ServerSide.is;
    }

pub returns-in-None-get : goal.returns-in-None-get
returns-in-None-get c =
    let show : Option Entry → Option Hop = λ o. option_map from_server o in
    record { hop = ap show c.in-None-get.ensures ∙ hop_read c.self.inside.core.0 c.self.inside.links.items c.self.inside.cells.items c.self.inside.entries c.args.self.now c.self.view_is c.args.link.0 c.args.circuit.0 c.as_slice.result.now c.cell_at.result (ServerSide c.in-ServerSide.key) c.as_slice.ensures.value c.cell_at.ensures c.in-ServerSide.is }
