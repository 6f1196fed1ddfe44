use Rattle.std.proofs.Common.{◌≡◌, Option, List, ap, sym, ◌∙◌}
use Rattle.std.specs.Prelude.{slice_get}
use Rattle.fl_interface.specs.Interface.{TheMessage, interface_of}
use Rattle.fl_value_data.specs.Tape.{types_of}
use Rattle.fl_layout.specs.declared.arrange.MessagePlan.{MessagePlan}
use Rattle.fl_layout.specs.declared.extent.PlacedArg.{PlacedArg}
use Rattle.fl_layout.specs.Extents.{placed_of, extent_among, unit_of}
use Rattle.fl_layout.specs.Layouts.{argument_size}
use Rattle.fl_layout.proofs.Found.{found, missing}
use Rattle.fl_layout.proofs.Starts.{unit_at, unit_among}
use Rattle.fl_layout.proofs.plans.Plans.arg_size.Goals as goal

pub returns-in-Some-extent_among : goal.returns-in-Some-extent_among
returns-in-Some-extent_among c =
    let self = c.args.self.now in
    let i = interface_of self.interface in
    let there = found (λ (m : MessagePlan). m.placed.items) (placed_of self.plan) self.messages.items i.messages c.args.msg.0 c.in-Some.message.now self.laid (sym c.in-Some.ensures.found) in
    let law = unit_among self.plan there.what c.args.argument in
    let same = c.extent_among.ensures.exact ∙ ap (λ (ps : List PlacedArg). extent_among c.args.argument ps) (c.deref.ensures.value ∙ there.is) in
    let types = ap (λ (m : Option TheMessage). argument_size (slice_get (types_of m) c.args.argument)) there.at in
    let here : unit_of c.in-Some-extent_among.extent ≡ unit_at c.extent_among.result = ap unit_at (sym c.in-Some-extent_among.is) in
    record { size = c.unit.ensures.exact ∙ here ∙ ap unit_at same ∙ sym law ∙ sym types }

pub returns-in-None-extent_among : goal.returns-in-None-extent_among
returns-in-None-extent_among c =
    let self = c.args.self.now in
    let i = interface_of self.interface in
    let there = found (λ (m : MessagePlan). m.placed.items) (placed_of self.plan) self.messages.items i.messages c.args.msg.0 c.in-Some.message.now self.laid (sym c.in-Some.ensures.found) in
    let law = unit_among self.plan there.what c.args.argument in
    let same = c.extent_among.ensures.exact ∙ ap (λ (ps : List PlacedArg). extent_among c.args.argument ps) (c.deref.ensures.value ∙ there.is) in
    let types = ap (λ (m : Option TheMessage). argument_size (slice_get (types_of m) c.args.argument)) there.at in
    let here : 0 ≡ unit_at c.extent_among.result = ap unit_at (sym c.in-None-extent_among.is) in
    record { size = here ∙ ap unit_at same ∙ sym law ∙ sym types }

pub returns-in-None : goal.returns-in-None
returns-in-None c =
    let self = c.args.self.now in
    let i = interface_of self.interface in
    let none = missing (λ (m : MessagePlan). m.placed.items) (placed_of self.plan) self.messages.items i.messages c.args.msg.0 self.laid (sym c.in-None.ensures.found) in
    record { size = sym (ap (λ (m : Option TheMessage). argument_size (slice_get (types_of m) c.args.argument)) none) }
