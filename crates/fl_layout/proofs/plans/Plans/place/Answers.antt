use Rattle.std.proofs.Common.{List, ap, sym, ◌∙◌, subst}
use Rattle.fl_interface.specs.Interface.{interface_of}
use Rattle.fl_layout.specs.declared.arrange.MessagePlan.{MessagePlan}
use Rattle.fl_layout.specs.declared.extent.PlacedArg.{PlacedArg}
use Rattle.fl_layout.specs.Extents.{placed_of, start_among}
use Rattle.fl_layout.specs.Layouts.{IsPlace}
use Rattle.fl_layout.proofs.Found.{found}
use Rattle.fl_layout.proofs.Starts.{place_is}
use Rattle.fl_layout.proofs.plans.Plans.place.Goals as goal

pub returns : goal.returns
returns c =
    let self = c.args.self.now in
    let i = interface_of self.interface in
    let there = found (λ (m : MessagePlan). m.placed.items) (placed_of self.plan) self.messages.items i.messages c.args.msg.0 c.in_ok-message.message.now self.laid (sym c.in_ok-message.ensures.found) in
    let law = place_is self.plan i c.args.msg.0 there.what c.args.argument self.interface.within there.at in
    let same = c.start_among.ensures.exact ∙ ap (λ (ps : List PlacedArg). start_among c.args.argument 0 1 ps) (c.deref.ensures.value ∙ there.is) in
    record { place = subst (IsPlace self.plan i c.args.msg.0 c.args.argument) (sym same) law }
