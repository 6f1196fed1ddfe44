use Rattle.std.proofs.Common.{List, map, ap, sym, ◌∙◌, subst}
use Rattle.fl_interface.specs.Interface.{interface_of}
use Rattle.fl_layout.specs.declared.arrange.MessagePlan.{MessagePlan}
use Rattle.fl_layout.specs.declared.extent.PlacedArg.{PlacedArg}
use Rattle.fl_layout.specs.declared.extent.Fill.TheVariants.{Full}
use Rattle.fl_layout.specs.Extents.{placed_of, numbers_in_all, filled_up}
use Rattle.fl_layout.specs.Layouts.{tape_length, IsGreatest}
use Rattle.fl_layout.proofs.Lengths.{capacity_is}
use Rattle.fl_layout.proofs.Found.{found}
use Rattle.fl_layout.proofs.plans.Plans.tape_capacity.Goals as goal

pub returns-in-Some : goal.returns-in-Some
returns-in-Some c =
    let self = c.args.self.now in
    let i = interface_of self.interface in
    let there = found (λ (m : MessagePlan). m.placed.items) (placed_of self.plan) self.messages.items i.messages c.args.msg.0 c.in-Some.message.now self.laid (sym c.in-Some.ensures.found) in
    let law = capacity_is self.plan i c.args.msg.0 there.what self.interface.within there.at in
    let same = c.tape_limit.ensures.exact ∙ ap (λ (ps : List PlacedArg). numbers_in_all (map (filled_up Full) ps)) (c.deref.ensures.value ∙ there.is) in
    record { greatest = subst (IsGreatest (tape_length self.plan i) i c.args.msg.0) (sym same) law }
