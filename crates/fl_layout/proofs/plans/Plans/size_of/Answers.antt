use Rattle.std.proofs.Common.{◌≡◌, true, List, map, ap, sym, refl, ◌∙◌, ◌≤◌, subst}
use Rattle.std.specs.List.{list_all}
use Rattle.fl_interface.specs.Interface.{interface_of}
use Rattle.fl_layout.specs.declared.arrange.MessagePlan.{MessagePlan}
use Rattle.fl_layout.specs.declared.extent.PlacedArg.{PlacedArg}
use Rattle.fl_value_data.specs.declared.value.Value.{Value}
use Rattle.fl_value_data.specs.Value.{datum_of, call_of}
use Rattle.fl_layout.specs.Extents.{placed_of, end_of_all, filled_by, is_short}
use Rattle.fl_layout.proofs.Found.{found}
use Rattle.fl_layout.proofs.Lengths.{is_sent, sent_length, length_by}
use Rattle.fl_layout.proofs.BothPlans.{length_small}
use Rattle.fl_layout.proofs.Shorts.{placed_short}
use Rattle.fl_layout.proofs.plans.Plans.size_of.Goals as goal

pub length_with-requires : goal.length_with-requires
length_with-requires c =
    let self = c.args.self.now in
    let i = interface_of self.interface in
    let there = found (λ (m : MessagePlan). m.placed.items) (placed_of self.plan) self.messages.items i.messages c.args.call.now.msg.0 c.in-Some.message.now self.laid (sym c.in-Some.ensures.found) in
    let call = call_of c.args.call.now in
    let sent = is_sent self.plan i call.msg there.what call self.interface.within there.at (record { fits = c.requires.fits; names = refl }) in
    let short = placed_short self.plan there.what call.args sent.within sent.has in
    record {
      short = subst (λ (vs : List Value). list_all (is_short (map datum_of vs)) c.in-Some.message.now.placed.items ≡ true) (sym c.deref.ensures.value)
          (subst (λ (ps : List PlacedArg). list_all (is_short call.args) ps ≡ true) (sym there.is) short);
    }

pub returns-in-Some-clause-size : goal.returns-in-Some-clause-size
returns-in-Some-clause-size c =
    let self = c.args.self.now in
    let i = interface_of self.interface in
    let there = found (λ (m : MessagePlan). m.placed.items) (placed_of self.plan) self.messages.items i.messages c.args.call.now.msg.0 c.in-Some.message.now self.laid (sym c.in-Some.ensures.found) in
    let call = call_of c.args.call.now in
    let sent = is_sent self.plan i call.msg there.what call self.interface.within there.at (record { fits = c.requires.fits; names = refl }) in
    let law = sent_length self.plan i there.what call sent ∙ ap (end_of_all 0 1) (length_by self.plan there.what call.args sent.has) in
    c.length_with.ensures.exact
    ∙ ap (λ (vs : List Value). end_of_all 0 1 (map (filled_by (map datum_of vs)) c.in-Some.message.now.placed.items)) c.deref.ensures.value
    ∙ ap (λ (ps : List PlacedArg). end_of_all 0 1 (map (filled_by call.args) ps)) there.is
    ∙ sym law

pub returns-in-Some-clause-small : goal.returns-in-Some-clause-small
returns-in-Some-clause-small c =
    let self = c.args.self.now in
    let i = interface_of self.interface in
    let there = found (λ (m : MessagePlan). m.placed.items) (placed_of self.plan) self.messages.items i.messages c.args.call.now.msg.0 c.in-Some.message.now self.laid (sym c.in-Some.ensures.found) in
    let call = call_of c.args.call.now in
    subst (λ n. n ≤ 32768) (sym (returns-in-Some-clause-size c))
    (length_small self.plan i call.msg there.what call self.interface.within there.at (record { fits = c.requires.fits; names = refl }))
