use Rattle.std.proofs.Common.{◌≡◌, ◌<◌, ◌≤◌, length, get_or, map, refl, ap, subst}
use Rattle.std.proofs.lemmas.List.{drop_all}
use Rattle.fl_value_data.proofs.Turns.{map_dropped}
use Rattle.fl_interface.specs.Interface.{message_of}
use Rattle.flounder_header.proofs.Sections.{none_yet, one_more, all_told}
use Rattle.flounder_header.proofs.messages.sections.Goals as goal

pub loop-number-init : goal.loop-number-init
loop-number-init c = none_yet _ _ _ _ _ _ refl refl c.new-text.ensures.items

pub loop-number-preserved : goal.loop-number-preserved
loop-number-preserved c =
    let items = c.args.plans.now.interface.messages.items in
    let n = c.loop-number.number in
    let x = c.message-item.result in
    let same = c.deref-message-items.ensures.value in
    let below = subst (λ z. n < length z) same c.loop-number-test.true in
    let is = subst (λ z. x ≡ get_or z n x) same c.message-item.is in
    one_more _ _ _ _ _ _ n _ _ _ _ (map_dropped message_of items n x below is) c.in_ok-section.ensures.section c.deref.ensures.value c.in_ok-extend_from_slice.ensures.items
    c.loop-number.invariant

pub returns : goal.returns
returns c =
    let items = c.args.plans.now.interface.messages.items in
    let past = subst (λ z. length z ≤ c.loop-number.number) c.deref-message-items.ensures.value c.loop-number-test.false in
    record { sections = all_told _ _ _ _ c.loop-number.number _ (ap (map message_of) (drop_all c.loop-number.number items past)) c.loop-number.invariant }
