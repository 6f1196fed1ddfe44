use Rattle.std.proofs.Common.{◌≡◌, ◌<◌, ◌≤◌, length, get_or, subst}
use Rattle.fl_value_data.proofs.Turns.{map_dropped}
use Rattle.fl_interface.specs.Interface.{message_of}
use Rattle.flounder_show.proofs.Telling.{told_none, told_one, told_all, none_left}
use Rattle.flounder_show.proofs.table.put_messages.Goals as goal

pub loop-number-init : goal.loop-number-init
loop-number-init c = told_none _ _ _

pub loop-number-preserved : goal.loop-number-preserved
loop-number-preserved c =
    let items = c.args.plans.now.interface.messages.items in
    let n = c.loop-number.number in
    let x = c.message-item.result in
    let same = c.deref-message-items.ensures.value in
    let below = subst (λ z. n < length z) same c.loop-number-test.true in
    let is = subst (λ z. x ≡ get_or z n x) same c.message-item.is in
    told_one _ _ n _ _ _ _ _ _ (map_dropped message_of items n x below is) c.loop-number.invariant c.in_ok-put_message.ensures.told

pub returns : goal.returns
returns c =
    let past = subst (λ z. length z ≤ c.loop-number.number) c.deref-message-items.ensures.value c.loop-number-test.false in
    record { told = told_all _ _ _ _ _ _ (none_left message_of _ c.loop-number.number past) c.loop-number.invariant }
