use Rattle.std.proofs.Common.{◌∙◌, sym, subst}
use Rattle.fl_interface.specs.Interface.{TheInterface}
use Rattle.fl_value_data.specs.declared.value.PlanNo.{PlanNo}
use Rattle.fl_machine.specs.Receiving.{HoldsTapes}
use Rattle.fl_monitor.specs.Intermon.{intermon}
use Rattle.fl_monitor.proofs.Tapes.{holds_tapes}
use Rattle.fl_monitor.proofs.messenger.Messenger.new.Goals as goal

pub new-requires : goal.new-requires
new-requires c =
    let of : HoldsTapes c.in_ok-program.program.plan intermon 20 = subst (λ (p : PlanNo). HoldsTapes p intermon 20) (sym c.in_ok-program.ensures.plan) holds_tapes in
    record {
      room = subst (λ (i : TheInterface). HoldsTapes c.in_ok-program.program.plan i 20) (sym (c.in_ok-program.ensures.interface ∙ c.in_ok-interface.ensures.interface)) of;
    }
