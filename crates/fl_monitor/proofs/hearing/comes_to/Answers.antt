use Rattle.std.proofs.Common.{sym, ◌∙◌, ap, subst}
use Rattle.fl_monitor.specs.declared.message.MonitorMessage.{MonitorMessage}
use Rattle.fl_monitor.specs.Fates.{Known}
use Rattle.fl_monitor.specs.Hearing.{heard_by, ComesTo}
use Rattle.fl_monitor.proofs.hearing.comes_to.Goals as goal

pub returns-else-not-is_in_place-clause-comes : goal.returns-else-not-is_in_place-clause-comes
returns-else-not-is_in_place-clause-comes c =
    let known : Known = record { names = c.args.names.now; here = c.args.here } in
    let there = sym c.is_in_place.ensures.place ∙ c.if-not-is_in_place.false in
    let heard = c.heard_by.ensures.heard ∙ ap (heard_by c.in-OpenCircuit.binding c.in-OpenCircuit.circuit) c.find_fate-fate.ensures.fate in
    subst (λ (m : MonitorMessage). ComesTo known c.args.circuits.now c.args.link m c.heard_by.result) (sym c.in-OpenCircuit.is) (there, heard)
