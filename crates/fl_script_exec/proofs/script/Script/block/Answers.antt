use Rattle.std.proofs.Common.{refl}
use Rattle.std.proofs.lemmas.Result.{on_ok_weaker}
use Rattle.fl_interface.specs.Interface.{interface_of}
use Rattle.fl_check.specs.Text.{stands_for, text_fault}
use Rattle.fl_script_exec.specs.Transcript.{block_effect}
use Rattle.fl_script_exec.proofs.script.Script.block.Goals as goal

pub returns-in-Fault : goal.returns-in-Fault
returns-in-Fault g c =
    let means = rw c.in-Fault.is at c.in_ok-number.ensures.means in
    record {
      ok = on_ok_weaker c.fault.result (λ f. λ s h. (
        block_effect s c.args.plan (text_fault c.in-Fault.number c.in-Fault.offset),
        (text_fault c.in-Fault.number c.in-Fault.offset, means, refl),
        f c.args.plan s h,
      )) c.fault.ensures.ok;
    }

pub returns-in-Interface : goal.returns-in-Interface
returns-in-Interface g c =
    let means = rw c.in-Interface.is at c.in_ok-number.ensures.means in
    record {
      ok = on_ok_weaker c.interface.result (λ f. λ s h. (
        block_effect s c.args.plan (stands_for (interface_of c.in-Interface.interface)),
        (stands_for (interface_of c.in-Interface.interface), means, refl),
        f s h,
      )) c.interface.ensures.ok;
    }
