use Rattle.std.proofs.lemmas.Result.{IfOk-weaker}
use Rattle.fl_interface.specs.Interface.{interface_of}
use Rattle.flounder_header.proofs.Sections.{headed}
use Rattle.flounder_header.proofs.messages.header.Goals as goal

pub returns : goal.returns
returns c =
    let plans = c.in_ok-plans.plans in
    record {
      header = IfOk-weaker c.header_by.result _ _
          (λ text e. headed c.args.plan plans.plan (interface_of c.args.interface.now) (interface_of plans.interface) text.items c.in_ok-plans.ensures.plan c.in_ok-plans.ensures.interface e)
          c.header_by.ensures.header;
    }
