use Rattle.std.proofs.Common.{Option, subst}
use Rattle.fl_value_data.specs.Value.{call_of}
use Rattle.fl_stub.specs.Code.{TheCode}
use Rattle.fl_compile.specs.Programs.{program_of}
use Rattle.fl_c_operations.specs.Runs.{RunsAt}
use Rattle.fl_c_operations.proofs.Messages.{refused}
use Rattle.fl_c_operations.proofs.Starts.{starts_at}
use Rattle.fl_c_operations.proofs.sender.start.Goals as goal

pub returns : goal.returns
returns c =
    let x = program_of c.args.program.now in
    let call = call_of c.in-Some.call in
    let reads = rw c.in-Some.is at c.in-Ok.ensures.reads in
    record {
      starts = (
        (
          call,
          reads,
          starts_at c.law_sends_fragments.ensures.sends x _ _ call c.in-Some-send_code.code.now c.start-run.result _ c.interface.ensures.interface c.plan.ensures.plan
              c.interface.result.now.within c.interface.ensures.words reads.3.fits c.in-Some-send_code.ensures.exact c.in-Ok-flatten_into.ensures.tape c.start-run.ensures.given,
        ),
        subst (λ (o : Option TheCode). RunsAt o c.start-run.result) c.in-Some-send_code.ensures.exact c.start-run.ensures.runs,
      );
    }

-- numbers that are no call's
pub returns-in-Err : goal.returns-in-Err
returns-in-Err c = record { starts = refused (program_of c.args.program.now) c.args.numbers.now c.in-Err.fault c.in-Err.ensures.reads }

-- memory ran out for the call
pub returns-in_default : goal.returns-in_default
returns-in_default c = record { starts = rw c.in_default.is at c.in-Ok.ensures.reads }

-- or for its tape
pub returns-in_default-flatten_into : goal.returns-in_default-flatten_into
returns-in_default-flatten_into c = record { starts = (call_of c.in-Some.call, rw c.in-Some.is at c.in-Ok.ensures.reads) }
