use Rattle.std.proofs.Common.{◌≡◌, inr, refl, ap, subst, Err}
use Rattle.fl_value_data.specs.Value.{call_of}
use Rattle.fl_compile.specs.declared.program.Program.{Program}
use Rattle.fl_compile.specs.Programs.{program_of}
use Rattle.fl_c_operations.specs.Calls.{AreCall}
use Rattle.fl_c_operations.specs.View.{TheHeld, handled_by}
use Rattle.fl_c_operations.specs.Ends.{CallsBy}
use Rattle.fl_c_operations.proofs.end.HeldEnd.call_by_values.Goals as goal

-- memory ran out for the call that the numbers are
pub returns-in_default : goal.returns-in_default
returns-in_default c =
    let i = c.self.inside in
    let view : TheHeld = record { end = i.end; side = i.side.side; calls = i.calls; handled = handled_by i.end.program i.handled } in
    let same : view ≡ c.args.self.now = cc in
    let lacking = rw c.in_default.is at c.in-Ok.ensures.reads in
    let are = subst (λ (p : Program). AreCall (program_of p) c.args.numbers.now lacking.0) c.program.ensures.program lacking.1 in
    record {
      calls = subst (λ (h : TheHeld). CallsBy h c.args.numbers.now c.called.result h) same
          (inr (lacking.0, Err c.without_memory.result, are, c.without_memory.ensures.refuses lacking.0 are.3.fits, c.called.ensures.told, (refl, refl, refl)));
    }

pub call-requires : goal.call-requires
call-requires c =
    let read = rw c.in-Some.is at c.in-Ok.ensures.reads in
    let are = subst (λ (p : Program). AreCall (program_of p) c.args.numbers.now (call_of c.in-Some.call)) c.program.ensures.program read in
    record { fits = are.3.fits }

-- the call is made, or the end refuses it
pub returns : goal.returns
returns c =
    let i = c.self.inside in
    let view : TheHeld = record { end = i.end; side = i.side.side; calls = i.calls; handled = handled_by i.end.program i.handled } in
    let after : TheHeld = record { end = c.call.new.self; side = i.side.side; calls = i.calls; handled = handled_by c.call.new.self.program i.handled } in
    let same : view ≡ c.args.self.now = cc in
    let read = rw c.in-Some.is at c.in-Ok.ensures.reads in
    let are = subst (λ (p : Program). AreCall (program_of p) c.args.numbers.now (call_of c.in-Some.call)) c.program.ensures.program read in
    let kept = ap (λ (p : Program). handled_by p i.handled) c.call.ensures.program in
    record {
      calls = subst (λ (h : TheHeld). CallsBy h c.args.numbers.now c.called-2.result after) same
          (inr (call_of c.in-Some.call, c.call.result, are, c.call.ensures.calls, c.called-2.ensures.told, (refl, refl, kept)));
    }
