use Rattle.std.proofs.Common.{◌≡◌}
use Rattle.std.proofs.lemmas.Result.{IfOk-weaker}
use Rattle.fl_value_data.specs.Value.{TheCall, call_of}
use Rattle.fl_compile.specs.Programs.{program_of}
use Rattle.fl_compile_tape.specs.Frags.{HasFrags}
use Rattle.fl_machine.proofs.Parts.{no_first, frags_told}
use Rattle.fl_machine.proofs.reassembly.read.Goals as goal

pub unreachable-requires : goal.unreachable-requires
unreachable-requires c = no_first (program_of c.args.program.now) c.args.frags.now c.in_default.ensures.value c.requires.whole

pub call_of_frags-requires : goal.call_of_frags-requires
call_of_frags-requires c =
    let p = c.args.program.now in
    let (call, has) = c.requires.whole in
    record { known = (call, frags_told (program_of p) c.args.frags.now c.in-Some.first.now c.msg-msg.result.0 call p.compiled.value.plans.interface.within c.in-Some.ensures.value c.msg-msg.ensures has) }

pub returns : goal.returns
returns c =
    let p = c.args.program.now in
    let frags = c.args.frags.now in
    record {
      call = IfOk-weaker c.call_of_frags.result (λ call. (d : TheCall) → HasFrags (program_of p) c.msg-msg.result.0 frags d → call_of call ≡ d)
          (λ call. (d : TheCall) → HasFrags (program_of p) d.msg frags d → call_of call ≡ d)
          (λ call one d has. one d (frags_told (program_of p) frags c.in-Some.first.now c.msg-msg.result.0 d p.compiled.value.plans.interface.within c.in-Some.ensures.value c.msg-msg.ensures has))
          c.call_of_frags.ensures.call;
    }
