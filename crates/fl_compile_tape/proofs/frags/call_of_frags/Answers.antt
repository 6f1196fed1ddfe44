use Rattle.std.proofs.Common.{◌∙◌, ◌≡◌}
use Rattle.std.proofs.lemmas.Result.{IfOk-weaker}
use Rattle.std.specs.List.{flat_map}
use Rattle.fl_value_data.specs.Value.{TheCall, call_of}
use Rattle.fl_compile.specs.Programs.{program_of}
use Rattle.fl_compile_tape.specs.TapeLaws.{HasPayload}
use Rattle.fl_compile_tape.specs.Frags.{frag_bytes, HasFrags}
use Rattle.fl_compile_tape.proofs.FragBytes.{payload_first, few_frags}
use Rattle.fl_compile_tape.proofs.frags.call_of_frags.Goals as goal

pub put_bytes-requires : goal.put_bytes-requires
put_bytes-requires c =
    let p = c.args.program.now in
    let (call, has) = c.requires.known in
    record { few = few_frags (program_of p) c.args.msg.0 c.args.frags.now call p.compiled.value.plans.interface.within has }

pub call_by-requires : goal.call_by-requires
call_by-requires c =
    let p = program_of c.args.program.now in
    let bytes : c.as_slice.result.now ≡ flat_map frag_bytes c.args.frags.now = c.as_slice.ensures.value ∙ c.in_ok-put_bytes.ensures.bytes in
    let (call, has) = c.requires.known in
    record { known = (call, payload_first p c.args.msg.0 c.args.frags.now c.as_slice.result.now call bytes has) }

pub returns : goal.returns
returns c =
    let p = program_of c.args.program.now in
    let bytes : c.as_slice.result.now ≡ flat_map frag_bytes c.args.frags.now = c.as_slice.ensures.value ∙ c.in_ok-put_bytes.ensures.bytes in
    record {
      call = IfOk-weaker c.call_by.result (λ call. (d : TheCall) → HasPayload p c.args.msg.0 c.as_slice.result.now d → call_of call ≡ d)
          (λ call. (d : TheCall) → HasFrags p c.args.msg.0 c.args.frags.now d → call_of call ≡ d)
          (λ call one d has. one d (payload_first p c.args.msg.0 c.args.frags.now c.as_slice.result.now d bytes has)) c.call_by.ensures.call;
    }
