use Rattle.std.proofs.Common.{◌≡◌, ◌∙◌, ap, subst, true, rules}
use Rattle.fl_interface.specs.Interface.{TheInterface, interface_of}
use Rattle.fl_interface.specs.Limits.{is_within_limits}
use Rattle.fl_interface.specs.Counts.{interface_words_fit}
use Rattle.fl_value_data.specs.declared.value.PlanNo.{PlanNo}
use Rattle.fl_value_data.specs.Value.{call_of}
use Rattle.fl_value_tape.specs.Packed.{packed_of}
use Rattle.fl_stub_steps.specs.Steps.{steps_in}
use Rattle.fl_compile.specs.Programs.{program_of}
use Rattle.fl_compile.proofs.Spreading.{makes_payload, plain_payload, prepared_is, no_code}
use Rattle.fl_compile_payload.proofs.payload.payload_by.Goals as goal

pub returns : goal.returns
returns c =
    let p = program_of c.args.program.now in
    let d = call_of c.args.call.now in
    let own = interface_of c.interface.result.now in
    let within : is_within_limits p.interface ≡ true = subst (λ (i : TheInterface). is_within_limits i ≡ true) c.interface.ensures.interface c.interface.result.now.within in
    let words : interface_words_fit p.interface ≡ true = subst (λ (i : TheInterface). interface_words_fit i ≡ true) c.interface.ensures.interface c.interface.ensures.words in
    let seen : c.as_slice.result.now ≡ packed_of c.plan.result own d = search (rules, c.as_slice.ensures, c.in_ok-tape.ensures.packed, c.tape.view_is) in
    let packed : c.as_slice.result.now ≡ packed_of p.plan p.interface d
    = seen ∙ ap (λ (q : PlanNo). packed_of q own d) c.plan.ensures.plan ∙ ap (λ (i : TheInterface). packed_of p.plan i d) c.interface.ensures.interface in
    record {
      payload = c.in_ok-give.ensures.given
          ∙ makes_payload p d (steps_in c.in-Some.code.now) c.in_ok-bytes.bytes.items c.as_slice.result.now within words c.requires.fits (prepared_is p d c.in-Some.code.now within words c.in-Some.ensures.means) c.in_ok-bytes.ensures.items packed;
    }

pub returns-then-is_plain : goal.returns-then-is_plain
returns-then-is_plain c =
    let p = program_of c.args.program.now in
    let d = call_of c.args.call.now in
    let own = interface_of c.interface.result.now in
    let within : is_within_limits p.interface ≡ true = subst (λ (i : TheInterface). is_within_limits i ≡ true) c.interface.ensures.interface c.interface.result.now.within in
    let words : interface_words_fit p.interface ≡ true = subst (λ (i : TheInterface). interface_words_fit i ≡ true) c.interface.ensures.interface c.interface.ensures.words in
    let plain = c.is_plain.ensures.plain (search (rules, c.if-is_plain.true)) in
    let seen : c.into_bytes.result.items ≡ packed_of c.plan.result own d = search (rules, c.into_bytes.ensures, c.in_ok-tape.ensures.packed) in
    record {
      payload = seen ∙ ap (λ (q : PlanNo). packed_of q own d) c.plan.ensures.plan ∙ ap (λ (i : TheInterface). packed_of p.plan i d) c.interface.ensures.interface
          ∙ plain_payload p d (steps_in c.in-Some.code.now) within words c.requires.fits (prepared_is p d c.in-Some.code.now within words c.in-Some.ensures.means) plain;
    }

pub unreachable-requires : goal.unreachable-requires
unreachable-requires c = no_code (program_of c.args.program.now) (call_of c.args.call.now) c.requires.fits c.in_default.ensures.none
