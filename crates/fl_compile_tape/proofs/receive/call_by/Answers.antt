use Rattle.std.proofs.Common.{◌≡◌, ◌∙◌, ap, sym, subst, List, ℕ}
use Rattle.std.specs.Prelude.{if◌then◌else◌}
use Rattle.std.proofs.lemmas.Result.{IfOk-weaker}
use Rattle.fl_interface.specs.Interface.{TheInterface, interface_of}
use Rattle.fl_value_data.specs.declared.value.PlanNo.{PlanNo}
use Rattle.fl_value_data.specs.Value.{TheCall, call_of}
use Rattle.fl_value_unpack.specs.Unpacked.{HasPacked}
use Rattle.fl_compile.specs.Programs.{program_of}
use Rattle.fl_compile_tape.specs.TapeLaws.{HasPayload}
use Rattle.fl_compile_tape.proofs.receive.call_by.Goals as goal

-- under a plan and an interface that are the program's
own : (plan other : PlanNo) (i j : TheInterface) (msg : ℕ) (tape : List ℕ) (c : TheCall) → other ≡ plan → j ≡ i → HasPacked plan i msg tape c → HasPacked other j msg tape c
own plan other i j msg tape c same there h =
    subst (λ (k : TheInterface). HasPacked other k msg tape c) (sym there) (subst (λ (p : PlanNo). HasPacked p i msg tape c) (sym same) h)

pub unpack-requires : goal.unpack-requires
unpack-requires c =
    let p = program_of c.args.program.now in
    let packed : c.chosen-packed.result.now ≡ (if c.in_ok-plain.plain then c.args.payload.now else c.take_packed.new.tape.items)
    = c.chosen-packed.ensures.chosen ∙ ap (λ (l : List ℕ). if c.in_ok-plain.plain then c.args.payload.now else l) c.as_slice.ensures.value in
    let (call, has) = c.requires.known in
    record {
      known = (
        call,
        own p.plan c.plan-plan.result p.interface (interface_of c.interface-interface.result.now) c.args.msg.0 c.chosen-packed.result.now call c.plan-plan.ensures.plan c.interface-interface.ensures.interface
            (subst (λ (l : List ℕ). HasPacked p.plan p.interface c.args.msg.0 l call) (sym packed) (c.in_ok-plain.ensures.packed call has)),
      );
    }

pub returns : goal.returns
returns c =
    let p = program_of c.args.program.now in
    let i = interface_of c.interface-interface.result.now in
    let packed : c.chosen-packed.result.now ≡ (if c.in_ok-plain.plain then c.args.payload.now else c.take_packed.new.tape.items)
    = c.chosen-packed.ensures.chosen ∙ ap (λ (l : List ℕ). if c.in_ok-plain.plain then c.args.payload.now else l) c.as_slice.ensures.value in
    record {
      call = IfOk-weaker c.unpack.result (λ call. (d : TheCall) → HasPacked c.plan-plan.result i c.args.msg.0 c.chosen-packed.result.now d → call_of call ≡ d)
          (λ call. (d : TheCall) → HasPayload p c.args.msg.0 c.args.payload.now d → call_of call ≡ d)
          (λ call one d has. one d (own p.plan c.plan-plan.result p.interface i c.args.msg.0 c.chosen-packed.result.now d c.plan-plan.ensures.plan c.interface-interface.ensures.interface
          (subst (λ (l : List ℕ). HasPacked p.plan p.interface c.args.msg.0 l d) (sym packed) (c.in_ok-plain.ensures.packed d has))))
          c.unpack.ensures.call;
    }
