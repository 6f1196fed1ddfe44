use Rattle.std.proofs.Common.{refl, arith}
use Rattle.std.proofs.lemmas.List.{length-map}
use Rattle.fl_interface.specs.Interface.{message_of, interface_of}
use Rattle.fl_compile.specs.Programs.{program_of}
use Rattle.fl_c_operations.proofs.Coded.{none_coded, next_coded, all_coded}
use Rattle.fl_c_operations.proofs.codecs.codecs_of.Goals as goal

pub loop-msg-init : goal.loop-msg-init
loop-msg-init c = none_coded (program_of c.args.program.now) _ c.in_ok-codecs.ensures.items

pub loop-msg-preserved : goal.loop-msg-preserved
loop-msg-preserved c =
    next_coded (program_of c.args.program.now) c.plan-plan.result (interface_of c.interface-interface.result.now) c.loop-msg.msg c.loop-msg.msg c.loop-msg.codecs.items _ _
    c.interface-interface.ensures.interface c.plan-plan.ensures.plan refl c.loop-msg.invariant c.in_ok-push.ensures.items c.of.ensures.some c.of.ensures.none

pub returns : goal.returns
returns c =
    let i = c.interface-interface.result.now in
    let many = length-map i.messages.items message_of in
    record {
      codecs = all_coded (program_of c.args.program.now) (interface_of i) c.loop-msg.msg c.loop-msg.codecs.items c.interface-interface.ensures.interface
          (omega (arith, many, c.loop-msg-test.false, c.loop-msg.auto.msg-end, c.len-msg-end.ensures)) i.within c.loop-msg.invariant;
    }
