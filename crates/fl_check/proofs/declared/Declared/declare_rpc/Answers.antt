use Rattle.std.proofs.Common.{◌∙◌, []}
use Rattle.fl_check.specs.Views.{before_of}
use Rattle.fl_parse.specs.Tree.{name_of}
use Rattle.fl_check.proofs.FirstFaults.{tells_here, tells_past, none_past, err_of, memory_tells, ok_by}
use Rattle.fl_check.proofs.Added.{messages_added, same_message, same_two, two_names}
use Rattle.fl_check.proofs.Walks.{no_places}
use Rattle.fl_check.proofs.Looks.{call_after}
use Rattle.fl_check.proofs.declared.Declared.declare_rpc.Goals as goal

pub push_rpc-requires : goal.push_rpc-requires
push_rpc-requires c = record {
  no_call = c.in_ok-call.ensures.no_call;
  no_response = c.in_ok-call.ensures.no_response;
  two = two_names (name_of c.args.name.now) _ _ c.in_ok-call.ensures.call c.in_ok-call.ensures.response;
  call = c.in_ok-call.ensures.words.0;
  response = c.in_ok-call.ensures.words.1;
}

pub returns-in_err-call-clause-fault : goal.returns-in_err-call-clause-fault
returns-in_err-call-clause-fault c =
    let e = c.in_err-call.field-0.0 in
    err_of c.from_residual.result e _ c.from_residual.ensures.1 (tells_here e _ _ c.in_err-call.ensures.fault)

pub returns-in_err-ins-clause-fault : goal.returns-in_err-ins-clause-fault
returns-in_err-ins-clause-fault c =
    let e = c.in_err-ins.field-0.0 in
    err_of c.from_residual-in_err-ins.result e _ c.from_residual-in_err-ins.ensures.1 (tells_past e _ _ c.in_ok-call.ensures.sound c.in_err-ins.ensures.fault)

pub returns-clause-fault : goal.returns-clause-fault
returns-clause-fault c = memory_tells c.push_rpc.result _ c.push_rpc.ensures.memory

pub returns-clause-sound : goal.returns-clause-sound
returns-clause-sound c = ok_by c.push_rpc.result _ (none_past _ _ c.in_ok-call.ensures.sound ∙ c.in_ok-ins.ensures.sound)

pub returns-clause-after : goal.returns-clause-after
returns-clause-after c =
    messages_added c.push_rpc.result (before_of c.args.self.now) (before_of c.push_rpc.new.self) _ _ c.push_rpc.ensures.types c.push_rpc.ensures.messages
    (same_two _ _ _ _ (same_message _ _ _ _ c.in_ok-call.ensures.call c.in_ok-ins.ensures.ins) (same_message _ _ _ _ c.in_ok-call.ensures.response c.in_ok-ins.ensures.outs))

pub returns-in_err-call-clause-memory : goal.returns-in_err-call-clause-memory
returns-in_err-call-clause-memory c = call_after c.from_residual.result [] no_places

pub returns-in_err-ins-clause-memory : goal.returns-in_err-ins-clause-memory
returns-in_err-ins-clause-memory c = call_after c.from_residual-in_err-ins.result [] no_places

pub returns-clause-memory : goal.returns-clause-memory
returns-clause-memory c = call_after c.push_rpc.result [] no_places
