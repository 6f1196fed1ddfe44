use Rattle.fl_value_data.specs.Value.{call_of}
use Rattle.fl_world_events.proofs.Ends.{called_kept}
use Rattle.fl_world_events.proofs.Last.{on_err, kept_last}
use Rattle.fl_world_events.proofs.sending.call_kept.Goals as goal

pub returns-in-Some-clause-calls : goal.returns-in-Some-clause-calls
returns-in-Some-clause-calls c = called_kept (call_of c.args.call.now) c.args.binding.now _ c.call.new.self c.in-Some.is c.call.result c.call.ensures.calls c.answer_call.result c.answer_call.ensures.called

pub returns-in-Some-clause-last : goal.returns-in-Some-clause-last
returns-in-Some-clause-last c = on_err c.answer_call.result (kept_last c.args.binding.now _ c.call.new.self c.in-Some.is (call_of c.args.call.now) c.call.result c.call.ensures.calls) c.answer_call.ensures.memory
