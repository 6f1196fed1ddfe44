use Rattle.std.proofs.lemmas.Result.{IfOk-weaker}
use Rattle.fl_value_data.specs.Value.{call_of}
use Rattle.fl_world_events.proofs.Last.{on_err, called_last}
use Rattle.fl_world_events.proofs.sending.call_in.Goals as goal

pub returns-clause-calls : goal.returns-clause-calls
returns-clause-calls c = IfOk-weaker c.answer_call.result _ _ (λ a is. record { whole = c.law_whole.ensures.whole; still = c.law_whole-2.ensures.whole; event = (c.call-outcome.result, c.call-outcome.ensures.calls, is) }) c.answer_call.ensures.called

pub returns-clause-last : goal.returns-clause-last
returns-clause-last c = on_err c.answer_call.result (called_last c.args.core.now c.call-outcome.new.self c.args.place (call_of c.args.call.now) c.call-outcome.result c.call-outcome.ensures.calls) c.answer_call.ensures.memory
