use Rattle.fl_history_orders.proofs.Turning.{logs_have_one_order}
use Rattle.fl_history_orders.proofs.law.law_logs_have_one_order.Goals as goal

pub returns : goal.returns
returns c = record { order = logs_have_one_order }
