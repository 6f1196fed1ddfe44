use Rattle.fl_monitor.proofs.Calls.{fits_by_widths, each_call, one_message}
use Rattle.fl_monitor.proofs.law.law_messages_are_calls.Goals as goal

pub returns : goal.returns
returns c = record { fit = fits_by_widths; each = each_call; one = one_message }
