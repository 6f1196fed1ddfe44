use Rattle.fl_monitor.proofs.Boxes.{one_list, put_is_one_more, sent_is_one_less}
use Rattle.fl_monitor.proofs.law.law_outboxes_say_messages.Goals as goal

pub returns : goal.returns
returns c = record { one = one_list; put = put_is_one_more; sent = sent_is_one_less }
