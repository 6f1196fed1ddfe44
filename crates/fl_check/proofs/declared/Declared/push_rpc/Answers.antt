use Rattle.fl_check.specs.Views.{before_of}
use Rattle.fl_check.proofs.Added.{second_new}
use Rattle.fl_check.proofs.declared.Declared.push_rpc.Goals as goal

pub push_message-requires-2 : goal.push_message-requires-2
push_message-requires-2 c = record { new = second_new (before_of c.args.self.now).messages (before_of c.push_message.new.self).messages _ _ c.in_ok-push_message.ensures.messages c.requires.two c.requires.no_response; word = c.requires.response }
