use Rattle.std.proofs.Common.{◌≡◌, map, drop}
use Rattle.std.specs.List.{list_all}
use Rattle.fl_interface.specs.Interface.{TheMessage, message_of}
use Rattle.fl_interface.specs.Counts.{argument_words_fit}
use Rattle.fl_interface.proofs.bounds.counts_fit.Given as goal

abbrev pub invariant-loop-message : goal.invariant-loop-message
invariant-loop-message l =
    list_all (λ m. list_all argument_words_fit (TheMessage.args m)) (map message_of (drop l.message-index l.messages))
    ≡ list_all (λ m. list_all argument_words_fit (TheMessage.args m)) (map message_of l.messages)
