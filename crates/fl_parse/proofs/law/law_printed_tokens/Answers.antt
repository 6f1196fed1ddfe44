use Rattle.fl_parse.proofs.Writes.{printed_derives}
use Rattle.fl_parse.proofs.Prints.{printed_is_text}
use Rattle.fl_parse.proofs.law.law_printed_tokens.Goals as goal

pub returns-clause-derives : goal.returns-clause-derives
returns-clause-derives c = printed_derives

pub returns-clause-text : goal.returns-clause-text
returns-clause-text c = printed_is_text
