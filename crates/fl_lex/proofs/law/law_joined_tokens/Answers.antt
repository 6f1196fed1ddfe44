use Rattle.fl_lex.proofs.Signs.{joined_lexes}
use Rattle.fl_lex.proofs.Shortest.{joined_is_shortest}
use Rattle.fl_lex.proofs.Numbers.{number_is_shortest}
use Rattle.fl_lex.proofs.law.law_joined_tokens.Goals as goal

pub returns-clause-lexed : goal.returns-clause-lexed
returns-clause-lexed c = joined_lexes

pub returns-clause-shortest : goal.returns-clause-shortest
returns-clause-shortest c = joined_is_shortest

pub returns-clause-number : goal.returns-clause-number
returns-clause-number c = number_is_shortest
