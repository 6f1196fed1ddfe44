use Rattle.std.proofs.Common.{◌≤◌, length, map}
use Rattle.std.specs.List.{AllByRecursion}
use Rattle.fl_lex.specs.Token.{token_of}
use Rattle.fl_lex.specs.Spelling.{Spells}
use Rattle.fl_lex.specs.Outcome.{Fits}
use Rattle.fl_lex.proofs.lexer.lex.Given as goal

abbrev pub invariant-loop-rest : goal.invariant-loop-rest
invariant-loop-rest l = record {
  within : length l.rest ≤ length l.text;
  spelled : Spells l.text (map token_of l.items.items) l.rest;
  fits : AllByRecursion Fits (map token_of l.items.items);
}

abbrev pub decreases-loop-rest : goal.decreases-loop-rest
decreases-loop-rest l = length l.rest
