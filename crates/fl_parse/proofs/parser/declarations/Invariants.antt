use Rattle.std.proofs.Common.{map, length}
use Rattle.fl_lex.specs.declared.token.Mark.TheVariants.{CloseBrace}
use Rattle.fl_lex.specs.Token.{token_of}
use Rattle.fl_parse.specs.Tree.{declaration_of}
use Rattle.fl_parse.specs.Grammar.{is_mark}
use Rattle.fl_parse.specs.Reading.{many_at, declaration_at, declarations_at}
use Rattle.fl_parse.proofs.Loops.{Left}
use Rattle.fl_parse.proofs.parser.declarations.Given as goal

abbrev pub invariant-loop-alloc : goal.invariant-loop-alloc
invariant-loop-alloc l =
    Left (many_at (λ token. is_mark token CloseBrace) declaration_at) (declarations_at (map token_of l.fn.tokens)) (map declaration_of l.declarations.items) (map token_of l.rest)

abbrev pub decreases-loop-alloc : goal.decreases-loop-alloc
decreases-loop-alloc l = length l.rest
