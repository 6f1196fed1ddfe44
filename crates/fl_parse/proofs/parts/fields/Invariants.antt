use Rattle.std.proofs.Common.{map, length}
use Rattle.fl_lex.specs.declared.token.Mark.TheVariants.{CloseBrace}
use Rattle.fl_lex.specs.Token.{token_of}
use Rattle.fl_parse.specs.Tree.{field_of}
use Rattle.fl_parse.specs.Grammar.{is_mark}
use Rattle.fl_parse.specs.Reading.{many_at, field_at, fields_at}
use Rattle.fl_parse.proofs.Loops.{Left}
use Rattle.fl_parse.proofs.parts.fields.Given as goal

abbrev pub invariant-loop-rest : goal.invariant-loop-rest
invariant-loop-rest l =
    Left (many_at (λ token. is_mark token CloseBrace) field_at) (fields_at (map token_of l.fn.tokens)) (map field_of l.fields.items) (map token_of l.rest)

abbrev pub decreases-loop-rest : goal.decreases-loop-rest
decreases-loop-rest l = length l.rest
