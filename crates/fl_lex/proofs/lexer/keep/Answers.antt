use Rattle.std.proofs.Common.{Option, subst}
use Rattle.fl_lex.specs.declared.token.TokenKind.{TokenKind}
use Rattle.fl_lex.specs.Item.{item_of, IsRight}
use Rattle.fl_lex.proofs.Names.{token_named}
use Rattle.fl_lex.proofs.lexer.keep.Goals as goal

pub invariant_of-token : goal.invariant_of-token
invariant_of-token c =
    let right = subst (λ (kind : Option TokenKind). IsRight (item_of kind) c.args.bytes.now) c.in-Some.is c.requires.right in
    record { named = token_named c.in-Some.kind c.args.bytes.now right }
