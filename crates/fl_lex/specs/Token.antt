-- Tokens as contracts see them: what each is, its bytes, and where it begins.
use Rattle.std.specs.Prelude.{ℕ, List, map}
use Rattle.fl_lex.specs.declared.token.TokenKind.{TokenKind}
use Rattle.fl_lex.specs.declared.token.Token.{Token}
use Rattle.fl_lex.specs.declared.token.Tokens.{Tokens}

pub record TheToken : Type 0 where
  pub kind : TokenKind
  pub text : List ℕ
  pub at : ℕ

-- the tokens of a text, and the text's length
pub record TheTokens : Type 0 where
  pub tokens : List TheToken
  pub end : ℕ

abbrev pub token_of : Token → TheToken
token_of t = record { kind = t.kind; text = t.text.now; at = t.at }

abbrev pub tokens_of : Tokens → TheTokens
tokens_of ts = record { tokens = map token_of ts.items.items; end = ts.end }
