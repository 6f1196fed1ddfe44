-- Tokens written one behind another, with one blank where two would run into one.
use Rattle.std.specs.Prelude.{◌≡◌, ℕ, Bool, true, false, if◌then◌else◌, List, [], ◌∷◌, ◌++◌, length, codes, map, ◌≤◌}
use Rattle.std.specs.Fmt.{decimal}
use Rattle.std.specs.List.{AllByRecursion}
use Rattle.fl_lex.specs.Token.{TheToken, TheTokens}
use Rattle.fl_lex.specs.Spelling.{token, IsItem}
use Rattle.fl_lex.specs.Outcome.{KindFits, Lexes, lexed}
use Rattle.fl_lex.specs.declared.token.TokenKind.{TokenKind}
use Rattle.fl_lex.specs.declared.token.TokenKind.TheVariants as kinds

-- a token without its place
pub record Sign : Type 0 where
  pub kind : TokenKind
  pub text : List ℕ

abbrev pub sign_of : TheToken → Sign
sign_of t = record { kind = t.kind; text = t.text }

-- What may go on behind a token: letters and digits behind a word, digits behind a number.
pub data Edge : Type 0 where
  closed : Edge
  to_digits : Edge
  to_letters : Edge

abbrev pub edge_of : TokenKind → Edge
edge_of kinds.Word = to_letters
edge_of (kinds.Number value) = to_digits
edge_of kinds.Description = closed
edge_of (kinds.Mark mark) = closed

-- whether a token of this kind would run into the one directly before it
abbrev pub runs_into : Edge → TokenKind → Bool
runs_into closed kind = false
runs_into to_digits kinds.Word = false
runs_into to_digits (kinds.Number value) = true
runs_into to_digits kinds.Description = false
runs_into to_digits (kinds.Mark mark) = false
runs_into to_letters kinds.Word = true
runs_into to_letters (kinds.Number value) = true
runs_into to_letters kinds.Description = false
runs_into to_letters (kinds.Mark mark) = false

-- the tokens' bytes, with one blank where two would run into one and no other
abbrev pub joined_after : Edge → List Sign → List ℕ
joined_after edge [] = []
joined_after edge (sign ∷ signs) = (if runs_into edge sign.kind then codes " " else []) ++ (sign.text ++ joined_after (edge_of sign.kind) signs)

abbrev pub joined : List Sign → List ℕ
joined = joined_after closed

-- a token of its kind, within the limits
pub record IsSign (sign : Sign) : Type 0 where
  pub of_kind : IsItem (token sign.kind) sign.text
  pub fits : KindFits sign.kind sign.text

-- joined tokens are lexed as the same tokens, where the text isn't too long
abbrev pub JoinedLexes : Type 0
JoinedLexes = (signs : List Sign) → AllByRecursion IsSign signs → length (joined signs) ≤ 65536
    → (found : TheTokens) × Lexes (joined signs) (lexed found) × (map sign_of found.tokens ≡ signs)

-- the tokens of a text are such signs, and no text of theirs is shorter than they are joined
abbrev pub JoinedIsShortest : Type 0
JoinedIsShortest = (text : List ℕ) (found : TheTokens) → Lexes text (lexed found)
    → AllByRecursion IsSign (map sign_of found.tokens) × (length (joined (map sign_of found.tokens)) ≤ length text)

-- a number in its shortest digits is such a sign too, and no other digits of its value are fewer
abbrev pub NumberIsShortest : Type 0
NumberIsShortest = (value : ℕ) (digits : List ℕ) → IsSign (record { kind = kinds.Number value; text = digits })
    → IsSign (record { kind = kinds.Number value; text = decimal value }) × (length (decimal value) ≤ length digits)
