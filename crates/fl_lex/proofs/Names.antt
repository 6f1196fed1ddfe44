-- A word within the limit of length is a name.
use Rattle.std.proofs.Common.{◌≡◌, ℕ, ◌≤◌, true, List, [], ◌∷◌, length, nat_le}
use Rattle.std.specs.List.{list_all}
use Rattle.std.proofs.lemmas.Bool.{le-leb}
use Rattle.fl_lex.specs.Words.{is_letter, is_word_byte, is_word, is_name}
use Rattle.fl_lex.specs.Spelling.{IsWord, token}
use Rattle.fl_lex.specs.Item.{IsRight}
use Rattle.fl_lex.specs.declared.token.TokenKind.{TokenKind}
use Rattle.fl_lex.specs.declared.token.TokenKind.TheVariants as kinds
use Rattle.fl_lex.proofs.Classes.{both}

word_of : (text : List ℕ) → IsWord text → is_word text ≡ true
word_of [] h = absurd h
word_of (b ∷ more) h = both (is_letter b) (list_all is_word_byte more) h.0 h.1

pub name_of_word : (text : List ℕ) → IsWord text → length text ≤ 64 → is_name text ≡ true
name_of_word text h few = both (nat_le (length text) 64) (is_word text) (le-leb (length text) 64 few) (word_of text h)

-- so is the token that a word's item is
pub token_named : (kind : TokenKind) (bytes : List ℕ) → IsRight (token kind) bytes → kind ≡ kinds.Word → is_name bytes ≡ true
token_named kinds.Word bytes h e = name_of_word bytes h.is_item h.fits
token_named (kinds.Number value) bytes h e = absurd (cc)
token_named kinds.Description bytes h e = absurd (cc)
token_named (kinds.Mark mark) bytes h e = absurd (cc)
