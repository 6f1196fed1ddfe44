-- Interfaces of texts: their names are words, and their enums are short.
use Rattle.std.specs.Prelude.{◌≡◌, ℕ, ◌&&◌, nat_le, Bool, true, List}
use Rattle.std.specs.List.{list_all}
use Rattle.fl_lex.specs.Token.{TheTokens}
use Rattle.fl_lex.specs.Words.{is_name}
use Rattle.fl_lex.specs.Outcome.{IsLexed}
use Rattle.fl_parse.specs.Tree.{TheTree}
use Rattle.fl_parse.specs.Grammar.{Derives}
use Rattle.fl_interface.specs.Types.{TheType, scalar, enumeration, structure, array, TheTypes, no_more, field}
use Rattle.fl_interface.specs.Types.{TheArgType, fixed, text, sized, TheMessage, TheInterface}
use Rattle.fl_check.specs.Checks.{StandsFor}

-- a text stands for an interface: its bytes spell tokens, these are written for a tree, and the tree stands for the interface
pub record TextStandsFor (bytes : List ℕ) (i : TheInterface) : Type 0 where
  pub tokens : TheTokens
  pub tree : TheTree
  pub spells : IsLexed bytes tokens
  pub derives : Derives tokens.tokens tree
  pub checks : StandsFor tree i

abbrev mutual
  -- enums of at most 65,535 enumerators
  pub has_short_enums : TheType → Bool
  has_short_enums (scalar s) = true
  has_short_enums (enumeration n) = nat_le n 65535
  has_short_enums (structure ts) = have_short_enums ts
  has_short_enums (array n t) = has_short_enums t

  -- each field of a struct
  pub have_short_enums : TheTypes → Bool
  have_short_enums no_more = true
  have_short_enums (field t ts) = has_short_enums t && have_short_enums ts

-- an argument: a string has no enum in it, a sized array those of its elements' type
abbrev pub argument_has_short_enums : TheArgType → Bool
argument_has_short_enums (fixed t) = has_short_enums t
argument_has_short_enums (text most) = true
argument_has_short_enums (sized most t) = has_short_enums t

-- a message whose name is a word of at most 64 bytes, and whose enums are short
abbrev pub is_message_spellable : TheMessage → Bool
is_message_spellable m = is_name m.name && list_all argument_has_short_enums m.args

-- an interface whose name is a word of at most 64 bytes, and each of whose messages is as above
abbrev pub is_spellable : TheInterface → Bool
is_spellable i = is_name i.name && list_all is_message_spellable i.messages

-- The interface that a text stands for has names that are words of at most 64 bytes, and enums of at most 65,535 enumerators.
abbrev pub TextsAreSpellable : Type 0
TextsAreSpellable = (bytes : List ℕ) (i : TheInterface) → TextStandsFor bytes i → is_spellable i ≡ true
