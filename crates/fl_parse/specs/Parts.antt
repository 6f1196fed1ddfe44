-- A working file: what the parser reads single tokens as, as contracts see it.
use Rattle.fl_parse.specs.declared.parts.BracketStart as insides
use Rattle.fl_parse.specs.declared.parts.BracketStart.TheVariants as inside_variants
use Rattle.fl_parse.specs.declared.parser.DeclarationWord as openings
use Rattle.fl_parse.specs.declared.parser.DeclarationWord.TheVariants as opening_variants
use Rattle.fl_parse.specs.declared.parser.TypedefWord as defineds
use Rattle.fl_parse.specs.declared.parser.TypedefWord.TheVariants as defined_variants
use Rattle.std.specs.Prelude.{ℕ, map}
use Rattle.fl_lex.specs.Token.{token_of}
use Rattle.fl_parse.specs.declared.stop.ParseStop.{ParseStop}
use Rattle.fl_parse.specs.declared.stop.ParseStop.TheVariants as stops
use Rattle.fl_parse.specs.declared.fault.ParseFault.{ParseFault}
use Rattle.fl_parse.specs.declared.fault.ParseFault.TheVariants as faults
use Rattle.fl_parse.specs.Reading.{place_of}
use Rattle.fl_parse.specs.Tree.{name_of, number_of}
use Rattle.fl_parse.specs.Grammar.{Inside, bound_word, length_word, Opening, alias_word, typedef_word, message_word, rpc_word, Defined, enum_word}
use Rattle.fl_parse.specs.Grammar.{struct_word, type_word}

-- what the parser found first between an argument's brackets, in the grammar's terms
abbrev pub inside_of : insides.BracketStart → Inside
inside_of (inside_variants.Bound value) = bound_word (number_of value)
inside_of (inside_variants.Length length) = length_word (name_of length)

-- the word with which the parser found a declaration to begin, in the grammar's terms
abbrev pub opening_of : openings.DeclarationWord → Opening
opening_of opening_variants.Alias = alias_word
opening_of opening_variants.Typedef = typedef_word
opening_of (opening_variants.Message kind) = message_word kind
opening_of opening_variants.Rpc = rpc_word

-- what the parser found right behind `typedef`, in the grammar's terms
abbrev pub defined_of : defineds.TypedefWord → Defined
defined_of defined_variants.Enumeration = enum_word
defined_of defined_variants.Structure = struct_word
defined_of (defined_variants.Type name) = type_word (name_of name)

-- the fault that a stop comes to, in a text that ends at end
abbrev pub stop_fault : ParseStop → ℕ → ParseFault
stop_fault stops.Memory end = faults.Memory
stop_fault (stops.Unexpected rest) end = faults.NotExpected (place_of (map token_of rest.now) end)
