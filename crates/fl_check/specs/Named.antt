-- A working file: messages that the checker keeps, by name.
use Rattle.std.specs.Prelude.{ℕ, Bool}
use Rattle.std.specs.Global.{Vec}
use Rattle.fl_lex.specs.Words.{is_name}
use Rattle.fl_interface.specs.declared.interface.ArgType.{ArgType}

-- the name is a word of at most 64 bytes
abbrev pub is_named : Vec ℕ × Vec ArgType → Bool
is_named m = is_name m.0.items
