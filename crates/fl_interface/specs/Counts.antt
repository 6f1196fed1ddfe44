-- Types whose counts and bounds fit the words that hold them in memory: at most 2 ^ 32 enumerators, bytes or elements.
-- Those of every interface in memory do.
use Rattle.std.specs.Prelude.{◌^◌, ◌&&◌, nat_le, Bool, true, List}
use Rattle.std.specs.List.{list_all}
use Rattle.fl_interface.specs.Types.{TheType, scalar, enumeration, structure, array, TheTypes, no_more, field, TheArgType, fixed, text, sized, TheMessage}
use Rattle.fl_interface.specs.Types.{TheInterface}

abbrev mutual
  pub words_fit : TheType → Bool
  words_fit (scalar s) = true
  words_fit (enumeration n) = nat_le n (2 ^ 32)
  words_fit (structure ts) = all_words_fit ts
  words_fit (array n t) = words_fit t

  pub all_words_fit : TheTypes → Bool
  all_words_fit no_more = true
  all_words_fit (field t ts) = words_fit t && all_words_fit ts

abbrev pub argument_words_fit : TheArgType → Bool
argument_words_fit (fixed t) = words_fit t
argument_words_fit (text max) = nat_le max (2 ^ 32)
argument_words_fit (sized max t) = nat_le max (2 ^ 32) && words_fit t

abbrev pub messages_words_fit : List TheMessage → Bool
messages_words_fit ms = list_all (λ m. list_all argument_words_fit (TheMessage.args m)) ms

abbrev pub interface_words_fit : TheInterface → Bool
interface_words_fit i = messages_words_fit i.messages
