use Rattle.std.proofs.Common.{◌≡◌, ◌<◌, ◌^◌, ◌≤◌, drop, length}
use Rattle.std.specs.List.{list_all}
use Rattle.std.specs.Str.Parse.{digits_value_after, digits_value}
use Rattle.fl_lex.specs.Words.{is_digit}
use Rattle.fl_script_lines.proofs.word.number.Given as goal

abbrev pub invariant-loop-digit : goal.invariant-loop-digit
invariant-loop-digit l =
    (digits_value_after 10 l.value (drop l.digit-index l.word) ≡ digits_value 10 l.word)
    × (list_all is_digit (drop l.digit-index l.word) ≡ list_all is_digit l.word)
    × (l.value < 10 ^ l.digit-index) × (length l.word ≤ 9)
