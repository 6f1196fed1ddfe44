use Rattle.std.proofs.Common.{◌≡◌, ◌+◌, ◌*◌, ◌^◌, ◌≤◌, length, drop}
use Rattle.fl_lex.specs.Spelling.{decimal_value}
use Rattle.fl_lex.proofs.item.value_of.Given as goal

abbrev pub invariant-loop-digit : goal.invariant-loop-digit
invariant-loop-digit l = record {
  small : l.value ≤ 1000000;
  whole : l.value * 10 ^ length (drop l.digit-index l.digits) + decimal_value (drop l.digit-index l.digits) ≡ decimal_value l.digits;
}
