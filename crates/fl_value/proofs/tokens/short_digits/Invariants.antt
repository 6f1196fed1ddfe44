use Rattle.std.proofs.Common.{◌≡◌, ◌+◌, ◌-◌, ◌≤◌, ◌<◌, ◌^◌, length, take, drop}
use Rattle.std.specs.List.{prefix_len}
use Rattle.std.specs.Str.Parse.{digits_value}
use Rattle.fl_lex.specs.Words.{is_digit}
use Rattle.fl_value.proofs.tokens.short_digits.Given as goal

abbrev pub invariant-loop-count : goal.invariant-loop-count
invariant-loop-count l = record {
  value : l.count ≤ 19 → (l.value ≡ digits_value 10 (take l.count l.bytes)) × (l.value < 10 ^ l.count);
  within : l.count ≤ length l.bytes;
  same : l.count + prefix_len is_digit (drop l.count l.bytes) ≡ prefix_len is_digit l.bytes;
}

abbrev pub decreases-loop-count : goal.decreases-loop-count
decreases-loop-count l = length l.bytes - l.count
