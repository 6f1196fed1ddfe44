-- A number's shortest digits.
use Rattle.std.proofs.Common.{◌≡◌, ℕ, ◌<◌, ◌≤◌, ◌^◌, true, length, sym, subst, refl, arith, le_refl}
use Rattle.std.specs.Cmp.{first_so, second_so}
use Rattle.std.proofs.lemmas.Bool.Decides.{nat_tests}
use Rattle.std.proofs.lemmas.Str.Parse.{IsDigitsTest, IsNumeralModel, numerals_by_weight, digits_value_short}
use Rattle.std.proofs.lemmas.Fmt.{decimal_nonempty, digits_decimal, digits_value-decimal, length-decimal-le}
use Rattle.fl_lex.specs.Spelling.{decimal_value, AllBytes}
use Rattle.fl_lex.specs.Words.{is_digit}
use Rattle.fl_lex.specs.Joined.{NumberIsShortest}
use Rattle.fl_lex.proofs.Cuts.{digit_bounds}

in_digits : (byte : ℕ) → 48 ≤ byte → byte ≤ 57 → is_digit byte ≡ true
in_digits byte low high = grind (arith, nat_tests)

digits_test : IsDigitsTest (λ digits. AllBytes is_digit digits)
digits_test = record {
  empty = refl;
  parts = λ byte bytes all. (digit_bounds byte (first_so (is_digit byte) _ all), second_so (is_digit byte) _ all);
  more = λ byte bytes range all. rw (in_digits byte range.0 range.1) all;
}

numerals : IsNumeralModel (λ digits. AllBytes is_digit digits) decimal_value
numerals = numerals_by_weight (λ digits. AllBytes is_digit digits) digits_test decimal_value (record { empty = refl; more = λ byte bytes range. refl })

pub number_is_shortest : NumberIsShortest
number_is_shortest value digits is =
    let number = is.of_kind in
    let small : value < 2 ^ 64 = omega (arith, is.fits) in
    let below : value < 10 ^ length digits =
    subst (λ v. v < 10 ^ length digits) (sym number.2) (digits_value_short numerals digits (length digits) number.1 (le_refl (length digits))) in (
      record { of_kind = (decimal_nonempty value small, digits_decimal numerals value small, sym (digits_value-decimal numerals value small)); fits = is.fits },
      length-decimal-le (length digits) value number.0 below small,
    )
