use Rattle.std.proofs.Common.{subst, sym, rules}
use Rattle.std.proofs.lemmas.Int.{to_z-of_z}
use mir.Syntax.{w128}
use mir.Val.{SFits}
use Rattle.fl_value.specs.CallText.{Token, a_number}
use Rattle.fl_value.proofs.Reading.{minus_none, minus_found, digits_none, digits_found}
use Rattle.fl_value.proofs.tokens.read_number.Goals as goal

pub returns-in_err-value-clause-none : goal.returns-in_err-value-clause-none
returns-in_err-value-clause-none c =
    let none = minus_none c.args.bytes.now c.skip_blanks-start.result.now c.in-Some.digits.now c.skip_blanks-start.ensures.blank c.skip_blanks-start.ensures.stops c.in-Some.ensures.found c.in_err-value.ensures.none in
    rw c.from_residual.ensures none

pub returns-in-Some-clause-found : goal.returns-in-Some-clause-found
returns-in-Some-clause-found c =
    let found = minus_found c.args.bytes.now c.skip_blanks-start.result.now c.in-Some.digits.now c.in_ok-value.rest.now c.in_ok-value.value c.negative.result c.skip_blanks-start.ensures.blank c.in-Some.ensures.found c.in_ok-value.ensures.found c.negative.ensures.value in
    let fits : SFits w128 c.negative.result = search rules in
    subst (λ z. Token (a_number z) c.args.bytes.now c.in_ok-value.rest.now) (sym (to_z-of_z w128 c.negative.result fits)) found

pub returns-in_err-value-2-clause-none : goal.returns-in_err-value-2-clause-none
returns-in_err-value-2-clause-none c =
    let none = digits_none c.args.bytes.now c.skip_blanks-start.result.now c.skip_blanks-start.ensures.blank c.skip_blanks-start.ensures.stops c.in_default.ensures.none c.in_err-value-2.ensures.none in
    rw c.from_residual-in_err-value-2.ensures none

pub returns-clause-found : goal.returns-clause-found
returns-clause-found c =
    let found = digits_found c.args.bytes.now c.skip_blanks-start.result.now c.in_ok-value-2.rest.now c.in_ok-value-2.value c.positive.result c.skip_blanks-start.ensures.blank c.in_ok-value-2.ensures.found c.positive.ensures.value in
    let fits : SFits w128 c.positive.result = search rules in
    subst (λ z. Token (a_number z) c.args.bytes.now c.in_ok-value-2.rest.now) (sym (to_z-of_z w128 c.positive.result fits)) found
