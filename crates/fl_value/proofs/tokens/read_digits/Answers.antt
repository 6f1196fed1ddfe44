use Rattle.std.proofs.Common.{◌≡◌, arith, subst, sym, take, true}
use Rattle.std.specs.List.{list_all}
use Rattle.fl_lex.specs.Words.{is_digit}
use Rattle.fl_value.proofs.Scan.{digits_count, run_passes}
use Rattle.fl_value.proofs.Reading.{counted_at}
use Rattle.fl_value.proofs.tokens.read_digits.Goals.{then-count-eq0-via-then-count-eq0, then-count-eq0-via-else-count-eq0+then-count-gt20}
use Rattle.fl_value.proofs.tokens.read_digits.Goals as goal

pub returns-then-count-eq0-clause-none : goal.returns-then-count-eq0-clause-none
returns-then-count-eq0-clause-none c = λ n rest d.
    let r = digits_count c.args.bytes.now n rest d in
    elim c.then-count-eq0.branch [ then-count-eq0-via-then-count-eq0 w ↦ omega (arith, r.0, r.1, w.if-count-eq0, c.count_digits-count.ensures.exact) | then-count-eq0-via-else-count-eq0+then-count-gt20 w ↦ omega (arith, r.0, r.1, c.count_digits-count.ensures.exact) ]

pub digits_value-requires-clause-digits : goal.digits_value-requires-clause-digits
digits_value-requires-clause-digits c =
    let bytes = c.args.bytes.now in
    subst (λ n. list_all is_digit (take n bytes) ≡ true) (sym c.count_digits-count.ensures.exact) (run_passes is_digit bytes)

pub returns-clause-found : goal.returns-clause-found
returns-clause-found c = counted_at c.args.bytes.now c.count_digits-count.result c.digits_value.result c.count_digits-count.ensures.exact c.if-count-eq0.false c.if-count-gt20.false c.digits_value.ensures.value
