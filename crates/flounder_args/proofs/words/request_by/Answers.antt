use Rattle.std.proofs.Common.{map, ap, sym, ◌∙◌}
use Rattle.std.specs.Prelude.{option_map}
use Rattle.std.proofs.lemmas.Result.{err_from_is_err_and}
use Rattle.flounder_args.specs.Words.{asked_by}
use Rattle.flounder_args.proofs.Asking.{first_refused, words_lack, words_taken}
use Rattle.flounder_args.proofs.words.request_by.Goals as goal

pub returns-in_err-request-clause-refused : goal.returns-in_err-request-clause-refused
returns-in_err-request-clause-refused g c =
    let p = err_from_is_err_and c.from_residual.result c.from_residual.ensures.1 in
    rw (p.1, p.2) (first_refused (map g.S.AsStr.text c.args.words.now) c.in_err-request.field-0.0 c.in_err-request.ensures.refused)

pub returns-in-Some-clause-refused : goal.returns-in-Some-clause-refused
returns-in-Some-clause-refused g c =
    words_taken (map g.S.AsStr.text c.args.words.now) (asked_by c.in-Some.request) c.in_ok-request.ensures.refused
    (ap (option_map asked_by) (sym c.in-Some.is) ∙ c.in_ok-request.ensures.asked)

pub returns-in_ok-error-in-None-clause-refused : goal.returns-in_ok-error-in-None-clause-refused
returns-in_ok-error-in-None-clause-refused g c =
    words_lack (map g.S.AsStr.text c.args.words.now) c.in_ok-error-in-None.field-0 c.in_ok-request.ensures.refused
    (ap (option_map asked_by) (sym c.in-None.is) ∙ c.in_ok-request.ensures.asked) c.in_ok-error-in-None.ensures.kind
