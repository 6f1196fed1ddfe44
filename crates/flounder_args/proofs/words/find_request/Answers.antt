use Rattle.std.proofs.Common.{map}
use Rattle.std.specs.Prelude.{option_map}
use Rattle.std.proofs.lemmas.Result.{err_from_is_err_and}
use Rattle.clap.specs.Words.{app_of}
use Rattle.flounder_args.specs.Words.{asked_by}
use Rattle.flounder_args.proofs.Asking.{words_ask, words_accepted, words_refused}
use Rattle.flounder_args.proofs.words.find_request.Goals as goal

pub returns-in_err-matches-clause-refused : goal.returns-in_err-matches-clause-refused
returns-in_err-matches-clause-refused g c =
    let p = err_from_is_err_and c.from_residual.result c.from_residual.ensures.1 in
    rw (p.1, p.2) (words_refused (map g.S.AsStr.text c.args.words.now) (app_of c.args.command.now) c.in_err-matches.field-0.0 c.requires.is.is_app c.in_err-matches.ensures.kinds)

pub returns-clause-asked : goal.returns-clause-asked
returns-clause-asked g c =
    words_ask (map g.S.AsStr.text c.args.words.now) (app_of c.args.command.now) c.in_ok-matches.matches (option_map asked_by c.request_of.result) c.requires.is.is_app c.in_ok-matches.ensures.ok.2
    c.request_of.ensures.asked

pub returns-clause-refused : goal.returns-clause-refused
returns-clause-refused g c =
    words_accepted (map g.S.AsStr.text c.args.words.now) (app_of c.args.command.now) c.requires.is.is_app c.in_ok-matches.ensures.kinds
