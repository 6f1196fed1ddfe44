use Rattle.std.proofs.Common.{◌≡◌, map, ap, ◌∙◌, rules}
use Rattle.fl_lex.specs.Words.{is_name}
use Rattle.std.proofs.lemmas.Result.{err_from_is_err_and}
use Rattle.fl_value_data.specs.Value.{datum_of}
use Rattle.fl_value.specs.CallText.{IsCall}
use Rattle.fl_value.proofs.Resolved.{wants_if}
use Rattle.fl_value.proofs.calls.read_call_text.Goals as goal

pub returns-in_err-name-clause-fault : goal.returns-in_err-name-clause-fault
returns-in_err-name-clause-fault c =
    let p = err_from_is_err_and c.from_residual.result c.from_residual.ensures.1 in
    rw (p.1, p.2) c.in_err-name.ensures.fault

pub returns-in_err-name-clause-call : goal.returns-in_err-name-clause-call
returns-in_err-name-clause-call c =
    let p = err_from_is_err_and c.from_residual.result c.from_residual.ensures.1 in
    rw (p.1, p.2) c.in_err-name.ensures.call

pub returns-in_err-bytes-clause-call : goal.returns-in_err-bytes-clause-call
returns-in_err-bytes-clause-call c =
    wants_if c.from_residual-in_err-bytes.result (IsCall c.args.bytes.now) (c.in_ok-name.name.now, map datum_of c.in_ok-name.args.items, c.in_ok-name.ensures.found)

pub invariant_of-name : goal.invariant_of-name
invariant_of-name c =
    let same : c.in_ok-bytes.bytes.items ≡ c.in_ok-name.name.now = search rules in
    record { named = ap is_name same ∙ c.in_ok-name.ensures.found.word }
