use Rattle.std.proofs.Common.{map, sym, subst}
use Rattle.std.proofs.lemmas.Result.{err_from_is_err_and}
use Rattle.fl_interface.specs.Interface.{arg_type_of}
use Rattle.fl_value_data.specs.Value.{datum_of}
use Rattle.fl_wire.specs.Whole.{StopsWhole}
use Rattle.fl_wire.specs.declared.leaf.CallReadFault.{CallReadFault}
use Rattle.fl_wire.proofs.Wholes.{whole_read, whole_stop, whole_zeros}
use Rattle.fl_wire.proofs.call.read_whole.Goals as goal

pub returns-in_err-values-clause-stop : goal.returns-in_err-values-clause-stop
returns-in_err-values-clause-stop c =
    let p = err_from_is_err_and c.from_residual.result c.from_residual.ensures.1 in
    rw (p.1, p.2) (whole_stop c.in_err-values.field-0.0 c.args.plan (map arg_type_of c.args.types.now) c.args.frags.now c.in_err-values.ensures.stop)

pub returns-in_err-read_zeros-clause-stop : goal.returns-in_err-read_zeros-clause-stop
returns-in_err-read_zeros-clause-stop c =
    let p = err_from_is_err_and c.from_residual-in_err-read_zeros.result c.from_residual-in_err-read_zeros.ensures.1 in
    let (is, w) = c.in_err-read_zeros.ensures.wrong in
    let plan = c.args.plan in
    let ts = map arg_type_of c.args.types.now in
    let frags = c.args.frags.now in
    rw (p.1, p.2) (subst (λ (stop : CallReadFault). StopsWhole stop plan ts frags) (sym is)
    (whole_zeros plan ts frags (map datum_of c.in_ok-values.values.items) c.in_ok-values.end c.fragment_count-count.result c.requires.some c.fragment_count-count.ensures.count c.in_ok-values.ensures.within c.in_ok-values.ensures.read w))

pub returns-clause-read : goal.returns-clause-read
returns-clause-read c =
    whole_read c.args.plan (map arg_type_of c.args.types.now) c.args.frags.now (map datum_of c.in_ok-values.values.items) c.in_ok-values.end c.fragment_count-count.result c.requires.some c.fragment_count-count.ensures.count
    c.in_ok-values.ensures.within c.in_ok-values.ensures.read c.in_ok-read_zeros.ensures.zeros
