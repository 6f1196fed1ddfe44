use Rattle.std.proofs.lemmas.Result.{err_from_is_err_and}
use Rattle.fl_interface.specs.Interface.{arg_type_of}
use Rattle.fl_value_data.specs.Value.{datum_of}
use Rattle.fl_wire.specs.Shapes.{starts_after, next_argument, arguments_of}
use Rattle.fl_wire.proofs.Steps.{first_stop, come_self, come_read, come_rest, come_done}
use Rattle.fl_wire.proofs.Calls.{begins_argument}
use Rattle.fl_wire.proofs.call.read_next.Goals as goal

pub returns-in_err-start-clause-stop : goal.returns-in_err-start-clause-stop
returns-in_err-start-clause-stop c =
    let p = err_from_is_err_and c.from_residual.result c.from_residual.ensures.1 in
    let t = arg_type_of c.args.ty.now in
    let after = c.args.after_dynamic in
    rw (p.1, p.2) (first_stop (next_argument after t) (starts_after after) (λ u. arguments_of t) c.args.frags.now c.args.at (λ u d. d) c.in_err-start.field-0.0 (begins_argument after t) c.in_err-start.ensures.stop)

pub returns-in_err-value-clause-stop : goal.returns-in_err-value-clause-stop
returns-in_err-value-clause-stop c =
    let p = err_from_is_err_and c.from_residual-in_err-value.result c.from_residual-in_err-value.ensures.1 in
    let t = arg_type_of c.args.ty.now in
    let after = c.args.after_dynamic in
    let frags = c.args.frags.now in
    let start = c.in_ok-start.start in
    let come = come_read (next_argument after t) (next_argument after t) (starts_after after) (λ u. arguments_of t) frags c.args.at c.args.at start (λ d. d) (λ u d. d) tt
    (come_self (next_argument after t) frags c.args.at c.requires.within) (begins_argument after t) c.in_ok-start.ensures.later c.in_ok-start.ensures.within c.in_ok-start.ensures.read in
    rw (p.1, p.2) (come_rest (next_argument after t) (arguments_of t) frags c.args.at start (λ d. d) c.in_err-value.field-0.0 come c.in_err-value.ensures.stop)

pub returns-clause-read : goal.returns-clause-read
returns-clause-read c =
    let t = arg_type_of c.args.ty.now in
    let after = c.args.after_dynamic in
    let frags = c.args.frags.now in
    let start = c.in_ok-start.start in
    let come = come_read (next_argument after t) (next_argument after t) (starts_after after) (λ u. arguments_of t) frags c.args.at c.args.at start (λ d. d) (λ u d. d) tt
    (come_self (next_argument after t) frags c.args.at c.requires.within) (begins_argument after t) c.in_ok-start.ensures.later c.in_ok-start.ensures.within c.in_ok-start.ensures.read in
    come_done (next_argument after t) (arguments_of t) frags c.args.at start c.in_ok-value.end (λ d. d) (datum_of c.in_ok-value.value) come c.in_ok-value.ensures.later c.in_ok-value.ensures.read
