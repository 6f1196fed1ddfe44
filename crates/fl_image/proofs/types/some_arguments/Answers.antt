use Rattle.std.proofs.Common.{◌≡◌, ◌++◌, ◌∷◌, [], map}
use Rattle.std.proofs.lemmas.Result.{err_from_is_err_and}
use Rattle.std.proofs.lemmas.List.{map_push}
use Rattle.fl_interface.specs.Interface.{arg_type_of}
use Rattle.fl_image.specs.Reading.{argument_at, many_at}
use Rattle.fl_image.proofs.Loop.{goes_on, ends, is_done}
use Rattle.fl_image.proofs.types.some_arguments.Goals as goal

pub returns-in_err-argument : goal.returns-in_err-argument
returns-in_err-argument c =
    let p = err_from_is_err_and c.from_residual.result c.from_residual.ensures.1 in
    record { reads = rw (p.1, p.2) (ends c.in_err-argument.field-0.0 (λ before. argument_at) (map arg_type_of c.loop.found.items) c.args.count c.loop.counter c.loop.rest.now (many_at argument_at c.args.count c.args.bytes.now) c.loop-test.true c.in_err-argument.ensures.reads c.loop.invariant) }

pub loop-preserved : goal.loop-preserved
loop-preserved c =
    let n = c.in_ok-argument.argument in
    let e : map arg_type_of c.push.new.self.items ≡ map arg_type_of c.loop.found.items ++ arg_type_of n ∷ [] = rw c.in_ok-push.ensures.items (map_push _ c.loop.found.items n) in
    rw e (goes_on (λ before. argument_at) (map arg_type_of c.loop.found.items) c.args.count c.loop.counter c.loop.rest.now (arg_type_of n) c.in_ok-argument.after.now (many_at argument_at c.args.count c.args.bytes.now) c.loop-test.true c.in_ok-argument.ensures.reads c.loop.invariant)

pub returns : goal.returns
returns c = record { reads = is_done (λ before. argument_at) (map arg_type_of c.loop.found.items) c.args.count c.loop.counter c.loop.rest.now (many_at argument_at c.args.count c.args.bytes.now) c.loop-test.false c.loop.invariant }
