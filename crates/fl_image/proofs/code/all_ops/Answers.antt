use Rattle.std.proofs.Common.{◌≡◌, ◌++◌, ◌∷◌, [], map}
use Rattle.std.proofs.lemmas.Result.{err_from_is_err_and}
use Rattle.std.proofs.lemmas.List.{map_push}
use Rattle.fl_image.specs.Reading.{codes_at, many_at}
use Rattle.fl_image.specs.Views.{codes_view}
use Rattle.fl_image.proofs.Loop.{goes_on, ends, is_done}
use Rattle.fl_image.proofs.code.all_ops.Goals as goal

pub returns-in_err-ops : goal.returns-in_err-ops
returns-in_err-ops c =
    let p = err_from_is_err_and c.from_residual.result c.from_residual.ensures.1 in
    record { reads = rw (p.1, p.2) (ends c.in_err-ops.field-0.0 (λ before. codes_at) (map codes_view c.loop.found.items) c.args.count c.loop.counter c.loop.rest.now (many_at codes_at c.args.count c.args.bytes.now) c.loop-test.true c.in_err-ops.ensures.reads c.loop.invariant) }

pub loop-preserved : goal.loop-preserved
loop-preserved c =
    let n = c.in_ok-ops.ops in
    let e : map codes_view c.push.new.self.items ≡ map codes_view c.loop.found.items ++ codes_view n ∷ [] = rw c.in_ok-push.ensures.items (map_push _ c.loop.found.items n) in
    rw e (goes_on (λ before. codes_at) (map codes_view c.loop.found.items) c.args.count c.loop.counter c.loop.rest.now (codes_view n) c.in_ok-ops.after.now (many_at codes_at c.args.count c.args.bytes.now) c.loop-test.true c.in_ok-ops.ensures.reads c.loop.invariant)

pub returns : goal.returns
returns c = record { reads = is_done (λ before. codes_at) (map codes_view c.loop.found.items) c.args.count c.loop.counter c.loop.rest.now (many_at codes_at c.args.count c.args.bytes.now) c.loop-test.false c.loop.invariant }
