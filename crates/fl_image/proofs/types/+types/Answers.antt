use Rattle.std.proofs.Common.{◌≡◌, ◌<◌, ◌++◌, ◌∷◌, [], map, sym, subst, arith}
use Rattle.std.proofs.lemmas.Result.{err_from_is_err_and}
use Rattle.std.proofs.lemmas.List.{map_push}
use Rattle.fl_interface.specs.Interface.{TheType, type_of}
use Rattle.fl_image.specs.Reading.{Read, Gives, type_at, many_at}
use Rattle.fl_image.proofs.Loop.{goes_on, ends, is_done}
use Rattle.fl_image.proofs.Nest.{no_code, too_deep, behind_code}
use Rattle.fl_image.proofs.types.+types.Goals as goal

pub fields-returns-in_err-field : goal.fields-returns-in_err-field
fields-returns-in_err-field t c =
    let p = err_from_is_err_and c.from_residual.result c.from_residual.ensures.1 in
    record { reads = rw (p.1, p.2) (ends c.in_err-field.field-0.0 (λ before. type_at c.args.left) (map type_of c.loop.found.items) c.args.count c.loop.counter c.loop.rest.now (many_at (type_at c.args.left) c.args.count c.args.bytes.now) c.loop-test.true c.in_err-field.ensures.reads c.loop.invariant) }

pub fields-loop-preserved : goal.fields-loop-preserved
fields-loop-preserved t c =
    let n = c.in_ok-field.field in
    let e : map type_of c.push.new.self.items ≡ map type_of c.loop.found.items ++ type_of n ∷ [] = rw c.in_ok-push.ensures.items (map_push _ c.loop.found.items n) in
    rw e (goes_on (λ before. type_at c.args.left) (map type_of c.loop.found.items) c.args.count c.loop.counter c.loop.rest.now (type_of n) c.in_ok-field.after.now (many_at (type_at c.args.left) c.args.count c.args.bytes.now) c.loop-test.true c.in_ok-field.ensures.reads c.loop.invariant)

pub fixed_type-returns-in_err-code : goal.fixed_type-returns-in_err-code
fixed_type-returns-in_err-code t c =
    let p = err_from_is_err_and c.from_residual.result c.from_residual.ensures.1 in
    record { reads = rw (p.1, p.2) (no_code c.in_err-code.field-0.0 c.args.left c.args.bytes.now c.in_err-code.ensures.reads) }

pub fixed_type-returns-then-left-eq0 : goal.fixed_type-returns-then-left-eq0
fixed_type-returns-then-left-eq0 t c = record { reads = too_deep c.args.left c.in_ok-code.code c.args.bytes.now c.in_ok-code.rest.now c.if-left-eq0.true c.in_ok-code.ensures.reads }

pub fixed_type-returns : goal.fixed_type-returns
fixed_type-returns t c =
    let some : 0 < c.args.left = omega (arith, c.if-left-eq0.false) in
    let e = behind_code c.args.left c.in_ok-code.code c.args.bytes.now c.in_ok-code.rest.now some c.in_ok-code.ensures.reads in
    record { reads = subst (λ (r : Read TheType). Gives (λ x. (type_of x.0, x.1.now)) c.coded_type.result r) (sym e) c.coded_type.ensures.reads }

pub fields-returns : goal.fields-returns
fields-returns t c = record { reads = is_done (λ before. type_at c.args.left) (map type_of c.loop.found.items) c.args.count c.loop.counter c.loop.rest.now (many_at (type_at c.args.left) c.args.count c.args.bytes.now) c.loop-test.false c.loop.invariant }
