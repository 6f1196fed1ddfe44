use Rattle.std.proofs.Common.{length, refl, sym}
use Rattle.std.proofs.lemmas.Bool.{ltb-true, ltb-false}
use Rattle.std.proofs.lemmas.Option.{slice_get_read, slice_get_past}
use Rattle.fl_machine.proofs.intake.op_at.Goals as goal

pub returns-in-Some : goal.returns-in-Some
returns-in-Some c =
    let ops = c.args.ops.now in
    let inside = ltb-true c.args.place (length ops) (sym c.in-Some.ensures.lookup.0) in
    sym (slice_get_read ops (length ops) c.args.place c.in-Some.op.now refl inside c.in-Some.ensures.lookup.1)

pub returns-in-None : goal.returns-in-None
returns-in-None c =
    let ops = c.args.ops.now in
    sym (slice_get_past ops c.args.place (ltb-false c.args.place (length ops) (sym c.in-None.ensures.lookup.0)))
