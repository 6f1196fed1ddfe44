use Rattle.std.proofs.Common.{List, true, inl, refl, ◌∙◌, ap}
use Rattle.std.specs.Prelude.{slice_get, []}
use Rattle.fl_base.specs.declared.fragment.Frag.{Frag}
use Rattle.fl_machine.specs.declared.cursor.SendCursor.{SendCursor}
use Rattle.fl_machine.proofs.Pours.{holds_none}
use Rattle.fl_machine.proofs.Fragments.{first_is_location, starts, sent}
use Rattle.fl_machine.proofs.send.first_frag.Goals as goal

start : SendCursor
start = record { place = 0; loops = []; depth = 0; next = 0; phase = 0; value = 0; width = 0 }

pub put_straight-requires-clause-location : goal.put_straight-requires-clause-location
unfolding start
put_straight-requires-clause-location c =
    first_is_location c.args.code.now.column c.args.code.now.ops c.ops.result.now c.args.tape.now start c.requires c.ops.ensures.ops c.ops.ensures.structure refl

pub put_straight-requires-clause-none : goal.put_straight-requires-clause-none
put_straight-requires-clause-none c = holds_none

pub returns-then-put_straight : goal.returns-then-put_straight
unfolding start
returns-then-put_straight c =
    sent c.args.code.now.ops c.ops.result.now c.args.tape.now c.args.tape.now start true c.args.msg.0 c.args.circuit.0
    c.put_straight.new.buffer c.frag_with.result c.ops.ensures.ops refl (c.put_straight.ensures.bytes c.if-put_straight.true) c.frag_with.ensures (inl refl)
    ∙ ap (λ (frags : List Frag). slice_get frags 0) (starts c.args.code.now.ops c.ops.result.now c.args.tape.now c.args.tape.now start start c.args.msg.0 c.args.circuit.0
    c.ops.ensures.ops refl refl refl)
