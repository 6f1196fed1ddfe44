use Rattle.std.proofs.Common.{List, true, inl, refl, ◌∙◌, ap}
use Rattle.std.specs.Prelude.{slice_get}
use Rattle.fl_base.specs.declared.fragment.Frag.{Frag}
use Rattle.fl_machine.proofs.Fragments.{first_is_location, starts, sent}
use Rattle.fl_machine.proofs.send.run_first.Goals as goal

pub settle-requires : goal.settle-requires
settle-requires c =
    first_is_location c.args.code.now.column c.args.code.now.ops c.ops-ops.result.now c.args.tape.now c.new-cursor.result c.requires c.ops-ops.ensures.ops c.ops-ops.ensures.structure (c.new-cursor.ensures c.args.tape.now)

pub returns : goal.returns
returns c =
    sent c.args.code.now.ops c.ops-ops.result.now c.args.tape.now c.args.tape.now c.settle.new.self true c.args.msg.0 c.args.circuit.0
    c.fill-buffer.result c.frag_with.result c.ops-ops.ensures.ops refl c.fill-buffer.ensures.bytes c.frag_with.ensures (inl refl)
    ∙ ap (λ (frags : List Frag). slice_get frags 0) (starts c.args.code.now.ops c.ops-ops.result.now c.args.tape.now c.args.tape.now c.new-cursor.result c.settle.new.self c.args.msg.0 c.args.circuit.0
    c.ops-ops.ensures.ops refl (c.new-cursor.ensures c.args.tape.now) c.settle.ensures.bytes)
