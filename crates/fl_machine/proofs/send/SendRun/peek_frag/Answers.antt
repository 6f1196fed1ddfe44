use Rattle.std.proofs.Common.{◌≡◌, ◌⊎◌, ◌<◌, true, length, inl, inr, sym, ◌∙◌, ap}
use Rattle.std.specs.Prelude.{slice_get}
use Rattle.fl_stub.specs.Locations.{bytes_from}
use Rattle.fl_machine.specs.Cursors.{location_of}
use Rattle.fl_machine.specs.Sending.{TheSending, frags_left}
use Rattle.fl_machine.proofs.Fragments.{busy, sent}
use Rattle.fl_machine.proofs.send.SendRun.peek_frag.Goals.{else-not-self-via-then-not-self+else-is_idle, else-not-self-via-else-not-self}
use Rattle.fl_machine.proofs.send.SendRun.peek_frag.Goals as goal

-- there is a fragment
some : (c : goal.After-frag_with) → (c.self.inside.begins ≡ true) ⊎ (0 < length (bytes_from c.args.code.now.ops (location_of c.self.inside.tape.items c.self.inside.cursor)))
some c =
    elim c.else-not-self.branch [
      | else-not-self-via-then-not-self+else-is_idle w ↦ inr (busy c.args.code.now.ops (location_of c.self.inside.tape.items c.self.inside.cursor) (sym w.is_idle.ensures ∙ w.if-is_idle.false))
      | else-not-self-via-else-not-self w ↦ inl w.if-not-self.false
    ]

pub returns : goal.returns
returns c = record {
  frag =
      sent c.args.code.now.ops c.ops.result.now c.self.inside.tape.items c.deref.result.now c.self.inside.cursor c.self.inside.begins c.self.inside.msg.0 c.self.inside.circuit.0
      c.fill-buffer.result c.frag_with.result c.ops.ensures.ops c.deref.ensures.value c.fill-buffer.ensures.bytes c.frag_with.ensures (some c)
      ∙ ap (λ (run : TheSending). slice_get (frags_left c.args.code.now run) 0) c.self.view_is;
}
