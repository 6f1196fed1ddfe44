use Rattle.std.proofs.Common.{length, sym, ◌∙◌, ap}
use Rattle.fl_machine.specs.Rooms.{rooms_of}
use Rattle.fl_machine.proofs.Joined.{length_joined}
use Rattle.fl_machine.proofs.reassemblies.Reassemblies.len.Goals as goal

pub returns : goal.returns
returns c =
    let s = c.self.inside.stored in
    record { length = c.len.ensures ∙ s.places.ok.0 ∙ sym (length_joined s.places.items (rooms_of s.rooms) c.self.invariant.joined) ∙ ap length c.self.view_is }
