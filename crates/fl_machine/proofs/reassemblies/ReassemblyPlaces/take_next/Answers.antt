use Rattle.fl_machine.specs.Rooms.{rooms_of}
use Rattle.fl_machine.proofs.Joined.{inside_there}
use Rattle.fl_machine.proofs.reassemblies.ReassemblyPlaces.take_next.Goals as goal

pub take_there-requires-clause-there : goal.take_there-requires-clause-there
take_there-requires-clause-there c =
    let s = c.args.self.now in
    let u = c.requires.under_way in
    inside_there s.places.items (rooms_of s.rooms) c.args.place u.at u.begun c.requires.are.joined u.at_there u.under_way
