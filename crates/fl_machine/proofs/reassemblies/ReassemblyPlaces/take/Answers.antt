use Rattle.std.proofs.Common.{arith}
use Rattle.fl_machine.specs.Rooms.{rooms_of}
use Rattle.fl_machine.proofs.Joined.{length_joined, read}
use Rattle.fl_machine.proofs.reassemblies.ReassemblyPlaces.take.Goals as goal

pub index-requires : goal.index-requires
index-requires c =
    let s = c.args.self.now in
    omega (arith, c.requires.there, length_joined s.places.items (rooms_of s.rooms) c.requires.are.joined, s.places.ok.0)

pub take_next-requires-clause-under_way : goal.take_next-requires-clause-under_way
take_next-requires-clause-under_way c =
    let s = c.args.self.now in
    let p = c.index.result.now in
    let at = read s.places.items (rooms_of s.rooms) c.args.place p c.requires.are.joined c.requires.there c.index.ensures in
    record { at = p; at_there = at; begun = c.in-Some.field-0; under_way = c.in-Some.is }

pub take_first-requires-clause-between : goal.take_first-requires-clause-between
take_first-requires-clause-between c =
    let s = c.args.self.now in
    let p = c.index.result.now in
    let at = read s.places.items (rooms_of s.rooms) c.args.place p c.requires.are.joined c.requires.there c.index.ensures in
    record { at = p; at_there = at; none = c.in-None.is }
