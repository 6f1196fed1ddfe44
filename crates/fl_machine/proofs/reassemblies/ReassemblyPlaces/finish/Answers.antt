use Rattle.std.proofs.Common.{arith}
use Rattle.fl_machine.specs.Rooms.{rooms_of}
use Rattle.fl_machine.proofs.Joined.{finished, length_joined, read}
use Rattle.fl_machine.proofs.reassemblies.ReassemblyPlaces.finish.Goals as goal

pub index_mut-at-requires : goal.index_mut-at-requires
index_mut-at-requires c =
    let s = c.args.self.now in
    omega (arith, c.requires.there, length_joined s.places.items (rooms_of s.rooms) c.requires.are.joined, s.places.ok.0)

pub returns-clause-are : goal.returns-clause-are
returns-clause-are c =
    let s = c.args.self.now in
    let p = c.index_mut-at.result.now in
    let at = read s.places.items (rooms_of s.rooms) c.args.place p c.requires.are.joined c.requires.there c.index_mut-at.ensures.value in
    record {
      rooms = c.requires.are.rooms;
      joined = (finished s.places.items (rooms_of s.rooms) c.args.place p c.finish.new.self c.requires.are.joined at c.finish.ensures.program c.finish.ensures.none).are;
    }

pub returns-clause-finished : goal.returns-clause-finished
returns-clause-finished c =
    let s = c.args.self.now in
    let p = c.index_mut-at.result.now in
    let at = read s.places.items (rooms_of s.rooms) c.args.place p c.requires.are.joined c.requires.there c.index_mut-at.ensures.value in
    (finished s.places.items (rooms_of s.rooms) c.args.place p c.finish.new.self c.requires.are.joined at c.finish.ensures.program c.finish.ensures.none).changes
