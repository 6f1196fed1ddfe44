use Rattle.std.proofs.Common.{List, subst, arith}
use Rattle.std.proofs.lemmas.Option.{slice_get_within}
use Rattle.fl_machine.specs.Reassembling.{TheReassembly, Takes, ChangesPlace}
use Rattle.fl_machine.specs.Places.{reassemblies}
use Rattle.fl_machine.specs.Rooms.{rooms_of}
use Rattle.fl_machine.proofs.Joined.{length_rooms, opened}
use Rattle.fl_machine.proofs.reassemblies.ReassemblyPlaces.take_begun.Goals as goal

pub open-requires-clause-there : goal.open-requires-clause-there
open-requires-clause-there c =
    let s = c.args.self.now in
    let b = c.requires.between in
    omega (arith, slice_get_within s.places.items c.args.place b.at b.at_there, length_rooms s.places.items (rooms_of s.rooms) c.requires.are.joined)

pub take_there-requires-clause-are : goal.take_there-requires-clause-are
take_there-requires-clause-are c =
    let s = c.args.self.now in
    let b = c.requires.between in
    record {
      rooms = c.open.ensures.rooms;
      joined = (opened s.places.items (rooms_of s.rooms) (rooms_of c.open.new.self) c.args.place b.at c.requires.are.joined b.at_there b.none c.open.ensures.opened).are;
    }

pub take_there-requires-clause-there : goal.take_there-requires-clause-there
take_there-requires-clause-there c =
    let s = c.args.self.now in
    let b = c.requires.between in
    (opened s.places.items (rooms_of s.rooms) (rooms_of c.open.new.self) c.args.place b.at c.requires.are.joined b.at_there b.none c.open.ensures.opened).there

pub returns-clause-takes : goal.returns-clause-takes
returns-clause-takes c =
    let s = c.args.self.now in
    let b = c.requires.between in
    let same = (opened s.places.items (rooms_of s.rooms) (rooms_of c.open.new.self) c.args.place b.at c.requires.are.joined b.at_there b.none c.open.ensures.opened).same in
    subst (λ (xs : List TheReassembly). ChangesPlace xs c.args.place (λ s t. Takes s c.args.frag.now c.take_there.result t) (reassemblies c.take_there.new.self)) same c.take_there.ensures.takes
