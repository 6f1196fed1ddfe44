use Rattle.fl_machine.specs.Rooms.{rooms_of}
use Rattle.std.specs.Vec.{vec_len}
use Rattle.fl_machine.proofs.Joined.{taken_back}
use Rattle.fl_machine.proofs.reassemblies.ReassemblyPlaces.take_back.Goals as goal

pub returns-clause-are : goal.returns-clause-are
returns-clause-are c =
    let s = c.args.self.now in
    record {
      rooms = c.take_back.ensures.rooms;
      joined = (taken_back s.places.items c.pop.new.self.items c.pop.result (vec_len s.places) (vec_len c.pop.new.self) (rooms_of s.rooms) (rooms_of c.take_back.new.self)
          c.requires.are.joined c.requires.some s.places.ok.0 c.pop.ensures.items c.pop.ensures.cases c.take_back.ensures.before).are;
    }

pub returns-clause-before : goal.returns-clause-before
returns-clause-before c =
    let s = c.args.self.now in
    (taken_back s.places.items c.pop.new.self.items c.pop.result (vec_len s.places) (vec_len c.pop.new.self) (rooms_of s.rooms) (rooms_of c.take_back.new.self)
    c.requires.are.joined c.requires.some s.places.ok.0 c.pop.ensures.items c.pop.ensures.cases c.take_back.ensures.before).before
