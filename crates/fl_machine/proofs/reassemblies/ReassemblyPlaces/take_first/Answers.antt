use Rattle.std.proofs.Common.{subst}
use Rattle.std.specs.Prelude.{Ok}
use Rattle.fl_machine.specs.declared.reassembly.Assembly.{Assembly}
use Rattle.fl_machine.specs.Reassembling.{Takes, new_reassembly}
use Rattle.fl_machine.specs.Rooms.{rooms_of}
use Rattle.fl_machine.proofs.Joined.{not_changed, same_read}
use Rattle.fl_machine.proofs.reassemblies.ReassemblyPlaces.take_first.Goals as goal

pub returns-in-Some-clause-takes : goal.returns-in-Some-clause-takes
returns-in-Some-clause-takes c =
    let s = c.args.self.now in
    let b = c.requires.between in
    let same = same_read s.places.items c.args.place b.at c.index.result.now b.at_there c.index.ensures in
    not_changed s.places.items (rooms_of s.rooms) c.args.place b.at (λ s t. Takes s c.args.frag.now (Ok c.in-Some.taken) t) c.requires.are.joined b.at_there b.none
    (subst (λ (p : Assembly). Takes (new_reassembly p.program) c.args.frag.now (Ok c.in-Some.taken) (new_reassembly p.program)) same c.in-Some.ensures.takes)

pub returns-in-Some-tell_number-clause-takes : goal.returns-in-Some-tell_number-clause-takes
returns-in-Some-tell_number-clause-takes c =
    let s = c.args.self.now in
    let b = c.requires.between in
    let same = same_read s.places.items c.args.place b.at c.index.result.now b.at_there c.index.ensures in
    not_changed s.places.items (rooms_of s.rooms) c.args.place b.at (λ s t. Takes s c.args.frag.now (Ok c.in-Some-tell_number.taken) t) c.requires.are.joined b.at_there b.none
    (subst (λ (p : Assembly). Takes (new_reassembly p.program) c.args.frag.now (Ok c.in-Some-tell_number.taken) (new_reassembly p.program)) same c.in-Some-tell_number.ensures.takes)

pub returns-clause-takes : goal.returns-clause-takes
returns-clause-takes c =
    let s = c.args.self.now in
    let b = c.requires.between in
    let same = same_read s.places.items c.args.place b.at c.index.result.now b.at_there c.index.ensures in
    not_changed s.places.items (rooms_of s.rooms) c.args.place b.at (λ s t. Takes s c.args.frag.now c.tell.result t) c.requires.are.joined b.at_there b.none
    (subst (λ (p : Assembly). Takes (new_reassembly p.program) c.args.frag.now c.tell.result (new_reassembly p.program)) same c.tell.ensures.takes)
