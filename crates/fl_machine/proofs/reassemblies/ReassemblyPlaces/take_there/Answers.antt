use Rattle.std.proofs.Common.{◌≡◌, ◌-◌, List, take, drop, length, refl, sym, ◌∙◌, ap, subst, arith}
use Rattle.std.specs.Vec.{vec_capacity}
use Rattle.std.proofs.lemmas.List.{length-take-le, length-drop}
use Rattle.std.proofs.lemmas.Option.{slice_get_within, slice_get_read}
use Rattle.fl_compile.specs.Programs.{program_of}
use Rattle.fl_base.specs.declared.fragment.Frag.{Frag}
use Rattle.fl_machine.specs.Receiving.{HoldsParts}
use Rattle.fl_machine.specs.Reassembling.{Takes, IsUnderWay, reassembly_on}
use Rattle.fl_machine.specs.Rooms.{rooms_of}
use Rattle.fl_machine.proofs.Joined.{length_rooms, lent, in_room, taken_on}
use Rattle.fl_machine.proofs.reassemblies.ReassemblyPlaces.take_there.Goals as goal

pub index_mut-at-requires : goal.index_mut-at-requires
index_mut-at-requires c =
    let s = c.args.self.now in
    let there = c.requires.there in
    omega (arith, slice_get_within (rooms_of s.rooms) c.args.place there.room there.at, length_rooms s.places.items (rooms_of s.rooms) c.requires.are.joined, s.places.ok.0)

pub take_on-requires-clause-under_way : goal.take_on-requires-clause-under_way
take_on-requires-clause-under_way c =
    let s = c.args.self.now in
    let p = c.index_mut-at.result.now in
    let there = c.requires.there in
    let inside = slice_get_within (rooms_of s.rooms) c.args.place there.room there.at in
    let at = slice_get_read s.places.items (length s.places.items) c.args.place p refl (omega (arith, inside, length_rooms s.places.items (rooms_of s.rooms) c.requires.are.joined)) c.index_mut-at.ensures.value in
    subst (λ (xs : List Frag). IsUnderWay (program_of p.program) (take (c.bounds-start.result.1 - c.bounds-start.result.0) (drop c.bounds-start.result.0 xs)) p.begun) (sym c.deref_mut.ensures.value)
    (in_room s.rooms s.places.items c.args.place c.bounds-start.result.0 c.bounds-start.result.1 p c.requires.are.joined at c.bounds-start.ensures.lies).under_way

pub take_on-requires-clause-holds : goal.take_on-requires-clause-holds
take_on-requires-clause-holds c =
    let s = c.args.self.now in
    let p = c.index_mut-at.result.now in
    let there = c.requires.there in
    let inside = slice_get_within (rooms_of s.rooms) c.args.place there.room there.at in
    let at = slice_get_read s.places.items (length s.places.items) c.args.place p refl (omega (arith, inside, length_rooms s.places.items (rooms_of s.rooms) c.requires.are.joined)) c.index_mut-at.ensures.value in
    subst (λ (xs : List Frag). HoldsParts (program_of p.program).plan (program_of p.program).interface (length (take (c.bounds-start.result.1 - c.bounds-start.result.0) (drop c.bounds-start.result.0 xs)))) (sym c.deref_mut.ensures.value)
    (in_room s.rooms s.places.items c.args.place c.bounds-start.result.0 c.bounds-start.result.1 p c.requires.are.joined at c.bounds-start.ensures.lies).holds

pub returns-clause-are : goal.returns-clause-are
returns-clause-are c =
    let s = c.args.self.now in
    let p = c.index_mut-at.result.now in
    let q = c.take_on.new.self in
    let there = c.requires.there in
    let start = c.bounds-start.result.0 in
    let end = c.bounds-start.result.1 in
    let lies = c.bounds-start.ensures.lies in
    let inside = slice_get_within (rooms_of s.rooms) c.args.place there.room there.at in
    let at = slice_get_read s.places.items (length s.places.items) c.args.place p refl (omega (arith, inside, length_rooms s.places.items (rooms_of s.rooms) c.requires.are.joined)) c.index_mut-at.ensures.value in
    let long : length c.take_on.new.room ≡ end - start
    = c.take_on.auto.room ∙ ap (λ (xs : List Frag). length (take (end - start) (drop start xs))) c.deref_mut.ensures.value
    ∙ length-take-le (end - start) (drop start s.rooms.block.items) (omega (arith, lies.within, length-drop start s.rooms.block.items)) in
    let block = lent s.rooms.block c.deref_mut.result.now c.take_on.new.room start end c.deref_mut.ensures.value long (omega (arith, lies.end_is)) lies.within in
    let taken = taken_on s.rooms (vec_capacity s.rooms.block) s.places.items c.args.place start end p q c.take_on.new.room _ (λ s t. Takes s c.args.frag.now c.take_on.result t)
    c.requires.are.rooms c.requires.are.joined at lies long block c.take_on.ensures.program c.take_on.ensures.under_way
    (subst (λ (xs : List Frag). Takes (reassembly_on p.program (take (end - start) (drop start xs)) p.begun) c.args.frag.now c.take_on.result (reassembly_on p.program c.take_on.new.room q.begun))
    c.deref_mut.ensures.value c.take_on.ensures.takes) in
    record { rooms = taken.rooms; joined = taken.are }

pub returns-clause-takes : goal.returns-clause-takes
returns-clause-takes c =
    let s = c.args.self.now in
    let p = c.index_mut-at.result.now in
    let q = c.take_on.new.self in
    let there = c.requires.there in
    let start = c.bounds-start.result.0 in
    let end = c.bounds-start.result.1 in
    let lies = c.bounds-start.ensures.lies in
    let inside = slice_get_within (rooms_of s.rooms) c.args.place there.room there.at in
    let at = slice_get_read s.places.items (length s.places.items) c.args.place p refl (omega (arith, inside, length_rooms s.places.items (rooms_of s.rooms) c.requires.are.joined)) c.index_mut-at.ensures.value in
    let long : length c.take_on.new.room ≡ end - start
    = c.take_on.auto.room ∙ ap (λ (xs : List Frag). length (take (end - start) (drop start xs))) c.deref_mut.ensures.value
    ∙ length-take-le (end - start) (drop start s.rooms.block.items) (omega (arith, lies.within, length-drop start s.rooms.block.items)) in
    let block = lent s.rooms.block c.deref_mut.result.now c.take_on.new.room start end c.deref_mut.ensures.value long (omega (arith, lies.end_is)) lies.within in
    (taken_on s.rooms (vec_capacity s.rooms.block) s.places.items c.args.place start end p q c.take_on.new.room _ (λ s t. Takes s c.args.frag.now c.take_on.result t)
    c.requires.are.rooms c.requires.are.joined at lies long block c.take_on.ensures.program c.take_on.ensures.under_way
    (subst (λ (xs : List Frag). Takes (reassembly_on p.program (take (end - start) (drop start xs)) p.begun) c.args.frag.now c.take_on.result (reassembly_on p.program c.take_on.new.room q.begun))
    c.deref_mut.ensures.value c.take_on.ensures.takes)).changes
