use Rattle.std.proofs.Common.{◌≡◌, ◌-◌, ℕ, List, length, refl, sym, ap, subst, arith}
use Rattle.std.specs.Vec.{vec_capacity}
use Rattle.fl_machine.specs.declared.rooms.RoomRange.{RoomRange}
use Rattle.fl_machine.specs.Rooms.{AreRooms, owed_from}
use Rattle.fl_machine.proofs.Laid.{are_before, are_same}
use Rattle.fl_machine.proofs.rooms.Rooms.take_back.Goals as goal

pub returns-in-None-clause-rooms : goal.returns-in-None-clause-rooms
returns-in-None-clause-rooms c =
    let t = c.args.self.now in
    let before = subst (λ (ss : List RoomRange). AreRooms (length t.block.items) (vec_capacity t.block) ss t.owed) c.in-Some.ensures.items c.requires.rooms in
    are_same (are_before (length t.block.items) (vec_capacity t.block) c.pop.new.self.items c.in-Some.last t.owed before) refl refl
    (ap (λ (n : ℕ). t.owed - n) (sym (ap (owed_from c.in-Some.last.size) c.in-None.is)))

pub returns-in-Some-start-clause-rooms : goal.returns-in-Some-start-clause-rooms
returns-in-Some-start-clause-rooms c =
    let t = c.args.self.now in
    let before = subst (λ (ss : List RoomRange). AreRooms (length t.block.items) (vec_capacity t.block) ss t.owed) c.in-Some.ensures.items c.requires.rooms in
    let none : owed_from c.in-Some.last.size c.in-Some.last.start ≡ 0 = ap (owed_from c.in-Some.last.size) c.in-Some-start.is in
    are_same (are_before (length t.block.items) (vec_capacity t.block) c.pop.new.self.items c.in-Some.last t.owed before) refl refl (omega (arith, none))
