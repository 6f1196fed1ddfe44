use Rattle.std.proofs.Common.{refl, arith}
use Rattle.fl_history_rings.proofs.SideCalls.{side_few}
use Rattle.fl_history_rings.proofs.place.RingSide.find_room.Goals as goal

pub has_free-requires : goal.has_free-requires
has_free-requires c =
    let few = side_few _ _ _ _ c.requires.seated c.requires.mine in
    record { few = (c.requires.mine.most, few.0, c.requires.few); slots = few.1 }

pub returns-then-has_free : goal.returns-then-has_free
returns-then-has_free c =
    let free = c.has_free.ensures.free c.if-has_free.true in
    record {
      seated = c.requires.seated;
      rest = c.requires.rest;
      core = refl;
      mine = c.requires.mine;
      looked = record { by_known = λ _. (refl, refl); by_look = λ lacks. absurd (omega (arith, free, lacks)) };
      room = λ _. free;
      full = λ e. absurd (cc);
    }

pub count-requires : goal.count-requires
count-requires c = record { seated = c.requires.seated; rest = c.requires.rest; mine = c.requires.mine }

pub has_free-requires-2 : goal.has_free-requires-2
has_free-requires-2 c =
    let few = side_few _ _ _ _ c.count.ensures.seated c.count.ensures.mine in
    record { few = (c.count.ensures.mine.most, few.0, c.requires.few); slots = few.1 }

pub returns : goal.returns
returns c =
    let e = c.count.ensures in
    let lacks = c.has_free.ensures.full c.if-has_free.false in
    record {
      seated = e.seated;
      rest = e.rest;
      core = e.core;
      mine = e.mine;
      looked = record { by_known = λ free. absurd (omega (arith, free, lacks)); by_look = λ _. e.looked };
      room = c.has_free-2.ensures.free;
      full = c.has_free-2.ensures.full;
    }
