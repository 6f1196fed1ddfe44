use Rattle.std.proofs.Common.{◌≡◌, ◌∙◌, ap, sym, refl, arith, inl, inr}
use Rattle.fl_history_rings.specs.declared.board.Action.TheVariants.{Put}
use Rattle.fl_history_rings.specs.declared.place.SlotPlace.{SlotPlace}
use Rattle.fl_history_rings.specs.Cores.{core_shown, noting}
use Rattle.fl_ring.specs.Duo.{acknowledgement}
use Rattle.fl_history_rings.specs.Sides.{put_by}
use Rattle.fl_history_rings.proofs.SideCalls.{room_same, told_low}
use Rattle.fl_history_rings.proofs.place.RingSide.tell.Goals as goal

pub overflow_sub-unacknowledged : goal.overflow_sub-unacknowledged
overflow_sub-unacknowledged c = let low = told_low _ _ _ c.requires.mine in omega (arith, low, c.index.ensures.index)

pub returns-then-unacknowledged-size : goal.returns-then-unacknowledged-size
returns-then-unacknowledged-size c = record {
  seated = c.requires.seated;
  rest = c.requires.rest;
  core = refl;
  mine = c.requires.mine;
  nothing = λ _. ((refl, refl), omega (arith, c.if-unacknowledged-size.true, c.index.ensures.index, c.size.ensures.size));
  written = λ e. absurd (cc);
  full = λ e. absurd (cc);
  some = λ ne. absurd (ne refl);
  spent = λ _. (refl, refl);
  never_spent = λ e. absurd (cc);
}

pub returns-then-index-eq-SPENT : goal.returns-then-index-eq-SPENT
returns-then-index-eq-SPENT c =
    let same = c.index-index.ensures.index in
    record {
      seated = c.requires.seated;
      rest = c.requires.rest;
      core = refl;
      mine = c.requires.mine;
      nothing = λ e. absurd (cc);
      written = λ e. absurd (cc);
      full = λ e. inr ((refl, refl), sym same ∙ c.if-index-eq-SPENT.true);
      some = λ _. omega (arith, c.if-unacknowledged-size.false, c.index.ensures.index, c.size.ensures.size);
      spent = λ _. (refl, refl);
      never_spent = λ e. absurd (cc);
    }

pub find_room-requires : goal.find_room-requires
find_room-requires c = record { seated = c.requires.seated; rest = c.requires.rest; mine = c.requires.mine; few = omega arith }

pub returns-then-not-find_room : goal.returns-then-not-find_room
returns-then-not-find_room c =
    let f = c.find_room.ensures in
    record {
      seated = f.seated;
      rest = f.rest;
      core = f.core;
      mine = f.mine;
      nothing = λ e. absurd (cc);
      written = λ e. absurd (cc);
      full = λ e. inl (f.looked, f.full c.if-not-find_room.true);
      some = λ _. omega (arith, c.if-unacknowledged-size.false, c.index.ensures.index, c.size.ensures.size);
      spent = λ e. absurd (c.if-index-eq-SPENT.false (c.index-index.ensures.index ∙ e));
      never_spent = λ e. absurd (cc);
    }

pub write-requires : goal.write-requires
write-requires c =
    let f = c.find_room.ensures in
    let room = f.room c.if-not-find_room.false in
    let same : c.find_room.new.self.put.cursor.index ≡ c.args.self.now.put.cursor.index = ap (λ (p : SlotPlace). p.cursor.index) (room_same 1 _ _ _ _ f.looked) in
    let most = c.requires.mine.most in
    record { seated = f.seated; rest = f.rest; mine = f.mine; room = room; unspent = omega (arith, same, most, c.index-index.ensures.index, c.if-index-eq-SPENT.false) }

pub returns : goal.returns
returns c =
    let f = c.find_room.ensures in
    let w = c.write.ensures in
    let mid = c.find_room.new.self in
    let between = core_shown c.find_room.new.seat in
    record {
      seated = w.seated;
      rest = w.rest;
      core = w.core ∙ f.core;
      mine = w.mine;
      nothing = λ e. absurd (cc);
      written = λ _. (between, mid, f.looked, f.room c.if-not-find_room.false, w.noted ∙ ap (λ (p : SlotPlace). noting between p.side (Put (put_by mid acknowledgement))) (room_same 1 _ _ _ _ f.looked), w.side);
      full = λ e. absurd (cc);
      some = λ _. omega (arith, c.if-unacknowledged-size.false, c.index.ensures.index, c.size.ensures.size);
      spent = λ e. absurd (c.if-index-eq-SPENT.false (c.index-index.ensures.index ∙ e));
      never_spent = λ e. absurd (cc);
    }
