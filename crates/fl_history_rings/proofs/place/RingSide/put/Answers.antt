use Rattle.std.proofs.Common.{◌≡◌, ◌∙◌, ap, sym, refl, arith}
use Rattle.fl_history_rings.specs.declared.board.Action.TheVariants.{Put}
use Rattle.fl_history_rings.specs.declared.place.SlotPlace.{SlotPlace}
use Rattle.fl_history_rings.specs.Cores.{core_shown, noting}
use Rattle.fl_history_rings.specs.Sides.{put_by}
use Rattle.fl_history_rings.proofs.SideCalls.{room_same}
use Rattle.fl_history_rings.proofs.place.RingSide.put.Goals as goal

pub find_room-requires : goal.find_room-requires
find_room-requires c = record { seated = c.requires.seated; rest = c.requires.rest; mine = c.requires.mine; few = omega arith }

pub write-requires : goal.write-requires
write-requires c =
    let f = c.find_room.ensures in
    let room = f.room c.if-not-find_room.false in
    let same : c.find_room.new.self.put.cursor.index ≡ c.args.self.now.put.cursor.index = ap (λ (p : SlotPlace). p.cursor.index) (room_same 2 _ _ _ _ f.looked) in
    let most = c.requires.mine.most in
    record { seated = f.seated; rest = f.rest; mine = f.mine; room = omega (arith, room); unspent = omega (arith, same, most, c.index-index.ensures.index, c.if-index-eq-SPENT.false) }

pub returns-then-index-eq-SPENT : goal.returns-then-index-eq-SPENT
returns-then-index-eq-SPENT c =
    let same = c.index-index.ensures.index in
    record {
      seated = c.requires.seated;
      rest = c.requires.rest;
      core = refl;
      mine = c.requires.mine;
      placed = tt;
      full = λ e. absurd (cc);
      spent = λ e. ((refl, refl), sym same ∙ c.if-index-eq-SPENT.true);
      spent_first = λ _. refl;
    }

pub returns-then-not-find_room : goal.returns-then-not-find_room
returns-then-not-find_room c =
    let f = c.find_room.ensures in
    record {
      seated = f.seated;
      rest = f.rest;
      core = f.core;
      mine = f.mine;
      placed = tt;
      full = λ e. (f.looked, f.full c.if-not-find_room.true);
      spent = λ e. absurd (cc);
      spent_first = λ e. absurd (c.if-index-eq-SPENT.false (c.index-index.ensures.index ∙ e));
    }

pub returns : goal.returns
returns c =
    let f = c.find_room.ensures in
    let w = c.write.ensures in
    let mid = c.find_room.new.self in
    let between = core_shown c.find_room.new.seat in
    record {
      seated = w.seated;
      rest = w.rest;
      core = w.core ∙ f.core;
      mine = w.mine;
      placed = (between, mid, f.looked, f.room c.if-not-find_room.false, w.noted ∙ ap (λ (p : SlotPlace). noting between p.side (Put (put_by mid c.args.frag.now))) (room_same 2 _ _ _ _ f.looked), w.side);
      full = λ e. absurd (cc);
      spent = λ e. absurd (cc);
      spent_first = λ e. absurd (c.if-index-eq-SPENT.false (c.index-index.ensures.index ∙ e));
    }
