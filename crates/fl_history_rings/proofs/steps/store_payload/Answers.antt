use Rattle.std.proofs.Common.{rules, ◌≡◌, ◌+◌, ◌∙◌, refl, sym, take, length, arith}
use Rattle.std.proofs.lemmas.List.{take_more}
use Rattle.fl_history_rings.specs.Seats.{put_insight}
use Rattle.fl_history_rings.proofs.Rows.{seated_knowing}
use Rattle.fl_history_rings.proofs.Payload.{taken_length, none_stored, one_stored, stored_place, stored_room, stored_next}
use Rattle.fl_history_rings.proofs.steps.store_payload.Goals as goal

pub loop-k-init : goal.loop-k-init
loop-k-init c = record { table = refl; stored = none_stored _ c.args.top.now.key c.args.seat.now c.requires.seated c.requires.rest c.args.place.now.side }

pub store_word-requires : goal.store_word-requires
store_word-requires c =
    let r = c.requires in
    let inv = c.loop-k.invariant in
    let k = c.loop-k.k in
    let words = c.args.words.now in
    let seven : length words ≡ 7 = search rules in
    record {
      seated = seated_knowing _ _ c.args.seat.now r.seated _ (put_insight c.args.place.now.side (take k words)) inv.table inv.stored;
      place = stored_place c.args.seat.now c.loop-k.seat c.args.place.now (take k words) inv.stored _ r.place;
      room = stored_room c.args.seat.now c.loop-k.seat c.args.place.now (take k words) inv.stored r.room;
      next = stored_next c.args.seat.now c.loop-k.seat c.args.place.now (take k words) inv.stored k (taken_length k words seven (omega arith)) (omega arith);
    }

pub loop-k-preserved : goal.loop-k-preserved
loop-k-preserved c =
    let inv = c.loop-k.invariant in
    let k = c.loop-k.k in
    let words = c.args.words.now in
    let seven : length words ≡ 7 = search rules in
    record {
      table = c.store_word.ensures.table ∙ inv.table;
      stored = one_stored c.args.seat.now c.loop-k.seat c.args.place.now (take k words) inv.stored c.store_word.new.seat (take (k + 1) words) _ c.store_word.ensures.stands (sym (take_more words k 0 (omega arith)));
    }
