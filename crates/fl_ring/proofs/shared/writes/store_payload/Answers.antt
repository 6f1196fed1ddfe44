use Rattle.std.proofs.Common.{rules, ◌≡◌, ◌∙◌, refl, sym, take, length, arith}
use Rattle.std.proofs.lemmas.List.{take_more}
use Rattle.fl_ring.proofs.SharedRuns.{none_stored, one_stored, seated_stored, writes_stored, next_stored, taken_length}
use Rattle.fl_ring.proofs.shared.writes.store_payload.Goals as goal

pub loop-k-init : goal.loop-k-init
loop-k-init c = record { table = refl; stored = none_stored c.args.seat.now.me c.requires.writes.1 }

pub store_word-requires : goal.store_word-requires
store_word-requires c =
    let inv = c.loop-k.invariant in
    let k = c.loop-k.k in
    let words = c.args.words.now in
    let m0 = c.args.seat.now.me in
    let seven : length words ≡ 7 = search rules in
    record {
      seated = seated_stored _ _ c.args.seat.now _ (take k words) c.requires.seated inv.table inv.stored;
      writes = writes_stored m0 _ (take k words) inv.stored c.requires.writes.0;
      word = next_stored _ k m0 _ (take k words) inv.stored (omega (arith, c.requires.first)) (taken_length k words seven (omega arith)) (omega arith) c.requires.room;
    }

pub loop-k-preserved : goal.loop-k-preserved
loop-k-preserved c =
    let inv = c.loop-k.invariant in
    let k = c.loop-k.k in
    let words = c.args.words.now in
    let m0 = c.args.seat.now.me in
    let seven : length words ≡ 7 = search rules in
    record {
      table = c.store_word.ensures.table ∙ inv.table;
      stored = one_stored m0 _ _ (take k words) _ _ inv.stored c.store_word.ensures.stands (sym (take_more words k 0 (omega arith)));
    }
