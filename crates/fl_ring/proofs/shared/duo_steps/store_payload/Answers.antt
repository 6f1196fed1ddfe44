use Rattle.std.proofs.Common.{rules, ◌≡◌, ◌∙◌, refl, sym, ap, take, length, arith}
use Rattle.std.proofs.lemmas.List.{take_more}
use Rattle.atomic_table.specs.Table.{Me}
use Rattle.fl_ring.specs.declared.shared.duo_board.DuoView.{DuoView}
use Rattle.fl_ring.proofs.Sighted.{seated_on}
use Rattle.fl_ring.proofs.SharedRuns.{taken_length}
use Rattle.fl_ring.proofs.SharedDuoRuns.{duo_none_stored, duo_one_stored, duo_next_stored}
use Rattle.fl_ring.proofs.shared.duo_steps.store_payload.Goals as goal

pub loop-k-init : goal.loop-k-init
loop-k-init c = record { table = refl; stored = duo_none_stored c.args.seat.now.me c.requires.empty }

pub store_word-requires : goal.store_word-requires
store_word-requires c =
    let inv = c.loop-k.invariant in
    let k = c.loop-k.k in
    let words = c.args.words.now in
    let m0 = c.args.seat.now.me in
    let seven : length words ≡ 7 = search rules in
    record {
      seated = seated_on _ _ c.args.seat.now _ c.requires.seated inv.table (ap (λ (m : Me (Unit {0}) DuoView). m.0.size) inv.stored) (ap (λ (m : Me (Unit {0}) DuoView). m.0.holder) inv.stored);
      word = duo_next_stored _ k m0 _ (take k words) inv.stored (omega (arith, c.requires.first)) (taken_length k words seven (omega arith)) (omega arith) c.requires.room;
    }

pub loop-k-preserved : goal.loop-k-preserved
loop-k-preserved c =
    let inv = c.loop-k.invariant in
    let k = c.loop-k.k in
    let words = c.args.words.now in
    let m0 = c.args.seat.now.me in
    let seven : length words ≡ 7 = search rules in
    record {
      table = c.store_word.ensures.table ∙ inv.table;
      stored = duo_one_stored m0 _ _ (take k words) _ _ inv.stored c.store_word.ensures.stands (sym (take_more words k 0 (omega arith)));
    }
