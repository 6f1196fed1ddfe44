use Rattle.std.proofs.Common.{rules, ◌≡◌, ◌∙◌, length, arith}
use Rattle.fl_ring.proofs.SharedSteps.{word_in}
use Rattle.fl_ring.proofs.SharedRuns.{allows_put_after, all_put}
use Rattle.fl_ring.proofs.shared.writes.put_frag.Goals as goal

pub store-requires : goal.store-requires
store-requires c =
    let m0 = c.args.seat.now.me in
    let seated = c.requires.seated in
    let words = c.args.frag.now.words in
    let seven : length words ≡ 7 = search rules in (
      c.store_payload.ensures.table ∙ seated.same,
      omega (arith, c.requires.first, word_in m0.0.size (length m0.0.put.sent) 7 _ seated.some (omega arith) seated.wide),
      allows_put_after _ _ _ _ _ m0 _ words c.store_payload.ensures.stored seated.key_is c.requires.writes.0 (omega (arith, c.requires.first)) seven c.requires.room c.requires.unspent c.requires.epoch,
    )

pub returns : goal.returns
returns c = record {
  table = c.store.ensures.0 ∙ c.store_payload.ensures.table;
  sent = all_put c.args.seat.now.me _ _ c.args.frag.now c.store_payload.ensures.stored c.store.ensures.2.0;
}
