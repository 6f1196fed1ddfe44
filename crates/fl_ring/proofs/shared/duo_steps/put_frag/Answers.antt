use Rattle.std.proofs.Common.{rules, ◌≡◌, ◌∙◌, length, arith}
use Rattle.fl_ring.proofs.SharedDuoSteps.{duo_word_in}
use Rattle.fl_ring.proofs.SharedDuoRuns.{duo_put_after, duo_all_put}
use Rattle.fl_ring.proofs.shared.duo_steps.put_frag.Goals as goal

pub store-requires : goal.store-requires
store-requires c =
    let m0 = c.args.seat.now.me in
    let seated = c.requires.seated in
    let words = c.args.frag.now.words in
    let seven : length words ≡ 7 = search rules in (
      c.store_payload.ensures.table ∙ seated.same,
      omega (arith, c.requires.first, duo_word_in m0.0.holder m0.0.size (length m0.0.mine.put.sent) 7 _ seated.side seated.some (omega arith) seated.wide),
      duo_put_after _ _ _ _ _ _ m0 _ words c.store_payload.ensures.stored seated.key_is seated.side (omega (arith, c.requires.first)) seven c.requires.room c.requires.unspent c.requires.epoch c.requires.number,
    )

pub returns : goal.returns
returns c = record {
  table = c.store.ensures.0 ∙ c.store_payload.ensures.table;
  sent = duo_all_put c.args.seat.now.me _ _ c.args.frag.now c.store_payload.ensures.stored c.store.ensures.2.0;
}
