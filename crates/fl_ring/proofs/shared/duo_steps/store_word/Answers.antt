use Rattle.std.proofs.Common.{◌∙◌, length, arith}
use Rattle.fl_ring.proofs.SharedDuoSteps.{duo_word_in, duo_allows_found}
use Rattle.fl_ring.proofs.SharedDuoRuns.{duo_stored_after, duo_found_same, duo_found_stored}
use Rattle.fl_ring.proofs.shared.duo_steps.store_word.Goals as goal

pub load-found-requires : goal.load-found-requires
load-found-requires c =
    let m0 = c.args.seat.now.me in
    let seated = c.requires.seated in (
      seated.same,
      omega (arith, c.requires.word.0, duo_word_in m0.0.holder m0.0.size (length m0.0.mine.put.sent) (length m0.0.mine.put.part) _ seated.side seated.some (omega (arith, c.requires.word.1)) seated.wide),
      duo_allows_found _ _ _ _ _ m0 seated.key_is seated.side c.requires.word,
    )

pub store-requires : goal.store-requires
store-requires c =
    let m0 = c.args.seat.now.me in
    let seated = c.requires.seated in (
      c.load-found.ensures.0 ∙ seated.same,
      omega (arith, c.requires.word.0, duo_word_in m0.0.holder m0.0.size (length m0.0.mine.put.sent) (length m0.0.mine.put.part) _ seated.side seated.some (omega (arith, c.requires.word.1)) seated.wide),
      duo_stored_after _ _ _ _ _ _ _ m0 _ c.load-found.ensures.2.0 seated.key_is seated.side c.requires.word,
    )

pub returns-then-found-number : goal.returns-then-found-number
returns-then-found-number c = record {
  table = c.load-found.ensures.0;
  stands = duo_found_same c.args.seat.now.me _ _ _ c.load-found.ensures.2.0 c.if-found-number.true;
}

pub returns : goal.returns
returns c = record {
  table = c.store.ensures.0 ∙ c.load-found.ensures.0;
  stands = duo_found_stored c.args.seat.now.me _ _ _ _ _ _ c.requires.word c.load-found.ensures.2.0 c.store.ensures.2.2 c.store.ensures.2.1;
}
