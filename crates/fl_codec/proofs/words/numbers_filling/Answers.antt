use Rattle.std.proofs.Common.{◌∙◌, ◌-◌, true, false, sym, arith}
use Rattle.std.proofs.lemmas.List.{length-set}
use Rattle.fl_codec.proofs.Puts.{one_taken, none_taken, all_taken}
use Rattle.fl_codec.proofs.words.numbers_filling.Goals as goal

pub returns-then-number-place-clause-exact : goal.returns-then-number-place-clause-exact
returns-then-number-place-clause-exact c =
    let first = c.loop-index-test.true in
    let most = c.loop-index.auto.index in
    sym (none_taken c.args.places.now (c.loop-index.index - 1) c.loop-index.index c.from-word.result (record { word = 0; shift = 0; last = 0 })
    c.args.words.now c.loop-index.left _ (omega (arith, first, most)) (omega (arith, first)) c.from-word.ensures c.if-number-place.true c.loop-index.invariant.1)

pub loop-index-preserved : goal.loop-index-preserved
loop-index-preserved c =
    let first = c.loop-index-test.true in
    let most = c.loop-index.auto.index in (
      length-set c.loop-index.numbers _ _ ∙ c.loop-index.invariant.0,
      one_taken c.args.places.now (c.loop-index.index - 1) c.loop-index.index c.from-word.result (record { word = 0; shift = 0; last = 0 })
          c.args.words.now c.loop-index.left c.loop-index.numbers (omega (arith, first, most)) (omega (arith, first)) (omega (arith, c.loop-index.invariant.0, c.requires.few))
          c.from-word.ensures c.if-number-place.false c.loop-index.invariant.1,
    )

pub returns-then-not-is_blank-clause-exact : goal.returns-then-not-is_blank-clause-exact
returns-then-not-is_blank-clause-exact c =
    all_taken c.args.places.now c.loop-index.index _ c.args.words.now c.loop-index.left c.loop-index.numbers false (omega (arith, c.loop-index-test.false))
    c.loop-index.invariant.1 (sym c.if-not-is_blank.true ∙ c.is_blank.ensures)

pub returns-clause-exact : goal.returns-clause-exact
returns-clause-exact c =
    all_taken c.args.places.now c.loop-index.index _ c.args.words.now c.loop-index.left c.loop-index.numbers true (omega (arith, c.loop-index-test.false))
    c.loop-index.invariant.1 (sym c.if-not-is_blank.false ∙ c.is_blank.ensures)
