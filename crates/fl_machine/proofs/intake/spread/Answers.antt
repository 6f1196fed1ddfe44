use Rattle.std.proofs.Common.{ℕ, ◌≡◌, ◌+◌, ◌*◌, take, refl, ◌∙◌, ap, arith}
use Rattle.std.proofs.lemmas.List.{take_all}
use Rattle.fl_machine.specs.Taking.{words_bytes}
use Rattle.fl_machine.proofs.Intakes.{filled_more}
use Rattle.fl_machine.proofs.intake.spread.Goals as goal

pub loop-index-init : goal.loop-index-init
loop-index-init c = (omega arith, refl, omega arith)

pub loop-index-preserved : goal.loop-index-preserved
loop-index-preserved c =
    let few = c.loop-index-test.true in
    let long = c.loop-index.invariant.0 in (
      c.put_word.array_long,
      ap (take (8 * (c.loop-index.index + 1))) c.put_word.ensures
          ∙ filled_more c.args.words.now c.loop-index.buffer c.loop-index.index (omega (arith, few, c.told-words)) (omega (arith, few, long)) c.loop-index.invariant.1,
      omega (arith, few),
    )

pub returns : goal.returns
returns c =
    let past = c.loop-index-test.false in
    let high = c.loop-index.invariant.2 in
    let all : c.loop-index.index ≡ 7 = omega (arith, past, high) in
    let e : 56 ≡ 8 * c.loop-index.index = omega (arith, all) in
    ap (λ (k : ℕ). take k c.loop-index.buffer) e
    ∙ c.loop-index.invariant.1
    ∙ ap (λ (k : ℕ). words_bytes (take k c.args.words.now)) all
    ∙ ap words_bytes (take_all 7 c.args.words.now (omega (arith, c.told-words)))
