use Rattle.std.proofs.Common.{◌≡◌, ◌<◌, ◌≤◌, ⊎_elim, get_or, refl, ◌∙◌, ap, arith}
use Rattle.std.proofs.lemmas.Bool.{cases_lt}
use Rattle.fl_machine.proofs.intake.end_of.Goals as goal

pub loop-at-init : goal.loop-at-init
loop-at-init c = (c.past_zeros-at.ensures.from, c.past_zeros-at.ensures.zeros)

pub returns-then-buffer-at-ne0-clause-wrong : goal.returns-then-buffer-at-ne0-clause-wrong
returns-then-buffer-at-ne0-clause-wrong c =
    (refl, record { at = c.loop-at.at; from_there = c.loop-at.invariant.0; inside = c.loop-at-test.true; zeros = c.loop-at.invariant.1; wrong = c.if-buffer-at-ne0.true })

pub loop-at-preserved : goal.loop-at-preserved
loop-at-preserved c =
    let from = c.loop-at.invariant.0 in (
      omega (arith, from),
      λ i low high. ⊎_elim
          (λ (below : i < c.loop-at.at). c.loop-at.invariant.1 i low below)
          (λ (past : c.loop-at.at ≤ i).
          let e : i ≡ c.loop-at.at = omega (arith, high, past) in
          ap (λ k. get_or c.args.buffer.now k 0) e ∙ c.if-buffer-at-ne0.false)
          (cases_lt i c.loop-at.at),
    )

pub returns-clause-whole : goal.returns-clause-whole
returns-clause-whole c = (refl, λ i low high. let past = c.loop-at-test.false in c.loop-at.invariant.1 i low (omega (arith, high, past)))
