use Rattle.std.proofs.Common.{◌<◌, ◌≤◌, ⊎_elim, arith}
use Rattle.std.proofs.lemmas.Bool.{cases_lt}
use Rattle.fl_wire.proofs.leaf.past_zeros.Goals as goal

pub loop-p-init : goal.loop-p-init
loop-p-init c = (omega arith, λ q from below. absurd (omega (arith, from, below)))

pub loop-p-preserved : goal.loop-p-preserved
loop-p-preserved c =
    let (from, zeros) = c.loop-p.invariant in (
      omega (arith, from),
      λ q low high. ⊎_elim
          (λ (below : q < c.loop-p.p). zeros q low below)
          (λ (past : c.loop-p.p ≤ q). c.rest_of_word.ensures.zeros c.if-rest_of_word-eq0.true q past (omega (arith, past, high, c.min-p.ensures)))
          (cases_lt q c.loop-p.p),
    )
