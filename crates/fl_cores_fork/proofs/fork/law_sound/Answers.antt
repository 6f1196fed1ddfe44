use Rattle.std.proofs.Common.{◌≡◌, ◌∙◌, ap, length, arith}
use Rattle.std.proofs.lemmas.Option.{slice_get_within}
use Rattle.fl_core.specs.BoardView.{TheBoard}
use Rattle.fl_cores_fork.proofs.Each.{end_more}
use Rattle.fl_cores_fork.proofs.fork.law_sound.Goals as goal

pub loop-e-preserved : goal.loop-e-preserved
loop-e-preserved c = end_more c.args.core.now.board.seats c.loop-e.e c.loop-e.invariant c.law_sound_at.ensures.end

pub returns-clause-ends : goal.returns-clause-ends
returns-clause-ends c =
    let core = c.args.core.now in
    let low = c.loop-e.auto.e-end in
    let high = c.loop-e-test.false in
    let all : c.loop-e.e ≡ c.ends-e-end.result = omega (arith, low, high) in
    let many : c.loop-e.e ≡ length core.board.seats = all ∙ c.ends-e-end.ensures.ends ∙ ap (λ (b : TheBoard). length b.seats) c.board.ensures.board in
    λ place seat at. c.loop-e.invariant place seat (let below = slice_get_within core.board.seats place seat at in omega (arith, many, below)) at
