use Rattle.std.proofs.Common.{◌≡◌, ap, ◌∙◌, subst, length, ℕ, arith}
use Rattle.fl_core.specs.BoardView.{TheBoard}
use Rattle.fl_cores_parts.specs.Dealing.{TakesQueue, PutsQueue, UsesQueue, Below, Owns}
use Rattle.fl_cores_parts.proofs.Owning.{none_below, both_more, owns_queues}
use Rattle.fl_cores_parts.proofs.sharing.own_queues.Goals as goal

pub loop-e-init : goal.loop-e-init
loop-e-init c = none_below (UsesQueue c.args.core.now) c.args.k c.args.owners.now.items

pub loop-e-preserved : goal.loop-e-preserved
loop-e-preserved c =
    both_more (TakesQueue c.args.core.now) (PutsQueue c.args.core.now) c.loop-e.e c.args.k c.args.owners.now.items c.loop-e.owners.items
    c.own_inlet.new.owners.items c.own_outlet.new.owners.items c.loop-e.invariant c.own_inlet.ensures.owns c.own_outlet.ensures.owns

pub returns : goal.returns
returns c =
    let core = c.args.core.now in
    let low = c.loop-e.auto.e-end in
    let high = c.loop-e-test.false in
    let all : c.loop-e.e ≡ c.ends-e-end.result = omega (arith, low, high) in
    let many : c.loop-e.e ≡ length core.board.seats = all ∙ c.ends-e-end.ensures.ends ∙ ap (λ (b : TheBoard). length b.seats) c.board.ensures.board in
    record {
      owns = owns_queues core c.law_sound.ensures.sound c.args.k c.args.owners.now.items c.loop-e.owners.items
          (subst (λ (n : ℕ). Owns (Below (UsesQueue core) n) c.args.k c.args.owners.now.items c.loop-e.owners.items) many c.loop-e.invariant);
    }
