use Rattle.std.proofs.Common.{List, ℕ, get_or, refl, subst}
use Rattle.std.proofs.lemmas.List.{take_all}
use Rattle.flounder_show.specs.Named.{StandsIn}
use Rattle.flounder_show.proofs.Naming.{stands_next}
use Rattle.flounder_show.proofs.named.with_names.Goals as goal

pub loop-at-preserved : goal.loop-at-preserved
loop-at-preserved c =
    let table = c.args.table.now in
    let i = c.loop-at.at in
    stands_next table c.loop-at.named.items _ c.in_ok-end_line.ensures.more.0 _ i (get_or table i 0) 0 c.loop-at-test.true refl c.loop-at.invariant
    c.in_ok-end_line.ensures.more.1 c.in_ok-push.ensures.items

pub returns : goal.returns
returns c =
    record { within = subst (λ (t : List ℕ). StandsIn t c.loop-at.named.items) (take_all c.loop-at.at c.args.table.now c.loop-at-test.false) c.loop-at.invariant }
