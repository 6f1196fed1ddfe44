use Rattle.std.proofs.Common.{subst, sym}
use Rattle.std.specs.List.{AllByRecursion}
use Rattle.fl_history_rings.specs.Cores.{TheCore, Owns}
use Rattle.fl_history_shares.proofs.dealing.next_sides.Goals as goal

pub of-requires-clause-mine : goal.of-requires-clause-mine
of-requires-clause-mine c =
    let given = rw c.in-Some.is at c.in_ok-core.ensures.given in
    subst (λ (k : TheCore). AllByRecursion (λ n. Owns k.sides n k.number) c.args.numbers.now) (sym given.1) c.requires.mine.each
