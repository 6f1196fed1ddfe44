use Rattle.std.proofs.Common.{arith}
use Rattle.fl_ring.proofs.DuoSteps.{known_told}
use Rattle.fl_ring.proofs.halves.known_free.Goals as goal

pub overflow_add-result : goal.overflow_add-result
overflow_add-result c =
    let n = c.requires.0 in let ws = c.requires.1 in let b = c.requires.2 in let s = c.requires.3 in
    omega (arith, s.few, s.there.put_size, s.there.marked.order, s.there.most, known_told n ws c.args.mine.now b s.there)
