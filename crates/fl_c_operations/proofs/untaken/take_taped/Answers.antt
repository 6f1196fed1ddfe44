use Rattle.std.proofs.Common.{take, Option, Some, refl, sym, subst}
use Rattle.fl_base.specs.declared.fragment.Frag.{Frag}
use Rattle.fl_base.specs.Control.{bare}
use Rattle.fl_link.specs.Looks.{Look}
use Rattle.fl_ring.specs.SharedSides.{SharedTakes}
use Rattle.fl_c_operations.proofs.Looking.{taken_seen}
use Rattle.fl_c_operations.proofs.untaken.take_taped.Goals as goal

pub returns : goal.returns
returns c =
    let f = c.in-Some.frag.now in
    let p = c.args.side.now.side in
    let gets = subst (λ (l : Look). SharedTakes p l c.take_seen.new.self.side) (c.take_seen.ensures.data f (sym c.in-Some.ensures.seen)) c.take_seen.ensures.look in
    record { some = λ q lent. taken_seen c.args.end.now q p c.take_seen.new.self.side f _ _ _ (sym c.in-Some.ensures.seen) lent gets c.in-Some-taped_call.ensures.short; none = tt }
