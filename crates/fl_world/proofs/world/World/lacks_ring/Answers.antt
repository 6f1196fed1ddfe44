use Rattle.std.proofs.Common.{refl, sym, ap, ◌∙◌}
use Rattle.std.specs.Prelude.{not}
use Rattle.fl_world.proofs.Requested.{if_true}
use Rattle.fl_world.proofs.world.World.lacks_ring.Goals as goal

pub returns-then-not-has_both_places-clause-refused : goal.returns-then-not-has_both_places-clause-refused
returns-then-not-has_both_places-clause-refused c = λ p there size. if_true _ _ _ (ap not (sym c.has_both_places.ensures.places ∙ c.if-not-has_both_places.true)) (refl, refl)

pub returns-clause-last : goal.returns-clause-last
returns-clause-last c = sym c.has_both_places.ensures.places ∙ c.if-not-has_both_places.false
