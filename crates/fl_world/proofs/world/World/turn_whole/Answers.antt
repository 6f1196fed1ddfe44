use Rattle.std.proofs.Common.{◌≡◌, sym, subst}
use Rattle.fl_model.specs.Events.{Answer, DispatcherId}
use Rattle.fl_model.specs.Views.{answer_of, id_of}
use Rattle.fl_world_refines.specs.View.{TheWorld}
use Rattle.fl_world_refines.specs.Taking.{HasTurn}
use Rattle.fl_world.proofs.world.World.turn_whole.Goals as goal

-- a turn is one of a world that is the same, with an answer that is the same
had : (d : DispatcherId) (before shown after : TheWorld) (told whole : Answer) → before ≡ shown → whole ≡ told → HasTurn d before told after → HasTurn d shown whole after
had d before shown after told whole same alike h =
    subst (λ (w : TheWorld). HasTurn d w whole after) same (subst (λ (a : Answer). HasTurn d before a after) (sym alike) h)

pub returns-in-Ok-clause-turns : goal.returns-in-Ok-clause-turns
returns-in-Ok-clause-turns c =
    had (id_of c.args.dispatcher) _ c.args.self.now c.turn.new.self _ (answer_of c.whole.result) c.self.view_is c.whole.ensures.whole c.in-Ok.ensures.turns
