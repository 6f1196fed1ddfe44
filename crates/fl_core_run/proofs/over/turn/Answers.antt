use Rattle.fl_core_run.proofs.States.{turned_so, over_side}
use Rattle.fl_core_run.proofs.over.turn.Goals as goal

pub turn-requires : goal.turn-requires
turn-requires g c = record { there = c.requires.there; due = c.requires.due; lent = c.requires.lent }

pub returns : goal.returns
returns g c = record {
  turns = over_side g.S.CoreSides.states g.S.CoreSides.state_of g.S.CoreSides.rest_of g.S.CoreSides.lends g.S.CoreSides.returned
      g.met.S.CoreSides.stands g.met.S.CoreSides.gives_back c.args.sides.now c.args.n _ _ _ c.side.ensures.lent
      (turned_so _ g.S.CoreSides.ways.takes g.S.CoreSides.state_of g.S.CoreSides.rest_of g.met.S.CoreSides.takes_are c.args.dispatcher c.args.e c.args.core.now _ c.turn.result c.turn.new.self _ c.turn.ensures.turns);
}
