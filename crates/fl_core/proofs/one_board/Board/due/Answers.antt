use Rattle.std.proofs.Common.{sym, ◌∙◌, subst, length, ◌<◌, arith}
use Rattle.fl_core.specs.BoardView.{TheBoard}
use Rattle.fl_core.proofs.Dispatchers.{due_is, channel_below, place_is, place_below}
use Rattle.fl_core.proofs.one_board.Board.due.Goals as goal

pub index-requires : goal.index-requires
index-requires c = let within = channel_below c.args.self.now _ c.self.view_is c.args.dispatcher c.requires _ _ c.index-dispatcher.ensures c.dispatcher.view_is c.self.invariant.board c.in-Ok.pick (sym c.in-Ok.ensures.pick) in omega (arith, within, c.from.ensures, c.channel_of.ensures.channel, c.dispatcher.inside.ends.ok.0)

pub returns-in-Ok-clause-due : goal.returns-in-Ok-clause-due
returns-in-Ok-clause-due c = sym (due_is c.args.self.now _ c.self.view_is c.args.dispatcher c.requires _ _ c.index-dispatcher.ensures c.dispatcher.view_is _ c.in-Ok.ensures.pick ∙ place_is c.args.self.now _ c.self.view_is c.args.dispatcher c.requires _ _ c.index-dispatcher.ensures c.dispatcher.view_is c.self.invariant.board c.in-Ok.pick (sym c.in-Ok.ensures.pick) c.from.result c.index.result.now (c.from.ensures ∙ c.channel_of.ensures.channel) c.index.ensures)

pub returns-in-Ok-clause-within : goal.returns-in-Ok-clause-within
returns-in-Ok-clause-within c = subst (λ (x : TheBoard). c.index.result.now < length x.seats) c.self.view_is (place_below c.args.self.now _ c.self.view_is c.args.dispatcher c.requires _ _ c.index-dispatcher.ensures c.dispatcher.view_is c.self.invariant.board c.in-Ok.pick (sym c.in-Ok.ensures.pick) c.from.result c.index.result.now (c.from.ensures ∙ c.channel_of.ensures.channel) c.index.ensures)

pub returns-in-Err-clause-due : goal.returns-in-Err-clause-due
returns-in-Err-clause-due c = sym (due_is c.args.self.now _ c.self.view_is c.args.dispatcher c.requires _ _ c.index-dispatcher.ensures c.dispatcher.view_is _ c.in-Err.ensures.pick)
