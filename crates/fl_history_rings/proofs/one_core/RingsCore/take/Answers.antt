use Rattle.std.proofs.Common.{subst, MatchOption, ◌∙◌, ap}
use Rattle.std.specs.Arc.{arc_value}
use Rattle.fl_history_rings.specs.Rule.{seen_at}
use Rattle.fl_history_rings.specs.Cores.{TheCore, core_shown}
use Rattle.fl_history_rings.specs.Sides.{LeavesOthers, Misses, Takes}
use Rattle.fl_history_rings.proofs.Others.{take_leaves}
use Rattle.fl_history_rings.proofs.SideCalls.{call_seated, call_steps, call_whole, called_same, called_steps}
use Rattle.fl_history_rings.proofs.one_core.RingsCore.take.Goals as goal

pub take-requires-clause-seated : goal.take-requires-clause-seated
take-requires-clause-seated c = call_seated (arc_value c.self.inside.board) c.deref.result.now c.self.inside.seat _ _ c.self.invariant c.self.view_is c.deref.ensures

pub take-requires-clause-rest : goal.take-requires-clause-rest
take-requires-clause-rest c = c.self.invariant.rest

pub take-requires-clause-mine : goal.take-requires-clause-mine
take-requires-clause-mine c = call_steps (arc_value c.self.inside.board) c.deref.result.now c.self.inside.seat _ _ c.self.invariant c.self.view_is c.deref.ensures _ c.requires.mine

pub invariant_of-self : goal.invariant_of-self
invariant_of-self c = call_whole (arc_value c.self.inside.board) c.deref.result.now c.self.inside.seat _ _ c.self.invariant c.self.view_is c.deref.ensures c.take.new.seat c.take.ensures.seated c.take.ensures.rest c.take.ensures.core

pub returns-clause-same : goal.returns-clause-same
returns-clause-same c = called_same (arc_value c.self.inside.board) c.deref.result.now c.self.inside.seat _ _ c.self.invariant c.self.view_is c.deref.ensures c.take.new.seat c.take.ensures.seated c.take.ensures.core

pub returns-clause-mine : goal.returns-clause-mine
returns-clause-mine c = called_steps (arc_value c.self.inside.board) c.deref.result.now c.self.inside.seat _ _ c.self.invariant c.self.view_is c.deref.ensures c.take.new.seat c.take.ensures.seated c.take.new.self c.take.ensures.mine

pub returns-clause-noted : goal.returns-clause-noted
returns-clause-noted c =
    subst (λ (s : TheCore). MatchOption c.take.result (Misses s c.args.side.now c.take.new.self (core_shown c.take.new.seat)) (λ frag. Takes s c.args.side.now frag c.take.new.self (core_shown c.take.new.seat))) c.self.view_is c.take.ensures.noted

pub returns-clause-again : goal.returns-clause-again
returns-clause-again c = λ f was. c.take.ensures.again f (ap (λ (s : TheCore). seen_at c.args.side.now.put.side s.steps) c.self.view_is ∙ was)

pub returns-clause-beside : goal.returns-clause-beside
returns-clause-beside c = subst (λ (s : TheCore). LeavesOthers c.args.side.now c.take.new.self s (core_shown c.take.new.seat)) c.self.view_is (take_leaves c.take.result (core_shown c.self.inside.seat) c.args.side.now c.take.new.self (core_shown c.take.new.seat) c.take.ensures.noted)
