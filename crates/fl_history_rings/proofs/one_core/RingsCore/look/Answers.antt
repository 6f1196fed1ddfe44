use Rattle.std.proofs.Common.{subst, MatchOption, ◌∙◌, ap}
use Rattle.std.specs.Arc.{arc_value}
use Rattle.fl_history_rings.specs.Rule.{seen_at}
use Rattle.fl_history_rings.specs.Cores.{TheCore, core_shown}
use Rattle.fl_history_rings.specs.Sides.{LeavesOthers, Misses, Sees}
use Rattle.fl_history_rings.proofs.Others.{look_leaves}
use Rattle.fl_history_rings.proofs.SideCalls.{call_seated, call_steps, call_whole, called_same, called_steps}
use Rattle.fl_history_rings.proofs.one_core.RingsCore.look.Goals as goal

pub look-requires-clause-seated : goal.look-requires-clause-seated
look-requires-clause-seated c = call_seated (arc_value c.self.inside.board) c.deref.result.now c.self.inside.seat _ _ c.self.invariant c.self.view_is c.deref.ensures

pub look-requires-clause-rest : goal.look-requires-clause-rest
look-requires-clause-rest c = c.self.invariant.rest

pub look-requires-clause-mine : goal.look-requires-clause-mine
look-requires-clause-mine c = call_steps (arc_value c.self.inside.board) c.deref.result.now c.self.inside.seat _ _ c.self.invariant c.self.view_is c.deref.ensures _ c.requires.mine

pub invariant_of-self : goal.invariant_of-self
invariant_of-self c = call_whole (arc_value c.self.inside.board) c.deref.result.now c.self.inside.seat _ _ c.self.invariant c.self.view_is c.deref.ensures c.look.new.seat c.look.ensures.seated c.look.ensures.rest c.look.ensures.core

pub returns-clause-same : goal.returns-clause-same
returns-clause-same c = called_same (arc_value c.self.inside.board) c.deref.result.now c.self.inside.seat _ _ c.self.invariant c.self.view_is c.deref.ensures c.look.new.seat c.look.ensures.seated c.look.ensures.core

pub returns-clause-mine : goal.returns-clause-mine
returns-clause-mine c = called_steps (arc_value c.self.inside.board) c.deref.result.now c.self.inside.seat _ _ c.self.invariant c.self.view_is c.deref.ensures c.look.new.seat c.look.ensures.seated c.look.new.self c.look.ensures.mine

pub returns-clause-noted : goal.returns-clause-noted
returns-clause-noted c =
    subst (λ (s : TheCore). MatchOption c.look.result (Misses s c.args.side.now c.look.new.self (core_shown c.look.new.seat)) (λ frag. Sees s c.args.side.now frag c.look.new.self (core_shown c.look.new.seat))) c.self.view_is c.look.ensures.noted

pub returns-clause-again : goal.returns-clause-again
returns-clause-again c = λ f was. c.look.ensures.again f (ap (λ (s : TheCore). seen_at c.args.side.now.put.side s.steps) c.self.view_is ∙ was)

pub returns-clause-beside : goal.returns-clause-beside
returns-clause-beside c = subst (λ (s : TheCore). LeavesOthers c.args.side.now c.look.new.self s (core_shown c.look.new.seat)) c.self.view_is (look_leaves c.look.result (core_shown c.self.inside.seat) c.args.side.now c.look.new.self (core_shown c.look.new.seat) c.look.ensures.noted)
