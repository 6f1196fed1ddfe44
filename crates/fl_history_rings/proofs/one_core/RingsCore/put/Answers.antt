use Rattle.std.proofs.Common.{◌∙◌, subst, OnOk}
use Rattle.std.specs.Arc.{arc_value}
use Rattle.fl_history_rings.specs.Cores.{TheCore, core_shown}
use Rattle.fl_history_rings.specs.Sides.{LeavesOthers, FindsRoom, Puts}
use Rattle.fl_history_rings.proofs.Others.{put_leaves}
use Rattle.fl_history_rings.proofs.SideCalls.{call_seated, call_steps, call_whole, called_same, called_steps}
use Rattle.fl_history_rings.proofs.one_core.RingsCore.put.Goals as goal

pub put-requires-clause-seated : goal.put-requires-clause-seated
put-requires-clause-seated c = call_seated (arc_value c.self.inside.board) c.deref.result.now c.self.inside.seat _ _ c.self.invariant c.self.view_is c.deref.ensures

pub put-requires-clause-rest : goal.put-requires-clause-rest
put-requires-clause-rest c = c.self.invariant.rest

pub put-requires-clause-mine : goal.put-requires-clause-mine
put-requires-clause-mine c = call_steps (arc_value c.self.inside.board) c.deref.result.now c.self.inside.seat _ _ c.self.invariant c.self.view_is c.deref.ensures _ c.requires.mine

pub invariant_of-self : goal.invariant_of-self
invariant_of-self c = call_whole (arc_value c.self.inside.board) c.deref.result.now c.self.inside.seat _ _ c.self.invariant c.self.view_is c.deref.ensures c.put.new.seat c.put.ensures.seated c.put.ensures.rest c.put.ensures.core

pub returns-clause-same : goal.returns-clause-same
returns-clause-same c = called_same (arc_value c.self.inside.board) c.deref.result.now c.self.inside.seat _ _ c.self.invariant c.self.view_is c.deref.ensures c.put.new.seat c.put.ensures.seated c.put.ensures.core

pub returns-clause-mine : goal.returns-clause-mine
returns-clause-mine c = called_steps (arc_value c.self.inside.board) c.deref.result.now c.self.inside.seat _ _ c.self.invariant c.self.view_is c.deref.ensures c.put.new.seat c.put.ensures.seated c.put.new.self c.put.ensures.mine

pub returns-clause-placed : goal.returns-clause-placed
returns-clause-placed c = subst (λ (s : TheCore). OnOk c.put.result (Puts 2 s c.args.side.now c.args.frag.now c.put.new.self (core_shown c.put.new.seat))) c.self.view_is c.put.ensures.placed

pub returns-clause-full : goal.returns-clause-full
returns-clause-full c = λ e. let full = c.put.ensures.full e in (subst (λ (s : TheCore). FindsRoom 2 s c.args.side.now c.put.new.self (core_shown c.put.new.seat)) c.self.view_is full.0, full.1)

pub returns-clause-spent : goal.returns-clause-spent
returns-clause-spent c = λ e. let spent = c.put.ensures.spent e in ((spent.0.0 ∙ c.self.view_is, spent.0.1), spent.1)

pub returns-clause-beside : goal.returns-clause-beside
returns-clause-beside c = subst (λ (s : TheCore). LeavesOthers c.args.side.now c.put.new.self s (core_shown c.put.new.seat)) c.self.view_is (put_leaves c.put.result (core_shown c.self.inside.seat) c.args.side.now c.args.frag.now c.put.new.self (core_shown c.put.new.seat) c.put.ensures.placed c.put.ensures.full c.put.ensures.spent)
