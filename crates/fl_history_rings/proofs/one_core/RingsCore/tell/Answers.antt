use Rattle.std.proofs.Common.{◌∙◌, ◌⊎◌, subst}
use Rattle.std.specs.Arc.{arc_value}
use Rattle.fl_history_rings.specs.Cores.{TheCore, core_shown}
use Rattle.fl_ring.specs.Duo.{acknowledgement}
use Rattle.fl_history_rings.specs.Sides.{LeavesOthers, FindsNone, Stays, IsSpent, Puts}
use Rattle.fl_history_rings.proofs.Others.{tell_leaves}
use Rattle.fl_history_rings.proofs.SideCalls.{call_seated, call_steps, call_whole, called_same, called_steps}
use Rattle.fl_history_rings.proofs.one_core.RingsCore.tell.Goals as goal

pub tell-requires-clause-seated : goal.tell-requires-clause-seated
tell-requires-clause-seated c = call_seated (arc_value c.self.inside.board) c.deref.result.now c.self.inside.seat _ _ c.self.invariant c.self.view_is c.deref.ensures

pub tell-requires-clause-rest : goal.tell-requires-clause-rest
tell-requires-clause-rest c = c.self.invariant.rest

pub tell-requires-clause-mine : goal.tell-requires-clause-mine
tell-requires-clause-mine c = call_steps (arc_value c.self.inside.board) c.deref.result.now c.self.inside.seat _ _ c.self.invariant c.self.view_is c.deref.ensures _ c.requires.mine

pub invariant_of-self : goal.invariant_of-self
invariant_of-self c = call_whole (arc_value c.self.inside.board) c.deref.result.now c.self.inside.seat _ _ c.self.invariant c.self.view_is c.deref.ensures c.tell.new.seat c.tell.ensures.seated c.tell.ensures.rest c.tell.ensures.core

pub returns-clause-same : goal.returns-clause-same
returns-clause-same c = called_same (arc_value c.self.inside.board) c.deref.result.now c.self.inside.seat _ _ c.self.invariant c.self.view_is c.deref.ensures c.tell.new.seat c.tell.ensures.seated c.tell.ensures.core

pub returns-clause-mine : goal.returns-clause-mine
returns-clause-mine c = called_steps (arc_value c.self.inside.board) c.deref.result.now c.self.inside.seat _ _ c.self.invariant c.self.view_is c.deref.ensures c.tell.new.seat c.tell.ensures.seated c.tell.new.self c.tell.ensures.mine

pub returns-clause-nothing : goal.returns-clause-nothing
returns-clause-nothing c = λ e. let none = c.tell.ensures.nothing e in ((none.0.0 ∙ c.self.view_is, none.0.1), none.1)

pub returns-clause-written : goal.returns-clause-written
returns-clause-written c = λ e. subst (λ (s : TheCore). Puts 1 s c.args.side.now acknowledgement c.tell.new.self (core_shown c.tell.new.seat)) c.self.view_is (c.tell.ensures.written e)

pub returns-clause-full : goal.returns-clause-full
returns-clause-full c = λ e.
    subst (λ (s : TheCore). FindsNone 1 s c.args.side.now c.tell.new.self (core_shown c.tell.new.seat) ⊎ (Stays s c.args.side.now c.tell.new.self (core_shown c.tell.new.seat) × IsSpent c.args.side.now)) c.self.view_is (c.tell.ensures.full e)

pub returns-clause-beside : goal.returns-clause-beside
returns-clause-beside c = subst (λ (s : TheCore). LeavesOthers c.args.side.now c.tell.new.self s (core_shown c.tell.new.seat)) c.self.view_is (tell_leaves c.tell.result (core_shown c.self.inside.seat) c.args.side.now c.tell.new.self (core_shown c.tell.new.seat) c.tell.ensures.nothing c.tell.ensures.written c.tell.ensures.full c.tell.ensures.never_spent)

pub returns-clause-spent : goal.returns-clause-spent
returns-clause-spent c = λ e. let kept = c.tell.ensures.spent e in (kept.0 ∙ c.self.view_is, kept.1)
