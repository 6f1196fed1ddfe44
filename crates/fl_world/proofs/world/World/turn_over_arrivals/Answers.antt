use Rattle.std.proofs.Common.{refl, arith}
use Rattle.fl_world_refines.specs.Taking.{as_turn, TurnsArrivals}
use Rattle.fl_value_data.specs.Value.{call_of}
use Rattle.fl_model.specs.Views.{turned_of}
use Rattle.fl_world.proofs.Handling.{from_arrivals}
use Rattle.fl_world.proofs.Lifts.{due_read, core_if_ok, few_kept, core_put_back, on_err_map}
use Rattle.fl_world.proofs.Lent.{due_there, due_end, due_within}
use Rattle.fl_world.proofs.world.World.turn_over_arrivals.Goals as goal

pub returns-clause-turns : goal.returns-clause-turns
returns-clause-turns c = core_if_ok c.args.self.now _ c.self.view_is c.args.n (due_read c.args.self.now _ c.self.view_is c.args.n c.args.at _ c.requires.due) _ _ c.index_mut-core.ensures.value refl (λ a. TurnsArrivals (as_turn c.args.at.dispatcher c.args.at.end c.args.at.name (turned_of a (call_of c.turn_in.new.handled)))) _ c.turn_in.result c.turn_in.ensures.turns

pub index_mut-core-requires : goal.index_mut-core-requires
index_mut-core-requires c = omega (arith, due_read c.args.self.now _ c.self.view_is c.args.n c.args.at _ c.requires.due, c.self.inside.cores.ok.0)

pub turn_in-requires-clause-there : goal.turn_in-requires-clause-there
turn_in-requires-clause-there c = due_there c.args.self.now _ c.self.view_is c.args.n c.args.at _ c.requires.due c.index_mut-core.result.now c.index_mut-core.ensures.value

pub turn_in-requires-clause-due : goal.turn_in-requires-clause-due
turn_in-requires-clause-due c = due_end c.args.self.now _ c.self.view_is c.args.n c.args.at _ c.requires.due c.index_mut-core.result.now c.index_mut-core.ensures.value

pub turn_in-requires-clause-end : goal.turn_in-requires-clause-end
turn_in-requires-clause-end c = due_within c.args.self.now _ c.self.view_is c.args.n c.args.at _ c.requires.due c.index_mut-core.result.now c.index_mut-core.ensures.value

pub invariant_of-self : goal.invariant_of-self
invariant_of-self c = few_kept c.self.inside.cores.items c.args.n c.turn_in.new.core c.self.invariant

pub returns-clause-kept : goal.returns-clause-kept
returns-clause-kept c = on_err_map _ _ c.turn_in.result (λ k. core_put_back c.args.self.now _ c.self.view_is c.args.n _ _ _ c.index_mut-core.ensures.value refl k) c.turn_in.ensures.kept

pub returns-clause-wants : goal.returns-clause-wants
returns-clause-wants c = on_err_map _ _ c.turn_in.result
    (from_arrivals c.args.self.now _ c.self.view_is c.args.n (due_read c.args.self.now _ c.self.view_is c.args.n c.args.at _ c.requires.due) c.args.at _ _ c.index_mut-core.ensures.value refl)
    c.turn_in.ensures.wants
