use Rattle.std.proofs.Common.{refl, arith, inr}
use Rattle.fl_link.specs.Queue.{QueueTakes}
use Rattle.fl_world_refines.specs.Taking.{as_turn, TurnsWith}
use Rattle.fl_value_data.specs.Value.{call_of}
use Rattle.fl_model.specs.Views.{turned_of}
use Rattle.fl_world_refines.specs.View.{TheWorld}
use Rattle.fl_world.proofs.Handling.{from_queue}
use Rattle.fl_world.proofs.Lifts.{due_read, queue_if_ok, few_kept, queue_put_back, on_err_both, on_err_map}
use Rattle.fl_world.proofs.Lent.{due_there, due_end, due_within, lent_to_queue, past_end, stray}
use Rattle.fl_world.proofs.world.World.turn_over_queue.Goals as goal

pub returns-in-Some-clause-turns : goal.returns-in-Some-clause-turns
returns-in-Some-clause-turns c = queue_if_ok c.args.self.now _ c.self.view_is c.args.n c.args.q (due_read c.args.self.now _ c.self.view_is c.args.n c.args.at _ c.requires.due) (omega (arith, c.in-Some.ensures.variant.0 refl, c.self.inside.queues.ok.0)) _ _ c.index_mut.ensures.value refl _ _ c.in-Some.ensures.value refl (λ a. TurnsWith QueueTakes (as_turn c.args.at.dispatcher c.args.at.end c.args.at.name (turned_of a (call_of c.turn_by_queue.new.handled)))) (call_of c.turn_by_queue.new.handled) _ _ c.turn_by_queue.result c.turn_by_queue.ensures.turns

pub invariant_of-self : goal.invariant_of-self
invariant_of-self c = c.self.invariant

pub index_mut-requires : goal.index_mut-requires
index_mut-requires c = omega (arith, due_read c.args.self.now _ c.self.view_is c.args.n c.args.at _ c.requires.due, c.self.inside.cores.ok.0)

pub turn_by_queue-requires-clause-there : goal.turn_by_queue-requires-clause-there
turn_by_queue-requires-clause-there c = due_there c.args.self.now _ c.self.view_is c.args.n c.args.at _ c.requires.due c.index_mut.result.now c.index_mut.ensures.value

pub turn_by_queue-requires-clause-due : goal.turn_by_queue-requires-clause-due
turn_by_queue-requires-clause-due c = due_end c.args.self.now _ c.self.view_is c.args.n c.args.at _ c.requires.due c.index_mut.result.now c.index_mut.ensures.value

pub turn_by_queue-requires-clause-end : goal.turn_by_queue-requires-clause-end
turn_by_queue-requires-clause-end c = due_within c.args.self.now _ c.self.view_is c.args.n c.args.at _ c.requires.due c.index_mut.result.now c.index_mut.ensures.value

pub turn_by_queue-requires-clause-lent : goal.turn_by_queue-requires-clause-lent
turn_by_queue-requires-clause-lent c = lent_to_queue c.args.self.now _ c.self.view_is c.args.n c.args.at _ c.requires.due c.index_mut.result.now c.index_mut.ensures.value c.args.q refl

pub invariant_of-self-in-Some : goal.invariant_of-self-in-Some
invariant_of-self-in-Some c = few_kept c.self.inside.cores.items c.args.n c.turn_by_queue.new.core c.self.invariant

pub returns-in-None-clause-turns : goal.returns-in-None-clause-turns
returns-in-None-clause-turns c = inr (stray c.args.self.now _ c.self.view_is (λ (x : TheWorld). x.queues) c.args.q (omega (arith, past_end _ _ c.in-None.ensures.variant.1, c.self.inside.queues.ok.0)))

pub returns-in-Some-clause-kept : goal.returns-in-Some-clause-kept
returns-in-Some-clause-kept c = on_err_both _ _ _ c.turn_by_queue.result (λ k p. queue_put_back c.args.self.now _ c.self.view_is c.args.n c.args.q _ _ _ c.index_mut.ensures.value refl k _ _ _ c.in-Some.ensures.value refl p) c.turn_by_queue.ensures.kept c.turn_by_queue.ensures.left

pub returns-in-Some-clause-wants : goal.returns-in-Some-clause-wants
returns-in-Some-clause-wants c = on_err_map _ _ c.turn_by_queue.result
    (from_queue c.args.self.now _ c.self.view_is c.args.n (due_read c.args.self.now _ c.self.view_is c.args.n c.args.at _ c.requires.due) c.args.at _ _ c.index_mut.ensures.value refl
    c.args.q (omega (arith, c.in-Some.ensures.variant.0 refl, c.self.inside.queues.ok.0)) _ _ c.in-Some.ensures.value refl)
    c.turn_by_queue.ensures.wants
