use Rattle.std.proofs.Common.{refl, arith}
use Rattle.fl_world.proofs.Added.{no_room, no_core, added}
use Rattle.fl_world.proofs.Kept.{on_any}
use Rattle.fl_world.proofs.Lent.{past_end, nothing_at}
use Rattle.fl_world.proofs.Lifts.{few_kept, core_put_back}
use Rattle.fl_world.proofs.Last.{dispatcher_last}
use Rattle.fl_world.proofs.world.World.add_dispatcher.Goals as goal

pub returns-then-self-ge-MAX_DISPATCHERS-clause-adds : goal.returns-then-self-ge-MAX_DISPATCHERS-clause-adds
returns-then-self-ge-MAX_DISPATCHERS-clause-adds c = no_room c.args.core c.args.self.now _ c.self.view_is c.if-self-ge-MAX_DISPATCHERS.true

pub returns-in-None-clause-adds : goal.returns-in-None-clause-adds
returns-in-None-clause-adds c = no_core c.args.core c.args.self.now _ c.self.view_is c.if-self-ge-MAX_DISPATCHERS.false
    (nothing_at c.args.self.now _ c.self.view_is c.args.core (omega (arith, past_end _ _ c.in-None.ensures.variant.1, c.self.inside.cores.ok.0)))

pub returns-in_ok-add_dispatcher-in-Some-clause-adds : goal.returns-in_ok-add_dispatcher-in-Some-clause-adds
returns-in_ok-add_dispatcher-in-Some-clause-adds c = added c.args.core c.args.self.now _ c.self.view_is c.if-self-ge-MAX_DISPATCHERS.false
    (omega (arith, c.in-Some.ensures.variant.0 refl, c.self.inside.cores.ok.0)) _ _ c.in-Some.ensures.value refl c.add_dispatcher.new.self
    c.in_ok-add_dispatcher-in-Some.ensures.added

pub returns-in_err-add_dispatcher-in-Some-clause-kept : goal.returns-in_err-add_dispatcher-in-Some-clause-kept
returns-in_err-add_dispatcher-in-Some-clause-kept c = on_any _ c.from_residual.result
    (core_put_back c.args.self.now _ c.self.view_is c.args.core _ _ _ c.in-Some.ensures.value refl c.in_err-add_dispatcher-in-Some.ensures.kept)

pub invariant_of-self-in-Some : goal.invariant_of-self-in-Some
invariant_of-self-in-Some c = few_kept c.self.inside.cores.items c.args.core c.add_dispatcher.new.self c.self.invariant

pub invariant_of-self-in_err-add_dispatcher-in-Some : goal.invariant_of-self-in_err-add_dispatcher-in-Some
invariant_of-self-in_err-add_dispatcher-in-Some c = few_kept c.self.inside.cores.items c.args.core c.add_dispatcher.new.self c.self.invariant

pub returns-in_err-add_dispatcher-in-Some-clause-last : goal.returns-in_err-add_dispatcher-in-Some-clause-last
returns-in_err-add_dispatcher-in-Some-clause-last c = on_any _ c.from_residual.result (dispatcher_last c.args.core c.args.self.now _ c.self.view_is
    c.if-self-ge-MAX_DISPATCHERS.false (omega (arith, c.in-Some.ensures.variant.0 refl, c.self.inside.cores.ok.0)) _ c.in-Some.ensures.value)
