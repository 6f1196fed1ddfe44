use Rattle.std.proofs.Common.{◌≡◌, ◌∙◌, refl, sym, ap, subst, true, Some}
use Rattle.std.proofs.lemmas.Bool.{ltb-true}
use Rattle.fl_core.specs.declared.wiring.Inlet.{Inlet}
use Rattle.fl_core_run.specs.LogEntries.{dispatcher_turn, TurnsOver}
use Rattle.fl_core_run.specs.Run.{run_by, lends_in}
use Rattle.fl_core_run.proofs.Inlets.{queue_lent, side_lent, own_queue}
use Rattle.fl_core_run.proofs.Turning.{over_queue, over_side}
use Rattle.fl_core_run.proofs.dispatchers.turn_over.Goals as goal

pub returns-in-Queue : goal.returns-in-Queue
returns-in-Queue g c = record {
  turns = over_queue g.S.CoreSides.ways c.args.dispatcher c.args.e c.in-Queue.n c.args.inlet c.turn.result (run_by g.S.CoreSides.states c.args.run.now) c.turn.new.self
      c.index_mut.result.now c.turn.new.from c.in-Queue.is c.requires.lent c.index_mut.ensures.value c.turn.ensures.turns;
}

pub returns-in-Side : goal.returns-in-Side
returns-in-Side g c = record {
  turns = over_side g.S.CoreSides.ways c.args.dispatcher c.args.e c.in-Side.n c.args.inlet c.turn-in-Side.result (run_by g.S.CoreSides.states c.args.run.now) c.turn-in-Side.new.core
      (g.S.CoreSides.states c.turn-in-Side.new.sides) c.in-Side.is c.turn-in-Side.ensures.turns;
}

pub turn-requires : goal.turn-requires
turn-requires g c = record {
  there = c.requires.there;
  due = c.requires.due;
  lent = queue_lent c.args.run.now.core c.args.e c.in-Queue.n (c.requires.inlet ∙ ap Some c.in-Queue.is);
}

pub turn-requires-in-Side : goal.turn-requires-in-Side
turn-requires-in-Side g c = record {
  side = ltb-true _ _ (subst (λ (j : Inlet). lends_in (run_by g.S.CoreSides.states c.args.run.now) j ≡ true) c.in-Side.is c.requires.lent);
  there = c.requires.there;
  due = c.requires.due;
  lent = side_lent c.args.run.now.core c.args.e c.in-Side.n (c.requires.inlet ∙ ap Some c.in-Side.is);
}

pub turn_arrivals-requires : goal.turn_arrivals-requires
turn_arrivals-requires g c = record {
  there = c.requires.there;
  due = c.requires.due;
  own = own_queue c.args.run.now.core c.args.e (c.requires.inlet ∙ ap Some c.in-Arrivals.is);
}

pub returns-in-Arrivals : goal.returns-in-Arrivals
returns-in-Arrivals g c = record {
  turns = subst (λ (i : Inlet). TurnsOver g.S.CoreSides.ways (dispatcher_turn c.args.dispatcher c.args.e c.turn_arrivals.result) i (run_by g.S.CoreSides.states c.args.run.now)
      (record (run_by g.S.CoreSides.states c.args.run.now) { core = c.turn_arrivals.new.self })) (sym c.in-Arrivals.is) (record { event = c.turn_arrivals.ensures.turns; rest = refl });
}
