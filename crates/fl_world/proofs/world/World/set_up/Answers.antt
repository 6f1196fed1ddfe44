use Rattle.fl_world.proofs.Runs.{set_up_begins, set_up_turn, set_up_ends, set_up_stops}
use Rattle.fl_world.proofs.Unused.{unused_begins, unused_turn, unused_ends}
use Rattle.fl_world.proofs.world.World.set_up.Goals as goal

pub loop-k-init : goal.loop-k-init
loop-k-init c = record {
  passes = λ s h. set_up_begins s c.args.events.now _ h;
  unused = unused_begins c.args.events.now c.args.self.now;
}

pub loop-k-preserved : goal.loop-k-preserved
loop-k-preserved c = record {
  passes = λ s h.
      let i = c.loop-k.invariant.passes s h in
      set_up_turn s c.args.events.now c.loop-k.k _ _ _ _ c.loop-k-test.true c.index-events-k.is i (c.in_default.ensures.passes _ i.shown);
  unused = unused_turn c.args.events.now c.loop-k.k _ _ c.args.self.now c.loop-k.self c.set_up_one.new.self c.loop-k-test.true c.index-events-k.is
      c.loop-k.invariant.unused c.in_default.ensures.unused;
}

pub returns-clause-passes : goal.returns-clause-passes
returns-clause-passes c = λ s h. set_up_ends s c.args.events.now c.loop-k.k _ c.loop-k-test.false (c.loop-k.invariant.passes s h)

pub returns-clause-unused : goal.returns-clause-unused
returns-clause-unused c = unused_ends c.args.events.now c.loop-k.k c.args.self.now c.loop-k.self c.loop-k-test.false c.loop-k.invariant.unused

pub returns-in-Err-clause-stops : goal.returns-in-Err-clause-stops
returns-in-Err-clause-stops c = λ s h.
    let i = c.loop-k.invariant.passes s h in
    set_up_stops s c.args.events.now c.loop-k.k _ _ _ c.in-Err.fault c.loop-k-test.true c.index-events-k.is i (c.in-Err.ensures.stops _ i.shown)
