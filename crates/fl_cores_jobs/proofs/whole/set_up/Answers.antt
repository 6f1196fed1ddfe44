use Rattle.std.proofs.Common.{[], ◌∙◌, ap, subst, sym, length}
use Rattle.fl_cores_jobs.specs.State.{TheJoinedJobs, joined_of, ArePlaced}
use Rattle.fl_cores_jobs.specs.Kept.{AreKept}
use Rattle.fl_cores_jobs.specs.Whole.{AreBound}
use Rattle.fl_cores_jobs.proofs.Keeping.{kept_none, kept_set_up}
use Rattle.fl_cores_jobs.proofs.OneMore.{nothing}
use Rattle.fl_cores_jobs.proofs.SetUps.{taken_none, taken_turn, count_turn, binding_stops}
use Rattle.fl_cores_jobs.proofs.Stepwise.{set_up_more, set_up_none, set_up_turn, set_up_all}
use Rattle.fl_cores_jobs.proofs.whole.set_up.Goals as goal

pub loop-binding-init : goal.loop-binding-init
loop-binding-init c = record {
  joined = subst (λ (t : TheJoinedJobs). ArePlaced c.args.cores [] t) (sym c.new-joined.ensures.none) (nothing c.args.cores);
  bound = subst (λ (t : TheJoinedJobs). AreBound [] [] t) (sym c.new-joined.ensures.none) (set_up_none c.args.bindings.now);
  kept = subst (λ (t : TheJoinedJobs). AreKept c.args.bindings.now [] t) (sym c.new-joined.ensures.none) (kept_none c.args.bindings.now);
  none = ap (λ (t : TheJoinedJobs). t.jobs) c.new-joined.ensures.none;
  count = ap (λ (t : TheJoinedJobs). length t.bindings) c.new-joined.ensures.none;
  taken = taken_none c.args.cores c.args.bindings.now;
}

pub loop-binding-preserved : goal.loop-binding-preserved
loop-binding-preserved c = record {
  joined = set_up_more c.args.cores [] _ (joined_of c.loop-binding.joined) (joined_of c.set_up.new.self) c.in_default.ensures.set_up c.loop-binding.invariant.joined;
  bound = set_up_turn c.args.cores c.args.bindings.now c.loop-binding.binding-index c.binding-item.result _ (joined_of c.loop-binding.joined) (joined_of c.set_up.new.self)
      c.loop-binding-test.true c.binding-item.is c.in_default.ensures.set_up c.loop-binding.invariant.bound;
  kept = kept_set_up c.args.bindings.now c.args.cores _ (joined_of c.loop-binding.joined) (joined_of c.set_up.new.self) c.in_default.ensures.set_up
      c.loop-binding.invariant.joined c.loop-binding.invariant.kept;
  none = ap (λ (t : TheJoinedJobs). t.jobs) c.in_default.ensures.set_up.rest ∙ c.loop-binding.invariant.none;
  count = count_turn c.args.cores c.loop-binding.binding-index c.binding-item.result (joined_of c.loop-binding.joined) (joined_of c.set_up.new.self)
      c.in_default.ensures.set_up c.loop-binding.invariant.count;
  taken = taken_turn c.args.cores c.args.bindings.now c.loop-binding.binding-index c.binding-item.result _ (joined_of c.loop-binding.joined)
      (joined_of c.set_up.new.self) c.loop-binding-test.true c.binding-item.is c.in_default.ensures.set_up c.loop-binding.invariant.count
      c.loop-binding.invariant.taken;
}

pub returns-clause-bound : goal.returns-clause-bound
returns-clause-bound c =
    set_up_all c.args.bindings.now c.loop-binding.binding-index (joined_of c.loop-binding.joined) c.loop-binding-test.false c.loop-binding.invariant.bound

pub returns-in-Err-clause-refused : goal.returns-in-Err-clause-refused
returns-in-Err-clause-refused c =
    binding_stops c.args.cores c.args.bindings.now c.loop-binding.binding-index _ c.binding-item.result _ c.loop-binding-test.true c.binding-item.is
    c.loop-binding.invariant.count c.loop-binding.invariant.taken c.in-Err.stop c.in-Err.ensures.refused
