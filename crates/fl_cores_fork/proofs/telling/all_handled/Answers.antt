use Rattle.std.proofs.Common.{refl, ◌∙◌, ◌≡◌, ◌+◌, ◌*◌, List, map, rules, arith, sym, subst}
use Rattle.std.specs.List.{range_with_len}
use Rattle.fl_cores_file.specs.declared.report.CallsByEnd.{CallsByEnd}
use Rattle.fl_cores_file.specs.Reports.{both_of}
use Rattle.fl_cores_jobs.specs.State.{joined_of}
use Rattle.fl_cores_fork.specs.CoreThreads.{outcome_of}
use Rattle.fl_cores_fork.specs.Tells.{both_at, handled_at}
use Rattle.fl_cores_fork.proofs.Taking.{keeps_all, handled_more, keeps_on}
use Rattle.fl_cores_fork.proofs.telling.all_handled.Goals as goal

pub loop-binding-init : goal.loop-binding-init
loop-binding-init c = record { handled = search rules; rest = keeps_all 0 (map outcome_of c.args.done.now.items); hands = refl }

pub loop-binding-preserved : goal.loop-binding-preserved
loop-binding-preserved c =
    let n = c.loop-binding.binding in
    let before = map outcome_of c.args.done.now.items in
    let so_far = map outcome_of c.loop-binding.done.items in
    record {
      handled = subst (λ (all : List CallsByEnd). map both_of all ≡ map (both_at (handled_at (joined_of c.args.joined.now) before)) (range_with_len 0 (n + 1)))
          (sym c.in_ok-push.ensures.items)
          (handled_more (joined_of c.args.joined.now) n before so_far c.loop-binding.all.items c.both_handled.result c.loop-binding.invariant.rest
          c.loop-binding.invariant.handled c.both_handled.ensures.handled);
      rest = keeps_on (2 * n) (2 * (n + 1)) before so_far (map outcome_of c.both_handled.new.done.items) (omega arith) c.loop-binding.invariant.rest
          c.both_handled.ensures.rest;
      hands = c.both_handled.ensures.hands ∙ c.loop-binding.invariant.hands;
    }
