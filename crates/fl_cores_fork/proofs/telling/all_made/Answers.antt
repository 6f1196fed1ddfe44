use Rattle.std.proofs.Common.{◌≡◌, ◌+◌, ◌*◌, List, map, rules, arith, sym, subst}
use Rattle.std.specs.List.{range_with_len}
use Rattle.fl_cores_file.specs.declared.report.CallsByEnd.{CallsByEnd}
use Rattle.fl_cores_file.specs.Reports.{both_of}
use Rattle.fl_cores_jobs.specs.State.{joined_of}
use Rattle.fl_cores_fork.specs.CoreThreads.{outcome_of}
use Rattle.fl_cores_fork.specs.Tells.{both_at, made_at}
use Rattle.fl_cores_fork.specs.Taking.{with_jobs}
use Rattle.fl_cores_fork.proofs.Moving.{places_kept, jobs_none, jobs_on, made_more}
use Rattle.fl_cores_fork.proofs.telling.all_made.Goals as goal

pub both_made-requires-clause-places : goal.both_made-requires-clause-places
both_made-requires-clause-places c =
    places_kept (2 * c.loop-binding.binding) (joined_of c.args.joined.now).end_works c.args.jobs.now.items c.loop-binding.jobs.items c.requires.places
    c.loop-binding.invariant.rest

pub loop-binding-preserved : goal.loop-binding-preserved
loop-binding-preserved c =
    let n = c.loop-binding.binding in
    let j = joined_of c.args.joined.now in
    let outcomes = map outcome_of c.args.done.now in
    record {
      made = subst (λ (all : List CallsByEnd). map both_of all ≡ map (both_at (made_at (with_jobs c.args.jobs.now.items j) outcomes)) (range_with_len 0 (n + 1)))
          (sym c.in_ok-push.ensures.items)
          (made_more j outcomes n c.args.jobs.now.items c.loop-binding.jobs.items c.loop-binding.all.items c.in_ok-both_made.field-0 c.requires.places
          c.loop-binding.invariant.rest c.loop-binding.invariant.made c.in_ok-both_made.ensures.made);
      rest = jobs_on (2 * n) (2 * (n + 1)) c.args.jobs.now.items c.loop-binding.jobs.items c.both_made.new.jobs.items (omega arith) c.loop-binding.invariant.rest
          c.in_ok-both_made.ensures.rest;
    }
