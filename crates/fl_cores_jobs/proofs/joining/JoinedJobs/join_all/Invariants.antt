use Rattle.std.proofs.Common.{◌≡◌, ◌++◌, length, map}
use Rattle.std.specs.Vec.Iter.{into_iter_items}
use Rattle.fl_cores_file.specs.Views.{job_of}
use Rattle.fl_cores_jobs.specs.Fitting.{JobsFit}
use Rattle.fl_cores_jobs.specs.Rules.{RulesOf}
use Rattle.fl_cores_jobs.specs.State.{joined_of, ArePlaced}
use Rattle.fl_cores_jobs.specs.Kept.{AreKept}
use Rattle.fl_cores_jobs.specs.Whole.{IsBeside, AreBound, NoneRefused}
use Rattle.fl_cores_jobs.specs.Requested.{AreRequested}
use Rattle.fl_cores_jobs.proofs.joining.JoinedJobs.join_all.Given as goal

-- the jobs so far
abbrev pub invariant-loop-job : goal.invariant-loop-job
invariant-loop-job l = record {
  joined : ArePlaced (length l.fn.parts.cores.items) (map job_of l.yielded) (joined_of l.self);
  bound : AreBound l.fn.parts.bindings.items (map job_of l.yielded) (joined_of l.self);
  kept : AreKept l.fn.parts.bindings.items (map job_of l.yielded) (joined_of l.self);
  requested : AreRequested l.fn.parts.names l.fn.parts.cores.items (length l.fn.parts.bindings.items) (map job_of l.yielded) (joined_of l.self);
  fits : JobsFit l.fn.parts.names l.fn.parts.programs.items (joined_of l.self);
  rules : RulesOf l.fn.parts.bindings.items (map job_of l.yielded) l.fn.parts.cores.items l.parts.cores.items;
  count : length l.parts.cores.items ≡ length l.fn.parts.cores.items;
  beside : IsBeside l.fn.parts l.parts;
  left : map job_of l.yielded ++ map job_of (into_iter_items l.job-iterator) ≡ map job_of l.fn.jobs.items;
  place : l.place ≡ length l.yielded;
  passed : NoneRefused l.fn.parts (map job_of l.yielded);
}
