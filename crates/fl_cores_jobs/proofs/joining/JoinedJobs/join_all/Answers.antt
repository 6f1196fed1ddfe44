use Rattle.std.proofs.Common.{rules, refl, ◌∙◌, ℕ, List, sym, subst, [], map, length}
use Rattle.std.specs.Vec.Iter.{into_iter_items}
use Rattle.fl_cores_file.specs.Views.{job_of}
use Rattle.fl_world_refines.specs.declared.binding.Binding.{Binding}
use Rattle.fl_cores_jobs.specs.State.{joined_of, AreJoined}
use Rattle.fl_cores_jobs.specs.Whole.{AreBound}
use Rattle.fl_cores_jobs.proofs.Fitting.{fits_turn, fits_none}
use Rattle.fl_cores_jobs.proofs.Keeping.{kept_turn, all_joined}
use Rattle.fl_cores_jobs.proofs.Passing.{none_yet, none_turn}
use Rattle.fl_cores_jobs.proofs.Stepwise.{joined_turn, bound_turn, rules_turn, count_of, place_turn, beside_still}
use Rattle.fl_cores_jobs.proofs.Requested.{requested_none, requested_turn}
use Rattle.fl_cores_jobs.proofs.Refusing.{left_turn, whole_of, first_refused, had_set}
use Rattle.fl_cores_jobs.proofs.joining.JoinedJobs.join_all.Goals as goal

pub loop-job-init : goal.loop-job-init
loop-job-init c = record {
  joined = c.requires.joined;
  bound = c.requires.bound;
  kept = c.requires.kept;
  requested = requested_none c.args.parts.now.names c.args.parts.now.cores.items (length c.args.parts.now.bindings.items) [] (joined_of c.args.self.now)
      c.requires.none;
  fits = fits_none c.args.parts.now.names c.args.parts.now.programs.items (joined_of c.args.self.now) c.requires.none;
  rules = refl;
  count = refl;
  beside = record { rings = refl; queues = refl; programs = refl; names = refl; bindings = refl };
  left = search rules;
  place = refl;
  passed = none_yet c.args.parts.now;
}

pub loop-job-preserved : goal.loop-job-preserved
loop-job-preserved c =
    let i = c.loop-job.invariant in
    let joins = c.in_default.ensures.joins in
    let done = map job_of c.loop-job.yielded in
    let joined = all_joined (length c.args.parts.now.cores.items) c.args.parts.now.bindings.items done (joined_of c.loop-job.self) i.joined i.bound i.kept in
    let were = subst (λ (n : ℕ). AreJoined n done (joined_of c.loop-job.self)) (sym i.count) joined in
    let bound = subst (λ (xs : List Binding). AreBound xs done (joined_of c.loop-job.self)) (sym i.beside.bindings) i.bound in
    record {
      joined = joined_turn _ c.loop-job.yielded c.in-Some.job c.loop-job.parts.bindings.items (joined_of c.loop-job.self) c.loop-job.parts.cores.items
          (joined_of c.join_one.new.self) c.join_one.new.parts.cores.items i.count joins i.joined;
      bound = bound_turn c.args.parts.now.bindings.items c.loop-job.yielded c.in-Some.job c.loop-job.parts.bindings.items (joined_of c.loop-job.self)
          c.loop-job.parts.cores.items (joined_of c.join_one.new.self) c.join_one.new.parts.cores.items joins i.bound;
      kept = kept_turn _ c.loop-job.yielded c.in-Some.job c.args.parts.now.bindings.items c.loop-job.parts.bindings.items (joined_of c.loop-job.self)
          c.loop-job.parts.cores.items (joined_of c.join_one.new.self) c.join_one.new.parts.cores.items i.beside.bindings joins i.joined i.kept;
      requested = requested_turn c.args.parts.now.names c.loop-job.parts.names c.args.parts.now.bindings.items c.loop-job.parts.bindings.items c.loop-job.yielded
          c.in-Some.job (joined_of c.loop-job.self) c.args.parts.now.cores.items c.loop-job.parts.cores.items (joined_of c.join_one.new.self)
          c.join_one.new.parts.cores.items i.beside.names i.rules i.count joins c.in_default.ensures.requested i.bound i.requested;
      fits = fits_turn c.args.parts.now.names c.args.parts.now.programs.items c.loop-job.parts.names c.loop-job.parts.programs.items c.loop-job.parts.bindings.items
          (job_of c.in-Some.job) (joined_of c.loop-job.self) c.loop-job.parts.cores.items (joined_of c.join_one.new.self) c.join_one.new.parts.cores.items
          i.beside.names i.beside.programs joins c.in_default.ensures.fits i.fits;
      rules = rules_turn c.loop-job.yielded c.in-Some.job c.args.parts.now.bindings.items c.loop-job.parts.bindings.items (joined_of c.loop-job.self)
          c.args.parts.now.cores.items c.loop-job.parts.cores.items (joined_of c.join_one.new.self) c.join_one.new.parts.cores.items i.beside.bindings joins i.rules;
      count = count_of c.loop-job.parts.bindings.items (job_of c.in-Some.job) (joined_of c.loop-job.self) c.loop-job.parts.cores.items
          (joined_of c.join_one.new.self) c.join_one.new.parts.cores.items joins ∙ i.count;
      beside = beside_still c.args.parts.now c.loop-job.parts c.join_one.new.parts i.beside c.in_default.ensures.beside;
      left = left_turn (map job_of c.args.jobs.items) c.loop-job.yielded (into_iter_items c.loop-job.job-iterator) (into_iter_items c.next.new.self) c.in-Some.job
          c.in-Some.ensures.steps.0 i.left;
      place = place_turn c.loop-job.yielded c.in-Some.job c.loop-job.place i.place;
      passed = none_turn c.args.parts.now c.loop-job.parts c.loop-job.yielded c.in-Some.job i.beside i.rules (c.in_default.ensures.passed done were bound) i.passed;
    }

pub returns-in-Err-clause-refused : goal.returns-in-Err-clause-refused
returns-in-Err-clause-refused c =
    let i = c.loop-job.invariant in
    let jobs = map job_of c.args.jobs.items in
    let rest = into_iter_items c.next.new.self in
    let whole = whole_of jobs c.loop-job.yielded (into_iter_items c.loop-job.job-iterator) rest c.in-Some.job c.in-Some.ensures.steps.0 i.left in
    let done = map job_of c.loop-job.yielded in
    let joined = all_joined (length c.args.parts.now.cores.items) c.args.parts.now.bindings.items done (joined_of c.loop-job.self) i.joined i.bound i.kept in
    let were = subst (λ (n : ℕ). AreJoined n done (joined_of c.loop-job.self)) (sym i.count) joined in
    let bound = subst (λ (xs : List Binding). AreBound xs done (joined_of c.loop-job.self)) (sym i.beside.bindings) i.bound in
    first_refused c.args.parts.now c.loop-job.parts c.args.jobs.items c.loop-job.yielded rest c.in-Some.job c.loop-job.place (joined_of c.loop-job.self)
    i.beside i.rules whole i.place joined i.bound i.passed c.in-Err.stop c.fault_at.result c.fault_at.ensures.fault
    (c.in-Err.ensures.refused done were bound)

pub returns-in-Err-clause-set : goal.returns-in-Err-clause-set
returns-in-Err-clause-set c =
    let i = c.loop-job.invariant in
    let jobs = map job_of c.args.jobs.items in
    let rest = into_iter_items c.next.new.self in
    let whole = whole_of jobs c.loop-job.yielded (into_iter_items c.loop-job.job-iterator) rest c.in-Some.job c.in-Some.ensures.steps.0 i.left in
    let done = map job_of c.loop-job.yielded in
    let joined = all_joined (length c.args.parts.now.cores.items) c.args.parts.now.bindings.items done (joined_of c.loop-job.self) i.joined i.bound i.kept in
    let were = subst (λ (n : ℕ). AreJoined n done (joined_of c.loop-job.self)) (sym i.count) joined in
    let bound = subst (λ (xs : List Binding). AreBound xs done (joined_of c.loop-job.self)) (sym i.beside.bindings) i.bound in
    had_set c.args.parts.now c.loop-job.parts c.args.jobs.items c.loop-job.yielded rest c.in-Some.job c.loop-job.place (joined_of c.loop-job.self)
    i.beside i.rules whole i.place joined i.bound i.passed c.in-Err.stop c.fault_at.result c.fault_at.ensures.fault
    (c.in-Err.ensures.refused done were bound) c.join_one.new.parts.cores.items c.in-Err.ensures.set
