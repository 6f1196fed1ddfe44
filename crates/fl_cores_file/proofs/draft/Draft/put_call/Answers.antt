use Rattle.std.proofs.Common.{◌∙◌, ap, map, [], ◌∷◌}
use Rattle.std.proofs.lemmas.List.{map-append}
use Rattle.fl_value_data.specs.Value.{call_of}
use Rattle.fl_cores_file.specs.declared.job.Job.TheVariants as job
use Rattle.fl_cores_file.specs.Views.{bound_of, job_of, draft_of}
use Rattle.fl_cores_file.proofs.Lists.{call_put}
use Rattle.fl_cores_file.proofs.draft.Draft.put_call.Goals as goal

pub returns : goal.returns
returns c = record {
  put = call_put c.args.end (call_of c.args.call) (draft_of c.args.self.now) (map bound_of c.put_use_at.new.bindings.items)
      (map job_of c.push_reserved.new.self.items) c.put_use_at.ensures.put
      (ap (map job_of) c.push_reserved.ensures.items
      ∙ map-append job_of c.args.self.now.jobs.items (job.Call c.args.end c.args.call ∷ []));
}
