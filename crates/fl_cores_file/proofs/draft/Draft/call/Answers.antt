use Rattle.std.proofs.Common.{ap, map, List}
use Rattle.fl_value_data.specs.Value.{call_of}
use Rattle.fl_cores_file.specs.declared.job.Job.{Job as RustJob}
use Rattle.fl_cores_file.specs.Draft.{Draft}
use Rattle.fl_cores_file.specs.Views.{job_of, draft_of}
use Rattle.fl_cores_file.proofs.Lists.{call_joins}
use Rattle.fl_cores_file.proofs.draft.Draft.call.Goals as goal

pub returns : goal.returns
returns c =
    let d : Draft = draft_of c.args.self.now in
    record {
      comes = call_joins c.args.end (call_of c.args.call.now) d (record d { jobs = map job_of c.reserve.new.self.items }) c.add_call.result
          (draft_of c.add_call.new.self) c.in_default.ensures.same (ap (λ (js : List RustJob). record d { jobs = map job_of js }) c.in_ok-reserve.ensures.items)
          c.add_call.ensures.put;
    }
