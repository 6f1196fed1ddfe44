-- What the code keeps of a cores file, as the definitions have it. Public contracts name jobs and requests (`job_of`, `request_of`); the rest
-- is the code's own.
use Rattle.std.specs.Prelude.{map}
use Rattle.fl_interface.specs.Interface.{interface_of}
use Rattle.fl_value_data.specs.Value.{call_of}
use Rattle.fl_model.specs.Calls.{Planned}
use Rattle.fl_model.specs.Views.{id_of, event_of}
use Rattle.fl_script_lines.specs.Tables.{table_of}
use Rattle.fl_cores_file.specs.declared.job.CircuitRequest.{CircuitRequest as RustRequest}
use Rattle.fl_cores_file.specs.declared.job.Job.{Job as RustJob}
use Rattle.fl_cores_file.specs.declared.job.Job.TheVariants as job
use Rattle.fl_cores_file.specs.declared.draft.DraftInterface.{DraftInterface as RustPlanned}
use Rattle.fl_cores_file.specs.declared.draft.DraftLink.{DraftLink as RustJoint}
use Rattle.fl_cores_file.specs.declared.draft.DraftService.{DraftService as RustOffer}
use Rattle.fl_cores_file.specs.declared.draft.EndUse.{EndUse as RustUse}
use Rattle.fl_cores_file.specs.declared.draft.EndUse.TheVariants.{Free, Calls, Rules}
use Rattle.fl_cores_file.specs.declared.draft.DraftBinding.{DraftBinding as RustBound}
use Rattle.fl_cores_file.specs.declared.draft.Draft.{Draft as RustDraft}
use Rattle.fl_cores_file.specs.declared.binding.DraftRequest.{DraftRequest as RustWanted}
use Rattle.fl_cores_file.specs.Jobs.{TheCircuitRequest, Job, opens, replies, calls}
use Rattle.fl_cores_file.specs.Draft.{Joint, Offer, Use, free, makes_calls, has_rules, Bound, Draft, TheDraftRequest}

abbrev pub request_of : RustRequest → TheCircuitRequest
request_of w = record { client = id_of w.client; interface = w.interface; service = w.service.now; route = w.route.items }

abbrev pub job_of : RustJob → Job
job_of (job.Open request) = opens (request_of request.value)
job_of (job.Reply e m answer) = replies e m.0 answer.0
job_of (job.Call e c) = calls e (call_of c)

abbrev pub planned_of : RustPlanned → Planned
planned_of p = record { interface = interface_of p.interface; plan = p.plan }

abbrev pub joint_of : RustJoint → Joint
joint_of j = record { first = j.first; second = j.second }

abbrev pub offer_from : RustOffer → Offer
offer_from o = record { dispatcher = id_of o.dispatcher; interface = o.interface }

abbrev pub use_from : RustUse → Use
use_from Free = free
use_from Calls = makes_calls
use_from Rules = has_rules

abbrev pub bound_of : RustBound → Bound
bound_of b = record {
  is_opened = b.opened;
  interface = b.interface;
  at_client = use_from b.client;
  at_server = use_from b.server;
}

abbrev pub draft_of : RustDraft → Draft
draft_of d = record {
  settled = d.settled;
  cores = d.cores;
  interfaces = map planned_of d.interfaces.items;
  links = map joint_of d.links.items;
  dispatchers = d.dispatchers.items;
  services = table_of d.services;
  offers = map offer_from d.offers.items;
  seats = map id_of d.seats.items;
  bindings = map bound_of d.bindings.items;
  setup = map event_of d.setup.items;
  jobs = map job_of d.jobs.items;
}

abbrev pub wanted_of : RustWanted → TheDraftRequest
wanted_of w = record {
  client = id_of w.client;
  server = id_of w.server;
  interface = w.interface;
  service = w.service.now;
}
