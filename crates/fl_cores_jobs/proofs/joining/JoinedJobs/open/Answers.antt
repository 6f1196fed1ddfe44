use Rattle.std.proofs.Common.{◌≡◌, refl, ◌∙◌, ap, subst, ◌<◌, List, length, Some, None}
use Rattle.std.proofs.lemmas.Result.{err_from_is_err_and}
use Rattle.fl_core.specs.View.{client_of}
use Rattle.fl_cores_jobs.specs.declared.end_work.BindingCores.{BindingCores}
use Rattle.fl_cores_file.specs.Views.{request_of}
use Rattle.fl_cores_jobs.specs.Faults.{request_fault, StopsFor}
use Rattle.fl_cores_jobs.specs.State.{TheJoinedJobs, joined_of}
use Rattle.fl_cores_jobs.proofs.Fitting.{opening_fits}
use Rattle.fl_cores_jobs.proofs.AskedFor.{refused_stops}
use Rattle.fl_cores_jobs.proofs.joining.JoinedJobs.open.Goals as goal

pub returns-clause-opened : goal.returns-clause-opened
returns-clause-opened c =
    let asked = c.in_ok-asked.ensures in
    let bound : BindingCores = record {
      interface = c.args.request.now.interface;
      client = c.in_ok-asked.asked.client;
      server = c.in_ok-asked.asked.server;
      opened = Some (length c.as_slice.result.now);
    } in
    record {
      bound = bound;
      request = c.in_ok-asked.asked.request;
      client = asked.client;
      server = asked.server;
      owner = asked.owner;
      interface = refl;
      opened = ap (λ owners. Some (length owners)) c.as_slice.ensures.value;
      dispatcher = asked.dispatcher;
      program = asked.program;
      binding = asked.binding ∙ ap (λ bindings. length bindings) c.as_slice-binding.ensures.value;
      few = subst (λ (bindings : List BindingCores). length bindings < 1024) c.as_slice-binding.ensures.value asked.few;
      rest = c.in_ok-add_opening.ensures.added;
    }

pub returns-clause-fits : goal.returns-clause-fits
returns-clause-fits c =
    let asked = c.in_ok-asked.ensures in
    let bound : BindingCores = record {
      interface = c.args.request.now.interface;
      client = c.in_ok-asked.asked.client;
      server = c.in_ok-asked.asked.server;
      opened = Some (length c.as_slice.result.now);
    } in
    opening_fits c.args.parts.now.names c.args.parts.now.programs.items (joined_of c.args.self.now) (joined_of c.add_opening.new.self)
    (client_of (length c.args.self.now.bindings.items)) bound c.in_ok-asked.asked.request c.in_ok-add_opening.ensures.added
    (asked.binding ∙ ap (λ bindings. length bindings) c.as_slice-binding.ensures.value) asked.program asked.offered

pub returns-clause-requested : goal.returns-clause-requested
returns-clause-requested c =
    let asked = c.in_ok-asked.ensures in
    let bound : BindingCores = record {
      interface = c.args.request.now.interface;
      client = c.in_ok-asked.asked.client;
      server = c.in_ok-asked.asked.server;
      opened = Some (length c.as_slice.result.now);
    } in
    record {
      bound = bound;
      request = c.in_ok-asked.asked.request;
      bindings = ap (λ (t : TheJoinedJobs). t.bindings) c.in_ok-add_opening.ensures.added;
      jobs = ap (λ (t : TheJoinedJobs). t.jobs) c.in_ok-add_opening.ensures.added;
      binding = asked.binding ∙ ap (λ bindings. length bindings) c.as_slice-binding.ensures.value;
      client = asked.owner;
      asks = record {
        dispatcher = asked.dispatcher;
        interface = asked.program;
        service = asked.named;
        route = asked.route;
        begins = asked.begins;
      };
    }

pub returns-clause-passed : goal.returns-clause-passed
returns-clause-passed c =
    subst (λ (bindings : List BindingCores). request_fault c.args.parts.now (length bindings) (request_of c.args.request.now) ≡ None) c.as_slice-binding.ensures.value
    c.in_ok-asked.ensures.passes

pub returns-in_err-asked-clause-refused : goal.returns-in_err-asked-clause-refused
returns-in_err-asked-clause-refused c =
    let e = err_from_is_err_and c.from_residual.result c.from_residual.ensures.1 in
    rw (e.1, e.2) (subst (λ (bindings : List BindingCores). StopsFor (request_fault c.args.parts.now (length bindings) (request_of c.args.request.now)) c.in_err-asked.field-0.0)
    c.as_slice-binding.ensures.value (refused_stops _ c.in_err-asked.field-0.0 c.in_err-asked.ensures.refused))

pub returns-in_err-add_opening-clause-refused : goal.returns-in_err-add_opening-clause-refused
returns-in_err-add_opening-clause-refused c =
    let e = err_from_is_err_and c.from_residual-in_err-add_opening.result c.from_residual-in_err-add_opening.ensures.1 in
    let none : request_fault c.args.parts.now (length c.args.self.now.bindings.items) (request_of c.args.request.now) ≡ None =
    subst (λ (bindings : List BindingCores). request_fault c.args.parts.now (length bindings) (request_of c.args.request.now) ≡ None) c.as_slice-binding.ensures.value
    c.in_ok-asked.ensures.passes in
    rw (e.1, e.2) none
