use Rattle.std.proofs.Common.{◌≡◌, ◌∙◌, sym, ap, subst, ℕ, List, length, Some, None}
use Rattle.std.proofs.lemmas.Bool.{ltb-true}
use Rattle.std.proofs.lemmas.Result.{err_from_is_err_and}
use Rattle.fl_core.specs.BoardView.{TheBoard}
use Rattle.fl_core.specs.View.{TheCore}
use Rattle.fl_monitor.specs.Monitors.{first_link}
use Rattle.fl_cores_file.specs.Views.{request_of}
use Rattle.fl_cores_jobs.specs.Faults.{path_fault, link_fault, RefusedFor}
use Rattle.fl_cores_jobs.proofs.AskedFor.{known_by, path_refused, link_refused, none_refused}
use Rattle.fl_cores_jobs.proofs.opening.ask.Goals as goal

pub returns-in_err-path-clause-refused : goal.returns-in_err-path-clause-refused
returns-in_err-path-clause-refused c =
    let known = known_by c.args.parts.now c.args.binding (request_of c.args.request.now) c.in-Some.core.now c.in-Some-get.program.now c.deref.result.now c.deref-2.result.now
    c.dispatchers.result c.deref.ensures.value (ltb-true _ _ (sym c.in-Some.ensures.lookup.0)) c.in-Some.ensures.lookup.1 c.deref-2.ensures.value
    (ltb-true _ _ (sym c.in-Some-get.ensures.lookup.0)) c.in-Some-get.ensures.lookup.1
    (c.dispatchers.ensures.dispatchers ∙ ap (λ (b : TheBoard). length b.dispatchers) c.board.ensures.board) c.if-request-dispatchers.false
    c.if-binding-ge-MAX_BINDINGS.false in
    let found = c.in_ok-found.found in
    let stop = c.in_err-path.field-0.0 in
    let e = err_from_is_err_and c.from_residual-in_err-path.result c.from_residual-in_err-path.ensures.1 in
    rw (e.1, e.2) (path_refused c.args.parts.now c.args.binding (request_of c.args.request.now) c.in-Some.core.now c.in-Some-get.program.now known found.iref.0 found.core.0
    c.in_ok-found.ensures.named c.in_ok-found.ensures.offered stop
    (subst (λ (route : List ℕ). RefusedFor (path_fault route) stop) c.deref-3.ensures.value c.in_err-path.ensures.refused))

pub returns-in_err-link-clause-refused : goal.returns-in_err-link-clause-refused
returns-in_err-link-clause-refused c =
    let known = known_by c.args.parts.now c.args.binding (request_of c.args.request.now) c.in-Some.core.now c.in-Some-get.program.now c.deref.result.now c.deref-2.result.now
    c.dispatchers.result c.deref.ensures.value (ltb-true _ _ (sym c.in-Some.ensures.lookup.0)) c.in-Some.ensures.lookup.1 c.deref-2.ensures.value
    (ltb-true _ _ (sym c.in-Some-get.ensures.lookup.0)) c.in-Some-get.ensures.lookup.1
    (c.dispatchers.ensures.dispatchers ∙ ap (λ (b : TheBoard). length b.dispatchers) c.board.ensures.board) c.if-request-dispatchers.false
    c.if-binding-ge-MAX_BINDINGS.false in
    let found = c.in_ok-found.found in
    let stop = c.in_err-link.field-0.0 in
    let path = c.in_ok-path.path in
    let e = err_from_is_err_and c.from_residual-in_err-link.result c.from_residual-in_err-link.ensures.1 in
    rw (e.1, e.2) (link_refused c.args.parts.now c.args.binding (request_of c.args.request.now) c.in-Some.core.now c.in-Some-get.program.now known found.iref.0 found.core.0
    c.in_ok-found.ensures.named c.in_ok-found.ensures.offered path
    (subst (λ (route : List ℕ). path_fault route ≡ None) c.deref-3.ensures.value c.in_ok-path.ensures.passes) (c.in_ok-path.ensures.route ∙ c.deref-3.ensures.value) stop
    (subst (λ (ks : List TheCore). RefusedFor (link_fault (first_link c.in-Some.core.now.monitor.circuits path found.core.0 (length ks))) stop)
    c.as_slice-cores.ensures.value c.in_err-link.ensures.refused))

pub returns-clause-begins : goal.returns-clause-begins
returns-clause-begins c =
    let known = known_by c.args.parts.now c.args.binding (request_of c.args.request.now) c.in-Some.core.now c.in-Some-get.program.now c.deref.result.now c.deref-2.result.now
    c.dispatchers.result c.deref.ensures.value (ltb-true _ _ (sym c.in-Some.ensures.lookup.0)) c.in-Some.ensures.lookup.1 c.deref-2.ensures.value
    (ltb-true _ _ (sym c.in-Some-get.ensures.lookup.0)) c.in-Some-get.ensures.lookup.1
    (c.dispatchers.ensures.dispatchers ∙ ap (λ (b : TheBoard). length b.dispatchers) c.board.ensures.board) c.if-request-dispatchers.false
    c.if-binding-ge-MAX_BINDINGS.false in
    record {
      core = c.in-Some.core.now;
      core_is = known.core_is;
      begins = ap (λ (n : ℕ). first_link c.in-Some.core.now.monitor.circuits c.in_ok-path.path n (length c.args.parts.now.cores.items)) c.from.ensures
          ∙ subst (λ (ks : List TheCore). first_link c.in-Some.core.now.monitor.circuits c.in_ok-path.path c.in_ok-found.found.core.0 (length ks) ≡ Some c.in_ok-link.link.0)
          c.as_slice-cores.ensures.value c.in_ok-link.ensures.begins;
    }

pub returns-clause-passes : goal.returns-clause-passes
returns-clause-passes c =
    let known = known_by c.args.parts.now c.args.binding (request_of c.args.request.now) c.in-Some.core.now c.in-Some-get.program.now c.deref.result.now c.deref-2.result.now
    c.dispatchers.result c.deref.ensures.value (ltb-true _ _ (sym c.in-Some.ensures.lookup.0)) c.in-Some.ensures.lookup.1 c.deref-2.ensures.value
    (ltb-true _ _ (sym c.in-Some-get.ensures.lookup.0)) c.in-Some-get.ensures.lookup.1
    (c.dispatchers.ensures.dispatchers ∙ ap (λ (b : TheBoard). length b.dispatchers) c.board.ensures.board) c.if-request-dispatchers.false
    c.if-binding-ge-MAX_BINDINGS.false in
    let found = c.in_ok-found.found in
    let path = c.in_ok-path.path in
    none_refused c.args.parts.now c.args.binding (request_of c.args.request.now) c.in-Some.core.now c.in-Some-get.program.now known found.iref.0 found.core.0
    c.in_ok-found.ensures.named c.in_ok-found.ensures.offered path
    (subst (λ (route : List ℕ). path_fault route ≡ None) c.deref-3.ensures.value c.in_ok-path.ensures.passes) (c.in_ok-path.ensures.route ∙ c.deref-3.ensures.value)
    c.in_ok-link.link.0
    (subst (λ (ks : List TheCore). first_link c.in-Some.core.now.monitor.circuits path found.core.0 (length ks) ≡ Some c.in_ok-link.link.0)
    c.as_slice-cores.ensures.value c.in_ok-link.ensures.begins)
