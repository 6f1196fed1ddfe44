use Rattle.std.proofs.Common.{◌≡◌, None, List, subst}
use Rattle.std.proofs.lemmas.Result.{on_ok_weaker}
use Rattle.std.specs.Prelude.{IfErr, OnOk}
use Rattle.fl_compile.specs.declared.program.Program.{Program}
use Rattle.fl_world_refines.specs.declared.binding.Binding.{Binding}
use Rattle.fl_cores_jobs.specs.Faults.{rule_fault_at, fault_at_once, StopsFor}
use Rattle.fl_cores_jobs.specs.State.{joined_of}
use Rattle.fl_cores_jobs.proofs.Fitting.{rule_fits}
use Rattle.fl_cores_jobs.proofs.Refusing.{end_stops}
use Rattle.fl_cores_jobs.proofs.Spoken.{as_found, neither_found}
use Rattle.fl_cores_jobs.proofs.joining.JoinedJobs.rule.Goals as goal

pub returns-clause-fits : goal.returns-clause-fits
returns-clause-fits c =
    let before = joined_of c.args.self.now in
    let passed : rule_fault_at c.args.parts.now.programs.items before.bindings before.end_works c.args.end c.args.message.0 c.args.answer.0 ≡ None =
    subst (λ (ps : List Program). rule_fault_at ps before.bindings before.end_works c.args.end c.args.message.0 c.args.answer.0 ≡ None) c.deref.ensures.value
    c.in_default.ensures.passed in
    on_ok_weaker c.rule_now.result
    (λ set. rule_fits c.args.parts.now.names c.args.parts.now.programs.items _ before (joined_of c.plan_rule.new.self) c.args.end c.args.message c.args.answer
    c.in_default.ensures.planned passed) c.rule_now.ensures.rules

pub returns-in-Err-clause-refused : goal.returns-in-Err-clause-refused
returns-in-Err-clause-refused c =
    let before = joined_of c.args.self.now in
    as_found _ (fault_at_once c.args.parts.now.cores.items c.args.parts.now.bindings.items c.args.end c.args.message.0 c.args.answer.0) c.in-Err.stop
    (subst (λ (ps : List Program). StopsFor (rule_fault_at ps before.bindings before.end_works c.args.end c.args.message.0 c.args.answer.0) c.in-Err.stop)
    c.deref.ensures.value c.in-Err.ensures.refused)

pub returns-clause-refused : goal.returns-clause-refused
returns-clause-refused c =
    let before = joined_of c.args.self.now in
    let passed : rule_fault_at c.args.parts.now.programs.items before.bindings before.end_works c.args.end c.args.message.0 c.args.answer.0 ≡ None =
    subst (λ (ps : List Program). rule_fault_at ps before.bindings before.end_works c.args.end c.args.message.0 c.args.answer.0 ≡ None) c.deref.ensures.value
    c.in_default.ensures.passed in
    end_stops c.rule_now.result _ (fault_at_once c.args.parts.now.cores.items c.args.parts.now.bindings.items c.args.end c.args.message.0 c.args.answer.0) passed
    (subst (λ (xs : List Binding). IfErr c.rule_now.result
    (λ stop. StopsFor (fault_at_once c.args.parts.now.cores.items xs c.args.end c.args.message.0 c.args.answer.0) stop))
    c.deref-2.ensures.value c.rule_now.ensures.refused)

pub returns-clause-passed : goal.returns-clause-passed
returns-clause-passed c =
    let before = joined_of c.args.self.now in
    let passed : rule_fault_at c.args.parts.now.programs.items before.bindings before.end_works c.args.end c.args.message.0 c.args.answer.0 ≡ None =
    subst (λ (ps : List Program). rule_fault_at ps before.bindings before.end_works c.args.end c.args.message.0 c.args.answer.0 ≡ None) c.deref.ensures.value
    c.in_default.ensures.passed in
    on_ok_weaker c.rule_now.result
    (λ later. neither_found _ (fault_at_once c.args.parts.now.cores.items c.args.parts.now.bindings.items c.args.end c.args.message.0 c.args.answer.0) passed later)
    (subst (λ (xs : List Binding). OnOk c.rule_now.result (fault_at_once c.args.parts.now.cores.items xs c.args.end c.args.message.0 c.args.answer.0 ≡ None))
    c.deref-2.ensures.value c.rule_now.ensures.passed)
