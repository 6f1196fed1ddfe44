use Rattle.std.proofs.Common.{◌∙◌, ℕ, refl, sym, subst, map, length, inl, inr}
use Rattle.std.proofs.lemmas.Result.{err_from_is_err_and}
use Rattle.std.proofs.lemmas.List.{take_rest}
use Rattle.std.specs.Prelude.{Option, IfSome}
use Rattle.fl_value_data.specs.declared.value.Call.{Call}
use Rattle.fl_wire.specs.Headers.{StandsFirst}
use Rattle.fl_interface.specs.Interface.{interface_of}
use Rattle.fl_value_data.specs.Value.{call_of}
use Rattle.fl_wire.proofs.Turns.{shorter}
use Rattle.fl_wire.proofs.Parts.{pushed}
use Rattle.fl_wire.proofs.Exits.{one_call, calls_then, all_read, leaves_right, wrong_left, nothing_left}
use Rattle.fl_wire.proofs.reader.read_frags.Goals as goal
use Rattle.fl_wire.proofs.reader.read_frags.Goals.{else-loop-alloc-test, then-loop-alloc-test+in_ok-call+in-None}

pub returns-in_err-call-clause-wrong : goal.returns-in_err-call-clause-wrong
returns-in_err-call-clause-wrong c =
    let p = err_from_is_err_and c.from_residual.result c.from_residual.ensures.1 in
    let i = interface_of c.args.interface.now in
    rw (p.1, p.2) (wrong_left c.args.plan i c.args.frags.now (map call_of c.loop-alloc.calls.items) c.loop-alloc.left.now c.in_err-call.field-0.0 c.args.interface.now.counted c.loop-alloc.invariant c.in_err-call.ensures.wrong)

pub returns-in_err-push-in-Some-clause-wrong : goal.returns-in_err-push-in-Some-clause-wrong
returns-in_err-push-in-Some-clause-wrong c =
    let p = err_from_is_err_and c.from_residual-in_err-push-in-Some.result c.from_residual-in_err-push-in-Some.ensures.1 in
    let i = interface_of c.args.interface.now in
    rw (p.1, p.2) (inl (refl, calls_then c.args.plan i c.args.frags.now (map call_of c.loop-alloc.calls.items) c.loop-alloc.left.now c.loop-alloc.invariant c.in_ok-call.ensures.begins))

pub loop-alloc-preserved : goal.loop-alloc-preserved
loop-alloc-preserved c =
    let i = interface_of c.args.interface.now in
    let left = c.loop-alloc.left.now in
    let first = subst (λ (o : Option (Call × ℕ)). IfSome o (λ r. StandsFirst c.args.plan i left (call_of r.0) r.1)) c.in-Some.is c.in_ok-call.ensures.call in
    one_call c.args.plan i c.args.frags.now left _ (map call_of c.loop-alloc.calls.items) (map call_of c.push.new.self.items) (call_of c.in-Some.call) c.in-Some.count c.loop-alloc.invariant
    first
    (pushed call_of c.loop-alloc.calls.items c.push.new.self.items c.in-Some.call c.in_ok-push-in-Some.ensures.items) (take_rest left c.in-Some.count)

pub returns-clause-read : goal.returns-clause-read
returns-clause-read c =
    let i = interface_of c.args.interface.now in
    let calls = map call_of c.loop-alloc.calls.items in
    let left = c.loop-alloc.left.now in
    elim c.loop-alloc-test.branch [
      | else-loop-alloc-test w ↦ all_read c.args.plan i c.args.frags.now calls left c.loop-alloc.invariant (inl (nothing_left left (sym c.is_empty.ensures ∙ w.loop-alloc-test.false)))
      | then-loop-alloc-test+in_ok-call+in-None w ↦ all_read c.args.plan i c.args.frags.now calls left c.loop-alloc.invariant (inr (w.in_ok-call.ensures.part w.in-None.is))
    ]

pub returns-clause-right : goal.returns-clause-right
returns-clause-right c =
    let i = interface_of c.args.interface.now in
    let calls = map call_of c.loop-alloc.calls.items in
    let left = c.loop-alloc.left.now in
    elim c.loop-alloc-test.branch [
      | else-loop-alloc-test w ↦ leaves_right c.args.plan i c.args.frags.now calls (length left)
          (all_read c.args.plan i c.args.frags.now calls left c.loop-alloc.invariant (inl (nothing_left left (sym c.is_empty.ensures ∙ w.loop-alloc-test.false))))
      | then-loop-alloc-test+in_ok-call+in-None w ↦ leaves_right c.args.plan i c.args.frags.now calls (length left)
          (all_read c.args.plan i c.args.frags.now calls left c.loop-alloc.invariant (inr (w.in_ok-call.ensures.part w.in-None.is)))
    ]

pub slice_bounds-left-count : goal.slice_bounds-left-count
slice_bounds-left-count c =
    let left = c.loop-alloc.left.now in
    let first = subst (λ (o : Option (Call × ℕ)). IfSome o (λ r. StandsFirst c.args.plan (interface_of c.args.interface.now) left (call_of r.0) r.1)) c.in-Some.is c.in_ok-call.ensures.call in
    first.within

pub slice_bounds-left-start : goal.slice_bounds-left-start
slice_bounds-left-start c =
    let left = c.loop-alloc.left.now in
    let first = subst (λ (o : Option (Call × ℕ)). IfSome o (λ r. StandsFirst c.args.plan (interface_of c.args.interface.now) left (call_of r.0) r.1)) c.in-Some.is c.in_ok-call.ensures.call in
    first.within

pub loop-alloc-smaller : goal.loop-alloc-smaller
loop-alloc-smaller c =
    let left = c.loop-alloc.left.now in
    let first = subst (λ (o : Option (Call × ℕ)). IfSome o (λ r. StandsFirst c.args.plan (interface_of c.args.interface.now) left (call_of r.0) r.1)) c.in-Some.is c.in_ok-call.ensures.call in
    shorter left c.in-Some.count first.some first.within
