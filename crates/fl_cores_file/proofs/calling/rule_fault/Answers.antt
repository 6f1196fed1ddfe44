use Rattle.std.proofs.Common.{◌≡◌, rules, slice_get, Some, true, false}
use Rattle.std.proofs.lemmas.Option.{gets}
use Rattle.fl_base.specs.Ends.{other}
use Rattle.fl_interface.specs.Interface.{message_of}
use Rattle.fl_interface.specs.SameTypes.{same_arguments}
use Rattle.fl_cores_file.specs.Draft.{use_at, is_for_calls, is_for_rules}
use Rattle.fl_cores_file.specs.Views.{bound_of, planned_of}
use Rattle.fl_cores_file.proofs.Lists.{found_at, no_fault}
use Rattle.fl_cores_file.proofs.calling.rule_fault.Goals as goal

pub returns : goal.returns
returns c =
    let one : slice_get c.as_slice-messages.result.now c.args.message.0 ≡ Some c.in-Some.one.now = search (rules, gets) in
    let two : slice_get c.as_slice-messages.result.now c.args.answer.0 ≡ Some c.in-Some-get.other.now = search (rules, gets) in
    let same : same_arguments (message_of c.in-Some.one.now).args (message_of c.in-Some-get.other.now).args ≡ true =
    cc (c.same_args.ensures.test, c.deref.ensures.value, c.deref-2.ensures.value, c.if-not-same_args.false) in
    let calls : is_for_calls (use_at c.args.side (bound_of c.args.binding.now)) ≡ false =
    cc (c.is_for_calls.ensures.same, c.use_at.ensures.same, c.if-is_for_calls.false) in
    let rules : is_for_rules (use_at (other c.args.side) (bound_of c.args.binding.now)) ≡ false =
    cc (c.is_for_rules.ensures.same, c.use_at-else-is_for_calls.ensures.same, c.if-is_for_rules.false, c.other.ensures) in
    record {
      same = no_fault c.args.side c.args.message.0 c.args.answer.0 (bound_of c.args.binding.now) (planned_of c.args.planned.now)
          (message_of c.in-Some.one.now) (message_of c.in-Some-get.other.now)
          (found_at message_of c.args.planned.now.interface.messages.items c.args.message.0 c.in-Some.one.now (rw c.as_slice-messages.ensures.value at one))
          (found_at message_of c.args.planned.now.interface.messages.items c.args.answer.0 c.in-Some-get.other.now (rw c.as_slice-messages.ensures.value at two))
          same calls rules;
    }
