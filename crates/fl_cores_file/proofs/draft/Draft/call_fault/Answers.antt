use Rattle.std.proofs.Common.{◌≡◌, ◌∙◌, rules, slice_get, Some}
use Rattle.std.proofs.lemmas.Option.{gets}
use Rattle.fl_value_data.specs.Value.{call_of}
use Rattle.fl_cores_file.specs.Draft.{call_fault}
use Rattle.fl_cores_file.specs.Views.{bound_of, planned_of, draft_of}
use Rattle.fl_cores_file.proofs.Lists.{found_at, fault_found}
use Rattle.fl_cores_file.proofs.draft.Draft.call_fault.Goals as goal

pub returns : goal.returns
returns c =
    let bound : slice_get c.deref.result.now c.args.end.binding ≡ Some c.in-Some.binding.now = search (rules, gets) in
    let planned : slice_get c.deref-2.result.now c.in-Some.binding.now.interface ≡ Some c.in-Some-get.planned.now = search (rules, gets) in
    record {
      same = c.call_fault.ensures.same
          ∙ fault_found c.args.end (call_fault c.args.end.side (call_of c.args.call.now)) (draft_of c.args.self.now) (bound_of c.in-Some.binding.now)
          (planned_of c.in-Some-get.planned.now) (found_at bound_of c.args.self.now.bindings.items c.args.end.binding c.in-Some.binding.now (rw c.deref.ensures.value at bound))
          (found_at planned_of c.args.self.now.interfaces.items c.in-Some.binding.now.interface c.in-Some-get.planned.now (rw c.deref-2.ensures.value at planned));
    }
