use Rattle.std.proofs.Common.{List, length, refl, ap, ◌∙◌, rules}
use Rattle.std.specs.Prelude.{slice_get}
use Rattle.std.proofs.lemmas.Result.{on_ok_weaker}
use Rattle.fl_machine.specs.Reassembling.{TheReassembly, new_reassembly}
use Rattle.fl_endpoint.specs.Lent.{IsOf}
use Rattle.fl_endpoint.proofs.Lendings.{push_last, as_place}
use Rattle.fl_endpoint.proofs.end.End.add_place.Goals as goal

pub returns-clause-added : goal.returns-clause-added
returns-clause-added c =
    let of : IsOf c.args.self.now (new_reassembly c.in_ok-program.program) = record { program = search rules; are_bare = refl } in
    on_ok_weaker c.add.result (λ is. (new_reassembly c.in_ok-program.program, of, refl, is)) c.add.ensures.added

pub returns-clause-place : goal.returns-clause-place
returns-clause-place c =
    let of : IsOf c.args.self.now (new_reassembly c.in_ok-program.program) = record { program = search rules; are_bare = refl } in
    on_ok_weaker c.add.result
    (λ is. as_place c.args.self.now c.add.new.self (length c.args.calls.now) (new_reassembly c.in_ok-program.program) (ap (λ (x : List TheReassembly). slice_get x (length c.args.calls.now)) is ∙ push_last c.args.calls.now (new_reassembly c.in_ok-program.program)) of)
    c.add.ensures.added
