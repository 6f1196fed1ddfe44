use Rattle.std.proofs.Common.{◌≡◌, length, arith, rules}
use Rattle.fl_interface.specs.Interface.{interface_of}
use Rattle.fl_machine.proofs.Storing.{new_stored}
use Rattle.fl_machine.proofs.recv.RecvRun.new.Goals as goal

pub invariant_of-result : goal.invariant_of-result
invariant_of-result c =
    let p = c.args.program in
    let tape : length c.in_ok-tape.tape.items ≡ c.min-short.result = search rules in
    let spare : length c.in_ok-spare.spare.items ≡ c.min-short.result = search rules in
    let fresh : length c.in_ok-fresh.fresh.items ≡ c.args.capacity = search rules in
    new_stored p.plan (interface_of p.compiled.value.plans.interface) c.args.capacity c.min-short.result c.in_ok-tape.tape.items c.in_ok-spare.spare.items c.in_ok-fresh.fresh.items
    (λ few. omega (arith, few, c.min-short.ensures)) (λ many. omega (arith, many, c.min-short.ensures)) c.requires.room tape spare fresh
