use Rattle.std.proofs.Common.{◌≡◌, ◌+◌, ◌-◌, List, ap, arith}
use Rattle.fl_base.specs.declared.fragment.Frag.{Frag}
use Rattle.fl_compile.specs.Programs.{program_of}
use Rattle.fl_machine.specs.Reassembling.{TheReassembly}
use Rattle.fl_machine.proofs.Parts.{stored_part}
use Rattle.fl_machine.proofs.reassembly.keep.Goals as goal

pub returns-clause-under_way : goal.returns-clause-under_way
returns-clause-under_way c =
    let (o, g) = c.requires.goes_on in
    let next : c.fed-last.result - 1 + 1 ≡ c.args.begun.now.fed = omega (arith, c.requires.some, c.fed-last.ensures.fed) in
    (stored_part (program_of c.args.program.now) c.args.room.now o c.args.frag.now _ c.args.begun.now _ g.under_way g.kept next c.requires.inside c.bare.ensures.bare).under_way

pub returns-clause-takes : goal.returns-clause-takes
returns-clause-takes c o g =
    let next : c.fed-last.result - 1 + 1 ≡ c.args.begun.now.fed = omega (arith, c.requires.some, c.fed-last.ensures.fed) in
    let s = stored_part (program_of c.args.program.now) c.args.room.now o c.args.frag.now _ c.args.begun.now _ g.under_way g.kept next c.requires.inside c.bare.ensures.bare in
    (g.part, ap (λ (fs : List Frag). let r : TheReassembly = record { program = c.args.program.now; parts = fs } in r) s.parts_are)
