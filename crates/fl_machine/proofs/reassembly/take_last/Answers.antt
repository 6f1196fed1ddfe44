use Rattle.std.proofs.Common.{◌≡◌, ◌++◌, ◌∷◌, [], List, sym, ap, subst}
use Rattle.fl_base.specs.declared.fragment.Frag.{Frag}
use Rattle.fl_value_data.specs.Value.{TheCall, call_of}
use Rattle.fl_compile.specs.Programs.{program_of}
use Rattle.fl_machine.specs.Reassembling.{TheReassembly, AreWhole, Takes, reassembly_on}
use Rattle.std.proofs.Common.{Some}
use Rattle.fl_machine.proofs.Parts.{stored_last, whole_frags}
use Rattle.fl_machine.proofs.reassembly.take_last.Goals as goal

pub read-requires : goal.read-requires
read-requires c = record {
  whole = (c.requires.ends.call, whole_frags (program_of c.args.program.now) c.args.room.now c.args.frag.now _ c.args.begun.now _ c.fed-count.ensures.fed c.bare.ensures.bare c.requires.inside c.requires.ends);
}

pub returns-in-Ok-clause-under_way : goal.returns-in-Ok-clause-under_way
returns-in-Ok-clause-under_way c = (stored_last (program_of c.args.program.now) c.args.room.now _ c.args.begun.now _ c.requires.under_way c.fed-count.ensures.fed).under_way

pub returns-in-Err-clause-under_way : goal.returns-in-Err-clause-under_way
returns-in-Err-clause-under_way c = (stored_last (program_of c.args.program.now) c.args.room.now _ c.args.begun.now _ c.requires.under_way c.fed-count.ensures.fed).under_way

pub returns-in-Ok-clause-takes : goal.returns-in-Ok-clause-takes
returns-in-Ok-clause-takes c =
    let p = program_of c.args.program.now in
    let e = c.requires.ends in
    let s = stored_last p c.args.room.now _ c.args.begun.now _ c.requires.under_way c.fed-count.ensures.fed in
    let r : TheReassembly = reassembly_on c.args.program.now c.args.room.now (Some c.args.begun.now) in
    let is : call_of c.in-Ok.call ≡ e.call
    = c.in-Ok.ensures.call e.call (whole_frags p c.args.room.now c.args.frag.now _ c.args.begun.now _ c.fed-count.ensures.fed c.bare.ensures.bare c.requires.inside e) in
    subst (Takes r c.args.frag.now c.told.result) (sym (ap (λ (fs : List Frag). let r : TheReassembly = record { program = c.args.program.now; parts = fs } in r) s.parts_are))
    (c.told.ensures.told r c.args.frag.now (subst (λ (call : TheCall). AreWhole r (r.parts ++ c.args.frag.now ∷ []) call) (sym is) (record { fits = e.fits; means = e.means })))

pub returns-in-Err-clause-takes : goal.returns-in-Err-clause-takes
returns-in-Err-clause-takes c =
    let p = program_of c.args.program.now in
    let e = c.requires.ends in
    let s = stored_last p c.args.room.now _ c.args.begun.now _ c.requires.under_way c.fed-count.ensures.fed in
    ((e.call, record { fits = e.fits; means = e.means }), ap (λ (fs : List Frag). let r : TheReassembly = record { program = c.args.program.now; parts = fs } in r) s.parts_are)
