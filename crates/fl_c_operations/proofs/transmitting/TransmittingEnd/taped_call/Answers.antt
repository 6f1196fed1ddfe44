use Rattle.std.proofs.Common.{take, sym, subst}
use Rattle.fl_base.specs.Control.{bare}
use Rattle.fl_compile.specs.declared.program.Program.{Program}
use Rattle.fl_compile.specs.Programs.{program_of}
use Rattle.fl_endpoint.specs.View.{TheEnd}
use Rattle.fl_c_operations.specs.Shorts.{IsFragOfTape}
use Rattle.fl_c_operations.specs.Transmissions.{IsShortAt}
use Rattle.fl_c_operations.proofs.Transmissions.{taken_transmitting}
use Rattle.fl_c_operations.proofs.transmitting.TransmittingEnd.taped_call.Goals as goal

pub returns-in-None : goal.returns-in-None
returns-in-None c =
    let h = c.self.inside in
    let f = bare c.args.frag.now in
    let call = c.in-Some.found in
    let tape = take call.count call.numbers in
    let found = subst (λ (p : Program). IsFragOfTape (program_of p) 0 call.msg.0 tape f) c.program.ensures.program c.in-Some.ensures.short in
    let at : IsShortAt h.end call.msg.0 tape f = record { short = found; rule = sym c.in-None.ensures.rule; words = c.law_sound.ensures.sound.words } in
    record { short = subst (λ (s : TheEnd). IsShortAt s call.msg.0 tape f) c.self.view_is (taken_transmitting h.in_transmission h.end call.msg.0 tape f at) }
