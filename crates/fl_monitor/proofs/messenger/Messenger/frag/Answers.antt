use Rattle.std.proofs.Common.{◌≡◌, ◌∷◌, [], ◌∙◌, sym, ap, Some, None}
use Rattle.fl_base.specs.declared.fragment.Frag.{Frag}
use Rattle.fl_compile.specs.declared.program.Program.{Program}
use Rattle.fl_compile.specs.Programs.{program_of}
use Rattle.fl_machine.specs.Sending.{frags_left}
use Rattle.fl_monitor.proofs.Single.{frag_for, frags_are, says_what_is_written}
use Rattle.fl_monitor.proofs.Written.{peeked, same_frag}
use Rattle.fl_monitor.proofs.messenger.Messenger.frag.Goals as goal

pub unreachable-requires-in-None : goal.unreachable-requires-in-None
unreachable-requires-in-None c =
    let p = c.program.result.now in
    let m = c.args.message.now in
    let none : None ≡ Some (frag_for m)
    = sym c.in-None.is ∙ c.peek_frag.ensures.frag
    ∙ peeked c.law_sends_fragments.ensures.sends m c.in_ok-tape.ensures.widths (program_of p).interface (program_of p).plan c.number-number.result.0 c.in-Some.code.now c.in_ok-tape.tape.items (frags_left c.in-Some.code.now c.start-run.result)
    (ap (λ (q : Program). (program_of q).interface) c.program.ensures.program ∙ c.self.invariant.interface)
    (ap (λ (q : Program). (program_of q).plan) c.program.ensures.program ∙ c.self.invariant.plan)
    c.number-number.ensures.number c.in-Some.ensures.exact c.in_ok-tape.ensures.tape c.start-run.ensures.given in
    absurd (cc)

pub returns-clause-frag : goal.returns-clause-frag
returns-clause-frag c =
    let p = c.program.result.now in
    let m = c.args.message.now in
    let some : Some c.in-Some-peek_frag.frag ≡ Some (frag_for m)
    = sym c.in-Some-peek_frag.is ∙ c.peek_frag.ensures.frag
    ∙ peeked c.law_sends_fragments.ensures.sends m c.in_ok-tape.ensures.widths (program_of p).interface (program_of p).plan c.number-number.result.0 c.in-Some.code.now c.in_ok-tape.tape.items (frags_left c.in-Some.code.now c.start-run.result)
    (ap (λ (q : Program). (program_of q).interface) c.program.ensures.program ∙ c.self.invariant.interface)
    (ap (λ (q : Program). (program_of q).plan) c.program.ensures.program ∙ c.self.invariant.plan)
    c.number-number.ensures.number c.in-Some.ensures.exact c.in_ok-tape.ensures.tape c.start-run.ensures.given in
    let w = c.in_ok-tape.ensures.widths in
    record { widths = w; written = ap (λ (f : Frag). f ∷ []) (same_frag c.in-Some-peek_frag.frag (frag_for m) some) ∙ sym (frags_are m w) }

pub returns-clause-says : goal.returns-clause-says
returns-clause-says c = says_what_is_written c.in-Some-peek_frag.frag c.args.message.now c.in_ok-tape.ensures.widths (returns-clause-frag c).written
