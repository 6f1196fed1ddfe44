use Rattle.std.proofs.Common.{◌≡◌, true, refl, sym, subst, ◌∙◌, rules}
use Rattle.fl_interface.specs.Interface.{TheInterface, interface_of}
use Rattle.fl_interface.specs.Limits.{is_within_limits}
use Rattle.fl_value_data.specs.Value.{call_of}
use Rattle.fl_value_data.specs.Tape.{tape_of}
use Rattle.fl_wire.specs.Words.{interface_words_fit}
use Rattle.fl_compile.specs.Programs.{program_of}
use Rattle.fl_endpoint.specs.declared.outgoing.CallBody.TheVariants.{Tape}
use Rattle.fl_layout.specs.Places.{count}
use Rattle.fl_endpoint.specs.Stored.{sent_as}
use Rattle.fl_endpoint.proofs.Outgoings.{queues_tape, same_tape, same_count}
use Rattle.fl_endpoint.proofs.outgoing.QueuedCall.of_tape.Goals as goal

pub returns : goal.returns
returns c =
    let p = program_of c.args.program.now in
    let d = call_of c.args.call.now in
    let i = interface_of c.interface.result.now in
    let same : i ≡ p.interface = c.interface.ensures.interface in
    let within : is_within_limits p.interface ≡ true = subst (λ (j : TheInterface). is_within_limits j ≡ true) same c.interface.result.now.within in
    let words : interface_words_fit p.interface ≡ true = subst (λ (j : TheInterface). interface_words_fit j ≡ true) same c.interface.ensures.words in
    let tape = c.flatten_into.new.tape in
    let msg = c.args.msg.0 in
    let sends = c.requires.sends in
    let own : tape.items ≡ tape_of p.plan p.interface d = search rules in
    let is : tape.items ≡ tape_of p.plan p.interface (sent_as msg d) = own ∙ same_tape p.plan p.interface d msg sends.types in
    let one : count p.plan p.interface (sent_as msg d) ≡ 1 = sym (same_count p.plan p.interface d msg sends.types) ∙ c.requires.one in
    record { queues = queues_tape p (sent_as msg d) tape (record { body = Tape tape; msg = c.args.msg }) c.law_sends_fragments.ensures.sends within words sends.fits_so one refl refl is }
