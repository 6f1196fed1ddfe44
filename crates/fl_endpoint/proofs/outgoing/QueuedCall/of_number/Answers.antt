use Rattle.std.proofs.Common.{◌≡◌, true, refl, subst}
use Rattle.fl_interface.specs.Interface.{TheInterface, interface_of}
use Rattle.fl_interface.specs.Limits.{is_within_limits}
use Rattle.fl_wire.specs.Words.{interface_words_fit}
use Rattle.fl_compile.specs.Programs.{program_of}
use Rattle.fl_endpoint.specs.declared.outgoing.CallBody.TheVariants.{Number}
use Rattle.fl_endpoint.proofs.Outgoings.{queues_number}
use Rattle.fl_endpoint.proofs.outgoing.QueuedCall.of_number.Goals as goal

pub returns : goal.returns
returns c =
    let p = program_of c.args.program.now in
    let msg = c.args.msg.0 in
    let n = c.args.number in
    let i = interface_of c.interface-interface.result.now in
    let same : i ≡ p.interface = c.interface-interface.ensures.interface in
    let within : is_within_limits p.interface ≡ true = subst (λ (j : TheInterface). is_within_limits j ≡ true) same c.interface-interface.result.now.within in
    let words : interface_words_fit p.interface ≡ true = subst (λ (j : TheInterface). interface_words_fit j ≡ true) same c.interface-interface.ensures.words in
    record { queues = queues_number p msg n (record { body = Number n; msg = c.args.msg }) c.law_sends_fragments.ensures.sends within words c.requires.fits refl refl }
