use Rattle.std.proofs.Common.{◌≡◌, ℕ, true, false, List, [], length, Option, None, sym, ap, subst, ◌∙◌, rules}
use Rattle.fl_interface.specs.Interface.{TheInterface, interface_of, message_of}
use Rattle.fl_interface.specs.Limits.{is_within_limits}
use Rattle.fl_wire.specs.Words.{interface_words_fit}
use Rattle.fl_compile.specs.declared.program.Program.{Program}
use Rattle.fl_compile.specs.Programs.{program_of}
use Rattle.std.specs.Prelude.{replicate}
use Rattle.std.proofs.lemmas.List.{length-map}
use Rattle.fl_endpoint.specs.View.{TheEnd, TheOutgoing, nothing_to_send, no_rules, fresh}
use Rattle.fl_endpoint.specs.Rules.{rules_of}
use Rattle.fl_endpoint.specs.Stored.{outgoing_of}
use Rattle.fl_endpoint.specs.Accounts.{Sound}
use Rattle.fl_endpoint.proofs.Sounds.{sound_fresh}
use Rattle.fl_endpoint.proofs.end.End.unbound.Goals as goal

-- an end of these parts is a new one
new_end : (program : Program) (of_it : List (Option ℕ)) (outgoing : TheOutgoing) → of_it ≡ no_rules program → outgoing ≡ nothing_to_send
    → ◌≡◌ {A = TheEnd} (record { program = program; circuit = None; rules = of_it; outgoing = outgoing; parts = []; failed = false }) (fresh program None)
new_end program of_it outgoing b c =
    ap (λ (x : List (Option ℕ)). record { program = program; circuit = None; rules = x; outgoing = outgoing; parts = []; failed = false }) b
    ∙ ap (λ (x : TheOutgoing). record { program = program; circuit = None; rules = no_rules program; outgoing = x; parts = []; failed = false }) c

pub returns-clause-sound : goal.returns-clause-sound
returns-clause-sound c =
    let i = interface_of c.interface.result.now in
    let same : i ≡ (program_of c.args.program).interface = c.interface.ensures.interface in
    let within = subst (λ (j : TheInterface). is_within_limits j ≡ true) same c.interface.result.now.within in
    let words = subst (λ (j : TheInterface). interface_words_fit j ≡ true) same c.interface.ensures.words in
    let long : c.len.result ≡ length c.interface.result.now.messages.items = search rules in
    let many : c.len.result ≡ length (program_of c.args.program).interface.messages
    = long ∙ sym (length-map c.interface.result.now.messages.items message_of) ∙ ap (λ (j : TheInterface). length j.messages) same in
    subst (λ (s : TheEnd). Sound s)
    (sym (new_end c.args.program (rules_of c.in_ok-rules.rules.replies.items) (outgoing_of (program_of c.args.program) 0 c.new-outgoing.result)
    (c.in_ok-rules.ensures.none ∙ ap (λ (n : ℕ). replicate n None) many)
    (c.new-outgoing.ensures.nothing (program_of c.args.program) 0)))
    (sound_fresh c.args.program within words)

pub invariant_of-result : goal.invariant_of-result
invariant_of-result c = record {
  outgoing = c.new-outgoing.ensures.in_order (program_of c.args.program);
  sound = returns-clause-sound c;
}
