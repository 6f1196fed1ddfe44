use Rattle.std.proofs.Common.{sym, ◌∙◌}
use Rattle.fl_compile.specs.Programs.{program_of}
use Rattle.fl_core.specs.Inside.{server_in}
use Rattle.fl_core.proofs.Binding.{end_made}
use Rattle.fl_core.proofs.hearing.hear_with_end.Goals as goal

pub returns-in-Some : goal.returns-in-Some
returns-in-Some c =
    let made = sym c.server_in.ensures.made ∙ c.in-Some.is in
    let led = c.requires.leads c.in-Ok-on_message.heard c.in-Some.field-0 c.in-Ok-on_message.ensures.hears.0 made in
    record { hears = (c.in-Ok-on_message.ensures.hears, end_made (program_of c.args.program.now) c.in-Ok-add_circuit_end.place (server_in c.in-Ok-on_message.heard) c.in-Some.field-0 c.args.board.now c.add_circuit_end.new.board c.in-Ok.copy c.args.dispatcher c.circuit_in-circuit.result made c.in-Ok.ensures.equal led.0 (led.1 ∙ sym c.circuit_in-circuit.ensures.circuit) c.in-Ok-add_circuit_end.ensures.adds) }
