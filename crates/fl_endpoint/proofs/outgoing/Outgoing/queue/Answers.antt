use Rattle.std.proofs.Common.{List, map, refl, ap, rules}
use Rattle.fl_compile.specs.Programs.{program_of}
use Rattle.fl_endpoint.specs.declared.outgoing.Outgoing.{Outgoing}
use Rattle.fl_endpoint.specs.Stored.{queued_frags, sending_frags, count_in}
use Rattle.fl_endpoint.proofs.Insides.{waits_more, waits_as, queued_waits, no_sending}
use Rattle.fl_endpoint.proofs.outgoing.Outgoing.queue.Goals as goal

pub returns-in_default-clause-outgoing : goal.returns-in_default-clause-outgoing
returns-in_default-clause-outgoing c =
    let before = c.args.self.now in
    let after : Outgoing = record { sending = before.sending; payload = before.payload; waiting = c.push_back.new.self } in
    waits_as (program_of c.args.program.now) before after c.requires.outgoing refl refl c.in_default.ensures.items

pub returns-in_default-clause-kept : goal.returns-in_default-clause-kept
returns-in_default-clause-kept c =
    let p = program_of c.args.program.now in
    let before = c.args.self.now in
    ap (λ (xs : List _). record { unwritten = sending_frags before.sending before.payload; count = count_in before.sending; waiting = map (queued_frags p c.args.circuit.0) xs }) c.in_default.ensures.items

pub returns-then-is_some-clause-outgoing : goal.returns-then-is_some-clause-outgoing
returns-then-is_some-clause-outgoing c =
    let before = c.args.self.now in
    let after : Outgoing = record { sending = before.sending; payload = before.payload; waiting = c.push_back.new.self } in
    waits_more (program_of c.args.program.now) before after c.args.call (search rules) c.requires.outgoing c.requires.call c.requires.few refl refl c.in-Ok.ensures.items

pub returns-then-is_some-clause-queued : goal.returns-then-is_some-clause-queued
returns-then-is_some-clause-queued c =
    queued_waits (program_of c.args.program.now) c.args.circuit.0 c.args.self.now c.push_back.new.self.items c.args.call (search rules) c.in-Ok.ensures.items

pub begin-tape-requires-clause-idle : goal.begin-tape-requires-clause-idle
begin-tape-requires-clause-idle c = no_sending c.args.self.now.sending (search rules)

pub returns-clause-outgoing : goal.returns-clause-outgoing
returns-clause-outgoing c = c.begin-tape.ensures.outgoing

pub returns-clause-queued : goal.returns-clause-queued
returns-clause-queued c = c.begin-tape.ensures.queued
