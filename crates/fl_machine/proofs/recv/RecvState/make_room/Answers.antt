use Rattle.std.proofs.Common.{◌≡◌, ◌∙◌, ap, arith}
use Rattle.fl_interface.specs.Interface.{interface_of}
use Rattle.fl_compile.specs.Programs.{program_of}
use Rattle.fl_machine.specs.declared.recv.PartialCall.{PartialCall}
use Rattle.fl_machine.specs.Receiving.{stored_of}
use Rattle.fl_machine.proofs.Storing.{room_for, gone_over, within_tape, moved_stored, moved_receiving, moved_room}
use Rattle.fl_machine.proofs.recv.RecvState.make_room.Goals as goal

pub returns-then-count-le-FRAG_BYTES-clause-room : goal.returns-then-count-le-FRAG_BYTES-clause-room
returns-then-count-le-FRAG_BYTES-clause-room c =
    let b = c.args.self.now.now.value in
    let counts : c.count-count.result ≡ b.intake.count = c.count-count.ensures ∙ ap (λ (d : PartialCall). d.intake.count) c.deref.ensures in
    room_for (program_of c.args.program.now) b.intake.count _ (omega (arith, counts, c.if-count-le-FRAG_BYTES.true)) c.requires.stored.tape

pub go_over-requires : goal.go_over-requires
go_over-requires c =
    let p = c.args.program.now in
    let b = c.args.self.now.now.value in
    let counts : c.count-count.result ≡ b.intake.count = c.count-count.ensures ∙ ap (λ (d : PartialCall). d.intake.count) c.deref.ensures in
    record {
      inside = omega (arith, counts, within_tape p.plan (interface_of p.compiled.value.plans.interface) (stored_of c.args.self.now) b c.requires.inside c.requires.stored);
    }

pub go_over-requires-2 : goal.go_over-requires-2
go_over-requires-2 c =
    let p = c.args.program.now in
    let b = c.args.self.now.now.value in
    let counts : c.count-count.result ≡ b.intake.count = c.count-count.ensures ∙ ap (λ (d : PartialCall). d.intake.count) c.deref.ensures in
    let longer = c.go_over.ensures.longest.0 in
    record {
      inside = omega (arith, counts, longer, within_tape p.plan (interface_of p.compiled.value.plans.interface) (stored_of c.args.self.now) b c.requires.inside c.requires.stored);
    }

pub returns-clause-stored : goal.returns-clause-stored
returns-clause-stored c =
    let p = c.args.program.now in
    let i = interface_of p.compiled.value.plans.interface in
    let s = stored_of c.args.self.now in
    let b = c.args.self.now.now.value in
    let counts : c.count-count.result ≡ b.intake.count = c.count-count.ensures ∙ ap (λ (d : PartialCall). d.intake.count) c.deref.ensures in
    let e = c.go_over.ensures in
    let f = c.go_over-2.ensures in
    let moved = gone_over p.plan i b.intake.count c.count-count.result s c.go_over.new.tape.items c.go_over.new.other.items c.go_over-2.new.tape.items c.go_over-2.new.other.items counts
    c.requires.stored e.kept e.longest e.other f.kept f.longest f.other in
    moved_stored p.plan i s b _ _ _ c.requires.inside (omega (arith, counts, c.if-count-le-FRAG_BYTES.false)) moved c.requires.stored

pub returns-clause-same : goal.returns-clause-same
returns-clause-same c =
    let p = c.args.program.now in
    let i = interface_of p.compiled.value.plans.interface in
    let s = stored_of c.args.self.now in
    let b = c.args.self.now.now.value in
    let counts : c.count-count.result ≡ b.intake.count = c.count-count.ensures ∙ ap (λ (d : PartialCall). d.intake.count) c.deref.ensures in
    let e = c.go_over.ensures in
    let f = c.go_over-2.ensures in
    let moved = gone_over p.plan i b.intake.count c.count-count.result s c.go_over.new.tape.items c.go_over.new.other.items c.go_over-2.new.tape.items c.go_over-2.new.other.items counts
    c.requires.stored e.kept e.longest e.other f.kept f.longest f.other in
    moved_receiving p s b _ _ _ c.requires.inside (omega (arith, counts, c.if-count-le-FRAG_BYTES.false)) moved c.requires.stored

pub returns-clause-room : goal.returns-clause-room
returns-clause-room c =
    let p = c.args.program.now in
    let i = interface_of p.compiled.value.plans.interface in
    let s = stored_of c.args.self.now in
    let b = c.args.self.now.now.value in
    let counts : c.count-count.result ≡ b.intake.count = c.count-count.ensures ∙ ap (λ (d : PartialCall). d.intake.count) c.deref.ensures in
    let e = c.go_over.ensures in
    let f = c.go_over-2.ensures in
    let moved = gone_over p.plan i b.intake.count c.count-count.result s c.go_over.new.tape.items c.go_over.new.other.items c.go_over-2.new.tape.items c.go_over-2.new.other.items counts
    c.requires.stored e.kept e.longest e.other f.kept f.longest f.other in
    moved_room (program_of p) b.intake.count s _ _ _ moved c.requires.stored
