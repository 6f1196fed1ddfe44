use Rattle.std.proofs.Common.{◌∙◌, ap, Ok}
use Rattle.std.proofs.lemmas.Result.{err_from_is_err_and}
use Rattle.fl_compile.specs.declared.program.Program.{Program}
use Rattle.fl_compile.specs.Programs.{program_of}
use Rattle.fl_machine.specs.Receiving.{interface_in, plan_in, fed_by}
use Rattle.fl_monitor.proofs.Single.{says_no_other}
use Rattle.fl_monitor.proofs.Taken.{ended, not_empty, tells, says_read, refused, says_none}
use Rattle.fl_monitor.proofs.messenger.Messenger.read.Goals as goal

pub returns-in_err-feed-clause-refused : goal.returns-in_err-feed-clause-refused
returns-in_err-feed-clause-refused c =
    let p = err_from_is_err_and c.from_residual.result c.from_residual.ensures.1 in
    let s = c.self.inside.run in
    let i = c.self.invariant in
    rw (p.1, p.2) (refused c.args.frag.now (plan_in s) (interface_in s) s.parts c.in_err-feed.field-0.0 i.plan i.interface i.parts c.in_err-feed.ensures.wrong)

pub returns-in_err-feed-clause-back : goal.returns-in_err-feed-clause-back
returns-in_err-feed-clause-back c m says =
    let s = c.self.inside.run in
    let i = c.self.invariant in
    absurd (says_none c.args.frag.now m (plan_in s) (interface_in s) s.parts c.in_err-feed.field-0.0 i.plan i.interface i.parts c.in_err-feed.ensures.wrong says)

pub whole_tape-requires : goal.whole_tape-requires
whole_tape-requires c =
    let s = c.self.inside.run in
    let i = c.self.invariant in
    let last = ended c.args.frag.now (fed_by c.feed.new.self) (plan_in s) (interface_in s) s.parts c.in_ok-feed.field-0 i.plan i.interface i.parts c.in_ok-feed.ensures.part c.in_ok-feed.ensures.whole in
    record { whole = not_empty c.args.frag.now (fed_by c.feed.new.self) last }

pub message_on-requires : goal.message_on-requires
message_on-requires c =
    let s = c.self.inside.run in
    let i = c.self.invariant in
    let t = c.feed.new.self in
    let last = ended c.args.frag.now (fed_by t) (plan_in s) (interface_in s) s.parts c.in_ok-feed.field-0 i.plan i.interface i.parts c.in_ok-feed.ensures.part c.in_ok-feed.ensures.whole in
    let told = tells c.args.frag.now (fed_by t) (plan_in t) (interface_in t) c.msg.result.0 c.whole_tape.result.now
    (ap (λ (q : Program). (program_of q).plan) c.in_ok-feed.ensures.before.program ∙ i.plan) (ap (λ (q : Program). (program_of q).interface) c.in_ok-feed.ensures.before.program ∙ i.interface)
    last c.msg.ensures c.whole_tape.ensures.tape in
    record { tape = told.told }

pub invariant_of-self-2 : goal.invariant_of-self-2
invariant_of-self-2 c =
    let s = c.self.inside.run in
    let i = c.self.invariant in
    let last = ended c.args.frag.now (fed_by c.feed.new.self) (plan_in s) (interface_in s) s.parts c.in_ok-feed.field-0 i.plan i.interface i.parts c.in_ok-feed.ensures.part c.in_ok-feed.ensures.whole in
    record {
      interface = ap (λ (q : Program). (program_of q).interface) c.in_ok-feed.ensures.before.program ∙ i.interface;
      plan = ap (λ (q : Program). (program_of q).plan) c.in_ok-feed.ensures.before.program ∙ i.plan;
      parts = last.parts_are;
    }

pub returns-clause-says : goal.returns-clause-says
returns-clause-says c =
    let s = c.self.inside.run in
    let i = c.self.invariant in
    let t = c.feed.new.self in
    let last = ended c.args.frag.now (fed_by t) (plan_in s) (interface_in s) s.parts c.in_ok-feed.field-0 i.plan i.interface i.parts c.in_ok-feed.ensures.part c.in_ok-feed.ensures.whole in
    let told = tells c.args.frag.now (fed_by t) (plan_in t) (interface_in t) c.msg.result.0 c.whole_tape.result.now
    (ap (λ (q : Program). (program_of q).plan) c.in_ok-feed.ensures.before.program ∙ i.plan) (ap (λ (q : Program). (program_of q).interface) c.in_ok-feed.ensures.before.program ∙ i.interface)
    last c.msg.ensures c.whole_tape.ensures.tape in
    says_read c.args.frag.now c.msg.result.0 c.whole_tape.result.now c.message_on.result told c.message_on.ensures.message

pub returns-clause-back : goal.returns-clause-back
returns-clause-back c m says = ap Ok (says_no_other c.args.frag.now c.message_on.result m (returns-clause-says c) says)
