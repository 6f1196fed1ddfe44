use Rattle.std.proofs.Common.{◌≡◌, ◌∙◌, subst, true, rules}
use Rattle.fl_interface.specs.Interface.{TheInterface}
use Rattle.fl_interface.specs.Limits.{is_within_limits}
use Rattle.fl_interface.specs.Counts.{interface_words_fit}
use Rattle.fl_compile.specs.Programs.{program_of}
use Rattle.fl_compile_tape.proofs.TapesTaken.{packed_taken, packed_plain, has_code}
use Rattle.fl_compile_tape.proofs.receive.take_packed.Goals as goal

pub unreachable-requires : goal.unreachable-requires
unreachable-requires c = has_code (program_of c.args.program.now) c.args.msg.0 c.args.payload.now c.in_default.ensures.none c.requires.known

pub returns-then-is_plain : goal.returns-then-is_plain
returns-then-is_plain c =
    let p = program_of c.args.program.now in
    let within : is_within_limits p.interface ≡ true = subst (λ (i : TheInterface). is_within_limits i ≡ true) c.interface-interface.ensures.interface c.interface-interface.result.now.within in
    let words : interface_words_fit p.interface ≡ true = subst (λ (i : TheInterface). interface_words_fit i ≡ true) c.interface-interface.ensures.interface c.interface-interface.ensures.words in
    let plain = c.is_plain.ensures.plain (search (rules, c.if-is_plain.true)) in
    record { packed = λ call has. packed_plain p c.args.msg.0 c.in-Some.code.now c.args.payload.now call within words c.in-Some.ensures.receives plain has }

pub returns : goal.returns
returns c =
    let p = program_of c.args.program.now in
    let within : is_within_limits p.interface ≡ true = subst (λ (i : TheInterface). is_within_limits i ≡ true) c.interface-interface.ensures.interface c.interface-interface.result.now.within in
    let words : interface_words_fit p.interface ≡ true = subst (λ (i : TheInterface). interface_words_fit i ≡ true) c.interface-interface.ensures.interface c.interface-interface.ensures.words in
    record {
      packed = λ call has.
          packed_taken p c.args.msg.0 c.in-Some.code.now c.args.payload.now c.reserve.new.self.items c.take.new.tape.items c.in_ok-_left._left.now call within words c.in-Some.ensures.receives
          (c.in_ok-reserve.ensures.items ∙ c.clear.ensures.items) c.in_ok-_left.ensures.taken has;
    }
