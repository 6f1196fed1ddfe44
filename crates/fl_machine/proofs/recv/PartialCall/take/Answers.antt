use Rattle.std.proofs.Common.{◌+◌, ◌++◌, ◌∷◌, [], length, refl, arith}
use Rattle.fl_interface.specs.Interface.{interface_of}
use Rattle.fl_compile.specs.Programs.{program_of}
use Rattle.fl_machine.specs.declared.recv.PartialCall.{PartialCall}
use Rattle.fl_machine.specs.declared.recv.TapedCall.{TapedCall}
use Rattle.fl_machine.specs.Receiving.{parts_of}
use Rattle.fl_machine.proofs.Feeding.{taking, has_places, few_fed, goes_on, adds_part, is_whole, ended, adds_last, has_fault}
use Rattle.fl_machine.proofs.recv.PartialCall.take.Goals as goal

pub take_words-requires-clause-count : goal.take_words-requires-clause-count
take_words-requires-clause-count c = c.requires.begun.within

pub take_words-requires-clause-stands : goal.take_words-requires-clause-stands
take_words-requires-clause-stands c =
    let p = c.args.program.now in
    let x = taking p.plan (interface_of p.compiled.value.plans.interface) c.args.tape.now c.args.self.now c.args.frag.now c.in-Some.code.now c.ops.result.now p.compiled.value.plans.interface.within p.words c.is_line.ensures.line c.requires.begun c.requires.control c.in-Some.ensures.exact c.ops.ensures.ops in
    ([], x.bytes, x.stands)

pub take_words-requires-clause-room : goal.take_words-requires-clause-room
take_words-requires-clause-room c =
    let p = c.args.program.now in
    let x = taking p.plan (interface_of p.compiled.value.plans.interface) c.args.tape.now c.args.self.now c.args.frag.now c.in-Some.code.now c.ops.result.now p.compiled.value.plans.interface.within p.words c.is_line.ensures.line c.requires.begun c.requires.control c.in-Some.ensures.exact c.ops.ensures.ops in
    has_places (program_of p) c.args.tape.now c.args.self.now c.args.frag.now c.ops.result.now (length c.args.tape.now) x c.requires.room

pub overflow_add-self : goal.overflow_add-self
overflow_add-self c =
    let p = c.args.program.now in
    let x = taking p.plan (interface_of p.compiled.value.plans.interface) c.args.tape.now c.args.self.now c.args.frag.now c.in-Some.code.now c.ops.result.now p.compiled.value.plans.interface.within p.words c.is_line.ensures.line c.requires.begun c.requires.control c.in-Some.ensures.exact c.ops.ensures.ops in
    omega (arith, few_fed p.plan (interface_of p.compiled.value.plans.interface) c.args.tape.now c.args.self.now c.args.frag.now c.ops.result.now x)

pub returns-in-Ok-Part-clause-stands : goal.returns-in-Ok-Part-clause-stands
returns-in-Ok-Part-clause-stands c =
    let p = c.args.program.now in
    let x = taking p.plan (interface_of p.compiled.value.plans.interface) c.args.tape.now c.args.self.now c.args.frag.now c.in-Some.code.now c.ops.result.now p.compiled.value.plans.interface.within p.words c.is_line.ensures.line c.requires.begun c.requires.control c.in-Some.ensures.exact c.ops.ensures.ops in
    let now = c.in-Ok-Part.ensures.part c.in-Ok-Part.field-0-is [] x.bytes x.stands in
    (omega arith, goes_on p.plan (interface_of p.compiled.value.plans.interface) c.args.tape.now c.args.self.now c.args.frag.now c.ops.result.now c.take_words.new.tape _ x refl refl c.in-Ok-Part.ensures.within now.0 now.1)

pub returns-in-Ok-Part-clause-adds : goal.returns-in-Ok-Part-clause-adds
returns-in-Ok-Part-clause-adds c =
    let p = c.args.program.now in
    let x = taking p.plan (interface_of p.compiled.value.plans.interface) c.args.tape.now c.args.self.now c.args.frag.now c.in-Some.code.now c.ops.result.now p.compiled.value.plans.interface.within p.words c.is_line.ensures.line c.requires.begun c.requires.control c.in-Some.ensures.exact c.ops.ensures.ops in
    let now = c.in-Ok-Part.ensures.part c.in-Ok-Part.field-0-is [] x.bytes x.stands in
    let b : PartialCall = record { msg = c.args.self.now.msg; fed = c.args.self.now.fed + 1; intake = c.take_words.new.self } in
    adds_part p.plan (interface_of p.compiled.value.plans.interface) c.args.tape.now c.args.self.now c.args.frag.now c.ops.result.now c.take_words.new.tape b x refl refl c.in-Ok-Part.ensures.within now.0 now.1

pub returns-in-Ok-Whole-clause-stands : goal.returns-in-Ok-Whole-clause-stands
returns-in-Ok-Whole-clause-stands c =
    let p = c.args.program.now in
    let i = interface_of p.compiled.value.plans.interface in
    let x = taking p.plan (interface_of p.compiled.value.plans.interface) c.args.tape.now c.args.self.now c.args.frag.now c.in-Some.code.now c.ops.result.now p.compiled.value.plans.interface.within p.words c.is_line.ensures.line c.requires.begun c.requires.control c.in-Some.ensures.exact c.ops.ensures.ops in
    let e : TapedCall = record { msg = c.args.self.now.msg; count = c.take_words.new.self.count } in
    let whole = c.in-Ok-Whole.ensures.whole c.in-Ok-Whole.field-0-is [] x.bytes x.stands in
    ended p.plan i (parts_of p.plan i c.args.tape.now c.args.self.now ++ c.args.frag.now ∷ []) c.take_words.new.tape e (c.in-Ok-Whole.ensures.within)
    (is_whole p.plan (interface_of p.compiled.value.plans.interface) c.args.tape.now c.args.self.now c.args.frag.now c.ops.result.now c.take_words.new.tape e x refl whole)

pub returns-in-Ok-Whole-clause-adds : goal.returns-in-Ok-Whole-clause-adds
returns-in-Ok-Whole-clause-adds c =
    let p = c.args.program.now in
    let x = taking p.plan (interface_of p.compiled.value.plans.interface) c.args.tape.now c.args.self.now c.args.frag.now c.in-Some.code.now c.ops.result.now p.compiled.value.plans.interface.within p.words c.is_line.ensures.line c.requires.begun c.requires.control c.in-Some.ensures.exact c.ops.ensures.ops in
    let e : TapedCall = record { msg = c.args.self.now.msg; count = c.take_words.new.self.count } in
    let whole = c.in-Ok-Whole.ensures.whole c.in-Ok-Whole.field-0-is [] x.bytes x.stands in
    adds_last p.plan (interface_of p.compiled.value.plans.interface) c.args.tape.now c.args.self.now c.args.frag.now c.ops.result.now c.take_words.new.tape e x refl (c.in-Ok-Whole.ensures.within) whole

pub returns-in-Err-clause-wrong : goal.returns-in-Err-clause-wrong
returns-in-Err-clause-wrong c =
    let p = c.args.program.now in
    let x = taking p.plan (interface_of p.compiled.value.plans.interface) c.args.tape.now c.args.self.now c.args.frag.now c.in-Some.code.now c.ops.result.now p.compiled.value.plans.interface.within p.words c.is_line.ensures.line c.requires.begun c.requires.control c.in-Some.ensures.exact c.ops.ensures.ops in
    has_fault p.plan (interface_of p.compiled.value.plans.interface) c.args.tape.now c.args.self.now c.args.frag.now c.ops.result.now c.in-Err.mark c.fault_of.result c.law_tells_faults.ensures.tells x c.requires.header c.requires.message c.fault_of.ensures.fault (c.in-Err.ensures.wrong [] x.bytes x.stands)
