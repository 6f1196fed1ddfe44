use Rattle.std.proofs.Common.{inr, arith}
use Rattle.fl_interface.specs.Interface.{interface_of}
use Rattle.fl_machine.proofs.Looking.{kept_taking, kept_stands, kept_on, kept_end, kept_fault, kept_few}
use Rattle.fl_machine.proofs.recv.PartialCall.look.Goals as goal

pub take_words-requires-clause-stands : goal.take_words-requires-clause-stands
take_words-requires-clause-stands c =
    let p = c.args.program.now in
    let (parts, k) = c.requires.kept in
    let x = kept_taking p.plan (interface_of p.compiled.value.plans.interface) parts c.args.self.now c.args.frag.now c.in-Some.code.now c.ops.result.now p.compiled.value.plans.interface.within p.words
    c.is_line.ensures.line k c.requires.control c.in-Some.ensures.exact c.ops.ensures.ops in
    (k.taken, x.bytes, kept_stands p.plan (interface_of p.compiled.value.plans.interface) parts c.args.self.now c.args.frag.now c.ops.result.now _ k x)

pub take_words-requires-clause-count : goal.take_words-requires-clause-count
take_words-requires-clause-count c = let (parts, k) = c.requires.kept in omega (arith, k.none, c.told-numbers)

pub take_words-requires-clause-room : goal.take_words-requires-clause-room
take_words-requires-clause-room c = let (parts, k) = c.requires.kept in inr (omega (arith, k.none, c.told-numbers))

pub overflow_add-self : goal.overflow_add-self
overflow_add-self c =
    let p = c.args.program.now in
    let (parts, k) = c.requires.kept in
    let x = kept_taking p.plan (interface_of p.compiled.value.plans.interface) parts c.args.self.now c.args.frag.now c.in-Some.code.now c.ops.result.now p.compiled.value.plans.interface.within p.words
    c.is_line.ensures.line k c.requires.control c.in-Some.ensures.exact c.ops.ensures.ops in
    omega (arith, kept_few p.plan (interface_of p.compiled.value.plans.interface) parts c.args.self.now c.args.frag.now c.ops.result.now k x)

pub returns-in-Ok-Part-clause-part : goal.returns-in-Ok-Part-clause-part
returns-in-Ok-Part-clause-part c so parts k =
    let p = c.args.program.now in
    let i = interface_of p.compiled.value.plans.interface in
    let x = kept_taking p.plan i parts c.args.self.now c.args.frag.now c.in-Some.code.now c.ops.result.now p.compiled.value.plans.interface.within p.words
    c.is_line.ensures.line k c.requires.control c.in-Some.ensures.exact c.ops.ensures.ops in
    let now = c.in-Ok-Part.ensures.part c.in-Ok-Part.field-0-is k.taken x.bytes (kept_stands p.plan i parts c.args.self.now c.args.frag.now c.ops.result.now _ k x) in
    kept_on p.plan i parts c.args.self.now c.args.frag.now c.ops.result.now c.take_words.new.tape c.take_words.new.self k x now.0 now.1

pub returns-in-Ok-Whole-clause-whole : goal.returns-in-Ok-Whole-clause-whole
returns-in-Ok-Whole-clause-whole c so parts k =
    let p = c.args.program.now in
    let i = interface_of p.compiled.value.plans.interface in
    let x = kept_taking p.plan i parts c.args.self.now c.args.frag.now c.in-Some.code.now c.ops.result.now p.compiled.value.plans.interface.within p.words
    c.is_line.ensures.line k c.requires.control c.in-Some.ensures.exact c.ops.ensures.ops in
    kept_end p.plan i parts c.args.self.now c.args.frag.now c.ops.result.now c.take_words.new.tape c.take_words.new.self.count k x
    (c.in-Ok-Whole.ensures.whole c.in-Ok-Whole.field-0-is k.taken x.bytes (kept_stands p.plan i parts c.args.self.now c.args.frag.now c.ops.result.now _ k x))

pub returns-in-Err-clause-wrong : goal.returns-in-Err-clause-wrong
returns-in-Err-clause-wrong c parts k =
    let p = c.args.program.now in
    let i = interface_of p.compiled.value.plans.interface in
    let x = kept_taking p.plan i parts c.args.self.now c.args.frag.now c.in-Some.code.now c.ops.result.now p.compiled.value.plans.interface.within p.words
    c.is_line.ensures.line k c.requires.control c.in-Some.ensures.exact c.ops.ensures.ops in
    kept_fault p.plan i parts c.args.self.now c.args.frag.now c.ops.result.now c.in-Err.mark c.fault_of.result c.law_tells_faults.ensures.tells k x (c.requires.header parts k) c.requires.message c.fault_of.ensures.fault
    (c.in-Err.ensures.wrong k.taken x.bytes (kept_stands p.plan i parts c.args.self.now c.args.frag.now c.ops.result.now _ k x))
