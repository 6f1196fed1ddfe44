use Rattle.std.proofs.Common.{[], arith}
use Rattle.fl_interface.specs.Interface.{interface_of}
use Rattle.fl_machine.proofs.Looking.{kept_taking, kept_stands, kept_few}
use Rattle.fl_machine.proofs.Texts.{kept_text}
use Rattle.fl_machine.proofs.recv.PartialCall.pass.Goals as goal

pub pass_text-requires : goal.pass_text-requires
pass_text-requires c =
    let p = c.args.program.now in
    let (parts, k) = c.requires.kept in
    let x = kept_taking p.plan (interface_of p.compiled.value.plans.interface) parts c.args.self.now c.args.frag.now c.in-Some.code.now c.ops.result.now p.compiled.value.plans.interface.within p.words
    c.is_line.ensures.line k c.requires.control c.in-Some.ensures.exact c.ops.ensures.ops in
    (_, x.bytes, kept_stands p.plan (interface_of p.compiled.value.plans.interface) parts c.args.self.now c.args.frag.now c.ops.result.now [] k x)

pub overflow_add-self : goal.overflow_add-self
overflow_add-self c =
    let p = c.args.program.now in
    let (parts, k) = c.requires.kept in
    let x = kept_taking p.plan (interface_of p.compiled.value.plans.interface) parts c.args.self.now c.args.frag.now c.in-Some.code.now c.ops.result.now p.compiled.value.plans.interface.within p.words
    c.is_line.ensures.line k c.requires.control c.in-Some.ensures.exact c.ops.ensures.ops in
    omega (arith, kept_few p.plan (interface_of p.compiled.value.plans.interface) parts c.args.self.now c.args.frag.now c.ops.result.now k x)

pub returns-clause-passes : goal.returns-clause-passes
returns-clause-passes c so parts k =
    let p = c.args.program.now in
    let i = interface_of p.compiled.value.plans.interface in
    let x = kept_taking p.plan i parts c.args.self.now c.args.frag.now c.in-Some.code.now c.ops.result.now p.compiled.value.plans.interface.within p.words
    c.is_line.ensures.line k c.requires.control c.in-Some.ensures.exact c.ops.ensures.ops in
    kept_text p.plan i parts c.args.self.now c.args.frag.now c.ops.result.now c.pass_text.new.self k x (c.pass_text.ensures.passes c.if-not-pass_text.false) c.pass_text.ensures.count
