use Rattle.std.proofs.Common.{arith}
use Rattle.fl_check.specs.Views.{before_of}
use Rattle.fl_check.proofs.FirstFaults.{err_of}
use Rattle.fl_check.proofs.Walks.{walk_on, walk_fault, walk_end}
use Rattle.fl_check.proofs.Lists.{declarations_left, declaration_here, after_declaration, declarations_walk, after_push}
use Rattle.fl_check.proofs.Looks.{err_after, declaration_looked, declaration_looked_on}
use Rattle.fl_check.proofs.checker.declare_all.Goals as goal

pub returns-in_err-declare-clause-fault : goal.returns-in_err-declare-clause-fault
returns-in_err-declare-clause-fault c =
    let i = c.loop-declaration.declaration-index in
    err_of c.from_residual.result c.in_err-declare.field-0.0 _ c.from_residual.ensures.1
    (walk_fault declarations_left declaration_here after_declaration declarations_walk _ c.in_err-declare.field-0.0 (before_of c.loop-declaration.declared) c.args.declarations.now i c.declaration-item.result _ (omega arith) c.declaration-item.is c.loop-declaration.invariant.places c.in_err-declare.ensures.fault)

pub loop-declaration-preserved : goal.loop-declaration-preserved
loop-declaration-preserved c =
    let i = c.loop-declaration.declaration-index in
    record {
      places = walk_on declarations_left declaration_here after_declaration declarations_walk _ (before_of c.loop-declaration.declared) _ c.args.declarations.now i c.declaration-item.result _ (omega arith) c.declaration-item.is c.loop-declaration.invariant.places c.in_ok-declare.ensures.sound c.in_ok-declare.ensures.after;
      after = after_push (before_of c.loop-declaration.declared) _ c.args.declarations.now i c.declaration-item.result _ _ (omega arith) c.declaration-item.is c.loop-declaration.invariant.after c.in_ok-declare.ensures.after;
      looked = declaration_looked_on (before_of c.loop-declaration.declared) _ c.args.declarations.now i c.declaration-item.result _ (omega arith) c.declaration-item.is c.loop-declaration.invariant.looked c.in_ok-declare.ensures.sound;
    }

pub returns-clause-sound : goal.returns-clause-sound
returns-clause-sound c =
    walk_end declarations_left declaration_here after_declaration declarations_walk _ (before_of c.loop-declaration.declared) c.args.declarations.now c.loop-declaration.declaration-index (omega arith) c.loop-declaration.invariant.places

pub returns-in_err-declare-clause-memory : goal.returns-in_err-declare-clause-memory
returns-in_err-declare-clause-memory c =
    let i = c.loop-declaration.declaration-index in
    err_after c.from_residual.result c.in_err-declare.field-0.0 _ c.from_residual.ensures.1
    (declaration_looked (before_of c.loop-declaration.declared) c.in_err-declare.field-0.0 c.args.declarations.now i c.declaration-item.result _ (omega arith) c.declaration-item.is c.loop-declaration.invariant.looked c.in_err-declare.ensures.memory)
