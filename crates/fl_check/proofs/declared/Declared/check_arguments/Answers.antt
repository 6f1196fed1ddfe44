use Rattle.std.proofs.Common.{refl, arith}
use Rattle.fl_check.specs.Views.{before_of, list_of}
use Rattle.fl_check.specs.Known.{argument_type}
use Rattle.fl_parse.specs.Tree.{argument_of}
use Rattle.fl_check.proofs.FirstFaults.{err_of}
use Rattle.fl_check.proofs.Walks.{made_push, made_all, walk_on, walk_fault, walk_end}
use Rattle.fl_check.proofs.Lists.{Stood, arguments_left, argument_here, after_argument, arguments_walk, stood}
use Rattle.fl_check.proofs.declared.Declared.check_arguments.Goals as goal

pub returns-in_err-add_argument-clause-fault : goal.returns-in_err-add_argument-clause-fault
returns-in_err-add_argument-clause-fault c =
    let b = before_of c.args.self.now in
    let i = c.loop-argument.argument-index in
    let n = c.loop-argument.invariant.same in
    let s : Stood = (list_of c.loop-argument.names, i) in
    err_of c.from_residual.result c.in_err-add_argument.field-0.0 _ c.from_residual.ensures.1
    (walk_fault (arguments_left b) (argument_here b) after_argument (arguments_walk b) _ c.in_err-add_argument.field-0.0 s c.args.args.now i c.argument-item.result _ (omega arith) c.argument-item.is c.loop-argument.invariant.places (rw n at c.in_err-add_argument.ensures.fault))

pub loop-argument-preserved : goal.loop-argument-preserved
loop-argument-preserved c =
    let b = before_of c.args.self.now in
    let i = c.loop-argument.argument-index in
    let n = c.loop-argument.invariant.same in
    let s : Stood = (list_of c.loop-argument.names, i) in
    record {
      places = walk_on (arguments_left b) (argument_here b) after_argument (arguments_walk b) _ s _ c.args.args.now i c.argument-item.result _ (omega arith) c.argument-item.is c.loop-argument.invariant.places (rw n at c.in_ok-add_argument.ensures.sound) (stood (list_of c.loop-argument.names) _ _ i c.in_ok-add_argument.ensures.names);
      types = made_push argument_of (argument_type b) c.args.args.now i c.argument-item.result _ _ _ _ (omega arith) c.argument-item.is c.loop-argument.invariant.types c.in_ok-add_argument.ensures.more refl;
      same = omega (arith, c.in_ok-add_argument.ensures.len);
      few = omega (arith, c.in_ok-add_argument.ensures.few, c.loop-argument.invariant.same);
    }

pub returns-clause-sound : goal.returns-clause-sound
returns-clause-sound c =
    let b = before_of c.args.self.now in
    let i = c.loop-argument.argument-index in
    let s : Stood = (list_of c.loop-argument.names, i) in
    walk_end (arguments_left b) (argument_here b) after_argument (arguments_walk b) _ s c.args.args.now i (omega arith) c.loop-argument.invariant.places

pub loop-argument-init : goal.loop-argument-init
loop-argument-init c = record {
  places = rw c.new-names.ensures.none refl;
  types = c.new-payload.ensures.none;
  same = c.new-payload.ensures.len;
  few = omega arith;
}

pub returns-clause-stands : goal.returns-clause-stands
returns-clause-stands c =
    made_all argument_of (argument_type (before_of c.args.self.now)) c.args.args.now c.loop-argument.argument-index _ (omega arith) c.loop-argument.invariant.types
