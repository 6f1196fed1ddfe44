use Rattle.std.proofs.Common.{List, map, refl, arith}
use Rattle.fl_check.specs.Views.{before_of, list_of}
use Rattle.fl_check.specs.Known.{argument_type, ins, outs}
use Rattle.fl_parse.specs.declared.tree.DirectedArgument.{DirectedArgument}
use Rattle.fl_parse.specs.Tree.{directed_of}
use Rattle.fl_check.proofs.FirstFaults.{err_of}
use Rattle.fl_check.proofs.Walks.{walk_on, walk_fault, walk_end}
use Rattle.fl_check.proofs.Lists.{Stood, directed_left, directed_here, after_directed, directed_walk, stood}
use Rattle.fl_check.proofs.Halves.{ins_push, outs_push, none_left}
use Rattle.fl_check.proofs.declared.Declared.check_directed.Goals as goal

pub returns-in_err-add_directed-clause-fault : goal.returns-in_err-add_directed-clause-fault
returns-in_err-add_directed-clause-fault c =
    let b = before_of c.args.self.now in
    let i = c.loop-directed.directed-index in
    let n = c.loop-directed.invariant.same in
    let s : Stood = (list_of c.loop-directed.names, i) in
    err_of c.from_residual.result c.in_err-add_directed.field-0.0 _ c.from_residual.ensures.1
    (walk_fault (directed_left b) (directed_here b) after_directed (directed_walk b) _ c.in_err-add_directed.field-0.0 s c.args.args.now i c.directed-item.result _ (omega arith) c.directed-item.is c.loop-directed.invariant.places (rw n at c.in_err-add_directed.ensures.fault))

pub loop-directed-preserved : goal.loop-directed-preserved
loop-directed-preserved c =
    let b = before_of c.args.self.now in
    let i = c.loop-directed.directed-index in
    let n = c.loop-directed.invariant.same in
    let s : Stood = (list_of c.loop-directed.names, i) in
    record {
      places = walk_on (directed_left b) (directed_here b) after_directed (directed_walk b) _ s _ c.args.args.now i c.directed-item.result _ (omega arith) c.directed-item.is c.loop-directed.invariant.places (rw n at c.in_ok-add_directed.ensures.sound) (stood (list_of c.loop-directed.names) _ _ i c.in_ok-add_directed.ensures.names);
      ins = ins_push (argument_type b) c.args.args.now i c.directed-item.result _ _ _ _ _ (omega arith) c.directed-item.is c.loop-directed.invariant.ins c.in_ok-add_directed.ensures.ins refl;
      outs = outs_push (argument_type b) c.args.args.now i c.directed-item.result _ _ _ _ _ (omega arith) c.directed-item.is c.loop-directed.invariant.outs c.in_ok-add_directed.ensures.outs refl;
      same = omega (arith, c.in_ok-add_directed.ensures.len);
      few = omega (arith, c.in_ok-add_directed.ensures.few, c.loop-directed.invariant.same);
    }

pub returns-clause-sound : goal.returns-clause-sound
returns-clause-sound c =
    let b = before_of c.args.self.now in
    let i = c.loop-directed.directed-index in
    let s : Stood = (list_of c.loop-directed.names, i) in
    walk_end (directed_left b) (directed_here b) after_directed (directed_walk b) _ s c.args.args.now i (omega arith) c.loop-directed.invariant.places

pub loop-directed-init : goal.loop-directed-init
loop-directed-init c = record {
  places = rw c.new-names.ensures.none refl;
  ins = rw c.new-halves.ensures.ins refl;
  outs = rw c.new-halves.ensures.outs refl;
  same = c.new-halves.ensures.len;
  few = omega arith;
}

pub returns-clause-ins : goal.returns-clause-ins
returns-clause-ins c =
    let b = before_of c.args.self.now in
    none_left (λ (l : List DirectedArgument). map (argument_type b) (ins (map directed_of l))) c.args.args.now c.loop-directed.directed-index _ _ (omega arith) refl c.loop-directed.invariant.ins

pub returns-clause-outs : goal.returns-clause-outs
returns-clause-outs c =
    let b = before_of c.args.self.now in
    none_left (λ (l : List DirectedArgument). map (argument_type b) (outs (map directed_of l))) c.args.args.now c.loop-directed.directed-index _ _ (omega arith) refl c.loop-directed.invariant.outs
