use Rattle.std.proofs.Common.{◌≡◌, ◌++◌, ◌-◌, [], ◌∷◌, ℕ, List, map, replicate, arith, rules, sym, subst}
use Rattle.std.proofs.lemmas.Grind.{replicate_next}
use Rattle.std.proofs.lemmas.Int.{to_z-of_z}
use mir.Syntax.{w128}
use mir.Val.{SFits}
use Rattle.fl_interface.specs.Interface.{TheType, scalar}
use Rattle.fl_value_data.specs.Value.{Datum, number, datum_of}
use Rattle.fl_value_data.specs.Taken.{ValueAt, InTurn, TheOne, NoneOf}
use Rattle.fl_value_data.proofs.Turns.{start_at, one_more, none_more, replicate_around}
use Rattle.fl_value_data.proofs.Numbers.{number_pushed}
use Rattle.fl_value_data.proofs.untape.read_scalars.Goals as goal

pub loop-done-init : goal.loop-done-init
loop-done-init c = start_at ValueAt c.args.tape.now c.in_ok-values.values.items c.in_ok-values.ensures.items

pub loop-done-preserved : goal.loop-done-preserved
loop-done-preserved c =
    let element = scalar c.args.kind in
    let before = replicate c.loop-done.done element in
    let fits : SFits w128 c.in-Some.number = search rules in
    let more = one_more ValueAt before element c.args.tape.now (map datum_of c.loop-done.values.items) c.loop-done.rest.now (number c.in-Some.number) c.in-Some.after.now c.loop-done.invariant c.in-Some.ensures.found in
    let values = number_pushed c.loop-done.values.items c.push.new.self.items _ c.in-Some.number c.in_ok-push.ensures.items (to_z-of_z w128 c.in-Some.number fits) in
    subst (λ (ts : List TheType). TheOne (InTurn ValueAt ts c.args.tape.now) (map datum_of c.push.new.self.items) c.in-Some.after.now) (sym (replicate_next c.loop-done.done element))
    (subst (λ (ds : List Datum). TheOne (InTurn ValueAt (before ++ element ∷ []) c.args.tape.now) ds c.in-Some.after.now) (sym values) more)

pub returns-in_default-clause-none : goal.returns-in_default-clause-none
returns-in_default-clause-none c =
    let element = scalar c.args.kind in
    let left = c.args.count - c.loop-done.done - 1 in
    let nothing = none_more ValueAt (replicate c.loop-done.done element) element (replicate left element) c.args.tape.now (map datum_of c.loop-done.values.items) c.loop-done.rest.now c.loop-done.invariant c.in_default.ensures.none in
    subst (λ (ts : List TheType). NoneOf (InTurn ValueAt ts c.args.tape.now)) (replicate_around element c.loop-done.done left c.args.count (omega arith)) nothing

pub returns-clause-found : goal.returns-clause-found
returns-clause-found c =
    let all : c.loop-done.done ≡ c.args.count = omega arith in
    subst (λ (n : ℕ). TheOne (InTurn ValueAt (replicate n (scalar c.args.kind)) c.args.tape.now) (map datum_of c.loop-done.values.items) c.loop-done.rest.now) all c.loop-done.invariant
