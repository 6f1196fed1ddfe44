use Rattle.std.proofs.Common.{◌≡◌, ◌+◌, ◌++◌, [], ◌∷◌, List, suc, map, take, drop, filter, eqb, eq-eqb, true, false, sym, subst, ap, ◌∙◌, append_assoc, append-nil, ℤ, rules}
use Rattle.std.proofs.lemmas.Int.{to_z-of_z}
use mir.Syntax.{w128}
use mir.Val.{SFits}
use Rattle.std.proofs.lemmas.Bool.{cond-true, cond-false, ne_eqb}
use Rattle.std.proofs.lemmas.List.{take_all}
use Rattle.fl_interface.specs.declared.interface.ArgType.{ArgType}
use Rattle.fl_interface.specs.Interface.{TheArgType, arg_type_of}
use Rattle.fl_value_data.specs.declared.value.Value.TheVariants.{Int}
use Rattle.fl_value_data.specs.declared.value.Value.TheViews.{the_lemmas}
use Rattle.fl_value_data.specs.declared.value.Value.TheFolds.{fold_out-Value}
use Rattle.fl_value_data.specs.Value.{Datum, number, datum_step, datum_of}
use Rattle.fl_value_data.specs.Plan.{rank_of}
use Rattle.fl_value_data.specs.Taken.{ArgumentAt, InTurn, TheOne, NoneOf, types_of_rank}
use Rattle.fl_value_data.proofs.Turns.{one_more, none_more, map_pushed, filter_taken, filter_around}
use Rattle.fl_value_data.proofs.untape.read_rank.Goals as goal

pub loop-argument-preserved : goal.loop-argument-preserved
loop-argument-preserved c = λ done whole start.
    let argument = c.argument-item.result in
    let type = arg_type_of argument in
    let test = λ (t : TheArgType). eqb (rank_of c.args.plan t) c.args.rank in
    let before = filter test (map arg_type_of (take c.loop-argument.argument-index c.args.arguments.now)) in
    let passes : test type ≡ true = eq-eqb (rank_of c.args.plan type) c.args.rank (sym c.rank_of.ensures.same ∙ c.if-rank_of-rank.false) in
    let found = rw c.in-Some-2.is at c.in_ok-value.ensures.found in
    let more = one_more ArgumentAt (done ++ before) type whole (map datum_of c.loop-argument.values.items) c.loop-argument.rest.now (datum_of c.in-Some-2.value) c.in-Some-2.after.now (c.loop-argument.invariant done whole start) found in
    let single : filter test (type ∷ []) ≡ type ∷ [] = cond-true (test type) (type ∷ []) [] passes in
    let types : done ++ filter test (map arg_type_of (take (c.loop-argument.argument-index + 1) c.args.arguments.now)) ≡ (done ++ before) ++ type ∷ []
    = ap (λ (ts : List TheArgType). done ++ ts) (filter_taken test arg_type_of c.args.arguments.now c.loop-argument.argument-index argument c.loop-argument-test.true c.argument-item.is ∙ ap (λ (ts : List TheArgType). before ++ ts) single)
    ∙ sym (append_assoc done before (type ∷ [])) in
    let values = map_pushed datum_of c.loop-argument.values.items c.push-in-loop-argument.new.self.items c.in-Some-2.value c.in_ok-push-2.ensures.items in
    subst (λ (ts : List TheArgType). TheOne (InTurn ArgumentAt ts whole) (map datum_of c.push-in-loop-argument.new.self.items) c.in-Some-2.after.now) (sym types)
    (subst (λ (ds : List Datum). TheOne (InTurn ArgumentAt ((done ++ before) ++ type ∷ []) whole) ds c.in-Some-2.after.now) (sym values) more)

pub loop-argument-preserved-in-Some : goal.loop-argument-preserved-in-Some
loop-argument-preserved-in-Some c = λ done whole start.
    let argument = c.argument-item.result in
    let type = arg_type_of argument in
    let test = λ (t : TheArgType). eqb (rank_of c.args.plan t) c.args.rank in
    let before = filter test (map arg_type_of (take c.loop-argument.argument-index c.args.arguments.now)) in
    let passes : test type ≡ true = eq-eqb (rank_of c.args.plan type) c.args.rank (sym c.rank_of.ensures.same ∙ c.if-rank_of-rank.false) in
    let found = rw c.in-Some.is at c.read_scalar_argument.ensures.found in
    let more = one_more ArgumentAt (done ++ before) type whole (map datum_of c.loop-argument.values.items) c.loop-argument.rest.now (number c.in-Some.number) c.in-Some.after.now (c.loop-argument.invariant done whole start) found in
    let single : filter test (type ∷ []) ≡ type ∷ [] = cond-true (test type) (type ∷ []) [] passes in
    let types : done ++ filter test (map arg_type_of (take (c.loop-argument.argument-index + 1) c.args.arguments.now)) ≡ (done ++ before) ++ type ∷ []
    = ap (λ (ts : List TheArgType). done ++ ts) (filter_taken test arg_type_of c.args.arguments.now c.loop-argument.argument-index argument c.loop-argument-test.true c.argument-item.is ∙ ap (λ (ts : List TheArgType). before ++ ts) single)
    ∙ sym (append_assoc done before (type ∷ [])) in
    let fits : SFits w128 c.in-Some.number = search rules in
    let pushed = c.in_ok-push.ensures.items ∙ ap (λ (z : ℤ). c.loop-argument.values.items ++ Int z ∷ []) (to_z-of_z w128 c.in-Some.number fits) in
    let seen : datum_of (Int c.in-Some.number) ≡ number c.in-Some.number = search (rules, the_lemmas, fold_out-Value Datum datum_step) in
    let values = map_pushed datum_of c.loop-argument.values.items c.push.new.self.items (Int c.in-Some.number) pushed
    ∙ ap (λ (d : Datum). map datum_of c.loop-argument.values.items ++ d ∷ []) seen in
    subst (λ (ts : List TheArgType). TheOne (InTurn ArgumentAt ts whole) (map datum_of c.push.new.self.items) c.in-Some.after.now) (sym types)
    (subst (λ (ds : List Datum). TheOne (InTurn ArgumentAt ((done ++ before) ++ type ∷ []) whole) ds c.in-Some.after.now) (sym values) more)

pub returns-in_default-2-clause-none : goal.returns-in_default-2-clause-none
returns-in_default-2-clause-none c = λ done whole start.
    let argument = c.argument-item.result in
    let type = arg_type_of argument in
    let test = λ (t : TheArgType). eqb (rank_of c.args.plan t) c.args.rank in
    let before = filter test (map arg_type_of (take c.loop-argument.argument-index c.args.arguments.now)) in
    let others = map arg_type_of (drop (suc c.loop-argument.argument-index) c.args.arguments.now) in
    let passes : test type ≡ true = eq-eqb (rank_of c.args.plan type) c.args.rank (sym c.rank_of.ensures.same ∙ c.if-rank_of-rank.false) in
    let none = rw c.in_default-2.is at c.in_ok-value.ensures.none in
    let nothing = none_more ArgumentAt (done ++ before) type (filter test others) whole (map datum_of c.loop-argument.values.items) c.loop-argument.rest.now (c.loop-argument.invariant done whole start) none in
    let behind : filter test (type ∷ others) ≡ type ∷ filter test others = cond-true (test type) (type ∷ filter test others) (filter test others) passes in
    let types : (done ++ before) ++ type ∷ filter test others ≡ done ++ filter test (map arg_type_of c.args.arguments.now)
    = append_assoc done before (type ∷ filter test others) ∙ ap (λ (ts : List TheArgType). done ++ (before ++ ts)) (sym behind)
    ∙ ap (λ (ts : List TheArgType). done ++ ts) (filter_around test arg_type_of c.args.arguments.now c.loop-argument.argument-index argument c.loop-argument-test.true c.argument-item.is) in
    subst (λ (ts : List TheArgType). NoneOf (InTurn ArgumentAt ts whole)) types nothing

pub loop-argument-init : goal.loop-argument-init
loop-argument-init c = λ done whole start.
    subst (λ (ts : List TheArgType). TheOne (InTurn ArgumentAt ts whole) (map datum_of c.args.before.items) c.args.tape.now) (sym (append-nil done)) start

pub loop-argument-preserved-then-rank_of-rank : goal.loop-argument-preserved-then-rank_of-rank
loop-argument-preserved-then-rank_of-rank c = λ done whole start.
    let argument = c.argument-item.result in
    let type = arg_type_of argument in
    let test = λ (t : TheArgType). eqb (rank_of c.args.plan t) c.args.rank in
    let before = filter test (map arg_type_of (take c.loop-argument.argument-index c.args.arguments.now)) in
    let fails : test type ≡ false = ne_eqb (rank_of c.args.plan type) c.args.rank (λ e. c.if-rank_of-rank.true (c.rank_of.ensures.same ∙ e)) in
    let none : filter test (type ∷ []) ≡ [] = cond-false (test type) (type ∷ []) [] fails in
    let types : filter test (map arg_type_of (take (c.loop-argument.argument-index + 1) c.args.arguments.now)) ≡ before
    = filter_taken test arg_type_of c.args.arguments.now c.loop-argument.argument-index argument c.loop-argument-test.true c.argument-item.is ∙ ap (λ (ts : List TheArgType). before ++ ts) none ∙ append-nil before in
    subst (λ (ts : List TheArgType). TheOne (InTurn ArgumentAt (done ++ ts) whole) (map datum_of c.loop-argument.values.items) c.loop-argument.rest.now) (sym types) (c.loop-argument.invariant done whole start)

pub returns-clause-found : goal.returns-clause-found
returns-clause-found c = λ done whole start.
    let all = take_all c.loop-argument.argument-index c.args.arguments.now c.loop-argument-test.false in
    subst (λ (ts : List ArgType). TheOne (InTurn ArgumentAt (done ++ types_of_rank c.args.plan c.args.rank (map arg_type_of ts)) whole) (map datum_of c.loop-argument.values.items) c.loop-argument.rest.now) all (c.loop-argument.invariant done whole start)
