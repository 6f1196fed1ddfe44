use Rattle.std.proofs.Common.{◌∙◌, ◌+◌, ◌-◌, ◌++◌, [], List, map, ap, sym, refl, subst, arith, append_assoc, append-nil}
use Rattle.fl_interface.specs.Interface.{TheArgType, arg_type_of}
use Rattle.fl_value_data.specs.declared.value.PlanNo.TheVariants.{Two}
use Rattle.fl_value_data.specs.Value.{datum_of}
use Rattle.fl_value_data.specs.Plan.{of_ranks}
use Rattle.fl_value_data.specs.Taken.{ArgumentAt, InTurn, TheOne, NoneOf, types_of_rank}
use Rattle.fl_value_data.proofs.Ranked.{next_rank, last_rank}
use Rattle.fl_value_data.proofs.Turns.{start_at, none_first}
use Rattle.fl_value_data.proofs.untape.read_ranks.Goals as goal

pub loop-rank-init : goal.loop-rank-init
loop-rank-init c = ([], refl, start_at ArgumentAt c.args.tape.now c.in_ok-values.values.items c.in_ok-values.ensures.items)

pub loop-rank-preserved : goal.loop-rank-preserved
loop-rank-preserved c =
    let rank = c.loop-rank.rank in
    let types = map arg_type_of c.args.arguments.now in
    let (done, split, one) = c.loop-rank.invariant in
    let here = types_of_rank Two rank types in
    let found = rw c.in-Some.is at c.in_ok-more.ensures.found in (
      done ++ here,
      append_assoc done here (of_ranks (λ (t : TheArgType). t) Two (5 - (rank + 1)) (rank + 1) types)
          ∙ ap (λ (ts : List TheArgType). done ++ ts) (sym (next_rank (λ (t : TheArgType). t) Two rank types (omega (arith, c.loop-rank-test.true)))) ∙ split,
      found done c.args.tape.now one,
    )

pub returns-in_default-clause-none : goal.returns-in_default-clause-none
returns-in_default-clause-none c =
    let rank = c.loop-rank.rank in
    let types = map arg_type_of c.args.arguments.now in
    let (done, split, one) = c.loop-rank.invariant in
    let here = types_of_rank Two rank types in
    let rest = of_ranks (λ (t : TheArgType). t) Two (5 - (rank + 1)) (rank + 1) types in
    let none = (rw c.in_default.is at c.in_ok-more.ensures.none) done c.args.tape.now one in
    let all = append_assoc done here rest ∙ ap (λ (ts : List TheArgType). done ++ ts) (sym (next_rank (λ (t : TheArgType). t) Two rank types (omega (arith, c.loop-rank-test.true)))) ∙ split in
    subst (λ (ts : List TheArgType). NoneOf (InTurn ArgumentAt ts c.args.tape.now)) all (none_first ArgumentAt (done ++ here) rest c.args.tape.now none)

pub returns-clause-found : goal.returns-clause-found
returns-clause-found c =
    let rank = c.loop-rank.rank in
    let types = map arg_type_of c.args.arguments.now in
    let (done, split, one) = c.loop-rank.invariant in
    let all = sym (append-nil done) ∙ ap (λ (ts : List TheArgType). done ++ ts) (sym (last_rank (λ (t : TheArgType). t) Two rank types (omega (arith, c.loop-rank-test.false)))) ∙ split in
    subst (λ (ts : List TheArgType). TheOne (InTurn ArgumentAt ts c.args.tape.now) (map datum_of c.loop-rank.values.items) c.loop-rank.rest.now) all one
