use Rattle.std.proofs.Common.{rules, ◌∙◌, ◌+◌, ◌-◌, ◌++◌, List, map, ap, sym, arith, append_assoc, append-nil}
use Rattle.fl_interface.specs.Interface.{TheArgType, arg_type_of}
use Rattle.fl_value_data.specs.Plan.{of_rank, of_ranks}
use Rattle.fl_value_data.proofs.Ranked.{arranged_ranks, next_rank, last_rank}
use Rattle.fl_compile.specs.Arguments.{types_in}
use Rattle.fl_compile.proofs.order.in_order.Goals as goal

abbrev own : TheArgType → TheArgType
own t = t

pub loop-rank-init : goal.loop-rank-init
loop-rank-init c = search rules

pub loop-rank-preserved : goal.loop-rank-preserved
loop-rank-preserved c =
    let rank = c.loop-rank.rank in
    let types = map arg_type_of c.args.declared.now in
    let old = types_in c.loop-rank.order.items in
    let rest = of_ranks own c.args.plan (5 - (rank + 1)) (rank + 1) types in
    ap (λ (xs : List TheArgType). xs ++ rest) c.in_ok-push_rank.ensures.pushed
    ∙ append_assoc old (of_rank own c.args.plan rank types) rest
    ∙ ap (λ (xs : List TheArgType). old ++ xs) (sym (next_rank own c.args.plan rank types (omega (arith, c.loop-rank-test.true))))
    ∙ c.loop-rank.invariant

pub returns : goal.returns
returns c =
    let rank = c.loop-rank.rank in
    let types = map arg_type_of c.args.declared.now in
    let old = types_in c.loop-rank.order.items in
    record {
      arranged = sym (append-nil old)
          ∙ ap (λ (xs : List TheArgType). old ++ xs) (sym (last_rank own c.args.plan rank types (omega (arith, c.loop-rank-test.false))))
          ∙ c.loop-rank.invariant ∙ sym (arranged_ranks own c.args.plan types);
    }
