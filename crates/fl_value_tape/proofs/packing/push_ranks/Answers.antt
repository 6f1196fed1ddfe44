use Rattle.std.proofs.Common.{◌∙◌, ◌+◌, ◌-◌, ◌++◌, ℕ, List, map, ap, sym, refl, arith, append_assoc, append-nil}
use Rattle.std.specs.List.{zip, flat_map}
use Rattle.fl_interface.specs.Interface.{arg_type_of}
use Rattle.fl_value_data.specs.declared.value.PlanNo.TheVariants.{Two}
use Rattle.fl_value_data.specs.Value.{datum_of}
use Rattle.fl_value_data.specs.Plan.{of_rank, of_ranks}
use Rattle.fl_value_data.specs.Tape.{kind}
use Rattle.fl_value_tape.specs.Packed.{packed_argument, rank_packed}
use Rattle.fl_value_data.proofs.Ranked.{next_rank, last_rank}
use Rattle.fl_value_data.proofs.Tapes.{flat_joined}
use Rattle.fl_value_tape.proofs.packing.push_ranks.Goals as goal

pub loop-rank-init : goal.loop-rank-init
loop-rank-init c = refl

pub loop-rank-preserved : goal.loop-rank-preserved
loop-rank-preserved c =
    let rank = c.loop-rank.rank in
    let args = zip (map arg_type_of c.args.arguments.now) (map datum_of c.args.values.now) in
    let rest = of_ranks kind Two (5 - (rank + 1)) (rank + 1) args in
    let split = ap (flat_map packed_argument) (next_rank kind Two rank args (omega (arith, c.loop-rank-test.true))) ∙ flat_joined packed_argument (of_rank kind Two rank args) rest in
    ap (λ (xs : List ℕ). xs ++ flat_map packed_argument rest) c.in_ok-push_rank.ensures.packed
    ∙ append_assoc c.loop-rank.out.items (rank_packed Two rank args) (flat_map packed_argument rest)
    ∙ ap (λ (xs : List ℕ). c.loop-rank.out.items ++ xs) (sym split) ∙ c.loop-rank.invariant

pub returns : goal.returns
returns c =
    let rank = c.loop-rank.rank in
    let args = zip (map arg_type_of c.args.arguments.now) (map datum_of c.args.values.now) in
    let none = ap (flat_map packed_argument) (last_rank kind Two rank args (omega (arith, c.loop-rank-test.false))) in
    record { packed = sym (append-nil c.loop-rank.out.items) ∙ ap (λ (xs : List ℕ). c.loop-rank.out.items ++ xs) (sym none) ∙ c.loop-rank.invariant }
