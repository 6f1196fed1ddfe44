use Rattle.std.proofs.Common.{◌∙◌, ◌+◌, ◌-◌, ◌++◌, ℕ, List, map, ap, sym, refl, arith, append_assoc, append-nil}
use Rattle.std.specs.List.{zip, flat_map}
use Rattle.fl_interface.specs.Interface.{arg_type_of}
use Rattle.fl_value_data.specs.declared.value.PlanNo.TheVariants.{Two}
use Rattle.fl_value_data.specs.Value.{datum_of}
use Rattle.fl_value_data.specs.Plan.{of_rank, of_ranks}
use Rattle.fl_value_data.specs.Tape.{kind, tape_of_argument, rank_tape}
use Rattle.fl_value_data.proofs.Ranked.{next_rank, last_rank}
use Rattle.fl_value_data.proofs.Tapes.{flat_joined}
use Rattle.fl_value_data.proofs.tape.push_ranks.Goals as goal

pub loop-rank-init : goal.loop-rank-init
loop-rank-init c = refl

pub loop-rank-preserved : goal.loop-rank-preserved
loop-rank-preserved c =
    let rank = c.loop-rank.rank in
    let args = zip (map arg_type_of c.args.arguments.now) (map datum_of c.args.values.now) in
    let rest = of_ranks kind Two (5 - (rank + 1)) (rank + 1) args in
    let split = ap (flat_map tape_of_argument) (next_rank kind Two rank args (omega (arith, c.loop-rank-test.true))) ∙ flat_joined tape_of_argument (of_rank kind Two rank args) rest in
    ap (λ (xs : List ℕ). xs ++ flat_map tape_of_argument rest) c.in_ok-push_rank.ensures.tape
    ∙ append_assoc c.loop-rank.tape.items (rank_tape Two rank args) (flat_map tape_of_argument rest)
    ∙ ap (λ (xs : List ℕ). c.loop-rank.tape.items ++ xs) (sym split) ∙ c.loop-rank.invariant

pub returns : goal.returns
returns c =
    let rank = c.loop-rank.rank in
    let args = zip (map arg_type_of c.args.arguments.now) (map datum_of c.args.values.now) in
    let none = ap (flat_map tape_of_argument) (last_rank kind Two rank args (omega (arith, c.loop-rank-test.false))) in
    record { tape = sym (append-nil c.loop-rank.tape.items) ∙ ap (λ (xs : List ℕ). c.loop-rank.tape.items ++ xs) (sym none) ∙ c.loop-rank.invariant }
