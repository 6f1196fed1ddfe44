use Rattle.std.proofs.Common.{◌∙◌, ◌+◌, ◌-◌, ◌++◌, List, map, ap, sym, arith, append_assoc, append-nil}
use Rattle.std.proofs.lemmas.List.{map-append}
use Rattle.fl_interface.specs.Interface.{arg_type_of}
use Rattle.fl_value_data.specs.Plan.{of_rank, of_ranks, by_ranks}
use Rattle.fl_value_data.proofs.Ranked.{next_rank, last_rank}
use Rattle.fl_layout.specs.Extents.{placing, typed, numbered}
use Rattle.fl_layout.specs.declared.extent.PlacedArg.{PlacedArg}
use Rattle.fl_layout.proofs.arrange.place_by_ranks.Goals as goal

pub loop-rank-init : goal.loop-rank-init
loop-rank-init c = ap (λ (ps : List PlacedArg). ps ++ map placing (by_ranks typed c.args.plan (numbered (map arg_type_of c.args.arguments.now)))) c.in_ok-order.ensures.items

pub loop-rank-preserved : goal.loop-rank-preserved
loop-rank-preserved c =
    let rank = c.loop-rank.rank in
    let all = numbered (map arg_type_of c.args.arguments.now) in
    let here = map placing (of_rank typed c.args.plan rank all) in
    let rest = of_ranks typed c.args.plan (5 - (rank + 1)) (rank + 1) all in
    let split = ap (map placing) (next_rank typed c.args.plan rank all (omega (arith, c.loop-rank-test.true))) ∙ map-append placing (of_rank typed c.args.plan rank all) rest in
    ap (λ (ps : List PlacedArg). ps ++ map placing rest) c.in_ok-place_rank.ensures.placed
    ∙ append_assoc c.loop-rank.order.items here (map placing rest)
    ∙ ap (λ (ps : List PlacedArg). c.loop-rank.order.items ++ ps) (sym split) ∙ c.loop-rank.invariant

pub returns : goal.returns
returns c =
    let all = numbered (map arg_type_of c.args.arguments.now) in
    let none = ap (map placing) (last_rank typed c.args.plan c.loop-rank.rank all (omega (arith, c.loop-rank-test.false))) in
    record { placed = sym (append-nil c.loop-rank.order.items) ∙ ap (λ (ps : List PlacedArg). c.loop-rank.order.items ++ ps) (sym none) ∙ c.loop-rank.invariant }
