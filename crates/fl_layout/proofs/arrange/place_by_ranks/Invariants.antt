use Rattle.std.proofs.Common.{◌≡◌, ◌-◌, ◌++◌, map}
use Rattle.fl_interface.specs.Interface.{arg_type_of}
use Rattle.fl_value_data.specs.Plan.{of_ranks, by_ranks}
use Rattle.fl_layout.specs.Extents.{placing, typed, numbered}
use Rattle.fl_layout.proofs.arrange.place_by_ranks.Given as goal

-- the ranks that are left
abbrev pub invariant-loop-rank : goal.invariant-loop-rank
invariant-loop-rank l =
    let all = numbered (map arg_type_of l.arguments) in
    l.order.items ++ map placing (of_ranks typed l.plan (5 - l.rank) l.rank all) ≡ map placing (by_ranks typed l.plan all)
