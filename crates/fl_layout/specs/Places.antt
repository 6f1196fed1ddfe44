-- Where the leaves of a call stand, and how long its payload is: sums over what stands before.
use Rattle.std.specs.Prelude.{ℕ, ◌+◌, ◌/◌, max, List, [], ◌∷◌}
use Rattle.fl_interface.specs.Interface.{TheInterface}
use Rattle.fl_interface.specs.Sizes.{round_up}
use Rattle.fl_value_data.specs.Value.{TheCall}
use Rattle.fl_value_data.specs.declared.value.PlanNo.{PlanNo}
use Rattle.fl_layout.specs.Leaves.{Leaf, leaves}

-- how many bytes some leaves take, each at the next multiple of its alignment
abbrev pub size : List Leaf → ℕ
size [] = 0
size (leaf ∷ before) = round_up (size before) leaf.align + leaf.width

-- where a leaf stands, after those before it
abbrev pub place : Leaf → List Leaf → ℕ
place leaf before = round_up (size before) leaf.align

-- how many fragments so many bytes fill, the last perhaps in part
abbrev pub frags_filled : ℕ → ℕ
frags_filled bytes = (bytes + 55) / 56

-- how many fragments so many payload bytes take; a call has at least one
abbrev pub count_for : ℕ → ℕ
count_for bytes = max 1 (frags_filled bytes)

-- how many fragments a call takes
abbrev pub count : PlanNo → TheInterface → TheCall → ℕ
count plan i c = count_for (size (leaves plan i c))
