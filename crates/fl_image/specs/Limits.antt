-- For the code alone: measures of types and payloads that may be of any size; past 65,536 it is only known that they are.
use Rattle.std.specs.Prelude.{◌≡◌, ℕ, ◌≤◌, ◌⊎◌, max, List}
use Rattle.fl_interface.specs.Interface.{TheType, TheTypes, TheArgType}
use Rattle.fl_interface.specs.Sizes.{size_of, align_of, greatest_align, end_after, IsAlign}
use Rattle.fl_interface.specs.Depth.{depth_of, deepest, array_depth_of, deepest_array}
use Rattle.fl_interface.specs.Payload.{greatest_end}
use Rattle.fl_image.specs.declared.limits.TypeMeasures.{TypeMeasures}
use Rattle.fl_image.specs.declared.limits.ArgsEnd.{ArgsEnd}

-- the same number, or both past every limit
abbrev pub Near : ℕ → ℕ → Type 0
Near n m = (n ≡ m) ⊎ ((65536 ≤ n) × (65536 ≤ m))

-- the measures of a type
pub record Measures (m : TypeMeasures) (t : TheType) : Type 0 where
  pub size : Near m.size (size_of t)
  pub align : m.align ≡ align_of t
  pub depth : Near m.depth (depth_of t)
  pub arrays : Near m.arrays (array_depth_of t)
  pub small : m.size ≤ 65536
  pub shallow : m.depth ≤ 65536
  pub few : m.arrays ≤ 65536
  pub aligned : IsAlign m.align

-- what is known of a struct of all these fields where those fields are still to come: the size is where the fields so
-- far end, the others are the greatest so far
pub record SoFar (m : TypeMeasures) (left all : TheTypes) : Type 0 where
  pub size : Near (end_after m.size left) (end_after 0 all)
  pub align : max (greatest_align left) m.align ≡ greatest_align all
  pub depth : Near (max (deepest left) m.depth) (deepest all)
  pub arrays : Near (max (deepest_array left) m.arrays) (deepest_array all)
  pub small : m.size ≤ 65536
  pub shallow : m.depth ≤ 65536
  pub few : m.arrays ≤ 65536
  pub aligned : IsAlign m.align

-- what is known of a payload's greatest length where those arguments are still to come
pub record Reaches (e : ArgsEnd) (left : List TheArgType) (total : ℕ) : Type 0 where
  pub near : Near (greatest_end e.end e.due left) total
  pub small : e.end ≤ 65536
  pub aligned : IsAlign e.due
