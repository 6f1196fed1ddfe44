-- How deep a type nests, and which types are too big.
use Rattle.std.specs.Prelude.{ℕ, ◌+◌, Bool, ◌||◌, max, nat_lt}
use Rattle.fl_interface.specs.Types.{TheType, scalar, enumeration, structure, array, TheTypes, no_more, field}
use Rattle.fl_interface.specs.Sizes.{size_of}

abbrev mutual
  -- how deep structs and fixed arrays stand in one another
  pub depth_of : TheType → ℕ
  depth_of (scalar s) = 0
  depth_of (enumeration n) = 0
  depth_of (structure ts) = deepest ts + 1
  depth_of (array n t) = depth_of t + 1

  pub deepest : TheTypes → ℕ
  deepest no_more = 0
  deepest (field t ts) = max (depth_of t) (deepest ts)

abbrev mutual
  -- the most fixed arrays on one path through a type
  pub array_depth_of : TheType → ℕ
  array_depth_of (scalar s) = 0
  array_depth_of (enumeration n) = 0
  array_depth_of (structure ts) = deepest_array ts
  array_depth_of (array n t) = array_depth_of t + 1

  pub deepest_array : TheTypes → ℕ
  deepest_array no_more = 0
  deepest_array (field t ts) = max (array_depth_of t) (deepest_array ts)

-- a type over 4,096 bytes, nested over 16 deep, or with over 7 fixed arrays in one another
abbrev pub is_too_big : TheType → Bool
is_too_big t = nat_lt 4096 (size_of t) || (nat_lt 16 (depth_of t) || nat_lt 7 (array_depth_of t))
