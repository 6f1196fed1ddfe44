-- What stands at a byte of a payload: a leaf, and the length of a string or of a sized array.
use Rattle.std.specs.Prelude.{ℕ, ◌+◌, ◌&&◌, ◌||◌, nat_lt, nat_le, Bool, false, List, [], ◌∷◌}
use Rattle.fl_value_data.specs.Plan.{is_dynamic}
use Rattle.fl_value_data.specs.Tape.{Argument}
use Rattle.fl_layout.specs.Leaves.{Leaf, gap, argument_onto, start_onto}
use Rattle.fl_layout.specs.Places.{place}

-- so many bytes from a place on hold the byte
abbrev pub holds : ℕ → ℕ → ℕ → Bool
holds start width p = nat_le start p && nat_lt p (start + width)

-- a leaf stands there
abbrev pub is_covered : List Leaf → ℕ → Bool
is_covered [] p = false
is_covered (leaf ∷ before) p = holds (place leaf before) leaf.width p || is_covered before p

-- the length of a string or of a sized array stands there
abbrev pub is_length : Bool → List Argument → List Leaf → ℕ → Bool
is_length after_dynamic [] before p = false
is_length after_dynamic (a ∷ rest) before p =
    (is_dynamic a.0 && holds (place (gap 8) before) 8 p)
    || is_length (is_dynamic a.0) rest (argument_onto a.0 a.1 (start_onto after_dynamic before)) p
