-- Working definitions of the code that places numbers.
use Rattle.std.specs.Prelude.{◌≡◌, ◌≤◌, ◌+◌, ◌-◌, ◌*◌, true, List, ◌++◌, length, take}
use Rattle.std.specs.List.{list_all}
use Rattle.fl_interface.specs.Interface.{TheArgType}
use Rattle.fl_codec.specs.declared.number.NumberType.{NumberType}
use Rattle.fl_codec.specs.declared.placing.Placing.{Placing}
use Rattle.fl_codec.specs.NumberPlaces.{is_number, how_many_values, width_of, places_behind}
use Rattle.fl_codec.specs.Words.{is_inside}

-- the number that a type is
pub record IsNumberType (t : TheArgType) (n : NumberType) : Type 0 where
  pub is : is_number t ≡ true
  pub width : n.width ≡ width_of t
  pub last : n.last ≡ how_many_values t - 1

-- the places of at most seven arguments, each within a fragment
pub record IsPlacing (p : Placing) : Type 0 where
  pub few : p.count ≤ 7
  pub inside : list_all is_inside p.places ≡ true
  pub ends : p.end ≤ 8 * p.count

-- q is p with the arguments placed that are in `left` and no more in `behind`: both end in the same places, and as many
pub record Places (p : Placing) (left : List TheArgType) (q : Placing) (behind : List TheArgType) : Type 0 where
  pub places : take p.count p.places ++ places_behind p.end left ≡ take q.count q.places ++ places_behind q.end behind
  pub many : p.count + length left ≡ q.count + length behind
