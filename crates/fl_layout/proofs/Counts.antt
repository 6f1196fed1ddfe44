-- How many elements a list of values has.
use Rattle.std.proofs.Common.{◌≡◌, List, [], ◌∷◌, map, length, refl, arith}
use Rattle.fl_value_data.specs.declared.value.Value.{Value}
use Rattle.fl_value_data.specs.Value.{datum_of, data_from}
use Rattle.fl_value_data.specs.Fits.{count_of}

pub count_from : (vs : List Value) → count_of (data_from (map datum_of vs)) ≡ length vs
count_from [] = refl
count_from (v ∷ vs) = omega (arith, count_from vs)
