-- One number is no argument of a message that has none or several.
use Rattle.std.proofs.Common.{ℕ, ◌≡◌, ◌≤◌, ◌&&◌, Bool, true, false, pos, length, map, List, [], ◌∷◌, refl, arith}
use Rattle.fl_interface.specs.declared.interface.ArgType.{ArgType}
use Rattle.fl_interface.specs.Interface.{arg_type_of}
use Rattle.fl_value_data.specs.Fits.{is_argument, are_arguments}
use Rattle.fl_value_data.specs.Value.{number}
use Rattle.fl_compact_calls.specs.Held.{one_number}

pub none_take : (xs : List ArgType) (n : ℕ) → length xs ≡ 0 → false ≡ are_arguments (map arg_type_of xs) (one_number n)
none_take [] n is = refl
none_take (x ∷ xs) n is = absurd (omega (arith, is))

neither : (b : Bool) → false ≡ (b && false)
neither true = refl
neither false = refl

pub several_take : (xs : List ArgType) (n : ℕ) → 2 ≤ length xs → false ≡ are_arguments (map arg_type_of xs) (one_number n)
several_take [] n some = absurd (omega (arith, some))
several_take (x ∷ []) n some = absurd (omega (arith, some))
several_take (x ∷ y ∷ xs) n some = neither (is_argument (arg_type_of x) (number (pos n)))
