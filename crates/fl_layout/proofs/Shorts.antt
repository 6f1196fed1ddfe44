-- A fitting call's values have no more bytes or elements than 4,096.
use Rattle.std.proofs.Common.{◌≡◌, true, Bool, List, [], ◌∷◌, map, length, refl, subst, arith}
use Rattle.std.specs.Prelude.{nat_le}
use Rattle.std.specs.List.{list_all}
use Rattle.std.proofs.lemmas.Bool.{and_parts, and_from, leb-true, le-leb, false≢true}
use Rattle.fl_interface.specs.Interface.{TheArgType, fixed, text, sized, TheMessage}
use Rattle.fl_interface.specs.Limits.{is_argument_within, are_arguments_within}
use Rattle.fl_value_data.specs.declared.value.PlanNo.{PlanNo}
use Rattle.fl_value_data.specs.Value.{Datum, number, string, elements, fields}
use Rattle.fl_value_data.specs.Fits.{is_argument, are_arguments}
use Rattle.fl_value_data.specs.Tape.{Argument}
use Rattle.fl_layout.specs.declared.extent.PlacedArg.{PlacedArg}
use Rattle.fl_layout.specs.Extents.{Filled, placed_of, filled_by, is_short}
use Rattle.fl_layout.proofs.Ends.{filled, is_good}
use Rattle.fl_layout.proofs.Lengths.{laid, laid_good, length_by}

abbrev few : Filled → Bool
few f = nat_le f.1 4096

argument_few : (t : TheArgType) (d : Datum) → is_argument_within t ≡ true → is_argument t d ≡ true → few (filled (t, d)) ≡ true
argument_few (fixed t) d w h = refl
argument_few (text most) (string bytes) w h =
    le-leb (length bytes) 4096 (omega (arith, leb-true most 4096 (and_parts _ _ w).1, leb-true (length bytes) most (and_parts _ _ h).0))
argument_few (sized most t) (elements ds) w h =
    le-leb _ 4096 (omega (arith, leb-true most 4096 (and_parts _ _ (and_parts _ _ w).1).0, leb-true _ most (and_parts _ _ h).0))
argument_few (text most) (number z) w h = absurd (false≢true h)
argument_few (text most) (elements ds) w h = absurd (false≢true h)
argument_few (text most) (fields ds) w h = absurd (false≢true h)
argument_few (sized most t) (number z) w h = absurd (false≢true h)
argument_few (sized most t) (string b) w h = absurd (false≢true h)
argument_few (sized most t) (fields ds) w h = absurd (false≢true h)

all_few : (ys : List Argument) → list_all is_good ys ≡ true → list_all few (map filled ys) ≡ true
all_few [] h = refl
all_few (y ∷ ys) h =
    let good = and_parts (is_good y) (list_all is_good ys) h in
    let this = and_parts (is_argument_within y.0) (is_argument y.0 y.1) good.0 in
    and_from (few (filled y)) (list_all few (map filled ys)) (argument_few y.0 y.1 this.0 this.1) (all_few ys good.1)

of_map : (ds : List Datum) (ps : List PlacedArg) → list_all few (map (filled_by ds) ps) ≡ true → list_all (is_short ds) ps ≡ true
of_map ds [] h = refl
of_map ds (p ∷ ps) h =
    let parts = and_parts (few (filled_by ds p)) (list_all few (map (filled_by ds) ps)) h in
    and_from (is_short ds p) (list_all (is_short ds) ps) parts.0 (of_map ds ps parts.1)

pub placed_short : (plan : PlanNo) (m : TheMessage) (ds : List Datum) → are_arguments_within m.args ≡ true → are_arguments m.args ds ≡ true
    → list_all (is_short ds) (placed_of plan m) ≡ true
placed_short plan m ds w h =
    of_map ds (placed_of plan m)
    (subst (λ (fs : List Filled). list_all few fs ≡ true) (length_by plan m ds h) (all_few (laid plan m ds) (laid_good plan m ds w h)))
