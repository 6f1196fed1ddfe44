-- Where no argument varies, each call's payload is as long as an empty one.
use Rattle.std.proofs.Common.{◌≡◌, ℕ, true, List, [], ◌∷◌, map, refl, sym, ap, ◌∙◌}
use Rattle.std.proofs.lemmas.Bool.{and_parts, false≢true}
use Rattle.fl_value_data.specs.Value.{Datum}
use Rattle.fl_layout.specs.declared.extent.Extent.{Extent}
use Rattle.fl_layout.specs.declared.extent.Extent.TheVariants.{Fixed, Text, Sized}
use Rattle.fl_layout.specs.declared.extent.PlacedArg.{PlacedArg}
use Rattle.fl_layout.specs.declared.extent.Fill.TheVariants.{Empty}
use Rattle.fl_layout.specs.Extents.{Filled, count_at, is_varying, end_of_all, filled_by, filled_up, are_fixed, IsFixedLength}
use Rattle.std.specs.Prelude.{not, get_or, pos}
use Rattle.fl_value_data.specs.Value.{number}

counts_none : (e : Extent) (d : Datum) → not (is_varying e) ≡ true → count_at e d ≡ 0
counts_none (Fixed size align numbers) d h = refl
counts_none (Text most) d h = absurd (false≢true h)
counts_none (Sized most stride numbers) d h = absurd (false≢true h)

filled_alike : (ds : List Datum) (ps : List PlacedArg) → are_fixed ps ≡ true → map (filled_by ds) ps ≡ map (filled_up Empty) ps
filled_alike ds [] h = refl
filled_alike ds (p ∷ ps) h =
    let parts = and_parts (not (is_varying p.extent)) (are_fixed ps) h in
    let first : filled_by ds p ≡ filled_up Empty p = ap (λ (n : ℕ). (p.extent, n)) (counts_none p.extent (get_or ds p.argument (number (pos 0))) parts.0) in
    ap (λ (f : Filled). f ∷ map (filled_by ds) ps) first ∙ ap (λ (fs : List Filled). filled_up Empty p ∷ fs) (filled_alike ds ps parts.1)

pub fixed_length_is : (ds : List Datum) (ps : List PlacedArg) (n : ℕ) → IsFixedLength ps n → n ≡ end_of_all 0 1 (map (filled_by ds) ps)
fixed_length_is ds ps n fixed = fixed.1 ∙ ap (end_of_all 0 1) (sym (filled_alike ds ps fixed.0))
