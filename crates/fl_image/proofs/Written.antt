-- What a loop has written when it ends.
use Rattle.std.proofs.Common.{◌≡◌, ℕ, ◌≤◌, List, ◌++◌, length, map, drop, sym, ap, ◌∙◌}
use Rattle.std.proofs.lemmas.List.{append-nil, drop_all}
use Rattle.fl_interface.specs.Interface.{TheType, structure, fields_from}
use Rattle.fl_interface.specs.Limits.{count_of}
use Rattle.fl_image.specs.Image.{one, type_image, fields_image}
use Rattle.fl_image.proofs.Places.{count_view}

pub structure_written : {X : Type 0} (view : X → TheType) (fields : List X) (i : ℕ) (out old : List ℕ) → length fields ≤ i
    → out ++ fields_image (fields_from (map view (drop i fields))) ≡ old ++ (one 17 ++ (one (length fields) ++ fields_image (fields_from (map view fields))))
    → out ≡ old ++ type_image (structure (fields_from (map view fields)))
structure_written {X = X} view fields i out old le so_far =
    let none : out ++ fields_image (fields_from (map view (drop i fields))) ≡ out =
    ap (λ (xs : List X). out ++ fields_image (fields_from (map view xs))) (drop_all i fields le) ∙ append-nil out in
    let count : length fields ≡ count_of (fields_from (map view fields)) = sym (count_view view fields) in
    sym none ∙ so_far ∙ ap (λ (n : ℕ). old ++ (one 17 ++ (one n ++ fields_image (fields_from (map view fields))))) count
