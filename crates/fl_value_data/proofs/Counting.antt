-- How many values and fields there are.
use Rattle.std.proofs.Common.{◌≡◌, ◌≤◌, ℕ, zero, suc, List, [], ◌∷◌, map, length, drop, arith, eqb, ltb, ◌<◌, get_or, refl, ◌∙◌, true}
use Rattle.std.proofs.lemmas.Bool.{ne_eqb, lt-ltb}
use Rattle.std.proofs.Math.Bool.{and-true}
use Rattle.std.proofs.Math.Dec.{eqb-suc-suc}
use Rattle.std.specs.List.{list_all}
use Rattle.fl_interface.specs.Interface.{TheType, TheArgType, fields_from}
use Rattle.fl_value_data.specs.Value.{nothing_more, data_from, datum_of}
use Rattle.fl_value_data.specs.declared.value.Value.{Value}
use Rattle.fl_value_data.specs.Fits.{count_of, is_text_byte, have_types, are_arguments}

pub count_from : (vs : List Value) → count_of (data_from (map datum_of vs)) ≡ length vs
count_from [] = refl
count_from (v ∷ vs) = omega (arith, count_from vs)

pub end_of_fields : {F : Type 0} (type : F → TheType) (fs : List F) (n : ℕ) → n ≤ length fs → eqb n (length fs) ≡ have_types (fields_from (map type (drop n fs))) nothing_more
end_of_fields type [] zero h = refl
end_of_fields type [] (suc n) h = absurd (omega arith)
end_of_fields type (f ∷ fs) zero h = ne_eqb 0 (suc (length fs)) (λ e. absurd (omega (arith, e)))
end_of_fields type (f ∷ fs) (suc n) h = eqb-suc-suc n (length fs) ∙ end_of_fields type fs n (omega arith)

pub end_of_arguments : {F : Type 0} (type : F → TheArgType) (fs : List F) (n : ℕ) → n ≤ length fs → eqb n (length fs) ≡ are_arguments (map type (drop n fs)) []
end_of_arguments type [] zero h = refl
end_of_arguments type [] (suc n) h = absurd (omega arith)
end_of_arguments type (f ∷ fs) zero h = ne_eqb 0 (suc (length fs)) (λ e. absurd (omega (arith, e)))
end_of_arguments type (f ∷ fs) (suc n) h = eqb-suc-suc n (length fs) ∙ end_of_arguments type fs n (omega arith)

pub text_bytes : (xs : List ℕ) → ((k : ℕ) → get_or xs k 0 < 256) → list_all is_text_byte xs ≡ list_all (λ b. ltb 0 b) xs
text_bytes [] h = refl
text_bytes (x ∷ xs) h =
    let small : ltb x 256 ≡ true = lt-ltb x 256 (h 0) in
    let rest : list_all is_text_byte xs ≡ list_all (λ b. ltb 0 b) xs = text_bytes xs (λ k. h (suc k)) in
    let prefix = and-true (ltb 0 x) in
    cc
