-- Numbers as values of a list, and on a tape.
use Rattle.std.proofs.Common.{◌≡◌, ◌≤◌, ◌++◌, [], ◌∷◌, ℕ, ℤ, List, length, map, drop, ap, sym, ◌∙◌, append_assoc, append-nil, rules}
use Rattle.std.proofs.lemmas.List.{map-append, drop_all}
use Rattle.fl_interface.specs.Interface.{TheType}
use Rattle.fl_value_data.specs.declared.value.Value.{Value}
use Rattle.fl_value_data.specs.declared.value.Value.TheVariants.{Int}
use Rattle.fl_value_data.specs.declared.value.Value.TheViews.{the_lemmas}
use Rattle.fl_value_data.specs.declared.value.Value.TheFolds.{fold_out-Value}
use Rattle.fl_value_data.specs.Value.{Datum, number, datum_step, datum_of, data_from}
use Rattle.fl_value_data.specs.Tape.{elements_tape}

pub number_seen : (z : ℤ) → datum_of (Int z) ≡ number z
number_seen z = search (rules, the_lemmas, fold_out-Value Datum datum_step)

pub number_back : (w z : ℤ) → w ≡ z → number z ≡ datum_of (Int w)
number_back w z e = sym (number_seen w ∙ ap number e)

-- one more behind those that stand
pub number_pushed : (xs ys : List Value) (w z : ℤ) → ys ≡ xs ++ Int w ∷ [] → w ≡ z → map datum_of ys ≡ map datum_of xs ++ number z ∷ []
number_pushed xs ys w z e f =
    ap (map datum_of) e ∙ map-append datum_of xs (Int w ∷ []) ∙ ap (λ (d : Datum). map datum_of xs ++ d ∷ []) (number_seen w ∙ ap number f)

-- ---- on a tape

-- what is put behind the numbers stands before the rest
pub one_more : (tape pushed one rest whole : List ℕ) → pushed ≡ tape ++ one → tape ++ (one ++ rest) ≡ whole → pushed ++ rest ≡ whole
one_more tape pushed one rest whole is all = ap (λ (xs : List ℕ). xs ++ rest) is ∙ append_assoc tape one rest ∙ all

pub no_elements : (t : TheType) (k : ℕ) (values : List Value) (tape whole : List ℕ) → length values ≤ k → tape ++ elements_tape t (data_from (map datum_of (drop k values))) ≡ whole → tape ≡ whole
no_elements t k values tape whole past all =
    sym (append-nil tape) ∙ ap (λ (vs : List Value). tape ++ elements_tape t (data_from (map datum_of vs))) (sym (drop_all k values past)) ∙ all
