-- The bytes of elements that are left.
use Rattle.std.proofs.Common.{◌≡◌, ◌≤◌, ◌++◌, ℕ, List, length, map, drop, ap, sym, ◌∙◌, append-nil}
use Rattle.std.proofs.lemmas.List.{drop_all}
use Rattle.fl_interface.specs.Interface.{TheType}
use Rattle.fl_value_data.specs.declared.value.Value.{Value}
use Rattle.fl_value_data.specs.Value.{datum_of, data_from}
use Rattle.fl_value_tape.specs.Packed.{elements_packed}

pub no_elements : (t : TheType) (k : ℕ) (values : List Value) (put whole : List ℕ) → length values ≤ k → put ++ elements_packed t (data_from (map datum_of (drop k values))) ≡ whole → put ≡ whole
no_elements t k values put whole past all =
    sym (append-nil put) ∙ ap (λ (vs : List Value). put ++ elements_packed t (data_from (map datum_of vs))) (sym (drop_all k values past)) ∙ all
