-- How many numbers a call's tape has.
use Rattle.std.proofs.Common.{◌≡◌, ◌*◌, ◌≤◌, true, List, [], ◌∷◌, map, length, refl, ◌∙◌, ap, arith}
use Rattle.std.proofs.lemmas.Bool.{and_parts, leb-true, eqb-true, false≢true}
use Rattle.std.proofs.lemmas.List.{length-append}
use Rattle.std.specs.List.{list_all, flat_map}
use Rattle.fl_interface.specs.Interface.{TheType, scalar, enumeration, structure, array, TheTypes, no_more, field, TheArgType, fixed, text, sized}
use Rattle.fl_interface.specs.Limits.{is_argument_within}
use Rattle.fl_value_data.specs.Value.{Datum, number, string, elements, fields, Data, nothing_more, also}
use Rattle.fl_value_data.specs.Fits.{has_type, have_types, all_have_type, is_argument, count_of}
use Rattle.fl_value_data.specs.Tape.{value_tape, fields_tape, elements_tape, argument_tape, tape_of_argument, Argument}
use Rattle.fl_layout.specs.Extents.{most_of, count_at, numbers_of, numbers_of_all, extent_of, numbers_in, numbers_in_all}
use Rattle.fl_layout.proofs.Ends.{filled, is_good}
use Rattle.fl_layout.proofs.Bounds.{with_count, times_rises}

mutual
  pub value_numbers : (t : TheType) (d : Datum) → has_type t d ≡ true → length (value_tape t d) ≡ numbers_of t
  value_numbers (scalar s) (number z) h = refl
  value_numbers (enumeration n) (number z) h = refl
  value_numbers (structure ts) (fields ds) h = fields_numbers ts ds h
  value_numbers (array n t) (elements ds) h =
      let has = and_parts _ _ h in
      elements_numbers t ds has.1 ∙ ap (λ k. k * numbers_of t) (eqb-true _ _ has.0)
  value_numbers (scalar s) (string b) h = absurd (false≢true h)
  value_numbers (scalar s) (elements ds) h = absurd (false≢true h)
  value_numbers (scalar s) (fields ds) h = absurd (false≢true h)
  value_numbers (enumeration n) (string b) h = absurd (false≢true h)
  value_numbers (enumeration n) (elements ds) h = absurd (false≢true h)
  value_numbers (enumeration n) (fields ds) h = absurd (false≢true h)
  value_numbers (structure ts) (number z) h = absurd (false≢true h)
  value_numbers (structure ts) (string b) h = absurd (false≢true h)
  value_numbers (structure ts) (elements ds) h = absurd (false≢true h)
  value_numbers (array n t) (number z) h = absurd (false≢true h)
  value_numbers (array n t) (string b) h = absurd (false≢true h)
  value_numbers (array n t) (fields ds) h = absurd (false≢true h)

  pub fields_numbers : (ts : TheTypes) (ds : Data) → have_types ts ds ≡ true → length (fields_tape ts ds) ≡ numbers_of_all ts
  fields_numbers no_more nothing_more h = refl
  fields_numbers (field t ts) (also d ds) h =
      let has = and_parts (has_type t d) (have_types ts ds) h in
      omega (arith, length-append (value_tape t d) (fields_tape ts ds), value_numbers t d has.0, fields_numbers ts ds has.1)
  fields_numbers no_more (also d ds) h = absurd (false≢true h)
  fields_numbers (field t ts) nothing_more h = absurd (false≢true h)

  pub elements_numbers : (t : TheType) (ds : Data) → all_have_type t ds ≡ true → length (elements_tape t ds) ≡ count_of ds * numbers_of t
  elements_numbers t nothing_more h = omega arith
  elements_numbers t (also d ds) h =
      let has = and_parts (has_type t d) (all_have_type t ds) h in
      omega (arith, length-append (value_tape t d) (elements_tape t ds), value_numbers t d has.0, elements_numbers t ds has.1)

pub argument_numbers : (t : TheArgType) (d : Datum) → is_argument t d ≡ true → length (argument_tape t d) ≡ numbers_in (extent_of t) (count_at (extent_of t) d)
argument_numbers (fixed t) d h = value_numbers t d h
argument_numbers (text most) (string bytes) h = omega arith
argument_numbers (sized most t) (elements ds) h = omega (arith, elements_numbers t ds (and_parts _ _ h).1)
argument_numbers (text most) (number z) h = absurd (false≢true h)
argument_numbers (text most) (elements ds) h = absurd (false≢true h)
argument_numbers (text most) (fields ds) h = absurd (false≢true h)
argument_numbers (sized most t) (number z) h = absurd (false≢true h)
argument_numbers (sized most t) (string b) h = absurd (false≢true h)
argument_numbers (sized most t) (fields ds) h = absurd (false≢true h)

pub most_numbers : (t : TheArgType) (d : Datum) → is_argument t d ≡ true → numbers_in (extent_of t) (count_at (extent_of t) d) ≤ numbers_in (extent_of t) (most_of (extent_of t))
most_numbers (fixed t) d h = omega arith
most_numbers (text most) (string bytes) h = omega (arith, leb-true (length bytes) most (and_parts _ _ h).0)
most_numbers (sized most t) (elements ds) h = omega (arith, times_rises (numbers_of t) (count_of ds) most (leb-true (count_of ds) most (and_parts _ _ h).0))
most_numbers (text most) (number z) h = absurd (false≢true h)
most_numbers (text most) (elements ds) h = absurd (false≢true h)
most_numbers (text most) (fields ds) h = absurd (false≢true h)
most_numbers (sized most t) (number z) h = absurd (false≢true h)
most_numbers (sized most t) (string b) h = absurd (false≢true h)
most_numbers (sized most t) (fields ds) h = absurd (false≢true h)

pub tape_numbers : (ys : List Argument) → list_all is_good ys ≡ true → length (flat_map tape_of_argument ys) ≡ numbers_in_all (map filled ys)
tape_numbers [] h = refl
tape_numbers (y ∷ ys) h =
    let good = and_parts (is_good y) (list_all is_good ys) h in
    let has = (and_parts (is_argument_within y.0) (is_argument y.0 y.1) good.0).1 in
    omega (arith, length-append (argument_tape y.0 y.1) (flat_map tape_of_argument ys), argument_numbers y.0 y.1 has, tape_numbers ys good.1)

pub most_tape : (ys : List Argument) → list_all is_good ys ≡ true
    → numbers_in_all (map filled ys) ≤ numbers_in_all (map (with_count (λ y. most_of (extent_of y.0))) ys)
most_tape [] h = omega arith
most_tape (y ∷ ys) h =
    let good = and_parts (is_good y) (list_all is_good ys) h in
    let has = (and_parts (is_argument_within y.0) (is_argument y.0 y.1) good.0).1 in
    omega (arith, most_numbers y.0 y.1 has, most_tape ys good.1)
