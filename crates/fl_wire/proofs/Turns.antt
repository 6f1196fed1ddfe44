-- One turn of a loop over types and values side by side, or over elements.
use Rattle.std.proofs.Common.{◌≡◌, ℕ, zero, suc, refl, ◌+◌, ◌-◌, ◌<◌, ◌≤◌, Bool, true, List, ◌∷◌, map, length, take, drop, get_or, sym, ◌∙◌, ap, subst, arith}
use Rattle.std.specs.List.{zip}
use Rattle.std.specs.Int.{byte_at, to_le_bytes, w64}
use Rattle.std.specs.Cmp.{first_so, second_so}
use Rattle.std.proofs.lemmas.List.{drop_more, length-take, length-drop}
use Rattle.fl_interface.specs.declared.interface.ArgType.{ArgType}
use Rattle.fl_interface.specs.declared.interface.FixedType.{FixedType}
use Rattle.fl_interface.specs.Interface.{TheType, TheTypes, field, fields_from, type_of, TheArgType, arg_type_of}
use Rattle.fl_value_data.specs.Value.{Datum, Data, also, data_from, datum_of}
use Rattle.fl_value_data.specs.declared.value.Value.{Value}
use Rattle.fl_value_data.specs.Fits.{has_type, have_types, all_have_type, is_argument, are_arguments}
use Rattle.fl_value_data.specs.Plan.{is_dynamic, rank_of, of_rank, never_falls}
use Rattle.fl_value_data.specs.declared.value.PlanNo.{PlanNo}
use Rattle.fl_value_data.specs.declared.value.PlanNo.TheVariants.{Two}
use Rattle.fl_value_data.specs.Tape.{Argument, kind}
use Rattle.fl_layout.specs.Leaves.{Leaf, value_onto, fields_onto, argument_onto, arguments_onto, start_onto}
use Rattle.fl_wire.proofs.Encoding.{rank_taken, rank_passed}
use Rattle.fl_wire.proofs.Scalars.{rises, rises_on}

module _ {A : Type 0} where
  pub one_on : (xs : List A) (n m : ℕ) (x : A) → m ≡ n + 1 → n < length xs → x ≡ get_or xs n x → drop n xs ≡ x ∷ drop m xs
  one_on xs n m x next small is =
      drop_more xs n x small ∙ ap (λ (y : A). y ∷ drop (n + 1) xs) (sym is) ∙ ap (λ (k : ℕ). x ∷ drop k xs) (sym next)

  -- what follows so many is shorter
  pub shorter : (xs : List A) (n : ℕ) → 0 < n → n ≤ length xs → length (take (length xs - n) (drop n xs)) < length xs
  shorter xs n some within = omega (arith, some, within, length-take (length xs - n) (drop n xs), length-drop n xs)

-- a byte of a number that is written low byte first
pub byte_low : (n k : ℕ) → k < 8 → get_or (to_le_bytes w64 n) k 0 ≡ byte_at k n
byte_low n zero h = refl
byte_low n (suc zero) h = refl
byte_low n (suc (suc zero)) h = refl
byte_low n (suc (suc (suc zero))) h = refl
byte_low n (suc (suc (suc (suc zero)))) h = refl
byte_low n (suc (suc (suc (suc (suc zero))))) h = refl
byte_low n (suc (suc (suc (suc (suc (suc zero)))))) h = refl
byte_low n (suc (suc (suc (suc (suc (suc (suc zero))))))) h = refl
byte_low n (suc (suc (suc (suc (suc (suc (suc (suc k)))))))) h = absurd (omega (arith, h))

-- an element has the type
pub element_fits : (t : TheType) (vs : List Value) (j : ℕ) (v : Value) → j < length vs → v ≡ get_or vs j v → all_have_type t (data_from (map datum_of (drop j vs))) ≡ true
    → has_type t (datum_of v) ≡ true
element_fits t vs j v small is h =
    subst (λ (u : Value). has_type t (datum_of u) ≡ true) (sym is)
    (first_so _ _ (subst (λ (us : List Value). all_have_type t (data_from (map datum_of us)) ≡ true) (drop_more vs j v small) h))

-- ---- arguments

module _ (ts : List ArgType) (vs : List Value) (n m : ℕ) (t : ArgType) (v : Value) (next : m ≡ n + 1)
    (turn : (n < length ts) × (n < length vs) × ((d : ArgType) → t ≡ get_or ts n d) × ((d : Value) → v ≡ get_or vs n d)) where
  pub first_type : map arg_type_of (drop n ts) ≡ arg_type_of t ∷ map arg_type_of (drop m ts)
  first_type = ap (map arg_type_of) (one_on ts n m t next turn.0 (turn.2 t))

  first_datum : map datum_of (drop n vs) ≡ datum_of v ∷ map datum_of (drop m vs)
  first_datum = ap (map datum_of) (one_on vs n m v next turn.1 (turn.3 v))

  all_fit : are_arguments (map arg_type_of (drop n ts)) (map datum_of (drop n vs)) ≡ true → are_arguments (arg_type_of t ∷ map arg_type_of (drop m ts)) (datum_of v ∷ map datum_of (drop m vs)) ≡ true
  all_fit h =
      subst (λ (xs : List TheArgType). are_arguments xs (datum_of v ∷ map datum_of (drop m vs)) ≡ true) first_type
      (subst (λ (ds : List Datum). are_arguments (map arg_type_of (drop n ts)) ds ≡ true) first_datum h)

  -- the next argument fits, and so do those after it
  pub turn_fits : are_arguments (map arg_type_of (drop n ts)) (map datum_of (drop n vs)) ≡ true → is_argument (arg_type_of t) (datum_of v) ≡ true
  turn_fits h = first_so (is_argument (arg_type_of t) (datum_of v)) _ (all_fit h)

  pub turn_left : are_arguments (map arg_type_of (drop n ts)) (map datum_of (drop n vs)) ≡ true → are_arguments (map arg_type_of (drop m ts)) (map datum_of (drop m vs)) ≡ true
  turn_left h = second_so (is_argument (arg_type_of t) (datum_of v)) _ (all_fit h)

  both : zip (map arg_type_of (drop n ts)) (map datum_of (drop n vs)) ≡ (arg_type_of t, datum_of v) ∷ zip (map arg_type_of (drop m ts)) (map datum_of (drop m vs))
  both =
      ap (λ (xs : List TheArgType). zip xs (map datum_of (drop n vs))) first_type
      ∙ ap (λ (ds : List Datum). zip (arg_type_of t ∷ map arg_type_of (drop m ts)) ds) first_datum

  -- its leaves go first
  pub turn_written : (after flag : Bool) (now : List Leaf) → flag ≡ is_dynamic (arg_type_of t)
      → arguments_onto flag (zip (map arg_type_of (drop m ts)) (map datum_of (drop m vs))) (argument_onto (arg_type_of t) (datum_of v) (start_onto after now))
      ≡ arguments_onto after (zip (map arg_type_of (drop n ts)) (map datum_of (drop n vs))) now
  turn_written after flag now is =
      ap (λ (f : Bool). arguments_onto f (zip (map arg_type_of (drop m ts)) (map datum_of (drop m vs))) (argument_onto (arg_type_of t) (datum_of v) (start_onto after now))) is
      ∙ sym (ap (λ (xs : List Argument). arguments_onto after xs now) both)

  -- where it is of the rank; another one is passed over
  pub turn_taken : (plan : PlanNo) (rank : ℕ) (after flag : Bool) (now : List Leaf) → flag ≡ is_dynamic (arg_type_of t) → rank_of plan (arg_type_of t) ≡ rank
      → arguments_onto flag (of_rank kind plan rank (zip (map arg_type_of (drop m ts)) (map datum_of (drop m vs)))) (argument_onto (arg_type_of t) (datum_of v) (start_onto after now))
      ≡ arguments_onto after (of_rank kind plan rank (zip (map arg_type_of (drop n ts)) (map datum_of (drop n vs)))) now
  turn_taken plan rank after flag now is same =
      let rest = zip (map arg_type_of (drop m ts)) (map datum_of (drop m vs)) in
      ap (λ (f : Bool). arguments_onto f (of_rank kind plan rank rest) (argument_onto (arg_type_of t) (datum_of v) (start_onto after now))) is
      ∙ sym (rank_taken plan rank after (arg_type_of t, datum_of v) rest now same)
      ∙ sym (ap (λ (xs : List Argument). arguments_onto after (of_rank kind plan rank xs) now) both)

  pub turn_passed : (plan : PlanNo) (rank : ℕ) (after : Bool) (now : List Leaf) → (rank_of plan (arg_type_of t) ≡ rank → ⊥)
      → arguments_onto after (of_rank kind plan rank (zip (map arg_type_of (drop m ts)) (map datum_of (drop m vs)))) now
      ≡ arguments_onto after (of_rank kind plan rank (zip (map arg_type_of (drop n ts)) (map datum_of (drop n vs)))) now
  turn_passed plan rank after now other =
      sym (rank_passed plan rank after (arg_type_of t, datum_of v) (zip (map arg_type_of (drop m ts)) (map datum_of (drop m vs))) now other)
      ∙ sym (ap (λ (xs : List Argument). arguments_onto after (of_rank kind plan rank xs) now) both)

  -- ranks that never fall from here on
  pub turn_rises : (least rank : ℕ) → never_falls Two (map arg_type_of ts) ≡ rises Two least (map arg_type_of (drop n ts)) → rank ≡ rank_of Two (arg_type_of t) → least ≤ rank
      → never_falls Two (map arg_type_of ts) ≡ rises Two rank (map arg_type_of (drop m ts))
  turn_rises least rank up is high =
      up ∙ ap (rises Two least) first_type ∙ rises_on Two least (arg_type_of t) (map arg_type_of (drop m ts)) (subst (λ (k : ℕ). least ≤ k) is high)
      ∙ ap (λ (k : ℕ). rises Two k (map arg_type_of (drop m ts))) (sym is)

-- ---- fields

module _ (ts : List FixedType) (vs : List Value) (n m : ℕ) (t : FixedType) (v : Value) (next : m ≡ n + 1)
    (turn : (n < length ts) × (n < length vs) × ((d : FixedType) → t ≡ get_or ts n d) × ((d : Value) → v ≡ get_or vs n d)) where
  first_field : fields_from (map type_of (drop n ts)) ≡ field (type_of t) (fields_from (map type_of (drop m ts)))
  first_field = ap (λ (xs : List FixedType). fields_from (map type_of xs)) (one_on ts n m t next turn.0 (turn.2 t))

  first_value : data_from (map datum_of (drop n vs)) ≡ also (datum_of v) (data_from (map datum_of (drop m vs)))
  first_value = ap (λ (xs : List Value). data_from (map datum_of xs)) (one_on vs n m v next turn.1 (turn.3 v))

  fields_fit : have_types (fields_from (map type_of (drop n ts))) (data_from (map datum_of (drop n vs))) ≡ true
      → have_types (field (type_of t) (fields_from (map type_of (drop m ts)))) (also (datum_of v) (data_from (map datum_of (drop m vs)))) ≡ true
  fields_fit h =
      subst (λ (xs : TheTypes). have_types xs (also (datum_of v) (data_from (map datum_of (drop m vs)))) ≡ true) first_field
      (subst (λ (ds : Data). have_types (fields_from (map type_of (drop n ts))) ds ≡ true) first_value h)

  pub field_fits : have_types (fields_from (map type_of (drop n ts))) (data_from (map datum_of (drop n vs))) ≡ true → has_type (type_of t) (datum_of v) ≡ true
  field_fits h = first_so (has_type (type_of t) (datum_of v)) _ (fields_fit h)

  pub fields_left : have_types (fields_from (map type_of (drop n ts))) (data_from (map datum_of (drop n vs))) ≡ true → have_types (fields_from (map type_of (drop m ts))) (data_from (map datum_of (drop m vs))) ≡ true
  fields_left h = second_so (has_type (type_of t) (datum_of v)) _ (fields_fit h)

  pub field_written : (now : List Leaf) → fields_onto (fields_from (map type_of (drop m ts))) (data_from (map datum_of (drop m vs))) (value_onto (type_of t) (datum_of v) now)
      ≡ fields_onto (fields_from (map type_of (drop n ts))) (data_from (map datum_of (drop n vs))) now
  field_written now =
      sym (ap (λ (xs : TheTypes). fields_onto xs (data_from (map datum_of (drop n vs))) now) first_field
      ∙ ap (λ (ds : Data). fields_onto (field (type_of t) (fields_from (map type_of (drop m ts)))) ds now) first_value)
