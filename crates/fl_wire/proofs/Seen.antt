-- What a type and a value of one kind are, over plain variables.
use Rattle.std.proofs.Common.{◌≡◌, ℕ, ℤ, List, Vec, Global, map, ap, ◌∙◌, rules}
use Rattle.std.specs.Arc.{arc_value}
use Rattle.std.specs.declared.sync.Arc.{Arc}
use Rattle.fl_interface.specs.declared.interface.Scalar.{Scalar}
use Rattle.fl_interface.specs.declared.interface.FixedType.{FixedType, Scalar as OfScalar, Enumeration, Structure}
use Rattle.fl_interface.specs.declared.interface.FixedType.TheViews.{the_lemmas as type_lemmas}
use Rattle.fl_interface.specs.declared.interface.FixedType.TheFolds.{fold_out-FixedType}
use Rattle.fl_interface.specs.Interface.{TheType, scalar, enumeration, structure, fields_from, type_of, type_step}
use Rattle.fl_value_data.specs.declared.value.Value.{Int}
use Rattle.fl_value_data.specs.declared.value.Value.TheViews.{the_lemmas as value_lemmas}
use Rattle.fl_value_data.specs.declared.value.Value.TheFolds.{fold_out-Value}
use Rattle.fl_value_data.specs.Value.{Datum, number, datum_step, datum_of}

pub scalar_seen : (s : Scalar) → type_of (OfScalar s) ≡ scalar s
scalar_seen s = search (rules, type_lemmas, fold_out-FixedType TheType type_step)

pub enumeration_seen : (n : ℕ) → type_of (Enumeration n) ≡ enumeration n
enumeration_seen n = search (rules, type_lemmas, fold_out-FixedType TheType type_step)

pub structure_seen : (fs : Arc (Vec FixedType Global) Global) → type_of (Structure fs) ≡ structure (fields_from (map type_of (arc_value fs).items))
structure_seen fs = search (rules, type_lemmas, fold_out-FixedType TheType type_step)

-- the fields of a shared list, by way of the list that it holds
pub fields_seen : (fs : Arc (Vec FixedType Global) Global) (v : Vec FixedType Global) (now : List FixedType) → v ≡ arc_value fs → now ≡ v.items
    → fields_from (map type_of now) ≡ fields_from (map type_of (arc_value fs).items)
fields_seen fs v now whole items =
    ap (λ (ts : List FixedType). fields_from (map type_of ts)) (items ∙ ap (λ (w : Vec FixedType Global). w.items) whole)

pub int_seen : (z : ℤ) → datum_of (Int z) ≡ number z
int_seen z = search (rules, value_lemmas, fold_out-Value Datum datum_step)
