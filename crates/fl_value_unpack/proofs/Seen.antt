-- What a type of one kind is, over plain variables.
use Rattle.std.proofs.Common.{◌≡◌, List, Vec, Global, map, ap, ◌∙◌, rules}
use Rattle.std.specs.Arc.{arc_value}
use Rattle.std.specs.declared.sync.Arc.{Arc}
use Rattle.fl_interface.specs.declared.interface.Scalar.{Scalar}
use Rattle.fl_interface.specs.declared.interface.FixedType.{FixedType, Scalar as OfScalar, Structure}
use Rattle.fl_interface.specs.declared.interface.FixedType.TheViews.{the_lemmas}
use Rattle.fl_interface.specs.declared.interface.FixedType.TheFolds.{fold_out-FixedType}
use Rattle.fl_interface.specs.Interface.{TheType, scalar, structure, fields_from, type_of, type_step}

pub scalar_seen : (s : Scalar) → type_of (OfScalar s) ≡ scalar s
scalar_seen s = search (rules, the_lemmas, fold_out-FixedType TheType type_step)

pub structure_seen : (fs : Arc (Vec FixedType Global) Global) → type_of (Structure fs) ≡ structure (fields_from (map type_of (arc_value fs).items))
structure_seen fs = search (rules, the_lemmas, fold_out-FixedType TheType type_step)

-- the fields of a shared list, by way of the list that it holds
pub fields_seen : (fs : Arc (Vec FixedType Global) Global) (v : Vec FixedType Global) (now : List FixedType) → v ≡ arc_value fs → now ≡ v.items
    → fields_from (map type_of now) ≡ fields_from (map type_of (arc_value fs).items)
fields_seen fs v now whole items =
    ap (λ (ts : List FixedType). fields_from (map type_of ts)) (items ∙ ap (λ (w : Vec FixedType Global). w.items) whole)
