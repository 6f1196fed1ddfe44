use Rattle.std.proofs.Common.{◌<◌, ◌^◌, true, arith, subst, ◌≡◌}
use Rattle.std.proofs.lemmas.Bool.{and_parts}
use Rattle.fl_interface.specs.declared.interface.ArgType.{ArgType}
use Rattle.fl_interface.specs.Interface.{TheType, arg_type_of, type_of}
use Rattle.fl_interface.specs.Limits.{is_argument_within, is_type_within}
use Rattle.fl_layout.specs.Extents.{numbers_of}
use Rattle.fl_layout.proofs.Arranging.{type_small}
use Rattle.fl_layout.proofs.Measures.{numbers_small}
use Rattle.fl_layout.proofs.measure.extent.Goals as goal

few : (t : TheType) → is_type_within t ≡ true → numbers_of t < 2 ^ 32
few t h = omega (arith, numbers_small t, type_small t h)

pub count_numbers-requires : goal.count_numbers-requires
count_numbers-requires c =
    let within : is_argument_within (arg_type_of c.args.argument.now) ≡ true = c.requires.within in
    let it = subst (λ (a : ArgType). is_argument_within (arg_type_of a) ≡ true) c.in-Fixed.is within in
    record { fits = few (type_of c.in-Fixed.fixed) it }

pub count_numbers-requires-in-Sized : goal.count_numbers-requires-in-Sized
count_numbers-requires-in-Sized c =
    let it = subst (λ (a : ArgType). is_argument_within (arg_type_of a) ≡ true) c.in-Sized.is c.requires.within in
    record { fits = few (type_of c.in-Sized.element) (and_parts _ _ (and_parts _ _ it).1).1 }
