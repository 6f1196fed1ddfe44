use Rattle.std.proofs.Common.{◌≡◌, map, ap, ◌∙◌, ◌∷◌, [], ◌++◌}
use Rattle.std.proofs.lemmas.List.{map_push}
use Rattle.fl_interface.specs.Interface.{type_of, fields_from}
use Rattle.fl_interface.specs.Sizes.{greatest_align}
use Rattle.fl_interface.specs.Depth.{deepest, deepest_array}
use Rattle.fl_check.proofs.Layouts.{end_push, align_push, depth_push, arrays_push}
use Rattle.fl_check.proofs.measured.StructFields.push.Goals as goal

more : (c : goal.After-max-self-3) → map type_of c.push.new.self.items ≡ map type_of c.args.self.now.types.items ++ type_of c.args.field.fixed ∷ []
more c = ap (map type_of) c.in_ok-push.ensures.items ∙ map_push type_of c.args.self.now.types.items c.args.field.fixed

pub invariant_of-self-2-clause-ended : goal.invariant_of-self-2-clause-ended
invariant_of-self-2-clause-ended c =
    end_push (map type_of c.args.self.now.types.items) (map type_of c.push.new.self.items) (type_of c.args.field.fixed) _ _ c.args.self.now.ended (more c) (cc)

pub invariant_of-self-2-clause-aligned : goal.invariant_of-self-2-clause-aligned
invariant_of-self-2-clause-aligned c =
    let p = align_push (map type_of c.args.self.now.types.items) (type_of c.args.field.fixed) in
    let q = ap (λ l. greatest_align (fields_from l)) (more c) in cc

pub invariant_of-self-2-clause-nested : goal.invariant_of-self-2-clause-nested
invariant_of-self-2-clause-nested c =
    let p = depth_push (map type_of c.args.self.now.types.items) (type_of c.args.field.fixed) in
    let q = ap (λ l. deepest (fields_from l)) (more c) in cc

pub invariant_of-self-2-clause-arrayed : goal.invariant_of-self-2-clause-arrayed
invariant_of-self-2-clause-arrayed c =
    let p = arrays_push (map type_of c.args.self.now.types.items) (type_of c.args.field.fixed) in
    let q = ap (λ l. deepest_array (fields_from l)) (more c) in cc
