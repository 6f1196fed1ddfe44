use Rattle.std.proofs.Common.{◌+◌, List, subst, drop, map}
use Rattle.fl_interface.specs.Interface.{TheArgType, arg_type_of}
use Rattle.fl_interface.specs.Payload.{greatest_payload}
use Rattle.fl_image.specs.Limits.{Reaches}
use Rattle.fl_image.proofs.Places.{map_from_place}
use Rattle.fl_image.proofs.limits.is_too_long.Goals as goal

pub loop-argument-preserved : goal.loop-argument-preserved
loop-argument-preserved c =
    let args = c.args.arguments.now in
    let k = c.loop-argument.argument-index in
    let total = greatest_payload (map arg_type_of args) in
    c.behind-extent.ensures.reaches (map arg_type_of (drop (k + 1) args)) total
    (subst (λ (left : List TheArgType). Reaches c.loop-argument.extent left total) (map_from_place arg_type_of args k c.argument-item.result c.loop-argument-test.true c.argument-item.is) c.loop-argument.invariant)
