use Rattle.std.proofs.Common.{map, refl, arith}
use Rattle.std.specs.List.{list_all}
use Rattle.fl_interface.specs.Interface.{arg_type_of}
use Rattle.fl_image.specs.Image.{argument_has_short_enums}
use Rattle.fl_image.proofs.Places.{goes_past, stops_at, all_passed}
use Rattle.fl_image.proofs.writable.arguments_have_short_enums.Goals as goal

pub loop-argument-preserved : goal.loop-argument-preserved
loop-argument-preserved c = goes_past (list_all argument_has_short_enums) argument_has_short_enums (λ y ys. refl) arg_type_of c.args.arguments.now c.loop-argument.argument-index c.argument-item.result (list_all argument_has_short_enums (map arg_type_of c.args.arguments.now)) c.loop-argument-test.true c.argument-item.is (cc) c.loop-argument.invariant

pub returns-then-not-argument_has_short_enums : goal.returns-then-not-argument_has_short_enums
returns-then-not-argument_has_short_enums c = record { exact = stops_at (list_all argument_has_short_enums) argument_has_short_enums (λ y ys. refl) arg_type_of c.args.arguments.now c.loop-argument.argument-index c.argument-item.result (list_all argument_has_short_enums (map arg_type_of c.args.arguments.now)) c.loop-argument-test.true c.argument-item.is (cc) c.loop-argument.invariant }

pub returns : goal.returns
returns c = record { exact = all_passed (list_all argument_has_short_enums) refl arg_type_of c.args.arguments.now c.loop-argument.argument-index (list_all argument_has_short_enums (map arg_type_of c.args.arguments.now)) (omega (arith, c.loop-argument-test.false)) c.loop-argument.invariant }
