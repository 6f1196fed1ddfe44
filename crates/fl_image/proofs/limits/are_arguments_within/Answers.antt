use Rattle.std.proofs.Common.{map, refl, arith}
use Rattle.fl_interface.specs.Interface.{arg_type_of}
use Rattle.fl_interface.specs.Limits.{is_argument_within, are_arguments_within}
use Rattle.fl_image.proofs.Places.{goes_past, stops_at, all_passed}
use Rattle.fl_image.proofs.limits.are_arguments_within.Goals as goal

pub loop-argument-preserved : goal.loop-argument-preserved
loop-argument-preserved c = goes_past are_arguments_within is_argument_within (λ y ys. refl) arg_type_of c.args.arguments.now c.loop-argument.argument-index c.argument-item.result (are_arguments_within (map arg_type_of c.args.arguments.now)) c.loop-argument-test.true c.argument-item.is (cc) c.loop-argument.invariant

pub returns-then-not-is_argument_within : goal.returns-then-not-is_argument_within
returns-then-not-is_argument_within c = record { exact = stops_at are_arguments_within is_argument_within (λ y ys. refl) arg_type_of c.args.arguments.now c.loop-argument.argument-index c.argument-item.result (are_arguments_within (map arg_type_of c.args.arguments.now)) c.loop-argument-test.true c.argument-item.is (cc) c.loop-argument.invariant }

pub returns : goal.returns
returns c = record { exact = all_passed are_arguments_within refl arg_type_of c.args.arguments.now c.loop-argument.argument-index (are_arguments_within (map arg_type_of c.args.arguments.now)) (omega (arith, c.loop-argument-test.false)) c.loop-argument.invariant }
