use Rattle.std.proofs.Common.{◌≡◌, ◌++◌, drop, map}
use Rattle.std.specs.List.{flat_map}
use Rattle.fl_interface.specs.Interface.{arg_type_of}
use Rattle.fl_image.specs.Image.{argument_image}
use Rattle.fl_image.proofs.writer.put_arguments.Given as goal

abbrev pub invariant-loop-argument : goal.invariant-loop-argument
invariant-loop-argument l =
    l.out.items ++ flat_map argument_image (map arg_type_of (drop l.argument-index l.arguments)) ≡ l.fn.out.items ++ flat_map argument_image (map arg_type_of l.arguments)
