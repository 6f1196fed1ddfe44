use Rattle.std.proofs.Common.{◌≡◌, drop, map}
use Rattle.std.specs.List.{list_all}
use Rattle.fl_interface.specs.Interface.{arg_type_of}
use Rattle.fl_codec.specs.NumberPlaces.{is_number}
use Rattle.fl_codec.proofs.codec.are_numbers.Given as goal

-- all before this one are numbers
abbrev pub invariant-loop-argument : goal.invariant-loop-argument
invariant-loop-argument l = list_all is_number (map arg_type_of (drop l.argument-index l.arguments)) ≡ list_all is_number (map arg_type_of l.arguments)
