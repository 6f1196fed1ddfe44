use Rattle.std.proofs.Common.{◌≡◌, ◌++◌, drop, map}
use Rattle.std.specs.List.{flat_map}
use Rattle.fl_compile.specs.Programs.{program_of}
use Rattle.fl_image.specs.Image.{codes_image, codes_of}
use Rattle.fl_image.proofs.writer.put_all_codes.Given as goal

abbrev pub invariant-loop-number : goal.invariant-loop-number
invariant-loop-number l =
    l.out.items ++ flat_map codes_image (map (codes_of (program_of l.program).plan) (drop l.number (program_of l.program).interface.messages))
    ≡ l.fn.out.items ++ flat_map codes_image (map (codes_of (program_of l.program).plan) (program_of l.program).interface.messages)
