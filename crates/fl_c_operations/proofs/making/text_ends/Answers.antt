use Rattle.std.proofs.Common.{refl}
use Rattle.fl_compile.specs.Programs.{program_of}
use Rattle.fl_c_operations.proofs.Sizes.{sized_by}
use Rattle.fl_c_operations.proofs.making.text_ends.Goals as goal

pub returns-in-Ok-ends_of : goal.returns-in-Ok-ends_of
returns-in-Ok-ends_of c =
    let x = program_of c.in-Ok-text_program.program in
    record {
      makes = (
        c.in-Ok.ensures.sized,
        (
          x.interface,
          x,
          c.in-Ok-text_program.ensures.compiles.0,
          refl,
          c.in-Ok-text_program.ensures.compiles.1,
          (c.in-Ok.sides.0, c.in-Ok.sides.1, (c.in-Ok.ensures.one, c.in-Ok.ensures.two), c.in-Ok-ends_of.ensures.made),
        ),
      );
    }

pub returns-in-Err-Memory : goal.returns-in-Err-Memory
returns-in-Err-Memory c = record {
  makes = sized_by c.duo.result c.args.slots c.in-Err-Memory.field-0 c.in-Err-Memory.is c.in-Err-Memory.field-0-is c.duo.ensures.bad_size;
}
