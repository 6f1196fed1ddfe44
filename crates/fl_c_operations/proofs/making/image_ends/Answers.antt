use Rattle.fl_compile.specs.Programs.{program_of}
use Rattle.fl_c_operations.proofs.Sizes.{sized_by}
use Rattle.fl_c_operations.proofs.making.image_ends.Goals as goal

pub returns-in-Ok-ends_of : goal.returns-in-Ok-ends_of
returns-in-Ok-ends_of c = record {
  makes = (
    c.in-Ok.ensures.sized,
    (
      program_of c.in-Ok-image_program.program,
      c.in-Ok-image_program.ensures.reads.0,
      c.in-Ok-image_program.ensures.reads.1,
      (c.in-Ok.sides.0, c.in-Ok.sides.1, (c.in-Ok.ensures.one, c.in-Ok.ensures.two), c.in-Ok-ends_of.ensures.made),
    ),
  );
}

pub returns-in-Err-Memory : goal.returns-in-Err-Memory
returns-in-Err-Memory c = record {
  makes = sized_by c.duo.result c.args.slots c.in-Err-Memory.field-0 c.in-Err-Memory.is c.in-Err-Memory.field-0-is c.duo.ensures.bad_size;
}
