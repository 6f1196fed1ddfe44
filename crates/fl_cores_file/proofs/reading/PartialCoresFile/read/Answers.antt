use Rattle.std.proofs.Common.{◌≡◌, arith, length, subst}
use Rattle.std.proofs.lemmas.Bool.Decides.{nat_tests}
use Rattle.fl_script_lines.specs.Views.{part_of}
use Rattle.fl_cores_file.specs.CoresFile.{Reading, file_left, ReadsFrom}
use Rattle.fl_cores_file.specs.Files.{reading_of}
use Rattle.fl_cores_file.specs.Views.{draft_of}
use Rattle.fl_cores_file.proofs.Lists.{file_is}
use Rattle.fl_cores_file.proofs.LineLemmas.{few_lines, stops_there, read_to_end, reads_file, line_more, line_fits, read_line}
use Rattle.fl_cores_file.proofs.reading.PartialCoresFile.read.Goals as goal

pub loop-rest-init : goal.loop-rest-init
loop-rest-init c = (λ o h. subst (λ (r : Reading). ReadsFrom r 1 c.args.text.now o) c.requires.beginning h, few_lines c.args.text.now)

pub returns-in-Err : goal.returns-in-Err
returns-in-Err c = record {
  file = tt;
  refused = stops_there (Unit {0}) (reading_of c.loop-rest.self) (reading_of c.part.new.self) c.loop-rest.line c.loop-rest.rest.now c.next_part.result.1.now
      c.args.text.now (part_of c.next_part.result.0) c.in-Err.stop c.law_some_items.ensures.some c.next_part.ensures.items c.in-Err.ensures.comes
      c.loop-rest.invariant.0 c.requires.short;
}

pub overflow_add-line : goal.overflow_add-line
overflow_add-line c =
    let h = line_fits c.loop-rest.line c.lines_in-lines.result c.args.text.now c.loop-rest.rest.now c.next_part.result.1.now (part_of c.next_part.result.0)
    c.law_some_items.ensures.some c.requires.short c.loop-rest.invariant.1 c.next_part.ensures.items c.lines_in-lines.ensures.lines in
    omega (arith, h)

pub loop-rest-preserved : goal.loop-rest-preserved
loop-rest-preserved c = (
  read_line (reading_of c.loop-rest.self) (reading_of c.part.new.self) c.loop-rest.line c.lines_in-lines.result c.loop-rest.rest.now c.next_part.result.1.now
      c.args.text.now (part_of c.next_part.result.0) c.loop-rest.invariant.0 c.next_part.ensures.items c.in_default.ensures.comes
      c.lines_in-lines.ensures.lines,
  line_more c.loop-rest.line c.lines_in-lines.result c.args.text.now c.loop-rest.rest.now c.next_part.result.1.now (part_of c.next_part.result.0)
      c.loop-rest.invariant.1 c.next_part.ensures.items c.lines_in-lines.ensures.lines,
)

pub returns-in-Ok : goal.returns-in-Ok
returns-in-Ok c =
    let r : Reading = reading_of c.loop-rest.self in
    let none : length c.loop-rest.rest.now ≡ 0 = grind (arith, nat_tests) in
    record {
      file = reads_file c.args.text.now (file_left c.in-Ok.numbers.items (record { names = r.names; draft = draft_of c.number.new.draft })) r
          (file_is r c.in-Ok.numbers.items (draft_of c.number.new.draft) c.in-Ok.ensures.numbers c.in-Ok.ensures.jobs)
          (read_to_end r c.loop-rest.line c.loop-rest.rest.now c.args.text.now none c.loop-rest.invariant.0 c.requires.short);
      refused = tt;
    }
