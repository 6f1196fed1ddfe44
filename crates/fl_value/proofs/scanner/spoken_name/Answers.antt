use Rattle.std.proofs.Common.{length, sym}
use Rattle.std.proofs.lemmas.Bool.{eqb-false, eqb-true}
use Rattle.fl_value.proofs.Words.{no_word, no_open, no_arguments, not_ended}
use Rattle.fl_value.proofs.Scanned.{spelled_so}
use Rattle.fl_value.proofs.scanner.spoken_name.Goals as goal

pub returns-in_default-clause-none : goal.returns-in_default-clause-none
returns-in_default-clause-none c = no_word c.args.bytes.now c.skip_blanks.result.now c.skip_blanks.ensures.blank c.skip_blanks.ensures.stops c.in_default.ensures.none

pub returns-in_default-read_mark-clause-none : goal.returns-in_default-read_mark-clause-none
returns-in_default-read_mark-clause-none c =
    no_open c.args.bytes.now c.skip_blanks.result.now c.in-Some.name.now c.in-Some.after.now c.skip_blanks.ensures.blank c.skip_blanks.ensures.stops c.in-Some.ensures.word
    c.in-Some.ensures.split c.in-Some.ensures.stops c.in_default-read_mark.ensures.none

pub returns-in_default-after_values-clause-none : goal.returns-in_default-after_values-clause-none
returns-in_default-after_values-clause-none c =
    no_arguments c.args.bytes.now c.skip_blanks.result.now c.in-Some.name.now c.in-Some.after.now c.in-Some-read_mark.inside.now c.skip_blanks.ensures.blank
    c.skip_blanks.ensures.stops c.in-Some.ensures.word c.in-Some.ensures.split c.in-Some.ensures.stops c.in-Some-read_mark.ensures.found c.in_default-after_values.ensures.none

pub returns-then-not-is_empty-clause-none : goal.returns-then-not-is_empty-clause-none
returns-then-not-is_empty-clause-none c =
    not_ended c.args.bytes.now c.skip_blanks.result.now c.in-Some.name.now c.in-Some.after.now c.in-Some-read_mark.inside.now c.in-Some-after_values.end.now
    c.skip_blanks-2.result.now c.in-Some-after_values.ensures.found.0 c.skip_blanks.ensures.blank c.skip_blanks.ensures.stops c.in-Some.ensures.word c.in-Some.ensures.split
    c.in-Some.ensures.stops c.in-Some-read_mark.ensures.found c.in-Some-after_values.ensures.found.1 c.skip_blanks-2.ensures.blank c.skip_blanks-2.ensures.stops
    (eqb-false (length c.skip_blanks-2.result.now) 0 (sym c.if-not-is_empty.ensures))

pub returns-clause-found : goal.returns-clause-found
returns-clause-found c =
    spelled_so c.args.bytes.now c.skip_blanks.result.now c.in-Some.name.now c.in-Some.after.now c.in-Some-read_mark.inside.now c.in-Some-after_values.end.now
    c.skip_blanks-2.result.now c.skip_blanks.ensures.blank c.in-Some.ensures.word c.in-Some.ensures.split c.in-Some-read_mark.ensures.found
    c.in-Some-after_values.ensures.found c.skip_blanks-2.ensures.blank (eqb-true (length c.skip_blanks-2.result.now) 0 (sym c.if-not-is_empty.ensures))
