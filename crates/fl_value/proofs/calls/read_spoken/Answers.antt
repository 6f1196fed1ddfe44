use Rattle.std.proofs.Common.{map, length, sym, refl}
use Rattle.std.proofs.lemmas.Bool.{eqb-false, eqb-true}
use Rattle.fl_value_data.specs.Value.{datum_of, data_from}
use Rattle.fl_value.proofs.Words.{no_word, no_open, no_arguments, not_ended, spelled_call}
use Rattle.fl_value.proofs.calls.read_spoken.Goals as goal

pub returns-in_default-clause-fault : goal.returns-in_default-clause-fault
returns-in_default-clause-fault c = no_word c.args.bytes.now c.skip_blanks.result.now c.skip_blanks.ensures.blank c.skip_blanks.ensures.stops c.in_default.ensures.none

pub returns-in_default-read_mark-clause-fault : goal.returns-in_default-read_mark-clause-fault
returns-in_default-read_mark-clause-fault c = no_open c.args.bytes.now c.skip_blanks.result.now c.in-Some.name.now c.in-Some.after.now c.skip_blanks.ensures.blank c.skip_blanks.ensures.stops c.in-Some.ensures.word c.in-Some.ensures.split c.in-Some.ensures.stops c.in_default-read_mark.ensures.none

pub returns-in-Err-NotACall-clause-fault : goal.returns-in-Err-NotACall-clause-fault
returns-in-Err-NotACall-clause-fault c =
    let none = rw c.in-Err-NotACall.field-0-is at c.in-Err-NotACall.ensures.fault in
    no_arguments c.args.bytes.now c.skip_blanks.result.now c.in-Some.name.now c.in-Some.after.now c.in-Some-read_mark.inside.now c.skip_blanks.ensures.blank
    c.skip_blanks.ensures.stops c.in-Some.ensures.word c.in-Some.ensures.split c.in-Some.ensures.stops c.in-Some-read_mark.ensures.found none

pub returns-then-not-is_empty-clause-fault : goal.returns-then-not-is_empty-clause-fault
returns-then-not-is_empty-clause-fault c =
    let values = data_from (map datum_of c.in-Ok.found.0.items) in
    not_ended c.args.bytes.now c.skip_blanks.result.now c.in-Some.name.now c.in-Some.after.now c.in-Some-read_mark.inside.now c.in-Ok.found.1.now c.skip_blanks-2.result.now values c.skip_blanks.ensures.blank c.skip_blanks.ensures.stops c.in-Some.ensures.word c.in-Some.ensures.split c.in-Some.ensures.stops c.in-Some-read_mark.ensures.found c.in-Ok.ensures.found c.skip_blanks-2.ensures.blank c.skip_blanks-2.ensures.stops (eqb-false (length c.skip_blanks-2.result.now) 0 (sym c.if-not-is_empty.ensures))

pub returns-clause-found : goal.returns-clause-found
returns-clause-found c =
    spelled_call c.args.bytes.now c.skip_blanks.result.now c.in-Some.name.now c.in-Some.after.now c.in-Some-read_mark.inside.now c.in-Ok.found.1.now
    c.skip_blanks-2.result.now c.in-Some.name.now (map datum_of c.in-Ok.found.0.items) c.skip_blanks.ensures.blank c.in-Some.ensures.word
    c.in-Some.ensures.split c.in-Some-read_mark.ensures.found c.in-Ok.ensures.found c.in-Ok.ensures.shallow c.skip_blanks-2.ensures.blank
    (eqb-true (length c.skip_blanks-2.result.now) 0 (sym c.if-not-is_empty.ensures)) refl
