use Rattle.std.proofs.Common.{◌≡◌, [], ℕ, List, length, drop, refl, sym, ◌∙◌, ap}
use Rattle.std.proofs.lemmas.Bool.{ltb-true, ltb-false}
use Rattle.std.proofs.lemmas.List.{drop_all, drop_more}
use Rattle.fl_stub.specs.Given.{first_of_tape, rest_of_tape}
use Rattle.fl_machine.specs.Cursors.{location_of}
use Rattle.fl_machine.proofs.cursor.SendCursor.take_number.Goals as goal

pub returns-in_default-clause-number : goal.returns-in_default-clause-number
returns-in_default-clause-number c =
    let tape = c.args.tape.now in
    let next = c.args.self.now.next in
    sym (ap first_of_tape (drop_all next tape (ltb-false next (length tape) (sym c.in_default.ensures.lookup.0))))

pub returns-in_default-clause-location : goal.returns-in_default-clause-location
returns-in_default-clause-location c =
    let tape = c.args.tape.now in
    let next = c.args.self.now.next in
    let past : drop next tape ≡ [] = drop_all next tape (ltb-false next (length tape) (sym c.in_default.ensures.lookup.0)) in
    ap (λ (left : List ℕ). record (location_of tape c.args.self.now) { tape = left }) (past ∙ sym (ap rest_of_tape past))

pub returns-in_default-clause-rest : goal.returns-in_default-clause-rest
returns-in_default-clause-rest c = refl

pub returns-clause-number : goal.returns-clause-number
returns-clause-number c =
    let tape = c.args.tape.now in
    let next = c.args.self.now.next in
    let number = c.in-Some.number.now in
    let inside = ltb-true next (length tape) (sym c.in-Some.ensures.lookup.0) in
    c.in-Some.ensures.lookup.1 ∙ sym (ap first_of_tape (drop_more tape next number inside))

pub returns-clause-location : goal.returns-clause-location
returns-clause-location c =
    let tape = c.args.tape.now in
    let next = c.args.self.now.next in
    let inside = ltb-true next (length tape) (sym c.in-Some.ensures.lookup.0) in
    ap (λ (left : List ℕ). record (location_of tape c.args.self.now) { tape = left }) (sym (ap rest_of_tape (drop_more tape next c.in-Some.number.now inside)))

pub returns-clause-rest : goal.returns-clause-rest
returns-clause-rest c = refl
