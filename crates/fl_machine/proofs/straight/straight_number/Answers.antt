use Rattle.std.proofs.Common.{◌≡◌, ◌<◌, ◌≤◌, ◌+◌, ◌%◌, ◌^◌, ℕ, true, refl, sym, ◌∙◌, ap, subst, arith}
use Rattle.std.proofs.Math.Nat.{mod-eq_of_lt, mod-lt}
use Rattle.fl_stub.specs.declared.op.Op.{Op}
use Rattle.fl_stub.specs.declared.op.Op.TheVariants.{Read}
use Rattle.fl_stub.specs.Rests.{TheField, is_taken, taken_field}
use Rattle.fl_stub.proofs.Numbers.{pow_positive}
use Rattle.fl_machine.specs.declared.intake.ByteField.{ByteField}
use Rattle.fl_machine.specs.Straight.{is_straight as is_straight_op}
use Rattle.fl_machine.specs.Straight.{HasNumber}
use Rattle.fl_machine.proofs.Intakes.{run_grows}
use Rattle.fl_machine.proofs.Turns.{width_small}
use Rattle.fl_machine.proofs.straight.straight_number.Goals as goal

pub returns-in-Read-eq8-clause-number : goal.returns-in-Read-eq8-clause-number
returns-in-Read-eq8-clause-number c =
    let word = c.word_at.result in
    let inside : c.args.used + 8 ≤ 56 = omega (arith, c.if-used-gt48.false) in
    let small : word < 256 ^ 8 = omega arith in
    subst (λ (f : ByteField). HasNumber f c.args.buffer.now c.args.used word) (sym c.number.ensures)
    (record {
      inside = inside;
      grows = run_grows c.args.buffer.now c.args.used 0 0 8 word word refl (omega arith) (omega arith) inside c.word_at.ensures (sym (mod-eq_of_lt small));
      least = omega arith;
      last = omega (arith, small);
    })

pub number_at-requires-clause-narrow : goal.number_at-requires-clause-narrow
number_at-requires-clause-narrow c = c.requires.narrow c.of-field.result (c.is_straight.ensures.straight c.if-not-is_straight.false) c.of-field.ensures

pub returns-in-Read-clause-number : goal.returns-in-Read-clause-number
returns-in-Read-clause-number c =
    let word = c.word_at-in-Read.result in
    let width = c.in-Read.width in
    let number = c.low_part-number.result in
    let taken : is_taken (Read width) ≡ true = subst (λ (o : Op). is_taken o ≡ true) c.in-Read.is (c.requires.taken (ap is_straight_op c.in-Read.is)) in
    let narrow : width ≤ 8 = width_small width taken in
    let room = c.if-width-used.false in
    let start = c.requires.inside in
    let inside : c.args.used + width ≤ 56 = omega (arith, start, room) in
    let small : word % 256 ^ width < 256 ^ width = mod-lt word (pow_positive width) in
    let last = c.greatest.ensures in
    subst (λ (f : ByteField). HasNumber f c.args.buffer.now c.args.used number) (sym c.number-in-Read.ensures)
    (record {
      inside = inside;
      grows = run_grows c.args.buffer.now c.args.used 0 0 width word number refl (omega arith) narrow inside c.word_at-in-Read.ensures c.low_part-number.ensures;
      least = omega arith;
      last = omega (arith, small, last, c.low_part-number.ensures);
    })

pub returns-in-Skip : goal.returns-in-Skip
returns-in-Skip c =
    let word = c.word_at-else-zeros-used.result in
    let f = c.zeros.result in
    let view = c.zeros.ensures in
    let wide : f.width ≡ c.in-Skip.zeros = ap TheField.width view in
    let least : f.least ≡ 0 = ap TheField.least view in
    let straight : is_straight_op c.args.op ≡ true = ap is_straight_op c.in-Skip.is in
    let narrow : f.width ≤ 8 = c.requires.narrow f straight (λ at same. view ∙ sym (ap (λ (o : Op). taken_field o at) c.in-Skip.is)) in
    let room = c.if-zeros-used.false in
    let start = c.requires.inside in
    let inside : c.args.used + f.width ≤ 56 = omega (arith, start, room, wide) in
    let zero : c.low_part.result ≡ 0 = omega (arith, c.if-low_part-ne0.false) in
    let none : 0 ≡ word % 256 ^ f.width = sym zero ∙ c.low_part.ensures ∙ ap (λ (n : ℕ). word % 256 ^ n) (sym wide) in
    record {
      straight = straight;
      field = λ at same. view ∙ sym (ap (λ (o : Op). taken_field o at) c.in-Skip.is);
      number = record {
        inside = inside;
        grows = run_grows c.args.buffer.now c.args.used 0 0 f.width word 0 refl (omega arith) narrow inside c.word_at-else-zeros-used.ensures none;
        least = omega (arith, least);
        last = omega arith;
      };
    }
