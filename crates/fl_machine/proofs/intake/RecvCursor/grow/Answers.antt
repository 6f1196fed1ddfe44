use Rattle.std.proofs.Common.{◌<◌, ◌≤◌, ◌+◌, ◌*◌, ◌^◌, sym, ◌∙◌, ap, subst, arith}
use Rattle.std.proofs.Math.Nat.{mod-lt}
use Rattle.fl_stub.proofs.Numbers.{pow_positive}
use Rattle.fl_machine.proofs.Intakes.{raised_fits, grows}
use Rattle.fl_machine.proofs.intake.RecvCursor.grow.Goals as goal

pub raise-requires-clause-room : goal.raise-requires-clause-room
raise-requires-clause-room c =
    let n = c.min-there.result in
    let more = c.low_part-more.result in
    let have = c.args.self.now.have in
    let less = c.requires.less in
    let narrow = c.requires.narrow in
    let few : have + n ≤ 8 = omega (arith, less, narrow, c.min-there.ensures) in
    let low : more < 256 ^ n = subst (λ k. k < 256 ^ n) (sym c.low_part-more.ensures) (mod-lt c.word_at.result (pow_positive n)) in
    let all = raised_fits c.args.self.now.value have n more c.requires.small low few in
    omega (arith, all)

pub overflow_add-result : goal.overflow_add-result
overflow_add-result c =
    let n = c.min-there.result in
    let more = c.low_part-more.result in
    let have = c.args.self.now.have in
    let less = c.requires.less in
    let narrow = c.requires.narrow in
    let few : have + n ≤ 8 = omega (arith, less, narrow, c.min-there.ensures) in
    let low : more < 256 ^ n = subst (λ k. k < 256 ^ n) (sym c.low_part-more.ensures) (mod-lt c.word_at.result (pow_positive n)) in
    let all = raised_fits c.args.self.now.value have n more c.requires.small low few in
    omega (arith, all, c.raise.ensures)

pub returns-clause-grows : goal.returns-clause-grows
returns-clause-grows c =
    let n = c.min-there.result in
    let have = c.args.self.now.have in
    let less = c.requires.less in
    let narrow = c.requires.narrow in
    let room = c.requires.room in
    let few : have + n ≤ 8 = omega (arith, less, narrow, c.min-there.ensures) in
    let inside : c.args.used + n ≤ 56 = omega (arith, room, c.min-there.ensures) in
    grows c.args.buffer.now c.args.used have c.args.self.now.value n c.word_at.result _ c.requires.small few inside c.word_at.ensures
    (ap (λ k. c.args.self.now.value + k) c.raise.ensures ∙ ap (λ k. c.args.self.now.value + k * 256 ^ have) c.low_part-more.ensures) (mod-lt c.word_at.result (pow_positive n))
