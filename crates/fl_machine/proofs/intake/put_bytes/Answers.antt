use Rattle.std.proofs.Common.{◌≡◌, ◌<◌, ◌≤◌, ◌+◌, ◌++◌, ℕ, take, drop, length, refl, sym, ◌∙◌, ap, subst, arith}
use Rattle.std.proofs.lemmas.List.{append-nil, length-set, take-set-le}
use Rattle.fl_machine.proofs.Spans.{copied_more}
use Rattle.fl_machine.proofs.intake.put_bytes.Goals as goal

pub loop-index-init : goal.loop-index-init
loop-index-init c = (omega arith, ap (λ n. take n c.args.tape.now) (omega arith) ∙ sym (append-nil (take c.args.count c.args.tape.now)), refl, refl)

pub loop-index-preserved : goal.loop-index-preserved
loop-index-preserved c =
    let i = c.loop-index.invariant in
    let few = c.loop-index-test.true in
    let room = c.requires.room in
    let inside = c.requires.inside in
    let same = i.3 in
    let long : length c.args.buffer.now ≡ 64 = omega arith in
    let there : c.args.from + c.loop-index.index < length c.args.buffer.now = omega (arith, few, inside, long) in
    let on : c.args.count + c.loop-index.index < length c.loop-index.tape = omega (arith, few, room, same) in (
      omega (arith, few),
      copied_more c.loop-index.tape c.args.tape.now c.args.buffer.now c.args.count c.args.from c.loop-index.index c.from-number.result on there c.from-number.ensures i.1,
      take-set-le c.args.count c.loop-index.tape (c.args.count + c.loop-index.index) c.from-number.result (omega arith) ∙ i.2,
      length-set c.loop-index.tape (c.args.count + c.loop-index.index) c.from-number.result ∙ same,
    )

pub returns-clause-tape : goal.returns-clause-tape
returns-clause-tape c =
    let i = c.loop-index.invariant in
    let most : c.loop-index.index ≤ c.args.many = i.0 in
    let all : c.loop-index.index ≡ c.args.many = omega (arith, most, c.loop-index-test.false) in
    subst (λ (n : ℕ). take (c.args.count + n) c.loop-index.tape ≡ take c.args.count c.args.tape.now ++ take n (drop c.args.from c.args.buffer.now)) all i.1
