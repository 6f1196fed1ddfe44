use Rattle.std.proofs.Common.{◌≡◌, ◌-◌, ◌++◌, ℕ, List, length, take, sym, ◌∙◌, subst, arith}
use Rattle.std.proofs.lemmas.Result.{IfOk-weaker, IfErr-weaker, err_from_is_err_and}
use Rattle.fl_stub.specs.declared.mark.ByteKind.{ByteKind}
use Rattle.fl_stub.specs.Frames.{block_of}
use Rattle.fl_stub.specs.Streams.{LeavesPayloads}
use Rattle.fl_machine.specs.Taking.{IsFed, Stands, words_bytes, HasRoom}
use Rattle.fl_machine.proofs.Intakes.{fed_first, stands_after, begins_after, payload_whole, payload_wrong, payload_ends, nothing_left, take_kept, room_on}
use Rattle.fl_machine.proofs.intake.RecvCursor.take_words.Goals as goal

pub resume-requires : goal.resume-requires
resume-requires c = let (before, bytes, s) = c.requires.stands in (before ++ take c.args.self.now.count c.args.tape.now, bytes, s)

pub take_numbers-used-requires-clause-fed : goal.take_numbers-used-requires-clause-fed
take_numbers-used-requires-clause-fed c =
    let (before, bytes, s) = c.requires.stands in
    let same = c.resume.ensures.count in (
      before,
      bytes ++ words_bytes c.args.words.now,
      subst (λ (left : List ℕ). IsFed c.args.ops.now (before ++ take c.resume.new.self.count c.args.tape.now) c.resume.new.self (bytes ++ words_bytes c.args.words.now) left) (sym c.spread.ensures)
          (fed_first c.args.ops.now (before ++ take c.resume.new.self.count c.args.tape.now) bytes (words_bytes c.args.words.now) c.resume.new.self
          (subst (λ (k : ℕ). Stands c.args.ops.now (before ++ take k c.args.tape.now) c.resume.new.self bytes) (sym same) (c.resume.ensures.stands (before ++ take c.args.self.now.count c.args.tape.now) bytes s))),
    )

pub take_numbers-used-requires-clause-count : goal.take_numbers-used-requires-clause-count
take_numbers-used-requires-clause-count c = let same = c.resume.ensures.count in omega (arith, same, c.requires.count)

pub loop-used-init : goal.loop-used-init
loop-used-init c =
    let same = c.resume.ensures.count in
    let e = c.take_numbers-used.ensures in
    let least = e.count.0 in
    let pace = e.pace in (
      e.end.1,
      e.settled,
      omega (arith, same, least),
      e.count.1,
      e.long,
      take_kept c.args.self.now.count c.resume.new.self.count c.take_numbers-used.new.tape c.args.tape.now (omega (arith, same)) e.kept,
      λ before bytes s. e.fed before (bytes ++ words_bytes c.args.words.now)
          (subst (λ (left : List ℕ). IsFed c.args.ops.now (before ++ take c.resume.new.self.count c.args.tape.now) c.resume.new.self (bytes ++ words_bytes c.args.words.now) left) (sym c.spread.ensures)
          (fed_first c.args.ops.now (before ++ take c.resume.new.self.count c.args.tape.now) bytes (words_bytes c.args.words.now) c.resume.new.self
          (subst (λ (k : ℕ). Stands c.args.ops.now (before ++ take k c.args.tape.now) c.resume.new.self bytes) (sym same) (c.resume.ensures.stands (before ++ take c.args.self.now.count c.args.tape.now) bytes s)))),
      omega (arith, same, pace),
    )

pub field-requires-clause-stance : goal.field-requires-clause-stance
field-requires-clause-stance c = let (before, bytes, s) = c.requires.stands in (c.loop-used.invariant.6 before bytes s).at.stance

pub returns-in_default-clause-part : goal.returns-in_default-clause-part
returns-in_default-clause-part c = IfOk-weaker c.end_of.result _ _ (λ fed h e. let z = sym h.0 ∙ e in absurd (cc)) c.end_of.ensures.whole

pub returns-in_default-clause-whole : goal.returns-in_default-clause-whole
returns-in_default-clause-whole c =
    let long : length c.spread.new.buffer ≡ 64 = omega arith in
    IfOk-weaker c.end_of.result _ _
    (λ fed h e before bytes s. payload_whole c.args.ops.now (before ++ take c.loop-used.self.count c.loop-used.tape) c.loop-used.self (bytes ++ words_bytes c.args.words.now) c.spread.new.buffer c.loop-used.used
    (c.loop-used.invariant.6 before bytes s) c.in_default.ensures.none long h.1)
    c.end_of.ensures.whole

pub returns-in_default-clause-wrong : goal.returns-in_default-clause-wrong
returns-in_default-clause-wrong c =
    let long : length c.spread.new.buffer ≡ 64 = omega arith in
    IfErr-weaker c.end_of.result _ _
    (λ mark h before bytes s. subst (λ (m : ByteKind). LeavesPayloads (block_of c.args.ops.now) (bytes ++ words_bytes c.args.words.now) m) (sym h.0)
    (payload_wrong c.args.ops.now (before ++ take c.loop-used.self.count c.loop-used.tape) c.loop-used.self (bytes ++ words_bytes c.args.words.now) c.spread.new.buffer c.loop-used.used
    (c.loop-used.invariant.6 before bytes s) c.in_default.ensures.none long h.1))
    c.end_of.ensures.wrong

pub returns-in_default-clause-few : goal.returns-in_default-clause-few
returns-in_default-clause-few c =
    let inside = c.loop-used.invariant.0 in
    let few = c.loop-used.invariant.7 in
    IfOk-weaker c.end_of.result _ _ (λ fed h. omega (arith, inside, few)) c.end_of.ensures.whole

pub returns-in_default-clause-kept : goal.returns-in_default-clause-kept
returns-in_default-clause-kept c = c.loop-used.invariant.5

pub take_next-requires-clause-fed : goal.take_next-requires-clause-fed
take_next-requires-clause-fed c = let (before, bytes, s) = c.requires.stands in (before, bytes ++ words_bytes c.args.words.now, c.loop-used.invariant.6 before bytes s)

pub take_next-requires-clause-tape : goal.take_next-requires-clause-tape
take_next-requires-clause-tape c =
    let few = c.loop-used.invariant.7 in
    let inside = c.loop-used.invariant.0 in
    subst (λ (n : ℕ). HasRoom c.args.ops.now c.loop-used.self.count (56 - c.loop-used.used) n) (sym c.loop-used.invariant.4)
    (room_on c.args.ops.now c.args.self.now.count c.loop-used.self.count 56 (56 - c.loop-used.used) (length c.args.tape.now) c.requires.room (omega (arith, few, inside)))

pub returns-in_err-used-clause-wrong : goal.returns-in_err-used-clause-wrong
returns-in_err-used-clause-wrong c =
    let p = err_from_is_err_and c.from_residual.result c.from_residual.ensures.1 in
    rw (p.1, p.2) (λ before bytes s. c.in_err-used.ensures.wrong before (bytes ++ words_bytes c.args.words.now) (c.loop-used.invariant.6 before bytes s))

pub returns-in_err-used-clause-kept : goal.returns-in_err-used-clause-kept
returns-in_err-used-clause-kept c =
    take_kept c.args.self.now.count c.loop-used.self.count c.take_next.new.tape c.loop-used.tape c.loop-used.invariant.2 c.take_next.ensures.kept ∙ c.loop-used.invariant.5

pub loop-used-preserved : goal.loop-used-preserved
loop-used-preserved c =
    let less = c.loop-used.invariant.2 in
    let few = c.loop-used.invariant.7 in
    let pace = c.in_ok-used.ensures.pace in
    let more = c.in_ok-used.ensures.count.0 in (
      c.in_ok-used.ensures.end.1,
      c.in_ok-used.ensures.settled,
      omega (arith, less, more),
      c.in_ok-used.ensures.count.1,
      c.in_ok-used.ensures.long ∙ c.loop-used.invariant.4,
      take_kept c.args.self.now.count c.loop-used.self.count c.take_next.new.tape c.loop-used.tape less c.in_ok-used.ensures.kept ∙ c.loop-used.invariant.5,
      λ before bytes s. c.in_ok-used.ensures.fed before (bytes ++ words_bytes c.args.words.now) (c.loop-used.invariant.6 before bytes s),
      omega (arith, few, pace),
    )

pub returns-in-Some-field-clause-part : goal.returns-in-Some-field-clause-part
returns-in-Some-field-clause-part c e before bytes s =
    let fed = c.loop-used.invariant.6 before bytes s in
    let none = nothing_left c.spread.new.buffer c.loop-used.used c.loop-used-test.false in (
      stands_after c.args.ops.now (before ++ take c.loop-used.self.count c.loop-used.tape) c.loop-used.self (bytes ++ words_bytes c.args.words.now) _ fed none,
      begins_after c.args.ops.now (before ++ take c.loop-used.self.count c.loop-used.tape) c.loop-used.self (bytes ++ words_bytes c.args.words.now) _ c.in-Some-field.field-0 fed c.in-Some-field.ensures.some none,
    )

pub returns-in-None-clause-whole : goal.returns-in-None-clause-whole
returns-in-None-clause-whole c e before bytes s =
    payload_ends c.args.ops.now (before ++ take c.loop-used.self.count c.loop-used.tape) c.loop-used.self (bytes ++ words_bytes c.args.words.now) _ (c.loop-used.invariant.6 before bytes s) c.in-None.ensures.none
    (nothing_left c.spread.new.buffer c.loop-used.used c.loop-used-test.false)

pub returns-in-Some-field-clause-few : goal.returns-in-Some-field-clause-few
returns-in-Some-field-clause-few c = let inside = c.loop-used.invariant.0 in let few = c.loop-used.invariant.7 in omega (arith, inside, few)

pub returns-in-None-clause-few : goal.returns-in-None-clause-few
returns-in-None-clause-few c = let inside = c.loop-used.invariant.0 in let few = c.loop-used.invariant.7 in omega (arith, inside, few)

pub returns-in_default-clause-grows : goal.returns-in_default-clause-grows
returns-in_default-clause-grows c = c.loop-used.invariant.2

pub returns-in_default-clause-within : goal.returns-in_default-clause-within
returns-in_default-clause-within c = c.loop-used.invariant.3

pub returns-in_err-used-clause-grows : goal.returns-in_err-used-clause-grows
returns-in_err-used-clause-grows c = let less = c.loop-used.invariant.2 in let more = c.take_next.ensures.count.0 in omega (arith, less, more)

pub returns-in_err-used-clause-within : goal.returns-in_err-used-clause-within
returns-in_err-used-clause-within c = c.take_next.ensures.count.1

pub returns-in-Some-field-clause-grows : goal.returns-in-Some-field-clause-grows
returns-in-Some-field-clause-grows c = c.loop-used.invariant.2

pub returns-in-Some-field-clause-within : goal.returns-in-Some-field-clause-within
returns-in-Some-field-clause-within c = c.loop-used.invariant.3

pub returns-in-None-clause-grows : goal.returns-in-None-clause-grows
returns-in-None-clause-grows c = c.loop-used.invariant.2

pub returns-in-None-clause-within : goal.returns-in-None-clause-within
returns-in-None-clause-within c = c.loop-used.invariant.3
