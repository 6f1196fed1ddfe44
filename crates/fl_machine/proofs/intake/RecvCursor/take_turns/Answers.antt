use Rattle.std.proofs.Common.{◌≡◌, ◌<◌, ◌+◌, ◌-◌, ◌%◌, ◌^◌, ◌++◌, [], ℕ, length, take, drop, refl, sym, ◌∙◌, ap, subst, arith}
use Rattle.fl_machine.specs.declared.cursor.Loop.{Loop}
use Rattle.fl_machine.specs.declared.intake.RecvCursor.{RecvCursor}
use Rattle.fl_machine.specs.Taking.{IsFed, IsRunOf, HasRoom, Grows, inner_loop, run_at}
use Rattle.fl_machine.proofs.Intakes.{here_of, room_on, room_told, run_turn, run_again, run_field, run_settled, stance_depth, told_tape, told_kept, told_long, behind_more}
use Rattle.fl_machine.proofs.Spans.{run_inner, run_first, run_turned, run_long}
use Rattle.fl_machine.proofs.intake.RecvCursor.take_turns.Goals as goal

pub turns_left-left-requires-clause-high : goal.turns_left-left-requires-clause-high
turns_left-left-requires-clause-high c = let (before, all, fed) = c.requires.fed in stance_depth c.args.ops.now c.args.self.now fed.at.stance

pub loop-number-init : goal.loop-number-init
loop-number-init c =
    let self = c.args.self.now in
    let same : self ≡ run_at self c.turns_left-left.result self.count self.phase
    = run_first self ∙ ap (λ (k : ℕ). run_at self k self.count self.phase) (sym c.turns_left-left.ensures.turns) in
    record {
      from = omega arith;
      inside = c.requires.inside;
      more = omega arith;
      within = c.requires.count;
      long = refl;
      kept = refl;
      run = subst (λ (x : RecvCursor). IsRunOf c.args.ops.now x c.args.field) same c.requires.run;
      fed = λ before all fed.
          subst (λ (x : RecvCursor). IsFed c.args.ops.now (before ++ take self.count c.args.tape.now) x all (drop c.args.used (take 56 c.args.buffer.now))) same fed;
      pace = omega arith;
    }

pub put_at-requires : goal.put_at-requires
put_at-requires c =
    let (before, all, first) = c.requires.fed in
    let l = c.loop-number in
    let i = l.invariant in
    let self = c.args.self.now in
    let here = run_at self l.left l.count l.phase in
    let number = c.in-Some.ensures.number in
    let pace = i.pace in
    let from = i.from in
    let end = i.inside in
    let field = run_field c.args.ops.now self here c.args.field c.requires.field i.run.told refl in
    let wide = field.wide in
    let whole = number.inside in
    let room = subst (λ (n : ℕ). HasRoom c.args.ops.now l.count (56 - l.end) n) (sym i.long)
    (room_on c.args.ops.now self.count l.count (56 - c.args.used) (56 - l.end) (length c.args.tape.now) c.requires.tape (omega (arith, pace, from, end))) in
    room_told c.args.ops.now before l.tape here all _ c.args.field c.in-Some.number (56 - l.end) (i.fed before all first) field number.least number.last i.within room (omega (arith, whole, wide)) i.run.told

pub loop-number-preserved : goal.loop-number-preserved
loop-number-preserved c =
    let (earlier, some, first) = c.requires.fed in
    let l = c.loop-number in
    let i = l.invariant in
    let self = c.args.self.now in
    let here = run_at self l.left l.count l.phase in
    let next = run_at self (l.left - 1) (l.count + 1) ((l.phase % 8 + c.args.field.width) % 8) in
    let number = c.in-Some.ensures.number in
    let more = c.in-Some.ensures.more in
    let deep = c.requires.run.deep in
    let few = stance_depth c.args.ops.now self first.at.stance in
    let long = c.turns_left-left.ensures.wide in
    let longer = run_long self l.left l.count l.phase long in
    let turned = run_turned self l.left l.count l.phase c.args.field deep few long in
    let inner = run_inner self l.left l.count l.phase deep few long in
    let left : 0 < (inner_loop here).turns = subst (λ (k : ℕ). 0 < k) (ap Loop.turns (sym inner)) more in
    let field = run_field c.args.ops.now self here c.args.field c.requires.field i.run.told refl in
    let wide = field.wide in
    let whole = number.inside in
    let from = i.from in
    let low = i.more in
    let pace = i.pace in
    let same = i.long in
    let end = i.inside in
    let room = subst (λ (n : ℕ). HasRoom c.args.ops.now l.count (56 - l.end) n) (sym same)
    (room_on c.args.ops.now self.count l.count (56 - c.args.used) (56 - l.end) (length c.args.tape.now) c.requires.tape (omega (arith, pace, from, end))) in
    let inside : l.count < length l.tape
    = room_told c.args.ops.now earlier l.tape here some _ c.args.field c.in-Some.number (56 - l.end) (i.fed earlier some first) field number.least number.last i.within room (omega (arith, whole, wide)) i.run.told in
    let kept_long = told_long l.tape c.put_at.new.tape l.count c.in-Some.number c.put_at.ensures in
    record {
      from = omega (arith, from);
      inside = whole;
      more = omega (arith, low);
      within = omega (arith, inside, kept_long);
      long = kept_long ∙ same;
      kept = told_kept l.tape c.put_at.new.tape self.count l.count c.in-Some.number low c.put_at.ensures ∙ i.kept;
      run = run_again c.args.ops.now here next c.args.field i.run turned few longer;
      fed = λ before all fed.
          let at = i.fed before all fed in
          let small = (here_of c.args.ops.now _ here all _ c.args.field at field).small in
          let idle = i.run.idle in
          let none : self.value ≡ 0 = let one : 256 ^ self.have ≡ 1 = ap (λ (k : ℕ). 256 ^ k) idle in omega (arith, small, one) in
          let grown = subst (λ (h : ℕ). Grows h self.value c.in-Some.number c.args.field.width (drop l.end (take 56 c.args.buffer.now)) (drop (l.end + c.args.field.width) (take 56 c.args.buffer.now))) (sym idle)
          (subst (λ (v : ℕ). Grows 0 v c.in-Some.number c.args.field.width (drop l.end (take 56 c.args.buffer.now)) (drop (l.end + c.args.field.width) (take 56 c.args.buffer.now))) (sym none) number.grows) in
          run_turn c.args.ops.now (before ++ take l.count l.tape) _ here next all _ _ c.args.field c.in-Some.number c.args.field.width at field i.run left few longer
          grown (omega (arith, idle)) number.last number.least
          (behind_more before (take l.count l.tape) (take (l.count + 1) c.put_at.new.tape) _
          (told_tape l.tape c.put_at.new.tape [] l.count (l.count + 1) c.in-Some.number c.args.field.told i.run.told inside c.put_at.ensures refl)) turned;
      pace = omega (arith, pace, wide);
    }

pub leave_run-requires-clause-high : goal.leave_run-requires-clause-high
leave_run-requires-clause-high c = let (before, all, fed) = c.requires.fed in stance_depth c.args.ops.now c.args.self.now fed.at.stance

pub returns-clause-fed : goal.returns-clause-fed
returns-clause-fed c before all fed =
    let l = c.loop-number in
    let self = c.args.self.now in
    let is = c.leave_run.ensures in
    subst (λ (x : RecvCursor). IsFed c.args.ops.now (before ++ take x.count l.tape) x all (drop l.end (take 56 c.args.buffer.now))) (sym is) (l.invariant.fed before all fed)

pub returns-clause-field : goal.returns-clause-field
returns-clause-field c = run_field c.args.ops.now c.args.self.now c.leave_run.new.self c.args.field c.requires.field c.requires.run.told (ap RecvCursor.place c.leave_run.ensures)

pub returns-clause-settled : goal.returns-clause-settled
returns-clause-settled c =
    run_settled c.args.ops.now c.leave_run.new.self c.args.field
    (run_field c.args.ops.now c.args.self.now c.leave_run.new.self c.args.field c.requires.field c.requires.run.told (ap RecvCursor.place c.leave_run.ensures)) c.requires.run.told
