use Rattle.std.proofs.Common.{◌++◌, ℕ, List, inl, inr, sym, ◌∙◌, ap}
use borrow.Author.Tests.{eqb-true}
use Rattle.fl_machine.proofs.Pours.{holds_none, put_all, fills}
use Rattle.fl_machine.proofs.send.fill.Goals as goal

pub put_numbers-filled-requires-clause-none : goal.put_numbers-filled-requires-clause-none
put_numbers-filled-requires-clause-none c = holds_none

pub loop-filled-init : goal.loop-filled-init
loop-filled-init c =
    let p = c.put_numbers-filled.ensures.puts in
    (c.put_numbers-filled.ensures.location, c.put_numbers-filled.ensures.settled, c.put_numbers-filled.ensures.place, (p.more, p.long, p.holds, sym p.bytes))

pub loop-filled-preserved : goal.loop-filled-preserved
loop-filled-preserved c =
    let (put, long, holds, joined) = c.loop-filled.invariant.3 in
    let p = c.put_next-filled.ensures put long holds in (
      c.settle.ensures.location,
      c.settle.ensures.settled,
      p.within,
      (put ++ p.more, p.long, p.holds, put_all put _ _ _ p.more joined (p.bytes ∙ ap (λ (x : List ℕ). p.more ++ x) c.settle.ensures.bytes)),
    )

pub returns-else-not-is_idle : goal.returns-else-not-is_idle
returns-else-not-is_idle c =
    let (put, long, holds, joined) = c.loop-filled.invariant.3 in
    let none = c.loop-filled.invariant.1 (eqb-true c.loop-filled.cursor.width 0 (sym c.is_idle.ensures ∙ c.if-not-is_idle.false)) in
    let f = fills c.loop-filled.buffer put _ _ c.loop-filled.filled holds long c.loop-filled.invariant.2 joined (inr none) in
    record { location = c.loop-filled.invariant.0; settled = c.loop-filled.invariant.1; bytes = f.each; left = f.left }

pub returns-after-loop-filled : goal.returns-after-loop-filled
returns-after-loop-filled c =
    let (put, long, holds, joined) = c.loop-filled.invariant.3 in
    let f = fills c.loop-filled.buffer put _ _ c.loop-filled.filled holds long c.loop-filled.invariant.2 joined (inl c.loop-filled-test.false) in
    record { location = c.loop-filled.invariant.0; settled = c.loop-filled.invariant.1; bytes = f.each; left = f.left }
