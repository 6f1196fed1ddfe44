use Rattle.std.proofs.Common.{rules, None, Option, refl, sym, ap, subst, ◌∙◌}
use Rattle.fl_compile.specs.declared.program.Program.{Program}
use Rattle.fl_c_operations.specs.declared.unread.UnreadCall.{UnreadCall}
use Rattle.fl_c_operations.specs.Numbers.{answer_of}
use Rattle.fl_c_operations.specs.View.{handled_by, held_as}
use Rattle.fl_c_operations.specs.Ends.{taken_as, ReadsBy}
use Rattle.fl_c_operations.proofs.Pairs.{not_taken, taken_then_read}
use Rattle.fl_c_operations.proofs.untaken.take_untaken.Goals as goal

-- no call was handled
pub returns-then-is_none : goal.returns-then-is_none
returns-then-is_none c =
    let end = c.receive_untaken-outcome.new.end in
    let kept = c.receive_untaken-outcome.new.handled in
    record {
      takes = λ p lent.
          let h = held_as c.args.end.now p c.args.calls.now None in
          let t = held_as end c.receive_untaken-outcome.new.side.side c.receive_untaken-outcome.new.calls (handled_by end.program kept) in (
            c.receive_untaken-outcome.result,
            c.of.ensures.numbers,
            not_taken h t c.args.room.now c.receive_untaken-outcome.result refl (c.receive_untaken-outcome.ensures.receives p lent) (c.receive_untaken-outcome.ensures.none (search rules)),
          );
      held = c.receive_untaken-outcome.ensures.held;
    }

-- the call that was handled is read
pub returns-clause-takes : goal.returns-clause-takes
returns-clause-takes c =
    let got = c.receive_untaken-outcome in
    let end = got.new.end in
    let side = got.new.side.side in
    let room = c.args.room.now in
    let reads = subst (λ (p : Program). ReadsBy (held_as end side got.new.calls (handled_by p got.new.handled)) room c.read_unread.result
    (held_as end side got.new.calls (handled_by p c.read_unread.new.handled)) c.read_unread.new.room) c.program.ensures.program (c.read_unread.ensures.reads end side got.new.calls) in
    λ p lent.
    let h = held_as c.args.end.now p c.args.calls.now None in
    let m = held_as end side got.new.calls (handled_by end.program got.new.handled) in
    let t = held_as end side got.new.calls (handled_by end.program c.read_unread.new.handled) in (
      taken_as c.read_unread.result,
      c.of-2.ensures.numbers ∙ ap answer_of c.taken.ensures.told,
      taken_then_read h m t room got.result c.read_unread.result c.read_unread.new.room refl (got.ensures.receives p lent) (got.ensures.some (search rules)) reads,
    )
