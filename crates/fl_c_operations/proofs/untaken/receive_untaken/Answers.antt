use Rattle.std.proofs.Common.{take, rules, Ok, None, Some, Option, refl, sym, subst, ◌∙◌, Result}
use Rattle.fl_base.specs.declared.fragment.Frag.{Frag}
use Rattle.fl_ring.specs.SharedSides.{TheSide}
use Rattle.fl_c_operations.specs.Seen.{IsAfterLook}
use Rattle.fl_c_operations.specs.declared.answer.Outcome.{Outcome}
use Rattle.fl_c_operations.specs.declared.answer.UseFault.{UseFault}
use Rattle.fl_c_operations.specs.declared.unread.UnreadCall.TheVariants.{Taped}
use Rattle.fl_c_operations.specs.View.{handled_by, held_as}
use Rattle.fl_c_operations.specs.Ends.{ReceivesNext}
use Rattle.fl_c_operations.proofs.Receives.{short_taken, received_next, left_between}
use Rattle.fl_c_operations.proofs.Pairs.{told_otherwise, told_handled}
use Rattle.fl_c_operations.proofs.untaken.receive_untaken.Goals as goal

-- the only fragment of a call is taken
pub returns-in-Some : goal.returns-in-Some
returns-in-Some c =
    let end = c.args.end.now in
    let call = c.in-Some.call in
    let side = c.take_taped.new.side.side in
    record {
      receives = λ p lent.
          let (seen, short) = c.in-Some.ensures.some p lent in
          short_taken c.law_one_reading.ensures.reading (held_as end p c.args.calls.now None) (held_as end side c.args.calls.now (handled_by end.program (Some (Taped call)))) call.msg.0 (take call.count call.numbers)
          c.requires.place (c.requires.idle (c.requires.seen seen)) short refl refl refl;
      held = λ p lent. record { place = c.requires.place; idle = c.requires.idle };
      none = λ e. absurd (cc);
      some = λ e. refl;
    }

-- the end was asked
pub returns : goal.returns
returns c =
    let end = c.receive_lent.new.end in
    let kept = c.received-outcome.result.1 in
    let told = c.received-outcome.ensures.told in
    let still = c.in_default.ensures.none in
    let after_look : (p : TheSide) → IsAfterLook c.args.end.now p c.args.side.now.seen c.args.side.now.side → IsAfterLook c.args.end.now p c.take_taped.new.side.seen c.take_taped.new.side.side
    = λ p lent. subst (λ (o : Option Frag). IsAfterLook c.args.end.now p o c.take_taped.new.side.side) (sym still.1)
    (subst (λ (q : TheSide). IsAfterLook c.args.end.now p c.args.side.now.seen q) (sym still.0) lent) in
    record {
      receives = λ p lent.
          let h = held_as c.args.end.now p c.args.calls.now None in
          let t = held_as end c.receive_lent.new.side.side c.receive_lent.new.calls (handled_by end.program kept) in
          let got = c.receive_lent.ensures.receives p (after_look p lent) in
          subst (λ (r : Result Outcome UseFault). ReceivesNext h r t) (sym told) (received_next h t c.receive_lent.result kept got c.received-outcome.ensures.unread refl);
      held = λ p lent. record { place = c.receive_lent.ensures.place; idle = λ some. left_between c.args.end.now end c.args.calls.now c.receive_lent.new.calls c.receive_lent.result kept c.received-outcome.ensures.unread (search (rules, some)) (c.receive_lent.ensures.receives p (after_look p lent)) };
      none = λ e r. told_otherwise c.receive_lent.result kept c.received-outcome.ensures.unread e (sym told ∙ r);
      some = λ e. told ∙ told_handled c.receive_lent.result kept c.received-outcome.ensures.unread e;
    }
