use Rattle.std.proofs.Common.{◌≡◌, ◌∷◌, Ok, Err, Some, None, Option, List, ℕ, refl, sym, ap, subst, ◌∙◌}
use Rattle.fl_ring.specs.SharedSides.{TheSide, SharedTakes}
use Rattle.fl_endpoint.specs.declared.answer.ReceiveAnswer.TheVariants.{Quiet, Empty}
use Rattle.fl_codec.specs.Codecs.{numbers_of}
use Rattle.fl_c_operations.specs.declared.answer.Outcome.TheVariants.{Acknowledgement, Nothing, Handled, CallTaken}
use Rattle.fl_c_operations.specs.declared.answer.UseFault.{UseFault}
use Rattle.fl_c_operations.specs.declared.glance.Glance.TheVariants.{Nothing as NothingSeen, Acknowledgement as Acknowledged, Short as ShortSeen, Untaken}
use Rattle.fl_c_operations.specs.declared.unread.UnreadCall.TheVariants.{Short}
use Rattle.fl_c_operations.specs.Numbers.{answer_of}
use Rattle.fl_c_operations.specs.View.{TheHeld, handled_by, held_as}
use Rattle.fl_c_operations.specs.Glances.{Glances}
use Rattle.fl_c_operations.specs.Ends.{ReceivesNext, taken_as, AnswersTakeCall}
use Rattle.fl_c_operations.proofs.Sent.{receives_kept}
use Rattle.fl_c_operations.proofs.Receives.{short_taken}
use Rattle.fl_c_operations.proofs.Pairs.{taken_whole, taken_short, not_taken}
use Rattle.fl_c_operations.proofs.end.HeldEnd.take_next.Goals as goal

pub take_glance-requires : goal.take_glance-requires
take_glance-requires c = record { unseen = c.forget.ensures.none }

pub returns-in-Nothing : goal.returns-in-Nothing
returns-in-Nothing c =
    let i = c.self.inside in
    let view : TheHeld = record { end = i.end; side = i.side.side; calls = i.calls; handled = handled_by i.end.program i.handled } in
    let after : TheHeld = record { end = i.end; side = c.take_glance.new.side.side; calls = i.calls; handled = handled_by i.end.program i.handled } in
    let same : view ≡ c.args.self.now = cc in
    let room = c.args.room.now in
    let glances = subst (λ (p : TheSide). Glances i.end i.between p NothingSeen c.take_glance.new.side.seen c.take_glance.new.side.side) c.forget.ensures.side c.in-Nothing.ensures.glances in
    let none = ap (λ (h : TheHeld). h.handled) same ∙ c.requires.read in
    let next : ReceivesNext view (Ok Nothing) after
    = (Ok Empty, receives_kept SharedTakes i.end i.side.side c.take_glance.new.side.side (Ok Empty) i.calls 0 c.self.invariant.place (λ parts. (glances.0, glances.1, refl)), refl, none) in
    record {
      takes = subst (λ (h : TheHeld). AnswersTakeCall h room c.of.result after room) same
          (Ok Nothing, c.of.ensures.numbers, not_taken view after room (Ok Nothing) none next (λ e. absurd (cc)));
    }

pub returns-in-Acknowledgement : goal.returns-in-Acknowledgement
returns-in-Acknowledgement c =
    let i = c.self.inside in
    let view : TheHeld = record { end = i.end; side = i.side.side; calls = i.calls; handled = handled_by i.end.program i.handled } in
    let after : TheHeld = record { end = i.end; side = c.take_glance.new.side.side; calls = i.calls; handled = handled_by i.end.program i.handled } in
    let same : view ≡ c.args.self.now = cc in
    let room = c.args.room.now in
    let glances = subst (λ (p : TheSide). Glances i.end i.between p Acknowledged c.take_glance.new.side.seen c.take_glance.new.side.side) c.forget.ensures.side c.in-Acknowledgement.ensures.glances in
    let none = ap (λ (h : TheHeld). h.handled) same ∙ c.requires.read in
    let next : ReceivesNext view (Ok Acknowledgement) after
    = (Ok Quiet, receives_kept SharedTakes i.end i.side.side c.take_glance.new.side.side (Ok Quiet) i.calls 0 c.self.invariant.place (λ parts. (glances.0, glances.1, refl)), refl, none) in
    record {
      takes = subst (λ (h : TheHeld). AnswersTakeCall h room c.of-in-Acknowledgement.result after room) same
          (Ok Acknowledgement, c.of-in-Acknowledgement.ensures.numbers, not_taken view after room (Ok Acknowledgement) none next (λ e. absurd (cc)));
    }

-- a short call is taken, and read
pub returns-in-Ok : goal.returns-in-Ok
returns-in-Ok c =
    let i = c.self.inside in
    let call = c.in-Short.call in
    let side = c.take_glance.new.side.side in
    let view : TheHeld = record { end = i.end; side = i.side.side; calls = i.calls; handled = handled_by i.end.program i.handled } in
    let handled : TheHeld = record { end = i.end; side = side; calls = i.calls; handled = handled_by i.end.program (Some (Short call)) } in
    let same : view ≡ c.args.self.now = cc in
    let room = c.args.room.now in
    let glances = subst (λ (p : TheSide). Glances i.end i.between p (ShortSeen call) c.take_glance.new.side.seen c.take_glance.new.side.side) c.forget.ensures.side c.in-Short.ensures.glances in
    let none = ap (λ (h : TheHeld). h.handled) same ∙ c.requires.read in
    let next = short_taken c.law_one_reading.ensures.reading view handled call.msg.0 _ c.self.invariant.place (c.self.invariant.idle glances.0) glances.1 refl refl refl in
    let after : TheHeld = record { end = i.end; side = side; calls = i.calls; handled = handled_by i.end.program i.handled } in
    let gone : after ≡ held_as i.end side i.calls None = ap (λ (o : Option (List ℕ)). held_as i.end side i.calls o) none in
    record {
      takes = subst (λ (h : TheHeld). AnswersTakeCall h room c.of-in-Ok.result after c.put_short.new.room) same
          (subst (λ (t : TheHeld). AnswersTakeCall view room c.of-in-Ok.result t c.put_short.new.room) (sym gone)
          (Ok (CallTaken c.in-Ok.count), c.of-in-Ok.ensures.numbers, taken_whole view handled room c.in-Ok.count c.put_short.new.room (call.msg.0 ∷ numbers_of call.numbers) none next refl c.in-Ok.ensures.puts));
    }

-- there is too little room for it
pub returns-in-Err : goal.returns-in-Err
returns-in-Err c =
    let i = c.self.inside in
    let call = c.in-Short.call in
    let side = c.take_glance.new.side.side in
    let view : TheHeld = record { end = i.end; side = i.side.side; calls = i.calls; handled = handled_by i.end.program i.handled } in
    let handled : TheHeld = record { end = i.end; side = side; calls = i.calls; handled = handled_by i.end.program (Some (Short call)) } in
    let same : view ≡ c.args.self.now = cc in
    let room = c.args.room.now in
    let glances = subst (λ (p : TheSide). Glances i.end i.between p (ShortSeen call) c.take_glance.new.side.seen c.take_glance.new.side.side) c.forget.ensures.side c.in-Short.ensures.glances in
    let none = ap (λ (h : TheHeld). h.handled) same ∙ c.requires.read in
    let next = short_taken c.law_one_reading.ensures.reading view handled call.msg.0 _ c.self.invariant.place (c.self.invariant.idle glances.0) glances.1 refl refl refl in
    record {
      takes = subst (λ (h : TheHeld). AnswersTakeCall h room c.of-in-Err.result handled c.put_short.new.room) same
          (taken_as (Err c.in-Err.fault), c.of-in-Err.ensures.numbers ∙ ap (λ (f : UseFault). answer_of (Err f)) c.stays.ensures.told, taken_short view handled room c.in-Err.fault c.put_short.new.room (call.msg.0 ∷ numbers_of call.numbers) none next refl c.in-Err.ensures.puts);
    }

pub take_untaken-requires : goal.take_untaken-requires
take_untaken-requires c = record { place = c.self.invariant.place; idle = c.self.invariant.idle; seen = c.in-Untaken.ensures.glances.1 }

pub invariant_of-self-in-Untaken : goal.invariant_of-self-in-Untaken
invariant_of-self-in-Untaken c =
    let i = c.self.inside in
    let glances = subst (λ (p : TheSide). Glances i.end i.between p Untaken c.take_glance.new.side.seen c.take_glance.new.side.side) c.forget.ensures.side c.in-Untaken.ensures.glances in
    c.take_untaken.ensures.held i.side.side glances.0

-- the end was asked
pub returns-in-Untaken : goal.returns-in-Untaken
returns-in-Untaken c =
    let i = c.self.inside in
    let end = c.take_untaken.new.end in
    let view : TheHeld = record { end = i.end; side = i.side.side; calls = i.calls; handled = handled_by i.end.program i.handled } in
    let after : TheHeld = record { end = end; side = c.take_untaken.new.side.side; calls = c.take_untaken.new.calls; handled = handled_by end.program c.take_untaken.new.handled } in
    let same : view ≡ c.args.self.now = cc in
    let room = c.args.room.now in
    let written = c.take_untaken.new.room in
    let glances = subst (λ (p : TheSide). Glances i.end i.between p Untaken c.take_glance.new.side.seen c.take_glance.new.side.side) c.forget.ensures.side c.in-Untaken.ensures.glances in
    let none = ap (λ (h : TheHeld). h.handled) same ∙ c.requires.read in
    let takes = c.take_untaken.ensures.takes i.side.side glances.0 in
    let from_view = subst (λ (o : Option (List ℕ)). AnswersTakeCall (held_as i.end i.side.side i.calls o) room c.take_untaken.result after written) (sym none) takes in
    record { takes = subst (λ (h : TheHeld). AnswersTakeCall h room c.take_untaken.result after written) same from_view }
