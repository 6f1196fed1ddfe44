use Rattle.std.proofs.Common.{◌≡◌, Ok, Some, Option, List, ℕ, refl, sym, ap, subst, ◌∙◌}
use Rattle.fl_ring.specs.SharedSides.{TheSide, SharedTakes}
use Rattle.fl_endpoint.specs.declared.answer.ReceiveAnswer.TheVariants.{Quiet, Empty}
use Rattle.fl_c_operations.specs.declared.answer.Outcome.TheVariants.{Acknowledgement, Nothing, Handled}
use Rattle.fl_c_operations.specs.declared.glance.Glance.TheVariants.{Nothing as NothingSeen, Acknowledgement as Acknowledged, Short as ShortSeen, Untaken}
use Rattle.fl_c_operations.specs.declared.unread.UnreadCall.TheVariants.{Short}
use Rattle.fl_c_operations.specs.View.{TheHeld, handled_by, held_as}
use Rattle.fl_c_operations.specs.Glances.{Glances}
use Rattle.fl_c_operations.specs.Ends.{ReceivesNext}
use Rattle.fl_c_operations.proofs.Sent.{receives_kept}
use Rattle.fl_c_operations.proofs.Receives.{short_taken}
use Rattle.fl_c_operations.proofs.end.HeldEnd.receive_next.Goals as goal

pub take_glance-requires : goal.take_glance-requires
take_glance-requires c = record { unseen = c.forget.ensures.none }

pub returns-in-Nothing : goal.returns-in-Nothing
returns-in-Nothing c =
    let i = c.self.inside in
    let view : TheHeld = record { end = i.end; side = i.side.side; calls = i.calls; handled = handled_by i.end.program i.handled } in
    let after : TheHeld = record { end = i.end; side = c.take_glance.new.side.side; calls = i.calls; handled = handled_by i.end.program i.handled } in
    let same : view ≡ c.args.self.now = cc in
    let glances = subst (λ (p : TheSide). Glances i.end i.between p NothingSeen c.take_glance.new.side.seen c.take_glance.new.side.side) c.forget.ensures.side c.in-Nothing.ensures.glances in
    let none = ap (λ (h : TheHeld). h.handled) same ∙ c.requires.read in
    record {
      receives = subst (λ (h : TheHeld). ReceivesNext h (Ok Nothing) after) same
          (Ok Empty, receives_kept SharedTakes i.end i.side.side c.take_glance.new.side.side (Ok Empty) i.calls 0 c.self.invariant.place (λ parts. (glances.0, glances.1, refl)), refl, none);
    }

pub returns-in-Acknowledgement : goal.returns-in-Acknowledgement
returns-in-Acknowledgement c =
    let i = c.self.inside in
    let view : TheHeld = record { end = i.end; side = i.side.side; calls = i.calls; handled = handled_by i.end.program i.handled } in
    let after : TheHeld = record { end = i.end; side = c.take_glance.new.side.side; calls = i.calls; handled = handled_by i.end.program i.handled } in
    let same : view ≡ c.args.self.now = cc in
    let glances = subst (λ (p : TheSide). Glances i.end i.between p Acknowledged c.take_glance.new.side.seen c.take_glance.new.side.side) c.forget.ensures.side c.in-Acknowledgement.ensures.glances in
    let none = ap (λ (h : TheHeld). h.handled) same ∙ c.requires.read in
    record {
      receives = subst (λ (h : TheHeld). ReceivesNext h (Ok Acknowledgement) after) same
          (Ok Quiet, receives_kept SharedTakes i.end i.side.side c.take_glance.new.side.side (Ok Quiet) i.calls 0 c.self.invariant.place (λ parts. (glances.0, glances.1, refl)), refl, none);
    }

pub returns-in-Short : goal.returns-in-Short
returns-in-Short c =
    let i = c.self.inside in
    let call = c.in-Short.call in
    let view : TheHeld = record { end = i.end; side = i.side.side; calls = i.calls; handled = handled_by i.end.program i.handled } in
    let after : TheHeld = record { end = i.end; side = c.take_glance.new.side.side; calls = i.calls; handled = handled_by i.end.program (Some (Short call)) } in
    let same : view ≡ c.args.self.now = cc in
    let glances = subst (λ (p : TheSide). Glances i.end i.between p (ShortSeen call) c.take_glance.new.side.seen c.take_glance.new.side.side) c.forget.ensures.side c.in-Short.ensures.glances in
    record {
      receives = subst (λ (h : TheHeld). ReceivesNext h (Ok Handled) after) same
          (short_taken c.law_one_reading.ensures.reading view after call.msg.0 _ c.self.invariant.place (c.self.invariant.idle glances.0) glances.1 refl refl refl);
    }

pub receive_untaken-requires : goal.receive_untaken-requires
receive_untaken-requires c = record { place = c.self.invariant.place; idle = c.self.invariant.idle; seen = c.in-Untaken.ensures.glances.1 }

pub invariant_of-self-in-Untaken : goal.invariant_of-self-in-Untaken
invariant_of-self-in-Untaken c =
    let i = c.self.inside in
    let glances = subst (λ (p : TheSide). Glances i.end i.between p Untaken c.take_glance.new.side.seen c.take_glance.new.side.side) c.forget.ensures.side c.in-Untaken.ensures.glances in
    c.receive_untaken.ensures.held i.side.side glances.0

-- the end was asked
pub returns-in-Untaken : goal.returns-in-Untaken
returns-in-Untaken c =
    let i = c.self.inside in
    let end = c.receive_untaken.new.end in
    let view : TheHeld = record { end = i.end; side = i.side.side; calls = i.calls; handled = handled_by i.end.program i.handled } in
    let after : TheHeld = record { end = end; side = c.receive_untaken.new.side.side; calls = c.receive_untaken.new.calls; handled = handled_by end.program c.receive_untaken.new.handled } in
    let same : view ≡ c.args.self.now = cc in
    let glances = subst (λ (p : TheSide). Glances i.end i.between p Untaken c.take_glance.new.side.seen c.take_glance.new.side.side) c.forget.ensures.side c.in-Untaken.ensures.glances in
    let none = ap (λ (h : TheHeld). h.handled) same ∙ c.requires.read in
    let next = c.receive_untaken.ensures.receives i.side.side glances.0 in
    let from_view = subst (λ (o : Option (List ℕ)). ReceivesNext (held_as i.end i.side.side i.calls o) c.receive_untaken.result after) (sym none) next in
    record { receives = subst (λ (h : TheHeld). ReceivesNext h c.receive_untaken.result after) same from_view }
