use Rattle.std.proofs.Common.{◌≡◌, Option, Err, inl, refl, sym, ap, subst, ◌∙◌}
use Rattle.std.specs.Prelude.{IsSome}
use Rattle.fl_c_operations.specs.declared.unread.UnreadCall.{UnreadCall}
use Rattle.fl_c_operations.specs.declared.answer.UseFault.TheVariants.{Unread}
use Rattle.fl_c_operations.specs.View.{TheHeld, handled_by}
use Rattle.fl_c_operations.specs.Ends.{AnswersTakeCall}
use Rattle.fl_c_operations.proofs.end.HeldEnd.take_call.Goals as goal

pub returns-in-Some : goal.returns-in-Some
returns-in-Some c =
    let i = c.self.inside in
    let view : TheHeld = record { end = i.end; side = i.side.side; calls = i.calls; handled = handled_by i.end.program i.handled } in
    let same : view ≡ c.args.self.now = cc in
    let room = c.args.room.now in
    let kept = subst (λ (o : Option UnreadCall). IsSome (handled_by i.end.program o)) (sym c.in-Some.is) refl in
    record {
      takes = subst (λ (h : TheHeld). AnswersTakeCall h room c.of.result h room) same
          (Err Unread, c.of.ensures.numbers, inl (inl (kept, refl, refl), (λ e. absurd (cc)), refl));
    }

pub take_next-requires : goal.take_next-requires
take_next-requires c =
    let i = c.self.inside in
    let view : TheHeld = record { end = i.end; side = i.side.side; calls = i.calls; handled = handled_by i.end.program i.handled } in
    let same : view ≡ c.args.self.now = cc in
    record { read = ap (λ (h : TheHeld). h.handled) (sym same) ∙ ap (λ (o : Option UnreadCall). handled_by i.end.program o) c.in-None.is }
