use Rattle.std.proofs.Common.{◌≡◌, Option, Err, inl, inr, refl, sym, ap, subst, ◌∙◌}
use Rattle.std.specs.Prelude.{IsSome}
use Rattle.fl_c_operations.specs.declared.unread.UnreadCall.{UnreadCall}
use Rattle.fl_c_operations.specs.declared.answer.UseFault.TheVariants.{Unread}
use Rattle.fl_c_operations.specs.View.{TheHeld, handled_by}
use Rattle.fl_c_operations.specs.Ends.{ReceivesBy}
use Rattle.fl_c_operations.proofs.end.HeldEnd.receive.Goals as goal

pub returns-in-Some : goal.returns-in-Some
returns-in-Some c =
    let i = c.self.inside in
    let view : TheHeld = record { end = i.end; side = i.side.side; calls = i.calls; handled = handled_by i.end.program i.handled } in
    let same : view ≡ c.args.self.now = cc in
    let kept = subst (λ (o : Option UnreadCall). IsSome (handled_by i.end.program o)) (sym c.in-Some.is) refl in
    record { receives = subst (λ (h : TheHeld). ReceivesBy h (Err Unread) h) same (inl (kept, refl, refl)) }

pub receive_next-requires : goal.receive_next-requires
receive_next-requires c =
    let i = c.self.inside in
    let view : TheHeld = record { end = i.end; side = i.side.side; calls = i.calls; handled = handled_by i.end.program i.handled } in
    let same : view ≡ c.args.self.now = cc in
    record { read = ap (λ (h : TheHeld). h.handled) (sym same) ∙ ap (λ (o : Option UnreadCall). handled_by i.end.program o) c.in-None.is }

pub returns-in-None : goal.returns-in-None
returns-in-None c =
    let i = c.self.inside in
    let view : TheHeld = record { end = i.end; side = i.side.side; calls = i.calls; handled = handled_by i.end.program i.handled } in
    let same : view ≡ c.args.self.now = cc in
    let none = ap (λ (h : TheHeld). h.handled) (sym same) ∙ ap (λ (o : Option UnreadCall). handled_by i.end.program o) c.in-None.is in
    record { receives = inr (none, c.receive_next.ensures.receives) }
