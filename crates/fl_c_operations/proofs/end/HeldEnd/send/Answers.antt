use Rattle.std.proofs.Common.{◌≡◌, subst}
use Rattle.fl_c_operations.specs.Transmissions.{IsFragFrom}
use Rattle.fl_c_operations.specs.View.{TheHeld, handled_by}
use Rattle.fl_c_operations.proofs.end.HeldEnd.send.Goals as goal

pub send_frag-requires : goal.send_frag-requires
send_frag-requires c = record { own = c.in-Some.ensures.own }

pub returns-in-Some : goal.returns-in-Some
returns-in-Some c =
    let i = c.self.inside in
    let view : TheHeld = record { end = i.end; side = i.side.side; calls = i.calls; handled = handled_by i.end.program i.handled } in
    let same : view ≡ c.args.self.now = cc in
    let from = subst (λ (h : TheHeld). IsFragFrom h.end c.args.numbers.now c.in-Some.frag) same c.in-Some.ensures.short in
    record { sends = c.send_frag.ensures.sends c.args.numbers.now from }
