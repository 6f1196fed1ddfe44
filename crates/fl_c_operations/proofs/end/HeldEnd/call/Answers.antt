use Rattle.std.proofs.Common.{◌≡◌, inr, refl, ap, subst}
use Rattle.fl_compile.specs.declared.program.Program.{Program}
use Rattle.fl_c_operations.specs.View.{TheHeld, handled_by}
use Rattle.fl_c_operations.specs.Ends.{CallsBy}
use Rattle.fl_c_operations.proofs.end.HeldEnd.call.Goals as goal

pub call_frag-requires : goal.call_frag-requires
call_frag-requires c = record { own = c.in-Some.ensures.own }

-- the only fragment of the call is in transmission
pub returns-in-Some : goal.returns-in-Some
returns-in-Some c =
    let i = c.self.inside in
    let view : TheHeld = record { end = i.end; side = i.side.side; calls = i.calls; handled = handled_by i.end.program i.handled } in
    let after : TheHeld = record { end = c.call_frag.new.self; side = i.side.side; calls = i.calls; handled = handled_by c.call_frag.new.self.program i.handled } in
    let same : view ≡ c.args.self.now = cc in
    let short = c.in-Some.ensures.short in
    let kept = ap (λ (p : Program). handled_by p i.handled) c.call_frag.ensures.program in
    record {
      calls = subst (λ (h : TheHeld). CallsBy h c.args.numbers.now c.called.result after) same
          (inr (short.0, c.call_frag.result, short.1, c.call_frag.ensures.calls short.0 short.1.3.fits short.2, c.called.ensures.told, (refl, refl, kept)));
    }
