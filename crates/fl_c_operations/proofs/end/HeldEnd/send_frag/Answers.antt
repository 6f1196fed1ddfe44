use Rattle.std.proofs.Common.{◌≡◌, refl, sym, ap, subst}
use Rattle.fl_compile.specs.declared.program.Program.{Program}
use Rattle.fl_c_operations.specs.Transmissions.{IsFragFrom}
use Rattle.fl_c_operations.specs.View.{TheHeld, handled_by}
use Rattle.fl_c_operations.specs.Ends.{sent_one, AnswersSend}
use Rattle.fl_c_operations.proofs.Pairs.{sends_one}
use Rattle.fl_c_operations.proofs.end.HeldEnd.send_frag.Goals as goal

pub send_frag-requires : goal.send_frag-requires
send_frag-requires c = record { own = c.requires.own }

pub returns : goal.returns
returns c =
    let i = c.self.inside in
    let end = c.send_frag.new.self in
    let view : TheHeld = record { end = i.end; side = i.side.side; calls = i.calls; handled = handled_by i.end.program i.handled } in
    let after : TheHeld = record { end = end; side = c.send_frag.new.side.side; calls = i.calls; handled = handled_by end.program i.handled } in
    let same : view ≡ c.args.self.now = cc in
    let kept = ap (λ (p : Program). handled_by p i.handled) c.send_frag.ensures.program in
    record {
      sends = λ numbers is.
          let from : IsFragFrom i.end numbers c.args.frag = subst (λ (h : TheHeld). IsFragFrom h.end numbers c.args.frag) (sym same) is in
          let one = c.send_frag.ensures.sends from.0 from.1.3.fits from.2 in
          subst (λ (h : TheHeld). AnswersSend h numbers c.sent_one.result after) same
          (sent_one c.send_frag.result, c.sent_one.ensures.told, sends_one view after numbers from.0 c.send_frag.result from.1 one refl kept);
    }
