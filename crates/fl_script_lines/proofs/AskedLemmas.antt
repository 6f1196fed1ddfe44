-- A command asks one thing.
use Rattle.std.proofs.Common.{◌≡◌, inl, inr, ℕ, List, sym, ap, ◌∙◌}
use Rattle.fl_value.specs.CallText.{OneSpelling}
use Rattle.fl_script_lines.specs.Commands.{EndName, cores, link, disp, export, bind, call, show, write, turn, ack, register, deregister, reply, mwrite, forward, mack}
use Rattle.fl_script_lines.specs.Names.{Names}
use Rattle.fl_script_lines.specs.Asked.{Asked, CallAsks, asks_call}
use Rattle.fl_script_lines.specs.Told.{OneAsked}

both : (x y z : Asked) → x ≡ z → y ≡ z → x ≡ y
both x y z e f = e ∙ sym f

calls : OneSpelling → (n : Names) (e : EndName) (text : List ℕ) (x y : Asked) → CallAsks n e text x → CallAsks n e text y → x ≡ y
calls one n e text x y (inl h) (inl k) =
    let same = one text h.0 k.0 h.1 k.1 h.2 k.2 in
    h.3 ∙ (ap (λ (t : List ℕ). asks_call n e t h.1) same.0 ∙ (ap (asks_call n e k.0) same.1 ∙ sym k.3))
calls one n e text x y (inl h) (inr k) = absurd (k.0 h.0 h.1 h.2)
calls one n e text x y (inr h) (inl k) = absurd (h.0 k.0 k.1 k.2)
calls one n e text x y (inr h) (inr k) = h.1 ∙ sym k.1

pub one_asked_is : OneSpelling → OneAsked
one_asked_is one n (cores k) x y = both x y _
one_asked_is one n (link a b slots) x y = both x y _
one_asked_is one n (disp name core) x y = both x y _
one_asked_is one n (export s d i) x y = both x y _
one_asked_is one n (bind p d i s back) x y = both x y _
one_asked_is one n (call e text) x y = calls one n e text x y
one_asked_is one n (show e) x y = both x y _
one_asked_is one n (write e) x y = both x y _
one_asked_is one n (turn d) x y = both x y _
one_asked_is one n (ack e) x y = both x y _
one_asked_is one n (register e) x y = both x y _
one_asked_is one n (deregister e) x y = both x y _
one_asked_is one n (reply e message answer) x y = both x y _
one_asked_is one n (mwrite core neighbour) x y = both x y _
one_asked_is one n (forward core neighbour) x y = both x y _
one_asked_is one n (mack core neighbour) x y = both x y _
