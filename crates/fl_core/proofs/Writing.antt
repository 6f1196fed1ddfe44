-- A write at an end: k is the core before, and base the same by its fields.
use Rattle.std.proofs.Common.{◌≡◌, refl, subst, ℕ, Ok, Err}
use Rattle.fl_link.specs.Looks.{Look}
use Rattle.fl_endpoint.specs.declared.fault.EndFault.{EndFault}
use Rattle.fl_endpoint.specs.declared.answer.WriteAnswer.{WriteAnswer}
use Rattle.fl_endpoint.specs.Events.{Writes}
use Rattle.fl_core.specs.BoardView.{TheBoard}
use Rattle.fl_core.specs.BoardEvents.{ChangesEnd}
use Rattle.fl_core.specs.View.{TheCore, with_board}
use Rattle.fl_core.specs.Ends.{at_side, OnBoard, TriggersIf, woken_by, WritesAt}

module _ {P : Type 0} (puts : P → Look → P → Type 0) (e : ℕ) (k base : TheCore) (same : base ≡ k) (p q : P) (b : TheBoard) where
  pub writes_refused : (fault : EndFault) → ChangesEnd base.board e (λ s t. Writes puts s p (Err fault) t q) b → WritesAt puts e (at_side k p) (Err fault) (at_side (with_board base b) q)
  writes_refused fault h = subst (λ (x : TheCore). WritesAt puts e (at_side x p) (Err fault) (at_side (with_board base b) q)) same (record { wrote = b; writes = h; triggers = refl; rest = refl })

  pub writes_done : (answer : WriteAnswer) (k2 : TheCore) → ChangesEnd base.board e (λ s t. Writes puts s p (Ok answer) t q) b
      → OnBoard (with_board base b) (TriggersIf (woken_by (with_board base b) e (Ok answer))) k2 → WritesAt puts e (at_side k p) (Ok answer) (at_side k2 q)
  writes_done answer k2 h t =
      subst (λ (x : TheCore). WritesAt puts e (at_side x p) (Ok answer) (at_side k2 q)) same (record { wrote = b; writes = h; triggers = t.event; rest = t.rest })
