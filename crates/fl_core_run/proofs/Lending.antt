-- The end that is due at a dispatcher, and the one of a name, where what they need is lent.
use Rattle.std.proofs.Common.{◌≡◌, ap, ◌∙◌, ℕ, Bool, if◌then◌else◌, Option, Some, None}
use Rattle.fl_base.specs.Given.{given}
use Rattle.fl_core.specs.BoardView.{due}
use Rattle.fl_core.specs.declared.wiring.Inlet.{Inlet}
use Rattle.fl_core.specs.View.{inlet_of}
use Rattle.fl_core_run.specs.Run.{TheRun, lends_in, lent_due}

module _ {S : Type 0} (s : TheRun S) where
  pub no_due : (n : ℕ) → due s.core.board n ≡ None → lent_due s n ≡ None
  no_due n none = ap (λ (o : Option ℕ). given o None λ e. given (inlet_of s.core e) None λ from. if lends_in s from then Some (record { end = e; inlet = from }) else None) none

  pub due_by : (n e : ℕ) (from : Inlet) (b : Bool) → due s.core.board n ≡ Some e → inlet_of s.core e ≡ Some from → lends_in s from ≡ b
      → lent_due s n ≡ (if b then Some (record { end = e; inlet = from }) else None)
  due_by n e from b is inlet lends =
      ap (λ (o : Option ℕ). given o None λ e. given (inlet_of s.core e) None λ from. if lends_in s from then Some (record { end = e; inlet = from }) else None) is
      ∙ ap (λ (o : Option Inlet). given o None λ from. if lends_in s from then Some (record { end = e; inlet = from }) else None) inlet
      ∙ ap (λ (x : Bool). if x then Some (record { end = e; inlet = from }) else None) lends
