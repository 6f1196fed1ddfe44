-- Cores without sides that did nothing ran in one order, that of no steps.
use Rattle.std.proofs.Common.{ℕ, ◌≡◌, refl, sym, ◌∙◌, ap, subst, List, [], slice_get, Some, None}
use mathlib.Core.Option.{some-ne-none}
use Rattle.atomic_table.specs.Seated.{TableId}
use Rattle.fl_history_rings.specs.declared.board.Entry.{Entry}
use Rattle.fl_history_rings.specs.Cores.{TheCore}
use Rattle.fl_history_sides.specs.States.{TheHistorySide}
use Rattle.fl_history_sides.specs.Core.{AreSidesOf, IsStepBy}
use Rattle.std.specs.List.{AllByRecursion}
use Rattle.fl_history_joined.specs.Runs.{IsIdle, IdleCoresRan}
use Rattle.fl_history_orders.specs.Orders.{CoreMoment, HoldsSides}

no_sides : (c : TheCore) (ss : List TheHistorySide) → ss ≡ [] → c.steps ≡ [] → AreSidesOf c ss
no_sides c ss none nothing =
    subst (λ (l : List TheHistorySide). AreSidesOf c l) (sym none)
    (record { each = tt; apart = λ i j k at. absurd (cc); did = subst (λ (es : List Entry). AllByRecursion (IsStepBy c.number []) es) (sym nothing) tt })

holds_none : (table : TableId) (n : ℕ) (x : CoreMoment) → IsIdle table n x → HoldsSides table [] x
holds_none table n x idle = record {
  sides = no_sides x.core x.run.rings idle.rings idle.steps;
  table_is = idle.table_is;
  owns = λ i p at. absurd (let none : None ≡ Some p = sym (ap (λ (l : List TheHistorySide). slice_get l i) idle.rings) ∙ at in cc);
}

pub idle_cores_ran : IdleCoresRan
idle_cores_ran table jobs count at idle = record {
  held = λ s end there. absurd (some-ne-none end (sym there));
  holds = λ n low. holds_none table n (at n) (idle n low);
  numbered = λ n low. (idle n low).number;
  nothing_yet = λ n low. (idle n low).steps;
  goes = λ n low. refl;
  no_more = λ n far. refl;
  log = [];
  ways = [];
  runs = refl;
  by_its_core = λ i e there. absurd (some-ne-none e (sym there));
  did = λ n low. sym (idle n low).steps;
}
