use Rattle.std.proofs.Common.{◌∙◌, ap, subst, IfSome, length, ◌<◌, List, Option, ℕ}
use Rattle.fl_core.specs.View.{TheCore, place_in}
use Rattle.fl_core.proofs.Acting.{if_placed}
use Rattle.fl_core.proofs.one_core.Core.place.Goals as goal

pub returns-clause-within : goal.returns-clause-within
returns-clause-within c =
    subst (λ (k : TheCore). IfSome c.place_in.result (λ e. e < length k.board.seats)) c.self.view_is
    (if_placed _ c.args.name c.place_in.result c.self.invariant (c.place_in.ensures.place ∙ ap (λ (xs : List (Option ℕ)). place_in xs c.args.name) c.as_slice.ensures.value))
