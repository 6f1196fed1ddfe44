use Rattle.std.proofs.Common.{◌≡◌, sym, subst}
use Rattle.fl_endpoint.specs.View.{interface_in}
use Rattle.fl_core.specs.BoardEvents.{Holds}
use Rattle.fl_core.specs.View.{TheCore}
use Rattle.fl_core.proofs.Seated.{end_kinds}
use Rattle.fl_core.proofs.Kept.{board_kept}
use Rattle.fl_core.proofs.Acting.{on_board}
use Rattle.fl_core.proofs.one_core.Core.exchange_rules.Goals as goal

pub exchange_rules-requires-clause-interface : goal.exchange_rules-requires-clause-interface
exchange_rules-requires-clause-interface c = subst (λ (k : TheCore). Holds k.board c.args.e (λ s. interface_in s.end ≡ interface_in c.args.other.now)) (sym c.self.view_is) c.requires.interface

pub invariant_of-self : goal.invariant_of-self
invariant_of-self c = board_kept _ c.exchange_rules.new.self c.self.invariant (end_kinds c.self.inside.board c.exchange_rules.new.self c.args.e _ c.exchange_rules.ensures.exchanges)

pub returns : goal.returns
returns c = record { exchanges = on_board c.args.self.now _ c.self.view_is _ c.exchange_rules.new.self c.exchange_rules.ensures.exchanges }
