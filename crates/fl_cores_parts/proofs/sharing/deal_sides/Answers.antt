use Rattle.std.proofs.Common.{List, subst, sym}
use Rattle.std.proofs.lemmas.Result.{IfOk-weaker}
use Rattle.std.specs.List.{AllByRecursion}
use Rattle.fl_history_rings.specs.declared.board.RingEnds.{RingEnds}
use Rattle.fl_history_rings.specs.Cores.{IsRingOf}
use Rattle.fl_history_shares.specs.Dealt.{Deals}
use Rattle.fl_cores_parts.proofs.sharing.deal_sides.Goals as goal

pub deal-requires : goal.deal-requires
deal-requires c = record { rings = subst (AllByRecursion (IsRingOf c.args.cores)) (sym c.deref.ensures.value) c.in_ok-ends.ensures.between.of }

pub returns : goal.returns
returns c = record {
  deals = IfOk-weaker c.deal.result _ _ (λ d deals. record {
    ends = c.in_ok-ends.ends.items;
    between = c.in_ok-ends.ensures.between;
    deals = subst (λ (ends : List RingEnds). Deals ends c.args.cores d) c.deref.ensures.value deals;
  }) c.deal.ensures.deals;
}
