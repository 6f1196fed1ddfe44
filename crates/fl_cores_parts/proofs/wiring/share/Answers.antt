use Rattle.std.proofs.Common.{◌∙◌, sym, ap, subst, refl, ℕ, List, length}
use Rattle.fl_cores_parts.specs.Dealing.{AreOf, DealsRings, HandsOutQueues}
use Rattle.fl_cores_parts.proofs.Handing.{shares_out}
use Rattle.fl_cores_parts.proofs.wiring.share.Goals as goal

pub deal_sides-requires : goal.deal_sides-requires
deal_sides-requires c =
    let owners = c.in_ok-by_name.ensures.sides in
    record {
      count = ap length c.deref.ensures.value ∙ owners.named.count;
      of = subst (AreOf (length c.args.cores.now)) (sym c.deref.ensures.value) owners.of;
    }

pub hand_out_queues-requires : goal.hand_out_queues-requires
hand_out_queues-requires c =
    let owners = c.in_ok-by_name.ensures.queues in
    record {
      count = ap length c.deref-2.ensures.value ∙ owners.named.count ∙ ap length c.as_slice.ensures.value;
      of = subst (AreOf (length c.args.cores.now)) (sym c.deref-2.ensures.value) owners.of;
    }

pub returns : goal.returns
returns c =
    let cores = length c.args.cores.now in
    record {
      shares = shares_out c.args.cores.now c.args.rings.now c.args.queues.items (length c.args.rings.now) (length c.as_slice.result.now) cores
          c.in_ok-by_name.by_name.sides.items c.in_ok-by_name.by_name.queues.items c.in_ok-deal_sides.field-0 c.in_ok-hand_out_queues.field-0
          refl (ap length c.as_slice.ensures.value) refl c.in_ok-by_name.ensures.sides c.in_ok-by_name.ensures.queues
          (subst (λ (os : List ℕ). DealsRings c.args.rings.now os cores c.in_ok-deal_sides.field-0) c.deref.ensures.value c.in_ok-deal_sides.ensures.deals)
          (subst (λ (os : List ℕ). HandsOutQueues c.args.queues.items os cores c.in_ok-hand_out_queues.field-0) c.deref-2.ensures.value c.in_ok-hand_out_queues.ensures.hands_out);
    }
