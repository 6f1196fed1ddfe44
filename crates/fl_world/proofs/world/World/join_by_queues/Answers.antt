use Rattle.std.proofs.Common.{◌≡◌, refl, arith, sym, ap, ◌∙◌, length}
use Rattle.std.proofs.lemmas.List.{with_items_is}
use Rattle.std.specs.Vec.{with_items}
use Rattle.fl_world.proofs.Queued.{as_many_cores, same_world, core_there, may_join_at, joins_by_queues}
use Rattle.fl_world.proofs.Kept.{no_answer, on_any, same_parts, few_again}
use Rattle.fl_world.proofs.world.World.join_by_queues.Goals as goal

pub join_at-requires : goal.join_at-requires
join_at-requires c =
    let same = same_world _ c.args.self.now c.self.view_is c.reserve.new.self.items c.reserve-2.new.self.items c.reserve.ensures.items c.reserve-2.ensures.items in
    record {
      there = core_there c.args.want c.args.self.now _ same c.in_ok-both.both c.in_ok-both.ensures.joining c.as_mut_slice.result.now c.as_mut_slice.ensures.value
          c.requires.client;
      may = may_join_at c.args.want c.args.self.now _ same c.in_ok-both.both c.in_ok-both.ensures.joining c.as_mut_slice.result.now c.as_mut_slice.ensures.value
          c.requires.together c.requires.client c.requires.server c.requires.few c.requires.new;
    }

pub returns-clause-joins : goal.returns-clause-joins
returns-clause-joins c =
    let same = same_world _ c.args.self.now c.self.view_is c.reserve.new.self.items c.reserve-2.new.self.items c.reserve.ensures.items c.reserve-2.ensures.items in
    let many = as_many_cores _ _ _ _ _ _ c.in_ok-join_at.ensures.joins in
    let left : (with_items c.self.inside.cores c.join_at.new.cores).items ≡ c.join_at.new.cores
    = with_items_is c.self.inside.cores c.join_at.new.cores (omega (arith, many, c.as_mut_slice.ensures.len)) in (
      refl,
      joins_by_queues c.args.want c.args.self.now _ same c.in_ok-both.both c.in_ok-both.ensures.joining c.as_mut_slice.result.now c.as_mut_slice.ensures.value
          c.args.slots c.in_ok-forth.forth c.in_ok-back.back c.in_ok-forth.ensures.fresh c.in_ok-back.ensures.fresh
          c.join_at.new.cores _ c.in_ok-join_at.ensures.joins left c.join_at.new.forth c.join_at.new.back c.join_at.ensures.forth c.join_at.ensures.back
          c.push_both.new.queues.items c.push_both.ensures.both c.push_reserved.new.self.items c.push_reserved.ensures.items,
    )

pub invariant_of-self : goal.invariant_of-self
invariant_of-self c = c.self.invariant

pub invariant_of-self-2 : goal.invariant_of-self-2
invariant_of-self-2 c = c.self.invariant

pub returns-in_err-reserve-clause-joins : goal.returns-in_err-reserve-clause-joins
returns-in_err-reserve-clause-joins c = no_answer _ c.from_residual.result c.from_residual.ensures.0

pub returns-in_err-reserve-clause-kept : goal.returns-in_err-reserve-clause-kept
returns-in_err-reserve-clause-kept c = on_any _ c.from_residual.result (same_parts c.args.self.now _ c.self.view_is _ _ _ _ refl refl c.reserve.ensures.items refl)

pub invariant_of-self-in_err-reserve-2 : goal.invariant_of-self-in_err-reserve-2
invariant_of-self-in_err-reserve-2 c = c.self.invariant

pub returns-in_err-reserve-2-clause-joins : goal.returns-in_err-reserve-2-clause-joins
returns-in_err-reserve-2-clause-joins c = no_answer _ c.from_residual-in_err-reserve-2.result c.from_residual-in_err-reserve-2.ensures.0

pub returns-in_err-reserve-2-clause-kept : goal.returns-in_err-reserve-2-clause-kept
returns-in_err-reserve-2-clause-kept c = on_any _ c.from_residual-in_err-reserve-2.result (same_parts c.args.self.now _ c.self.view_is _ _ _ _ refl refl c.reserve.ensures.items c.reserve-2.ensures.items)

pub invariant_of-self-in_err-forth : goal.invariant_of-self-in_err-forth
invariant_of-self-in_err-forth c = c.self.invariant

pub returns-in_err-forth-clause-joins : goal.returns-in_err-forth-clause-joins
returns-in_err-forth-clause-joins c = no_answer _ c.from_residual-in_err-forth.result c.from_residual-in_err-forth.ensures.0

pub returns-in_err-forth-clause-kept : goal.returns-in_err-forth-clause-kept
returns-in_err-forth-clause-kept c = on_any _ c.from_residual-in_err-forth.result (same_parts c.args.self.now _ c.self.view_is _ _ _ _ refl refl c.reserve.ensures.items c.reserve-2.ensures.items)

pub invariant_of-self-in_err-back : goal.invariant_of-self-in_err-back
invariant_of-self-in_err-back c = c.self.invariant

pub returns-in_err-back-clause-joins : goal.returns-in_err-back-clause-joins
returns-in_err-back-clause-joins c = no_answer _ c.from_residual-in_err-back.result c.from_residual-in_err-back.ensures.0

pub returns-in_err-back-clause-kept : goal.returns-in_err-back-clause-kept
returns-in_err-back-clause-kept c = on_any _ c.from_residual-in_err-back.result (same_parts c.args.self.now _ c.self.view_is _ _ _ _ refl refl c.reserve.ensures.items c.reserve-2.ensures.items)

pub invariant_of-self-in_err-both : goal.invariant_of-self-in_err-both
invariant_of-self-in_err-both c = c.self.invariant

pub returns-in_err-both-clause-joins : goal.returns-in_err-both-clause-joins
returns-in_err-both-clause-joins c = no_answer _ c.from_residual-in_err-both.result c.from_residual-in_err-both.ensures.0

pub returns-in_err-both-clause-kept : goal.returns-in_err-both-clause-kept
returns-in_err-both-clause-kept c = on_any _ c.from_residual-in_err-both.result (same_parts c.args.self.now _ c.self.view_is _ _ _ _ refl refl c.reserve.ensures.items c.reserve-2.ensures.items)

pub invariant_of-self-in_err-join_at : goal.invariant_of-self-in_err-join_at
invariant_of-self-in_err-join_at c = few_again _ c.self.inside.cores.items (sym (with_items c.self.inside.cores c.join_at.new.cores).ok.0 ∙ c.self.inside.cores.ok.0) c.self.invariant

pub returns-in_err-join_at-clause-joins : goal.returns-in_err-join_at-clause-joins
returns-in_err-join_at-clause-joins c = no_answer _ c.from_residual-in_err-join_at.result c.from_residual-in_err-join_at.ensures.0

pub returns-in_err-join_at-clause-kept : goal.returns-in_err-join_at-clause-kept
returns-in_err-join_at-clause-kept c = on_any _ c.from_residual-in_err-join_at.result (same_parts c.args.self.now _ c.self.view_is _ _ _ _ (with_items_is c.self.inside.cores c.join_at.new.cores (ap length c.in_err-join_at.ensures.kept ∙ c.as_mut_slice.ensures.len) ∙ c.in_err-join_at.ensures.kept ∙ c.as_mut_slice.ensures.value) refl c.reserve.ensures.items c.reserve-2.ensures.items)

pub invariant_of-self-3 : goal.invariant_of-self-3
invariant_of-self-3 c = few_again _ c.self.inside.cores.items (sym (with_items c.self.inside.cores c.join_at.new.cores).ok.0 ∙ c.self.inside.cores.ok.0) c.self.invariant
