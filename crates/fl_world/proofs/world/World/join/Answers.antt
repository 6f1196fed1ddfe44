use Rattle.std.proofs.Common.{ℕ, refl, sym, ap, ◌∙◌, ◌*◌, length, List, [], ◌∷◌, ◌++◌}
use Rattle.fl_ring.specs.Duo.{TheDuo}
use Rattle.fl_world.proofs.Added.{links, as_many_linked}
use Rattle.fl_world.proofs.Kept.{no_answer, on_any, same_parts, few_again, core_lent}
use Rattle.std.specs.Vec.{with_items}
use Rattle.std.proofs.lemmas.List.{with_items_is}
use Rattle.fl_world.proofs.world.World.join.Goals as goal

pub invariant_of-self : goal.invariant_of-self
invariant_of-self c = c.self.invariant

pub returns-in_err-reserve-clause-joins : goal.returns-in_err-reserve-clause-joins
returns-in_err-reserve-clause-joins c = no_answer _ c.from_residual.result c.from_residual.ensures.0

pub returns-in_err-reserve-clause-kept : goal.returns-in_err-reserve-clause-kept
returns-in_err-reserve-clause-kept c = on_any _ c.from_residual.result (same_parts c.args.self.now _ c.self.view_is _ _ _ _ refl c.reserve.ensures.items refl refl)

pub link_both-requires-clause-few : goal.link_both-requires-clause-few
link_both-requires-clause-few c = few_again c.as_mut_slice.result.now c.self.inside.cores.items (ap length c.as_mut_slice.ensures.value) c.self.invariant

pub link_both-requires-clause-a : goal.link_both-requires-clause-a
link_both-requires-clause-a c = core_lent c.args.self.now _ c.self.view_is c.as_mut_slice.result.now c.as_mut_slice.ensures.value c.args.a c.requires.a

pub link_both-requires-clause-b : goal.link_both-requires-clause-b
link_both-requires-clause-b c = core_lent c.args.self.now _ c.self.view_is c.as_mut_slice.result.now c.as_mut_slice.ensures.value c.args.b c.requires.b

pub link_both-requires-clause-apart : goal.link_both-requires-clause-apart
link_both-requires-clause-apart c = c.requires.apart

pub invariant_of-self-in_err-link_both : goal.invariant_of-self-in_err-link_both
invariant_of-self-in_err-link_both c = few_again _ c.self.inside.cores.items (sym (with_items c.self.inside.cores c.link_both.new.cores).ok.0 ∙ c.self.inside.cores.ok.0) c.self.invariant

pub returns-in_err-link_both-clause-joins : goal.returns-in_err-link_both-clause-joins
returns-in_err-link_both-clause-joins c = no_answer _ c.from_residual-in_err-link_both.result c.from_residual-in_err-link_both.ensures.0

pub returns-in_err-link_both-clause-kept : goal.returns-in_err-link_both-clause-kept
returns-in_err-link_both-clause-kept c = on_any _ c.from_residual-in_err-link_both.result (same_parts c.args.self.now _ c.self.view_is _ _ _ _ (with_items_is c.self.inside.cores c.link_both.new.cores (ap length c.in_err-link_both.ensures.kept ∙ c.as_mut_slice.ensures.len) ∙ c.in_err-link_both.ensures.kept ∙ c.as_mut_slice.ensures.value) c.reserve.ensures.items refl refl)

pub invariant_of-self-2 : goal.invariant_of-self-2
invariant_of-self-2 c = few_again _ c.self.inside.cores.items (sym (with_items c.self.inside.cores c.link_both.new.cores).ok.0 ∙ c.self.inside.cores.ok.0) c.self.invariant

pub returns-clause-joins : goal.returns-clause-joins
returns-clause-joins c = (
  refl,
  links c.args.a c.args.b c.args.self.now _ c.self.view_is c.as_mut_slice.result.now c.as_mut_slice.ensures.value c.link_both.new.cores _
      (ap (λ (n : ℕ). 2 * n) (ap length (c.as_slice.ensures.value ∙ c.reserve.ensures.items))) c.in_ok-link_both.ensures.links _
      (with_items_is c.self.inside.cores c.link_both.new.cores (as_many_linked _ _ _ _ _ c.in_ok-link_both.ensures.links ∙ c.as_mut_slice.ensures.len))
      c.args.ring c.requires.new c.requires.sized c.push_reserved.new.self.items
      (c.push_reserved.ensures.items ∙ ap (λ (rs : List TheDuo). rs ++ c.args.ring ∷ []) c.reserve.ensures.items),
)
