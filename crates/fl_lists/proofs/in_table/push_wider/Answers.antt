use Rattle.std.proofs.Common.{ap, ◌∙◌, arith}
use Rattle.fl_lists.specs.ThreeLists.{ThreeLists, place_of, pushed}
use Rattle.fl_lists.proofs.Sized.{pushed_sized, few_wider}
use Rattle.fl_lists.proofs.in_table.push_wider.Goals as goal

pub push-requires-clause-below : goal.push-requires-clause-below
push-requires-clause-below c = let kept = c.widen.auto.nodes in let below = c.requires.below in omega arith

pub push-requires-clause-free : goal.push-requires-clause-free
push-requires-clause-free c = ap (λ (w : ThreeLists). place_of w c.args.c) c.widen.ensures.lists ∙ c.requires.free

pub returns-clause-lists : goal.returns-clause-lists
returns-clause-lists c =
    c.push.ensures.lists ∙ ap (λ (w : ThreeLists). pushed w c.args.c c.args.place) c.widen.ensures.lists ∙ pushed_sized _ _ c.args.c c.args.place

pub returns-clause-few : goal.returns-clause-few
returns-clause-few c = few_wider 2 _ _ _ _ c.widen.ensures.same c.push.ensures.few
