use Rattle.std.proofs.Common.{ap, ◌∙◌, length, refl, sym, subst, ◌<◌, List}
use Rattle.std.proofs.lemmas.List.{with_items_is}
use Rattle.std.proofs.lemmas.Result.{IfOk-weaker}
use Rattle.std.specs.Vec.{with_items}
use Rattle.fl_model.specs.Views.{answer_of, id_of}
use Rattle.fl_world_refines.specs.View.{TheWorld}
use Rattle.fl_world_refines.specs.declared.binding.Binding.{Binding}
use Rattle.fl_world.proofs.Kept.{same_parts, few_again, dispatcher_lent}
use Rattle.fl_world.proofs.Lifts.{on_err_both}
use Rattle.fl_world.proofs.Routes.{as_many, opened_over}
use Rattle.fl_world_events.proofs.Last.{on_err}
use Rattle.fl_world.proofs.Last.{may_on}
use Rattle.fl_world.proofs.world.World.open_on_link.Goals as goal

pub returns-clause-opens : goal.returns-clause-opens
returns-clause-opens c = IfOk-weaker c.open_over.result _ _ (λ a h.
    opened_over c.args.self.now _ c.self.view_is c.args.want c.args.link c.args.path c.requires.program c.index.result.now c.index.ensures _
    (ap length c.as_slice.ensures.value) _ _ c.as_mut_slice.ensures.value (answer_of a) _ h
    _ (with_items_is c.self.inside.cores c.open_over.new.cores (as_many _ _ _ _ h.begins.begins ∙ c.as_mut_slice.ensures.len))) c.open_over.ensures.opens

pub returns-clause-kept : goal.returns-clause-kept
returns-clause-kept c = on_err_both _ _ _ c.open_over.result (λ kept same.
    same_parts c.args.self.now _ c.self.view_is _ _ _ _ (with_items_is c.self.inside.cores c.open_over.new.cores (ap length kept ∙
    c.as_mut_slice.ensures.len) ∙ kept ∙ c.as_mut_slice.ensures.value)
    refl refl same) c.open_over.ensures.kept c.open_over.ensures.same

pub open_over-requires-clause-client : goal.open_over-requires-clause-client
open_over-requires-clause-client c = dispatcher_lent c.args.self.now _ c.self.view_is c.as_mut_slice.result.now c.as_mut_slice.ensures.value (id_of
    c.args.want.client) c.requires.client

pub open_over-requires-clause-few : goal.open_over-requires-clause-few
open_over-requires-clause-few c = subst (λ (bs : List Binding). length bs < 1024) (sym (c.as_slice.ensures.value ∙ ap (λ (x : TheWorld). x.bindings)
    c.self.view_is)) c.requires.few

pub invariant_of-self : goal.invariant_of-self
invariant_of-self c = few_again _ c.self.inside.cores.items (sym (with_items c.self.inside.cores c.open_over.new.cores).ok.0 ∙ c.self.inside.cores.ok.0)
    c.self.invariant

pub returns-clause-last : goal.returns-clause-last
returns-clause-last c = on_err c.open_over.result (may_on c.args.want c.args.link c.args.path c.args.self.now _ c.self.view_is _ (ap length c.as_slice.ensures.value)
    c.as_mut_slice.result.now c.as_mut_slice.ensures.value) c.open_over.ensures.last
