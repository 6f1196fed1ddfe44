use Rattle.std.proofs.Common.{refl, subst, IfOk, arith}
use Rattle.std.proofs.lemmas.Result.{IfOk-weaker}
use Rattle.fl_value_data.specs.Value.{call_of}
use Rattle.fl_model.specs.Events.{Answer, refused}
use Rattle.fl_model.specs.Views.{brief_of}
use Rattle.fl_world_events.specs.Parts.{CallsIn}
use Rattle.fl_world_refines.specs.View.{WhereEnd, TheWorld}
use Rattle.fl_world_refines.specs.Sending.{CallsAt}
use Rattle.fl_world.proofs.Lifts.{unmade_below, core_read, end_read, few_kept, core_if_ok, core_put_back, on_err_map, at_location}
use Rattle.fl_world_events.proofs.Last.{on_err}
use Rattle.fl_world.proofs.Last.{call_last, unmade_last}
use Rattle.fl_world.proofs.world.World.call.Goals as goal

pub returns-in-Nowhere : goal.returns-in-Nowhere
returns-in-Nowhere c = record { calls = subst (λ (s : WhereEnd). CallsAt s c.args.e (call_of c.args.call.now) c.args.self.now (refused 92) c.args.self.now) c.in-Nowhere.ensures.location (refl, refl); kept = tt; last = tt }

pub call_unmade-requires : goal.call_unmade-requires
call_unmade-requires c = record { binding = unmade_below c.args.self.now c.args.e c.in-Unmade.ensures.location }

pub returns-in-Unmade-clause-calls : goal.returns-in-Unmade-clause-calls
returns-in-Unmade-clause-calls c = subst (λ (s : WhereEnd). IfOk c.call_unmade.result (λ a. CallsAt s c.args.e (call_of c.args.call.now) c.args.self.now (brief_of a) c.call_unmade.new.self)) c.in-Unmade.ensures.location c.call_unmade.ensures.calls

pub returns-in-Unmade-clause-kept : goal.returns-in-Unmade-clause-kept
returns-in-Unmade-clause-kept c = c.call_unmade.ensures.kept

pub index_mut-requires : goal.index_mut-requires
index_mut-requires c = omega (arith, core_read c.args.self.now _ c.self.view_is c.in-Made.n c.in-Made.place c.in-Made.ensures.there, c.self.inside.cores.ok.0)

pub call_in-requires : goal.call_in-requires
call_in-requires c = record {
  place = end_read c.args.self.now _ c.self.view_is c.in-Made.n c.in-Made.place c.in-Made.ensures.there c.index_mut.result.now _
      c.index_mut.ensures.value refl;
}

pub invariant_of-self : goal.invariant_of-self
invariant_of-self c = few_kept c.self.inside.cores.items c.in-Made.n c.call_in.new.core c.self.invariant

pub returns-in-Made-clause-calls : goal.returns-in-Made-clause-calls
returns-in-Made-clause-calls c = IfOk-weaker c.call_in.result _ _
    (λ a h. at_location (λ (s : WhereEnd) (w : TheWorld) (x : Answer) (w2 : TheWorld). CallsAt s c.args.e (call_of c.args.call.now) w x w2) c.args.self.now c.args.e
    _ c.in-Made.ensures.location (brief_of a) _ h)
    (core_if_ok c.args.self.now _ c.self.view_is c.in-Made.n (core_read c.args.self.now _ c.self.view_is c.in-Made.n c.in-Made.place
    c.in-Made.ensures.there) _ _ c.index_mut.ensures.value refl
    (λ a. CallsIn c.in-Made.place (call_of c.args.call.now) (brief_of a)) c.call_in.new.core c.call_in.result c.call_in.ensures.calls)

pub returns-in-Made-clause-kept : goal.returns-in-Made-clause-kept
returns-in-Made-clause-kept c = on_err_map _ _ c.call_in.result (λ k. core_put_back c.args.self.now _ c.self.view_is c.in-Made.n _ _ _
    c.index_mut.ensures.value refl k) c.call_in.ensures.kept

pub returns-in-Unmade-clause-last : goal.returns-in-Unmade-clause-last
returns-in-Unmade-clause-last c = on_err c.call_unmade.result (unmade_last c.args.e (call_of c.args.call.now) c.args.self.now c.in-Unmade.ensures.location) c.call_unmade.ensures.last

pub returns-in-Made-clause-last : goal.returns-in-Made-clause-last
returns-in-Made-clause-last c = on_err c.call_in.result (call_last c.args.e (call_of c.args.call.now) c.args.self.now _ c.self.view_is c.in-Made.n c.in-Made.place c.in-Made.ensures.location
    (core_read c.args.self.now _ c.self.view_is c.in-Made.n c.in-Made.place c.in-Made.ensures.there) _ c.index_mut.ensures.value) c.call_in.ensures.last
