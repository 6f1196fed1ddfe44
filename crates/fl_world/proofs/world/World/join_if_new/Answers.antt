use Rattle.std.proofs.Common.{◌≡◌, ℕ, refl, ap, ◌∙◌, subst, length, inl, inr}
use Rattle.std.proofs.lemmas.Result.{IfOk-weaker}
use Rattle.fl_world_refines.specs.View.{TheWorld}
use Rattle.fl_world_refines.specs.Binding.{HasEndOf}
use Rattle.fl_world.specs.Requests.{IsNewAt}
use Rattle.fl_world.proofs.world.World.join_if_new.Goals as goal

pub returns-then-has_end_of : goal.returns-then-has_end_of
returns-then-has_end_of c =
    let same : length c.as_slice-binding.result.now ≡ length c.args.self.now.bindings
    = ap length (c.as_slice-binding.ensures.value ∙ ap (λ (x : TheWorld). x.bindings) c.self.view_is) in
    let there = subst (λ (n : ℕ). HasEndOf n c.args.want.client.core c.args.self.now) same (c.has_end_of.ensures.there c.if-has_end_of.true) in
    record { joins = λ p is. inr (there, (refl, refl)); kept = tt }

pub join_by_queues-requires : goal.join_by_queues-requires
join_by_queues-requires c =
    let same : length c.as_slice-binding.result.now ≡ length c.args.self.now.bindings
    = ap length (c.as_slice-binding.ensures.value ∙ ap (λ (x : TheWorld). x.bindings) c.self.view_is) in
    record {
      sized = c.requires.sized;
      few = c.requires.few;
      together = c.requires.together;
      client = c.requires.client;
      server = c.requires.server;
      program = c.requires.program;
      new = subst (λ (n : ℕ). IsNewAt n c.args.want.client.core c.args.self.now) same (c.has_end_of.ensures.new c.if-has_end_of.false);
    }

pub returns-clause-joins : goal.returns-clause-joins
returns-clause-joins c = IfOk-weaker c.join_by_queues.result _ _ (λ a h p is. inl (h.0, h.1 p is)) c.join_by_queues.ensures.joins

pub returns-clause-kept : goal.returns-clause-kept
returns-clause-kept c = c.join_by_queues.ensures.kept
