use Rattle.std.proofs.Common.{◌≡◌, ◌⊎◌, ℕ, Option, Some, None, Result, Ok, Err, IfOk, OnErr, subst, refl, inl, inr, length, ◌≤◌, arith}
use Rattle.std.specs.declared.alloc.AllocError.{AllocError}
use Rattle.fl_model.specs.Events.{Answer, refused, nothing}
use Rattle.fl_world_refines.specs.View.{Given, TheWorld, ring_at}
use Rattle.fl_world_refines.specs.Lending.{Refuses, IsStray}
use Rattle.fl_world_refines.specs.Linking.{LinkNumbers, link_side_to, Forwards, ForwardsFirst}
use Rattle.fl_model.specs.declared.answer.BriefAnswer.{BriefAnswer}
use Rattle.fl_model.specs.Views.{brief_of}
use Rattle.fl_world.specs.Hearing.{FindsMessage, WantsToSay}
use Rattle.fl_world.proofs.Lent.{stray_ring, ring_here}
use Rattle.fl_world.proofs.world.World.forward.Goals as goal

-- by the link side that was found
abbrev by_link_side : (o : Option LinkNumbers) → ℕ → TheWorld → Answer → TheWorld → Type 0
by_link_side o core w a w2 = Given o (Refuses 73 w a w2) λ at. ForwardsFirst core at w a w2 ⊎ IsStray w.rings (ring_at at.side) w a w2

first : (w : TheWorld) (core neighbour : ℕ) (at : LinkNumbers) → Some at ≡ link_side_to w core neighbour → (r : Result BriefAnswer AllocError) (w2 : TheWorld)
    → IfOk r (λ a. ForwardsFirst core at w (brief_of a) w2) → IfOk r (λ a. Forwards core neighbour w (brief_of a) w2)
first w core neighbour at is (Ok a) w2 h = subst (λ (o : Option LinkNumbers). by_link_side o core w (brief_of a) w2) is (inl h)
first w core neighbour at is (Err e) w2 h = tt

first_says : (w : TheWorld) (core neighbour : ℕ) (at : LinkNumbers) → Some at ≡ link_side_to w core neighbour → (r : Result BriefAnswer AllocError)
    → OnErr r (FindsMessage core at w) → OnErr r (WantsToSay core neighbour w)
first_says w core neighbour at is (Ok a) h = tt
first_says w core neighbour at is (Err e) h = subst (λ (o : Option LinkNumbers). Given o ⊥ λ x. FindsMessage core x w) is h

no_link_side : (w : TheWorld) (core neighbour : ℕ) → None ≡ link_side_to w core neighbour → Forwards core neighbour w (refused 73) w
no_link_side w core neighbour is = subst (λ (o : Option LinkNumbers). by_link_side o core w (refused 73) w) is (refl, refl)

no_ring : (w base : TheWorld) → base ≡ w → (core neighbour : ℕ) (at : LinkNumbers) → Some at ≡ link_side_to w core neighbour → (i : ℕ) → i ≡ ring_at at.side
    → length base.rings ≤ i → Forwards core neighbour w nothing w
no_ring w base same core neighbour at is i ring past =
    subst (λ (o : Option LinkNumbers). by_link_side o core w nothing w) is (inr ((stray_ring w base same at.side i ring past).0, (refl, refl)))

pub returns-then-place-len-clause-forwards : goal.returns-then-place-len-clause-forwards
returns-then-place-len-clause-forwards c = no_ring c.args.self.now _ c.self.view_is c.args.core c.args.neighbour _ c.in-Some.ensures.link_side _
    c.ring_at-place.ensures.ring (omega (arith, c.if-place-len.true, c.len.ensures, c.self.inside.rings.ok.0))

pub forward_first-requires-clause-ring : goal.forward_first-requires-clause-ring
forward_first-requires-clause-ring c = ring_here c.args.self.now _ c.self.view_is _ _ c.ring_at-place.ensures.ring (omega (
  arith,
  c.if-place-len.false,
  c.len.ensures,
  c.self.inside.rings.ok.0,
))

pub returns-in_default-clause-forwards : goal.returns-in_default-clause-forwards
returns-in_default-clause-forwards c = no_link_side c.args.self.now c.args.core c.args.neighbour c.in_default.ensures.link_side

pub forward_first-requires-clause-link : goal.forward_first-requires-clause-link
forward_first-requires-clause-link c = c.in-Some.ensures.there

pub returns-clause-forwards : goal.returns-clause-forwards
returns-clause-forwards c = first c.args.self.now c.args.core c.args.neighbour _ c.in-Some.ensures.link_side c.forward_first.result _ c.forward_first.ensures.forwards

pub returns-clause-kept : goal.returns-clause-kept
returns-clause-kept c = c.forward_first.ensures.kept

pub returns-clause-last : goal.returns-clause-last
returns-clause-last c = first_says c.args.self.now c.args.core c.args.neighbour _ c.in-Some.ensures.link_side c.forward_first.result c.forward_first.ensures.last
