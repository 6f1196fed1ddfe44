use Rattle.std.proofs.Common.{◌∙◌, refl, sym, ap, inl, Err}
use Rattle.std.proofs.lemmas.Result.{IfOk-weaker}
use Rattle.fl_model.specs.Views.{answer_of}
use Rattle.fl_ring.specs.Duo.{TheDuo}
use Rattle.fl_ring.specs.declared.fault.RingFault.{RingFault}
use Rattle.fl_world.proofs.Added.{first_there, second_there, apart, adds_link}
use Rattle.fl_world.proofs.Requested.{if_true, if_false}
use Rattle.fl_world.proofs.Kept.{on_any}
use Rattle.fl_world.proofs.Last.{link_last}
use Rattle.fl_world.proofs.world.World.add_link.Goals as goal

pub returns-then-is_no_pair-clause-adds : goal.returns-then-is_no_pair-clause-adds
returns-then-is_no_pair-clause-adds c = if_true _ _ _ (sym c.is_no_pair.ensures.no_pair ∙ c.if-is_no_pair.true) (refl, refl)

pub join-requires-clause-a : goal.join-requires-clause-a
join-requires-clause-a c = first_there c.args.a c.args.b c.args.self.now (sym c.is_no_pair.ensures.no_pair ∙ c.if-is_no_pair.false)

pub join-requires-clause-b : goal.join-requires-clause-b
join-requires-clause-b c = second_there c.args.a c.args.b c.args.self.now (sym c.is_no_pair.ensures.no_pair ∙ c.if-is_no_pair.false)

pub join-requires-clause-apart : goal.join-requires-clause-apart
join-requires-clause-apart c = apart c.args.a c.args.b c.args.self.now (sym c.is_no_pair.ensures.no_pair ∙ c.if-is_no_pair.false)

pub returns-in-Err-BadSize-clause-adds : goal.returns-in-Err-BadSize-clause-adds
returns-in-Err-BadSize-clause-adds c = if_false _ _ _ (sym c.is_no_pair.ensures.no_pair ∙ c.if-is_no_pair.false)
    (inl (c.in-Err-BadSize.ensures.bad_size.0 (ap (λ (f : RingFault). Err f) c.in-Err-BadSize.field-0-is), (refl, refl)))

pub returns-in-Ok-clause-adds : goal.returns-in-Ok-clause-adds
returns-in-Ok-clause-adds c = IfOk-weaker c.join.result _ _ (λ a h.
    adds_link c.args.a c.args.b c.args.self.now (sym c.is_no_pair.ensures.no_pair ∙ c.if-is_no_pair.false) c.in-Ok.ring.size c.args.slots
    (ap (λ (r : TheDuo). r.size) c.in-Ok.ensures.made) (answer_of a) _ h) c.join.ensures.joins

pub returns-in-Ok-clause-last : goal.returns-in-Ok-clause-last
returns-in-Ok-clause-last c = on_any _ c.join.result (link_last c.args.a c.args.b c.args.slots c.args.self.now
    (sym c.is_no_pair.ensures.no_pair ∙ c.if-is_no_pair.false) (λ no. no c.in-Ok.ensures.sized))
