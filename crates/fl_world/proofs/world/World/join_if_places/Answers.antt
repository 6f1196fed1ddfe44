use Rattle.std.proofs.Common.{refl, sym, ap, ◌∙◌, inr}
use Rattle.std.specs.Prelude.{not}
use Rattle.fl_world.proofs.Requested.{if_true, if_false}
use Rattle.fl_world.proofs.RingEnds.{joined_or_not, some_places}
use Rattle.fl_world.proofs.Kept.{on_any}
use Rattle.fl_world.proofs.world.World.join_if_places.Goals as goal

pub returns-then-not-has_both_places : goal.returns-then-not-has_both_places
returns-then-not-has_both_places c = record {
  joins = λ p there. if_true _ _ _ (ap not (sym c.has_both_places.ensures.places ∙ c.if-not-has_both_places.true)) (refl, refl);
  kept = tt;
  last = tt;
}

pub returns-then-is_begun : goal.returns-then-is_begun
returns-then-is_begun c = record {
  joins = λ p there. if_false _ _ _ (ap not (sym c.has_both_places.ensures.places ∙ c.if-not-has_both_places.false))
      (inr (c.is_begun.ensures.begun c.if-is_begun.true, (refl, refl)));
  kept = tt;
  last = tt;
}

pub join_over-requires : goal.join_over-requires
join_over-requires c = record {
  few = c.requires.few;
  program = c.requires.program;
  apart = c.requires.apart;
  client = c.has_both_places.ensures.client c.if-not-has_both_places.false;
  server = c.has_both_places.ensures.server c.if-not-has_both_places.false;
  new_client = c.is_begun.ensures.client c.if-is_begun.false;
  new_server = c.is_begun.ensures.server c.if-is_begun.false;
  fresh = c.requires.fresh;
}

pub returns-clause-joins : goal.returns-clause-joins
returns-clause-joins c =
    some_places c.args.want c.args.ring.size c.args.self.now c.join_over.new.self (sym c.if-not-has_both_places.false ∙ c.has_both_places.ensures.places)
    c.join_over.result (joined_or_not c.args.want c.args.ring.size c.args.self.now c.join_over.new.self c.join_over.result c.join_over.ensures.joins)

pub returns-clause-kept : goal.returns-clause-kept
returns-clause-kept c = c.join_over.ensures.kept

pub returns-clause-last : goal.returns-clause-last
returns-clause-last c = on_any _ c.join_over.result (sym c.has_both_places.ensures.places ∙ c.if-not-has_both_places.false)
