use Rattle.std.proofs.Common.{refl, sym, subst, ℕ, Option, Some}
use Rattle.fl_core_run.specs.Run.{run_by}
use Rattle.fl_core_run.specs.Steps.{reply_rule, RulesAt}
use Rattle.fl_core_run.proofs.Calling.{ruled, placed_still, placed_then}
use Rattle.fl_core_run.proofs.ends.try_rule.Goals as goal

pub law_sound_at-requires : goal.law_sound_at-requires
law_sound_at-requires g c = record { there = c.in-Some.ensures.within }

pub reply_rule-requires : goal.reply_rule-requires
reply_rule-requires g c = c.in-Some.ensures.within

pub advance-requires : goal.advance-requires
advance-requires g c = record { left = c.requires.left }

pub returns-in-None : goal.returns-in-None
returns-in-None g c = record {
  rules = subst (λ (o : Option ℕ). RulesAt g.S.CoreSides.ways (reply_rule c.args.name c.args.msg c.args.reply) o (run_by g.S.CoreSides.states c.args.run.now) (run_by g.S.CoreSides.states c.args.run.now)) c.in-None.ensures.place refl;
  place = record { is = sym c.in-None.ensures.place; within = tt };
}

pub returns-in-Some : goal.returns-in-Some
returns-in-Some g c = record {
  rules = ruled g.S.CoreSides.ways c.args.name (run_by g.S.CoreSides.states c.args.run.now) (run_by g.S.CoreSides.states c.advance.new.run) c.in-Some.e c.reply_rule.new.self
      c.reply_rule.result c.in-Some.ensures.place c.law_sound.ensures.sound c.law_sound.ensures.whole (c.law_sound_at.ensures.sound c.args.name (sym c.in-Some.ensures.place)) c.args.msg c.args.reply
      c.reply_rule.ensures.sets (c.advance.ensures.advanced c.args.name c.requires.found);
  place = placed_then (record (run_by g.S.CoreSides.states c.args.run.now) { core = c.reply_rule.new.self }) (run_by g.S.CoreSides.states c.advance.new.run) c.args.name (Some c.in-Some.e)
      (c.advance.ensures.advanced c.args.name c.requires.found)
      (placed_still c.args.run.now.core c.reply_rule.new.self c.args.name c.in-Some.e c.reply_rule.ensures.sets.event.seat c.reply_rule.ensures.sets.event.end
      c.in-Some.ensures.place c.in-Some.ensures.within c.reply_rule.ensures.sets.rest c.reply_rule.ensures.sets.event.board);
}
