use Rattle.std.proofs.Common.{◌≡◌, ◌<◌, ◌∙◌, length, sym, subst}
use Rattle.fl_endpoint.specs.View.{with_parts}
use Rattle.fl_core.specs.BoardView.{TheBoard}
use Rattle.fl_core.specs.BoardEvents.{Holds}
use Rattle.fl_core_run.specs.Run.{run_by}
use Rattle.fl_core_run.proofs.AtProgress.{some_within}
use Rattle.fl_core_run.proofs.Writing.{no_end, none_lent, wrote_there}
use Rattle.fl_core_run.proofs.Passing.{passed}
use Rattle.fl_core_run.proofs.ends.write.Goals as goal

pub law_sound_at-requires : goal.law_sound_at-requires
law_sound_at-requires g c = record { there = some_within c.args.place c.in-Some.e (length c.args.run.now.core.board.seats) c.in-Some.is c.requires.there }

pub end-requires : goal.end-requires
end-requires g c =
    subst (λ (b : TheBoard). c.in-Some.e < length b.seats) (sym c.board.ensures.board)
    (some_within c.args.place c.in-Some.e (length c.args.run.now.core.board.seats) c.in-Some.is c.requires.there)

pub lent_post-requires : goal.lent_post-requires
lent_post-requires g c = record { there = some_within c.args.place c.in-Some.e (length c.args.run.now.core.board.seats) c.in-Some.is c.requires.there }

pub write_to-answer-requires : goal.write_to-answer-requires
write_to-answer-requires g c = record {
  there = some_within c.args.place c.in-Some.e (length c.args.run.now.core.board.seats) c.in-Some.is c.requires.there;
  lent = c.in-Some-lent_post.ensures.lent;
}

pub returns-in_default : goal.returns-in_default
returns-in_default g c = record { writes = no_end g.S.CoreSides.ways (run_by g.S.CoreSides.states c.args.run.now) c.args.place c.in_default.is }

pub returns-then-not-is_busy : goal.returns-then-not-is_busy
returns-then-not-is_busy g c = record {
  writes = passed g.S.CoreSides.ways (run_by g.S.CoreSides.states c.args.run.now) c.in-Some.e (with_parts c.end.result.now c.end.ensures.end.0.end.parts)
      (subst (λ (b : TheBoard). Holds b c.in-Some.e (λ seat. with_parts c.end.result.now c.end.ensures.end.0.end.parts ≡ seat.end)) c.board.ensures.board (c.end.ensures.end.0, c.end.ensures.end.1, sym c.end.ensures.end.2))
      (sym c.is_busy.ensures.busy ∙ c.if-not-is_busy.true) c.args.place c.in-Some.is c.law_sound.ensures.sound c.law_sound.ensures.whole c.law_sound_at.ensures.sound;
}

pub returns-in_default-lent_post : goal.returns-in_default-lent_post
returns-in_default-lent_post g c = record {
  writes = none_lent g.S.CoreSides.ways (run_by g.S.CoreSides.states c.args.run.now) c.args.place c.in-Some.e c.in-Some.is c.in_default-lent_post.ensures.post;
}

pub returns-then-matches : goal.returns-then-matches
returns-then-matches g c = record {
  writes = wrote_there g.S.CoreSides.ways (run_by g.S.CoreSides.states c.args.run.now) c.args.place c.in-Some.e c.in-Some.is c.in-Some-lent_post.post c.write_to-answer.result
      (run_by g.S.CoreSides.states c.write_to-answer.new.run) c.in-Some-lent_post.ensures.post c.write_to-answer.ensures.wrote c.law_sound.ensures.sound c.law_sound.ensures.whole
      c.law_sound_at.ensures.sound;
}

pub returns-else-matches : goal.returns-else-matches
returns-else-matches g c = record {
  writes = wrote_there g.S.CoreSides.ways (run_by g.S.CoreSides.states c.args.run.now) c.args.place c.in-Some.e c.in-Some.is c.in-Some-lent_post.post c.write_to-answer.result
      (run_by g.S.CoreSides.states c.write_to-answer.new.run) c.in-Some-lent_post.ensures.post c.write_to-answer.ensures.wrote c.law_sound.ensures.sound c.law_sound.ensures.whole
      c.law_sound_at.ensures.sound;
}
