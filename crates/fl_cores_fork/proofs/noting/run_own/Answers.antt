use Rattle.fl_cores_fork.proofs.noting.run_own.Goals as goal

pub returns-in-Ok : goal.returns-in-Ok
returns-in-Ok g c = record {
  ran = record {
    noted = c.in-Ok.ensures.ran;
    left = record {
      core = c.law_sound.ensures.core;
      board = c.law_sound.ensures.board;
      outboxes = c.law_sound.ensures.outboxes;
      ends = c.law_sound.ensures.ends;
      table = c.law_sound.ensures.table;
    };
    one = c.shows.ensures.whole;
  };
}
