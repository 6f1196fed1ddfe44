use Rattle.std.proofs.lemmas.Option.{slice_get-get_or}
use Rattle.fl_core_run.specs.Run.{run_by}
use Rattle.fl_core_run.proofs.Wordings.{exchanged, still_words}
use Rattle.fl_core_run.proofs.opening_status.exchange_at.Goals as goal

pub exchange-requires : goal.exchange-requires
exchange-requires g c = record { may = c.requires.may.may c.args.k _ (slice_get-get_or c.args.words.now c.args.k _ c.requires.word) }

pub returns-clause-exchanges : goal.returns-clause-exchanges
returns-clause-exchanges g c = exchanged (run_by g.S.CoreSides.states c.args.run.now) c.args.ends.now c.args.words.now c.args.k _ _ c.args.seat.now c.exchange.new.seat c.exchange.result
    c.requires.end c.requires.word c.exchange.ensures.exchanges

pub returns-clause-may : goal.returns-clause-may
returns-clause-may g c = still_words (run_by g.S.CoreSides.states c.args.run.now) c.args.ends.now c.args.words.now c.args.k _ _ c.args.seat.now c.exchange.new.seat c.exchange.result
    c.requires.end c.requires.word c.exchange.ensures.exchanges c.requires.may

pub returns-clause-quiet : goal.returns-clause-quiet
returns-clause-quiet g c = c.exchange.ensures.quiet
