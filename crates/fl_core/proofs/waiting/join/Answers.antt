use Rattle.std.proofs.Common.{sym, ◌∙◌}
use Rattle.fl_core.proofs.Picks.{was_free, joined}
use Rattle.fl_core.proofs.waiting.join.Goals as goal

pub returns-clause-joins : goal.returns-clause-joins
returns-clause-joins g c =
    let free = was_free c.args.waitset.now c.args.c.0 c.requires (sym c.register.ensures.answer ∙ c.in-Ok.is) in
    let back = joined c.args.waitset.now c.register.new.self c.put_back.new.self c.args.c.0 c.place_for-place.result c.put_back.result c.requires free c.in-Ok.ensures.ok c.put_back.ensures.answer c.put_back.ensures.ok in
    (free, (c.place_for-place.result, c.place_for-place.ensures.waits, back))
