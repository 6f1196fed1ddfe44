use Rattle.std.proofs.lemmas.Result.{on_ok_weaker, on_err_weaker}
use Rattle.fl_core_run.specs.Run.{run_by}
use Rattle.fl_core_run.proofs.Foreseen.{foresees}
use Rattle.fl_core_run.proofs.Crossing.{looks, forwarded, left}
use Rattle.fl_core_run.proofs.links.forward.Goals as goal

pub look-found-requires-clause-link : goal.look-found-requires-clause-link
look-found-requires-clause-link g c = c.in-Some.ensures.link

pub hand_out-requires-clause-foreseen : goal.hand_out-requires-clause-foreseen
hand_out-requires-clause-foreseen g c =
    foresees g.S.CoreSides.ways c.in-Some.n c.args.link c.look-found.result (run_by g.S.CoreSides.states c.args.run.now) _
    (looks g.S.CoreSides.ways (run_by g.S.CoreSides.states c.args.run.now) c.in-Some.n (g.S.CoreSides.states c.look-found.new.sides)
    c.law_sound.ensures.sound c.law_sound.ensures.whole c.args.link c.look-found.new.core c.look-found.result c.look-found.ensures.looks)

pub returns-in-Some-clause-forwards : goal.returns-in-Some-clause-forwards
returns-in-Some-clause-forwards g c =
    on_ok_weaker c.hand_out.result
    (forwarded g.S.CoreSides.ways (run_by g.S.CoreSides.states c.args.run.now) c.in-Some.n (g.S.CoreSides.states c.look-found.new.sides)
    c.law_sound.ensures.sound c.law_sound.ensures.whole c.args.link c.look-found.new.core c.look-found.result c.look-found.ensures.looks
    (run_by g.S.CoreSides.states c.hand_out.new.run) c.in-Some.ensures.link_side)
    c.hand_out.ensures.hands_out

pub returns-in-Some-clause-left : goal.returns-in-Some-clause-left
returns-in-Some-clause-left g c =
    on_err_weaker c.hand_out.result
    (left g.S.CoreSides.ways (run_by g.S.CoreSides.states c.args.run.now) c.in-Some.n (g.S.CoreSides.states c.look-found.new.sides)
    c.law_sound.ensures.sound c.law_sound.ensures.whole c.args.link c.look-found.new.core c.look-found.result c.look-found.ensures.looks
    (run_by g.S.CoreSides.states c.hand_out.new.run) c.in-Some.ensures.link_side)
    c.hand_out.ensures.left
