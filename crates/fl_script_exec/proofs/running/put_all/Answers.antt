use Rattle.std.proofs.Common.{◌∙◌, ◌++◌, List, ℕ, ap, sym}
use Rattle.std.proofs.lemmas.List.{take_rest}
use Rattle.fl_script_exec.proofs.ExecLemmas.{written_more, stopped, stalled, more_left}
use Rattle.fl_script_exec.proofs.running.put_all.Goals as goal

pub loop-rest-preserved : goal.loop-rest-preserved
loop-rest-preserved g c =
    let more = written_more _ _ _ c.args.text.now c.loop-rest.rest.now c.loop-rest.invariant.0 c.in-Ok.n c.loop-rest.invariant.1 c.loop-rest.invariant.2 c.in-Ok.ensures.bytes in
    (more.0, more.1 ∙ ap (λ (t : List ℕ). more.0 ++ t) (sym (take_rest c.loop-rest.rest.now c.in-Ok.n)), more.2)

pub returns-in_default-clause-err : goal.returns-in_default-clause-err
returns-in_default-clause-err g c =
    stopped (g.W.Write.contents c.args.writer.now) (g.W.Write.contents c.loop-rest.writer) (g.W.Write.contents c.write.new.self)
    c.args.text.now c.loop-rest.rest.now c.loop-rest.invariant.0 c.loop-rest.invariant.1 (more_left _ c.is_empty.result c.is_empty.ensures c.loop-rest-test.true)
    c.loop-rest.invariant.2 c.in_default.ensures.bytes

pub returns-then-n-eq0-clause-err : goal.returns-then-n-eq0-clause-err
returns-then-n-eq0-clause-err g c =
    stalled (g.W.Write.contents c.args.writer.now) (g.W.Write.contents c.loop-rest.writer) (g.W.Write.contents c.write.new.self)
    c.args.text.now c.loop-rest.rest.now c.loop-rest.invariant.0 c.in-Ok.n c.loop-rest.invariant.1 (more_left _ c.is_empty.result c.is_empty.ensures c.loop-rest-test.true)
    c.loop-rest.invariant.2 c.if-n-eq0.true c.in-Ok.ensures.bytes
