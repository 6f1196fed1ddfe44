use Rattle.fl_script_exec.specs.Transcript.{text_of}
use Rattle.fl_script_exec.proofs.ExecLemmas.{some_answers, run_fault, run_more, all_done, ran_on, no_more, put_alone}
use Rattle.fl_script_exec.proofs.running.run.Goals as goal

pub returns-in_default-clause-err : goal.returns-in_default-clause-err
returns-in_default-clause-err g c = λ s h.
    let i = c.loop-rest.invariant s h in
    let l = c.in_default.ensures.left in
    (text_of i.1, some_answers s i.0 c.args.text.now c.loop-rest.rest.now l.1 l.0 i.1 i.3 l.2, i.4)

pub returns-in-Err-clause-err : goal.returns-in-Err-clause-err
returns-in-Err-clause-err g c = λ s h.
    let i = c.loop-rest.invariant s h in
    let f = c.in-Ok.ensures.ok in
    let d = f.2 i.0 i.2 in
    run_fault c.in-Err.fault (g.W.Write.contents c.args.writer.now) (g.W.Write.contents c.loop-rest.writer) (g.W.Write.contents c.put_all.new.writer)
    s i.0 c.args.text.now c.loop-rest.rest.now c.in-Ok.behind.now c.deref.result.now f.0 d.0 i.1 c.in-Err.ensures.fault
    i.3 i.4 f.1 d.1 (put_alone c.clear.new.self.items c.answer_first.new.out.items c.deref.result.now d.0.text c.clear.ensures.items d.2.text c.deref.ensures.value)
    c.in-Err.ensures.err

pub loop-rest-preserved : goal.loop-rest-preserved
loop-rest-preserved g c = λ s h.
    let i = c.loop-rest.invariant s h in
    let f = c.in-Ok.ensures.ok in
    let d = f.2 i.0 i.2 in
    run_more g.M.Machine.shows (g.W.Write.contents c.args.writer.now) (g.W.Write.contents c.loop-rest.writer) (g.W.Write.contents c.put_all.new.writer)
    c.answer_first.new.self s i.0 c.args.text.now c.loop-rest.rest.now c.in-Ok.behind.now c.deref.result.now f.0 d.0 i.1 i.3 i.4
    f.1 d.1 d.2.at (put_alone c.clear.new.self.items c.answer_first.new.out.items c.deref.result.now d.0.text c.clear.ensures.items d.2.text c.deref.ensures.value)
    c.in_default-put_all.ensures.ok

pub returns-clause-ok : goal.returns-clause-ok
returns-clause-ok g c = λ s h.
    let i = c.loop-rest.invariant s h in
    (i.1, all_done s i.0 c.args.text.now c.loop-rest.rest.now i.1 i.3 (no_more _ c.is_empty.result c.is_empty.ensures c.loop-rest-test.false), i.4)

pub returns-clause-ran : goal.returns-clause-ran
returns-clause-ran g c = λ s h.
    let i = c.loop-rest.invariant s h in
    ran_on g.M.Machine.shows c.loop-rest.script s i.0 c.args.text.now i.1 i.2 i.5 (all_done s i.0 c.args.text.now c.loop-rest.rest.now i.1 i.3 (no_more _ c.is_empty.result c.is_empty.ensures c.loop-rest-test.false))
