use Rattle.std.proofs.Common.{◌≤◌, ◌<◌, List, ℕ, subst, length, Ok, Err, arith}
use Rattle.fl_script_exec.specs.declared.running.ExecFault.TheVariants.{Memory}
use Rattle.std.specs.Io.KnownBytes.{Appends}
use Rattle.std.proofs.lemmas.Result.{on_ok_weaker}
use Rattle.fl_script_exec.specs.Transcript.{beginning, Effect, Runs, text_of}
use Rattle.fl_script_exec.proofs.ExecLemmas.{given_some, given_until, no_more, ran_all, ran_none, ran_long, transcript_all, leaves_run, leaves_unread, leaves_long, leaves_unstarted, more_left}
use Rattle.fl_script_exec.proofs.running.exec.Goals as goal

pub returns-in-Err-clause-err : goal.returns-in-Err-clause-err
returns-in-Err-clause-err g c = leaves_unread c.in-Err.fault (g.R.ScriptReader.remaining c.args.reader.now) (g.W.Write.contents c.args.writer.now) c.in-Err.ensures.err

pub returns-then-len-gt-MAX_SCRIPT-clause-err : goal.returns-then-len-gt-MAX_SCRIPT-clause-err
returns-then-len-gt-MAX_SCRIPT-clause-err g c =
    let long : 1048576 < length c.in-Ok.text.items = omega (arith, c.in-Ok.text.ok.0, c.len.ensures, c.if-len-gt-MAX_SCRIPT.true) in
    leaves_long c.put_all.result (g.R.ScriptReader.remaining c.args.reader.now) (g.W.Write.contents c.args.writer.now) (g.W.Write.contents c.put_all.new.writer)
    c.in-Ok.text.items c.in-Ok.ensures.whole long c.put_all.ensures.err c.put_all.ensures.fault

pub returns-in_default-clause-err : goal.returns-in_default-clause-err
returns-in_default-clause-err g c =
    let short : length c.in-Ok.text.items ≤ 1048576 = omega (arith, c.in-Ok.text.ok.0, c.len.ensures, c.if-len-gt-MAX_SCRIPT.false) in
    let many = more_left _ c.is_empty.result c.is_empty.ensures c.if-is_empty.false in
    let some : 0 < length c.in-Ok.text.items = omega (arith, c.in-Ok.text.ok.0, many) in
    leaves_unstarted (g.R.ScriptReader.remaining c.args.reader.now) (g.W.Write.contents c.args.writer.now) c.in-Ok.text.items c.in-Ok.ensures.whole short some

pub returns-clause-ok : goal.returns-clause-ok
returns-clause-ok g c =
    let short : length c.in-Ok.text.items ≤ 1048576 = omega (arith, c.in-Ok.text.ok.0, c.len.ensures, c.if-len-gt-MAX_SCRIPT.false) in
    on_ok_weaker c.run.result (λ w. transcript_all (g.R.ScriptReader.remaining c.args.reader.now) (g.W.Write.contents c.args.writer.now) (g.W.Write.contents c.run.new.writer)
    c.in-Ok.text.items c.in-Ok.ensures.whole short
    (subst (λ (t : List ℕ). (effects : List Effect) × Runs beginning t effects × Appends (g.W.Write.contents c.args.writer.now) (g.W.Write.contents c.run.new.writer) (text_of effects))
    c.deref.ensures.value (w beginning c.in-Ok-new.ensures.start))) c.run.ensures.ok

pub returns-clause-err : goal.returns-clause-err
returns-clause-err g c =
    let short : length c.in-Ok.text.items ≤ 1048576 = omega (arith, c.in-Ok.text.ok.0, c.len.ensures, c.if-len-gt-MAX_SCRIPT.false) in
    leaves_run g.M.Machine.shows c.run.result c.in-Ok-new.script (g.R.ScriptReader.remaining c.args.reader.now) (g.W.Write.contents c.args.writer.now) (g.W.Write.contents c.run.new.writer)
    c.in-Ok.text.items c.deref.result.now c.in-Ok.ensures.whole short c.in-Ok-new.ensures.start c.deref.ensures.value c.run.ensures.err

pub returns-in-Err-clause-given : goal.returns-in-Err-clause-given
returns-in-Err-clause-given g c =
    given_some (g.R.ScriptReader.remaining c.args.reader.now) (g.R.ScriptReader.remaining c.read_script.new.reader) c.in-Err.fault c.in-Err.ensures.fault c.in-Err.ensures.some

pub returns-then-len-gt-MAX_SCRIPT-clause-given : goal.returns-then-len-gt-MAX_SCRIPT-clause-given
returns-then-len-gt-MAX_SCRIPT-clause-given g c =
    given_until (g.R.ScriptReader.remaining c.args.reader.now) (g.R.ScriptReader.remaining c.read_script.new.reader) c.put_all.result c.in-Ok.text.items c.in-Ok.ensures.given

pub returns-then-is_empty-clause-given : goal.returns-then-is_empty-clause-given
returns-then-is_empty-clause-given g c =
    given_until (g.R.ScriptReader.remaining c.args.reader.now) (g.R.ScriptReader.remaining c.read_script.new.reader) (Ok tt) c.in-Ok.text.items c.in-Ok.ensures.given

pub returns-in_default-clause-given : goal.returns-in_default-clause-given
returns-in_default-clause-given g c =
    given_until (g.R.ScriptReader.remaining c.args.reader.now) (g.R.ScriptReader.remaining c.read_script.new.reader) (Err Memory) c.in-Ok.text.items c.in-Ok.ensures.given

pub returns-clause-given : goal.returns-clause-given
returns-clause-given g c =
    given_until (g.R.ScriptReader.remaining c.args.reader.now) (g.R.ScriptReader.remaining c.read_script.new.reader) c.run.result c.in-Ok.text.items c.in-Ok.ensures.given

pub returns-then-len-gt-MAX_SCRIPT-clause-ran : goal.returns-then-len-gt-MAX_SCRIPT-clause-ran
returns-then-len-gt-MAX_SCRIPT-clause-ran g c =
    let long : 1048576 < length c.in-Ok.text.items = omega (arith, c.in-Ok.text.ok.0, c.len.ensures, c.if-len-gt-MAX_SCRIPT.true) in
    ran_long c.put_all.result g.M.Machine.shows (g.R.ScriptReader.remaining c.args.reader.now) c.in-Ok.text.items c.in-Ok.ensures.whole long

pub returns-then-is_empty-clause-ran : goal.returns-then-is_empty-clause-ran
returns-then-is_empty-clause-ran g c =
    let none = no_more _ c.is_empty.result c.is_empty.ensures c.if-is_empty.true in
    ran_none g.M.Machine.shows (g.R.ScriptReader.remaining c.args.reader.now) c.in-Ok.text.items c.in-Ok.ensures.whole (omega (arith, c.in-Ok.text.ok.0, none))

pub returns-clause-ran : goal.returns-clause-ran
returns-clause-ran g c =
    let short : length c.in-Ok.text.items ≤ 1048576 = omega (arith, c.in-Ok.text.ok.0, c.len.ensures, c.if-len-gt-MAX_SCRIPT.false) in
    on_ok_weaker c.run.result (λ w. ran_all g.M.Machine.shows c.run.new.script.machine (g.R.ScriptReader.remaining c.args.reader.now) c.in-Ok.text.items c.deref.result.now
    c.in-Ok.ensures.whole short c.deref.ensures.value (w beginning c.in-Ok-new.ensures.start)) c.run.ensures.ran
