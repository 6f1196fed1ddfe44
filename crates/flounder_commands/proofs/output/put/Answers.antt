use Rattle.std.proofs.Common.{refl}
use Rattle.std.specs.Io.Buffered.{writer_buffer, writer_contents}
use Rattle.flounder_commands.specs.Streams.{output_of, PutsPrefix}
use Rattle.flounder_commands.proofs.Doing.{flushed, put_unflushed, whatever}
use Rattle.flounder_commands.proofs.output.put.Goals as goal

pub returns-clause-put : goal.returns-clause-put
returns-clause-put g c =
    flushed c.flush.result (output_of g.W.Write.contents c.args.output.now c.flush.new.self) (writer_contents g.W.Write.contents c.put_all.new.writer)
    (writer_buffer c.flush.new.self) c.args.text.now c.in_ok-put_all.ensures.put c.flush.ensures.bytes refl c.flush.ensures.ok

pub returns-clause-part : goal.returns-clause-part
returns-clause-part g c =
    let o = output_of g.W.Write.contents c.args.output.now c.flush.new.self in
    whatever c.flush.result (PutsPrefix o c.args.text.now)
    (put_unflushed o (writer_contents g.W.Write.contents c.put_all.new.writer) c.args.text.now c.in_ok-put_all.ensures.put c.flush.ensures.bytes)
