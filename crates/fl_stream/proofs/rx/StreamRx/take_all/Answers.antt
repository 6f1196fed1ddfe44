use Rattle.std.proofs.Common.{rules}
use Rattle.fl_stream.proofs.Sides.{fills}
use Rattle.fl_stream.proofs.rx.StreamRx.take_all.Goals as goal

pub returns-clause-fills : goal.returns-clause-fills
returns-clause-fills c =
    let e = c.pop_partial_slice.ensures in
    let slice = fills c.self.inside.consumer c.pop_partial_slice.new.self c.pop_partial_slice.result c.args.out.now c.pop_partial_slice.new.slice e.ring e.received.0 e.received.1 e.received.2 e.allowed e.known e.most in
    search (rules, slice)
