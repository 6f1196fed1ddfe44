use Rattle.fl_link.specs.Looks.{Look}
use Rattle.fl_c_operations.specs.Seen.{TheLooked, SeenTakes}
use Rattle.fl_c_operations.proofs.Looking.{goes_over_at, lent_over}
use Rattle.fl_c_operations.proofs.untaken.receive_lent.Goals as goal

pub returns : goal.returns
returns c =
    let takes = λ (s : TheLooked) (look : Look) (t : TheLooked). SeenTakes s.seen s.side look t.seen t.side in
    let side = λ (s : TheLooked). s.side in
    let seen = λ (s : TheLooked). s.seen in
    record {
      receives = λ p lent. goes_over_at takes side c.args.side.now c.receive.new.from p c.args.end.now c.receive.new.self c.receive.result c.args.calls.now 0 c.receive.new.calls
          (lent_over takes side c.args.side.now c.receive.new.from p seen (λ a look b h. h) c.args.end.now lent) c.receive.ensures.receives;
      place = c.receive.ensures.place;
    }
