use Rattle.std.proofs.Common.{ℕ, ◌+◌, ◌*◌, ◌≤◌, List, length, arith}
use Rattle.fl_ring.proofs.SlotWrites.{slot_written, written_back, next_written}
use Rattle.fl_ring.proofs.slots.write_next.Goals as goal

pub returns-clause-writes : goal.returns-clause-writes
returns-clause-writes c =
    let w = c.loop-k.invariant in
    let slot : ℕ = c.args.base + 8 * c.place.result in
    let lent : List ℕ = c.as_mut_slice-table.result.now in
    let room : slot + 8 ≤ length lent = omega (arith, c.requires.room, c.place.ensures.place, c.as_mut_slice-table.ensures.len) in
    let in_table = slot_written lent c.loop-k.table slot c.stamp-stamped.result room w.same_length w.seven (λ k lt. w.written k (omega (arith, c.loop-k-test.false))) w.others in
    next_written c.args.base c.place.result c.args.put.now.size c.args.put.now.index c.epoch.result c.args.told c.args.frag.now c.stamp-stamped.result c.args.words.now.items _
    c.place.ensures.place c.epoch.ensures.epoch c.stamp-stamped.ensures.stamped
    (written_back c.args.words.now.len slot c.stamp-stamped.result c.args.words.now.items lent _ c.as_mut_slice-table.ensures.len c.as_mut_slice-table.ensures.value in_table)
