use Rattle.std.proofs.Common.{◌≡◌, ◌<◌, ap, refl, length, rules}
use Rattle.std.proofs.lemmas.Option.{slice_get_read}
use Rattle.fl_core.specs.declared.wiring.EndWiring.{EndWiring}
use Rattle.fl_core.specs.declared.wiring.WiredEnd.{WiredEnd}
use Rattle.fl_core.specs.Numbers.{moved_wired_end}
use Rattle.fl_core.proofs.Numbering.{changed_one, changed_all}
use Rattle.fl_core.proofs.numbers.move_wired_ends.Goals as goal

pub loop-k-preserved : goal.loop-k-preserved
loop-k-preserved c =
    let within : c.loop-k.k < length c.loop-k.wired_ends.items = search rules in
    let at = slice_get_read c.loop-k.wired_ends.items (length c.loop-k.wired_ends.items) c.loop-k.k c.index-wired_end.result.now refl within c.index-wired_end.ensures in
    changed_one (moved_wired_end c.args.sides.now c.args.queues.now) c.args.wired_ends.now.items c.loop-k.wired_ends.items c.loop-k.k c.index-wired_end.result.now _ c.loop-k.invariant at
    (ap (λ (n : EndWiring). let x : WiredEnd = record { name = c.index-wired_end.result.now.name; wiring = n } in x) c.moved_wiring.ensures.moved)

pub returns : goal.returns
returns c =
    let all : length c.args.wired_ends.now.items ≡ c.loop-k.k = search rules in
    record { moved = changed_all (moved_wired_end c.args.sides.now c.args.queues.now) c.args.wired_ends.now.items c.loop-k.wired_ends.items c.loop-k.k c.loop-k.invariant all }
