use Rattle.std.proofs.Common.{◌≡◌, ◌<◌, ap, refl, ℕ, length, rules}
use Rattle.std.proofs.lemmas.Option.{slice_get_read}
use Rattle.fl_core.specs.declared.wiring.LinkSide.{LinkSide}
use Rattle.fl_core.specs.Numbers.{moved_link_side}
use Rattle.fl_core.proofs.Numbering.{changed_one, changed_all}
use Rattle.fl_core.proofs.numbers.move_link_sides.Goals as goal

pub loop-k-preserved : goal.loop-k-preserved
loop-k-preserved c =
    let within : c.loop-k.k < length c.loop-k.link_sides.items = search rules in
    let at = slice_get_read c.loop-k.link_sides.items (length c.loop-k.link_sides.items) c.loop-k.k c.index-link_side.result.now refl within c.index-link_side.ensures in
    changed_one (moved_link_side c.args.sides.now) c.args.link_sides.now.items c.loop-k.link_sides.items c.loop-k.k c.index-link_side.result.now _ c.loop-k.invariant at
    (ap (λ (n : ℕ). let x : LinkSide = record { side = n; failed = c.index-link_side.result.now.failed } in x) c.move_number.ensures.moved)

pub returns : goal.returns
returns c =
    let all : length c.args.link_sides.now.items ≡ c.loop-k.k = search rules in
    record { moved = changed_all (moved_link_side c.args.sides.now) c.args.link_sides.now.items c.loop-k.link_sides.items c.loop-k.k c.loop-k.invariant all }
