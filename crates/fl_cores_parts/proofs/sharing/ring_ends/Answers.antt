use Rattle.std.proofs.Common.{ℕ, ◌+◌, ◌<◌, refl, length, arith, get_or}
use Rattle.fl_cores_parts.proofs.Handing.{none_between, one_ring_more, all_between}
use Rattle.fl_cores_parts.proofs.sharing.ring_ends.Goals as goal

pub loop-ring-preserved : goal.loop-ring-preserved
loop-ring-preserved c =
    let i = c.loop-ring.invariant in
    let at = i.place in
    let owners = c.args.owners.now in
    let count = c.requires.count in
    let below = c.loop-ring-test.true in
    let within : c.loop-ring.place + 1 < length owners = omega (arith, at, count, below) in
    let made = c.in_ok-ring_between.ensures in
    record {
      place = omega (arith, at);
      between = one_ring_more c.args.rings.now owners c.args.cores c.loop-ring.ring-index c.loop-ring.place c.loop-ring.ends.items c.push.new.self.items c.ring-item.result
          c.in_ok-ring_between.field-0 (get_or owners c.loop-ring.place 0) (get_or owners (c.loop-ring.place + 1) 0) below c.ring-item.is within refl refl c.requires.of i.between
          made.slots made.may made.first made.second made.apart c.in_ok-push.ensures.items;
    }

pub returns : goal.returns
returns c = record {
  between = all_between c.args.rings.now c.args.owners.now c.args.cores c.loop-ring.ring-index c.loop-ring.place c.loop-ring.ends.items c.loop-ring-test.false
      c.loop-ring.invariant.place c.requires.count c.loop-ring.invariant.between;
}
