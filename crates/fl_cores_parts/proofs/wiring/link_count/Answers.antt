use Rattle.std.proofs.Common.{◌≡◌, ap, length, arith}
use Rattle.fl_cores_parts.proofs.wiring.link_count.Goals as goal

pub overflow_cast-result : goal.overflow_cast-result
overflow_cast-result c =
    let same : length c.links.result.now ≡ length c.args.circuits.now.links = ap length c.links.ensures.links in
    let few = c.law_never_shared.ensures.sound.few in
    omega (arith, same, few)

pub returns : goal.returns
returns c = record { count = ap length c.links.ensures.links }
