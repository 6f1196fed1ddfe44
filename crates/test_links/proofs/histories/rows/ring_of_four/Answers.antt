use lib.Count.{ones}
use Rattle.std.proofs.Common.{◌≡◌, true, refl, arith}
use Rattle.std.specs.Int.{is_power_of_two}
use Rattle.test_links.proofs.histories.rows.ring_of_four.Goals as goal

four : is_power_of_two 4 ≡ true
unfolding ones
four = refl

pub rings-requires : goal.rings-requires
rings-requires c = record {
  rings = (record { slots = (omega arith, omega arith, four); first = omega arith; second = omega arith }, tt);
}
