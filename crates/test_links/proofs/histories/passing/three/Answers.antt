use lib.Count.{ones}
use Rattle.std.proofs.Common.{◌≡◌, true, refl, arith}
use Rattle.std.specs.Int.{is_power_of_two}
use Rattle.test_links.proofs.histories.passing.three.Goals as goal

eight : is_power_of_two 8 ≡ true
unfolding ones
eight = refl

four : is_power_of_two 4 ≡ true
unfolding ones
four = refl

sixteen : is_power_of_two 16 ≡ true
unfolding ones
sixteen = refl

pub rings-requires : goal.rings-requires
rings-requires c = record {
  rings = (
    record { slots = (omega arith, omega arith, eight); first = omega arith; second = omega arith },
    (
      record { slots = (omega arith, omega arith, four); first = omega arith; second = omega arith },
      (record { slots = (omega arith, omega arith, sixteen); first = omega arith; second = omega arith }, tt),
    ),
  );
}
