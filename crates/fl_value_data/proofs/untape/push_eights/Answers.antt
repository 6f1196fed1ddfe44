use Rattle.std.proofs.Common.{ℕ, ◌≤◌, ◌<◌, List, get_or, bit_or, arith}
use Rattle.std.proofs.lemmas.Nat.{le_or_l, le_or_r}
use Rattle.fl_value_data.proofs.untape.push_eights.Goals as goal

-- what is no more than the numbers' bits together
both : (a b : ℕ) → bit_or a b ≤ 255 → (a ≤ 255) × (b ≤ 255)
both a b few = (omega (arith, le_or_l a b, few), omega (arith, le_or_r a b, few))

-- the first three of eight numbers and the last five, where all bits together are a byte's
few_of_eight : (a b c d e f g h : ℕ) → bit_or (bit_or (bit_or (bit_or (bit_or (bit_or (bit_or a b) c) d) e) f) g) h ≤ 255
    → (a < 256) × (b < 256) × (c < 256) × (d < 256) × (e < 256) × (f < 256) × (g < 256) × (h < 256)
few_of_eight a b c d e f g h few =
    let (to_g, at_h) = both (bit_or (bit_or (bit_or (bit_or (bit_or (bit_or a b) c) d) e) f) g) h few in
    let (to_f, at_g) = both (bit_or (bit_or (bit_or (bit_or (bit_or a b) c) d) e) f) g to_g in
    let (to_e, at_f) = both (bit_or (bit_or (bit_or (bit_or a b) c) d) e) f to_f in
    let (to_d, at_e) = both (bit_or (bit_or (bit_or a b) c) d) e to_e in
    let (to_c, at_d) = both (bit_or (bit_or a b) c) d to_d in
    let (to_b, at_c) = both (bit_or a b) c to_c in
    let (at_a, at_b) = both a b to_b in
    (omega (arith, at_a), omega (arith, at_b), omega (arith, at_c), omega (arith, at_d), omega (arith, at_e), omega (arith, at_f), omega (arith, at_g), omega (arith, at_h))

all_few : (r : List ℕ) → bit_or (bit_or (bit_or (bit_or (bit_or (bit_or (bit_or (get_or r 0 0) (get_or r 1 0)) (get_or r 2 0)) (get_or r 3 0)) (get_or r 4 0)) (get_or r 5 0)) (get_or r 6 0)) (get_or r 7 0) ≤ 255
    → (get_or r 0 0 < 256) × (get_or r 1 0 < 256) × (get_or r 2 0 < 256) × (get_or r 3 0 < 256) × (get_or r 4 0 < 256) × (get_or r 5 0 < 256) × (get_or r 6 0 < 256) × (get_or r 7 0 < 256)
all_few r few = few_of_eight (get_or r 0 0) (get_or r 1 0) (get_or r 2 0) (get_or r 3 0) (get_or r 4 0) (get_or r 5 0) (get_or r 6 0) (get_or r 7 0) few

pub pack-requires-clause-a : goal.pack-requires-clause-a
pack-requires-clause-a c = (all_few c.loop-rest.rest.now c.if-a-b-gt255.false).0

pub pack-requires-clause-b : goal.pack-requires-clause-b
pack-requires-clause-b c = (all_few c.loop-rest.rest.now c.if-a-b-gt255.false).1

pub pack-requires-clause-c : goal.pack-requires-clause-c
pack-requires-clause-c c = (all_few c.loop-rest.rest.now c.if-a-b-gt255.false).2

pub pack-requires-clause-d : goal.pack-requires-clause-d
pack-requires-clause-d c = (all_few c.loop-rest.rest.now c.if-a-b-gt255.false).3

pub pack-requires-clause-e : goal.pack-requires-clause-e
pack-requires-clause-e c = (all_few c.loop-rest.rest.now c.if-a-b-gt255.false).4

pub pack-requires-clause-f : goal.pack-requires-clause-f
pack-requires-clause-f c = (all_few c.loop-rest.rest.now c.if-a-b-gt255.false).5

pub pack-requires-clause-g : goal.pack-requires-clause-g
pack-requires-clause-g c = (all_few c.loop-rest.rest.now c.if-a-b-gt255.false).6

pub pack-requires-clause-h : goal.pack-requires-clause-h
pack-requires-clause-h c = (all_few c.loop-rest.rest.now c.if-a-b-gt255.false).7
