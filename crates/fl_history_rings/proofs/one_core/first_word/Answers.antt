use Rattle.std.proofs.Common.{◌≡◌, ◌∙◌, take, get_or, ap, refl, arith, ℕ}
use Rattle.fl_history_rings.specs.Rule.{words_of, no_side}
use Rattle.fl_history_rings.proofs.Words.{first_behind, way_more}
use Rattle.fl_history_rings.proofs.one_core.first_word.Goals as goal

pub overflow_mul-base : goal.overflow_mul-base
overflow_mul-base c =
    let more = way_more c.args.sides.now c.loop-k.k (get_or c.args.sides.now c.loop-k.k no_side) no_side c.loop-k.base (omega (arith, c.loop-k-test.true, c.requires.within)) refl c.loop-k.invariant.so_far in
    let fits = c.requires.fits in
    omega (arith, more.1, fits)

pub overflow_add-base : goal.overflow_add-base
overflow_add-base c =
    let more = way_more c.args.sides.now c.loop-k.k (get_or c.args.sides.now c.loop-k.k no_side) no_side c.loop-k.base (omega (arith, c.loop-k-test.true, c.requires.within)) refl c.loop-k.invariant.so_far in
    let fits = c.requires.fits in
    omega (arith, more.1, fits)

pub loop-k-preserved : goal.loop-k-preserved
loop-k-preserved c = record {
  so_far = (way_more c.args.sides.now c.loop-k.k (get_or c.args.sides.now c.loop-k.k no_side) no_side c.loop-k.base (omega (arith, c.loop-k-test.true, c.requires.within)) refl c.loop-k.invariant.so_far).0;
}

pub returns : goal.returns
returns c =
    let here : c.loop-k.k ≡ c.args.side = omega (arith, c.loop-k-test.false, c.loop-k.auto.k-end) in
    record { first = c.loop-k.invariant.so_far ∙ ap (λ (n : ℕ). words_of (take n c.args.sides.now)) here ∙ first_behind c.args.sides.now c.args.side c.requires.within }
