use Rattle.std.proofs.Common.{◌≡◌, ◌+◌, ◌-◌, ◌%◌, ◌<◌, ◌∙◌, ap, arith, ℕ, length-set}
use Rattle.fl_link.specs.Cursor.{TheCursor, epoch_at}
use Rattle.fl_ring.proofs.SharedDuoMakes.{marked_more, clear_more}
use Rattle.fl_ring.proofs.shared.duo_making.mark.Goals as goal

pub loop-k-preserved : goal.loop-k-preserved
loop-k-preserved c =
    let inv = c.loop-k.invariant in
    let n : ℕ = c.args.size in
    let j : ℕ = c.args.start + c.loop-k.k in
    let near : c.loop-k.k < n = omega arith in
    let next = c.advance.ensures.next in
    let place : c.place.result ≡ j % n = c.place.ensures.place ∙ (λ i. inv.index i % inv.size i) in
    let other : 1 - c.epoch-other.result ≡ 1 - epoch_at n j = ap (λ (x : ℕ). 1 - x) (c.epoch-other.ensures.epoch ∙ (λ i. epoch_at (inv.size i) (inv.index i))) in
    record {
      wide = length-set _ _ _ ∙ (length-set _ _ _ ∙ inv.wide);
      index = omega (arith, ap (λ (p : TheCursor). p.index) next, inv.index);
      size = ap (λ (p : TheCursor). p.size) next ∙ inv.size;
      free = λ i le lt. marked_more n c.args.start j c.place.result (1 - c.epoch-other.result) c.loop-k.words.items c.requires.size.0 inv.wide place other (omega arith) (omega (arith, near)) inv.free i le (omega (arith, lt));
      clear = clear_more n c.args.start j c.place.result (1 - c.epoch-other.result) c.loop-k.words.items c.requires.size.0 inv.wide place other (omega arith) (omega (arith, near)) inv.clear;
    }
