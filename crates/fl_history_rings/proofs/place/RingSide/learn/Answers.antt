use Rattle.std.proofs.Common.{◌∙◌, ap, ℕ}
use Rattle.fl_ring.specs.Counts.{count_from}
use Rattle.fl_history_rings.specs.declared.place.RingSide.{RingSide}
use Rattle.fl_history_rings.proofs.place.RingSide.learn.Goals as goal

pub returns : goal.returns
returns c =
    let a = c.args.self.now in
    record {
      known = ap (λ (k : ℕ). let b : RingSide = record { put = a.put; take = a.take; known = k; told = a.told } in b) (c.count_from-self.ensures.count ∙ ap (λ (t : ℕ). count_from a.known t) c.told_of.ensures);
    }
