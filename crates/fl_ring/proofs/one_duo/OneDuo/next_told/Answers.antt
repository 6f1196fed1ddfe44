use Rattle.std.proofs.Common.{ℕ, ◌%◌, ap, ◌∙◌, sym}
use Rattle.fl_ring.specs.Duo.{TheDuo, side_of, got}
use Rattle.fl_ring.specs.declared.one_duo.WhichSide.{WhichSide}
use Rattle.fl_ring.proofs.DuoViews.{got_of}
use Rattle.fl_ring.proofs.DuoSteps.{turned}
use Rattle.fl_ring.proofs.one_duo.OneDuo.next_told.Goals as goal

pub returns-in-One : goal.returns-in-One
returns-in-One c =
    let i = c.self.inside in
    record { told = ap (λ (x : ℕ). x % 65536) c.index.ensures.index ∙ got_of i.one.put.size i.words.items i.one i.two c.self.invariant.1 ∙ ap (λ (d : TheDuo). got d.one % 65536) c.self.view_is ∙ ap (λ (w : WhichSide). got (side_of w c.args.self.now) % 65536) (sym c.in-One.is) }

pub returns-in-Two : goal.returns-in-Two
returns-in-Two c =
    let i = c.self.inside in
    record { told = ap (λ (x : ℕ). x % 65536) c.index-in-Two.ensures.index ∙ got_of i.one.put.size i.words.items i.two i.one (turned i.one.put.size i.words.items i.one i.two c.self.invariant.1) ∙ ap (λ (d : TheDuo). got d.two % 65536) c.self.view_is ∙ ap (λ (w : WhichSide). got (side_of w c.args.self.now) % 65536) (sym c.in-Two.is) }
