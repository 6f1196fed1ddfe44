use Rattle.std.proofs.Common.{List, ℕ, subst, sym}
use Rattle.fl_ring.specs.Duo.{TheDuo, DuoStands}
use Rattle.fl_ring.proofs.DuoViews.{duo_stands}
use Rattle.fl_ring.proofs.one_duo.OneDuo.words.Goals as goal

pub returns : goal.returns
returns c =
    let i = c.self.inside in
    let stands = subst (λ (d : TheDuo). DuoStands i.words.items d) c.self.view_is (duo_stands i.one.put.size i.words.items i.one i.two c.self.invariant.0 c.self.invariant.1) in
    record { stands = subst (λ (ws : List ℕ). DuoStands ws c.args.self.now) (sym c.as_slice.ensures.value) stands }
