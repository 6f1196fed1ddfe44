use Rattle.std.proofs.Common.{ℕ, ◌≡◌, ◌≢◌, Option, Some, None, MatchOption}
use Rattle.atomic_table.specs.Table.{Me}
use Rattle.fl_base.specs.Control.{epoch_of}
use Rattle.fl_ring.specs.declared.shared.duo_board.DuoView.{DuoView}
use Rattle.fl_ring.specs.SharedDuo.{with_mine, side_control, IsPeekedControl}
use Rattle.fl_ring.proofs.SharedDuoSides.{side_loads}
use Rattle.fl_ring.proofs.shared.duo_sides.SharedSide.has_free.Goals as goal

-- the control word that was loaded, whatever its epoch
loaded : (r : Option ℕ) (due : ℕ) (m to : Me (Unit {0}) DuoView)
    → MatchOption r ((c : ℕ) × (epoch_of c ≢ due) × (m.0.mine.take.peeked ≡ None) × (to ≡ (with_mine m.0 (side_control m.0.size m.0.mine c), m.1)))
    (λ c. (epoch_of c ≡ due) × (to ≡ (with_mine m.0 (side_control m.0.size m.0.mine c), m.1)) × IsPeekedControl m.0.mine.take c)
    → (c : ℕ) × (to ≡ (with_mine m.0 (side_control m.0.size m.0.mine c), m.1))
loaded None due m to (c, other, none, e) = (c, e)
loaded (Some c) due m to (same, e, peeked) = (c, e)

pub invariant_of-self : goal.invariant_of-self
invariant_of-self c =
    let i = c.self.inside in
    let found = loaded c.load_control.result c.epoch.result i.seat.me c.load_control.new.seat.me c.load_control.ensures.found in
    side_loads _ _ i.seat c.load_control.new.seat (record { base = i.base; other = i.other; put = i.put; take = i.take; known = i.known; told = i.told }) c.load_control.new.known found.0
    c.self.invariant.0 c.self.invariant.1 c.load_control.ensures.table found.1 c.load_control.ensures.known
