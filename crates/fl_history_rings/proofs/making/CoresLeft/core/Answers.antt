use Rattle.std.proofs.Common.{◌<◌, ◌+◌, ◌-◌, ap, subst, ◌∙◌, sym, arith, ℕ}
use Rattle.std.specs.Arc.{arc_value}
use Rattle.atomic_table.specs.Table.{Splits}
use Rattle.fl_history_rings.specs.declared.board.RingsBoard.{RingsBoard}
use Rattle.fl_history_rings.specs.declared.board.Plan.{Plan}
use Rattle.fl_history_rings.specs.Rule.{RingsHold, without_first, first_alone}
use Rattle.fl_history_rings.specs.Cores.{key_of, IsWhole}
use Rattle.fl_history_rings.proofs.Makes.{rings_split}
use Rattle.fl_history_rings.proofs.Cores.{some_left, waits_there, given_out, left_over, core_new}
use Rattle.fl_history_rings.proofs.making.CoresLeft.core.Goals as goal

pub split_seat-seat-requires : goal.split_seat-seat-requires
split_seat-seat-requires c =
    let inv = c.self.invariant in
    let board : RingsBoard = arc_value c.self.inside.board in
    let key : Plan = key_of board in
    let seat = c.self.inside.seat in
    let next : ℕ = c.self.inside.next in
    let there = sym (c.deref-2.ensures ∙ c.in-Ok.ensures) in
    let wide = inv.laid.wide in
    let words : 0 < board.table.shared.table_id.words = omega (arith, wide) in
    let left = some_left board c.deref.result.now next c.deref.ensures inv.plan_is c.if-self-plan.false in (
      inv.same ∙ ap (λ (b : RingsBoard). b.table.shared.table_id) there,
      subst (λ (b : RingsBoard). 0 < b.table.shared.table_id.words) there words,
      subst (λ (b : RingsBoard). Splits (RingsHold b.table.shared.key.sides.items) seat.id seat.me.0 (without_first seat.me.0) (first_alone seat.me.0)) there
          (rings_split key.sides.items seat.id next (key.cores - (next + 1)) seat.me.0 (waits_there key.sides.items key.cores next seat.me left inv.waiting)),
    )

pub invariant_of-core : goal.invariant_of-core
invariant_of-core c =
    let inv = c.self.invariant in
    let board : RingsBoard = arc_value c.self.inside.board in
    let key : Plan = key_of board in
    let seat = c.self.inside.seat in
    let next : ℕ = c.self.inside.next in
    let left = some_left board c.deref.result.now next c.deref.ensures inv.plan_is c.if-self-plan.false in
    let split = c.split_seat-seat.ensures in
    subst (λ (b : RingsBoard). IsWhole b c.split_seat-seat.result next) (sym c.in-Ok.ensures)
    (core_new board c.split_seat-seat.result next inv.laid inv.plan_is (split.3 ∙ inv.same) (given_out key.sides.items key.cores next seat.me left inv.waiting c.split_seat-seat.result.me split.4))

pub invariant_of-self : goal.invariant_of-self
invariant_of-self c =
    let inv = c.self.invariant in
    let board : RingsBoard = arc_value c.self.inside.board in
    let key : Plan = key_of board in
    let seat = c.self.inside.seat in
    let next : ℕ = c.self.inside.next in
    let left = some_left board c.deref.result.now next c.deref.ensures inv.plan_is c.if-self-plan.false in
    let split = c.split_seat-seat.ensures in
    record {
      same = split.0 ∙ inv.same;
      laid = inv.laid;
      plan_is = inv.plan_is;
      within = omega (arith, left);
      waiting = left_over key.sides.items key.cores next seat.me left inv.waiting c.split_seat-seat.new.seat.me split.2;
    }
