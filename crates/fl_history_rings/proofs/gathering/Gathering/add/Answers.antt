use Rattle.std.proofs.Common.{◌<◌, ap, subst, ◌∙◌, sym}
use Rattle.std.specs.Arc.{arc_value}
use Rattle.fl_history_rings.specs.declared.board.RingsBoard.{RingsBoard}
use Rattle.fl_history_rings.specs.Cores.{TheCore, TheGathering, key_of, core_shown, with_core}
use Rattle.fl_history_rings.proofs.Allowed.{Seated}
use Rattle.fl_history_rings.proofs.Makes.{rings_join}
use Rattle.fl_history_rings.proofs.Cores.{both_gathering, more_gathered}
use Rattle.fl_history_rings.proofs.gathering.Gathering.add.Goals as goal

pub join_seat-requires : goal.join_seat-requires
join_seat-requires c =
    let s = c.core.invariant.seated in
    let board : RingsBoard = arc_value c.self.inside.board in
    let same = c.self.invariant.same ∙ ap (λ (b : RingsBoard). b.table.shared.table_id) (sym c.deref.ensures) in (
      same,
      ap (λ (x : TheCore). x.table) c.core.view_is ∙ (c.requires.table ∙ (ap (λ (g : TheGathering). g.table) (sym c.self.view_is) ∙ same)),
      ap (λ (m : Seated). m.1) s.alone_is,
      subst (λ (b : RingsBoard). 0 < b.table.shared.table_id.words) (sym c.deref.ensures) c.self.invariant.some_words,
      rings_join (key_of c.deref.result.now).sides.items _ _ _ _ _ (ap (λ (m : Seated). m.0) s.alone_is),
    )

pub invariant_of-self : goal.invariant_of-self
invariant_of-self c = both_gathering _ c.self.inside.seat c.join_seat.new.seat c.core.inside.seat c.self.invariant c.join_seat.ensures.0 c.join_seat.ensures.2

pub returns : goal.returns
returns c = record {
  more = more_gathered _ _ c.self.inside.seat c.join_seat.new.seat c.core.inside.seat c.core.invariant.seated c.self.invariant.some_core c.join_seat.ensures.0
      (ap (λ (s : TheCore). s.table) c.core.view_is ∙ (c.requires.table ∙ ap (λ (g : TheGathering). g.table) (sym c.self.view_is))) c.join_seat.ensures.2
      ∙ (ap (λ (g : TheGathering). with_core g (core_shown c.core.inside.seat)) c.self.view_is ∙ ap (λ (s : TheCore). with_core c.args.self.now s) c.core.view_is);
}
