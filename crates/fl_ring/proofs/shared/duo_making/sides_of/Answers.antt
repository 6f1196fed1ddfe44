use Rattle.std.proofs.Common.{[], inl, inr, ap, sym, ◌∙◌, refl, arith}
use Rattle.atomic_table.specs.Table.{Me}
use Rattle.fl_ring.specs.declared.shared.duo_board.SeatHolder.TheVariants.{One, Two}
use Rattle.fl_ring.specs.declared.shared.duo_board.DuoView.{DuoView}
use Rattle.fl_ring.specs.SharedDuo.{side_one_of, side_two_of}
use Rattle.fl_ring.proofs.SharedDuoSides.{fresh_side, fresh_shows}
use Rattle.fl_ring.proofs.SharedDuoMakes.{duo_splits}
use Rattle.fl_ring.proofs.shared.duo_making.sides_of.Goals as goal

pub split_seat-across-requires : goal.split_seat-across-requires
split_seat-across-requires c = (c.requires.table.0, omega (arith, c.requires.table.2), duo_splits _ _ _ _ (ap (λ m. m.0.holder) c.requires.seat))

pub invariant_of-one : goal.invariant_of-one
invariant_of-one c =
    let (some, few, most) = c.requires.size in
    let (same, size, wide) = c.requires.table in
    let split = c.split_seat-across.ensures in
    rw c.in-Ok-try_clone.ensures (rw c.in-Ok.ensures.ok
    (fresh_side c.args.table.shared.table_id c.args.table.shared.key c.split_seat-across.new.seat One c.args.size c.args.start c.at.result c.at-2.result size wide some few most
    (split.0 ∙ same) (split.2 ∙ ap (λ (m : Me (Unit {0}) DuoView). (side_one_of m.0, m.1)) c.requires.seat) (inl refl) c.at.ensures.start c.at-2.ensures.start))

pub invariant_of-two : goal.invariant_of-two
invariant_of-two c =
    let (some, few, most) = c.requires.size in
    let (same, size, wide) = c.requires.table in
    let split = c.split_seat-across.ensures in
    rw c.in-Ok.ensures.ok
    (fresh_side c.args.table.shared.table_id c.args.table.shared.key c.split_seat-across.result Two c.args.size c.args.start c.at-3.result c.at-4.result size wide some few most
    (split.3 ∙ same) (split.4 ∙ ap (λ (m : Me (Unit {0}) DuoView). let x : Me (Unit {0}) DuoView = (side_two_of m.0, []) in x) c.requires.seat) (inr refl) c.at-3.ensures.start c.at-4.ensures.start)

pub returns-clause-one : goal.returns-clause-one
returns-clause-one c =
    let split = c.split_seat-across.ensures in
    fresh_shows c.split_seat-across.new.seat c.split_seat-across.result.table_id One c.args.size c.args.start (split.0 ∙ sym split.3) (split.2 ∙ ap (λ (m : Me (Unit {0}) DuoView). (side_one_of m.0, m.1)) c.requires.seat)

pub returns-clause-two : goal.returns-clause-two
returns-clause-two c =
    fresh_shows c.split_seat-across.result c.split_seat-across.result.table_id Two c.args.size c.args.start refl (c.split_seat-across.ensures.4 ∙ ap (λ (m : Me (Unit {0}) DuoView). let x : Me (Unit {0}) DuoView = (side_two_of m.0, []) in x) c.requires.seat)
