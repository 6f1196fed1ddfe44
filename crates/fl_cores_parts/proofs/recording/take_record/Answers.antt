use Rattle.std.proofs.Common.{◌≡◌, ◌++◌, ◌∷◌, [], ◌<◌, length, rules}
use Rattle.fl_cores_fork.specs.declared.core_thread.FinishedCore.{FinishedCore}
use Rattle.fl_cores_parts.specs.Recorded.{noted_by, sides_in}
use Rattle.fl_cores_parts.proofs.Moved.{one_more, others_stay}
use Rattle.fl_cores_parts.proofs.recording.take_record.Goals as goal

pub loop-core-preserved : goal.loop-core-preserved
loop-core-preserved c =
    let x = c.index-done-core.result in
    let below : c.loop-core.core < length c.loop-core.done = search rules in
    let turns : c.add.new.self.turns.items ≡ c.loop-core.taken.turns.items ++ x.part.turns ∷ [] = search rules in
    let sides : sides_in c.add.new.self ≡ sides_in c.loop-core.taken ++ noted_by x ∷ [] = search rules in (
      one_more (λ (d : FinishedCore). d.part.turns) c.loop-core.taken.turns.items c.add.new.self.turns.items _ c.loop-core.done c.loop-core.core x
          c.add.new.core below c.index-done-core.is c.loop-core.invariant.0 turns,
      (
        one_more noted_by (sides_in c.loop-core.taken) (sides_in c.add.new.self) _ c.loop-core.done c.loop-core.core x c.add.new.core below
            c.index-done-core.is c.loop-core.invariant.1.0 sides,
        (search rules, search (rules, others_stay)),
      ),
    )
