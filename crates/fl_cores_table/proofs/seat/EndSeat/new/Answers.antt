use Rattle.std.proofs.Common.{rules, ◌≡◌, ◌+◌, ◌<◌, ℕ, List, length, replicate, get_or, ap, sym, subst, ◌∙◌, arith}
use Rattle.fl_cores_table.proofs.Steps.{opens, all_zeros}
use Rattle.fl_cores_table.proofs.seat.EndSeat.new.Goals as goal

pub of_words-requires : goal.of_words-requires
of_words-requires c =
    let size : length c.as_slice.result.now ≡ length c.args.plan.owners.items + 1 = search rules in
    let zeros : c.as_slice.result.now ≡ replicate {A = ℕ} (length c.args.plan.owners.items + 1) 0 = search rules in
    opens _ _ _ c.requires.few size (λ i. ap (λ (ws : List ℕ). get_or ws i 0) zeros ∙ all_zeros _ i)
