use Rattle.std.proofs.Common.{◌≡◌, ℕ, ◌+◌, ◌-◌, ◌%◌, ◌<◌, ap, ◌∙◌, sym, arith}
use Rattle.std.proofs.lemmas.Nat.{mod_below}
use Rattle.fl_link.proofs.Rounds.{place_next, place_wraps, epoch_same, epoch_turns}
use Rattle.fl_link.proofs.cursor.Cursor.advance.Goals as goal

pub invariant_of-self : goal.invariant_of-self
invariant_of-self c =
    let n : ℕ = c.self.inside.size in let i : ℕ = c.self.inside.index in
    let h : i % n + 1 ≡ n = omega arith in
    (c.self.invariant.0, sym (place_wraps n i c.self.invariant.0 h), c.next_round-self-inside.ensures ∙ ap (λ x. 1 - x) c.self.invariant.2 ∙ sym (epoch_turns n i c.self.invariant.0 h))

pub invariant_of-self-else-self : goal.invariant_of-self-else-self
invariant_of-self-else-self c =
    let n : ℕ = c.self.inside.size in let i : ℕ = c.self.inside.index in
    let h : i % n + 1 < n = omega (arith, mod_below i n c.self.invariant.0) in
    (c.self.invariant.0, ap (λ x. x + 1) c.self.invariant.1 ∙ sym (place_next n i h), c.self.invariant.2 ∙ sym (epoch_same n i h))
