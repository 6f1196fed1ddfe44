use Rattle.std.proofs.Common.{◌≡◌, ◌<◌, ◌≤◌, ◌==◌, ℕ, false, List, length, sym, ◌∙◌, ap, subst, arith}
use Rattle.std.proofs.lemmas.Bool.Decides.{nat_tests}
use Rattle.fl_base.specs.declared.fragment.Frag.{Frag}
use Rattle.fl_monitor.specs.Outboxes.{IsOutbox}
use Rattle.fl_monitor.proofs.Boxes.{with_one_more}
use Rattle.fl_monitor.proofs.outbox.Outbox.put.Goals as goal

below : (n : ℕ) → (n == 64) ≡ false → n ≤ 64 → n < 64
below n not_full few = grind (arith, nat_tests, not_full, few)

pub invariant_of-self : goal.invariant_of-self
invariant_of-self c =
    let frags = c.self.inside.frags.items in
    let not_full : (length c.args.self.now == 64) ≡ false = sym c.is_full.ensures.full ∙ c.if-is_full.false in
    let room = below (length frags) (ap (λ (xs : List Frag). length xs == 64) c.self.view_is ∙ not_full) c.self.invariant.0.few in (
      subst (λ (xs : List Frag). IsOutbox xs) (sym c.push.ensures.items) (with_one_more frags c.args.frag.now c.self.invariant.0 room c.requires.message),
      c.push.ensures.room,
    )
