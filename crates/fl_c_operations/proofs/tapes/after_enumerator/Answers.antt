use Rattle.std.proofs.Common.{◌≡◌, ℕ, ◌^◌, min, ltb, ap, ◌∙◌, arith}
use Rattle.fl_c_operations.specs.After.{after_number}
use Rattle.fl_c_operations.proofs.tapes.after_enumerator.Goals as goal

pub returns : goal.returns
returns c =
    let same : c.from.result ≡ min c.args.count (2 ^ 32) = omega (arith, c.from.ensures) in
    record { exact = c.after_number.ensures.exact ∙ ap (λ (n : ℕ). after_number (λ (bits : ℕ). ltb bits n) c.args.tape.now) same }
