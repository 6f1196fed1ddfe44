use Rattle.std.proofs.Common.{◌≡◌, ℕ, zero, suc, ◌*◌, ◌%◌, ◌^◌, ◌<◌, refl, arith}
use Rattle.fl_machine.proofs.intake.power.Goals as goal

shifted : (n : ℕ) → n < 8 → 1 * 2 ^ (8 * n) % 2 ^ 64 ≡ 256 ^ n
shifted zero h = refl
shifted (suc zero) h = refl
shifted (suc (suc zero)) h = refl
shifted (suc (suc (suc zero))) h = refl
shifted (suc (suc (suc (suc zero)))) h = refl
shifted (suc (suc (suc (suc (suc zero))))) h = refl
shifted (suc (suc (suc (suc (suc (suc zero)))))) h = refl
shifted (suc (suc (suc (suc (suc (suc (suc zero))))))) h = refl
shifted (suc (suc (suc (suc (suc (suc (suc (suc n)))))))) h = absurd (omega (arith, h))

pub returns : goal.returns
returns c = shifted c.args.bytes c.requires
