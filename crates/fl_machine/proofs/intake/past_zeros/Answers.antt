use Rattle.std.proofs.Common.{◌≡◌, ℕ, zero, suc, ◌+◌, ◌-◌, ◌<◌, ◌≤◌, ⊎_elim, List, take, drop, get_or, refl, sym, ◌∙◌, ap, arith}
use Rattle.std.proofs.lemmas.Bool.{cases_lt}
use Rattle.std.proofs.lemmas.List.{get_or-take, get_or-drop}
use Rattle.fl_stub.specs.Meaning.{number_bytes}
use Rattle.fl_machine.proofs.intake.past_zeros.Goals as goal

zero_byte : (r : ℕ) → r < 8 → get_or (number_bytes 8 0) r 0 ≡ 0
zero_byte zero h = refl
zero_byte (suc zero) h = refl
zero_byte (suc (suc zero)) h = refl
zero_byte (suc (suc (suc zero))) h = refl
zero_byte (suc (suc (suc (suc zero)))) h = refl
zero_byte (suc (suc (suc (suc (suc zero))))) h = refl
zero_byte (suc (suc (suc (suc (suc (suc zero)))))) h = refl
zero_byte (suc (suc (suc (suc (suc (suc (suc zero))))))) h = refl
zero_byte (suc (suc (suc (suc (suc (suc (suc (suc r)))))))) h = absurd (omega (arith, h))

-- the bytes of a word that is 0
zero_there : (buffer : List ℕ) (at word i : ℕ) → word ≡ 0 → number_bytes 8 word ≡ take 8 (drop at buffer) → at ≤ i → i < at + 8 → get_or buffer i 0 ≡ 0
zero_there buffer at word i none bytes from below =
    let r : i - at < 8 = omega (arith, from, below) in
    ap (λ (k : ℕ). get_or buffer k 0) (omega (arith, from)) ∙ sym (get_or-drop at buffer (i - at) 0)
    ∙ sym (get_or-take 8 (drop at buffer) (i - at) 0 r)
    ∙ ap (λ (bs : List ℕ). get_or bs (i - at) 0) (sym bytes)
    ∙ ap (λ (w : ℕ). get_or (number_bytes 8 w) (i - at) 0) none ∙ zero_byte (i - at) r

pub loop-at-init : goal.loop-at-init
loop-at-init c = (omega arith, omega (arith, c.requires), λ i from below. absurd (omega (arith, from, below)))

pub loop-at-preserved : goal.loop-at-preserved
loop-at-preserved c =
    let (from, inside, zeros) = c.loop-at.invariant in
    let near : c.loop-at.at < 56 = c.loop-at-test.true in (
      omega (arith, from),
      omega (arith, near),
      λ i low high. ⊎_elim
          (λ (below : i < c.loop-at.at). zeros i low below)
          (λ (past : c.loop-at.at ≤ i). zero_there c.args.buffer.now c.loop-at.at c.word_at.result i c.if-word_at-eq0.true c.word_at.ensures past high)
          (cases_lt i c.loop-at.at),
    )
