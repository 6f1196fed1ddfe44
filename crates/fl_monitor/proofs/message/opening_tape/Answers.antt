use Rattle.std.proofs.Common.{◌≡◌, ◌<◌, ◌^◌, ◌+◌, ◌++◌, ◌∷◌, [], ℕ, zero, suc, List, length, map, take, get_or, subst, sym, ◌∙◌, ap, arith}
use Rattle.std.specs.Prelude.{All}
use Rattle.std.proofs.lemmas.List.{take_more, map-append}
use Rattle.std.proofs.lemmas.List.Elements.{All-append}
use Rattle.fl_base.specs.declared.identity.CoreId.{CoreId as TheCore}
use Rattle.fl_monitor.proofs.message.opening_tape.Goals as goal

numbers_next : (cores : List TheCore) (k : ℕ) (d : TheCore) → k < length cores
    → map (λ (core : TheCore). core.0) (take k cores) ++ (get_or cores k d).0 ∷ [] ≡ map (λ (core : TheCore). core.0) (take (k + 1) cores)
numbers_next cores k d within = sym (ap (map (λ (core : TheCore). core.0)) (take_more cores k d within) ∙ map-append (λ (core : TheCore). core.0) (take k cores) (get_or cores k d ∷ []))

one_small : (core : TheCore) → core.0 < 2 ^ 8 → All (λ (core : TheCore). core.0 < 2 ^ 8) (core ∷ [])
one_small core here zero d h = here
one_small core here (suc k) d h = absurd (omega (arith, h))

small_next : (cores : List TheCore) (k : ℕ) (d : TheCore) → k < length cores → (get_or cores k d).0 < 2 ^ 8
    → All (λ (core : TheCore). core.0 < 2 ^ 8) (take k cores) → All (λ (core : TheCore). core.0 < 2 ^ 8) (take (k + 1) cores)
small_next cores k d within here before =
    subst (All (λ (core : TheCore). core.0 < 2 ^ 8)) (sym (take_more cores k d within)) (All-append (λ (core : TheCore). core.0 < 2 ^ 8) (take k cores) (get_or cores k d ∷ []) before (one_small (get_or cores k d) here))

pub loop-core-preserved : goal.loop-core-preserved
loop-core-preserved c = record {
  tape = rw (c.in_ok-push.ensures.items, c.loop-core.invariant.tape, c.from-in-loop-core.ensures) (ap (λ (xs : List ℕ). c.args.circuit.0 ∷ c.args.binding ∷ c.args.service.0 ∷ length c.args.cores.now ∷ xs) (numbers_next c.args.cores.now c.loop-core.core-index (record { 0 = 0 }) c.loop-core-test.true));
  small = small_next c.args.cores.now c.loop-core.core-index (record { 0 = 0 }) c.loop-core-test.true (omega arith) c.loop-core.invariant.small;
}
