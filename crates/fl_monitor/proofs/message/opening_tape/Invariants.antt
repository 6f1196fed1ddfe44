use Rattle.std.proofs.Common.{◌≡◌, ◌<◌, ◌^◌, ◌∷◌, length, map, take}
use Rattle.std.specs.Prelude.{All}
use Rattle.fl_base.specs.declared.identity.CoreId.{CoreId as TheCore}
use Rattle.fl_monitor.proofs.message.opening_tape.Given as goal

abbrev pub invariant-loop-core : goal.invariant-loop-core
invariant-loop-core l = record {
  tape : l.tape.items
      ≡ l.fn.circuit.0 ∷ l.fn.binding ∷ l.fn.service.0 ∷ length l.fn.cores ∷ map (λ (core : TheCore). core.0) (take l.core-index l.fn.cores);
  small : All (λ (core : TheCore). core.0 < 2 ^ 8) (take l.core-index l.fn.cores);
}
