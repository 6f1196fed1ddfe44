-- Why there is no script of a record.
use Rattle.std.proofs.Common.{◌≡◌, sym, subst, Result, Ok, Err, IfErr}
use Rattle.std.specs.Result.{IsErrAnd}
use Rattle.fl_cores_replay.specs.declared.no_script.NoScript.{NoScript}
use Rattle.fl_cores_replay.specs.declared.no_script.NoScript.TheVariants.{Memory}
use Rattle.fl_cores_replay.specs.Reasons.{IsOfRecord}

-- memory was refused
pub memory_told : {T : Type 0} (r : Result T NoScript) → IsErrAnd r (λ e. e ≡ Memory) → IfErr r (λ e. IsOfRecord e)
memory_told (Ok script) h = absurd h
memory_told (Err e) h = subst (λ (x : NoScript). IsOfRecord x) (sym h) tt
