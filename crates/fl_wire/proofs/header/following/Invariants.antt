use Rattle.std.proofs.Common.{◌≡◌, ℕ, ◌<◌, Some, None}
use Rattle.std.specs.Prelude.{slice_get}
use Rattle.fl_base.specs.declared.fragment.Frag.{Frag}
use Rattle.fl_wire.specs.Wrong.{follow_fault}
use Rattle.fl_wire.specs.Headers.{Line}
use Rattle.fl_wire.proofs.header.following.Given as goal

-- the fragments so far follow
abbrev pub invariant-loop-k : goal.invariant-loop-k
invariant-loop-k l = record {
  follow : (n : ℕ) (f : Frag) → n < l.k → slice_get l.frags n ≡ Some f → follow_fault l.msg.0 f ≡ None;
  lines : (n : ℕ) (f : Frag) → n < l.k → slice_get l.frags n ≡ Some f → Line f;
}
