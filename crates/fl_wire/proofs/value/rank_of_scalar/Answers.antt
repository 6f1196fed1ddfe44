use Rattle.std.proofs.Common.{◌≡◌, sym, ◌∙◌, ap}
use Rattle.fl_interface.specs.declared.interface.Scalar.TheVariants.{Uint64}
use Rattle.fl_interface.specs.declared.interface.Scalar.{Scalar}
use Rattle.fl_interface.specs.Interface.{scalar, fixed}
use Rattle.fl_value_data.specs.Plan.{rank_of}
use Rattle.fl_wire.proofs.Scalars.{wide_rank}
use Rattle.fl_wire.proofs.value.rank_of_scalar.Goals as goal

pub returns-in-Uint64 : goal.returns-in-Uint64
returns-in-Uint64 c =
    let is : c.args.kind ≡ Uint64 = c.in-Uint64.is in
    record { rank = sym (ap (rank_of c.args.plan) c.requires.kind ∙ ap (λ (s : Scalar). rank_of c.args.plan (fixed (scalar s))) is ∙ wide_rank c.args.plan) }
