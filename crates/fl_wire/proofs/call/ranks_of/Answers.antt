use Rattle.std.proofs.Common.{◌<◌, sym, subst, arith}
use Rattle.fl_value_data.specs.Plan.{rank_of}
use Rattle.fl_value_data.specs.declared.value.PlanNo.{PlanNo}
use Rattle.fl_wire.proofs.Agreement.{rank_small}
use Rattle.fl_wire.proofs.call.ranks_of.Goals as goal

pub returns-in-One-clause-all : goal.returns-in-One-clause-all
returns-in-One-clause-all c = λ t. subst (λ (plan : PlanNo). rank_of plan t < 1) (sym c.in-One.is) (omega arith)

pub returns-in-Two-clause-all : goal.returns-in-Two-clause-all
returns-in-Two-clause-all c = λ t. rank_small c.args.plan t
