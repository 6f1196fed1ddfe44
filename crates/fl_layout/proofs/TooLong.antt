-- The limit is looked at for the greatest payload under the first plan.
use Rattle.std.proofs.Common.{◌<◌, ◌∙◌, sym, subst, arith}
use Rattle.std.proofs.lemmas.Bool.{ltb-true, lt-ltb}
use Rattle.fl_interface.specs.Payload.{greatest_payload}
use Rattle.fl_value_data.specs.declared.value.PlanNo.TheVariants.{One}
use Rattle.fl_layout.specs.Layouts.{payload_length, IsGreatest}
use Rattle.fl_layout.specs.Limit.{GreatestIsOfPlanOne, TooLongHasLongCall}
use Rattle.fl_layout.proofs.Lengths.{greatest_of}
use Rattle.fl_layout.proofs.BothPlans.{limit_full, end_is}

pub greatest_is_of_plan_one : GreatestIsOfPlanOne
greatest_is_of_plan_one i msg m h =
    subst (IsGreatest (payload_length One i) i msg) (limit_full One m ∙ end_is m.args 0 1) (greatest_of One i msg m h.types h.message)

pub too_long_has_long_call : TooLongHasLongCall
too_long_has_long_call i msg m h =
    let greatest = greatest_is_of_plan_one i msg m h in (
      λ e. record {
        call = greatest.call;
        fits = greatest.fits;
        long = subst (λ n. 32768 < n) (sym greatest.reached) (ltb-true 32768 (greatest_payload m.args) e);
      },
      λ c. lt-ltb 32768 (greatest_payload m.args) (omega (arith, c.long, greatest.bounds c.call c.fits)),
    )
