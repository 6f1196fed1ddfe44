-- Cores that are made, and an interface, in a world.
use Rattle.std.proofs.Common.{◌≡◌, refl, sym, ap, ap₂, ◌∙◌, subst, ℕ, ◌+◌, ◌≤◌, length, List, [], ◌∷◌, ◌++◌, true}
use Rattle.std.proofs.lemmas.List.FromFn.{length-map-range_with_len}
use Rattle.fl_interface.specs.Interface.{TheInterface}
use Rattle.fl_interface.specs.Limits.{is_within_limits}
use Rattle.fl_compile.specs.declared.program.Program.{Program}
use Rattle.fl_compile.specs.Programs.{program_of}
use Rattle.fl_value_data.specs.declared.value.PlanNo.{PlanNo}
use Rattle.fl_core.specs.View.{TheCore, fresh_core}
use Rattle.fl_model.specs.Events.{done}
use Rattle.fl_model.specs.Calls.{Planned}
use Rattle.fl_world_refines.specs.View.{TheWorld}
use Rattle.fl_world_refines.specs.Making.{fresh_cores, WithProgram}

-- ---- cores

pub few_fresh : (n : ℕ) (cores : List TheCore) → cores ≡ fresh_cores n → n ≤ 16 → length cores ≤ 16
few_fresh n cores is few = subst (λ (i : ℕ). i ≤ 16) (sym (ap length is ∙ length-map-range_with_len fresh_core 0 n)) few

-- ---- an interface

pub adds_program : (w base : TheWorld) → base ≡ w → (i : TheInterface) (plan : PlanNo) (p : Program) → (program_of p).interface ≡ i → (program_of p).plan ≡ plan
    → is_within_limits i ≡ true → (programs : List Program) → programs ≡ base.programs ++ p ∷ []
    → WithProgram (record { interface = i; plan = plan }) w done (record base { programs = programs })
adds_program w base same i plan p is planned within programs more =
    subst (λ (x : TheWorld). WithProgram (record { interface = i; plan = plan }) x done (record base { programs = programs })) same (record {
      answer = refl;
      program = p;
      planned = ap₂ (λ (x : TheInterface) (y : PlanNo). the_plan x y) is planned;
      limits = within;
      rest = ap (λ (ps : List Program). record base { programs = ps }) more;
    })
  where
    the_plan : TheInterface → PlanNo → Planned
    the_plan x y = record { interface = x; plan = y }
