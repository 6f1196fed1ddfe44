-- What is made, from the facts of the code.
use Rattle.std.proofs.Common.{◌≡◌, ◌≤◌, ◌<◌, ◌+◌, sym, ap, ◌∙◌, subst, ℕ, Bool, false, nat_le, List, [], ◌∷◌, ◌++◌, length, arith}
use Rattle.std.proofs.lemmas.List.FromFn.{map-range_with_len_more, length-map-range_with_len}
use Rattle.std.specs.List.{list_any}
use Rattle.std.specs.Str.{bytes_eq}
use Rattle.fl_interface.specs.Interface.{TheInterface}
use Rattle.fl_compile.specs.declared.program.Program.{Program}
use Rattle.fl_compile.specs.Programs.{program_of}
use Rattle.fl_value_data.specs.declared.value.PlanNo.{PlanNo}
use Rattle.fl_core.specs.View.{TheCore, fresh_core}
use Rattle.fl_model.specs.Events.{Answer}
use Rattle.fl_world_refines.specs.Ends.{planned_of}
use Rattle.fl_world_refines.specs.View.{If, TheWorld}
use Rattle.fl_world_refines.specs.Lending.{Refuses}
use Rattle.fl_world_refines.specs.Making.{has_program, WithProgram, AddsInterface, fresh_cores}

pub adds : (w w2 : TheWorld) (i : TheInterface) (plan : PlanNo) (a : Answer) → has_program i.name w ≡ false → nat_le 64 (length w.programs) ≡ false
    → WithProgram (record { interface = i; plan = plan }) w a w2 → AddsInterface i plan w a w2
adds w w2 i plan a new few h =
    let with_it = WithProgram (record { interface = i; plan = plan }) w a w2 in
    subst (λ (b : Bool). If b (Refuses 92 w a w2) (If (nat_le 64 (length w.programs)) (Refuses 94 w a w2) with_it)) (sym new)
    (subst (λ (b : Bool). If b (Refuses 94 w a w2) with_it) (sym few) h)

pub planned : (p : Program) (i : TheInterface) (plan : PlanNo) → (program_of p).interface ≡ i → (program_of p).plan ≡ plan
    → planned_of p ≡ record { interface = i; plan = plan }
planned p i plan e f = ap (λ (x : TheInterface). record { interface = x; plan = (program_of p).plan }) e ∙ ap (λ (x : PlanNo). record { interface = i; plan = x }) f

pub one_more : (n m : ℕ) (xs : List TheCore) → xs ≡ fresh_cores n → n + 1 ≡ m → xs ++ fresh_core n ∷ [] ≡ fresh_cores m
one_more n m xs h is = ap (λ (ys : List TheCore). ys ++ fresh_core n ∷ []) h ∙ sym (map-range_with_len_more fresh_core 0 n n (omega arith)) ∙ ap fresh_cores is

pub few_fresh : (n : ℕ) (xs : List TheCore) → xs ≡ fresh_cores n → n ≤ 16 → length xs ≤ 16
few_fresh n xs is h = subst (λ (m : ℕ). m ≤ 16) (sym (ap length is ∙ length-map-range_with_len fresh_core 0 n)) h

pub no_program : (w base : TheWorld) → base ≡ w → (name n2 : List ℕ) (ps : List Program) (r : Bool) → ps ≡ base.programs → n2 ≡ name
    → r ≡ list_any (λ (p : Program). bytes_eq n2 (program_of p).interface.name) ps → r ≡ false → has_program name w ≡ false
no_program w base same name n2 ps r all named is none =
    subst (λ (x : TheWorld). has_program name x ≡ false) same
    (subst (λ (qs : List Program). list_any (λ (p : Program). bytes_eq name (program_of p).interface.name) qs ≡ false) all
    (subst (λ (n : List ℕ). list_any (λ (p : Program). bytes_eq n (program_of p).interface.name) ps ≡ false) named (sym is ∙ none)))

pub with_program : (w base : TheWorld) → base ≡ w → (ps : List Program) (p : Program) → ps ≡ base.programs ++ p ∷ []
    → record base { programs = ps } ≡ record w { programs = w.programs ++ p ∷ [] }
with_program w base same ps p h =
    ap (λ (qs : List Program). record base { programs = qs }) h ∙ ap (λ (x : TheWorld). record x { programs = x.programs ++ p ∷ [] }) same
