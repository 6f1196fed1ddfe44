-- What reading an image answers.
use Rattle.std.proofs.Common.{◌≡◌, ℕ, true, List, inr, Result, Ok, Err, refl, sym, ap, ◌∙◌}
use Rattle.std.proofs.lemmas.Bool.{and_parts}
use Rattle.fl_interface.specs.Interface.{TheInterface, interface_of}
use Rattle.fl_interface.specs.Limits.{is_within_limits}
use Rattle.fl_value_data.specs.declared.value.PlanNo.{PlanNo}
use Rattle.fl_compile.specs.declared.program.Program.{Program}
use Rattle.fl_compile.specs.Programs.{TheProgram, program_of}
use Rattle.fl_image.specs.declared.fault.BadImage.{BadImage}
use Rattle.fl_image.specs.declared.fault.BadImage.TheVariants.{OtherCode}
use Rattle.fl_image.specs.declared.fault.ImageFault.{ImageFault}
use Rattle.fl_image.specs.declared.fault.ImageFault.TheVariants.{Refused, Memory}
use Rattle.fl_image.specs.declared.reader.ImageFields.{ImageFields}
use Rattle.fl_image.specs.Image.{Fields, compiled, is_spellable, is_writable, has_image, image_of, fields_spelled}
use Rattle.fl_image.specs.Reading.{Fails, all_of, FirstFault}
use Rattle.fl_image.specs.Views.{found_view}
use Rattle.fl_image.specs.Outcome.{Reads}
use Rattle.fl_image.proofs.ReadBack.{IsBytes}
use Rattle.fl_image.proofs.WholeLaws.{all_takes, all_again}
use Rattle.fl_image.proofs.Fitting.{read_has_image}
use Rattle.fl_image.proofs.Arranged.{compiled_has}
use Rattle.fl_image.proofs.Named.{spellable_enums}

-- a program compiled from the fields that were read
pub record Fitting (f : ImageFields) (p : Program) : Type 0 where
  pub interface : (program_of p).interface ≡ interface_of f.interface
  pub plan : (program_of p).plan ≡ f.plan

same_image : (p q : PlanNo) (x y : TheInterface) → p ≡ q → x ≡ y → image_of p x ≡ image_of q y
same_image p q x y e f = ap (λ (r : PlanNo). image_of r x) e ∙ ap (image_of q) f

pub is_found : (bytes : List ℕ) (f : ImageFields) (p : Program) → IsBytes bytes → all_of bytes ≡ Ok (found_view f) → Fitting f p → bytes ≡ image_of (program_of p).plan (program_of p).interface
    → (has_image (program_of p).interface ≡ true) × (bytes ≡ image_of (program_of p).plan (program_of p).interface)
is_found bytes f p h e fit same =
    let x : has_image (interface_of f.interface) ≡ true = read_has_image (interface_of f.interface) (all_takes bytes (found_view f) h e).1.interface in
    (ap has_image fit.interface ∙ x, same)

-- so it can be written again
pub is_found_writable : (bytes : List ℕ) (f : ImageFields) (p : Program) → IsBytes bytes → all_of bytes ≡ Ok (found_view f) → Fitting f p → is_writable (program_of p).interface ≡ true
is_found_writable bytes f p h e fit =
    let x = interface_of f.interface in
    let has : has_image x ≡ true = read_has_image x (all_takes bytes (found_view f) h e).1.interface in
    ap is_writable fit.interface ∙ spellable_enums x (and_parts (is_within_limits x) (is_spellable x) has).1

pub is_other : (bytes : List ℕ) (f : ImageFields) (p : Program) → IsBytes bytes → all_of bytes ≡ Ok (found_view f) → Fitting f p → (bytes ≡ image_of (program_of p).plan (program_of p).interface → ⊥)
    → FirstFault bytes OtherCode
is_other bytes f p h e fit other =
    let image : image_of f.plan (interface_of f.interface) ≡ image_of (program_of p).plan (program_of p).interface =
    same_image f.plan (program_of p).plan (interface_of f.interface) (program_of p).interface (sym fit.plan) (sym fit.interface) in
    inr (refl, found_view f, e, λ same. other ((all_takes bytes (found_view f) h e).0 ∙ ap fields_spelled same ∙ image))

-- ---- what is spelled is read

abbrev ok_fields : Fields → Result Fields BadImage
ok_fields f = Ok f

same_fields : (f g : Fields) → ok_fields f ≡ ok_fields g → f ≡ g
same_fields f g e = cc

ok_no_err : (f : Fields) (r : BadImage) → ok_fields f ≡ Err r → ⊥
ok_no_err f r e = absurd cc

pub is_read : (plan : PlanNo) (x : TheInterface) (bytes : List ℕ) → has_image x ≡ true → bytes ≡ image_of plan x → all_of bytes ≡ Ok (compiled plan x)
is_read plan x bytes h e = ap all_of e ∙ all_again (compiled plan x) (compiled_has plan x h)

-- the program's interface and plan are those that were spelled
pub record Same (plan : PlanNo) (x : TheInterface) (p : Program) : Type 0 where
  pub interface : (program_of p).interface ≡ x
  pub plan_is : (program_of p).plan ≡ plan

are_same : (plan : PlanNo) (x : TheInterface) (bytes : List ℕ) (f : ImageFields) (p : Program) → has_image x ≡ true → bytes ≡ image_of plan x → all_of bytes ≡ Ok (found_view f) → Fitting f p → Same plan x p
are_same plan x bytes f p h e g fit =
    let same = same_fields (found_view f) (compiled plan x) (sym g ∙ is_read plan x bytes h e) in
    record {
      interface = fit.interface ∙ ap (λ (k : Fields). k.interface) same;
      plan_is = fit.plan ∙ ap (λ (k : Fields). k.plan) same;
    }

pub only_program : (plan : PlanNo) (x : TheInterface) (bytes : List ℕ) (f : ImageFields) (p : Program) → has_image x ≡ true → bytes ≡ image_of plan x → all_of bytes ≡ Ok (found_view f) → Fitting f p
    → program_of p ≡ record { interface = x; plan = plan }
only_program plan x bytes f p h e g fit =
    let s = are_same plan x bytes f p h e g fit in
    let start : TheProgram = record { interface = (program_of p).interface; plan = (program_of p).plan } in
    let middle : TheProgram = record { interface = x; plan = (program_of p).plan } in
    let first : start ≡ middle = ap (λ (i : TheInterface). record { interface = i; plan = (program_of p).plan }) s.interface in
    first ∙ ap (λ (q : PlanNo). record { interface = x; plan = q }) s.plan_is

pub no_other : (plan : PlanNo) (x : TheInterface) (bytes : List ℕ) (f : ImageFields) (p : Program) → has_image x ≡ true → bytes ≡ image_of plan x → all_of bytes ≡ Ok (found_view f) → Fitting f p
    → (bytes ≡ image_of (program_of p).plan (program_of p).interface → ⊥) → ⊥
no_other plan x bytes f p h e g fit other =
    let s = are_same plan x bytes f p h e g fit in
    other (e ∙ same_image plan (program_of p).plan x (program_of p).interface (sym s.plan_is) (sym s.interface))

pub no_fault : (plan : PlanNo) (x : TheInterface) (bytes : List ℕ) (e : ImageFault) → has_image x ≡ true → bytes ≡ image_of plan x → Fails e (all_of bytes) → Reads plan x (Err e)
no_fault plan x bytes Memory h e f = tt
no_fault plan x bytes (Refused r) h e f = ok_no_err (compiled plan x) r (sym (is_read plan x bytes h e) ∙ f)

-- ---- the law

-- two interfaces with one image are equal, and so are their plans
pub image_told : (plan plan2 : PlanNo) (x y : TheInterface) → has_image x ≡ true → has_image y ≡ true → image_of plan x ≡ image_of plan2 y → (plan ≡ plan2) × (x ≡ y)
image_told plan plan2 x y hx hy e =
    let a : all_of (image_of plan x) ≡ Ok (compiled plan x) = is_read plan x (image_of plan x) hx refl in
    let b : all_of (image_of plan x) ≡ Ok (compiled plan2 y) = is_read plan2 y (image_of plan x) hy e in
    let same = same_fields (compiled plan x) (compiled plan2 y) (sym a ∙ b) in
    (ap (λ (k : Fields). k.plan) same, ap (λ (k : Fields). k.interface) same)
