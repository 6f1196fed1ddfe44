-- Which refusals stay whatever follows, and what is answered of an image that was cut short or has bytes behind it.
use Rattle.std.proofs.Common.{◌≡◌, inl, inr, ⊎_elim, ℕ, ◌+◌, ◌<◌, true, false, cond, eqb, List, [], ◌++◌, length, Result, Ok, Err, refl, sym, ap, subst, ◌∙◌, arith, length-append}
use Rattle.std.proofs.lemmas.Bool.{ne_eqb}
use Rattle.std.proofs.lemmas.List.{append-nil}
use Rattle.fl_interface.specs.Interface.{TheInterface}
use Rattle.fl_value_data.specs.declared.value.PlanNo.{PlanNo}
use Rattle.fl_image.specs.declared.fault.BadImage.{BadImage}
use Rattle.fl_image.specs.declared.fault.BadImage.TheVariants.{EndsEarly, BytesLeftOver}
use Rattle.fl_image.specs.Image.{Fields, compiled, has_image, image_of}
use Rattle.fl_image.specs.Reading.{Read, fields_at, all_of, FirstFault}
use Rattle.fl_image.specs.Laws.{IsProperPrefix, IsOfField}
use Rattle.fl_image.proofs.ReadBack.{rest_is}
use Rattle.fl_image.proofs.TypeLaws.{picked}
use Rattle.fl_image.proofs.WholeLaws.{fields_law}
use Rattle.fl_image.proofs.Arranged.{compiled_has}
use Rattle.fl_image.proofs.Steady.{Keeps, fields_steady}

abbrev whole : Read Fields → Result Fields BadImage
whole r = elim r as (λ _. Result Fields BadImage) [
  | Err e ↦ Err e
  | Ok p ↦ cond (eqb (length p.1) 0) (Ok p.0) (Err BytesLeftOver)
]

abbrev gave : Fields → List ℕ → Read Fields
gave f rest = Ok (f, rest)

abbrev ok_fields : Fields → Result Fields BadImage
ok_fields f = Ok f

abbrev refused : BadImage → Result Fields BadImage
refused e = Err e

not_field : (e fault : BadImage) → (IsOfField e → ⊥) → IsOfField fault → refused e ≡ refused fault → ⊥
not_field e fault other is h =
    let same : fault ≡ e = cc in
    other (subst IsOfField same is)

-- ---- whatever follows

stays : (more : List ℕ) (r later : Read Fields) (fault : BadImage) → Keeps more r later → IsOfField fault → whole r ≡ Err fault → whole later ≡ Err fault
stays more (Err e) later fault (inl k) is h = absurd (not_field e fault (λ of. subst IsOfField k of) is h)
stays more (Err e) later fault (inr k) is h = ap whole k ∙ h
stays more (Ok p) later fault k is h =
    ⊎_elim
    (λ (q : (eqb (length p.1) 0 ≡ true) × (ok_fields p.0 ≡ Err fault)). absurd cc)
    (λ (q : (eqb (length p.1) 0 ≡ false) × (refused BytesLeftOver ≡ Err fault)). absurd (not_field BytesLeftOver fault (λ of. of) is q.1))
    (picked (eqb (length p.1) 0) (ok_fields p.0) (refused BytesLeftOver) (Err fault) h)

pub field_faults_stay : (bytes more : List ℕ) (fault : BadImage) → IsOfField fault → FirstFault bytes fault → FirstFault (bytes ++ more) fault
unfolding all_of
field_faults_stay bytes more fault is (inl h) = inl (stays more (fields_at bytes) (fields_at (bytes ++ more)) fault (fields_steady bytes more) is h)
field_faults_stay bytes more fault is (inr h) = absurd (subst IsOfField h.0 is)

-- ---- cut short

nothing_read : (f g : Fields) (rest more : List ℕ) → gave f (rest ++ more) ≡ gave g [] → 0 < length more → ⊥
nothing_read f g rest more e some =
    let none : rest ++ more ≡ [] = rest_is f (rest ++ more) g [] e in
    let count : length rest + length more ≡ 0 = sym (length-append rest more) ∙ ap length none in
    omega arith

ends : (more : List ℕ) (r later : Read Fields) (f : Fields) → Keeps more r later → later ≡ gave f [] → 0 < length more → whole r ≡ Err EndsEarly
ends more (Ok p) later f k e some = absurd (nothing_read p.0 f p.1 more (sym k ∙ e) some)
ends more (Err d) later f (inl k) e some = ap refused k
ends more (Err d) later f (inr k) e some =
    let bad : Err d ≡ gave f [] = sym k ∙ e in
    absurd cc

-- all fields of an image are read, and what follows is left
is_read : (plan : PlanNo) (x : TheInterface) (more : List ℕ) → has_image x ≡ true → fields_at (image_of plan x ++ more) ≡ gave (compiled plan x) more
is_read plan x more h = fields_law.again (compiled plan x) more (compiled_has plan x h)

pub cut_ends_early : (plan : PlanNo) (x : TheInterface) (bytes : List ℕ) → has_image x ≡ true → IsProperPrefix bytes (image_of plan x) → FirstFault bytes EndsEarly
unfolding all_of
cut_ends_early plan x bytes h cut =
    let (rest, parts) = cut.is_prefix in
    let some : 0 < length rest = omega (arith, cut.shorter, ap length parts, length-append bytes rest) in
    let all : fields_at (bytes ++ rest) ≡ gave (compiled plan x) [] =
    ap fields_at (sym parts) ∙ (ap fields_at (sym (append-nil (image_of plan x))) ∙ is_read plan x [] h) in
    inl (ends rest (fields_at bytes) (fields_at (bytes ++ rest)) (compiled plan x) (fields_steady bytes rest) all some)

-- ---- bytes behind

pub longer_has_more : (plan : PlanNo) (x : TheInterface) (more : List ℕ) → has_image x ≡ true → 0 < length more → FirstFault (image_of plan x ++ more) BytesLeftOver
unfolding all_of
longer_has_more plan x more h some =
    let left : eqb (length more) 0 ≡ false = ne_eqb (length more) 0 (λ e. omega arith) in
    inl (ap whole (is_read plan x more h) ∙ rw left refl)
