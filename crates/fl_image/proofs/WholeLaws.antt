-- Whole images: what is read is spelled so, and what is spelled so is read.
use Rattle.std.proofs.Common.{◌≡◌, ℕ, ⊎_elim, true, false, cond, eqb, List, [], ◌++◌, length, Result, Ok, Err, refl, sym, ap, subst, ◌∙◌, arith}
use Rattle.std.specs.List.{flat_map}
use Rattle.std.proofs.lemmas.Bool.{eqb-true}
use Rattle.std.proofs.lemmas.List.{append-nil, nil_from_length}
use Rattle.fl_interface.specs.Interface.{TheInterface}
use Rattle.fl_value_data.specs.declared.value.PlanNo.{PlanNo}
use Rattle.fl_value_data.specs.declared.value.PlanNo.TheVariants.{One, Two}
use Rattle.fl_image.specs.declared.fault.BadImage.{BadImage}
use Rattle.fl_image.specs.declared.fault.BadImage.TheVariants.{OtherMagic, OtherVersion, BytesLeftOver}
use Rattle.fl_image.specs.Image.{two, four, Fields, codes_image, magic, version_of, interface_image, fields_spelled}
use Rattle.fl_image.specs.Reading.{◌>>=◌, Read, many_at, four_at, two_at, interface_at, codes_at, magic_at, plan_at, fields_at, all_of}
use Rattle.fl_image.proofs.ReadBack.{IsBytes, Law, Takes, follow, mapped, many, IsList, bind_ok, first_is, rest_is}
use Rattle.fl_image.proofs.Numbers.{two_law, four_law}
use Rattle.fl_image.proofs.TypeLaws.{picked}
use Rattle.fl_image.proofs.MessageLaws.{HasInterface, interface_law}
use Rattle.fl_image.proofs.CodeLaws.{AreSpelled, codes_law}

-- ---- the start

abbrev Nothing : Type 0
Nothing = Unit {0}

magic_takes : (bytes : List ℕ) (u : Nothing) (rest : List ℕ) → IsBytes bytes → magic_at bytes ≡ Ok (u, rest) → Takes bytes magic rest × Nothing
unfolding magic_at
magic_takes bytes u rest h e =
    let s = bind_ok (four_at bytes) (λ number. cond (eqb number.0 1145982022) (Ok (tt, number.1)) (Err OtherMagic)) (u, rest) e in
    let one = four_law.takes bytes s.0.0 s.0.1 h s.1 in
    ⊎_elim
    (λ (p : (eqb s.0.0 1145982022 ≡ true) × (Ok (tt, s.0.1) ≡ Ok (u, rest))).
    let behind : s.0.1 ≡ rest = rest_is tt s.0.1 u rest p.1 in
    let number : four s.0.0 ≡ magic = ap four (eqb-true s.0.0 1145982022 p.0) in
    (subst (λ (t : List ℕ). Takes bytes t rest) number (subst (λ (t : List ℕ). Takes bytes (four s.0.0) t) behind one.0), tt))
    (λ (p : (eqb s.0.0 1145982022 ≡ false) × (Err OtherMagic ≡ Ok (u, rest))). absurd cc)
    (picked (eqb s.0.0 1145982022) (Ok (tt, s.0.1)) (Err OtherMagic) (Ok (u, rest)) s.2)

magic_again : (u : Nothing) (rest : List ℕ) → Nothing → magic_at (magic ++ rest) ≡ Ok (u, rest)
unfolding magic_at
magic_again u rest h = ap (λ (r : Read ℕ). r >>= λ number. cond (eqb number.0 1145982022) (Ok (tt, number.1)) (Err OtherMagic)) (four_law.again 1145982022 rest (omega arith))

pub magic_law : Law magic_at (λ (u : Nothing). magic) (λ u. Nothing)
magic_law = record { takes = magic_takes; again = magic_again }

abbrev plan_of : ℕ → List ℕ → Read PlanNo
plan_of n rest = cond (eqb n 1) (Ok (One, rest)) (cond (eqb n 2) (Ok (Two, rest)) (Err OtherVersion))

plan_is : (n : ℕ) (rest : List ℕ) (plan : PlanNo) (behind : List ℕ) → plan_of n rest ≡ Ok (plan, behind) → (n ≡ version_of plan) × (rest ≡ behind)
plan_is n rest plan behind e =
    ⊎_elim
    (λ (p : (eqb n 1 ≡ true) × (Ok (One, rest) ≡ Ok (plan, behind))). (eqb-true n 1 p.0 ∙ ap version_of (first_is One rest plan behind p.1), rest_is One rest plan behind p.1))
    (λ (q : (eqb n 1 ≡ false) × (cond (eqb n 2) (Ok (Two, rest)) (Err OtherVersion) ≡ Ok (plan, behind))).
    ⊎_elim
    (λ (p : (eqb n 2 ≡ true) × (Ok (Two, rest) ≡ Ok (plan, behind))). (eqb-true n 2 p.0 ∙ ap version_of (first_is Two rest plan behind p.1), rest_is Two rest plan behind p.1))
    (λ (p : (eqb n 2 ≡ false) × (Err OtherVersion ≡ Ok (plan, behind))). absurd cc)
    (picked (eqb n 2) (Ok (Two, rest)) (Err OtherVersion) (Ok (plan, behind)) q.1))
    (picked (eqb n 1) (Ok (One, rest)) (cond (eqb n 2) (Ok (Two, rest)) (Err OtherVersion)) (Ok (plan, behind)) e)

plan_takes : (bytes : List ℕ) (plan : PlanNo) (rest : List ℕ) → IsBytes bytes → plan_at bytes ≡ Ok (plan, rest) → Takes bytes (two (version_of plan)) rest × Nothing
unfolding plan_at
plan_takes bytes plan rest h e =
    let s = bind_ok (two_at bytes) (λ version. plan_of version.0 version.1) (plan, rest) e in
    let one = two_law.takes bytes s.0.0 s.0.1 h s.1 in
    let p = plan_is s.0.0 s.0.1 plan rest s.2 in
    (subst (λ (n : ℕ). Takes bytes (two n) rest) p.0 (subst (λ (t : List ℕ). Takes bytes (two s.0.0) t) p.1 one.0), tt)

plan_again : (plan : PlanNo) (rest : List ℕ) → Nothing → plan_at (two (version_of plan) ++ rest) ≡ Ok (plan, rest)
unfolding plan_at
plan_again One rest h = ap (λ (r : Read ℕ). r >>= λ version. plan_of version.0 version.1) (two_law.again 1 rest (omega arith))
plan_again Two rest h = ap (λ (r : Read ℕ). r >>= λ version. plan_of version.0 version.1) (two_law.again 2 rest (omega arith))

pub plan_law : Law plan_at (λ plan. two (version_of plan)) (λ plan. Nothing)
plan_law = record { takes = plan_takes; again = plan_again }

-- ---- all fields

-- fields that an image may have, whatever its code is
pub record HasFields (f : Fields) : Type 0 where
  pub interface : HasInterface f.interface
  pub codes : IsList AreSpelled (length f.interface.messages) f.codes

-- the code behind a plan and an interface
abbrev CodedSo : PlanNo → TheInterface → Fields → Type 0
CodedSo plan x f = ((plan ≡ f.plan) × (x ≡ f.interface)) × IsList AreSpelled (length x.messages) f.codes

code_part : (plan : PlanNo) (x : TheInterface) → Law (λ bytes. many_at codes_at (length x.messages) bytes >>= λ codes. Ok (record { plan = plan; interface = x; codes = codes.0 }, codes.1)) (λ f. flat_map codes_image f.codes) (CodedSo plan x)
code_part plan x = mapped (many_at codes_at (length x.messages)) (flat_map codes_image) (IsList AreSpelled (length x.messages)) (λ codes. record { plan = plan; interface = x; codes = codes }) (λ f. flat_map codes_image f.codes) (CodedSo plan x) (many codes_at codes_image AreSpelled codes_law (length x.messages)) record {
  made = λ codes h. (refl, ((refl, refl), h));
  cut = λ f h. (f.codes, rw (h.0.0, h.0.1) refl, h.1);
}

-- an interface and its code behind a plan
abbrev PlannedSo : PlanNo → Fields → Type 0
PlannedSo plan f = (plan ≡ f.plan) × HasFields f

interface_part : (plan : PlanNo) → Law (λ bytes. interface_at bytes >>= λ interface. many_at codes_at (length interface.0.messages) interface.1 >>= λ codes. Ok (record { plan = plan; interface = interface.0; codes = codes.0 }, codes.1)) (λ f. interface_image f.interface ++ flat_map codes_image f.codes) (PlannedSo plan)
interface_part plan = follow interface_at interface_image HasInterface (λ x bytes. many_at codes_at (length x.messages) bytes >>= λ codes. Ok (record { plan = plan; interface = x; codes = codes.0 }, codes.1)) (λ x f. flat_map codes_image f.codes) (CodedSo plan) (λ f. interface_image f.interface ++ flat_map codes_image f.codes) (PlannedSo plan) interface_law (λ x h. code_part plan x) record {
  joined = λ x f h1 h2. (
    ap (λ (y : TheInterface). interface_image y ++ flat_map codes_image f.codes) (sym h2.0.1),
    (
      h2.0.0,
      record {
        interface = subst HasInterface h2.0.1 h1;
        codes = subst (λ (y : TheInterface). IsList AreSpelled (length y.messages) f.codes) h2.0.1 h2.1;
      },
    ),
  );
  cut = λ f h. (f.interface, h.1.interface, ((h.0, refl), h.1.codes));
}

abbrev after_magic : Fields → List ℕ
after_magic f = two (version_of f.plan) ++ (interface_image f.interface ++ flat_map codes_image f.codes)

plan_part : Law (λ bytes. plan_at bytes >>= λ plan. interface_at plan.1 >>= λ interface. many_at codes_at (length interface.0.messages) interface.1 >>= λ codes. Ok (record { plan = plan.0; interface = interface.0; codes = codes.0 }, codes.1)) after_magic HasFields
plan_part = follow plan_at (λ plan. two (version_of plan)) (λ plan. Nothing) (λ plan bytes. interface_at bytes >>= λ interface. many_at codes_at (length interface.0.messages) interface.1 >>= λ codes. Ok (record { plan = plan; interface = interface.0; codes = codes.0 }, codes.1)) (λ plan f. interface_image f.interface ++ flat_map codes_image f.codes) PlannedSo after_magic HasFields plan_law (λ plan u. interface_part plan) record {
  joined = λ plan f u h. (ap (λ (p : PlanNo). two (version_of p) ++ (interface_image f.interface ++ flat_map codes_image f.codes)) (sym h.0), h.1);
  cut = λ f h. (f.plan, tt, (refl, h));
}

pub fields_law : Law fields_at fields_spelled HasFields
unfolding fields_at
fields_law = follow magic_at (λ (u : Nothing). magic) (λ u. Nothing) (λ u bytes. plan_at bytes >>= λ plan. interface_at plan.1 >>= λ interface. many_at codes_at (length interface.0.messages) interface.1 >>= λ codes. Ok (record { plan = plan.0; interface = interface.0; codes = codes.0 }, codes.1)) (λ u. after_magic) (λ u. HasFields) fields_spelled HasFields magic_law (λ u h. plan_part) record {
  joined = λ u f h1 h2. (refl, h2);
  cut = λ f h. (tt, tt, h);
}

-- ---- all of the bytes

abbrev whole : Read Fields → Result Fields BadImage
whole r = elim r as (λ _. Result Fields BadImage) [
  | Err e ↦ Err e
  | Ok p ↦ cond (eqb (length p.1) 0) (Ok p.0) (Err BytesLeftOver)
]

abbrev ok_fields : Fields → Result Fields BadImage
ok_fields f = Ok f

same_fields : (f g : Fields) → ok_fields f ≡ ok_fields g → f ≡ g
same_fields f g e = cc

whole_ok : (r : Read Fields) (f : Fields) → whole r ≡ Ok f → r ≡ Ok (f, [])
whole_ok (Err e) f h = absurd cc
whole_ok (Ok p) f h =
    ⊎_elim
    (λ (q : (eqb (length p.1) 0 ≡ true) × (ok_fields p.0 ≡ Ok f)).
    let none : p.1 ≡ [] = nil_from_length p.1 (eqb-true (length p.1) 0 q.0) in
    let it : p.0 ≡ f = same_fields p.0 f q.1 in
    ap (λ (x : Fields). Ok (x, p.1)) it ∙ ap (λ (t : List ℕ). Ok (f, t)) none)
    (λ (q : (eqb (length p.1) 0 ≡ false) × (Err BytesLeftOver ≡ Ok f)). absurd cc)
    (picked (eqb (length p.1) 0) (ok_fields p.0) (Err BytesLeftOver) (Ok f) h)

pub all_takes : (bytes : List ℕ) (f : Fields) → IsBytes bytes → all_of bytes ≡ Ok f → (bytes ≡ fields_spelled f) × HasFields f
unfolding all_of
all_takes bytes f h e =
    let x = fields_law.takes bytes f [] h (whole_ok (fields_at bytes) f e) in
    (x.0.parts ∙ append-nil (fields_spelled f), x.1)

pub all_again : (f : Fields) → HasFields f → all_of (fields_spelled f) ≡ Ok f
unfolding all_of
all_again f h =
    ap (λ (t : List ℕ). whole (fields_at t)) (sym (append-nil (fields_spelled f))) ∙ ap whole (fields_law.again f [] h)
