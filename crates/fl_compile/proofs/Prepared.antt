-- The prepared code of each message.
use Rattle.std.proofs.Common.{◌≡◌, ℕ, zero, suc, ◌+◌, ◌<◌, ◌≤◌, List, [], ◌∷◌, ◌++◌, map, length, take, get_or, refl, sym, ◌∙◌, ap, subst, arith}
use Rattle.std.specs.Prelude.{Some, None, slice_get, nat_lt, true, false}
use Rattle.std.proofs.lemmas.Bool.{ltb-true, ltb-false}
use Rattle.std.specs.Option.{option_map}
use Rattle.std.proofs.lemmas.List.{take_more, take_all, length-append}
use Rattle.std.proofs.lemmas.Option.{slice_get_read}
use Rattle.fl_interface.specs.Interface.{TheMessage}
use Rattle.fl_value_data.specs.declared.value.PlanNo.{PlanNo}
use Rattle.fl_stub.specs.declared.op.Column.TheVariants.{Send}
use Rattle.fl_stub.specs.Frames.{block_of}
use Rattle.fl_stub_steps.specs.declared.step.PreparedCode.{PreparedCode}
use Rattle.fl_stub_steps.specs.Steps.{steps_in, Means}
use Rattle.fl_compile.specs.declared.program.MessageCode.{MessageCode}
use Rattle.fl_compile.specs.Codes.{compiled_code, compiled_codes, EachMeans, ArePrepared}
use Rattle.fl_compile.specs.Programs.{Prepares}

-- of the first so many messages
abbrev pub SoFar : List MessageCode → ℕ → List PreparedCode → Type 0
SoFar codes k ps = (length ps ≡ length (take k codes)) × (length ps ≡ k) × EachMeans codes ps

abbrev pub PreparedFor : MessageCode → PreparedCode → Type 0
PreparedFor code p = Means (steps_in p) (block_of code.send.ops)

some_is : {A : Type 0} (a b : A) → Some a ≡ Some b → a ≡ b
some_is a b e = cc

none_is : {A : Type 0} (a : A) → None ≡ Some a → ⊥
none_is a e = absurd (cc)

one_more : (codes : List MessageCode) (ps : List PreparedCode) (code : MessageCode) (p : PreparedCode) → slice_get codes (length ps) ≡ Some code → PreparedFor code p
    → EachMeans codes ps → EachMeans codes (ps ++ p ∷ [])
one_more [] ps code p there m h k other q at_code at_q = absurd (none_is other at_code)
one_more (d ∷ codes) [] code p there m h zero other q at_code at_q =
    let codes_are : code ≡ other = some_is code other (sym there ∙ at_code) in
    let parts_are : p ≡ q = some_is p q at_q in
    subst (λ (r : PreparedCode). PreparedFor other r) parts_are (subst (λ (c : MessageCode). PreparedFor c p) codes_are m)
one_more (d ∷ codes) [] code p there m h (suc k) other q at_code at_q = absurd (none_is q at_q)
one_more (d ∷ codes) (r ∷ ps) code p there m h zero other q at_code at_q = h zero other q at_code at_q
one_more (d ∷ codes) (r ∷ ps) code p there m h (suc k) other q at_code at_q =
    one_more codes ps code p there m (λ j. h (suc j)) k other q at_code at_q

pub none_prepared : (codes : List MessageCode) (k : ℕ) (ps : List PreparedCode) → k ≡ 0 → ps ≡ [] → SoFar codes k ps
none_prepared codes k ps first none =
    let so : SoFar codes 0 [] = (refl, refl, λ j code p at_code at_p. absurd (none_is p at_p)) in
    subst (λ (n : ℕ). SoFar codes n ps) (sym first) (subst (λ (l : List PreparedCode). SoFar codes 0 l) (sym none) so)

pub next_prepared : (codes : List MessageCode) (k : ℕ) (code : MessageCode) (ps new : List PreparedCode) (p : PreparedCode) → k < length codes → code ≡ get_or codes k code → new ≡ ps ++ p ∷ []
    → SoFar codes k ps → PreparedFor code p → SoFar codes (k + 1) new
next_prepared codes k code ps new p inside is pushed h means =
    let cut : length (take (k + 1) codes) ≡ length (take k codes ++ code ∷ []) = ap length (take_more codes k code inside ∙ ap (λ (d : MessageCode). take k codes ++ d ∷ []) (sym is)) in
    let there : slice_get codes (length ps) ≡ Some code = ap (slice_get codes) h.1 ∙ slice_get_read codes (length codes) k code refl inside is in
    let more = length-append ps (p ∷ []) in
    let so : SoFar codes (k + 1) (ps ++ p ∷ [])
    = (omega (arith, more, cut, length-append (take k codes) (code ∷ []), h.0), omega (arith, more, h.1), one_more codes ps code p there means h.2) in
    subst (λ (l : List PreparedCode). SoFar codes (k + 1) l) (sym pushed) so

pub all_prepared : (codes : List MessageCode) (k : ℕ) (ps : List PreparedCode) → length codes ≤ k → SoFar codes k ps → ArePrepared codes ps
all_prepared codes k ps past h = (h.0 ∙ ap length (take_all k codes past), h.2)

-- ---- one of them, where it is

prepared_at : (plan : PlanNo) (ms : List TheMessage) (ps : List PreparedCode) (k : ℕ) (p : PreparedCode) → ArePrepared (map (compiled_codes plan) ms) ps → slice_get ps k ≡ Some p
    → Prepares (option_map (compiled_code Send plan) (slice_get ms k)) p
prepared_at plan [] [] k p h there = absurd (none_is p there)
prepared_at plan [] (q ∷ ps) k p h there = absurd (omega (arith, h.0))
prepared_at plan (m ∷ ms) [] k p h there = absurd (none_is p there)
prepared_at plan (m ∷ ms) (q ∷ ps) zero p h there = (compiled_code Send plan m, refl, h.1 zero (compiled_codes plan m) p refl there)
prepared_at plan (m ∷ ms) (q ∷ ps) (suc k) p h there = prepared_at plan ms ps k p (omega (arith, h.0), λ j. h.1 (suc j)) there

-- as a call finds it
pub prepared_found : (plan : PlanNo) (ms : List TheMessage) (ps found : List PreparedCode) (n k : ℕ) (p : PreparedCode) → ArePrepared (map (compiled_codes plan) ms) ps
    → found ≡ ps → n ≡ k → true ≡ nat_lt n (length found) → p ≡ get_or found n p → Prepares (option_map (compiled_code Send plan) (slice_get ms k)) p
prepared_found plan ms ps found n k p h same at within is =
    let there : slice_get found n ≡ Some p = slice_get_read found (length found) n p refl (ltb-true n (length found) (sym within)) is in
    prepared_at plan ms ps k p h (ap (λ (l : List PreparedCode). slice_get l k) (sym same) ∙ ap (slice_get found) (sym at) ∙ there)

-- none where there is no message
none_past : (plan : PlanNo) (ms : List TheMessage) (k : ℕ) → length (map (compiled_codes plan) ms) ≤ k → option_map (compiled_code Send plan) (slice_get ms k) ≡ None
none_past plan [] k past = refl
none_past plan (m ∷ ms) zero past = absurd (omega (arith, past))
none_past plan (m ∷ ms) (suc k) past = none_past plan ms k (omega (arith, past))

pub none_found : (plan : PlanNo) (ms : List TheMessage) (ps found : List PreparedCode) (n k : ℕ) → ArePrepared (map (compiled_codes plan) ms) ps
    → found ≡ ps → n ≡ k → false ≡ nat_lt n (length found) → option_map (compiled_code Send plan) (slice_get ms k) ≡ None
none_found plan ms ps found n k h same at past =
    none_past plan ms k (omega (arith, h.0, ap length same, at, ltb-false n (length found) (sym past)))
