-- The codecs of a program's messages, one by one.
use Rattle.std.proofs.Common.{◌≡◌, ℕ, zero, suc, ◌+◌, ◌≤◌, ◌⊎◌, inl, inr, ⊎_elim, false, true, List, [], ◌∷◌, ◌++◌, length, get_or, refl, sym, ◌∙◌, ap, subst, arith, length-append}
use Rattle.std.specs.Prelude.{Option, Some, None, slice_get, nat_lt, IfSome, IfNone}
use Rattle.std.proofs.lemmas.Bool.{ltb-true, ltb-false}
use Rattle.std.proofs.lemmas.Option.{slice_get_past, slice_get_read}
use Rattle.fl_interface.specs.Interface.{TheInterface}
use Rattle.fl_interface.specs.Limits.{is_within_limits}
use Rattle.fl_value_data.specs.declared.value.PlanNo.{PlanNo}
use Rattle.fl_compile.specs.Programs.{TheProgram}
use Rattle.fl_codec.specs.declared.codec.Codec.{Codec}
use Rattle.fl_codec.specs.NumberPlaces.{has_few_numbers}
use Rattle.fl_codec.specs.Codecs.{IsCodecOf}
use Rattle.fl_c_operations.specs.Codecs.{AreFirstCodecs, AreCodecs}

-- the codec of a message; none where it has none
abbrev pub IsCodecAt : TheProgram → ℕ → Option Codec → Type 0
IsCodecAt x k None = has_few_numbers (slice_get x.interface.messages k) ≡ false
IsCodecAt x k (Some c) = IsCodecOf x.plan x.interface k c

each_coded : (x : TheProgram) (count : ℕ) (codecs : List (Option Codec)) → AreFirstCodecs x count codecs → (k : ℕ) (o : Option Codec) → slice_get codecs k ≡ Some o → IsCodecAt x k o
each_coded x count codecs h k None there = h.none k there
each_coded x count codecs h k (Some c) there = h.some k c there

pub none_coded : (x : TheProgram) (codecs : List (Option Codec)) → codecs ≡ [] → AreFirstCodecs x 0 codecs
none_coded x codecs e =
    let no : AreFirstCodecs x 0 [] = record { many = refl; some = λ k c h. absurd (cc); none = λ k h. absurd (cc) } in
    subst (AreFirstCodecs x 0) (sym e) no

-- what stands in a list with one more
last_or_before : {A : Type 0} (xs : List A) (x : A) (j : ℕ) (y : A) → slice_get (xs ++ x ∷ []) j ≡ Some y → (slice_get xs j ≡ Some y) ⊎ ((length xs ≡ j) × (x ≡ y))
last_or_before [] x zero y h = inr (refl, cc)
last_or_before [] x (suc j) y h = absurd (cc)
last_or_before (w ∷ xs) x zero y h = inl h
last_or_before (w ∷ xs) x (suc j) y h =
    ⊎_elim (λ (before : slice_get xs j ≡ Some y). inl before)
    (λ (last : (length xs ≡ j) × (x ≡ y)). inr (ap (λ (n : ℕ). suc n) last.0, last.1)) (last_or_before xs x j y h)

-- a codec of a message, or none, as it is made
made_at : (x : TheProgram) (k : ℕ) (o : Option Codec) → IfSome o (λ c. IsCodecOf x.plan x.interface k c) → IfNone o (has_few_numbers (slice_get x.interface.messages k) ≡ false) → IsCodecAt x k o
made_at x k None some none = none
made_at x k (Some c) some none = some

one_more : (x : TheProgram) (k : ℕ) (codecs new : List (Option Codec)) (o : Option Codec) → AreFirstCodecs x k codecs → new ≡ codecs ++ o ∷ [] → IsCodecAt x k o → AreFirstCodecs x (k + 1) new
one_more x k codecs new o h pushed at =
    let each : (j : ℕ) (c : Option Codec) → slice_get (codecs ++ o ∷ []) j ≡ Some c → IsCodecAt x j c
    = λ j c there. ⊎_elim
    (λ (before : slice_get codecs j ≡ Some c). each_coded x k codecs h j c before)
    (λ (last : (length codecs ≡ j) × (o ≡ c)). subst (IsCodecAt x j) last.1 (subst (λ (n : ℕ). IsCodecAt x n o) (sym h.many ∙ last.0) at))
    (last_or_before codecs o j c there) in
    let so : AreFirstCodecs x (k + 1) (codecs ++ o ∷ []) = record {
      many = length-append codecs (o ∷ []) ∙ ap (λ (n : ℕ). n + 1) h.many;
      some = λ j c there. each j (Some c) there;
      none = λ j there. each j None there;
    } in
    subst (AreFirstCodecs x (k + 1)) (sym pushed) so

-- one more, made of the program's own interface and plan
pub next_coded : (x : TheProgram) (plan : PlanNo) (i : TheInterface) (k msg : ℕ) (codecs new : List (Option Codec)) (o : Option Codec) → i ≡ x.interface → plan ≡ x.plan → msg ≡ k
    → AreFirstCodecs x k codecs → new ≡ codecs ++ o ∷ [] → IfSome o (λ c. IsCodecOf plan i msg c) → IfNone o (has_few_numbers (slice_get i.messages msg) ≡ false) → AreFirstCodecs x (k + 1) new
next_coded x plan i k msg codecs new o e p at h pushed some none =
    let some_in = subst (λ (n : ℕ). IfSome o (λ c. IsCodecOf x.plan x.interface n c)) at
    (subst (λ (q : PlanNo). IfSome o (λ c. IsCodecOf q x.interface msg c)) p (subst (λ (j : TheInterface). IfSome o (λ c. IsCodecOf plan j msg c)) e some)) in
    let none_in = subst (λ (n : ℕ). IfNone o (has_few_numbers (slice_get x.interface.messages n) ≡ false)) at
    (subst (λ (j : TheInterface). IfNone o (has_few_numbers (slice_get j.messages msg) ≡ false)) e none) in
    one_more x k codecs new o h pushed (made_at x k o some_in none_in)

-- those of all messages
pub all_coded : (x : TheProgram) (i : TheInterface) (n : ℕ) (codecs : List (Option Codec)) → i ≡ x.interface → n ≡ length i.messages → is_within_limits i ≡ true → AreFirstCodecs x n codecs
    → AreCodecs x codecs
all_coded x i n codecs e many within h = record {
  all = subst (λ (k : ℕ). AreFirstCodecs x k codecs) (many ∙ ap (λ (j : TheInterface). length j.messages) e) h;
  within = subst (λ (j : TheInterface). is_within_limits j ≡ true) e within;
}

-- a codec, or none, as it is found
pub coded_at : (x : TheProgram) (codecs : List (Option Codec)) (n k : ℕ) (o : Option Codec) → AreCodecs x codecs → n ≡ k → true ≡ nat_lt n (length codecs) → o ≡ get_or codecs n o → IsCodecAt x k o
coded_at x codecs n k o h at within is =
    let there : slice_get codecs n ≡ Some o = slice_get_read codecs (length codecs) n o refl (ltb-true n (length codecs) (sym within)) is in
    each_coded x (length x.interface.messages) codecs h.all k o (ap (slice_get codecs) (sym at) ∙ there)

-- none where there is no message
pub coded_past : (x : TheProgram) (codecs : List (Option Codec)) (n k : ℕ) → AreCodecs x codecs → n ≡ k → false ≡ nat_lt n (length codecs) → has_few_numbers (slice_get x.interface.messages k) ≡ false
coded_past x codecs n k h at past =
    let behind : length x.interface.messages ≤ k = omega (arith, h.all.many, at, ltb-false n (length codecs) (sym past)) in
    ap has_few_numbers (slice_get_past x.interface.messages k behind)
