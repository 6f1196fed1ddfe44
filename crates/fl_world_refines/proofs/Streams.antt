-- Calls one after another in fragments, counted.
use Rattle.std.proofs.Common.{◌≡◌, refl, sym, ◌∙◌, ap, subst, ℕ, zero, suc, ◌+◌, ◌-◌, ◌≤◌, ◌<◌, nat_le, true, if◌then◌else◌, List, [], ◌∷◌, ◌++◌, length, take, drop, arith, max, append_assoc}
use Rattle.std.specs.Prelude.{All}
use Rattle.std.proofs.lemmas.List.{length-append, append-nil, drop_at, take-append-le}
use Rattle.std.proofs.lemmas.List.FromFn.{length-map-range_with_len}
use Rattle.std.proofs.lemmas.List.Elements.{All-nil, All-cons}
use Rattle.fl_base.specs.declared.fragment.Frag.{Frag}
use Rattle.fl_value_data.specs.Value.{TheCall}
use Rattle.fl_value_data.specs.Fits.{fits_of}
use Rattle.fl_layout.specs.Places.{count}
use Rattle.fl_wire.specs.Payload.{payload_of, frag_on, frags_on}
use Rattle.fl_model.specs.Calls.{Planned, fragments, total, last_count, whole_in, stream}
use Rattle.fl_model.specs.SoundCalls.{AllFit}
use Rattle.fl_world_refines.proofs.Tests.{either, then_is, else_is, le_true, le_false, true_le, false_le}

at_least_one : (k : ℕ) → 1 ≤ max 1 k
at_least_one k = omega arith

pub some_fragments : (i : Planned) (c : TheCall) → 1 ≤ fragments i c
some_fragments i c = at_least_one _

abbrev pub frags : ℕ → Planned → TheCall → List Frag
frags circuit i c = frags_on circuit i.plan i.interface c

pub length_frags : (circuit : ℕ) (i : Planned) (c : TheCall) → length (frags circuit i c) ≡ fragments i c
length_frags circuit i c = length-map-range_with_len (frag_on circuit c.msg (payload_of i.plan i.interface c)) 0 (count i.plan i.interface c)

pub length_stream : (circuit : ℕ) (i : Planned) (cs : List TheCall) → length (stream circuit i cs) ≡ total i cs
length_stream circuit i [] = refl
length_stream circuit i (c ∷ cs) =
    let one = length_frags circuit i c in
    let ih = length_stream circuit i cs in
    let both = length-append (frags circuit i c) (stream circuit i cs) in
    omega (arith, one, ih, both)

pub stream_append : (circuit : ℕ) (i : Planned) (cs ds : List TheCall) → stream circuit i (cs ++ ds) ≡ stream circuit i cs ++ stream circuit i ds
stream_append circuit i [] ds = refl
stream_append circuit i (c ∷ cs) ds =
    ap (λ (fs : List Frag). frags circuit i c ++ fs) (stream_append circuit i cs ds)
    ∙ sym (append_assoc (frags circuit i c) (stream circuit i cs) (stream circuit i ds))

pub total_append : (i : Planned) (cs ds : List TheCall) → total i (cs ++ ds) ≡ total i cs + total i ds
total_append i [] ds = omega arith
total_append i (c ∷ cs) ds =
    let ih : total i (cs ++ ds) ≡ total i cs + total i ds = total_append i cs ds in
    let k : ℕ = fragments i c in omega arith

pub total_push : (i : Planned) (cs : List TheCall) (c : TheCall) → total i (cs ++ c ∷ []) ≡ total i cs + fragments i c
total_push i cs c = let e : total i (cs ++ c ∷ []) ≡ total i cs + total i (c ∷ []) = total_append i cs (c ∷ []) in let k : ℕ = fragments i c in omega arith

pub last_push : (i : Planned) (cs : List TheCall) (c : TheCall) → last_count i (cs ++ c ∷ []) ≡ fragments i c
last_push i [] c = refl
last_push i (d ∷ []) c = refl
last_push i (d ∷ e ∷ cs) c = last_push i (e ∷ cs) c

-- behind all calls but one stand the fragments of that one
pub drop_push : (circuit : ℕ) (i : Planned) (cs : List TheCall) (c : TheCall) (n : ℕ) → n ≡ total i cs
    → drop n (stream circuit i (cs ++ c ∷ [])) ≡ frags circuit i c
drop_push circuit i cs c n h =
    ap (drop n) (stream_append circuit i cs (c ∷ []))
    ∙ drop_at (stream circuit i cs) (stream circuit i (c ∷ [])) n (length_stream circuit i cs ∙ sym h)
    ∙ append-nil (frags circuit i c)

-- the first fragments stay first
pub take_more_calls : (circuit : ℕ) (i : Planned) (cs ds : List TheCall) (n : ℕ) → n ≤ total i cs
    → take n (stream circuit i (cs ++ ds)) ≡ take n (stream circuit i cs)
take_more_calls circuit i cs ds n h =
    let long = length_stream circuit i cs in
    ap (take n) (stream_append circuit i cs ds)
    ∙ take-append-le n (stream circuit i cs) (stream circuit i ds) (omega (arith, long, h))

-- ---- whole calls

-- so many fragments make these first calls whole, and not the next
pub record Splits (i : Planned) (cs : List TheCall) (n : ℕ) : Type 0 where
  pub left : List TheCall
  pub calls_are : cs ≡ whole_in i cs n ++ left
  pub most : total i (whole_in i cs n) ≤ n
  pub short : (c : TheCall) (rest : List TheCall) → left ≡ c ∷ rest → n - total i (whole_in i cs n) < fragments i c

abbrev SplitsAt : Planned → List TheCall → ℕ → List TheCall → Type 0
SplitsAt i cs n hs =
    (left : List TheCall) × (cs ≡ hs ++ left) × (total i hs ≤ n)
    × ((c : TheCall) (rest : List TheCall) → left ≡ c ∷ rest → n - total i hs < fragments i c)

same_head : (i : Planned) (n : ℕ) (c d : TheCall) (cs rest : List TheCall) → n < fragments i c → c ∷ cs ≡ d ∷ rest → n - 0 < fragments i d
same_head i n c d cs rest h e = let q : c ≡ d = cc in subst (λ (x : TheCall). n - 0 < fragments i x) q (omega (arith, h))

splits_at : (i : Planned) (cs : List TheCall) (n : ℕ) → SplitsAt i cs n (whole_in i cs n)
splits_at i [] n = ([], refl, omega arith, λ c rest e. absurd (cc))
splits_at i (c ∷ cs) n =
    let k : ℕ = fragments i c in
    let ih = splits_at i cs (n - k) in
    either (SplitsAt i (c ∷ cs) n) (nat_le (fragments i c) n) (c ∷ whole_in i cs (n - fragments i c)) []
    (λ h.
    let within : fragments i c ≤ n = true_le (fragments i c) n h in
    let most : total i (whole_in i cs (n - fragments i c)) ≤ n - fragments i c = ih.2 in (
      ih.0,
      ap (λ (ds : List TheCall). c ∷ ds) ih.1,
      omega arith,
      λ d rest e. let less : n - fragments i c - total i (whole_in i cs (n - fragments i c)) < fragments i d = ih.3 d rest e in omega arith,
    ))
    (λ h. (c ∷ cs, refl, omega arith, λ d rest e. same_head i n c d cs rest (false_le (fragments i c) n h) e))

pub splits : (i : Planned) (cs : List TheCall) (n : ℕ) → Splits i cs n
splits i cs n =
    let s = splits_at i cs n in
    record { left = s.0; calls_are = s.1; most = s.2; short = s.3 }

whole_zero : (i : Planned) (cs : List TheCall) → whole_in i cs 0 ≡ []
whole_zero i [] = refl
whole_zero i (c ∷ cs) =
    let some : 1 ≤ fragments i c = some_fragments i c in
    else_is (nat_le (fragments i c) 0) (c ∷ whole_in i cs (0 - fragments i c)) [] (le_false (fragments i c) 0 (omega arith))

-- calls whose fragments are among so many are whole, and then those that follow by what is left
pub whole_append : (i : Planned) (hs left : List TheCall) (n : ℕ) → total i hs ≤ n → whole_in i (hs ++ left) n ≡ hs ++ whole_in i left (n - total i hs)
whole_append i [] left n h = ap (whole_in i left) (omega arith)
whole_append i (c ∷ hs) left n h =
    let k : ℕ = fragments i c in
    let ih : whole_in i (hs ++ left) (n - fragments i c) ≡ hs ++ whole_in i left (n - fragments i c - total i hs) = whole_append i hs left (n - fragments i c) (omega arith) in
    let same : n - fragments i c - total i hs ≡ n - total i (c ∷ hs) = omega arith in
    then_is (nat_le (fragments i c) n) (c ∷ whole_in i (hs ++ left) (n - fragments i c)) [] (le_true (fragments i c) n (omega arith))
    ∙ ap (λ (ds : List TheCall). c ∷ ds) (ih ∙ ap (λ (m : ℕ). hs ++ whole_in i left m) same)

-- fewer fragments than the next call has make it not whole
pub whole_short : (i : Planned) (c : TheCall) (rest : List TheCall) (n : ℕ) → n < fragments i c → whole_in i (c ∷ rest) n ≡ []
whole_short i c rest n h = else_is (nat_le (fragments i c) n) (c ∷ whole_in i rest (n - fragments i c)) [] (le_false (fragments i c) n h)

-- just as many make it alone whole
pub whole_one : (i : Planned) (c : TheCall) (rest : List TheCall) (n : ℕ) → n ≡ fragments i c → whole_in i (c ∷ rest) n ≡ c ∷ []
whole_one i c rest n h =
    let none : n - fragments i c ≡ 0 = omega (arith, h) in
    then_is (nat_le (fragments i c) n) (c ∷ whole_in i rest (n - fragments i c)) [] (le_true (fragments i c) n (omega (arith, h)))
    ∙ ap (λ (ds : List TheCall). c ∷ ds) (ap (whole_in i rest) none ∙ whole_zero i rest)

-- more calls change nothing while their fragments aren't taken
pub whole_more : (i : Planned) (cs more : List TheCall) (n : ℕ) → n ≤ total i cs → whole_in i (cs ++ more) n ≡ whole_in i cs n
whole_more i [] more n h =
    let none : n ≡ 0 = omega arith in
    subst (λ (m : ℕ). whole_in i more m ≡ []) (sym none) (whole_zero i more)
whole_more i (d ∷ cs) more n h =
    let k : ℕ = fragments i d in
    let within : n - k ≤ total i cs = omega arith in
    ap (λ (ds : List TheCall). if nat_le k n then d ∷ ds else []) (whole_more i cs more (n - k) within)

-- ---- calls that fit

pub all_fit : (i : Planned) (cs : List TheCall) → AllFit i cs → All (λ (c : TheCall). fits_of i.interface c ≡ true) cs
all_fit i [] h = All-nil (λ (c : TheCall). fits_of i.interface c ≡ true)
all_fit i (c ∷ cs) h =
    All-cons (λ (d : TheCall). fits_of i.interface d ≡ true) c cs (h zero c refl) (all_fit i cs (λ n d q. h (suc n) d q))

pub fit_behind : (i : Planned) (hs left : List TheCall) → AllFit i (hs ++ left) → AllFit i left
fit_behind i [] left h = h
fit_behind i (c ∷ hs) left h = fit_behind i hs left (λ n d q. h (suc n) d q)
