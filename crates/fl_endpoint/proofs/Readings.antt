-- Which calls fragments are of, in order.
use Rattle.std.proofs.Common.{◌≡◌, ◌⊎◌, inr, ⊎_elim, ℕ, zero, suc, ◌<◌, ◌≤◌, true, List, [], ◌∷◌, ◌++◌, map, take, length, refl, sym, ap, subst, ◌∙◌, append_assoc, arith}
use Rattle.std.proofs.lemmas.List.{take-append-le, take_all, append_cancel_left, length-append}
use Rattle.std.proofs.lemmas.List.Elements.{All-nil, All-cons, All-head, All-tail}
use Rattle.std.proofs.lemmas.Bool.{cases_lt}
use Rattle.fl_base.specs.declared.fragment.Frag.{Frag}
use Rattle.fl_value_data.specs.Value.{TheCall}
use Rattle.fl_value_data.specs.Fits.{fits_of}
use Rattle.fl_layout.specs.Places.{count}
use Rattle.fl_wire.specs.Payload.{frags_of}
use Rattle.fl_wire.specs.Reading.{AllFit, IsPart, NoneBeginsWithAnother}
use Rattle.fl_wire.specs.Words.{interface_words_fit}
use Rattle.fl_compile.specs.Programs.{TheProgram, program_of}
use Rattle.fl_base.specs.Control.{bare}
use Rattle.fl_endpoint.specs.View.{TheEnd, interface_in}
use Rattle.fl_endpoint.specs.Accounts.{stream, Sound}
use Rattle.fl_endpoint.specs.Laws.{TakesNext}
use Rattle.fl_endpoint.proofs.Outgoings.{length_frags}
use Rattle.fl_endpoint.proofs.Sounds.{bare_more}

abbrev frags : TheProgram → TheCall → List Frag
frags p c = frags_of p.plan p.interface c

abbrev many : TheProgram → TheCall → ℕ
many p c = count p.plan p.interface c

abbrev Fits : TheProgram → TheCall → Type 0
Fits p c = fits_of p.interface c ≡ true

long_frags : (p : TheProgram) (c : TheCall) → length (frags p c) ≡ many p c
long_frags p c = length_frags 0 p.plan p.interface c

-- the fragments of a call stand first in a list
prefix : (p : TheProgram) (c : TheCall) (x : List Frag) → take (many p c) (frags p c ++ x) ≡ frags p c
prefix p c x =
    let long = long_frags p c in
    take-append-le (many p c) (frags p c) x (omega (arith, long)) ∙ take_all (many p c) (frags p c) (omega (arith, long))

shorter : (p : TheProgram) (c d : TheCall) (x y : List Frag) → NoneBeginsWithAnother → interface_words_fit p.interface ≡ true → Fits p c → Fits p d
    → many p c ≤ many p d → frags p c ++ x ≡ frags p d ++ y → c ≡ d
shorter p c d x y law words fc fd less e =
    let long = long_frags p d in
    law p.plan p.interface c d words fc fd less
    (sym (prefix p c x) ∙ ap (take (many p c)) e ∙ take-append-le (many p c) (frags p d) y (omega (arith, long, less)))

pub first_call : (p : TheProgram) (c d : TheCall) (x y : List Frag) → NoneBeginsWithAnother → interface_words_fit p.interface ≡ true → Fits p c → Fits p d
    → frags p c ++ x ≡ frags p d ++ y → c ≡ d
first_call p c d x y law words fc fd e = ⊎_elim
    (λ (h : many p c < many p d). shorter p c d x y law words fc fd (omega (arith, h)) e)
    (λ (h : many p d ≤ many p c). sym (shorter p d c y x law words fd fc h (sym e)))
    (cases_lt (many p c) (many p d))

-- the first calls of a list, and the others
pub record Split (p : TheProgram) (calls handled : List TheCall) (x : List Frag) : Type 0 where
  pub left : List TheCall
  pub calls_are : calls ≡ handled ++ left
  pub rest_is : x ≡ stream p 0 left
  pub fit : AllFit p.interface left

pub split : (p : TheProgram) (handled calls : List TheCall) (x : List Frag) → NoneBeginsWithAnother → interface_words_fit p.interface ≡ true
    → AllFit p.interface handled → AllFit p.interface calls → stream p 0 handled ++ x ≡ stream p 0 calls → Split p calls handled x
split p [] calls x law words fh fc e = record { left = calls; calls_are = refl; rest_is = e; fit = fc }
split p (h ∷ handled) [] x law words fh fc e =
    let long = long_frags p h in
    let none = ap length e in
    let whole = length-append (frags p h ++ stream p 0 handled) x in
    let parts = length-append (frags p h) (stream p 0 handled) in
    absurd (omega (arith, long, none, whole, parts))
split p (h ∷ handled) (c ∷ calls) x law words fh fc e =
    let apart : frags p h ++ (stream p 0 handled ++ x) ≡ frags p c ++ stream p 0 calls = sym (append_assoc (frags p h) (stream p 0 handled) x) ∙ e in
    let same : h ≡ c = first_call p h c (stream p 0 handled ++ x) (stream p 0 calls) law words (All-head (Fits p) h handled fh) (All-head (Fits p) c calls fc) apart in
    let others : stream p 0 handled ++ x ≡ stream p 0 calls
    = append_cancel_left (frags p h) (stream p 0 handled ++ x) (stream p 0 calls) (apart ∙ ap (λ (d : TheCall). frags p d ++ stream p 0 calls) (sym same)) in
    let s = split p handled calls x law words (All-tail (Fits p) h handled fh) (All-tail (Fits p) c calls fc) others in
    record {
      left = s.left;
      calls_are = ap (λ (d : TheCall). d ∷ calls) (sym same) ∙ ap (λ (l : List TheCall). h ∷ l) s.calls_are;
      rest_is = s.rest_is;
      fit = s.fit;
    }

take_twice : (m n : ℕ) (xs : List Frag) → m ≤ n → take m (take n xs) ≡ take m xs
take_twice zero n xs h = refl
take_twice (suc m) zero xs h = absurd (omega (arith, h))
take_twice (suc m) (suc n) [] h = refl
take_twice (suc m) (suc n) (x ∷ xs) h = ap (λ (ys : List Frag). x ∷ ys) (take_twice m n xs (omega (arith, h)))

-- part of a call is shorter than the call with which it begins
pub part_short : (p : TheProgram) (parts more y : List Frag) (c : TheCall) → NoneBeginsWithAnother → interface_words_fit p.interface ≡ true → Fits p c
    → map bare parts ≡ parts → IsPart p.plan p.interface parts → parts ++ more ≡ frags p c ++ y → length parts < many p c
part_short p parts more y c law words fc are_bare part e = ⊎_elim
    (λ (h : length parts < many p c). h)
    (λ (h : many p c ≤ length parts).
    let d = part.call in
    let long = long_frags p c in
    let longer = long_frags p d in
    let less = part.short in
    let in_parts : take (many p c) parts ≡ frags p c
    = sym (take-append-le (many p c) parts more h) ∙ ap (take (many p c)) e ∙ prefix p c y in
    let parts_are : parts ≡ take (length parts) (frags p d) = sym are_bare ∙ part.prefix in
    let in_other : take (many p c) (take (length parts) (frags p d)) ≡ take (many p c) (frags p d)
    = take_twice (many p c) (length parts) (frags p d) h in
    let same : c ≡ d = law p.plan p.interface c d words fc part.fits (omega (arith, h, less))
    (sym in_parts ∙ ap (take (many p c)) parts_are ∙ in_other) in
    let counts : many p c ≡ many p d = ap (many p) same in
    absurd (omega (arith, h, less, counts)))
    (cases_lt (length parts) (many p c))

some_frags : (p : TheProgram) (c : TheCall) → 0 < many p c
some_frags p c = omega arith

-- what was taken of a call is not all of it
pub rest_short : (p : TheProgram) (parts more : List Frag) (left : List TheCall) (c : TheCall) (rest : List TheCall) → NoneBeginsWithAnother → interface_words_fit p.interface ≡ true
    → AllFit p.interface left → map bare parts ≡ parts → (parts ≡ []) ⊎ IsPart p.plan p.interface parts → parts ++ more ≡ stream p 0 left → left ≡ c ∷ rest
    → length parts < many p c
rest_short p parts more left c rest law words fit are_bare goes e is = ⊎_elim
    (λ (none : parts ≡ []). let zero : length parts ≡ 0 = ap length none in let some = some_frags p c in omega (arith, zero, some))
    (λ (part : IsPart p.plan p.interface parts).
    part_short p parts more (stream p 0 rest) c law words (All-head (Fits p) c rest (subst (λ (cs : List TheCall). AllFit p.interface cs) is fit)) are_bare part
    (e ∙ ap (stream p 0) is))
    goes

-- ---- the next fragment

pub takes_next : (s : TheEnd) (f : Frag) (more : List Frag) (left : List TheCall) → NoneBeginsWithAnother → Sound s → bare f ≡ f → AllFit (interface_in s) left
    → s.parts ++ f ∷ more ≡ stream (program_of s.program) 0 left → TakesNext s f left more
takes_next s f more left law sound is fit e =
    let p = program_of s.program in
    let apart : (s.parts ++ f ∷ []) ++ more ≡ stream p 0 left = append_assoc s.parts (f ∷ []) more ∙ e in
    let are_bare : map bare (s.parts ++ f ∷ []) ≡ s.parts ++ f ∷ [] = bare_more s.parts f sound.are_bare is in
    record {
      no_fault = λ fault refused. refused.wrong left more fit (sym apart ∙ ap (λ (xs : List Frag). xs ++ more) (sym are_bare));
      handled_is = λ c are.
          let one : AllFit p.interface (c ∷ []) = one_fits p c are.fits in
          let s2 = split p (c ∷ []) left more law sound.words one fit
          (ap (λ (xs : List Frag). xs ++ more) (append_nil (frags p c) ∙ sym are.mean) ∙ apart) in
          (s2.left, s2.calls_are, s2.rest_is);
      part_is = λ c rest part first.
          rest_short p (s.parts ++ f ∷ []) more left c rest law sound.words fit are_bare (inr part) apart first;
    }
  where
    one_fits : (p : TheProgram) (c : TheCall) → Fits p c → AllFit p.interface (c ∷ [])
    one_fits p c h = All-cons (Fits p) c [] h (All-nil (Fits p))

    append_nil : (xs : List Frag) → xs ++ [] ≡ xs
    append_nil [] = refl
    append_nil (x ∷ xs) = ap (λ (ys : List Frag). x ∷ ys) (append_nil xs)
