-- What a scan finds is what there is.
use Rattle.std.proofs.Common.{◌≡◌, ◌<◌, ◌≤◌, ◌∙◌, ap, refl, sym, subst, arith, ℕ, zero, suc, Bool, true, false, ◌||◌, List, [], ◌∷◌, ◌++◌, length, take, drop, Option, Some, None, IfSome}
use Rattle.std.proofs.Math.Seq.{drop-length}
use Rattle.memchr.specs.Find.{Nowhere, NoneBefore, IsLastByte, Passes, is_byte}
use Rattle.std.specs.List.{list_any}
use Rattle.std.specs.Prelude.{◌==◌, if◌then◌else◌, codes}
use Rattle.std.specs.Char.{is_ascii_digit}
use Rattle.std.proofs.Common.{◌&&◌}
use Rattle.std.proofs.lemmas.Bool.{false≢true, eqb-true}
use Rattle.std.proofs.lemmas.List.{get_or-take, length-take-le}
use Rattle.std.proofs.lemmas.Slice.Eq.{bytes_eq-Decides}
use Rattle.std.specs.Io.KnownBytes.{Appends, Keeps}
use Rattle.flounder_commands.specs.Refusals.{begins, is_any, is_numbered, is_refusal, any_line, has_refusal}
use Rattle.flounder_commands.specs.Scan.{Ahead, before, behind, other, after, ends_line, Scanned, at_start, after_byte, after_all, awaits, EndsBeforeE, same_found, same_line, same_scan, told_by}

-- whether a line is a refusal, from its rest
abbrev passes : Ahead → List ℕ → Bool
passes (before cs) rest = begins cs is_numbered rest
passes (behind cs) rest = begins cs is_any rest
passes other rest = false

passes_end : (a : Ahead) → ends_line a ≡ passes a []
passes_end (before []) = refl
passes_end (before (c ∷ cs)) = refl
passes_end (behind []) = refl
passes_end (behind (c ∷ cs)) = refl
passes_end other = refl

-- one byte more, and what is to come is told by the rest
passes_after : (a : Ahead) (b : ℕ) (rest : List ℕ) → passes (after a b) rest ≡ passes a (b ∷ rest)
passes_after (before []) b rest =
    elim (is_ascii_digit b) as (λ d. passes (if d then before [] else (if b == 32 then behind (codes "at ") else other)) rest
    ≡ (if d then is_numbered rest else begins (codes " at ") is_any (b ∷ rest))) [
      | true ↦ refl
      | false ↦ elim (b == 32) as (λ e. passes (if e then behind (codes "at ") else other) rest ≡ (if e then begins (codes "at ") is_any rest else false)) [
        | true ↦ refl
        | false ↦ refl
      ]
    ]
passes_after (before (c ∷ cs)) b rest =
    elim (b == c) as (λ e. passes (if e then before cs else other) rest ≡ (if e then begins cs is_numbered rest else false)) [ true ↦ refl | false ↦ refl ]
passes_after (behind []) b rest = refl
passes_after (behind (c ∷ cs)) b rest =
    elim (b == c) as (λ e. passes (if e then behind cs else other) rest ≡ (if e then begins cs is_any rest else false)) [ true ↦ refl | false ↦ refl ]
passes_after other b rest = refl

-- tests that agree find the same
any_line_same : (test first second : List ℕ → Bool) (text : List ℕ) → ((rest : List ℕ) → first rest ≡ second rest) → any_line test first text ≡ any_line test second text
any_line_same test first second [] h = refl
any_line_same test first second (b ∷ bs) h =
    elim (b == 10) as (λ e. (if e then first [] || any_line test test bs else any_line test (λ rest. first (b ∷ rest)) bs)
    ≡ (if e then second [] || any_line test test bs else any_line test (λ rest. second (b ∷ rest)) bs)) [
      | true ↦ ap (λ (x : Bool). x || any_line test test bs) (h [])
      | false ↦ any_line_same test (λ rest. first (b ∷ rest)) (λ rest. second (b ∷ rest)) bs (λ rest. h (b ∷ rest))
    ]

or_assoc : (a b c : Bool) → ((a || b) || c) ≡ (a || (b || c))
or_assoc true b c = refl
or_assoc false b c = refl

or_false : (a : Bool) → a ≡ (a || false)
or_false true = refl
or_false false = refl

found_next : (s : Scanned) (b : ℕ) (bs : List ℕ)
    → ((after_byte s b).found || any_line is_refusal (passes (after_byte s b).line) bs) ≡ (s.found || any_line is_refusal (passes s.line) (b ∷ bs))
unfolding is_refusal
found_next s b bs =
    elim (b == 10) as (λ e. ((if e then s.found || ends_line s.line else s.found)
    || any_line is_refusal (passes (if e then before (codes "refused E") else after s.line b)) bs)
    ≡ (s.found || (if e then passes s.line [] || any_line is_refusal is_refusal bs else any_line is_refusal (λ rest. passes s.line (b ∷ rest)) bs))) [
      | true ↦ ap (λ (x : Bool). (s.found || x) || any_line is_refusal is_refusal bs) (passes_end s.line) ∙ or_assoc s.found (passes s.line []) (any_line is_refusal is_refusal bs)
      | false ↦ ap (λ (x : Bool). s.found || x) (any_line_same is_refusal (passes (after s.line b)) (λ rest. passes s.line (b ∷ rest)) bs (λ rest. passes_after s.line b rest))
    ]

-- what is found in all is what was found, or is found in the rest
finds : (s : Scanned) (text : List ℕ) → (after_all s text).found ≡ (s.found || any_line is_refusal (passes s.line) text)
unfolding is_refusal
finds s [] = or_false s.found
finds s (b ∷ bs) = finds (after_byte s b) bs ∙ found_next s b bs

pub finds_refusals : (text : List ℕ) → (after_all at_start text).found ≡ has_refusal text
unfolding is_refusal has_refusal
finds_refusals text = finds at_start text

-- ---- what a writer tells, where the whole of it was scanned

same_lines : (a b : Ahead) → same_line a b ≡ true → a ≡ b
same_lines (before a) (before b) h = ap before ((bytes_eq-Decides a b).0 h)
same_lines (behind a) (behind b) h = ap behind ((bytes_eq-Decides a b).0 h)
same_lines other other h = refl
same_lines (before a) (behind b) h = absurd (false≢true h)
same_lines (before a) other h = absurd (false≢true h)
same_lines (behind a) (before b) h = absurd (false≢true h)
same_lines (behind a) other h = absurd (false≢true h)
same_lines other (before b) h = absurd (false≢true h)
same_lines other (behind b) h = absurd (false≢true h)

line_same : (a : Ahead) → same_line a a ≡ true
line_same (before a) = (bytes_eq-Decides a a).1 refl
line_same (behind a) = (bytes_eq-Decides a a).1 refl
line_same other = refl

same_founds : (a b : Bool) (c : Bool) → (same_found a b && c) ≡ true → (a ≡ b) × (c ≡ true)
same_founds true true c h = (refl, h)
same_founds true false c h = absurd (false≢true h)
same_founds false true c h = absurd (false≢true h)
same_founds false false c h = (refl, h)

same_scans : (s t : Scanned) → same_scan s t ≡ true → s ≡ t
same_scans s t h =
    let p = same_founds s.found t.found (same_line s.line t.line) h in
    ap (λ (f : Bool). let r : Scanned = record { found = f; line = s.line } in r) p.0
    ∙ ap (λ (l : Ahead). let r : Scanned = record { found = t.found; line = l } in r) (same_lines s.line t.line p.1)

found_same : (a : Bool) (c : Bool) → c ≡ true → (same_found a a && c) ≡ true
found_same true c h = h
found_same false c h = h

scan_same : (s : Scanned) → same_scan s s ≡ true
scan_same s = found_same s.found (same_line s.line s.line) (line_same s.line)

after_more : (s : Scanned) (a b : List ℕ) → after_all s (a ++ b) ≡ after_all (after_all s a) b
after_more s [] b = refl
after_more s (x ∷ a) b = after_more (after_byte s x) a b

-- what is told of all that was scanned
told_all : (s : Scanned) (x : List ℕ) → s ≡ after_all at_start x → told_by s (Some x) ≡ Some x
told_all s x e =
    let same : same_scan s (after_all at_start x) ≡ true = subst (λ (t : Scanned). same_scan s t ≡ true) e (scan_same s) in
    ap (λ (v : Bool). if v then Some x else None) same

told_case : (s : Scanned) (x : List ℕ) (P : Option (List ℕ) → Type 0) → (s ≡ after_all at_start x → P (Some x)) → P None
    → (v : Bool) → same_scan s (after_all at_start x) ≡ v → P (if v then Some x else None)
told_case s x P all none true e = all (same_scans s (after_all at_start x) e)
told_case s x P all none false e = none

-- either it is all that was scanned, or nothing is told
told_or : (s : Scanned) (x : List ℕ) (P : Option (List ℕ) → Type 0) → (s ≡ after_all at_start x → P (Some x)) → P None → P (told_by s (Some x))
told_or s x P all none = told_case s x P all none (same_scan s (after_all at_start x)) refl

-- what a writer tells grows by what is written, which is scanned
pub told_appends : (s t : Scanned) (a b : Option (List ℕ)) (bs : List ℕ) → t ≡ after_all s bs → Appends a b bs → Appends (told_by s a) (told_by t b) bs
told_appends s t None b bs e h = tt
told_appends s t (Some x) None bs e h = absurd h
told_appends s t (Some x) (Some y) bs e h =
    told_or s x (λ (o : Option (List ℕ)). Appends o (told_by t (Some y)) bs)
    (λ (is : s ≡ after_all at_start x). subst (λ (o : Option (List ℕ)). Appends (Some x) o bs)
    (sym (told_all t y (e ∙ ap (λ (u : Scanned). after_all u bs) is ∙ sym (after_more at_start x bs) ∙ ap (after_all at_start) (sym h)))) h)
    tt

pub told_keeps : (s t : Scanned) (a b : Option (List ℕ)) → t ≡ s → Keeps a b → Keeps (told_by s a) (told_by t b)
told_keeps s t None b e h = tt
told_keeps s t (Some x) None e h = absurd h
told_keeps s t (Some x) (Some y) e h =
    told_or s x (λ (o : Option (List ℕ)). Keeps o (told_by t (Some y)))
    (λ (is : s ≡ after_all at_start x). subst (λ (o : Option (List ℕ)). Keeps (Some x) o)
    (sym (told_all t y (e ∙ is ∙ ap (after_all at_start) (sym h)))) h)
    tt

-- what a scan found of all that is told
pub found_in_told : (s : Scanned) (a : Option (List ℕ)) → IfSome (told_by s a) (λ all. s.found ≡ has_refusal all)
found_in_told s None = tt
found_in_told s (Some x) =
    told_or s x (λ (o : Option (List ℕ)). IfSome o (λ all. s.found ≡ has_refusal all))
    (λ (is : s ≡ after_all at_start x). ap (λ (u : Scanned). u.found) is ∙ finds_refusals x)
    tt

-- ---- a line that tells of none is passed over up to its end

is_false : (v : Bool) → (v ≡ true → ⊥) → v ≡ false
is_false true not_true = absurd (not_true refl)
is_false false not_true = refl

abbrev pub no_refusal : Bool → Scanned
no_refusal found = record { found = found; line = other }

stays : (found : Bool) (b : ℕ) → (b == 10) ≡ false → after_byte (no_refusal found) b ≡ no_refusal found
stays found b other_byte =
    ap (λ (e : Bool). let s : Scanned = record { found = if e then found || false else found; line = if e then before (codes "refused E") else other } in s) other_byte

passed_over : (found : Bool) (bytes : List ℕ) (k : ℕ) → k ≤ length bytes → Nowhere (Passes (is_byte 10) bytes) 0 k
    → after_all (no_refusal found) (drop k bytes) ≡ after_all (no_refusal found) bytes
passed_over found [] zero fits none = refl
passed_over found (b ∷ bytes) zero fits none = refl
passed_over found [] (suc k) fits none = absurd (omega (arith, fits))
passed_over found (b ∷ bytes) (suc k) fits none =
    passed_over found bytes k (omega (arith, fits)) (λ j from to is. none (suc j) (omega arith) (omega (arith, to)) is)
    ∙ sym (ap (λ (s : Scanned). after_all s bytes) (stays found b (is_false (b == 10) (none 0 (omega arith) (omega arith)))))

pub passes_over : (s : Scanned) (bytes : List ℕ) (k : ℕ) → s.line ≡ other → k ≤ length bytes → Nowhere (Passes (is_byte 10) bytes) 0 k
    → after_all s (drop k bytes) ≡ after_all s bytes
passes_over s bytes k line fits none =
    subst (λ (l : Ahead). let t : Scanned = record { found = s.found; line = l } in after_all t (drop k bytes) ≡ after_all t bytes) (sym line)
    (passed_over s.found bytes k fits none)

pub passes_all : (s : Scanned) (bytes : List ℕ) → s.line ≡ other → Nowhere (Passes (is_byte 10) bytes) 0 (length bytes) → s ≡ after_all s bytes
passes_all s bytes line none =
    ap (after_all s) (sym (drop-length bytes)) ∙ passes_over s bytes (length bytes) line (omega arith) none

-- ---- the lines that end before an `E` tell of none

-- a byte that is no `E`, whether it is the one that is to come or not, leaves the line waiting
waits_on : (c : ℕ) (cs : List ℕ) (b : ℕ) (e : Bool) → (b == c) ≡ e → (b == 69) ≡ false → awaits (before (c ∷ cs)) ≡ true
    → awaits (if e then before cs else other) ≡ true
waits_on c cs b true same no_e h =
    subst (λ (v : Bool). (v || list_any (λ x. x == 69) cs) ≡ true) (ap (λ (n : ℕ). n == 69) (sym (eqb-true b c same)) ∙ no_e) h
waits_on c cs b false same no_e h = refl

awaits_after : (a : Ahead) (b : ℕ) → awaits a ≡ true → (b == 69) ≡ false → awaits (after a b) ≡ true
awaits_after (before []) b h no_e = absurd (false≢true h)
awaits_after (before (c ∷ cs)) b h no_e = waits_on c cs b (b == c) refl no_e h
awaits_after (behind cs) b h no_e = absurd (false≢true h)
awaits_after other b h no_e = refl

awaits_end : (a : Ahead) → awaits a ≡ true → ends_line a ≡ false
awaits_end (before []) h = absurd (false≢true h)
awaits_end (before (c ∷ cs)) h = refl
awaits_end (behind cs) h = absurd (false≢true h)
awaits_end other h = refl

abbrev pub at_line : Bool → Scanned
at_line found = record { found = found; line = before (codes "refused E") }

found_on : (s : Scanned) (b : ℕ) → awaits s.line ≡ true → (after_byte s b).found ≡ s.found
found_on s b h =
    elim (b == 10) as (λ e. (if e then s.found || ends_line s.line else s.found) ≡ s.found) [
      | true ↦ ap (λ (v : Bool). s.found || v) (awaits_end s.line h) ∙ sym (or_false s.found)
      | false ↦ refl
    ]

awaits_on : (s : Scanned) (b : ℕ) → awaits s.line ≡ true → (b == 69) ≡ false → awaits (after_byte s b).line ≡ true
awaits_on s b h no_e =
    elim (b == 10) as (λ e. awaits (if e then before (codes "refused E") else after s.line b) ≡ true) [
      | true ↦ refl
      | false ↦ awaits_after s.line b h no_e
    ]

line_feeds : (s : Scanned) (b : ℕ) → awaits s.line ≡ true → (b == 10) ≡ true → after_byte s b ≡ at_line s.found
line_feeds s b h feed =
    ap (λ (e : Bool). let t : Scanned = record {
      found = if e then s.found || ends_line s.line else s.found;
      line = if e then before (codes "refused E") else after s.line b;
    } in t) feed
    ∙ ap (λ (v : Bool). at_line (s.found || v)) (awaits_end s.line h) ∙ ap at_line (sym (or_false s.found))

pub lines_over : (s : Scanned) (bytes : List ℕ) (k : ℕ) → awaits s.line ≡ true → EndsBeforeE bytes k
    → after_all (at_line s.found) (drop (suc k) bytes) ≡ after_all s bytes
lines_over s [] k h (short, feed, none) = absurd (omega (arith, short))
lines_over s (b ∷ bytes) zero h (short, feed, none) = ap (λ (t : Scanned). after_all t bytes) (sym (line_feeds s b h feed))
lines_over s (b ∷ bytes) (suc k) h (short, feed, none) =
    let no_e : (b == 69) ≡ false = is_false (b == 69) (none 0 (omega arith) (omega arith)) in
    ap (λ (f : Bool). after_all (at_line f) (drop (suc k) bytes)) (sym (found_on s b h))
    ∙ lines_over (after_byte s b) bytes k (awaits_on s b h no_e)
    (omega (arith, short), feed, λ j from to is. none (suc j) (omega arith) (omega (arith, to)) is)

-- the last line feed before an `E`, and of bytes without one
pub last_before : (bytes : List ℕ) (at : ℕ) (r : Option ℕ) → NoneBefore (Passes (is_byte 69) bytes) 0 (length bytes) at
    → IsLastByte (is_byte 10) (take at bytes) r → IfSome r (EndsBeforeE bytes)
last_before bytes at None e h = tt
last_before bytes at (Some k) e h =
    let near : k < at = omega (arith, h.0.high, length-take-le at bytes (omega (arith, e.high))) in
    (omega (arith, near, e.high), ap (λ (n : ℕ). n == 10) (sym (get_or-take at bytes k 0 near)) ∙ h.1, λ j from to is. e.before j from (omega (arith, to, near)) is)

pub last_of_all : (bytes : List ℕ) (r : Option ℕ) → Nowhere (Passes (is_byte 69) bytes) 0 (length bytes)
    → IsLastByte (is_byte 10) bytes r → IfSome r (EndsBeforeE bytes)
last_of_all bytes None none h = tt
last_of_all bytes (Some k) none h = (h.0.high, h.1, λ j from to is. none j from (omega (arith, to, h.0.high)) is)
