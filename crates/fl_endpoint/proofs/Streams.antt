-- Calls one after another in fragments.
use Rattle.std.proofs.Common.{◌≡◌, ℕ, zero, suc, ◌+◌, ◌-◌, ◌*◌, ◌^◌, ◌<◌, ◌==◌, Bool, true, false, List, [], ◌∷◌, ◌++◌, map, length, refl, ap, ◌∙◌, arith}
use Rattle.std.specs.Prelude.{slice_get}
use Rattle.std.specs.List.{range_with_len}
use Rattle.std.proofs.lemmas.List.{map-append}
use Rattle.std.proofs.lemmas.List.Elements.{All-head, All-tail}
use Rattle.std.proofs.lemmas.Bool.{and_parts, leb-true, false≢true}
use Rattle.fl_base.specs.declared.fragment.Frag.{Frag}
use Rattle.fl_base.specs.Control.{control_word, circuit_of, body, bare, with_circuit}
use Rattle.fl_interface.specs.Interface.{TheMessage, TheInterface}
use Rattle.fl_interface.specs.Limits.{is_within_limits}
use Rattle.fl_value_data.specs.Value.{Datum, TheCall}
use Rattle.fl_value_data.specs.Fits.{fits_of, fit_message}
use Rattle.fl_layout.specs.Places.{count}
use Rattle.fl_wire.specs.Payload.{payload_of, frag_on, frags_on}
use Rattle.fl_wire.specs.Reading.{AllFit}
use Rattle.fl_compile.specs.Programs.{TheProgram}
use Rattle.fl_endpoint.specs.Accounts.{stream}

-- ---- message numbers

known : (ms : List TheMessage) (n : ℕ) (ds : List Datum) → fit_message (slice_get ms n) ds ≡ true → n < length ms
known [] n ds h = absurd (false≢true h)
known (m ∷ ms) zero ds h = omega arith
known (m ∷ ms) (suc n) ds h = omega (arith, known ms n ds h)

pub small_message : (i : TheInterface) (c : TheCall) → is_within_limits i ≡ true → fits_of i c ≡ true → c.msg < 2 ^ 16
small_message i c within fits =
    let few = leb-true (length i.messages) 256 (and_parts _ _ within).0 in
    let less = known i.messages c.msg c.args fits in
    omega (arith, few, less)

-- ---- control words

bare_word : (first : Bool) (msg circuit : ℕ) → msg < 2 ^ 16 → circuit < 2 ^ 16 → body (control_word first msg circuit) ≡ control_word first msg circuit
bare_word true msg circuit m k = omega (arith, m, k)
bare_word false msg circuit m k = omega (arith, m, k)

off_word : (first : Bool) (msg circuit : ℕ) → msg < 2 ^ 16 → circuit < 2 ^ 16
    → control_word first msg circuit - 2 ^ 32 * circuit_of (control_word first msg circuit) ≡ control_word first msg 0
off_word true msg circuit m k = omega (arith, m, k)
off_word false msg circuit m k = omega (arith, m, k)

on_word : (first : Bool) (msg other : ℕ) → control_word first msg 0 + 2 ^ 32 * other ≡ control_word first msg other
on_word true msg other = omega arith
on_word false msg other = omega arith

-- ---- what is done to each fragment of a call

map_same : (g : Frag → Frag) (f h : ℕ → Frag) (ks : List ℕ) → ((k : ℕ) → g (f k) ≡ h k) → map g (map f ks) ≡ map h ks
map_same g f h [] e = refl
map_same g f h (k ∷ ks) e = ap (λ (x : Frag). x ∷ map g (map f ks)) (e k) ∙ ap (λ (xs : List Frag). h k ∷ xs) (map_same g f h ks e)

-- done to each fragment of each call
each_call : (g : Frag → Frag) (p : TheProgram) (circuit other : ℕ) (calls : List TheCall)
    → ((c : TheCall) → fits_of p.interface c ≡ true → map g (frags_on circuit p.plan p.interface c) ≡ frags_on other p.plan p.interface c)
    → AllFit p.interface calls → map g (stream p circuit calls) ≡ stream p other calls
each_call g p circuit other [] e fit = refl
each_call g p circuit other (c ∷ calls) e fit =
    map-append g (frags_on circuit p.plan p.interface c) (stream p circuit calls)
    ∙ ap (λ (xs : List Frag). xs ++ map g (stream p circuit calls)) (e c (All-head (λ (d : TheCall). fits_of p.interface d ≡ true) c calls fit))
    ∙ ap (λ (xs : List Frag). frags_on other p.plan p.interface c ++ xs) (each_call g p circuit other calls e (All-tail (λ (d : TheCall). fits_of p.interface d ≡ true) c calls fit))

pub bare_stream : (p : TheProgram) (circuit : ℕ) (calls : List TheCall) → circuit < 2 ^ 16 → is_within_limits p.interface ≡ true → AllFit p.interface calls
    → map bare (stream p circuit calls) ≡ stream p circuit calls
bare_stream p circuit calls small within fit = each_call bare p circuit circuit calls
    (λ c fits. map_same bare (frag_on circuit c.msg (payload_of p.plan p.interface c)) (frag_on circuit c.msg (payload_of p.plan p.interface c)) (range_with_len 0 (count p.plan p.interface c))
    (λ k. ap (λ (w : ℕ). record { words = (frag_on circuit c.msg (payload_of p.plan p.interface c) k).words; control = w })
    (bare_word (k == 0) c.msg circuit (small_message p.interface c within fits) small)))
    fit

pub on_stream : (p : TheProgram) (circuit other : ℕ) (calls : List TheCall) → circuit < 2 ^ 16 → is_within_limits p.interface ≡ true → AllFit p.interface calls
    → map (with_circuit other) (stream p circuit calls) ≡ stream p other calls
on_stream p circuit other calls small within fit = each_call (with_circuit other) p circuit other calls
    (λ c fits. map_same (with_circuit other) (frag_on circuit c.msg (payload_of p.plan p.interface c)) (frag_on other c.msg (payload_of p.plan p.interface c)) (range_with_len 0 (count p.plan p.interface c))
    (λ k. ap (λ (w : ℕ). record { words = (frag_on circuit c.msg (payload_of p.plan p.interface c) k).words; control = w })
    (ap (λ (w : ℕ). w + 2 ^ 32 * other) (off_word (k == 0) c.msg circuit (small_message p.interface c within fits) small) ∙ on_word (k == 0) c.msg other)))
    fit
