-- A fragment of one number, which is all that code takes.
use Rattle.std.proofs.Common.{◌≡◌, ℕ, zero, suc, nat_eq, false, ◌-◌, ◌<◌, ◌≤◌, ◌^◌, true, ⊎_elim, List, [], ◌∷◌, ◌++◌, length, get_or, replicate, refl, sym, ◌∙◌, ap, subst, arith}
use Rattle.std.specs.Cmp.{first_so}
use Rattle.std.proofs.lemmas.List.{length-append, get_or_append_left, get_or-append_right, append-nil, get_or_past, get_or-replicate}
use Rattle.std.proofs.lemmas.Bool.{cases_lt, ne_eqb, false≢true}
use Rattle.fl_stub.specs.declared.op.Op.{Op}
use Rattle.fl_stub.specs.declared.op.Op.TheVariants.{Read, Done}
use Rattle.fl_stub.specs.declared.op.Column.TheVariants.{Receive}
use Rattle.fl_stub.specs.Structure.{one, finished, next, IsCode, is_width, block_fits}
use Rattle.fl_stub.specs.Frames.{block_of}
use Rattle.fl_stub.specs.Meaning.{number_bytes, moment_last, Turns}
use Rattle.fl_stub.specs.Streams.{IsPayload}
use Rattle.fl_machine.specs.Taking.{words_bytes}
use Rattle.fl_machine.proofs.Pours.{length_bytes, same_bytes}

-- the code's one number
pub width_there : (ops : List Op) (w : ℕ) → ops ≡ Read w ∷ Done ∷ [] → IsCode Receive ops (block_of ops) → is_width w ≡ true
width_there ops w is code =
    let fits : block_fits Receive (block_of (Read w ∷ Done ∷ [])) ≡ true = subst (λ (xs : List Op). block_fits Receive (block_of xs) ≡ true) is code.fits in
    first_so (is_width w) true fits

zeros_get : (n i : ℕ) → ◌≡◌ {A = ℕ} (get_or (replicate n 0) i 0) 0
zeros_get n i = ⊎_elim
    (λ (h : i < n). get_or-replicate n i 0 0 h)
    (λ (h : n ≤ i). get_or_past (replicate n 0) i 0 (omega (arith, h, zeros_long n)))
    (cases_lt i n)
  where
    zeros_long : (m : ℕ) → length (replicate {A = ℕ} m 0) ≡ m
    zeros_long zero = refl
    zeros_long (suc m) = ap suc (zeros_long m)

alone_turns : (w x : ℕ) → x < 256 ^ w → Turns (next (one (Read w)) finished) (x ∷ []) (number_bytes w x)
alone_turns w x small = (
  moment_last (length (number_bytes w x)),
  (x, record { at_least = omega arith; below = small; tape = refl; bytes = sym (append-nil (number_bytes w x)); at = omega (arith, length_bytes 0 w x) }),
  refl,
)

alone_follows : (w x p : ℕ) → w ≤ 8 → x < 256 ^ w → get_or (number_bytes 8 x ++ replicate 48 0) p 0 ≡ get_or (number_bytes w x) p 0
alone_follows w x p few small = ⊎_elim
    (λ (h : p < 8). get_or_append_left (number_bytes 8 x) (replicate 48 0) 0 p (omega (arith, h, length_bytes 0 8 x)) ∙ same_bytes w x p few small h)
    (λ (h : 8 ≤ p).
    get_or-append_right (number_bytes 8 x) (replicate 48 0) 8 p 0 (length_bytes 0 8 x) h ∙ zeros_get 48 (p - 8)
    ∙ sym (get_or_past (number_bytes w x) p 0 (omega (arith, h, few, length_bytes 0 w x))))
    (cases_lt p 8)

words_alone : (x : ℕ) → words_bytes (x ∷ 0 ∷ 0 ∷ 0 ∷ 0 ∷ 0 ∷ 0 ∷ []) ≡ number_bytes 8 x ++ replicate 48 0
words_alone x = refl

bytes_alone : (w x : ℕ) (bytes : List ℕ) → w ≤ 8 → x < 256 ^ w → bytes ≡ number_bytes 8 x ++ replicate 48 0 → IsPayload (next (one (Read w)) finished) bytes (x ∷ [])
bytes_alone w x bytes few small is = record {
  full = number_bytes w x;
  goes = record {
    turns = alone_turns w x small;
    follows = record { each = λ p h. ap (λ (xs : List ℕ). get_or xs p 0) is ∙ alone_follows w x p few small };
  };
  short = omega (arith, few, length_bytes 0 w x, ap length is, length-append (number_bytes 8 x) (replicate 48 0), length_bytes 0 8 x);
}

-- the fragment's words are all of a call's payload
pub payload_alone : (ops : List Op) (w x : ℕ) (words : List ℕ) → ops ≡ Read w ∷ Done ∷ [] → words ≡ x ∷ 0 ∷ 0 ∷ 0 ∷ 0 ∷ 0 ∷ 0 ∷ [] → w ≤ 8 → x < 256 ^ w
    → IsPayload (block_of ops) (words_bytes words) (x ∷ [])
payload_alone ops w x words is words_are few small =
    subst (λ (xs : List Op). IsPayload (block_of xs) (words_bytes words) (x ∷ [])) (sym is)
    (bytes_alone w x (words_bytes words) few small (ap words_bytes words_are ∙ words_alone x))

pub width_few : (w : ℕ) → is_width w ≡ true → w ≤ 8
width_few w h = ⊎_elim
    (λ (low : w < 9). omega (arith, low))
    (λ (high : 9 ≤ w).
    let a : nat_eq w 1 ≡ false = ne_eqb w 1 (λ e. omega (arith, e, high)) in
    let b : nat_eq w 2 ≡ false = ne_eqb w 2 (λ e. omega (arith, e, high)) in
    let c : nat_eq w 4 ≡ false = ne_eqb w 4 (λ e. omega (arith, e, high)) in
    let d : nat_eq w 8 ≡ false = ne_eqb w 8 (λ e. omega (arith, e, high)) in
    let no : is_width w ≡ false = rw a (rw b (rw c (rw d refl))) in
    absurd (false≢true (sym no ∙ h)))
    (cases_lt w 9)
