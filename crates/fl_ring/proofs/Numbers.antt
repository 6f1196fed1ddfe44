-- A 16-bit number names one count.
use Rattle.std.proofs.Common.{ℕ, ◌≡◌, ◌<◌, ◌≤◌, ◌+◌, ◌%◌, List, [], ◌∷◌, ◌++◌, ap, ◌∙◌, refl, arith}
use Rattle.fl_base.specs.declared.fragment.Frag.{Frag}
use Rattle.fl_base.specs.Control.{told_of}
use Rattle.fl_ring.specs.Counts.{count_from, known_after, last_count}

-- the number of a count names it
pub count_named : (known count : ℕ) → known ≤ count → count < known + 65536 → count_from known (count % 65536) ≡ count
count_named known count le near = omega arith

-- a number that was read already tells nothing new
pub count_again : (known number : ℕ) → count_from (count_from known number) number ≡ count_from known number
count_again known number = omega arith

pub count_rises : (known number : ℕ) → known ≤ count_from known number
count_rises known number = omega arith

pub last_rises : (known : ℕ) (frags : List Frag) → known ≤ last_count known frags
last_rises known [] = omega arith
last_rises known (frag ∷ rest) = omega (arith, last_rises (count_from known (told_of frag.control)) rest, count_rises known (told_of frag.control))

pub last_push : (known : ℕ) (frags : List Frag) (frag : Frag) → last_count known (frags ++ frag ∷ []) ≡ count_from (last_count known frags) (told_of frag.control)
last_push known [] frag = refl
last_push known (first ∷ rest) frag = last_push (count_from known (told_of first.control)) rest frag

pub after_rises : (known : ℕ) (frags : List Frag) → known ≤ known_after known frags
after_rises known [] = omega arith
after_rises known (frag ∷ rest) = count_rises known (told_of frag.control)

-- a look at the first fragment leaves the count that all of them tell
pub last_after : (known : ℕ) (frags : List Frag) → last_count (known_after known frags) frags ≡ last_count known frags
last_after known [] = refl
last_after known (frag ∷ rest) = ap (λ (k : ℕ). last_count k rest) (count_again known (told_of frag.control))

-- two counts known, not far apart, name the same next one
same_next : (k known number : ℕ) → k ≤ known → count_from known number < k + 65536 → count_from k number ≡ count_from known number
same_next k known number le near = omega arith

-- from a count known before, the same fragments tell the same, where there are any
pub forgets : (k known count : ℕ) (frags : List Frag) → k ≤ known → count < k + 65536 → (frags ≡ [] → k ≡ known) → last_count known frags ≡ count → last_count k frags ≡ count
forgets k known count [] le near none e = none refl ∙ e
forgets k known count (frag ∷ rest) le near none e =
    let number : ℕ = told_of frag.control in
    let first : count_from known number ≤ count = omega (arith, e, last_rises (count_from known number) rest) in
    ap (λ (c : ℕ). last_count c rest) (same_next k known number le (omega (arith, first))) ∙ e
