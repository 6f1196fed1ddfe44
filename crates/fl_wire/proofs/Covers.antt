-- Which leaf stands at a byte.
use Rattle.std.proofs.Common.{◌≡◌, ℕ, ◌+◌, ◌<◌, ◌≤◌, Bool, true, false, List, [], ◌∷◌, ◌++◌, refl, ap, arith, ◌&&◌, leb}
use Rattle.std.specs.Prelude.{◌||◌}
use Rattle.std.proofs.lemmas.Bool.{lt-ltb, le-ltb, le-leb, lt-leb}
use Rattle.fl_value_data.specs.Plan.{is_dynamic}
use Rattle.fl_value_data.specs.Tape.{Argument}
use Rattle.fl_layout.specs.Leaves.{Leaf, gap, argument_onto, start_onto}
use Rattle.fl_layout.specs.Places.{size, place}
use Rattle.fl_wire.specs.Covered.{holds, is_covered, is_length}
use Rattle.fl_wire.proofs.Bytes.{size_le_place}
use Rattle.fl_wire.proofs.Agreement.{grows, over_start, over_argument}

pub holds_before : (start width p : ℕ) → p < start → holds start width p ≡ false
holds_before start width p h = rw (lt-leb start p h) refl

pub holds_past : (start width p : ℕ) → start + width ≤ p → holds start width p ≡ false
holds_past start width p h = rw (le-ltb p (start + width) h) (elim (leb start p) as (λ v. (v && false) ≡ false) [ true ↦ refl | false ↦ refl ])

pub holds_in : (start width p : ℕ) → start ≤ p → p < start + width → holds start width p ≡ true
holds_in start width p low high = rw (le-leb start p low, lt-ltb p (start + width) high) refl

-- leaves that come later cover no byte of those before them
pub covered_under : (more low : List Leaf) (p : ℕ) → p < size low → is_covered (more ++ low) p ≡ is_covered low p
covered_under [] low p h = refl
covered_under (l ∷ more) low p h =
    rw (holds_before (place l (more ++ low)) l.width p (omega (arith, h, grows more low, size_le_place (size (more ++ low)) l.align))) (covered_under more low p h)

-- past the end no leaf stands
pub covered_past : (ls : List Leaf) (p : ℕ) → size ls ≤ p → is_covered ls p ≡ false
covered_past [] p h = refl
covered_past (l ∷ ls) p h = rw (holds_past (place l ls) l.width p h) (covered_past ls p (omega (arith, h, size_le_place (size ls) l.align)))

-- zeros before a leaf
pub covered_before : (l : Leaf) (ls : List Leaf) (p : ℕ) → size ls ≤ p → p < place l ls → is_covered (l ∷ ls) p ≡ false
covered_before l ls p low high = rw (holds_before (place l ls) l.width p high) (covered_past ls p low)

-- a leaf's own bytes
pub covered_in : (l : Leaf) (ls : List Leaf) (p : ℕ) → place l ls ≤ p → p < place l ls + l.width → is_covered (l ∷ ls) p ≡ true
covered_in l ls p low high = rw (holds_in (place l ls) l.width p low high) refl

longer_after : (after : Bool) (a : Argument) (low : List Leaf) → size low ≤ size (argument_onto a.0 a.1 (start_onto after low))
longer_after after a low =
    let start = over_start after low in
    let one = over_argument a.0 a.1 (start_onto after low) in
    let own : size (argument_onto a.0 a.1 (start_onto after low)) ≡ size (one.more ++ start_onto after low) = ap size one.is in
    let before : size (start_onto after low) ≡ size (start.more ++ low) = ap size start.is in
    omega (arith, grows start.more low, grows one.more (start_onto after low), own, before)

-- what stands before some arguments is no length of theirs
pub no_length_before : (after : Bool) (args : List Argument) (low : List Leaf) (p : ℕ) → p < size low → is_length after args low p ≡ false
no_length_before after [] low p h = refl
no_length_before after (a ∷ args) low p h =
    let longer : size low ≤ size (argument_onto a.0 a.1 (start_onto after low)) = longer_after after a low in
    rw (holds_before (place (gap 8) low) 8 p (omega (arith, h, size_le_place (size low) 8)), no_length_before (is_dynamic a.0) args (argument_onto a.0 a.1 (start_onto after low)) p (omega (arith, h, longer)))
    (elim (is_dynamic a.0) as (λ v. ((v && false) || false) ≡ false) [ true ↦ refl | false ↦ refl ])
