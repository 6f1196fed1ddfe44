-- What code makes of a tape's packed form is what it makes of the tape.
use Rattle.std.proofs.Common.{◌≡◌, ℕ, zero, suc, ◌+◌, ◌^◌, ◌<◌, ◌≤◌, true, false, List, [], ◌∷◌, ◌++◌, length, take, drop, replicate, refl, sym, ◌∙◌, ap, subst, arith, append_assoc, ltb, leb}
use Rattle.std.proofs.lemmas.List.{append-nil, length-append, length-replicate}
use Rattle.std.proofs.lemmas.Bool.{and_parts, leb-true, le-ltb, cond-false}
use Rattle.std.proofs.lemmas.Nat.{from_le_bytes-to_le_bytes_8}
use Rattle.std.specs.Int.{bytes_low_first, byte_at, from_le_bytes, w64}
use Rattle.fl_stub.specs.declared.op.Column.{Column}
use Rattle.fl_stub.specs.Structure.{Piece, one, times, counted, Block, finished, next, is_within, piece_fits, block_fits}
use Rattle.fl_stub.specs.Meaning.{OpMove, number, zeros, zeros_to_8, move_of, number_bytes, gap_to_8, StubMoment, MovesNumber, MovesZeros, Moves, Repeats, PieceTurns, BlockTurns, moment_first, moment_last}
use Rattle.fl_stub.specs.Given.{first_of_tape, rest_of_tape}
use Rattle.fl_stub_steps.specs.Spreading.{Packing, Packer, nothing_packed, number_packed, then_packed, move_packed, turns_packed, piece_packed, block_packed, packed_for}
use Rattle.fl_stub_steps.specs.Spreading.{Spreader, spread_of, copied, padded, aligned, repeated, length_at, move_spread, piece_spread, block_spread, spread_first, SpreadsPacked}

-- a packed tape is spread as the bytes move
pub record Carried (f : Spreader) (p : Packing) (m n : StubMoment) : Type 0 where
  pub tape : p.tape ≡ n.tape
  pub given : List ℕ
  pub bytes : m.bytes ≡ given ++ n.bytes
  pub at : n.at ≡ m.at + length given
  pub moves : (before more : List ℕ) → length before ≡ m.at → f (spread_of before (p.bytes ++ more)) ≡ spread_of (before ++ given) more

abbrev pub Carries : Spreader → Packer → (StubMoment → StubMoment → Type 0) → Type 0
Carries f p R = (m n : StubMoment) → R m n → Carried f (p m.tape) m n

carried_then : (f g : Spreader) (p : Packing) (q : Packer) (m l n : StubMoment) → Carried f p m l → Carried g (q l.tape) l n → Carried (λ x. g (f x)) (then_packed p q) m n
carried_then f g p q m l n x y =
    let same : q p.tape ≡ q l.tape = ap q x.tape in
    record {
      tape = ap (λ (z : Packing). z.tape) same ∙ y.tape;
      given = x.given ++ y.given;
      bytes = x.bytes ∙ ap (λ (z : List ℕ). x.given ++ z) y.bytes ∙ sym (append_assoc x.given y.given n.bytes);
      at = omega (arith, x.at, y.at, length-append x.given y.given);
      moves = λ before more long.
          let here : f (spread_of before ((p.bytes ++ (q p.tape).bytes) ++ more)) ≡ spread_of (before ++ x.given) ((q l.tape).bytes ++ more)
          = ap (λ (z : List ℕ). f (spread_of before z)) (append_assoc p.bytes (q p.tape).bytes more ∙ ap (λ (z : Packing). p.bytes ++ (z.bytes ++ more)) same)
          ∙ x.moves before ((q l.tape).bytes ++ more) long in
          let on : length (before ++ x.given) ≡ l.at = omega (arith, length-append before x.given, long, x.at) in
          ap g here ∙ y.moves (before ++ x.given) more on ∙ ap (λ (z : List ℕ). spread_of z more) (append_assoc before x.given y.given);
    }

carried_same : (m n : StubMoment) → m ≡ n → Carried (λ x. x) (nothing_packed m.tape) m n
carried_same m n e = record {
  tape = ap (λ (z : StubMoment). z.tape) e;
  given = [];
  bytes = ap (λ (z : StubMoment). z.bytes) e;
  at = omega (arith, ap (λ (z : StubMoment). z.at) e);
  moves = λ before more long. ap (λ (z : List ℕ). spread_of z more) (sym (append-nil before));
}

-- ---- numbers and zeros

pub length_low : (i width x : ℕ) → length (bytes_low_first i width x) ≡ width
length_low i zero x = refl
length_low i (suc width) x = ap suc (length_low (suc i) width x)

take_low : (i width x : ℕ) (more : List ℕ) → take width (bytes_low_first i width x ++ more) ≡ bytes_low_first i width x
take_low i zero x more = refl
take_low i (suc width) x more = ap (λ (z : List ℕ). byte_at i x ∷ z) (take_low (suc i) width x more)

drop_low : (i width x : ℕ) (more : List ℕ) → drop width (bytes_low_first i width x ++ more) ≡ more
drop_low i zero x more = refl
drop_low i (suc width) x more = drop_low (suc i) width x more

copied_low : (width x : ℕ) (before more : List ℕ) → copied width (spread_of before (number_bytes width x ++ more)) ≡ spread_of (before ++ number_bytes width x) more
copied_low width x before more =
    ap (λ (z : List ℕ). spread_of (before ++ z) (drop width (number_bytes width x ++ more))) (take_low 0 width x more)
    ∙ ap (λ (z : List ℕ). spread_of (before ++ number_bytes width x) z) (drop_low 0 width x more)

carried_number : (width least bound x : ℕ) (m n : StubMoment) → MovesNumber width least bound x m n → Carried (copied width) (number_packed width m.tape) m n
carried_number width least bound x m n k =
    let is : first_of_tape m.tape ≡ x = ap first_of_tape k.tape in
    record {
      tape = ap rest_of_tape k.tape;
      given = number_bytes width x;
      bytes = k.bytes;
      at = k.at ∙ ap (λ (z : ℕ). m.at + z) (sym (length_low 0 width x));
      moves = λ before more long. ap (λ (z : ℕ). copied width (spread_of before (number_bytes width z ++ more))) is ∙ copied_low width x before more;
    }

carried_zeros : (count : ℕ) (m n : StubMoment) → MovesZeros count m n → Carried (padded count) (nothing_packed m.tape) m n
carried_zeros count m n z = record {
  tape = z.tape;
  given = replicate count 0;
  bytes = z.bytes;
  at = z.at ∙ ap (λ (k : ℕ). m.at + k) (sym (length-replicate {A = ℕ} count 0));
  moves = λ before more long. refl;
}

carried_gap : (m n : StubMoment) → MovesZeros (gap_to_8 m.at) m n → Carried aligned (nothing_packed m.tape) m n
carried_gap m n z = record {
  tape = z.tape;
  given = replicate (gap_to_8 m.at) 0;
  bytes = z.bytes;
  at = z.at ∙ ap (λ (k : ℕ). m.at + k) (sym (length-replicate {A = ℕ} (gap_to_8 m.at) 0));
  moves = λ before more long. ap (λ (k : ℕ). padded (gap_to_8 k) (spread_of before more)) long;
}

carried_move : (move : OpMove) → Carries (move_spread move) (move_packed move) (Moves move)
carried_move (number width least bound) m n (x, k) = carried_number width least bound x m n k
carried_move (zeros count) m n z = carried_zeros count m n z
carried_move zeros_to_8 m n z = carried_gap m n z

-- ---- loops

carries_turns : (f : Spreader) (p : Packer) (R : StubMoment → StubMoment → Type 0) → Carries f p R → (k : ℕ) → Carries (repeated f k) (turns_packed p k) (Repeats R k)
carries_turns f p R carries zero m n e = carried_same m n e
carries_turns f p R carries (suc k) m n (l, first, more) =
    carried_then f (repeated f k) (p m.tape) (turns_packed p k) m l n (carries m l first) (carries_turns f p R carries k l n more)

length_told : (x : ℕ) (rest more : List ℕ) → x < 2 ^ 64 → length_at ((number_bytes 8 x ++ rest) ++ more) ≡ x
length_told x rest more small =
    let all = (number_bytes 8 x ++ rest) ++ more in
    let enough : ltb (length all) 8 ≡ false
    = le-ltb (length all) 8 (omega (arith, length-append (number_bytes 8 x ++ rest) more, length-append (number_bytes 8 x) rest, length_low 0 8 x)) in
    cond-false (ltb (length all) 8) 0 (from_le_bytes w64 (number_bytes 8 x)) enough ∙ from_le_bytes-to_le_bytes_8 x small

counted_small : (most x y : ℕ) → is_within 4096 most ≡ true → y < most + 1 → x ≡ y → x < 2 ^ 64
counted_small most x y within below e =
    let few : most ≤ 4096 = leb-true most 4096 ((and_parts (leb 1 most) (leb most 4096) within).1) in
    omega (arith, few, below, e)

mutual
  piece_carries : (column : Column) (p : Piece) → piece_fits column p ≡ true → Carries (piece_spread p) (piece_packed p) (PieceTurns p)
  piece_carries column (one op) fits m n t = carried_move (move_of op) m n t
  piece_carries column (times k b) fits m n t =
      let has = and_parts (is_within 1024 k) (block_fits column b) fits in
      carries_turns (block_spread b) (block_packed b) (BlockTurns b) (block_carries column b (has.1)) k m n t
  piece_carries column (counted most b) fits m n (x, l, k, t) =
      let has = and_parts (is_within 4096 most) (block_fits column b) fits in
      let y = first_of_tape m.tape in
      let is : y ≡ x = ap first_of_tape k.tape in
      let turns = carries_turns (block_spread b) (block_packed b) (BlockTurns b) (block_carries column b (has.1)) in
      let all = carried_then (copied 8) (repeated (block_spread b) y) (number_packed 8 m.tape) (turns_packed (block_packed b) y) m l n
      (carried_number 8 0 (most + 1) x m l k)
      (subst (λ (z : ℕ). Carried (repeated (block_spread b) z) (turns_packed (block_packed b) z l.tape) l n) (sym is) (turns x l n t)) in
      let rest = (turns_packed (block_packed b) y (rest_of_tape m.tape)).bytes in
      let small = counted_small most y x (has.0) k.below is in
      record {
        tape = all.tape;
        given = all.given;
        bytes = all.bytes;
        at = all.at;
        moves = λ before more long.
            let start = spread_of before ((number_bytes 8 y ++ rest) ++ more) in
            ap (λ (z : ℕ). repeated (block_spread b) z (copied 8 start)) (length_told y rest more small) ∙ all.moves before more long;
      }

  pub block_carries : (column : Column) (b : Block) → block_fits column b ≡ true → Carries (block_spread b) (block_packed b) (BlockTurns b)
  block_carries column finished fits m n e = carried_same m n e
  block_carries column (next p b) fits m n (l, first, more) =
      let has = and_parts (piece_fits column p) (block_fits column b) fits in
      carried_then (piece_spread p) (block_spread b) (piece_packed p m.tape) (block_packed b) m l n (piece_carries column p (has.0) m l first) (block_carries column b (has.1) l n more)

pub spreads : SpreadsPacked
spreads column b tape bytes fits t =
    let c = block_carries column b fits (moment_first tape bytes) (moment_last (length bytes)) t in
    ap (λ (z : List ℕ). block_spread b (spread_first z)) (sym (append-nil (packed_for b tape)))
    ∙ c.moves [] [] refl
    ∙ ap (λ (z : List ℕ). spread_of z []) (sym (c.bytes ∙ append-nil c.given))
