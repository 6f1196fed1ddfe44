-- Bytes come from one tape.
use Rattle.std.proofs.Common.{◌≡◌, ℕ, zero, suc, ◌+◌, ◌^◌, ◌%◌, ◌<◌, ◌≤◌, leb, lit≤, Bool, true, false, ◌||◌, ◌⊎◌, inl, inr, ⊎_elim, List, ◌∷◌, ◌++◌, take, drop, replicate, length, refl, sym, ◌∙◌, ap, subst, arith}
use Rattle.std.specs.Prelude.{◌==◌}
use Rattle.std.specs.Cmp.{first_so, second_so}
use Rattle.std.specs.Int.{from_le_bytes, w16, w32, w64}
use Rattle.std.proofs.lemmas.Nat.{from_le_bytes-to_le_bytes_2, from_le_bytes-to_le_bytes_4, from_le_bytes-to_le_bytes_8}
use borrow.Author.Tests.{eqb-true, leb-true}
use Rattle.fl_stub.specs.declared.op.Op.{Op}
use Rattle.fl_stub.specs.declared.op.Op.TheVariants.{Emit, Pad, Align, Read, ReadBool, ReadEnum, ReadChar, Skip, ReadText}
use Rattle.fl_stub.specs.declared.op.Column.{Column}
use Rattle.fl_stub.specs.declared.op.Column.TheVariants.{Send, Receive}
use Rattle.fl_stub.specs.Structure.{Piece, one, times, counted, Block, finished, next, is_width, is_within, is_step, piece_fits, block_fits}
use Rattle.fl_stub.specs.Meaning.{OpMove, number, zeros, zeros_to_8, move_of, number_bytes, gap_to_8, StubMoment, MovesNumber, MovesZeros, Moves, Repeats, PieceTurns, BlockTurns, moment_first, moment_last, OneTaking}

-- what two moves of the same bytes from the same place come to: the same, and the tapes before differ only if those after do
pub record SameTape (m n m2 n2 : StubMoment) : Type 0 where
  pub at : n.at ≡ n2.at
  pub bytes : n.bytes ≡ n2.bytes
  pub tape : n.tape ≡ n2.tape → m.tape ≡ m2.tape

-- a relation that the bytes determine
abbrev pub IsTold : (StubMoment → StubMoment → Type 0) → Type 0
IsTold R = (m n m2 n2 : StubMoment) → R m n → R m2 n2 → m.at ≡ m2.at → m.bytes ≡ m2.bytes → SameTape m n m2 n2

-- the widths
abbrev pub OneOfFour : ℕ → Type 0
OneOfFour n = ((n ≡ 1) ⊎ (n ≡ 2)) ⊎ ((n ≡ 4) ⊎ (n ≡ 8))

either_so : (a b : Bool) → (a || b) ≡ true → (a ≡ true) ⊎ (b ≡ true)
either_so true b h = inl refl
either_so false b h = inr h

pub one_of_four : (n : ℕ) → is_width n ≡ true → OneOfFour n
one_of_four n h = ⊎_elim
    (λ (g : ((n == 1) || (n == 2) || (n == 4)) ≡ true). ⊎_elim
    (λ (f : ((n == 1) || (n == 2)) ≡ true). ⊎_elim (λ (e : (n == 1) ≡ true). inl (inl (eqb-true n 1 e))) (λ (e : (n == 2) ≡ true). inl (inr (eqb-true n 2 e))) (either_so (n == 1) (n == 2) f))
    (λ (e : (n == 4) ≡ true). inr (inl (eqb-true n 4 e)))
    (either_so ((n == 1) || (n == 2)) (n == 4) g))
    (λ (e : (n == 8) ≡ true). inr (inr (eqb-true n 8 e)))
    (either_so ((n == 1) || (n == 2) || (n == 4)) (n == 8) h)

-- two numbers of as many bytes, and what follows
abbrev pub SplitsAt : ℕ → Type 0
SplitsAt width = (x y : ℕ) (r s : List ℕ) → x < 256 ^ width → y < 256 ^ width → number_bytes width x ++ r ≡ number_bytes width y ++ s → (x ≡ y) × (r ≡ s)

splits_1 : SplitsAt 1
splits_1 x y r s a b e =
    let f : x % 256 ≡ y % 256 = cc in
    (omega (arith, a, b, f), cc)

splits_2 : SplitsAt 2
splits_2 x y r s a b e =
    (sym (from_le_bytes-to_le_bytes_2 x a) ∙ ap (λ (z : List ℕ). from_le_bytes w16 (take {A = ℕ} 2 z)) e ∙ from_le_bytes-to_le_bytes_2 y b, ap (drop {A = ℕ} 2) e)

splits_4 : SplitsAt 4
splits_4 x y r s a b e =
    (sym (from_le_bytes-to_le_bytes_4 x a) ∙ ap (λ (z : List ℕ). from_le_bytes w32 (take {A = ℕ} 4 z)) e ∙ from_le_bytes-to_le_bytes_4 y b, ap (drop {A = ℕ} 4) e)

splits_8 : SplitsAt 8
splits_8 x y r s a b e =
    (sym (from_le_bytes-to_le_bytes_8 x a) ∙ ap (λ (z : List ℕ). from_le_bytes w64 (take {A = ℕ} 8 z)) e ∙ from_le_bytes-to_le_bytes_8 y b, ap (drop {A = ℕ} 8) e)

splits : (width : ℕ) → OneOfFour width → SplitsAt width
splits width (inl (inl e)) = subst SplitsAt (sym e) splits_1
splits width (inl (inr e)) = subst SplitsAt (sym e) splits_2
splits width (inr (inl e)) = subst SplitsAt (sym e) splits_4
splits width (inr (inr e)) = subst SplitsAt (sym e) splits_8

tape_cons : (x y : ℕ) (s t u v : List ℕ) → x ≡ y → s ≡ x ∷ t → u ≡ y ∷ v → t ≡ v → s ≡ u
tape_cons x y s t u v e a b c = cc

told_number : (width least bound : ℕ) → OneOfFour width → bound ≤ 256 ^ width → (x y : ℕ) (m n m2 n2 : StubMoment)
    → MovesNumber width least bound x m n → MovesNumber width least bound y m2 n2 → m.at ≡ m2.at → m.bytes ≡ m2.bytes → (x ≡ y) × SameTape m n m2 n2
told_number width least bound four high x y m n m2 n2 k k2 at bytes =
    let (e, rest) = splits width four x y n.bytes n2.bytes (omega (arith, k.below, high)) (omega (arith, k2.below, high)) (sym k.bytes ∙ bytes ∙ k2.bytes) in
    (e, record { at = k.at ∙ ap (λ (z : ℕ). z + width) at ∙ sym k2.at; bytes = rest; tape = tape_cons x y m.tape n.tape m2.tape n2.tape e k.tape k2.tape })

told_zeros : (count count2 : ℕ) (m n m2 n2 : StubMoment) → count ≡ count2 → MovesZeros count m n → MovesZeros count2 m2 n2 → m.at ≡ m2.at → m.bytes ≡ m2.bytes → SameTape m n m2 n2
told_zeros count count2 m n m2 n2 same z z2 at bytes =
    let joined : replicate count 0 ++ n.bytes ≡ replicate count 0 ++ n2.bytes
    = sym z.bytes ∙ bytes ∙ z2.bytes ∙ ap (λ (k : ℕ). replicate k 0 ++ n2.bytes) (sym same) in
    record {
      at = z.at ∙ ap (λ (k : ℕ). k + count) at ∙ ap (λ (k : ℕ). m2.at + k) same ∙ sym z2.at;
      bytes = after_zeros count n.bytes n2.bytes joined;
      tape = λ e. z.tape ∙ e ∙ sym z2.tape;
    }
  where
    after_zeros : (k : ℕ) (r s : List ℕ) → replicate k 0 ++ r ≡ replicate k 0 ++ s → r ≡ s
    after_zeros zero r s e = e
    after_zeros (suc k) r s e = after_zeros k r s (cc)

-- a move whose bytes tell its number
abbrev pub IsSoundMove : OpMove → Type 0
IsSoundMove (number width least bound) = OneOfFour width × (bound ≤ 256 ^ width)
IsSoundMove (zeros count) = Unit {0}
IsSoundMove zeros_to_8 = Unit {0}

sound_width : (width : ℕ) → is_width width ≡ true → IsSoundMove (number width 0 (256 ^ width))
sound_width width h = (one_of_four width h, omega arith)

sound_step : (column : Column) (op : Op) → is_step column op ≡ true → IsSoundMove (move_of op)
sound_step Send (Emit n) h = sound_width n h
sound_step Send (Pad n) h = tt
sound_step Send Align h = tt
sound_step Receive Align h = tt
sound_step Receive (Read n) h = sound_width n h
sound_step Receive ReadBool h = (inl (inl refl), lit≤ tt)
sound_step Receive (ReadEnum n) h = let e : n ≤ 4294967296 = leb-true n 4294967296 (second_so (leb 1 n) (leb n 4294967296) h) in (inr (inl refl), omega (arith, e))
sound_step Receive ReadChar h = (inl (inl refl), lit≤ tt)
sound_step Receive (Skip n) h = tt
sound_step Receive ReadText h = (inl (inl refl), lit≤ tt)
sound_step column op h = absurd (cc)

told_move : (move : OpMove) → IsSoundMove move → IsTold (Moves move)
told_move (number width least bound) (four, high) m n m2 n2 (x, k) (y, k2) at bytes = (told_number width least bound four high x y m n m2 n2 k k2 at bytes).1
told_move (zeros count) p m n m2 n2 z z2 at bytes = told_zeros count count m n m2 n2 refl z z2 at bytes
told_move zeros_to_8 p m n m2 n2 z z2 at bytes = told_zeros (gap_to_8 m.at) (gap_to_8 m2.at) m n m2 n2 (ap gap_to_8 at) z z2 at bytes

told_nothing : (m n m2 n2 : StubMoment) → m ≡ n → m2 ≡ n2 → m.at ≡ m2.at → m.bytes ≡ m2.bytes → SameTape m n m2 n2
told_nothing m n m2 n2 e e2 at bytes = record {
  at = sym (ap StubMoment.at e) ∙ at ∙ ap StubMoment.at e2;
  bytes = sym (ap StubMoment.bytes e) ∙ bytes ∙ ap StubMoment.bytes e2;
  tape = λ t. ap StubMoment.tape e ∙ t ∙ sym (ap StubMoment.tape e2);
}

joined : (m l n m2 l2 n2 : StubMoment) → SameTape m l m2 l2 → SameTape l n l2 n2 → SameTape m n m2 n2
joined m l n m2 l2 n2 x y = record { at = y.at; bytes = y.bytes; tape = λ e. x.tape (y.tape e) }

told_repeats : (R : StubMoment → StubMoment → Type 0) → IsTold R → (k : ℕ) → IsTold (Repeats R k)
told_repeats R r zero m n m2 n2 e e2 at bytes = told_nothing m n m2 n2 e e2 at bytes
told_repeats R r (suc k) m n m2 n2 (l, a, b) (l2, a2, b2) at bytes =
    let x = r m l m2 l2 a a2 at bytes in
    joined m l n m2 l2 n2 x (told_repeats R r k l n l2 n2 b b2 x.at x.bytes)

mutual
  piece_told : (column : Column) (p : Piece) → piece_fits column p ≡ true → IsTold (PieceTurns p)
  piece_told column (one op) fits m n m2 n2 t t2 at bytes = told_move (move_of op) (sound_step column op fits) m n m2 n2 t t2 at bytes
  piece_told column (times k b) fits m n m2 n2 t t2 at bytes =
      told_repeats (BlockTurns b) (block_told column b (second_so (is_within 1024 k) (block_fits column b) fits)) k m n m2 n2 t t2 at bytes
  piece_told column (counted most b) fits m n m2 n2 (x, l, k, t) (y, l2, k2, t2) at bytes =
      let in_range : most ≤ 4096 = leb-true most 4096 (second_so (leb 1 most) (leb most 4096) (first_so (is_within 4096 most) (block_fits column b) fits)) in
      let (e, s) = told_number 8 0 (most + 1) (inr (inr refl)) (omega (arith, in_range)) x y m l m2 l2 k k2 at bytes in
      let t3 : Repeats (BlockTurns b) x l2 n2 = subst (λ (z : ℕ). Repeats (BlockTurns b) z l2 n2) (sym e) t2 in
      joined m l n m2 l2 n2 s (told_repeats (BlockTurns b) (block_told column b (second_so (is_within 4096 most) (block_fits column b) fits)) x l n l2 n2 t t3 s.at s.bytes)

  block_told : (column : Column) (b : Block) → block_fits column b ≡ true → IsTold (BlockTurns b)
  block_told column finished fits m n m2 n2 t t2 at bytes = told_nothing m n m2 n2 t t2 at bytes
  block_told column (next p b) fits m n m2 n2 (l, t, u) (l2, t2, u2) at bytes =
      let x = piece_told column p (first_so (piece_fits column p) (block_fits column b) fits) m l m2 l2 t t2 at bytes in
      joined m l n m2 l2 n2 x (block_told column b (second_so (piece_fits column p) (block_fits column b) fits) l n l2 n2 u u2 x.at x.bytes)

pub one_taking : OneTaking
one_taking column b tape tape2 bytes fits t t2 =
    let s = block_told column b fits (moment_first tape bytes) (moment_last (length bytes)) (moment_first tape2 bytes) (moment_last (length bytes)) t t2 refl refl in
    s.tape refl
