-- The tree of code: it gives the bytes that code gives, with their marks, and turns what code turns.
use Rattle.std.proofs.Common.{◌≡◌, ℕ, zero, suc, ◌+◌, ◌/◌, ◌%◌, ◌^◌, ◌≤◌, leb, lit<, lit≤, true, inl, inr, List, ◌∷◌, ◌++◌, replicate, length, refl, sym, ◌∙◌, ap, subst, arith, append_assoc}
use Rattle.std.specs.Cmp.{first_so, second_so}
use Rattle.std.specs.Int.{bytes_low_first}
use Rattle.std.proofs.lemmas.List.{append-nil}
use Rattle.std.proofs.Math.Nat.{one-le-pow, zero-div}
use borrow.Author.Tests.{leb-true}
use Rattle.fl_stub.specs.declared.op.Op.{Op}
use Rattle.fl_stub.specs.declared.op.Column.TheVariants.{Receive}
use Rattle.fl_stub.specs.declared.op.Op.TheVariants.{Align, Read, ReadBool, ReadEnum, ReadChar, Skip, ReadText}
use Rattle.fl_stub.specs.declared.mark.ByteKind.{ByteKind}
use Rattle.fl_stub.specs.declared.mark.ByteKind.TheVariants.{Length}
use Rattle.fl_stub.specs.Structure.{Piece, one, times, counted, Block, finished, next, is_width, is_within, is_step, piece_fits, block_fits}
use Rattle.fl_stub.specs.Meaning.{OpMove, number, zeros, zeros_to_8, move_of, number_bytes, gap_to_8, StubMoment, MovesZeros, Moves, Repeats, PieceTurns, BlockTurns, moment_first, moment_last, Turns}
use Rattle.fl_stub.specs.Given.{Giver, first_of_tape, rest_of_tape, move_given, turns_given, piece_given, block_given, bytes_given}
use Rattle.fl_stub.specs.Marks.{Marker, move_marks, turns_marks, piece_marks, block_marks, marks_of}
use Rattle.fl_stub.specs.Rests.{Rest, goes_by, zeros_field, field_of, length_field, rest_field, rest_turns, rest_piece, rest_block, rest_end, rest_all, RestTurns, rest_bytes, rest_marks, IsSound, AllSound}
use Rattle.fl_stub.proofs.Taking.{one_of_four, OneOfFour}

zeros_from : (i n : ℕ) → replicate n 0 ≡ bytes_low_first i n 0
zeros_from i zero = refl
zeros_from zero (suc n) = ap (λ (x : List ℕ). 0 ∷ x) (zeros_from 1 n)
zeros_from (suc i) (suc n) =
    let e : 0 / 256 ^ suc i % 256 ≡ 0 = ap (λ (k : ℕ). k % 256) (zero-div (256 ^ suc i)) in
    ap (λ (x : List ℕ). 0 ∷ x) (zeros_from (suc (suc i)) n) ∙ ap (λ (b : ℕ). b ∷ bytes_low_first (suc (suc i)) n 0) (sym e)

pub zeros_bytes : (n : ℕ) → replicate n 0 ≡ number_bytes n 0
zeros_bytes n = zeros_from 0 n

-- bytes

-- what is given, and what is left after it
abbrev Bytes : Giver → ((ℕ → Rest) → ℕ → Rest) → Type 0
Bytes g f = (k : ℕ → Rest) (at : ℕ) (tape : List ℕ) → (g at tape).bytes ++ rest_bytes (k (g at tape).at) (g at tape).tape ≡ rest_bytes (f k at) tape

bytes_move : (move : OpMove) → Bytes (move_given move) (λ k at. rest_field (field_of move at) k at)
bytes_move (number width least bound) k at tape = refl
bytes_move (zeros count) k at tape = ap (λ (x : List ℕ). x ++ rest_bytes (k (at + count)) tape) (zeros_bytes count)
bytes_move zeros_to_8 k at tape = ap (λ (x : List ℕ). x ++ rest_bytes (k (at + gap_to_8 at)) tape) (zeros_bytes (gap_to_8 at))

bytes_turns : (g : Giver) (f : (ℕ → Rest) → ℕ → Rest) → Bytes g f → (n : ℕ) → Bytes (turns_given g n) (rest_turns f n)
bytes_turns g f h zero k at tape = refl
bytes_turns g f h (suc n) k at tape =
    let first = g at tape in
    let more = turns_given g n first.at first.tape in
    let tail : List ℕ = rest_bytes (k more.at) more.tape in
    ap (λ (x : List ℕ). (x ++ more.bytes) ++ tail) (append-nil first.bytes)
    ∙ append_assoc first.bytes more.bytes tail
    ∙ ap (λ (x : List ℕ). first.bytes ++ x) (bytes_turns g f h n k first.at first.tape)
    ∙ h (λ at. goes_by (rest_turns f n k at)) at tape

mutual
  bytes_piece : (p : Piece) → Bytes (piece_given p) (rest_piece p)
  bytes_piece (one op) k at tape = bytes_move (move_of op) k at tape
  bytes_piece (times n b) k at tape = bytes_turns (block_given b) (rest_block b) (bytes_block b) n k at tape
  bytes_piece (counted most b) k at tape =
      let x = first_of_tape tape in
      let more = turns_given (block_given b) x (at + 8) (rest_of_tape tape) in
      append_assoc (number_bytes 8 x) more.bytes (rest_bytes (k more.at) more.tape)
      ∙ ap (λ (z : List ℕ). number_bytes 8 x ++ z) (bytes_turns (block_given b) (rest_block b) (bytes_block b) x k (at + 8) (rest_of_tape tape))

  bytes_block : (b : Block) → Bytes (block_given b) (rest_block b)
  bytes_block finished k at tape = refl
  bytes_block (next p b) k at tape =
      let first = piece_given p at tape in
      let more = block_given b first.at first.tape in
      append_assoc first.bytes more.bytes (rest_bytes (k more.at) more.tape)
      ∙ ap (λ (z : List ℕ). first.bytes ++ z) (bytes_block b k first.at first.tape)
      ∙ bytes_piece p (rest_block b k) at tape

pub all_bytes : (b : Block) (tape : List ℕ) → bytes_given b tape ≡ rest_bytes (rest_all b) tape
all_bytes b tape = sym (append-nil (bytes_given b tape)) ∙ bytes_block b rest_end 0 tape

-- marks

abbrev Marked : Giver → Marker → ((ℕ → Rest) → ℕ → Rest) → Type 0
Marked g m f = (k : ℕ → Rest) (at : ℕ) (tape : List ℕ) → m at tape ++ rest_marks (k (g at tape).at) (g at tape).tape ≡ rest_marks (f k at) tape

marked_move : (move : OpMove) → Marked (move_given move) (λ at tape. move_marks move at) (λ k at. rest_field (field_of move at) k at)
marked_move (number width least bound) k at tape = refl
marked_move (zeros count) k at tape = refl
marked_move zeros_to_8 k at tape = refl

marked_turns : (g : Giver) (m : Marker) (f : (ℕ → Rest) → ℕ → Rest) → Marked g m f → (n : ℕ) → Marked (turns_given g n) (turns_marks g m n) (rest_turns f n)
marked_turns g m f h zero k at tape = refl
marked_turns g m f h (suc n) k at tape =
    let first = g at tape in
    let more = turns_given g n first.at first.tape in
    append_assoc (m at tape) (turns_marks g m n first.at first.tape) (rest_marks (k more.at) more.tape)
    ∙ ap (λ (x : List ByteKind). m at tape ++ x) (marked_turns g m f h n k first.at first.tape)
    ∙ h (λ at. goes_by (rest_turns f n k at)) at tape

mutual
  marked_piece : (p : Piece) → Marked (piece_given p) (piece_marks p) (rest_piece p)
  marked_piece (one op) k at tape = marked_move (move_of op) k at tape
  marked_piece (times n b) k at tape = marked_turns (block_given b) (block_marks b) (rest_block b) (marked_block b) n k at tape
  marked_piece (counted most b) k at tape =
      let x = first_of_tape tape in
      let more = turns_given (block_given b) x (at + 8) (rest_of_tape tape) in
      append_assoc (replicate 8 Length) (turns_marks (block_given b) (block_marks b) x (at + 8) (rest_of_tape tape)) (rest_marks (k more.at) more.tape)
      ∙ ap (λ (z : List ByteKind). replicate 8 Length ++ z) (marked_turns (block_given b) (block_marks b) (rest_block b) (marked_block b) x k (at + 8) (rest_of_tape tape))

  marked_block : (b : Block) → Marked (block_given b) (block_marks b) (rest_block b)
  marked_block finished k at tape = refl
  marked_block (next p b) k at tape =
      let first = piece_given p at tape in
      let more = block_given b first.at first.tape in
      append_assoc (piece_marks p at tape) (block_marks b first.at first.tape) (rest_marks (k more.at) more.tape)
      ∙ ap (λ (z : List ByteKind). piece_marks p at tape ++ z) (marked_block b k first.at first.tape)
      ∙ marked_piece p (rest_block b k) at tape

pub all_marks : (b : Block) (tape : List ℕ) → marks_of b tape ≡ rest_marks (rest_all b) tape
all_marks b tape = sym (append-nil (marks_of b tape)) ∙ marked_block b rest_end 0 tape

-- turns

abbrev Joins : (StubMoment → StubMoment → Type 0) → ((ℕ → Rest) → ℕ → Rest) → Type 0
Joins R f = (k : ℕ → Rest) (m l n : StubMoment) → R m l → RestTurns (k l.at) l n → RestTurns (f k m.at) m n

abbrev Splits : (StubMoment → StubMoment → Type 0) → ((ℕ → Rest) → ℕ → Rest) → Type 0
Splits R f = (k : ℕ → Rest) (m n : StubMoment) → RestTurns (f k m.at) m n → (l : StubMoment) × R m l × RestTurns (k l.at) l n

at_place : (k : ℕ → Rest) (p q : ℕ) (l n : StubMoment) → p ≡ q → RestTurns (k p) l n → RestTurns (k q) l n
at_place k p q l n e h = subst (λ (z : ℕ). RestTurns (k z) l n) e h

joins_zeros : (count : ℕ) (k : ℕ → Rest) (m l n : StubMoment) → MovesZeros count m l → RestTurns (k l.at) l n → RestTurns (rest_field (zeros_field count) k m.at) m n
joins_zeros count k m l n z h = (
  0,
  l,
  record { at_least = lit≤ tt; below = lit< tt; tape = z.tape; bytes = z.bytes ∙ ap (λ (x : List ℕ). x ++ l.bytes) (zeros_bytes count); at = z.at },
  at_place k l.at (m.at + count) l n z.at h,
)

splits_zeros : (count : ℕ) (k : ℕ → Rest) (m n : StubMoment) → RestTurns (rest_field (zeros_field count) k m.at) m n → (l : StubMoment) × MovesZeros count m l × RestTurns (k l.at) l n
splits_zeros count k m n (x, l, f, h) =
    let b = f.below in
    let e : x ≡ 0 = omega (arith, b) in (
      l,
      record { tape = f.tape; bytes = f.bytes ∙ ap (λ (z : ℕ). number_bytes count z ++ l.bytes) e ∙ ap (λ (z : List ℕ). z ++ l.bytes) (sym (zeros_bytes count)); at = f.at },
      at_place k (m.at + count) l.at l n (sym f.at) h,
    )

joins_move : (move : OpMove) → Joins (Moves move) (λ k at. rest_field (field_of move at) k at)
joins_move (number width least bound) k m l n (x, f) h =
    (x, l, record { at_least = f.at_least; below = f.below; tape = f.tape; bytes = f.bytes; at = f.at }, at_place k l.at (m.at + width) l n f.at h)
joins_move (zeros count) k m l n z h = joins_zeros count k m l n z h
joins_move zeros_to_8 k m l n z h = joins_zeros (gap_to_8 m.at) k m l n z h

splits_move : (move : OpMove) → Splits (Moves move) (λ k at. rest_field (field_of move at) k at)
splits_move (number width least bound) k m n (x, l, f, h) =
    (l, (x, record { at_least = f.at_least; below = f.below; tape = f.tape; bytes = f.bytes; at = f.at }), at_place k (m.at + width) l.at l n (sym f.at) h)
splits_move (zeros count) k m n h = splits_zeros count k m n h
splits_move zeros_to_8 k m n h = splits_zeros (gap_to_8 m.at) k m n h

joins_turns : (R : StubMoment → StubMoment → Type 0) (f : (ℕ → Rest) → ℕ → Rest) → Joins R f → (i : ℕ) → Joins (Repeats R i) (rest_turns f i)
joins_turns R f j zero k m l n e h = subst (λ (z : StubMoment). RestTurns (k z.at) z n) (sym e) h
joins_turns R f j (suc i) k m l n (a, first, more) h = j (λ at. goes_by (rest_turns f i k at)) m a n first (joins_turns R f j i k a l n more h)

splits_turns : (R : StubMoment → StubMoment → Type 0) (f : (ℕ → Rest) → ℕ → Rest) → Splits R f → (i : ℕ) → Splits (Repeats R i) (rest_turns f i)
splits_turns R f s zero k m n h = (m, refl, h)
splits_turns R f s (suc i) k m n h =
    let (a, first, left) = s (λ at. goes_by (rest_turns f i k at)) m n h in
    let (l, more, end) = splits_turns R f s i k a n left in
    (l, (a, first, more), end)

mutual
  joins_piece : (p : Piece) → Joins (PieceTurns p) (rest_piece p)
  joins_piece (one op) k m l n t h = joins_move (move_of op) k m l n t h
  joins_piece (times i b) k m l n t h = joins_turns (BlockTurns b) (rest_block b) (joins_block b) i k m l n t h
  joins_piece (counted most b) k m l n (x, a, f, t) h = (
    x,
    a,
    record { at_least = f.at_least; below = f.below; tape = f.tape; bytes = f.bytes; at = f.at },
    at_place (rest_turns (rest_block b) x k) a.at (m.at + 8) a n f.at (joins_turns (BlockTurns b) (rest_block b) (joins_block b) x k a l n t h),
  )

  joins_block : (b : Block) → Joins (BlockTurns b) (rest_block b)
  joins_block finished k m l n e h = subst (λ (z : StubMoment). RestTurns (k z.at) z n) (sym e) h
  joins_block (next p b) k m l n (a, t, u) h = joins_piece p (rest_block b k) m a n t (joins_block b k a l n u h)

mutual
  splits_piece : (p : Piece) → Splits (PieceTurns p) (rest_piece p)
  splits_piece (one op) k m n h = splits_move (move_of op) k m n h
  splits_piece (times i b) k m n h = splits_turns (BlockTurns b) (rest_block b) (splits_block b) i k m n h
  splits_piece (counted most b) k m n (x, a, f, h) =
      let (l, t, end) = splits_turns (BlockTurns b) (rest_block b) (splits_block b) x k a n (at_place (rest_turns (rest_block b) x k) (m.at + 8) a.at a n (sym f.at) h) in
      (l, (x, a, record { at_least = f.at_least; below = f.below; tape = f.tape; bytes = f.bytes; at = f.at }, t), end)

  splits_block : (b : Block) → Splits (BlockTurns b) (rest_block b)
  splits_block finished k m n h = (m, refl, h)
  splits_block (next p b) k m n h =
      let (a, t, left) = splits_piece p (rest_block b k) m n h in
      let (l, u, end) = splits_block b k a n left in
      (l, (a, t, u), end)

pub tree_turns : (b : Block) (tape full : List ℕ) → Turns b tape full → RestTurns (rest_all b) (moment_first tape full) (moment_last (length full))
tree_turns b tape full t = joins_block b rest_end (moment_first tape full) (moment_last (length full)) (moment_last (length full)) t refl

pub turns_tree : (b : Block) (tape full : List ℕ) → RestTurns (rest_all b) (moment_first tape full) (moment_last (length full)) → Turns b tape full
turns_tree b tape full h =
    let (l, t, e) = splits_block b rest_end (moment_first tape full) (moment_last (length full)) h in
    subst (λ (z : StubMoment). BlockTurns b (moment_first tape full) z) e t

-- soundness

sound_zeros : (count : ℕ) → count ≤ 8 → IsSound (zeros_field count)
sound_zeros count few = record { width = few; high = one-le-pow count 256 (lit< tt); some = lit< tt; low = λ h. refl; unacknowledged = λ e. refl }

sound_width : (width : ℕ) → is_width width ≡ true → width ≤ 8
sound_width width h = by_cases (one_of_four width h)
  where
    by_cases : OneOfFour width → width ≤ 8
    by_cases (inl (inl e)) = omega (arith, e)
    by_cases (inl (inr e)) = omega (arith, e)
    by_cases (inr (inl e)) = omega (arith, e)
    by_cases (inr (inr e)) = omega (arith, e)

sound_step : (op : Op) (at : ℕ) → is_step Receive op ≡ true → IsSound (field_of (move_of op) at)
sound_step (Read width) at h =
    let one : 1 ≤ 256 ^ width = one-le-pow width 256 (lit< tt) in
    record { width = sound_width width h; high = omega arith; some = omega (arith, one); low = λ w. refl; unacknowledged = λ e. absurd (cc) }
sound_step ReadBool at h = record { width = lit≤ tt; high = lit≤ tt; some = lit< tt; low = λ w. refl; unacknowledged = λ e. absurd (cc) }
sound_step (ReadEnum n) at h =
    let high : n ≤ 4294967296 = leb-true n 4294967296 (second_so (leb 1 n) (leb n 4294967296) h) in
    let some : 1 ≤ n = leb-true 1 n (first_so (leb 1 n) (leb n 4294967296) h) in
    record { width = lit≤ tt; high = omega (arith, high); some = omega (arith, some); low = λ w. refl; unacknowledged = λ e. absurd (cc) }
sound_step ReadChar at h = record { width = lit≤ tt; high = lit≤ tt; some = lit< tt; low = λ w. refl; unacknowledged = λ e. absurd (cc) }
sound_step ReadText at h = record { width = lit≤ tt; high = lit≤ tt; some = lit< tt; low = λ w. absurd (omega (arith, w)); unacknowledged = λ e. absurd (cc) }
sound_step (Skip n) at h = let few : n ≤ 7 = leb-true n 7 (second_so (leb 1 n) (leb n 7) h) in sound_zeros n (omega (arith, few))
sound_step Align at h = sound_zeros (gap_to_8 at) (omega arith)
sound_step op at h = absurd (cc)

sound_length : (most : ℕ) → is_within 4096 most ≡ true → IsSound (length_field most)
sound_length most h =
    let few : most ≤ 4096 = leb-true most 4096 (second_so (leb 1 most) (leb most 4096) h) in
    record { width = lit≤ tt; high = omega (arith, few); some = omega arith; low = λ w. refl; unacknowledged = λ e. absurd (cc) }

-- what keeps all fields sound
abbrev Keeps : ((ℕ → Rest) → ℕ → Rest) → Type 0
Keeps f = (k : ℕ → Rest) → ((at : ℕ) → AllSound (k at)) → (at : ℕ) → AllSound (f k at)

keeps_turns : (f : (ℕ → Rest) → ℕ → Rest) → Keeps f → (n : ℕ) → Keeps (rest_turns f n)
keeps_turns f h zero k s at = s at
keeps_turns f h (suc n) k s at = h (λ at. goes_by (rest_turns f n k at)) (λ at. keeps_turns f h n k s at) at

mutual
  keeps_piece : (p : Piece) → piece_fits Receive p ≡ true → Keeps (rest_piece p)
  keeps_piece (one op) fits k s at = (sound_step op at fits, λ x low high. s (at + (field_of (move_of op) at).width))
  keeps_piece (times n b) fits k s at = keeps_turns (rest_block b) (keeps_block b (second_so (is_within 1024 n) (block_fits Receive b) fits)) n k s at
  keeps_piece (counted most b) fits k s at = (
    sound_length most (first_so (is_within 4096 most) (block_fits Receive b) fits),
    λ x low high. keeps_turns (rest_block b) (keeps_block b (second_so (is_within 4096 most) (block_fits Receive b) fits)) x k s (at + 8),
  )

  keeps_block : (b : Block) → block_fits Receive b ≡ true → Keeps (rest_block b)
  keeps_block finished fits k s at = s at
  keeps_block (next p b) fits k s at =
      keeps_piece p (first_so (piece_fits Receive p) (block_fits Receive b) fits) (rest_block b k)
      (λ at. keeps_block b (second_so (piece_fits Receive p) (block_fits Receive b) fits) k s at) at

pub all_sound : (b : Block) → block_fits Receive b ≡ true → AllSound (rest_all b)
all_sound b fits = keeps_block b fits rest_end (λ at. tt) 0
