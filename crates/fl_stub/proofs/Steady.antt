-- What code gives from a place in the payload depends on that place modulo 8 alone.
use Rattle.std.proofs.Common.{◌≡◌, ℕ, zero, suc, ◌+◌, ◌-◌, ◌%◌, List, [], ◌∷◌, ◌++◌, replicate, refl, ◌∙◌, ap, subst, arith, drop}
use Rattle.fl_stub.specs.declared.op.Op.{Op}
use Rattle.fl_stub.specs.Structure.{Piece, one, times, counted, Block, finished, next}
use Rattle.fl_stub.specs.Frames.{innermost, block_of}
use Rattle.fl_stub.specs.Meaning.{OpMove, number, zeros, zeros_to_8, move_of, gap_to_8}
use Rattle.fl_stub.specs.Given.{Given, Giver, first_of_tape, nothing_given, then_given, number_given, zeros_given, move_given, turn_given, turns_given, piece_given, block_given}
use Rattle.fl_stub.specs.Locations.{TheLoop, outer, after_given, open_given}

-- the same but for a multiple of 8 in the place
pub record Alike (g h : Given) : Type 0 where
  pub bytes : g.bytes ≡ h.bytes
  pub at : g.at % 8 ≡ h.at % 8
  pub tape : g.tape ≡ h.tape
  pub steps : g.steps ≡ h.steps

abbrev pub IsSteady : Giver → Type 0
IsSteady f = (at at2 : ℕ) (tape : List ℕ) → at % 8 ≡ at2 % 8 → Alike (f at tape) (f at2 tape)

alike_then : (g h : Given) (f : Giver) → IsSteady f → Alike g h → Alike (then_given g f) (then_given h f)
alike_then g h f steady a =
    let b : Alike (f g.at g.tape) (f h.at h.tape) = subst (λ (t : List ℕ). Alike (f g.at g.tape) (f h.at t)) a.tape (steady g.at h.at g.tape a.at) in
    record {
      bytes = ap (λ (x : List ℕ). x ++ (f g.at g.tape).bytes) a.bytes ∙ ap (λ (x : List ℕ). h.bytes ++ x) b.bytes;
      at = b.at;
      tape = b.tape;
      steps = ap (λ (x : ℕ). x + (f g.at g.tape).steps) a.steps ∙ ap (λ (x : ℕ). h.steps + x) b.steps;
    }

same_rest : (at at2 n : ℕ) → at % 8 ≡ at2 % 8 → (at + n) % 8 ≡ (at2 + n) % 8
same_rest at at2 n e = omega (arith, e)

steady_zeros : (count : ℕ) → IsSteady (zeros_given count)
steady_zeros count at at2 tape e = record { bytes = refl; at = same_rest at at2 count e; tape = refl; steps = refl }

steady_number : (width : ℕ) → IsSteady (number_given width)
steady_number width at at2 tape e = record { bytes = refl; at = same_rest at at2 width e; tape = refl; steps = refl }

steady_move : (move : OpMove) → IsSteady (move_given move)
steady_move (number width least bound) at at2 tape e = steady_number width at at2 tape e
steady_move (zeros count) at at2 tape e = steady_zeros count at at2 tape e
steady_move zeros_to_8 at at2 tape e =
    let same : gap_to_8 at ≡ gap_to_8 at2 = ap (λ (x : ℕ). (8 - x) % 8) e in
    record {
      bytes = ap (λ (k : ℕ). replicate k 0) same;
      at = same_rest at at2 (gap_to_8 at) e ∙ ap (λ (k : ℕ). (at2 + k) % 8) same;
      tape = refl;
      steps = refl;
    }

steady_nothing : IsSteady nothing_given
steady_nothing at at2 tape e = record { bytes = refl; at = e; tape = refl; steps = refl }

steady_turn : IsSteady turn_given
steady_turn at at2 tape e = record { bytes = refl; at = e; tape = refl; steps = refl }

steady_turns : (f : Giver) → IsSteady f → (k : ℕ) → IsSteady (turns_given f k)
steady_turns f steady zero at at2 tape e = steady_nothing at at2 tape e
steady_turns f steady (suc k) at at2 tape e =
    alike_then (then_given (f at tape) turn_given) (then_given (f at2 tape) turn_given) (turns_given f k) (steady_turns f steady k)
    (alike_then (f at tape) (f at2 tape) turn_given steady_turn (steady at at2 tape e))

mutual
  steady_piece : (p : Piece) → IsSteady (piece_given p)
  steady_piece (one op) at at2 tape e = steady_move (move_of op) at at2 tape e
  steady_piece (times k b) at at2 tape e =
      alike_then (turn_given at tape) (turn_given at2 tape) (turns_given (block_given b) k) (steady_turns (block_given b) (steady_block b) k) (steady_turn at at2 tape e)
  steady_piece (counted most b) at at2 tape e =
      alike_then (number_given 8 at tape) (number_given 8 at2 tape) (turns_given (block_given b) (first_of_tape tape)) (steady_turns (block_given b) (steady_block b) (first_of_tape tape))
      (steady_number 8 at at2 tape e)

  pub steady_block : (b : Block) → IsSteady (block_given b)
  steady_block finished at at2 tape e = steady_nothing at at2 tape e
  steady_block (next p b) at at2 tape e = alike_then (piece_given p at tape) (piece_given p at2 tape) (block_given b) (steady_block b) (steady_piece p at at2 tape e)

steady_chain : (f h : Giver) → IsSteady f → IsSteady h → IsSteady (λ at tape. then_given (f at tape) h)
steady_chain f h s t at at2 tape e = alike_then (f at tape) (f at2 tape) h t (s at at2 tape e)

steady_after : (ops : List Op) (blocks : List Block) (loops : List TheLoop) → IsSteady (after_given ops blocks loops)
steady_after ops blocks [] at at2 tape e = steady_nothing at at2 tape e
steady_after ops blocks (l ∷ loops) at at2 tape e =
    let rest : IsSteady (λ at tape. then_given (block_given (innermost blocks) at tape) (after_given ops (outer blocks) loops))
    = steady_chain (block_given (innermost blocks)) (after_given ops (outer blocks) loops) (steady_block (innermost blocks)) (steady_after ops (outer blocks) loops) in
    let turns = turns_given (block_given (block_of (drop l.start ops))) l.turns in
    steady_chain turn_given (λ at tape. then_given (turns at tape) (λ at tape. then_given (block_given (innermost blocks) at tape) (after_given ops (outer blocks) loops))) steady_turn
    (steady_chain turns (λ at tape. then_given (block_given (innermost blocks) at tape) (after_given ops (outer blocks) loops))
    (steady_turns (block_given (block_of (drop l.start ops))) (steady_block (block_of (drop l.start ops))) l.turns) rest) at at2 tape e

pub steady_open : (ops : List Op) (blocks : List Block) (loops : List TheLoop) → IsSteady (open_given ops blocks loops)
steady_open ops blocks loops =
    steady_chain (block_given (innermost blocks)) (after_given ops (outer blocks) loops) (steady_block (innermost blocks)) (steady_after ops (outer blocks) loops)
