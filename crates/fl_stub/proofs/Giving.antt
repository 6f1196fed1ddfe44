-- What send code gives is what its meaning moves.
use Rattle.std.proofs.Common.{◌≡◌, ℕ, zero, suc, ◌+◌, List, ◌++◌, length, refl, sym, ◌∙◌, ap, subst, append_assoc}
use Rattle.std.proofs.lemmas.List.{append-nil}
use Rattle.fl_stub.specs.Structure.{Piece, one, times, counted, Block, finished, next}
use Rattle.fl_stub.specs.Meaning.{OpMove, number, zeros, zeros_to_8, move_of, number_bytes, gap_to_8, StubMoment, MovesNumber, MovesZeros, Moves, Repeats, PieceTurns, BlockTurns, moment_first, moment_last, OneSending}
use Rattle.fl_stub.specs.Given.{Given, Giver, first_of_tape, rest_of_tape, nothing_given, then_given, number_given, zeros_given, move_given, turn_given, turns_given, piece_given, block_given, Agrees, bytes_given, TurnsIntoGiven}

-- a giver agrees with a relation
abbrev pub Gives : Giver → (StubMoment → StubMoment → Type 0) → Type 0
Gives f R = (m n : StubMoment) → R m n → Agrees (f m.at m.tape) m n

agrees_then : (g : Given) (f : Giver) (m l n : StubMoment) → Agrees g m l → Agrees (f l.at l.tape) l n → Agrees (then_given g f) m n
agrees_then g f m l n x y =
    let same : f g.at g.tape ≡ f l.at l.tape = ap (λ (k : ℕ). f k g.tape) x.at ∙ ap (λ (t : List ℕ). f l.at t) x.tape in
    record {
      bytes = x.bytes ∙ ap (λ (z : List ℕ). g.bytes ++ z) (y.bytes ∙ ap (λ (h : Given). h.bytes ++ n.bytes) (sym same)) ∙ sym (append_assoc g.bytes (f g.at g.tape).bytes n.bytes);
      at = ap (λ (h : Given). h.at) same ∙ y.at;
      tape = ap (λ (h : Given). h.tape) same ∙ y.tape;
    }

agrees_nothing : (m n : StubMoment) → m ≡ n → Agrees (nothing_given m.at m.tape) m n
agrees_nothing m n e = record { bytes = ap StubMoment.bytes e; at = ap StubMoment.at e; tape = ap StubMoment.tape e }

agrees_number : (width least bound x : ℕ) (m n : StubMoment) → MovesNumber width least bound x m n → Agrees (number_given width m.at m.tape) m n
agrees_number width least bound x m n k =
    let is : first_of_tape m.tape ≡ x = ap first_of_tape k.tape in
    record {
      bytes = k.bytes ∙ ap (λ (z : ℕ). number_bytes width z ++ n.bytes) (sym is);
      at = sym k.at;
      tape = ap rest_of_tape k.tape;
    }

agrees_zeros : (count : ℕ) (m n : StubMoment) → MovesZeros count m n → Agrees (zeros_given count m.at m.tape) m n
agrees_zeros count m n z = record { bytes = z.bytes; at = sym z.at; tape = z.tape }

agrees_move : (move : OpMove) → Gives (move_given move) (Moves move)
agrees_move (number width least bound) m n (x, k) = agrees_number width least bound x m n k
agrees_move (zeros count) m n z = agrees_zeros count m n z
agrees_move zeros_to_8 m n z = agrees_zeros (gap_to_8 m.at) m n z

agrees_turn : (g : Given) (m n : StubMoment) → Agrees g m n → Agrees (then_given g turn_given) m n
agrees_turn g m n x = record { bytes = x.bytes ∙ ap (λ (z : List ℕ). z ++ n.bytes) (sym (append-nil g.bytes)); at = x.at; tape = x.tape }

agrees_turns : (f : Giver) (R : StubMoment → StubMoment → Type 0) → Gives f R → (k : ℕ) → Gives (turns_given f k) (Repeats R k)
agrees_turns f R gives zero m n e = agrees_nothing m n e
agrees_turns f R gives (suc k) m n (l, first, more) =
    agrees_then (then_given (f m.at m.tape) turn_given) (turns_given f k) m l n (agrees_turn (f m.at m.tape) m l (gives m l first)) (agrees_turns f R gives k l n more)

mutual
  pub piece_gives : (p : Piece) → Gives (piece_given p) (PieceTurns p)
  piece_gives (one op) m n t = agrees_move (move_of op) m n t
  piece_gives (times k b) m n t =
      agrees_then (turn_given m.at m.tape) (turns_given (block_given b) k) m m n (record { bytes = refl; at = refl; tape = refl }) (agrees_turns (block_given b) (BlockTurns b) (gives b) k m n t)
  piece_gives (counted most b) m n (x, l, k, t) =
      let is : first_of_tape m.tape ≡ x = ap first_of_tape k.tape in
      agrees_then (number_given 8 m.at m.tape) (turns_given (block_given b) (first_of_tape m.tape)) m l n (agrees_number 8 0 (most + 1) x m l k)
      (subst (λ (z : ℕ). Agrees (turns_given (block_given b) z l.at l.tape) l n) (sym is) (agrees_turns (block_given b) (BlockTurns b) (gives b) x l n t))

  pub gives : (b : Block) → Gives (block_given b) (BlockTurns b)
  gives finished m n e = agrees_nothing m n e
  gives (next p b) m n (l, first, more) = agrees_then (piece_given p m.at m.tape) (block_given b) m l n (piece_gives p m l first) (gives b l n more)

pub turns_into_given : TurnsIntoGiven
turns_into_given b tape bytes t =
    let a = gives b (moment_first tape bytes) (moment_last (length bytes)) t in
    sym (a.bytes ∙ append-nil (bytes_given b tape))

pub one_sending : OneSending
one_sending b tape bytes bytes2 t t2 = sym (turns_into_given b tape bytes t) ∙ turns_into_given b tape bytes2 t2
