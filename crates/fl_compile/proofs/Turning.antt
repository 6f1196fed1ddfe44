-- Code turns the tape of a value into its bytes, in both columns.
use Rattle.std.proofs.Common.{◌≡◌, ℕ, suc, ◌+◌, ◌^◌, ◌<◌, ◌≤◌, true, false, Bool, eqb, cond, List, [], ◌∷◌, ◌++◌, length, replicate, refl, sym, ap, subst, arith, append_assoc}
use Rattle.std.specs.List.{list_all}
use Rattle.std.proofs.lemmas.List.{length-append, length-replicate}
use Rattle.std.proofs.lemmas.Bool.{and_parts, leb-true, ltb-true, eqb-true, false≢true}
use Rattle.fl_interface.specs.Interface.{TheType, scalar, enumeration, structure, array, TheTypes, no_more, field}
use Rattle.fl_interface.specs.Sizes.{round_up, scalar_size, size_of, align_of, greatest_align}
use Rattle.fl_value_data.specs.Value.{Datum, number, string, elements, fields, Data, nothing_more, also}
use Rattle.fl_value_data.specs.Fits.{has_type, have_types, all_have_type, count_of, scalar_bits, is_text_byte}
use Rattle.fl_value_data.specs.Tape.{raw_of, value_tape, fields_tape, elements_tape}
use Rattle.fl_interface.specs.Counts.{words_fit, all_words_fit}
use Rattle.fl_stub.specs.declared.op.Op.{Op}
use Rattle.fl_stub.specs.declared.op.Column.{Column}
use Rattle.fl_stub.specs.declared.op.Column.TheVariants.{Send, Receive}
use Rattle.fl_stub.specs.Structure.{Block, finished, next, one, times, counted}
use Rattle.fl_stub.specs.Meaning.{StubMoment, number_bytes, OpMove, number as number_move, zeros as zeros_move, move_of, MovesNumber, Moves, Repeats, BlockTurns}
use Rattle.fl_compile.specs.Compiled.{padding, scalar_op, enum_op, text_op, pad_op, zeros_then, type_then, fields_then}
use Rattle.fl_compile.proofs.Payloads.{number_length}
use Rattle.fl_compile.proofs.Numerals.{moved_below, scalar_moves, scalar_moved, enum_moved_below, enum_moves, enum_moved}
use Rattle.fl_compile.proofs.Encoded.{value_bytes, fields_bytes, elements_bytes}

-- at a place, with that tape and those bytes left
abbrev pub moment : ℕ → List ℕ → List ℕ → StubMoment
moment at tape bytes = record { at = at; tape = tape; bytes = bytes }

-- code, given with what follows it, turns a tape into bytes before whatever follows
pub record Goes (code : Block → Block) (tape bytes : List ℕ) : Type 0 where
  pub before : (rest : Block) (at : ℕ) (t b : List ℕ) (n : StubMoment) → BlockTurns rest (moment (at + length bytes) t b) n
      → BlockTurns (code rest) (moment at (tape ++ t) (bytes ++ b)) n

-- the same at equal places, tapes and bytes
pub same_turns : (code : Block) (n : StubMoment) {at at2 : ℕ} {t t2 b b2 : List ℕ} → at ≡ at2 → t ≡ t2 → b ≡ b2 → BlockTurns code (moment at t b) n → BlockTurns code (moment at2 t2 b2) n
same_turns code n {at2 = at2} {t = t} {t2 = t2} {b = b} p q r h =
    subst (λ (x : List ℕ). BlockTurns code (moment at2 t2 x) n) r (subst (λ (x : List ℕ). BlockTurns code (moment at2 x b) n) q (subst (λ (k : ℕ). BlockTurns code (moment k t b) n) p h))

-- one after another
pub goes_on : (f g : Block → Block) (t1 b1 t2 b2 : List ℕ) → Goes f t1 b1 → Goes g t2 b2 → Goes (λ rest. f (g rest)) (t1 ++ t2) (b1 ++ b2)
goes_on f g t1 b1 t2 b2 x y = record {
  before = λ rest at t b n h.
      let long : at + length (b1 ++ b2) ≡ (at + length b1) + length b2 = omega (arith, length-append b1 b2) in
      let inner = y.before rest (at + length b1) t b n (same_turns rest n long refl refl h) in
      let outer = x.before (g rest) at (t2 ++ t) (b2 ++ b) n inner in
      same_turns (f (g rest)) n refl (sym (append_assoc t1 t2 t)) (sym (append_assoc b1 b2 b)) outer;
}

-- ---- single instructions

-- a number
pub number_goes : (op : Op) (width least bound x : ℕ) → move_of op ≡ number_move width least bound → least ≤ x → x < bound
    → Goes (λ rest. next (one op) rest) (x ∷ []) (number_bytes width x)
number_goes op width least bound x is low high = record {
  before = λ rest at t b n h.
      let moves : Moves (number_move width least bound) (moment at (x ∷ t) (number_bytes width x ++ b)) (moment (at + length (number_bytes width x)) t b)
      = (x, record { at_least = low; below = high; tape = refl; bytes = refl; at = ap (λ (k : ℕ). at + k) (number_length 0 width x) }) in (
        moment (at + length (number_bytes width x)) t b,
        subst (λ (m : OpMove). Moves m (moment at (x ∷ t) (number_bytes width x ++ b)) (moment (at + length (number_bytes width x)) t b)) (sym is) moves,
        h,
      );
}

pub pad_moves : (column : Column) (count : ℕ) → move_of (pad_op column count) ≡ zeros_move count
pad_moves Send count = refl
pad_moves Receive count = refl

-- zeros, as an instruction
pub zero_goes : (op : Op) (count : ℕ) → move_of op ≡ zeros_move count → Goes (λ rest. next (one op) rest) [] (replicate count 0)
zero_goes op count is = record {
  before = λ rest at t b n h.
      let long : at + length (replicate {A = ℕ} count 0) ≡ at + count = ap (λ (k : ℕ). at + k) (length-replicate {A = ℕ} count 0) in
      let moves : Moves (zeros_move count) (moment at t (replicate count 0 ++ b)) (moment (at + count) t b) = record { tape = refl; bytes = refl; at = refl } in (
        moment (at + count) t b,
        subst (λ (m : OpMove). Moves m (moment at t (replicate count 0 ++ b)) (moment (at + count) t b)) (sym is) moves,
        same_turns rest n long refl refl h,
      );
}

nothing_goes : Goes (λ rest. rest) [] []
nothing_goes = record { before = λ rest at t b n h. same_turns rest n (omega arith) refl refl h }

-- zeros, where there are any
zeros_by : (column : Column) (count : ℕ) (none : Bool) → eqb count 0 ≡ none → Goes (λ rest. cond none rest (next (one (pad_op column count)) rest)) [] (replicate count 0)
zeros_by column count true e = subst (λ (k : ℕ). Goes (λ rest. rest) [] (replicate k 0)) (sym (eqb-true count 0 e)) nothing_goes
zeros_by column count false e = zero_goes (pad_op column count) count (pad_moves column count)

pub zeros_go : (column : Column) (count : ℕ) → Goes (zeros_then column count) [] (replicate count 0)
zeros_go column count = zeros_by column count (eqb count 0) refl

-- ---- loops

-- so many turns of a loop turn a tape into bytes
pub record Turned (body : Block) (count : ℕ) (tape bytes : List ℕ) : Type 0 where
  pub turns : (at : ℕ) (t b : List ℕ) → Repeats (BlockTurns body) count (moment at (tape ++ t) (bytes ++ b)) (moment (at + length bytes) t b)

pub no_turn : (body : Block) → Turned body 0 [] []
no_turn body = record { turns = λ at t b. let e : at ≡ at + 0 = omega arith in ap (λ (k : ℕ). moment k t b) e }

pub one_more_turn : (code : Block → Block) (count : ℕ) (t1 b1 t2 b2 : List ℕ) → Goes code t1 b1 → Turned (code finished) count t2 b2
    → Turned (code finished) (suc count) (t1 ++ t2) (b1 ++ b2)
one_more_turn code count t1 b1 t2 b2 x y = record {
  turns = λ at t b.
      let middle = moment (at + length b1) (t2 ++ t) (b2 ++ b) in
      let first : BlockTurns (code finished) (moment at (t1 ++ (t2 ++ t)) (b1 ++ (b2 ++ b))) middle = x.before finished at (t2 ++ t) (b2 ++ b) middle refl in
      let long : (at + length b1) + length b2 ≡ at + length (b1 ++ b2) = omega (arith, length-append b1 b2) in (
        middle,
        same_turns (code finished) middle refl (sym (append_assoc t1 t2 t)) (sym (append_assoc b1 b2 b)) first,
        subst (λ (k : ℕ). Repeats (BlockTurns (code finished)) count middle (moment k t b)) long (y.turns (at + length b1) t b),
      );
}

pub loop_goes : (count : ℕ) (body : Block) (tape bytes : List ℕ) → Turned body count tape bytes → Goes (λ rest. next (times count body) rest) tape bytes
loop_goes count body tape bytes turned = record { before = λ rest at t b n h. (moment (at + length bytes) t b, turned.turns at t b, h) }

-- a length, and as many turns
pub counted_goes : (most count : ℕ) (body : Block) (tape bytes : List ℕ) → count ≤ most → Turned body count tape bytes
    → Goes (λ rest. next (counted most body) rest) (count ∷ tape) (number_bytes 8 count ++ bytes)
counted_goes most count body tape bytes few turned = record {
  before = λ rest at t b n h.
      let size : length (number_bytes 8 count) ≡ 8 = number_length 0 8 count in
      let start = moment (at + 8) (tape ++ t) (bytes ++ b) in
      let end = moment (at + length (number_bytes 8 count ++ bytes)) t b in
      let long : (at + 8) + length bytes ≡ at + length (number_bytes 8 count ++ bytes) = omega (arith, length-append (number_bytes 8 count) bytes, size) in
      let moves : MovesNumber 8 0 (most + 1) count (moment at (count ∷ (tape ++ t)) ((number_bytes 8 count ++ bytes) ++ b)) start
      = record { at_least = omega arith; below = omega (arith, few); tape = refl; bytes = append_assoc (number_bytes 8 count) bytes b; at = refl } in
      let turns : Repeats (BlockTurns body) count start end = subst (λ (k : ℕ). Repeats (BlockTurns body) count start (moment k t b)) long (turned.turns (at + 8) t b) in
      (end, (count, start, moves, turns), h);
}

-- ---- values

mutual
  pub value_goes : (column : Column) (t : TheType) (d : Datum) → words_fit t ≡ true → has_type t d ≡ true → Goes (type_then column t) (value_tape t d) (value_bytes t d)
  value_goes column (scalar s) (number z) f h =
      number_goes (scalar_op column s) (scalar_size s) 0 (moved_below column s) (raw_of (scalar_bits s) z) (scalar_moves column s) (omega arith) (scalar_moved column s z h)
  value_goes column (enumeration n) (number z) f h =
      number_goes (enum_op column n) 4 0 (enum_moved_below column n) (raw_of 32 z) (enum_moves column n) (omega arith) (enum_moved column n z (leb-true n (2 ^ 32) f) h)
  value_goes column (structure ts) (fields ds) f h = fields_go column (greatest_align ts) 0 ts ds f h
  value_goes column (array n t) (elements ds) f h =
      let has = and_parts _ _ h in
      let turned = elements_turn column t ds f (has.1) in
      let count : count_of ds ≡ n = eqb-true (count_of ds) n (has.0) in
      loop_goes n (type_then column t finished) (elements_tape t ds) (elements_bytes t ds)
      (subst (λ (k : ℕ). Turned (type_then column t finished) k (elements_tape t ds) (elements_bytes t ds)) count turned)
  value_goes column (scalar s) (string b) f h = absurd (false≢true h)
  value_goes column (scalar s) (elements ds) f h = absurd (false≢true h)
  value_goes column (scalar s) (fields ds) f h = absurd (false≢true h)
  value_goes column (enumeration n) (string b) f h = absurd (false≢true h)
  value_goes column (enumeration n) (elements ds) f h = absurd (false≢true h)
  value_goes column (enumeration n) (fields ds) f h = absurd (false≢true h)
  value_goes column (structure ts) (number z) f h = absurd (false≢true h)
  value_goes column (structure ts) (string b) f h = absurd (false≢true h)
  value_goes column (structure ts) (elements ds) f h = absurd (false≢true h)
  value_goes column (array n t) (number z) f h = absurd (false≢true h)
  value_goes column (array n t) (string b) f h = absurd (false≢true h)
  value_goes column (array n t) (fields ds) f h = absurd (false≢true h)

  pub fields_go : (column : Column) (align at : ℕ) (ts : TheTypes) (ds : Data) → all_words_fit ts ≡ true → have_types ts ds ≡ true
      → Goes (fields_then column align at ts) (fields_tape ts ds) (fields_bytes align at ts ds)
  fields_go column align at no_more nothing_more f h = zeros_go column (padding at align)
  fields_go column align at (field t ts) (also d ds) f h =
      let few = and_parts _ _ f in
      let has = and_parts _ _ h in
      let after = round_up at (align_of t) + size_of t in
      goes_on (zeros_then column (padding at (align_of t))) (λ rest. type_then column t (fields_then column align after ts rest))
      [] (replicate (padding at (align_of t)) 0) (value_tape t d ++ fields_tape ts ds) (value_bytes t d ++ fields_bytes align after ts ds)
      (zeros_go column (padding at (align_of t)))
      (goes_on (type_then column t) (fields_then column align after ts) (value_tape t d) (value_bytes t d) (fields_tape ts ds) (fields_bytes align after ts ds)
      (value_goes column t d (few.0) (has.0)) (fields_go column align after ts ds (few.1) (has.1)))
  fields_go column align at no_more (also d ds) f h = absurd (false≢true h)
  fields_go column align at (field t ts) nothing_more f h = absurd (false≢true h)

  pub elements_turn : (column : Column) (t : TheType) (ds : Data) → words_fit t ≡ true → all_have_type t ds ≡ true
      → Turned (type_then column t finished) (count_of ds) (elements_tape t ds) (elements_bytes t ds)
  elements_turn column t nothing_more f h = no_turn (type_then column t finished)
  elements_turn column t (also d ds) f h =
      let has = and_parts _ _ h in
      let more = one_more_turn (type_then column t) (count_of ds) (value_tape t d) (value_bytes t d) (elements_tape t ds) (elements_bytes t ds)
      (value_goes column t d f (has.0)) (elements_turn column t ds f (has.1)) in
      let e : suc (count_of ds) ≡ 1 + count_of ds = omega arith in
      subst (λ (k : ℕ). Turned (type_then column t finished) k (value_tape t d ++ elements_tape t ds) (value_bytes t d ++ elements_bytes t ds)) e more

-- ---- strings

-- the bytes of a string, each by its low byte
abbrev pub text_bytes : List ℕ → List ℕ
text_bytes [] = []
text_bytes (x ∷ xs) = number_bytes 1 x ++ text_bytes xs

abbrev pub text_code : Column → Block → Block
text_code column rest = next (one (text_op column)) rest

pub byte_goes : (column : Column) (x : ℕ) → is_text_byte x ≡ true → Goes (text_code column) (x ∷ []) (number_bytes 1 x)
byte_goes Send x h = number_goes (text_op Send) 1 0 256 x refl (omega arith) (ltb-true x 256 ((and_parts _ _ h).1))
byte_goes Receive x h =
    let some : 0 < x = ltb-true 0 x ((and_parts _ _ h).0) in
    number_goes (text_op Receive) 1 1 256 x refl (omega (arith, some)) (ltb-true x 256 ((and_parts _ _ h).1))

pub text_turns : (column : Column) (xs : List ℕ) → list_all is_text_byte xs ≡ true → Turned (text_code column finished) (length xs) xs (text_bytes xs)
text_turns column [] h = no_turn (text_code column finished)
text_turns column (x ∷ xs) h =
    let has = and_parts _ _ h in
    one_more_turn (text_code column) (length xs) (x ∷ []) (number_bytes 1 x) xs (text_bytes xs) (byte_goes column x (has.0)) (text_turns column xs (has.1))
