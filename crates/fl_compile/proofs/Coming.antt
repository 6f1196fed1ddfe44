-- What receive code takes are values of its types, their tapes and their bytes.
use Rattle.std.proofs.Common.{◌≡◌, ℕ, pos, zero, suc, ◌+◌, ◌^◌, ◌<◌, ◌≤◌, true, false, Bool, eqb, cond, List, [], ◌∷◌, ◌++◌, length, replicate, refl, sym, ◌∙◌, ap, subst, arith, append_assoc}
use Rattle.std.specs.List.{list_all}
use Rattle.std.proofs.lemmas.List.{length-append, length-replicate}
use Rattle.std.proofs.lemmas.Bool.{and_parts, and_from, leb-true, lt-ltb, eqb-true, eq-eqb}
use Rattle.fl_interface.specs.Interface.{TheType, scalar, enumeration, structure, array, TheTypes, no_more, field}
use Rattle.fl_interface.specs.Sizes.{round_up, scalar_size, size_of, align_of, greatest_align}
use Rattle.fl_value_data.specs.Value.{Datum, number, elements, fields, Data, nothing_more, also}
use Rattle.fl_value_data.specs.Fits.{has_type, have_types, all_have_type, count_of, is_text_byte}
use Rattle.fl_value_data.specs.Tape.{value_tape, fields_tape, elements_tape}
use Rattle.fl_interface.specs.Counts.{words_fit, all_words_fit}
use Rattle.fl_stub.specs.declared.op.Op.{Op}
use Rattle.fl_stub.specs.declared.op.Column.{Column}
use Rattle.fl_stub.specs.declared.op.Column.TheVariants.{Receive}
use Rattle.fl_stub.specs.Structure.{Block, finished, next, one}
use Rattle.fl_stub.specs.Meaning.{StubMoment, number_bytes, OpMove, number as number_move, zeros as zeros_move, move_of, Moves, Repeats, BlockTurns}
use Rattle.fl_compile.specs.Compiled.{padding, scalar_op, enum_op, text_op, pad_op, zeros_then, type_then, fields_then}
use Rattle.fl_compile.proofs.Payloads.{number_length}
use Rattle.fl_compile.proofs.Numerals.{how_many, scalar_moves, scalar_from, enum_moves, enum_from}
use Rattle.fl_compile.proofs.Encoded.{value_bytes, fields_bytes, elements_bytes}
use Rattle.fl_compile.proofs.Turning.{moment, pad_moves, text_code, text_bytes}

-- a tape and bytes stand at a moment, before what the rest of the code takes
pub record Leaves (rest : Block) (tape bytes : List ℕ) (m n : StubMoment) : Type 0 where
  pub t : List ℕ
  pub b : List ℕ
  pub tape_is : m.tape ≡ tape ++ t
  pub bytes_are : m.bytes ≡ bytes ++ b
  pub turns : BlockTurns rest (moment (m.at + length bytes) t b) n

-- moments are told by their three parts
moment_is : (m : StubMoment) (at : ℕ) → m.at ≡ at → m ≡ moment at m.tape m.bytes
moment_is m at e = ap (λ (k : ℕ). moment k m.tape m.bytes) e

-- a middle that leaves, with the place where it is
pub leaves_at : (rest : Block) (tape bytes : List ℕ) (m l n : StubMoment) → m.tape ≡ tape ++ l.tape → m.bytes ≡ bytes ++ l.bytes → l.at ≡ m.at + length bytes
    → BlockTurns rest l n → Leaves rest tape bytes m n
leaves_at rest tape bytes m l n p q r h = record {
  t = l.tape;
  b = l.bytes;
  tape_is = p;
  bytes_are = q;
  turns = subst (λ (x : StubMoment). BlockTurns rest x n) (moment_is l (m.at + length bytes) r) h;
}

-- one after another
pub leaves_on : (g : Block → Block) (rest : Block) (t1 b1 t2 b2 : List ℕ) (m n : StubMoment) (x : Leaves (g rest) t1 b1 m n)
    → Leaves rest t2 b2 (moment (m.at + length b1) x.t x.b) n → Leaves rest (t1 ++ t2) (b1 ++ b2) m n
leaves_on g rest t1 b1 t2 b2 m n x y = record {
  t = y.t;
  b = y.b;
  tape_is = x.tape_is ∙ ap (λ (l : List ℕ). t1 ++ l) y.tape_is ∙ sym (append_assoc t1 t2 y.t);
  bytes_are = x.bytes_are ∙ ap (λ (l : List ℕ). b1 ++ l) y.bytes_are ∙ sym (append_assoc b1 b2 y.b);
  turns = let long : (m.at + length b1) + length b2 ≡ m.at + length (b1 ++ b2) = omega (arith, length-append b1 b2) in
      subst (λ (k : ℕ). BlockTurns rest (moment k y.t y.b) n) long y.turns;
}

-- ---- single instructions

-- a number within the instruction's bounds
pub record NumberLeaves (rest : Block) (width least bound : ℕ) (m n : StubMoment) : Type 0 where
  pub x : ℕ
  pub low : least ≤ x
  pub high : x < bound
  pub leaves : Leaves rest (x ∷ []) (number_bytes width x) m n

pub number_comes : (op : Op) (width least bound : ℕ) (rest : Block) (m n : StubMoment) → move_of op ≡ number_move width least bound
    → BlockTurns (next (one op) rest) m n → NumberLeaves rest width least bound m n
number_comes op width least bound rest m n is (l, moves, h) =
    let (x, moved) = subst (λ (v : OpMove). Moves v m l) is moves in
    record {
      x = x;
      low = moved.at_least;
      high = moved.below;
      leaves = leaves_at rest (x ∷ []) (number_bytes width x) m l n moved.tape moved.bytes (moved.at ∙ ap (λ (k : ℕ). m.at + k) (sym (number_length 0 width x))) h;
    }

pub zero_comes : (op : Op) (count : ℕ) (rest : Block) (m n : StubMoment) → move_of op ≡ zeros_move count → BlockTurns (next (one op) rest) m n
    → Leaves rest [] (replicate count 0) m n
zero_comes op count rest m n is (l, moves, h) =
    let moved = subst (λ (v : OpMove). Moves v m l) is moves in
    leaves_at rest [] (replicate count 0) m l n moved.tape moved.bytes (moved.at ∙ ap (λ (k : ℕ). m.at + k) (sym (length-replicate {A = ℕ} count 0))) h

nothing_comes : (rest : Block) (m n : StubMoment) → BlockTurns rest m n → Leaves rest [] [] m n
nothing_comes rest m n h = leaves_at rest [] [] m m n refl refl (omega arith) h

zeros_by : (column : Column) (count : ℕ) (rest : Block) (m n : StubMoment) (none : Bool) → eqb count 0 ≡ none
    → BlockTurns (cond none rest (next (one (pad_op column count)) rest)) m n → Leaves rest [] (replicate count 0) m n
zeros_by column count rest m n true e h = subst (λ (k : ℕ). Leaves rest [] (replicate k 0) m n) (sym (eqb-true count 0 e)) (nothing_comes rest m n h)
zeros_by column count rest m n false e h = zero_comes (pad_op column count) count rest m n (pad_moves column count) h

pub zeros_come : (column : Column) (count : ℕ) (rest : Block) (m n : StubMoment) → BlockTurns (zeros_then column count rest) m n → Leaves rest [] (replicate count 0) m n
zeros_come column count rest m n h = zeros_by column count rest m n (eqb count 0) refl h

-- ---- values

-- a value of a type, and what follows it
pub record ValueComes (t : TheType) (rest : Block) (m n : StubMoment) : Type 0 where
  pub d : Datum
  pub typed : has_type t d ≡ true
  pub leaves : Leaves rest (value_tape t d) (value_bytes t d) m n

pub record FieldsCome (align at : ℕ) (ts : TheTypes) (rest : Block) (m n : StubMoment) : Type 0 where
  pub ds : Data
  pub typed : have_types ts ds ≡ true
  pub leaves : Leaves rest (fields_tape ts ds) (fields_bytes align at ts ds) m n

-- so many elements, after which a moment is
pub record ElementsCome (t : TheType) (count : ℕ) (m n : StubMoment) : Type 0 where
  pub ds : Data
  pub many : count_of ds ≡ count
  pub typed : all_have_type t ds ≡ true
  pub tape_is : m.tape ≡ elements_tape t ds ++ n.tape
  pub bytes_are : m.bytes ≡ elements_bytes t ds ++ n.bytes
  pub at : n.at ≡ m.at + length (elements_bytes t ds)

-- after one turn of a loop
pub turn_ends : (tape bytes : List ℕ) (m n : StubMoment) → Leaves finished tape bytes m n
    → (m.tape ≡ tape ++ n.tape) × (m.bytes ≡ bytes ++ n.bytes) × (n.at ≡ m.at + length bytes)
turn_ends tape bytes m n x =
    let same : moment (m.at + length bytes) x.t x.b ≡ n = x.turns in (
      x.tape_is ∙ ap (λ (l : StubMoment). tape ++ l.tape) same,
      x.bytes_are ∙ ap (λ (l : StubMoment). bytes ++ l.bytes) same,
      sym (ap (λ (l : StubMoment). l.at) same),
    )

-- elements come where each value does
elements_by : (t : TheType) → ((m n : StubMoment) → BlockTurns (type_then Receive t finished) m n → ValueComes t finished m n)
    → (count : ℕ) (m n : StubMoment) → Repeats (BlockTurns (type_then Receive t finished)) count m n → ElementsCome t count m n
elements_by t comes zero m n same = record {
  ds = nothing_more;
  many = refl;
  typed = refl;
  tape_is = ap (λ (l : StubMoment). l.tape) same;
  bytes_are = ap (λ (l : StubMoment). l.bytes) same;
  at = let e : n.at ≡ m.at = sym (ap (λ (l : StubMoment). l.at) same) in omega (arith, e);
}
elements_by t comes (suc count) m n (l, turn, turns) =
    let x = comes m l turn in
    let e = turn_ends (value_tape t x.d) (value_bytes t x.d) m l x.leaves in
    let y = elements_by t comes count l n turns in
    let own = value_bytes t x.d in
    record {
      ds = also x.d y.ds;
      many = omega (arith, y.many);
      typed = and_from _ _ x.typed y.typed;
      tape_is = e.0 ∙ ap (λ (r : List ℕ). value_tape t x.d ++ r) y.tape_is ∙ sym (append_assoc (value_tape t x.d) (elements_tape t y.ds) n.tape);
      bytes_are = e.1 ∙ ap (λ (r : List ℕ). own ++ r) y.bytes_are ∙ sym (append_assoc own (elements_bytes t y.ds) n.bytes);
      at = omega (arith, e.2, y.at, length-append own (elements_bytes t y.ds));
    }

mutual
  pub value_comes : (t : TheType) (rest : Block) (m n : StubMoment) → words_fit t ≡ true → BlockTurns (type_then Receive t rest) m n → ValueComes t rest m n
  value_comes (scalar s) rest m n f h =
      let moved = number_comes (scalar_op Receive s) (scalar_size s) 0 (how_many s) rest m n (scalar_moves Receive s) h in
      let found = scalar_from s moved.x moved.high in
      record {
        d = number found.z;
        typed = found.typed;
        leaves = subst (λ (x : ℕ). Leaves rest (x ∷ []) (number_bytes (scalar_size s) x) m n) (sym found.bits_are) moved.leaves;
      }
  value_comes (enumeration count) rest m n f h =
      let moved = number_comes (enum_op Receive count) 4 0 count rest m n (enum_moves Receive count) h in
      let found = enum_from count moved.x (leb-true count (2 ^ 32) f) moved.high in
      record {
        d = number (pos moved.x);
        typed = found.0;
        leaves = subst (λ (x : ℕ). Leaves rest (x ∷ []) (number_bytes 4 x) m n) (sym found.1) moved.leaves;
      }
  value_comes (structure ts) rest m n f h =
      let came = fields_come (greatest_align ts) 0 ts rest m n f h in
      record { d = fields came.ds; typed = came.typed; leaves = came.leaves }
  value_comes (array count t) rest m n f (l, turns, h) =
      let came = elements_by t (λ m n h. value_comes t finished m n f h) count m l turns in
      record {
        d = elements came.ds;
        typed = and_from _ _ (eq-eqb (count_of came.ds) count came.many) came.typed;
        leaves = leaves_at rest (elements_tape t came.ds) (elements_bytes t came.ds) m l n came.tape_is came.bytes_are came.at h;
      }

  pub fields_come : (align at : ℕ) (ts : TheTypes) (rest : Block) (m n : StubMoment) → all_words_fit ts ≡ true → BlockTurns (fields_then Receive align at ts rest) m n
      → FieldsCome align at ts rest m n
  fields_come align at no_more rest m n f h = record { ds = nothing_more; typed = refl; leaves = zeros_come Receive (padding at align) rest m n h }
  fields_come align at (field t ts) rest m n f h =
      let few = and_parts _ _ f in
      let pad = padding at (align_of t) in
      let after = round_up at (align_of t) + size_of t in
      let others = fields_then Receive align after ts rest in
      let zeros : List ℕ = replicate pad 0 in
      let x = zeros_come Receive pad (type_then Receive t others) m n h in
      let m1 = moment (m.at + length zeros) x.t x.b in
      let y = value_comes t others m1 n (few.0) x.turns in
      let m2 = moment (m1.at + length (value_bytes t y.d)) y.leaves.t y.leaves.b in
      let z = fields_come align after ts rest m2 n (few.1) y.leaves.turns in
      let yz = leaves_on (fields_then Receive align after ts) rest (value_tape t y.d) (value_bytes t y.d) (fields_tape ts z.ds) (fields_bytes align after ts z.ds) m1 n y.leaves z.leaves in
      record {
        ds = also y.d z.ds;
        typed = and_from _ _ y.typed z.typed;
        leaves = leaves_on (λ b. type_then Receive t (fields_then Receive align after ts b)) rest [] zeros (value_tape t y.d ++ fields_tape ts z.ds) (value_bytes t y.d ++ fields_bytes align after ts z.ds) m n x yz;
      }

pub elements_come : (t : TheType) (count : ℕ) (m n : StubMoment) → words_fit t ≡ true → Repeats (BlockTurns (type_then Receive t finished)) count m n → ElementsCome t count m n
elements_come t count m n f turns = elements_by t (λ m n h. value_comes t finished m n f h) count m n turns

-- ---- strings

-- so many bytes of a string, after which a moment is
pub record TextComes (count : ℕ) (m n : StubMoment) : Type 0 where
  pub xs : List ℕ
  pub many : length xs ≡ count
  pub typed : list_all is_text_byte xs ≡ true
  pub tape_is : m.tape ≡ xs ++ n.tape
  pub bytes_are : m.bytes ≡ text_bytes xs ++ n.bytes
  pub at : n.at ≡ m.at + length (text_bytes xs)

pub text_comes : (count : ℕ) (m n : StubMoment) → Repeats (BlockTurns (text_code Receive finished)) count m n → TextComes count m n
text_comes zero m n same = record {
  xs = [];
  many = refl;
  typed = refl;
  tape_is = ap (λ (l : StubMoment). l.tape) same;
  bytes_are = ap (λ (l : StubMoment). l.bytes) same;
  at = let e : n.at ≡ m.at = sym (ap (λ (l : StubMoment). l.at) same) in omega (arith, e);
}
text_comes (suc count) m n (l, turn, turns) =
    let x = number_comes (text_op Receive) 1 1 256 finished m l refl turn in
    let e = turn_ends (x.x ∷ []) (number_bytes 1 x.x) m l x.leaves in
    let y = text_comes count l n turns in
    let own = number_bytes 1 x.x in
    record {
      xs = x.x ∷ y.xs;
      many = omega (arith, y.many);
      typed = and_from _ _ (and_from _ _ (lt-ltb 0 x.x (omega (arith, x.low))) (lt-ltb x.x 256 x.high)) y.typed;
      tape_is = e.0 ∙ ap (λ (r : List ℕ). x.x ∷ r) y.tape_is;
      bytes_are = e.1 ∙ ap (λ (r : List ℕ). own ++ r) y.bytes_are ∙ sym (append_assoc own (text_bytes y.xs) n.bytes);
      at = omega (arith, e.2, y.at, length-append own (text_bytes y.xs));
    }
