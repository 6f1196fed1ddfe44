-- What stands at each byte of a call, by structure, and that the call's code has these marks, in both columns.
use Rattle.std.proofs.Common.{◌≡◌, ℕ, suc, ◌+◌, true, false, Bool, eqb, cond, List, [], ◌∷◌, ◌++◌, map, length, replicate, refl, sym, ◌∙◌, ap, subst, arith, append_assoc}
use Rattle.std.specs.List.{list_all, flat_map}
use Rattle.std.proofs.lemmas.List.{length-append, length-replicate, append-nil}
use Rattle.std.proofs.lemmas.Bool.{and_parts, eqb-true, false≢true}
use Rattle.fl_interface.specs.Interface.{TheType, scalar, enumeration, structure, array, TheTypes, no_more, field, TheArgType, fixed, text, sized}
use Rattle.fl_interface.specs.Sizes.{round_up, scalar_size, size_of, align_of, greatest_align}
use Rattle.fl_interface.proofs.Aligned.{type_align}
use Rattle.fl_value_data.specs.Value.{Datum, number, string, elements, fields, Data, nothing_more, also}
use Rattle.fl_value_data.specs.Fits.{has_type, have_types, all_have_type, count_of, scalar_bits, is_argument}
use Rattle.fl_value_data.specs.Plan.{is_dynamic}
use Rattle.fl_value_data.specs.Tape.{raw_of, value_tape, fields_tape, elements_tape, argument_tape, Argument, kind, tape_of_argument}
use Rattle.fl_stub.specs.declared.mark.ByteKind.{ByteKind}
use Rattle.fl_stub.specs.declared.mark.ByteKind.TheVariants.{Length, Number, Zero}
use Rattle.fl_stub.specs.declared.op.Op.{Op}
use Rattle.fl_stub.specs.declared.op.Op.TheVariants.{Align}
use Rattle.fl_stub.specs.declared.op.Column.{Column}
use Rattle.fl_stub.specs.declared.op.Column.TheVariants.{Send, Receive}
use Rattle.fl_stub.specs.Structure.{Piece, one, times, counted, Block, finished, next}
use Rattle.fl_stub.specs.Meaning.{number_bytes, OpMove, number as number_move, zeros as zeros_move, move_of}
use Rattle.fl_stub.specs.Given.{Giver, move_given, turns_given, piece_given, block_given}
use Rattle.fl_stub.specs.Marks.{move_marks, turns_marks, piece_marks, block_marks}
use Rattle.fl_compile.specs.declared.arguments.ArgOffset.{ArgOffset}
use Rattle.fl_compile.specs.declared.arguments.ArgOffset.TheVariants.{At, AfterDynamic}
use Rattle.fl_compile.specs.Compiled.{padding, scalar_op, enum_op, text_op, pad_op, zeros_then, type_then, fields_then, start_then, arguments_block}
use Rattle.fl_compile.proofs.Paddings.{padding_same, gap_is_padding}
use Rattle.fl_compile.proofs.Payloads.{number_length}
use Rattle.fl_compile.proofs.Numerals.{moved_below, scalar_moves, enum_moved_below, enum_moves}
use Rattle.fl_compile.proofs.Encoded.{value_bytes, fields_bytes, elements_bytes}
use Rattle.fl_compile.proofs.Turning.{text_bytes, text_code, pad_moves}
use Rattle.fl_compile.proofs.Placing.{begins_at, placed_bytes, is_sound, StandsAt, standing_after, stands_after, placed_end}

-- ---- the marks

abbrev mutual
  -- those of a value, from a multiple of its type's alignment on
  pub value_marks : TheType → Datum → List ByteKind
  value_marks (scalar s) (number z) = replicate (scalar_size s) Number
  value_marks (enumeration n) (number z) = replicate 4 Number
  value_marks (structure ts) (fields ds) = fields_marks (greatest_align ts) 0 ts ds
  value_marks (array n t) (elements ds) = elements_marks t ds
  value_marks t d = []

  -- those of the last fields of a struct, up to its end
  pub fields_marks : ℕ → ℕ → TheTypes → Data → List ByteKind
  fields_marks align at (field t ts) (also d ds) =
      replicate (padding at (align_of t)) Zero ++ (value_marks t d ++ fields_marks align (round_up at (align_of t) + size_of t) ts ds)
  fields_marks align at ts ds = replicate (padding at align) Zero

  pub elements_marks : TheType → Data → List ByteKind
  elements_marks t nothing_more = []
  elements_marks t (also d ds) = value_marks t d ++ elements_marks t ds

abbrev pub text_marks : List ℕ → List ByteKind
text_marks [] = []
text_marks (x ∷ xs) = replicate 1 Number ++ text_marks xs

-- those of an argument, with one mark for all lengths
abbrev pub argument_marks : ByteKind → TheArgType → Datum → List ByteKind
argument_marks long (fixed t) d = value_marks t d
argument_marks long (text most) (string xs) = replicate 8 long ++ text_marks xs
argument_marks long (sized most t) (elements ds) = replicate 8 long ++ elements_marks t ds
argument_marks long t d = []

-- an argument and the zeros before it, from a place on
abbrev pub placed_marks : ByteKind → Bool → ℕ → TheArgType → Datum → List ByteKind
placed_marks long after at t d = replicate (padding at (begins_at after t)) Zero ++ argument_marks long t d

abbrev pub arguments_marks : Bool → ℕ → List Argument → List ByteKind
arguments_marks after at [] = []
arguments_marks after at (a ∷ args) =
    placed_marks Length after at a.0 a.1 ++ arguments_marks (is_dynamic a.0) (at + length (placed_bytes after at a.0 a.1)) args

-- ---- code with marks

-- code at a place, with a tape, has these marks, and then those of other code at its place, with its tape
pub record Marks (b : Block) (at : ℕ) (tape : List ℕ) (marks : List ByteKind) (b2 : Block) (at2 : ℕ) (tape2 : List ℕ) : Type 0 where
  pub marks_are : block_marks b at tape ≡ marks ++ block_marks b2 at2 tape2
  pub at_is : (block_given b at tape).at ≡ (block_given b2 at2 tape2).at
  pub tape_is : (block_given b at tape).tape ≡ (block_given b2 at2 tape2).tape

marks_then : (b b2 b3 : Block) (at at2 at3 : ℕ) (t t2 t3 : List ℕ) (m m2 : List ByteKind) → Marks b at t m b2 at2 t2 → Marks b2 at2 t2 m2 b3 at3 t3 → Marks b at t (m ++ m2) b3 at3 t3
marks_then b b2 b3 at at2 at3 t t2 t3 m m2 x y = record {
  marks_are = x.marks_are ∙ ap (λ (r : List ByteKind). m ++ r) y.marks_are ∙ sym (append_assoc m m2 (block_marks b3 at3 t3));
  at_is = x.at_is ∙ y.at_is;
  tape_is = x.tape_is ∙ y.tape_is;
}

-- a piece that comes to a place and a tape
piece_marked : (p : Piece) (rest : Block) (at : ℕ) (t : List ℕ) (marks : List ByteKind) (at2 : ℕ) (t2 : List ℕ)
    → piece_marks p at t ≡ marks → (piece_given p at t).at ≡ at2 → (piece_given p at t).tape ≡ t2 → Marks (next p rest) at t marks rest at2 t2
piece_marked p rest at t marks at2 t2 e f g =
    let end = (piece_given p at t).tape in
    record {
      marks_are = ap (λ (r : List ByteKind). r ++ block_marks rest (piece_given p at t).at end) e
          ∙ ap (λ (k : ℕ). marks ++ block_marks rest k end) f
          ∙ ap (λ (r : List ℕ). marks ++ block_marks rest at2 r) g;
      at_is = ap (λ (k : ℕ). (block_given rest k end).at) f ∙ ap (λ (r : List ℕ). (block_given rest at2 r).at) g;
      tape_is = ap (λ (k : ℕ). (block_given rest k end).tape) f ∙ ap (λ (r : List ℕ). (block_given rest at2 r).tape) g;
    }

-- code, given with what follows it, turns a tape into as many bytes, with these marks, before whatever follows
pub record IsMarked (code : Block → Block) (tape bytes : List ℕ) (marks : List ByteKind) : Type 0 where
  pub before : (rest : Block) (at : ℕ) (t : List ℕ) → Marks (code rest) at (tape ++ t) marks rest (at + length bytes) t

-- one after another
pub marked_on : (f g : Block → Block) (t1 b1 t2 b2 : List ℕ) (m1 m2 : List ByteKind) → IsMarked f t1 b1 m1 → IsMarked g t2 b2 m2
    → IsMarked (λ rest. f (g rest)) (t1 ++ t2) (b1 ++ b2) (m1 ++ m2)
marked_on f g t1 b1 t2 b2 m1 m2 x y = record {
  before = λ rest at t.
      let long : (at + length b1) + length b2 ≡ at + length (b1 ++ b2) = omega (arith, length-append b1 b2) in
      let both = marks_then (f (g rest)) (g rest) rest at (at + length b1) ((at + length b1) + length b2) (t1 ++ (t2 ++ t)) (t2 ++ t) t m1 m2
      (x.before (g rest) at (t2 ++ t)) (y.before rest (at + length b1) t) in
      subst (λ (ts : List ℕ). Marks (f (g rest)) at ts (m1 ++ m2) rest (at + length (b1 ++ b2)) t) (sym (append_assoc t1 t2 t))
      (subst (λ (k : ℕ). Marks (f (g rest)) at (t1 ++ (t2 ++ t)) (m1 ++ m2) rest k t) long both);
}

-- ---- single instructions

number_marked : (op : Op) (width least bound x : ℕ) → move_of op ≡ number_move width least bound
    → IsMarked (λ rest. next (one op) rest) (x ∷ []) (number_bytes width x) (replicate width Number)
number_marked op width least bound x is = record {
  before = λ rest at t.
      let long : at + width ≡ at + length (number_bytes width x) = ap (λ (k : ℕ). at + k) (sym (number_length 0 width x)) in
      piece_marked (one op) rest at (x ∷ t) (replicate width Number) (at + length (number_bytes width x)) t
      (ap (λ (v : OpMove). move_marks v at) is) (ap (λ (v : OpMove). (move_given v at (x ∷ t)).at) is ∙ long) (ap (λ (v : OpMove). (move_given v at (x ∷ t)).tape) is);
}

zero_marked : (op : Op) (count : ℕ) → move_of op ≡ zeros_move count → IsMarked (λ rest. next (one op) rest) [] (replicate count 0) (replicate count Zero)
zero_marked op count is = record {
  before = λ rest at t.
      let long : at + count ≡ at + length (replicate {A = ℕ} count 0) = ap (λ (k : ℕ). at + k) (sym (length-replicate {A = ℕ} count 0)) in
      piece_marked (one op) rest at t (replicate count Zero) (at + length (replicate {A = ℕ} count 0)) t
      (ap (λ (v : OpMove). move_marks v at) is) (ap (λ (v : OpMove). (move_given v at t).at) is ∙ long) (ap (λ (v : OpMove). (move_given v at t).tape) is);
}

nothing_marked : IsMarked (λ rest. rest) [] [] []
nothing_marked = record {
  before = λ rest at t.
      let e : at ≡ at + 0 = omega arith in
      let same : Marks rest at t [] rest at t = record { marks_are = refl; at_is = refl; tape_is = refl } in
      subst (λ (k : ℕ). Marks rest at t [] rest k t) e same;
}

zeros_by : (column : Column) (count : ℕ) (none : Bool) → eqb count 0 ≡ none
    → IsMarked (λ rest. cond none rest (next (one (pad_op column count)) rest)) [] (replicate count 0) (replicate count Zero)
zeros_by column count true e = subst (λ (k : ℕ). IsMarked (λ rest. rest) [] (replicate k 0) (replicate k Zero)) (sym (eqb-true count 0 e)) nothing_marked
zeros_by column count false e = zero_marked (pad_op column count) count (pad_moves column count)

zeros_marked : (column : Column) (count : ℕ) → IsMarked (zeros_then column count) [] (replicate count 0) (replicate count Zero)
zeros_marked column count = zeros_by column count (eqb count 0) refl

-- ---- loops

-- so many turns of a loop turn a tape into as many bytes, with these marks
pub record TurnsMarked (body : Block) (count : ℕ) (tape bytes : List ℕ) (marks : List ByteKind) : Type 0 where
  pub marks_are : (at : ℕ) (t : List ℕ) → turns_marks (block_given body) (block_marks body) count at (tape ++ t) ≡ marks
  pub at_is : (at : ℕ) (t : List ℕ) → (turns_given (block_given body) count at (tape ++ t)).at ≡ at + length bytes
  pub tape_is : (at : ℕ) (t : List ℕ) → (turns_given (block_given body) count at (tape ++ t)).tape ≡ t

no_turn : (body : Block) → TurnsMarked body 0 [] [] []
no_turn body = record { marks_are = λ at t. refl; at_is = λ at t. let e : at ≡ at + 0 = omega arith in e; tape_is = λ at t. refl }

-- a turn and those after it, by where the turn comes to
turn_first : (f : Giver) (g : ℕ → List ℕ → List ByteKind) (count at : ℕ) (t : List ℕ) (at2 : ℕ) (t2 : List ℕ) (m : List ByteKind)
    → g at t ≡ m → (f at t).at ≡ at2 → (f at t).tape ≡ t2
    → (turns_marks f g (suc count) at t ≡ m ++ turns_marks f g count at2 t2)
    × ((turns_given f (suc count) at t).at ≡ (turns_given f count at2 t2).at)
    × ((turns_given f (suc count) at t).tape ≡ (turns_given f count at2 t2).tape)
turn_first f g count at t at2 t2 m e a b = (
  ap (λ (r : List ByteKind). r ++ turns_marks f g count (f at t).at (f at t).tape) e
      ∙ ap (λ (k : ℕ). m ++ turns_marks f g count k (f at t).tape) a
      ∙ ap (λ (r : List ℕ). m ++ turns_marks f g count at2 r) b,
  ap (λ (k : ℕ). (turns_given f count k (f at t).tape).at) a ∙ ap (λ (r : List ℕ). (turns_given f count at2 r).at) b,
  ap (λ (k : ℕ). (turns_given f count k (f at t).tape).tape) a ∙ ap (λ (r : List ℕ). (turns_given f count at2 r).tape) b,
)

one_more_turn : (code : Block → Block) (count : ℕ) (t1 b1 t2 b2 : List ℕ) (m1 m2 : List ByteKind) → IsMarked code t1 b1 m1 → TurnsMarked (code finished) count t2 b2 m2
    → TurnsMarked (code finished) (suc count) (t1 ++ t2) (b1 ++ b2) (m1 ++ m2)
one_more_turn code count t1 b1 t2 b2 m1 m2 x y =
    let f = block_given (code finished) in
    let g = block_marks (code finished) in
    let first : (at : ℕ) (t : List ℕ) → _ = λ at t.
    let own = x.before finished at (t2 ++ t) in
    turn_first f g count at (t1 ++ (t2 ++ t)) (at + length b1) (t2 ++ t) m1 (own.marks_are ∙ append-nil m1) own.at_is own.tape_is in
    record {
      marks_are = λ at t. ap (turns_marks f g (suc count) at) (append_assoc t1 t2 t) ∙ (first at t).0 ∙ ap (λ (r : List ByteKind). m1 ++ r) (y.marks_are (at + length b1) t);
      at_is = λ at t.
          let long : (at + length b1) + length b2 ≡ at + length (b1 ++ b2) = omega (arith, length-append b1 b2) in
          ap (λ (r : List ℕ). (turns_given f (suc count) at r).at) (append_assoc t1 t2 t) ∙ (first at t).1 ∙ y.at_is (at + length b1) t ∙ long;
      tape_is = λ at t. ap (λ (r : List ℕ). (turns_given f (suc count) at r).tape) (append_assoc t1 t2 t) ∙ (first at t).2 ∙ y.tape_is (at + length b1) t;
    }

loop_marked : (count : ℕ) (body : Block) (tape bytes : List ℕ) (marks : List ByteKind) → TurnsMarked body count tape bytes marks
    → IsMarked (λ rest. next (times count body) rest) tape bytes marks
loop_marked count body tape bytes marks turned = record {
  before = λ rest at t. piece_marked (times count body) rest at (tape ++ t) marks (at + length bytes) t (turned.marks_are at t) (turned.at_is at t) (turned.tape_is at t);
}

-- a length, and as many turns
counted_marked : (most count : ℕ) (body : Block) (tape bytes : List ℕ) (marks : List ByteKind) → TurnsMarked body count tape bytes marks
    → IsMarked (λ rest. next (counted most body) rest) (count ∷ tape) (number_bytes 8 count ++ bytes) (replicate 8 Length ++ marks)
counted_marked most count body tape bytes marks turned = record {
  before = λ rest at t.
      let size : length (number_bytes 8 count) ≡ 8 = number_length 0 8 count in
      let long : (at + 8) + length bytes ≡ at + length (number_bytes 8 count ++ bytes) = omega (arith, length-append (number_bytes 8 count) bytes, size) in
      piece_marked (counted most body) rest at (count ∷ (tape ++ t)) (replicate 8 Length ++ marks) (at + length (number_bytes 8 count ++ bytes)) t
      (ap (λ (r : List ByteKind). replicate 8 Length ++ r) (turned.marks_are (at + 8) t)) (turned.at_is (at + 8) t ∙ long) (turned.tape_is (at + 8) t);
}

-- ---- values

mutual
  value_marked : (column : Column) (t : TheType) (d : Datum) → has_type t d ≡ true → IsMarked (type_then column t) (value_tape t d) (value_bytes t d) (value_marks t d)
  value_marked column (scalar s) (number z) h =
      number_marked (scalar_op column s) (scalar_size s) 0 (moved_below column s) (raw_of (scalar_bits s) z) (scalar_moves column s)
  value_marked column (enumeration n) (number z) h = number_marked (enum_op column n) 4 0 (enum_moved_below column n) (raw_of 32 z) (enum_moves column n)
  value_marked column (structure ts) (fields ds) h = fields_marked column (greatest_align ts) 0 ts ds h
  value_marked column (array n t) (elements ds) h =
      let has = and_parts _ _ h in
      let body = type_then column t finished in
      let count : count_of ds ≡ n = eqb-true (count_of ds) n (has.0) in
      loop_marked n body (elements_tape t ds) (elements_bytes t ds) (elements_marks t ds)
      (subst (λ (k : ℕ). TurnsMarked body k (elements_tape t ds) (elements_bytes t ds) (elements_marks t ds)) count (elements_marked column t ds (has.1)))
  value_marked column (scalar s) (string b) h = absurd (false≢true h)
  value_marked column (scalar s) (elements ds) h = absurd (false≢true h)
  value_marked column (scalar s) (fields ds) h = absurd (false≢true h)
  value_marked column (enumeration n) (string b) h = absurd (false≢true h)
  value_marked column (enumeration n) (elements ds) h = absurd (false≢true h)
  value_marked column (enumeration n) (fields ds) h = absurd (false≢true h)
  value_marked column (structure ts) (number z) h = absurd (false≢true h)
  value_marked column (structure ts) (string b) h = absurd (false≢true h)
  value_marked column (structure ts) (elements ds) h = absurd (false≢true h)
  value_marked column (array n t) (number z) h = absurd (false≢true h)
  value_marked column (array n t) (string b) h = absurd (false≢true h)
  value_marked column (array n t) (fields ds) h = absurd (false≢true h)

  fields_marked : (column : Column) (align at : ℕ) (ts : TheTypes) (ds : Data) → have_types ts ds ≡ true
      → IsMarked (fields_then column align at ts) (fields_tape ts ds) (fields_bytes align at ts ds) (fields_marks align at ts ds)
  fields_marked column align at no_more nothing_more h = zeros_marked column (padding at align)
  fields_marked column align at (field t ts) (also d ds) h =
      let has = and_parts _ _ h in
      let pad = padding at (align_of t) in
      let after = round_up at (align_of t) + size_of t in
      marked_on (zeros_then column pad) (λ rest. type_then column t (fields_then column align after ts rest))
      [] (replicate pad 0) (value_tape t d ++ fields_tape ts ds) (value_bytes t d ++ fields_bytes align after ts ds) (replicate pad Zero) (value_marks t d ++ fields_marks align after ts ds)
      (zeros_marked column pad)
      (marked_on (type_then column t) (fields_then column align after ts) (value_tape t d) (value_bytes t d) (fields_tape ts ds) (fields_bytes align after ts ds) (value_marks t d) (fields_marks align after ts ds)
      (value_marked column t d (has.0)) (fields_marked column align after ts ds (has.1)))
  fields_marked column align at no_more (also d ds) h = absurd (false≢true h)
  fields_marked column align at (field t ts) nothing_more h = absurd (false≢true h)

  elements_marked : (column : Column) (t : TheType) (ds : Data) → all_have_type t ds ≡ true
      → TurnsMarked (type_then column t finished) (count_of ds) (elements_tape t ds) (elements_bytes t ds) (elements_marks t ds)
  elements_marked column t nothing_more h = no_turn (type_then column t finished)
  elements_marked column t (also d ds) h =
      let has = and_parts _ _ h in
      let more = one_more_turn (type_then column t) (count_of ds) (value_tape t d) (value_bytes t d) (elements_tape t ds) (elements_bytes t ds) (value_marks t d) (elements_marks t ds)
      (value_marked column t d (has.0)) (elements_marked column t ds (has.1)) in
      let e : suc (count_of ds) ≡ 1 + count_of ds = omega arith in
      subst (λ (k : ℕ). TurnsMarked (type_then column t finished) k (value_tape t d ++ elements_tape t ds) (value_bytes t d ++ elements_bytes t ds) (value_marks t d ++ elements_marks t ds)) e more

-- ---- strings

byte_marked : (column : Column) (x : ℕ) → IsMarked (text_code column) (x ∷ []) (number_bytes 1 x) (replicate 1 Number)
byte_marked Send x = number_marked (text_op Send) 1 0 256 x refl
byte_marked Receive x = number_marked (text_op Receive) 1 1 256 x refl

text_marked : (column : Column) (xs : List ℕ) → TurnsMarked (text_code column finished) (length xs) xs (text_bytes xs) (text_marks xs)
text_marked column [] = no_turn (text_code column finished)
text_marked column (x ∷ xs) =
    one_more_turn (text_code column) (length xs) (x ∷ []) (number_bytes 1 x) xs (text_bytes xs) (replicate 1 Number) (text_marks xs) (byte_marked column x) (text_marked column xs)

-- ---- arguments

align_marked : (rest : Block) (at : ℕ) (t : List ℕ) → Marks (next (one Align) rest) at t (replicate (padding at 8) Zero) rest (at + padding at 8) t
align_marked rest at t =
    piece_marked (one Align) rest at t (replicate (padding at 8) Zero) (at + padding at 8) t
    (ap (λ (k : ℕ). replicate k Zero) (gap_is_padding at)) (ap (λ (k : ℕ). at + k) (gap_is_padding at)) refl

start_marked : (column : Column) (standing : ArgOffset) (after : Bool) (at : ℕ) (ty : TheType) → StandsAt standing after at → (rest : Block) (t : List ℕ)
    → Marks (start_then column standing (align_of ty) rest) at t (replicate (padding at (begins_at after (fixed ty))) Zero) rest (at + padding at (begins_at after (fixed ty))) t
start_marked column (At p) false at ty s rest t =
    let same : padding at (align_of ty) ≡ padding p (align_of ty) = padding_same (align_of ty) at p (type_align ty) s in
    let pad = padding p (align_of ty) in
    let long : at + length (replicate {A = ℕ} pad 0) ≡ at + pad = ap (λ (k : ℕ). at + k) (length-replicate {A = ℕ} pad 0) in
    subst (λ (k : ℕ). Marks (zeros_then column pad rest) at t (replicate k Zero) rest (at + k) t) (sym same)
    (subst (λ (k : ℕ). Marks (zeros_then column pad rest) at t (replicate pad Zero) rest k t) long ((zeros_marked column pad).before rest at t))
start_marked column (At p) true at ty s rest t = absurd s
start_marked column AfterDynamic true at ty s rest t = align_marked rest at t
start_marked column AfterDynamic false at ty s rest t = absurd (false≢true s)

-- zeros, and then an argument's own code
placed_marked : (first : Block → Block) (code : Block → Block) (zeros at : ℕ) (tape bytes t : List ℕ) (marks : List ByteKind) (rest : Block)
    → Marks (first (code rest)) at (tape ++ t) (replicate zeros Zero) (code rest) (at + zeros) (tape ++ t) → IsMarked code tape bytes marks
    → Marks (first (code rest)) at (tape ++ t) (replicate zeros Zero ++ marks) rest (at + length (replicate zeros 0 ++ bytes)) t
placed_marked first code zeros at tape bytes t marks rest x y =
    subst (λ (k : ℕ). Marks (first (code rest)) at (tape ++ t) (replicate zeros Zero ++ marks) rest k t) (sym (placed_end zeros bytes at))
    (marks_then (first (code rest)) (code rest) rest at (at + zeros) ((at + zeros) + length bytes) (tape ++ t) (tape ++ t) t (replicate zeros Zero) marks x (y.before rest (at + zeros) t))

argument_marked : (column : Column) (standing : ArgOffset) (after : Bool) (at : ℕ) (t : TheArgType) (d : Datum) → StandsAt standing after at → is_argument t d ≡ true
    → (args : List TheArgType) (tape : List ℕ)
    → Marks (arguments_block column standing (t ∷ args)) at (argument_tape t d ++ tape) (placed_marks Length after at t d)
    (arguments_block column (standing_after standing t) args) (at + length (placed_bytes after at t d)) tape
argument_marked column standing after at (fixed t) d s h args tape =
    let rest = arguments_block column (standing_after standing (fixed t)) args in
    placed_marked (start_then column standing (align_of t)) (type_then column t) (padding at (begins_at after (fixed t))) at (value_tape t d) (value_bytes t d) tape (value_marks t d) rest
    (start_marked column standing after at t s (type_then column t rest) (value_tape t d ++ tape)) (value_marked column t d h)
argument_marked column standing after at (text most) (string xs) s h args tape =
    let rest = arguments_block column AfterDynamic args in
    let body = text_code column finished in
    placed_marked (λ r. next (one Align) r) (λ r. next (counted most body) r) (padding at 8) at (length xs ∷ xs) (number_bytes 8 (length xs) ++ text_bytes xs) tape (replicate 8 Length ++ text_marks xs) rest
    (align_marked (next (counted most body) rest) at (length xs ∷ (xs ++ tape))) (counted_marked most (length xs) body xs (text_bytes xs) (text_marks xs) (text_marked column xs))
argument_marked column standing after at (sized most t) (elements ds) s h args tape =
    let rest = arguments_block column AfterDynamic args in
    let body = type_then column t finished in
    placed_marked (λ r. next (one Align) r) (λ r. next (counted most body) r) (padding at 8) at (count_of ds ∷ elements_tape t ds) (number_bytes 8 (count_of ds) ++ elements_bytes t ds) tape (replicate 8 Length ++ elements_marks t ds) rest
    (align_marked (next (counted most body) rest) at (count_of ds ∷ (elements_tape t ds ++ tape)))
    (counted_marked most (count_of ds) body (elements_tape t ds) (elements_bytes t ds) (elements_marks t ds) (elements_marked column t ds ((and_parts _ _ h).1)))
argument_marked column standing after at (text most) (number z) s h args tape = absurd (false≢true h)
argument_marked column standing after at (text most) (elements ds) s h args tape = absurd (false≢true h)
argument_marked column standing after at (text most) (fields ds) s h args tape = absurd (false≢true h)
argument_marked column standing after at (sized most t) (number z) s h args tape = absurd (false≢true h)
argument_marked column standing after at (sized most t) (string xs) s h args tape = absurd (false≢true h)
argument_marked column standing after at (sized most t) (fields ds) s h args tape = absurd (false≢true h)

pub arguments_marked : (column : Column) (standing : ArgOffset) (after : Bool) (at : ℕ) (args : List Argument) → StandsAt standing after at → list_all is_sound args ≡ true
    → block_marks (arguments_block column standing (map kind args)) at (flat_map tape_of_argument args) ≡ arguments_marks after at args
arguments_marked column standing after at [] s h = refl
arguments_marked column standing after at (a ∷ args) s h =
    let parts = and_parts (is_sound a) (list_all is_sound args) h in
    let typed : is_argument a.0 a.1 ≡ true = (and_parts (is_argument a.0 a.1) _ parts.0).0 in
    let own = argument_marked column standing after at a.0 a.1 s typed (map kind args) (flat_map tape_of_argument args) in
    own.marks_are ∙ ap (λ (r : List ByteKind). placed_marks Length after at a.0 a.1 ++ r)
    (arguments_marked column (standing_after standing a.0) (is_dynamic a.0) (at + length (placed_bytes after at a.0 a.1)) args (stands_after standing after at a.0 a.1 s typed) parts.1)
