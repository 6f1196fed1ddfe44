-- The compiler's code has an image: each of its ops is of its column, has an operand in range and of two bytes, and they
-- are fewer than 2 ^ 32.
use Rattle.std.proofs.Common.{◌≡◌, ℕ, zero, suc, ◌+◌, ◌*◌, ◌<◌, ◌≤◌, Bool, true, false, ◌&&◌, cond, eqb, leb, List, [], ◌∷◌, ◌++◌, length, refl, arith, length-append}
use Rattle.std.specs.Prelude.{nat_le}
use Rattle.std.proofs.lemmas.Bool.{and_parts, and_from, leb-true, le-leb}
use Rattle.std.proofs.Math.Nat.{mul-le-mul_right}
use Rattle.fl_interface.specs.declared.interface.Scalar.{Scalar}
use Rattle.fl_interface.specs.declared.interface.Scalar.TheVariants.{Uint8, Int8, Bool as BoolType, Char, Uint16, Int16, Uint32, Int32, Iref, Uint64, Int64, Uintptr, Intptr, Size, Errval}
use Rattle.fl_interface.specs.Interface.{TheType, scalar, enumeration, structure, array, TheTypes, no_more, field}
use Rattle.fl_interface.specs.Sizes.{size_of, align_of, greatest_align, end_after, round_up, scalar_size, IsAlign}
use Rattle.fl_interface.specs.Depth.{depth_of, deepest}
use Rattle.fl_interface.specs.Limits.{count_of, is_well_made, are_well_made}
use Rattle.fl_stub.specs.declared.op.Op.{Op}
use Rattle.fl_stub.specs.declared.op.Op.TheVariants as ops
use Rattle.fl_stub.specs.declared.op.Column.{Column}
use Rattle.fl_stub.specs.declared.op.Column.TheVariants.{Send, Receive}
use Rattle.fl_stub.specs.Structure.{one, Block, finished, next, is_width, is_within, length_op, last_op, block_ops}
use Rattle.fl_compile.specs.Compiled.{scalar_op, enum_op, text_op, pad_op, padding, zeros_then, type_then, fields_then}
use Rattle.fl_image.specs.Image.{has_short_enums, have_short_enums}
use Rattle.fl_image.specs.Reading.{op_with}
use Rattle.fl_image.proofs.ReadBack.{AllAfter}
use Rattle.fl_image.proofs.CodeLaws.{HasImage}
use Rattle.fl_interface.proofs.Aligned.{type_align, types_align, round_near, round_least}

-- ---- single ops

emit_has : (n : ℕ) → is_width n ≡ true → n < 65536 → HasImage Send (ops.Emit n)
unfolding op_with
emit_has n w lt = record { known = refl; same = refl; within = w; small = lt }

read_has : (n : ℕ) → is_width n ≡ true → n < 65536 → HasImage Receive (ops.Read n)
unfolding op_with
read_has n w lt = record { known = refl; same = refl; within = w; small = lt }

scalar_has : (column : Column) (s : Scalar) → HasImage column (scalar_op column s)
unfolding op_with
scalar_has Send Uint8 = emit_has 1 refl (omega arith)
scalar_has Send Int8 = emit_has 1 refl (omega arith)
scalar_has Send BoolType = emit_has 1 refl (omega arith)
scalar_has Send Char = emit_has 1 refl (omega arith)
scalar_has Send Uint16 = emit_has 2 refl (omega arith)
scalar_has Send Int16 = emit_has 2 refl (omega arith)
scalar_has Send Uint32 = emit_has 4 refl (omega arith)
scalar_has Send Int32 = emit_has 4 refl (omega arith)
scalar_has Send Iref = emit_has 4 refl (omega arith)
scalar_has Send Uint64 = emit_has 8 refl (omega arith)
scalar_has Send Int64 = emit_has 8 refl (omega arith)
scalar_has Send Uintptr = emit_has 8 refl (omega arith)
scalar_has Send Intptr = emit_has 8 refl (omega arith)
scalar_has Send Size = emit_has 8 refl (omega arith)
scalar_has Send Errval = emit_has 8 refl (omega arith)
scalar_has Receive Uint8 = read_has 1 refl (omega arith)
scalar_has Receive Int8 = read_has 1 refl (omega arith)
scalar_has Receive BoolType = record { known = refl; same = refl; within = refl; small = omega arith }
scalar_has Receive Char = record { known = refl; same = refl; within = refl; small = omega arith }
scalar_has Receive Uint16 = read_has 2 refl (omega arith)
scalar_has Receive Int16 = read_has 2 refl (omega arith)
scalar_has Receive Uint32 = read_has 4 refl (omega arith)
scalar_has Receive Int32 = read_has 4 refl (omega arith)
scalar_has Receive Iref = read_has 4 refl (omega arith)
scalar_has Receive Uint64 = read_has 8 refl (omega arith)
scalar_has Receive Int64 = read_has 8 refl (omega arith)
scalar_has Receive Uintptr = read_has 8 refl (omega arith)
scalar_has Receive Intptr = read_has 8 refl (omega arith)
scalar_has Receive Size = read_has 8 refl (omega arith)
scalar_has Receive Errval = read_has 8 refl (omega arith)

enum_has : (column : Column) (n : ℕ) → nat_le 1 n ≡ true → nat_le n 65535 ≡ true → HasImage column (enum_op column n)
unfolding op_with
enum_has Send n some few = emit_has 4 refl (omega arith)
enum_has Receive n some few = let le : n ≤ 65535 = leb-true n 65535 few in record { known = refl; same = refl; within = some; small = omega (arith, le) }

pub text_has : (column : Column) → HasImage column (text_op column)
unfolding op_with
text_has Send = emit_has 1 refl (omega arith)
text_has Receive = record { known = refl; same = refl; within = refl; small = omega arith }

in_seven : (n : ℕ) → 1 ≤ n → n ≤ 7 → is_within 7 n ≡ true
in_seven n some few = and_from (leb 1 n) (leb n 7) (le-leb 1 n some) (le-leb n 7 few)

pad_has : (column : Column) (n : ℕ) → 1 ≤ n → n ≤ 7 → HasImage column (pad_op column n)
unfolding op_with
pad_has Send n some few = record { known = refl; same = refl; within = in_seven n some few; small = omega (arith, few) }
pad_has Receive n some few = record { known = refl; same = refl; within = in_seven n some few; small = omega (arith, few) }

pub align_has : (column : Column) → HasImage column ops.Align
unfolding op_with
align_has Send = record { known = refl; same = refl; within = refl; small = omega arith }
align_has Receive = record { known = refl; same = refl; within = refl; small = omega arith }

pub each_has : (column : Column) → HasImage column ops.Each
unfolding op_with
each_has Send = record { known = refl; same = refl; within = refl; small = omega arith }
each_has Receive = record { known = refl; same = refl; within = refl; small = omega arith }

back_has : (column : Column) → HasImage column ops.Back
unfolding op_with
back_has Send = record { known = refl; same = refl; within = refl; small = omega arith }
back_has Receive = record { known = refl; same = refl; within = refl; small = omega arith }

pub last_has : (column : Column) → HasImage column (last_op column)
unfolding op_with
last_has Send = record { known = refl; same = refl; within = refl; small = omega arith }
last_has Receive = record { known = refl; same = refl; within = refl; small = omega arith }

small_within : (most n : ℕ) → is_within most n ≡ true → n ≤ most
small_within most n h = leb-true n most (and_parts (leb 1 n) (leb n most) h).1

times_has : (column : Column) (n : ℕ) → is_within 1024 n ≡ true → HasImage column (ops.Times n)
unfolding op_with
times_has Send n h = record { known = refl; same = refl; within = h; small = omega (arith, small_within 1024 n h) }
times_has Receive n h = record { known = refl; same = refl; within = h; small = omega (arith, small_within 1024 n h) }

pub length_has : (column : Column) (n : ℕ) → is_within 4096 n ≡ true → HasImage column (length_op column n)
unfolding op_with
length_has Send n h = record { known = refl; same = refl; within = h; small = omega (arith, small_within 4096 n h) }
length_has Receive n h = record { known = refl; same = refl; within = h; small = omega (arith, small_within 4096 n h) }

-- ---- lists of ops, and blocks

abbrev pub EachHas : Column → List Op → Type 0
EachHas column [] = Unit {0}
EachHas column (op ∷ more) = HasImage column op × EachHas column more

pub each_append : (column : Column) (xs ys : List Op) → EachHas column xs → EachHas column ys → EachHas column (xs ++ ys)
each_append column [] ys h k = k
each_append column (x ∷ xs) ys h k = (h.0, each_append column xs ys h.1 k)

pub each_after : (column : Column) (before xs : List Op) → EachHas column xs → AllAfter (λ before. HasImage column) before xs
each_after column before [] h = tt
each_after column before (x ∷ xs) h = (h.0, each_after column (before ++ x ∷ []) xs h.1)

abbrev pub BlockHas : Column → Block → Type 0
BlockHas column b = EachHas column (block_ops column b)

pub loop_has : (column : Column) (b rest : Block) → BlockHas column b → BlockHas column rest → EachHas column ((block_ops column b ++ ops.Back ∷ []) ++ block_ops column rest)
loop_has column b rest h k = each_append column (block_ops column b ++ ops.Back ∷ []) (block_ops column rest) (each_append column (block_ops column b) (ops.Back ∷ []) h (back_has column, tt)) k

zeros_step : (column : Column) (count : ℕ) (rest : Block) (b : Bool) → eqb count 0 ≡ b → count ≤ 7 → BlockHas column rest → BlockHas column (cond b rest (next (one (pad_op column count)) rest))
zeros_step column count rest true e few h = h
zeros_step column count rest false e few h =
    let some : 1 ≤ count = grind (arith, e) in
    (pad_has column count some few, h)

pub zeros_have : (column : Column) (count : ℕ) (rest : Block) → count ≤ 7 → BlockHas column rest → BlockHas column (zeros_then column count rest)
zeros_have column count rest few h = zeros_step column count rest (eqb count 0) refl few h

pub padding_small : (align : ℕ) → IsAlign align → (at : ℕ) → padding at align ≤ 7
padding_small align h at = omega (arith, round_near align at h)

mutual
  pub type_has : (column : Column) (t : TheType) (rest : Block) → is_well_made t ≡ true → has_short_enums t ≡ true → BlockHas column rest → BlockHas column (type_then column t rest)
  type_has column (scalar s) rest w f h = (scalar_has column s, h)
  type_has column (enumeration n) rest w f h = (enum_has column n w f, h)
  type_has column (structure ts) rest w f h =
      let a = and_parts (nat_le 1 (count_of ts)) (nat_le (count_of ts) 32 && are_well_made ts) w in
      let b = and_parts (nat_le (count_of ts) 32) (are_well_made ts) a.1 in
      fields_have column (greatest_align ts) 0 ts rest (types_align ts) b.1 f h
  type_has column (array n t) rest w f h =
      let a = and_parts (nat_le 1 n) (nat_le n 1024 && is_well_made t) w in
      let b = and_parts (nat_le n 1024) (is_well_made t) a.1 in
      (times_has column n (and_from (nat_le 1 n) (nat_le n 1024) a.0 b.0), loop_has column (type_then column t finished) rest (type_has column t finished b.1 f tt) h)

  fields_have : (column : Column) (align at : ℕ) (ts : TheTypes) (rest : Block) → IsAlign align → are_well_made ts ≡ true → have_short_enums ts ≡ true → BlockHas column rest → BlockHas column (fields_then column align at ts rest)
  fields_have column align at no_more rest is w f h = zeros_have column (padding at align) rest (padding_small align is at) h
  fields_have column align at (field t ts) rest is w f h =
      let a = and_parts (is_well_made t) (are_well_made ts) w in
      let b = and_parts (has_short_enums t) (have_short_enums ts) f in
      let after = round_up at (align_of t) + size_of t in
      zeros_have column (padding at (align_of t)) (type_then column t (fields_then column align after ts rest)) (padding_small (align_of t) (type_align t) at)
      (type_has column t (fields_then column align after ts rest) a.0 b.0 (fields_have column align after ts rest is a.1 b.1 h))

-- ---- how many

-- 2 for each byte and each type around it
abbrev cost : ℕ → ℕ → ℕ
cost zero s = 2 * s
cost (suc d) s = cost d s + 2 * s

cost_sum : (d a b : ℕ) → cost d (a + b) ≡ cost d a + cost d b
cost_sum zero a b = omega arith
cost_sum (suc d) a b = omega (arith, cost_sum d a b)

cost_more : (d a b : ℕ) → a ≤ b → cost d a ≤ cost d b
cost_more zero a b h = omega (arith, h)
cost_more (suc d) a b h = omega (arith, h, cost_more d a b h)

cost_some : (d s : ℕ) → 1 ≤ s → 2 ≤ cost d s
cost_some zero s h = omega (arith, h)
cost_some (suc d) s h = omega (arith, h)

scalar_some : (s : Scalar) → 1 ≤ scalar_size s
scalar_some Uint8 = omega arith
scalar_some Int8 = omega arith
scalar_some BoolType = omega arith
scalar_some Char = omega arith
scalar_some Uint16 = omega arith
scalar_some Int16 = omega arith
scalar_some Uint32 = omega arith
scalar_some Int32 = omega arith
scalar_some Iref = omega arith
scalar_some Uint64 = omega arith
scalar_some Int64 = omega arith
scalar_some Uintptr = omega arith
scalar_some Intptr = omega arith
scalar_some Size = omega arith
scalar_some Errval = omega arith

no_less : (ts : TheTypes) (at : ℕ) → at ≤ end_after at ts
no_less no_more at = omega arith
no_less (field t ts) at = omega (arith, no_less ts (round_up at (align_of t) + size_of t), round_least (align_of t) at)

array_some : (n s : ℕ) → 1 ≤ n → s ≤ n * s
array_some n s h =
    let e : 1 * s ≤ n * s = mul-le-mul_right s h in
    omega (arith, e)

mutual
  pub size_some : (t : TheType) → is_well_made t ≡ true → 1 ≤ size_of t
  size_some (scalar s) w = scalar_some s
  size_some (enumeration n) w = omega arith
  size_some (structure ts) w =
      let a = and_parts (nat_le 1 (count_of ts)) (nat_le (count_of ts) 32 && are_well_made ts) w in
      let b = and_parts (nat_le (count_of ts) 32) (are_well_made ts) a.1 in
      omega (arith, fields_some ts (leb-true 1 (count_of ts) a.0) b.1, round_least (greatest_align ts) (end_after 0 ts))
  size_some (array n t) w =
      let a = and_parts (nat_le 1 n) (nat_le n 1024 && is_well_made t) w in
      let b = and_parts (nat_le n 1024) (is_well_made t) a.1 in
      omega (arith, array_some n (size_of t) (leb-true 1 n a.0), size_some t b.1)

  fields_some : (ts : TheTypes) → 1 ≤ count_of ts → are_well_made ts ≡ true → 1 ≤ end_after 0 ts
  fields_some no_more some w = absurd (omega (arith, some))
  fields_some (field t ts) some w =
      let a = and_parts (is_well_made t) (are_well_made ts) w in
      omega (arith, no_less ts (round_up 0 (align_of t) + size_of t), size_some t a.0)

abbrev pub how_many : Column → Block → ℕ
how_many column b = length (block_ops column b)

zeros_count_step : (column : Column) (count : ℕ) (rest : Block) (b : Bool) → how_many column (cond b rest (next (one (pad_op column count)) rest)) ≤ how_many column rest + 1
zeros_count_step column count rest true = omega arith
zeros_count_step column count rest false = omega arith

pub zeros_count : (column : Column) (count : ℕ) (rest : Block) → how_many column (zeros_then column count rest) ≤ how_many column rest + 1
zeros_count column count rest = zeros_count_step column count rest (eqb count 0)

pub loop_count : (column : Column) (b rest : Block) → length ((block_ops column b ++ ops.Back ∷ []) ++ block_ops column rest) ≡ how_many column b + 1 + how_many column rest
loop_count column b rest = omega (arith, length-append (block_ops column b ++ ops.Back ∷ []) (block_ops column rest), length-append (block_ops column b) (ops.Back ∷ []))

mutual
  pub type_count : (column : Column) (d : ℕ) (t : TheType) (rest : Block) → is_well_made t ≡ true → depth_of t ≤ d
      → how_many column (type_then column t rest) + 1 ≤ cost d (size_of t) + how_many column rest
  type_count column d (scalar s) rest w lt = omega (arith, cost_some d (scalar_size s) (scalar_some s))
  type_count column d (enumeration n) rest w lt = omega (arith, cost_some d 4 (omega arith))
  type_count column zero (structure ts) rest w lt = absurd (omega (arith, lt))
  type_count column (suc d) (structure ts) rest w lt =
      let a = and_parts (nat_le 1 (count_of ts)) (nat_le (count_of ts) 32 && are_well_made ts) w in
      let b = and_parts (nat_le (count_of ts) 32) (are_well_made ts) a.1 in
      let size = size_of (structure ts) in
      let inside = fields_count column d (greatest_align ts) 0 ts rest b.1 (omega (arith, lt)) in
      let reach : end_after 0 ts ≤ size = round_least (greatest_align ts) (end_after 0 ts) in
      omega (arith, inside, cost_more d (end_after 0 ts) size reach, size_some (structure ts) w)
  type_count column zero (array n t) rest w lt = absurd (omega (arith, lt))
  type_count column (suc d) (array n t) rest w lt =
      let a = and_parts (nat_le 1 n) (nat_le n 1024 && is_well_made t) w in
      let b = and_parts (nat_le n 1024) (is_well_made t) a.1 in
      let inside = type_count column d t finished b.1 (omega (arith, lt)) in
      let more : size_of t ≤ n * size_of t = array_some n (size_of t) (leb-true 1 n a.0) in
      omega (arith, inside, loop_count column (type_then column t finished) rest, size_some t b.1, more, cost_more d (size_of t) (n * size_of t) more)

  fields_count : (column : Column) (d align at : ℕ) (ts : TheTypes) (rest : Block) → are_well_made ts ≡ true → deepest ts ≤ d
      → how_many column (fields_then column align at ts rest) + cost d at ≤ cost d (end_after at ts) + 1 + how_many column rest
  fields_count column d align at no_more rest w lt = omega (arith, zeros_count column (padding at align) rest)
  fields_count column d align at (field t ts) rest w lt =
      let a = and_parts (is_well_made t) (are_well_made ts) w in
      let start = round_up at (align_of t) in
      let after = start + size_of t in
      let inner = type_then column t (fields_then column align after ts rest) in
      let zeros = zeros_count column (padding at (align_of t)) inner in
      let first = type_count column d t (fields_then column align after ts rest) a.0 (omega (arith, lt)) in
      let others = fields_count column d align after ts rest a.1 (omega (arith, lt)) in
      let up = cost_more d at start (round_least (align_of t) at) in
      omega (arith, zeros, first, others, up, cost_sum d start (size_of t))
