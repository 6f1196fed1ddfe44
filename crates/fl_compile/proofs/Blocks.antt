-- The instructions of a block that is given with what follows it are its own, and then those of what follows.
use Rattle.std.proofs.Common.{◌≡◌, ℕ, ◌+◌, ◌<◌, ◌≤◌, true, false, cond, eqb, List, ◌∷◌, ◌++◌, map, drop, length, get_or, refl, sym, ◌∙◌, ap, append_assoc}
use Rattle.std.proofs.lemmas.List.{append-nil, drop_all}
use Rattle.fl_interface.specs.Interface.{TheType, scalar, enumeration, structure, array, TheTypes, no_more, field, fields_from, TheArgType, fixed}
use Rattle.fl_interface.specs.Sizes.{round_up, align_of, greatest_align, size_of}
use Rattle.fl_stub.specs.declared.op.Op.{Op}
use Rattle.fl_stub.specs.declared.op.Column.{Column}
use Rattle.fl_stub.specs.Structure.{Block, finished, next, one, times, piece_ops, block_ops}
use Rattle.fl_compile.specs.declared.arguments.ArgOffset.{ArgOffset}
use Rattle.fl_compile.specs.declared.arguments.ArgOffset.TheVariants.{At, AfterDynamic}
use Rattle.fl_compile.specs.Compiled.{padding, pad_op, zeros_then, type_then, fields_then, start_at, start_then, arguments_block}
use Rattle.fl_interface.proofs.FieldSizes.{rest_is}

pub zeros_code : (column : Column) (count : ℕ) (rest : Block)
    → block_ops column (zeros_then column count rest) ≡ block_ops column (zeros_then column count finished) ++ block_ops column rest
zeros_code column count rest =
    elim (eqb count 0) as (λ v. block_ops column (cond v rest (next (one (pad_op column count)) rest)) ≡ block_ops column (cond v finished (next (one (pad_op column count)) finished)) ++ block_ops column rest)
    [ true ↦ refl | false ↦ refl ]

-- the first of some fields, if its own code is told
first_code : (column : Column) (align at : ℕ) (t : TheType) (ts : TheTypes) (rest : Block)
    → ((others : Block) → block_ops column (type_then column t others) ≡ block_ops column (type_then column t finished) ++ block_ops column others)
    → block_ops column (fields_then column align at (field t ts) rest)
    ≡ block_ops column (zeros_then column (padding at (align_of t)) finished)
    ++ (block_ops column (type_then column t finished) ++ block_ops column (fields_then column align (round_up at (align_of t) + size_of t) ts rest))
first_code column align at t ts rest told =
    let others = fields_then column align (round_up at (align_of t) + size_of t) ts rest in
    let zeros = block_ops column (zeros_then column (padding at (align_of t)) finished) in
    zeros_code column (padding at (align_of t)) (type_then column t others)
    ∙ ap (λ (ops : List Op). zeros ++ ops) (told others)

mutual
  pub type_code : (column : Column) (t : TheType) (rest : Block)
      → block_ops column (type_then column t rest) ≡ block_ops column (type_then column t finished) ++ block_ops column rest
  type_code column (scalar s) rest = refl
  type_code column (enumeration n) rest = refl
  type_code column (structure ts) rest = fields_code column (greatest_align ts) 0 ts rest
  type_code column (array n t) rest =
      let loop = piece_ops column (times n (type_then column t finished)) in
      ap (λ (ops : List Op). ops ++ block_ops column rest) (sym (append-nil loop))

  pub fields_code : (column : Column) (align at : ℕ) (ts : TheTypes) (rest : Block)
      → block_ops column (fields_then column align at ts rest) ≡ block_ops column (fields_then column align at ts finished) ++ block_ops column rest
  fields_code column align at no_more rest = zeros_code column (padding at align) rest
  fields_code column align at (field t ts) rest =
      let after = round_up at (align_of t) + size_of t in
      let zeros = block_ops column (zeros_then column (padding at (align_of t)) finished) in
      let own = block_ops column (type_then column t finished) in
      let fields = block_ops column (fields_then column align after ts finished) in
      let last = block_ops column rest in
      first_code column align at t ts rest (λ others. type_code column t others)
      ∙ ap (λ (ops : List Op). zeros ++ (own ++ ops)) (fields_code column align after ts rest)
      ∙ ap (λ (ops : List Op). zeros ++ ops) (sym (append_assoc own fields last))
      ∙ sym (append_assoc zeros (own ++ fields) last)
      ∙ ap (λ (ops : List Op). ops ++ last) (sym (first_code column align at t ts finished (λ others. type_code column t others)))

-- the first of some fields
pub field_code : (column : Column) (align at : ℕ) (t : TheType) (ts : TheTypes) (rest : Block)
    → block_ops column (fields_then column align at (field t ts) rest)
    ≡ block_ops column (zeros_then column (padding at (align_of t)) finished)
    ++ (block_ops column (type_then column t finished) ++ block_ops column (fields_then column align (round_up at (align_of t) + size_of t) ts rest))
field_code column align at t ts rest = first_code column align at t ts rest (λ others. type_code column t others)

-- field k is written, after those before it
pub field_written : {F : Type 0} (type : F → TheType) (fs : List F) (k : ℕ) (f : F) (column : Column) (align at pad after : ℕ) (old padded new : List Op)
    → k < length fs → f ≡ get_or fs k f → pad ≡ padding at (align_of (type f)) → after ≡ round_up at (align_of (type f)) + size_of (type f)
    → padded ≡ old ++ block_ops column (zeros_then column pad finished) → new ≡ padded ++ block_ops column (type_then column (type f) finished)
    → new ++ block_ops column (fields_then column align after (fields_from (map type (drop (k + 1) fs))) finished)
    ≡ old ++ block_ops column (fields_then column align at (fields_from (map type (drop k fs))) finished)
field_written type fs k f column align at pad after old padded new h e is_pad is_after is_padded is_new =
    let t = type f in
    let ts = fields_from (map type (drop (k + 1) fs)) in
    let zeros = block_ops column (zeros_then column (padding at (align_of t)) finished) in
    let own = block_ops column (type_then column t finished) in
    let others = block_ops column (fields_then column align (round_up at (align_of t) + size_of t) ts finished) in
    let written : new ≡ (old ++ zeros) ++ own
    = is_new ∙ ap (λ (ops : List Op). ops ++ own) (is_padded ∙ ap (λ (n : ℕ). old ++ block_ops column (zeros_then column n finished)) is_pad) in
    ap (λ (ops : List Op). ops ++ block_ops column (fields_then column align after ts finished)) written
    ∙ ap (λ (n : ℕ). ((old ++ zeros) ++ own) ++ block_ops column (fields_then column align n ts finished)) is_after
    ∙ append_assoc (old ++ zeros) own others
    ∙ append_assoc old zeros (own ++ others)
    ∙ ap (λ (ops : List Op). old ++ ops) (sym (field_code column align at t ts finished))
    ∙ ap (λ (us : TheTypes). old ++ block_ops column (fields_then column align at us finished)) (sym (rest_is type fs k f h e))

-- after the last field
pub fields_written : {F : Type 0} (type : F → TheType) (fs : List F) (k : ℕ) (column : Column) (align at pad top : ℕ) (old now new whole : List Op)
    → length fs ≤ k → pad ≡ padding at top → top ≡ align → new ≡ now ++ block_ops column (zeros_then column pad finished)
    → now ++ block_ops column (fields_then column align at (fields_from (map type (drop k fs))) finished) ≡ old ++ whole
    → new ≡ old ++ whole
fields_written {F = F} type fs k column align at pad top old now new whole h is_pad is_top is_new inv =
    is_new
    ∙ ap (λ (n : ℕ). now ++ block_ops column (zeros_then column n finished)) (is_pad ∙ ap (padding at) is_top)
    ∙ ap (λ (xs : List F). now ++ block_ops column (fields_then column align at (fields_from (map type xs)) finished)) (sym (drop_all k fs h))
    ∙ inv

-- ---- arguments

start_code : (column : Column) (standing : ArgOffset) (align : ℕ) (rest : Block)
    → block_ops column (start_then column standing align rest) ≡ block_ops column (start_then column standing align finished) ++ block_ops column rest
start_code column (At at) align rest = zeros_code column (padding at align) rest
start_code column AfterDynamic align rest = refl

-- a fixed argument is written
pub fixed_written : (column : Column) (standing : ArgOffset) (t : TheType) (align start size : ℕ) (old begun new : List Op) (args : List TheArgType)
    → align ≡ align_of t → start ≡ start_at standing align → size ≡ size_of t
    → begun ≡ old ++ block_ops column (start_then column standing align finished) → new ≡ begun ++ block_ops column (type_then column t finished)
    → new ++ block_ops column (arguments_block column (At (start + size)) args) ≡ old ++ block_ops column (arguments_block column standing (fixed t ∷ args))
fixed_written column standing t align start size old begun new args is_align is_start is_size is_begun is_new =
    let rest = arguments_block column (At (start_at standing (align_of t) + size_of t)) args in
    let zeros = block_ops column (start_then column standing (align_of t) finished) in
    let own = block_ops column (type_then column t finished) in
    let written : new ≡ (old ++ zeros) ++ own
    = is_new ∙ ap (λ (ops : List Op). ops ++ own) (is_begun ∙ ap (λ (n : ℕ). old ++ block_ops column (start_then column standing n finished)) is_align) in
    let after : start + size ≡ start_at standing (align_of t) + size_of t
    = ap (λ (n : ℕ). n + size) (is_start ∙ ap (start_at standing) is_align) ∙ ap (λ (n : ℕ). start_at standing (align_of t) + n) is_size in
    ap (λ (ops : List Op). ops ++ block_ops column (arguments_block column (At (start + size)) args)) written
    ∙ ap (λ (n : ℕ). ((old ++ zeros) ++ own) ++ block_ops column (arguments_block column (At n) args)) after
    ∙ append_assoc (old ++ zeros) own (block_ops column rest)
    ∙ append_assoc old zeros (own ++ block_ops column rest)
    ∙ ap (λ (ops : List Op). old ++ (zeros ++ ops)) (sym (type_code column t rest))
    ∙ ap (λ (ops : List Op). old ++ ops) (sym (start_code column standing (align_of t) (type_then column t rest)))
