-- Open blocks, one inside another: the instructions that are left of them, and what the walk says of these.
use Rattle.std.proofs.Common.{◌≡◌, ℕ, zero, suc, ◌+◌, ◌≤◌, Bool, true, false, ◌&&◌, List, [], ◌∷◌, ◌++◌, Some, refl, sym, ◌∙◌, ap, subst, arith, append_assoc}
use Rattle.fl_stub.specs.declared.op.Op.{Op}
use Rattle.fl_stub.specs.declared.op.Op.TheVariants.{Emit, Pad, Align, Times, Each, Back, Read, ReadBool, ReadEnum, ReadChar, Skip, ReadText}
use Rattle.fl_stub.specs.declared.op.Column.{Column}
use Rattle.fl_stub.specs.declared.op.Column.TheVariants.{Send, Receive}
use Rattle.fl_stub.specs.declared.walk.WalkState.{WalkState}
use Rattle.fl_stub.specs.Structure.{Piece, one, times, counted, Block, finished, next, is_step, is_within, length_op, last_op, piece_ops, block_ops, piece_fits, block_fits, piece_depth, block_depth}
use Rattle.fl_stub.specs.Frames.{starts_with, closes, frames_of}
use Rattle.fl_stub.specs.Walk.{accepts, if_so}

-- the instructions that are left of a block inside so many loops and of the blocks around it
abbrev pub stack_ops : Column → ℕ → List Block → List Op
stack_ops column d [] = []
stack_ops column zero (b ∷ outer) = block_ops column b ++ last_op column ∷ []
stack_ops column (suc d) (b ∷ outer) = block_ops column b ++ (Back ∷ stack_ops column d outer)

-- a block that may stand inside so many loops
pub record FitsAt (column : Column) (d : ℕ) (b : Block) : Type 0 where
  pub fits : block_fits column b ≡ true
  pub depth : block_depth b + d ≤ 8

-- a block inside so many loops, and the blocks around it
abbrev pub IsOpen : Column → ℕ → List Block → Type 0
IsOpen column d [] = ⊥
IsOpen column zero (b ∷ outer) = FitsAt column 0 b × (outer ≡ [])
IsOpen column (suc d) (b ∷ outer) = FitsAt column (suc d) b × IsOpen column d outer

-- instructions are what is left of open blocks
pub record IsStack (column : Column) (d : ℕ) (ops : List Op) (blocks : List Block) : Type 0 where
  pub ops_are : ops ≡ stack_ops column d blocks
  pub nested : IsOpen column d blocks

-- a piece that may stand inside so many loops
pub record PieceFitsAt (column : Column) (d : ℕ) (p : Piece) : Type 0 where
  pub fits : piece_fits column p ≡ true
  pub depth : piece_depth p + d ≤ 8

pub both : {s t : Bool} → s ≡ true → t ≡ true → (s && t) ≡ true
both {s} {t} e f = cc

pub fits_next : {column : Column} {d : ℕ} {p : Piece} {b : Block} → PieceFitsAt column d p → FitsAt column d b → FitsAt column d (next p b)
fits_next {column} {d} {p} {b} x y = record {
  fits = both x.fits y.fits;
  depth = omega (arith, x.depth, y.depth);
}

-- a piece stands in front of open blocks
pub in_front : (column : Column) (d : ℕ) (p : Piece) (ops : List Op) (blocks : List Block) → PieceFitsAt column d p → IsStack column d ops blocks → IsStack column d (piece_ops column p ++ ops) (starts_with p blocks)
in_front column d p ops [] x s = absurd s.nested
in_front column zero p ops (b ∷ outer) x s = record {
  ops_are = rw (s.ops_are) (sym (append_assoc (piece_ops column p) (block_ops column b) (last_op column ∷ [])));
  nested = (fits_next x (s.nested.0), s.nested.1);
}
in_front column (suc d) p ops (b ∷ outer) x s = record {
  ops_are = rw (s.ops_are) (sym (append_assoc (piece_ops column p) (block_ops column b) (Back ∷ stack_ops column d outer)));
  nested = (fits_next x (s.nested.0), s.nested.1);
}

-- what is left inside a loop, which any loop instruction could begin
pub record IsBody (column : Column) (d : ℕ) (ops : List Op) (blocks : List Block) : Type 0 where
  pub body : Block
  pub outer : List Block
  pub blocks_are : blocks ≡ body ∷ outer
  pub ops_are : ops ≡ (block_ops column body ++ Back ∷ []) ++ stack_ops column d outer
  pub fits : FitsAt column (suc d) body
  pub stands : IsStack column d (stack_ops column d outer) outer

pub is_body : (column : Column) (d : ℕ) (ops : List Op) (blocks : List Block) → IsStack column (suc d) ops blocks → IsBody column d ops blocks
is_body column d ops [] s = absurd s.nested
is_body column d ops (b ∷ outer) s = record {
  body = b;
  outer = outer;
  blocks_are = refl;
  ops_are = s.ops_are ∙ sym (append_assoc (block_ops column b) (Back ∷ []) (stack_ops column d outer));
  fits = s.nested.0;
  stands = record { ops_are = refl; nested = s.nested.1 };
}

regroup : (prefix ops inner rest : List Op) → ops ≡ inner ++ rest → prefix ++ ops ≡ (prefix ++ inner) ++ rest
regroup prefix ops inner rest e = ap (λ (x : List Op). prefix ++ x) e ∙ sym (append_assoc prefix inner rest)

-- a loop over what is left inside it stands in front of the blocks around it
pub closed : (column : Column) (d : ℕ) (loop : Block → Piece) (prefix ops : List Op) (blocks : List Block) → ((b : Block) → FitsAt column (suc d) b → PieceFitsAt column d (loop b))
    → ((b : Block) → piece_ops column (loop b) ≡ prefix ++ (block_ops column b ++ Back ∷ []))
    → IsStack column (suc d) ops blocks → IsStack column d (prefix ++ ops) (closes loop blocks)
closed column d loop prefix ops blocks fit is s =
    let i = is_body column d ops blocks s in
    let made = in_front column d (loop i.body) (stack_ops column d i.outer) i.outer (fit i.body i.fits) i.stands in
    let e : prefix ++ ops ≡ piece_ops column (loop i.body) ++ stack_ops column d i.outer
    = regroup prefix ops (block_ops column i.body ++ Back ∷ []) (stack_ops column d i.outer) i.ops_are ∙ ap (λ (x : List Op). x ++ stack_ops column d i.outer) (sym (is i.body)) in
    let at : IsStack column d (prefix ++ ops) (starts_with (loop i.body) i.outer) = subst (λ (x : List Op). IsStack column d x (starts_with (loop i.body) i.outer)) (sym e) made in
    subst (λ (x : List Block). IsStack column d (prefix ++ ops) (closes loop x)) (sym i.blocks_are) at

-- the walk goes on only where the test holds
pub record GoesOn (column : Column) (test : Bool) (standing : WalkState) (ops : List Op) : Type 0 where
  pub so : test ≡ true
  pub on : accepts column (Some standing) ops ≡ true

pub goes_on : (column : Column) (test : Bool) (standing : WalkState) (ops : List Op) → accepts column (if_so test standing) ops ≡ true → GoesOn column test standing ops
goes_on column true standing ops h = record { so = refl; on = h }
goes_on column false standing ops h = absurd (cc)

-- the frames before a step of the column
pub step_frames : (column : Column) (op : Op) (ops : List Op) → is_step column op ≡ true → frames_of (op ∷ ops) ≡ starts_with (one op) (frames_of ops)
step_frames Send (Emit n) ops h = refl
step_frames Send (Pad n) ops h = refl
step_frames Send Align ops h = refl
step_frames Receive Align ops h = refl
step_frames Receive (Read n) ops h = refl
step_frames Receive ReadBool ops h = refl
step_frames Receive (ReadEnum n) ops h = refl
step_frames Receive ReadChar ops h = refl
step_frames Receive (Skip n) ops h = refl
step_frames Receive ReadText ops h = refl
step_frames column op ops h = absurd (cc)

-- a step stands in front of open blocks
pub stepped : (column : Column) (d : ℕ) (op : Op) (ops : List Op) → d ≤ 8 → is_step column op ≡ true → IsStack column d ops (frames_of ops) → IsStack column d (op ∷ ops) (frames_of (op ∷ ops))
stepped column d op ops small so s =
    rw (step_frames column op ops so) (in_front column d (one op) ops (frames_of ops) (record { fits = so; depth = omega (arith, small) }) s)

-- a loop stands in front of the blocks around it
pub repeated : (column : Column) (d n : ℕ) (ops : List Op) → is_within 1024 n ≡ true → IsStack column (suc d) ops (frames_of ops) → IsStack column d (Times n ∷ ops) (frames_of (Times n ∷ ops))
repeated column d n ops so s =
    closed column d (times n) (Times n ∷ []) ops (frames_of ops)
    (λ b f. record { fits = both so f.fits; depth = omega (arith, f.depth) }) (λ b. refl) s

pub told_before : (column : Column) (d most : ℕ) (ops : List Op) → is_within 4096 most ≡ true → IsStack column (suc d) ops (frames_of ops)
    → IsStack column d (length_op column most ∷ Each ∷ ops) (closes (counted most) (frames_of ops))
told_before column d most ops so s =
    closed column d (counted most) (length_op column most ∷ Each ∷ []) ops (frames_of ops)
    (λ b f. record { fits = both so f.fits; depth = omega (arith, f.depth) }) (λ b. refl) s

-- the end of a loop stands in front of the blocks around it
pub ended : (column : Column) (d : ℕ) (ops : List Op) (blocks : List Block) → suc d ≤ 8 → IsStack column d ops blocks → IsStack column (suc d) (Back ∷ ops) (finished ∷ blocks)
ended column d ops blocks deep s = record {
  ops_are = ap (λ (x : List Op). Back ∷ x) s.ops_are;
  nested = (record { fits = refl; depth = omega (arith, deep) }, s.nested);
}

-- the last instruction
pub last : (column : Column) → IsStack column 0 (last_op column ∷ []) (finished ∷ [])
last column = record { ops_are = refl; nested = (record { fits = refl; depth = omega arith }, refl) }
