-- The walk accepts exactly code that has a structure, and code has one structure.
use Rattle.std.proofs.Common.{◌≡◌, ℕ, zero, suc, ◌+◌, ◌-◌, ◌<◌, ◌≤◌, Bool, true, false, ◌&&◌, List, [], ◌∷◌, ◌++◌, Option, Some, refl, sym, ◌∙◌, ap, subst, arith, append_assoc, add-one}
use Rattle.std.specs.Prelude.{nat_lt, ◌==◌, length, slice_get}
use Rattle.std.proofs.lemmas.List.{length-append}
use Rattle.std.proofs.lemmas.Option.{slice_get-get_or}
use Rattle.std.proofs.Math.Seq.{get_or-append_seam}
use Rattle.std.specs.Cmp.{first_so, second_so}
use borrow.Author.Tests.{lt-ltb, ltb-true, eqb-true}
use Rattle.fl_stub.specs.declared.op.Op.{Op}
use Rattle.fl_stub.specs.declared.op.Op.TheVariants.{Emit, Pad, Align, Length, Times, Each, Back, End, Read, ReadBool, ReadEnum, ReadChar, Skip, ReadLength, ReadText, Done}
use Rattle.fl_stub.specs.declared.op.Column.{Column}
use Rattle.fl_stub.specs.declared.op.Column.TheVariants.{Send, Receive}
use Rattle.fl_stub.specs.declared.walk.WalkState.{WalkState}
use Rattle.fl_stub.specs.declared.walk.WalkState.TheVariants.{Inside, AfterLength, Ended}
use Rattle.fl_stub.specs.Structure.{Piece, one, times, counted, Block, finished, next, is_step, is_within, length_op, last_op, piece_ops, block_ops, piece_fits, block_fits, piece_depth, block_depth, IsCode, OneStructure}
use Rattle.fl_stub.specs.Frames.{starts_with, closes, frames_of, innermost, block_of}
use Rattle.fl_stub.specs.Walk.{after_inside, after_length, accepts, if_so, is_send, is_receive}
use Rattle.fl_stub.proofs.Stacks.{IsStack, GoesOn, goes_on, both, step_frames, stepped, repeated, told_before, ended, last}

-- what the walk goes through from inside so many loops is what is left of open blocks
abbrev pub Sound : Column → ℕ → List Op → Type 0
Sound column d ops = d ≤ 8 → accepts column (Some (Inside d)) ops ≡ true → IsStack column d ops (frames_of ops)

sound_times : (column : Column) (d n : ℕ) (ops : List Op) → Sound column (d + 1) ops → Sound column d (Times n ∷ ops)
sound_times column d n ops rest small h =
    let g = goes_on column (is_within 1024 n && nat_lt d 8) (Inside (d + 1)) ops h in
    let deep : d < 8 = ltb-true d 8 (second_so (is_within 1024 n) (nat_lt d 8) g.so) in
    let r : IsStack column (suc d) ops (frames_of ops) = rw (← add-one d) (rest (omega arith) g.on) in
    repeated column d n ops (first_so (is_within 1024 n) (nat_lt d 8) g.so) r

sound_each : (column : Column) (d most : ℕ) (ops : List Op) → Sound column (d + 1) ops → GoesOn column (is_within 4096 most) (AfterLength d) (Each ∷ ops)
    → IsStack column d (length_op column most ∷ Each ∷ ops) (closes (counted most) (frames_of ops))
sound_each column d most ops rest w =
    let g = goes_on column (nat_lt d 8) (Inside (d + 1)) ops w.on in
    let deep : d < 8 = ltb-true d 8 g.so in
    let r : IsStack column (suc d) ops (frames_of ops) = rw (← add-one d) (rest (omega arith) g.on) in
    told_before column d most ops w.so r

sound_length : (column : Column) (d most : ℕ) (ops : List Op) → Sound column (d + 1) ops → Sound column d (Length most ∷ Each ∷ ops)
sound_length Send d most ops rest small h = sound_each Send d most ops rest (goes_on Send (is_within 4096 most) (AfterLength d) (Each ∷ ops) h)
sound_length Receive d most ops rest small h = absurd (cc)

sound_read_length : (column : Column) (d most : ℕ) (ops : List Op) → Sound column (d + 1) ops → Sound column d (ReadLength most ∷ Each ∷ ops)
sound_read_length Send d most ops rest small h = absurd (cc)
sound_read_length Receive d most ops rest small h = sound_each Receive d most ops rest (goes_on Receive (is_within 4096 most) (AfterLength d) (Each ∷ ops) h)

sound_step : (column : Column) (d : ℕ) (op : Op) (ops : List Op) → Sound column d ops → d ≤ 8 → accepts column (if_so (is_step column op) (Inside d)) ops ≡ true
    → IsStack column d (op ∷ ops) (frames_of (op ∷ ops))
sound_step column d op ops rest small h =
    let g = goes_on column (is_step column op) (Inside d) ops h in
    stepped column d op ops small g.so (rest small g.on)

-- after a length stands a loop
no_each : (column : Column) (d most : ℕ) (test : Bool) (ops : List Op) → accepts column (Some (AfterLength d)) ops ≡ false → accepts column (if_so test (AfterLength d)) ops ≡ true → ⊥
no_each column d most test ops stops h = let g = goes_on column test (AfterLength d) ops h in let b : true ≡ false = sym g.on ∙ stops in absurd (cc)

-- the end of a loop is inside one
sound_back : (column : Column) (d : ℕ) (ops : List Op) → Sound column d ops → Sound column (suc d) (Back ∷ ops)
sound_back column d ops rest small h =
    let g = goes_on column (nat_lt 0 (suc d)) (Inside (suc d - 1)) ops h in
    let e : suc d - 1 ≡ d = omega arith in
    let on : accepts column (Some (Inside d)) ops ≡ true = subst (λ (k : ℕ). accepts column (Some (Inside k)) ops ≡ true) e g.on in
    ended column d ops (frames_of ops) small (rest (omega arith) on)

-- the last instruction stands in no loop, and nothing after it
sound_last : (column : Column) (d : ℕ) (ops : List Op) → GoesOn column (d == 0) Ended ops → IsStack column d (last_op column ∷ ops) (finished ∷ [])
sound_last column d [] g = let e : d ≡ 0 = eqb-true d 0 g.so in subst (λ (k : ℕ). IsStack column k (last_op column ∷ []) (finished ∷ [])) (sym e) (last column)
sound_last column d (op ∷ ops) g = let b : false ≡ true = g.on in absurd (cc)

sound_end : (column : Column) (d : ℕ) (ops : List Op) → Sound column d (End ∷ ops)
sound_end Send d ops small h = sound_last Send d ops (goes_on Send (d == 0) Ended ops h)
sound_end Receive d ops small h = absurd (cc)

sound_done : (column : Column) (d : ℕ) (ops : List Op) → Sound column d (Done ∷ ops)
sound_done Send d ops small h = absurd (cc)
sound_done Receive d ops small h = sound_last Receive d ops (goes_on Receive (d == 0) Ended ops h)

pub sound : (column : Column) (d : ℕ) (ops : List Op) → Sound column d ops
sound column d [] small h = absurd (cc)
sound column d (Times n ∷ ops) small h = sound_times column d n ops (sound column (d + 1) ops) small h
sound column d (Length most ∷ Each ∷ ops) small h = sound_length column d most ops (sound column (d + 1) ops) small h
sound column d (ReadLength most ∷ Each ∷ ops) small h = sound_read_length column d most ops (sound column (d + 1) ops) small h
sound column d (Length most ∷ ops) small h = absurd (no_each column d most (is_send column && is_within 4096 most) ops refl h)
sound column d (ReadLength most ∷ ops) small h = absurd (no_each column d most (is_receive column && is_within 4096 most) ops refl h)
sound column zero (Back ∷ ops) small h = let b : false ≡ true = h in absurd (cc)
sound column (suc d) (Back ∷ ops) small h = sound_back column d ops (sound column d ops) small h
sound column d (End ∷ ops) small h = sound_end column d ops small h
sound column d (Done ∷ ops) small h = sound_done column d ops small h
sound column d (op ∷ ops) small h = sound_step column d op ops (sound column d ops) small h

-- what the walk accepts has a structure
pub accepted : (column : Column) (ops : List Op) → accepts column (Some (Inside 0)) ops ≡ true → IsCode column ops (block_of ops)
accepted column ops h = one_open column ops (frames_of ops) (sound column 0 ops (omega arith) h)
  where
    one_open : (column : Column) (ops : List Op) (blocks : List Block) → IsStack column 0 ops blocks → IsCode column ops (innermost blocks)
    one_open column ops [] s = absurd s.nested
    one_open column ops (b ∷ outer) s = let f = s.nested.0 in record { ops_are = s.ops_are; fits = f.fits; depth = omega (arith, f.depth) }

-- the other way: the walk goes through each block that fits

pub step_goes : (column : Column) (d : ℕ) (op : Op) → is_step column op ≡ true → after_inside column d op ≡ Some (Inside d)
step_goes Send d (Emit n) h = ap (λ (t : Bool). if_so t (Inside d)) h
step_goes Send d (Pad n) h = ap (λ (t : Bool). if_so t (Inside d)) h
step_goes Send d Align h = refl
step_goes Receive d Align h = refl
step_goes Receive d (Read n) h = ap (λ (t : Bool). if_so t (Inside d)) h
step_goes Receive d ReadBool h = refl
step_goes Receive d (ReadEnum n) h = ap (λ (t : Bool). if_so t (Inside d)) h
step_goes Receive d ReadChar h = refl
step_goes Receive d (Skip n) h = ap (λ (t : Bool). if_so t (Inside d)) h
step_goes Receive d ReadText h = refl
step_goes column d op h = absurd (cc)

-- the walk goes through instructions inside so many loops and comes out as deep
abbrev pub Passes : Column → ℕ → List Op → Type 0
Passes column d ops = (rest : List Op) → accepts column (Some (Inside d)) (ops ++ rest) ≡ accepts column (Some (Inside d)) rest

-- a loop's instructions after the one that begins it
abbrev pub PassesOut : Column → ℕ → List Op → Type 0
PassesOut column d ops = (rest : List Op) → accepts column (Some (Inside (d + 1))) (ops ++ rest) ≡ accepts column (Some (Inside d)) rest

back_goes : (column : Column) (d : ℕ) → after_inside column (d + 1) Back ≡ Some (Inside d)
back_goes column d =
    let e : d + 1 - 1 ≡ d = omega arith in
    let t : nat_lt 0 (d + 1) ≡ true = lt-ltb 0 (d + 1) (omega arith) in
    ap (λ (b : Bool). if_so b (Inside (d + 1 - 1))) t ∙ ap (λ (k : ℕ). Some (Inside k)) e

comes_out : (column : Column) (d : ℕ) (ops : List Op) → Passes column (suc d) ops → PassesOut column d (ops ++ Back ∷ [])
comes_out column d ops p rest =
    let through : accepts column (Some (Inside (d + 1))) (ops ++ (Back ∷ rest)) ≡ accepts column (Some (Inside (d + 1))) (Back ∷ rest) = rw add-one (p (Back ∷ rest)) in
    ap (λ (x : List Op). accepts column (Some (Inside (d + 1))) x) (append_assoc ops (Back ∷ []) rest)
    ∙ through
    ∙ ap (λ (s : Option WalkState). accepts column s rest) (back_goes column d)

opens : (column : Column) (d n : ℕ) → is_within 1024 n ≡ true → d < 8 → after_inside column d (Times n) ≡ Some (Inside (d + 1))
opens column d n e small = ap (λ (t : Bool). if_so t (Inside (d + 1))) (both e (lt-ltb d 8 small))

counts : (column : Column) (d most : ℕ) → is_within 4096 most ≡ true → after_inside column d (length_op column most) ≡ Some (AfterLength d)
counts Send d most e = ap (λ (t : Bool). if_so t (AfterLength d)) e
counts Receive d most e = ap (λ (t : Bool). if_so t (AfterLength d)) e

each_opens : (d : ℕ) → d < 8 → after_length d Each ≡ Some (Inside (d + 1))
each_opens d small = ap (λ (t : Bool). if_so t (Inside (d + 1))) (lt-ltb d 8 small)

times_pass : (column : Column) (d n : ℕ) (body : List Op) → is_within 1024 n ≡ true → d < 8 → PassesOut column d body → Passes column d (Times n ∷ body)
times_pass column d n body e small out rest = ap (λ (s : Option WalkState). accepts column s (body ++ rest)) (opens column d n e small) ∙ out rest

counted_pass : (column : Column) (d most : ℕ) (body : List Op) → is_within 4096 most ≡ true → d < 8 → PassesOut column d body → Passes column d (length_op column most ∷ Each ∷ body)
counted_pass column d most body e small out rest =
    ap (λ (s : Option WalkState). accepts column s (Each ∷ (body ++ rest))) (counts column d most e)
    ∙ ap (λ (s : Option WalkState). accepts column s (body ++ rest)) (each_opens d small)
    ∙ out rest

joined_pass : (column : Column) (d : ℕ) (xs ys : List Op) → Passes column d xs → Passes column d ys → Passes column d (xs ++ ys)
joined_pass column d xs ys p q rest = ap (λ (x : List Op). accepts column (Some (Inside d)) x) (append_assoc xs ys rest) ∙ p (ys ++ rest) ∙ q rest

mutual
  piece_passes : (column : Column) (d : ℕ) (p : Piece) → piece_fits column p ≡ true → piece_depth p + d ≤ 8 → Passes column d (piece_ops column p)
  piece_passes column d (one op) fits deep rest = ap (λ (s : Option WalkState). accepts column s rest) (step_goes column d op fits)
  piece_passes column d (times n b) fits deep rest =
      let body = block_passes column (suc d) b (second_so (is_within 1024 n) (block_fits column b) fits) (omega (arith, deep)) in
      times_pass column d n (block_ops column b ++ Back ∷ []) (first_so (is_within 1024 n) (block_fits column b) fits) (omega (arith, deep)) (comes_out column d (block_ops column b) body) rest
  piece_passes column d (counted most b) fits deep rest =
      let body = block_passes column (suc d) b (second_so (is_within 4096 most) (block_fits column b) fits) (omega (arith, deep)) in
      counted_pass column d most (block_ops column b ++ Back ∷ []) (first_so (is_within 4096 most) (block_fits column b) fits) (omega (arith, deep)) (comes_out column d (block_ops column b) body) rest

  block_passes : (column : Column) (d : ℕ) (b : Block) → block_fits column b ≡ true → block_depth b + d ≤ 8 → Passes column d (block_ops column b)
  block_passes column d finished fits deep rest = refl
  block_passes column d (next p b) fits deep rest =
      joined_pass column d (piece_ops column p) (block_ops column b)
      (piece_passes column d p (first_so (piece_fits column p) (block_fits column b) fits) (omega (arith, deep)))
      (block_passes column d b (second_so (piece_fits column p) (block_fits column b) fits) (omega (arith, deep))) rest

ends : (column : Column) → accepts column (Some (Inside 0)) (last_op column ∷ []) ≡ true
ends Send = refl
ends Receive = refl

-- code that has a structure is accepted
pub accepts_code : (column : Column) (ops : List Op) (b : Block) → IsCode column ops b → accepts column (Some (Inside 0)) ops ≡ true
accepts_code column ops b c =
    ap (λ (x : List Op). accepts column (Some (Inside 0)) x) c.ops_are
    ∙ block_passes column 0 b c.fits (omega (arith, c.depth)) (last_op column ∷ [])
    ∙ ends column

-- a block in front of what is left of the innermost one
abbrev pub onto : Block → List Block → List Block
onto finished blocks = blocks
onto (next p b) blocks = starts_with p (onto b blocks)

onto_finished : (b : Block) (outer : List Block) → onto b (finished ∷ outer) ≡ b ∷ outer
onto_finished finished outer = refl
onto_finished (next p b) outer = ap (starts_with p) (onto_finished b outer)

-- the frames before a block are those behind it with the block in front
body_frames : (column : Column) (b : Block) (rest : List Op) → ((more : List Op) → frames_of (block_ops column b ++ more) ≡ onto b (frames_of more))
    → frames_of ((block_ops column b ++ Back ∷ []) ++ rest) ≡ b ∷ frames_of rest
body_frames column b rest f =
    ap frames_of (append_assoc (block_ops column b) (Back ∷ []) rest) ∙ f (Back ∷ rest) ∙ onto_finished b (frames_of rest)

counted_frames : (column : Column) (most : ℕ) (ops : List Op) → frames_of (length_op column most ∷ Each ∷ ops) ≡ closes (counted most) (frames_of ops)
counted_frames Send most ops = refl
counted_frames Receive most ops = refl

mutual
  piece_frames : (column : Column) (p : Piece) → piece_fits column p ≡ true → (rest : List Op) → frames_of (piece_ops column p ++ rest) ≡ starts_with p (frames_of rest)
  piece_frames column (one op) fits rest = step_frames column op rest fits
  piece_frames column (times n b) fits rest =
      ap (closes (times n)) (body_frames column b rest (block_frames column b (second_so (is_within 1024 n) (block_fits column b) fits)))
  piece_frames column (counted most b) fits rest =
      counted_frames column most ((block_ops column b ++ Back ∷ []) ++ rest)
      ∙ ap (closes (counted most)) (body_frames column b rest (block_frames column b (second_so (is_within 4096 most) (block_fits column b) fits)))

  pub block_frames : (column : Column) (b : Block) → block_fits column b ≡ true → (rest : List Op) → frames_of (block_ops column b ++ rest) ≡ onto b (frames_of rest)
  block_frames column finished fits rest = refl
  block_frames column (next p b) fits rest =
      ap frames_of (append_assoc (piece_ops column p) (block_ops column b) rest)
      ∙ piece_frames column p (first_so (piece_fits column p) (block_fits column b) fits) (block_ops column b ++ rest)
      ∙ ap (starts_with p) (block_frames column b (second_so (piece_fits column p) (block_fits column b) fits) rest)

last_frames : (column : Column) → frames_of (last_op column ∷ []) ≡ finished ∷ []
last_frames Send = refl
last_frames Receive = refl

-- at the first instruction of code its whole structure is left
pub whole_frames : (column : Column) (ops : List Op) (b : Block) → IsCode column ops b → frames_of ops ≡ b ∷ []
whole_frames column ops b c =
    ap frames_of c.ops_are ∙ block_frames column b c.fits (last_op column ∷ []) ∙ ap (onto b) (last_frames column) ∙ onto_finished b []

pub structure_is : (column : Column) (ops : List Op) (b : Block) → IsCode column ops b → block_of ops ≡ b
structure_is column ops b c = ap innermost (whole_frames column ops b c)

-- the last instruction tells the column
pub column_is : (column : Column) (ops : List Op) (b : Block) → IsCode column ops b → slice_get ops (length ops - 1) ≡ Some (last_op column)
column_is column ops b c = ap (λ (x : List Op). slice_get x (length x - 1)) c.ops_are ∙ get_last (block_ops column b) (last_op column)
  where
    get_last : (xs : List Op) (x : Op) → slice_get (xs ++ x ∷ []) (length (xs ++ x ∷ []) - 1) ≡ Some x
    get_last xs x =
        let long : length (xs ++ x ∷ []) ≡ length xs + 1 = length-append xs (x ∷ []) in
        let at : length (xs ++ x ∷ []) - 1 ≡ length xs = omega (arith, long) in
        ap (λ (k : ℕ). slice_get (xs ++ x ∷ []) k) at
        ∙ slice_get-get_or (xs ++ x ∷ []) (length xs) x (omega (arith, long))
        ∙ ap Some (get_or-append_seam xs x [] x)

same_column : (column column2 : Column) → last_op column ≡ last_op column2 → column ≡ column2
same_column Send Send e = refl
same_column Send Receive e = cc
same_column Receive Send e = cc
same_column Receive Receive e = refl

-- code has one structure and one column
pub one_structure : OneStructure
one_structure ops column column2 block block2 c c2 =
    let e : Some (last_op column) ≡ Some (last_op column2) = sym (column_is column ops block c) ∙ column_is column2 ops block2 c2 in
    (same_column column column2 (cc), sym (structure_is column ops block c) ∙ structure_is column2 ops block2 c2)
