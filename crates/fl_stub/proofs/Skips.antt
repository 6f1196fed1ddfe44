-- Passing over a loop: where its end is, by a count of the loops inside it.
use Rattle.std.proofs.Common.{◌≡◌, ℕ, zero, suc, ◌+◌, ◌-◌, Bool, true, false, ◌&&◌, ◌⊎◌, inl, inr, List, [], ◌∷◌, Some, sym, ◌∙◌, ap, subst, arith, add-one}
use Rattle.std.specs.Prelude.{nat_lt, ◌==◌}
use borrow.Author.Tests.{eqb-true}
use Rattle.std.specs.Cmp.{second_so}
use Rattle.fl_stub.specs.declared.op.Op.{Op}
use Rattle.fl_stub.specs.declared.op.Op.TheVariants.{Emit, Pad, Align, Length, Times, Each, Back, End, Read, ReadBool, ReadEnum, ReadChar, Skip, ReadLength, ReadText, Done}
use Rattle.fl_stub.specs.declared.op.Column.{Column}
use Rattle.fl_stub.specs.declared.op.Column.TheVariants.{Send, Receive}
use Rattle.fl_stub.specs.declared.walk.WalkState.TheVariants.{Inside, AfterLength, Ended}
use Rattle.fl_stub.specs.Structure.{one, times, counted, Block, is_step, is_within}
use Rattle.fl_stub.specs.Frames.{frames_of}
use Rattle.fl_stub.specs.Walk.{accepts, is_send, is_receive}
use Rattle.fl_stub.specs.Locations.{outer}
use Rattle.fl_stub.proofs.Stacks.{goes_on, step_frames}
use Rattle.fl_stub.proofs.Steps.{same_outer, closes_outer, step_place_in}

-- the blocks around so many
abbrev pub around : ℕ → List Block → List Block
around zero blocks = blocks
around (suc k) blocks = around k (outer blocks)

-- inside a loop at some depth and so many loops more, with these blocks around that loop
pub record Inner (column : Column) (d more : ℕ) (blocks : List Block) (ops : List Op) : Type 0 where
  pub place : accepts column (Some (Inside (suc (d + more)))) ops ≡ true
  pub frames : around (suc more) (frames_of ops) ≡ blocks

-- the same directly after a length
pub record InnerEach (column : Column) (d more : ℕ) (blocks : List Block) (ops : List Op) : Type 0 where
  pub place : accepts column (Some (AfterLength (suc (d + more)))) ops ≡ true
  pub frames : around (suc (suc more)) (frames_of ops) ≡ blocks

abbrev pub Skips : Column → ℕ → ℕ → List Block → List Op → Type 0
Skips column d more blocks ops = Inner column d more blocks ops ⊎ InnerEach column d more blocks ops

-- behind the loop
pub record Behind (column : Column) (d : ℕ) (blocks : List Block) (ops : List Op) : Type 0 where
  pub place : accepts column (Some (Inside d)) ops ≡ true
  pub frames : frames_of ops ≡ blocks

deeper : (column : Column) (d more : ℕ) (ops : List Op) → accepts column (Some (Inside (suc (d + more) + 1))) ops ≡ true → accepts column (Some (Inside (suc (d + (more + 1))))) ops ≡ true
deeper column d more ops h = let e : suc (d + more) + 1 ≡ suc (d + (more + 1)) = omega arith in subst (λ (k : ℕ). accepts column (Some (Inside k)) ops ≡ true) e h

more_around : (more : ℕ) (blocks : List Block) → around (suc (more + 1)) blocks ≡ around (suc (suc more)) blocks
more_around more blocks = ap (λ (k : ℕ). around (suc k) blocks) (add-one more)

pub skip_times : (column : Column) (d more n : ℕ) (blocks : List Block) (ops : List Op) → Skips column d more blocks (Times n ∷ ops) → Skips column d (more + 1) blocks ops
skip_times column d more n blocks ops (inl i) =
    let g = goes_on column (is_within 1024 n && nat_lt (suc (d + more)) 8) (Inside (suc (d + more) + 1)) ops i.place in
    inl (record { place = deeper column d more ops g.on; frames = more_around more (frames_of ops) ∙ ap (around more) (sym (closes_outer (times n) (frames_of ops))) ∙ i.frames })
skip_times column d more n blocks ops (inr i) = let z : false ≡ true = i.place in absurd (cc)

each_is_no_step : (column : Column) → is_step column Each ≡ true → ⊥
each_is_no_step Send e = absurd (cc)
each_is_no_step Receive e = absurd (cc)

pub skip_each : (column : Column) (d more : ℕ) (blocks : List Block) (ops : List Op) → Skips column d more blocks (Each ∷ ops) → Skips column d (more + 1) blocks ops
skip_each column d more blocks ops (inl i) = absurd (each_is_no_step column (goes_on column (is_step column Each) (Inside (suc (d + more))) ops i.place).so)
skip_each column d more blocks ops (inr i) =
    let g = goes_on column (nat_lt (suc (d + more)) 8) (Inside (suc (d + more) + 1)) ops i.place in
    inl (record { place = deeper column d more ops g.on; frames = more_around more (frames_of ops) ∙ i.frames })

back_on : (column : Column) (d : ℕ) (ops : List Op) → accepts column (Some (Inside (suc d))) (Back ∷ ops) ≡ true → accepts column (Some (Inside d)) ops ≡ true
back_on column d ops h =
    let g = goes_on column (nat_lt 0 (suc d)) (Inside (suc d - 1)) ops h in
    let e : suc d - 1 ≡ d = omega arith in
    subst (λ (k : ℕ). accepts column (Some (Inside k)) ops ≡ true) e g.on

pub skip_back : (column : Column) (d more less : ℕ) (blocks : List Block) (ops : List Op) → more ≡ suc less → Skips column d more blocks (Back ∷ ops) → Skips column d less blocks ops
skip_back column d more less blocks ops e (inl i) =
    let there = back_on column (d + more) ops i.place in
    let k : d + more ≡ suc (d + less) = omega (arith, e) in
    inl (record {
      place = subst (λ (z : ℕ). accepts column (Some (Inside z)) ops ≡ true) k there;
      frames = ap (λ (z : ℕ). around z (frames_of ops)) (sym e) ∙ i.frames;
    })
skip_back column d more less blocks ops e (inr i) = let z : false ≡ true = i.place in absurd (cc)

pub skip_last : (column : Column) (d more : ℕ) (blocks : List Block) (ops : List Op) → more ≡ 0 → Skips column d more blocks (Back ∷ ops) → Behind column d blocks ops
skip_last column d more blocks ops e (inl i) =
    let there = back_on column (d + more) ops i.place in
    let k : d + more ≡ d = omega (arith, e) in
    record {
      place = subst (λ (z : ℕ). accepts column (Some (Inside z)) ops ≡ true) k there;
      frames = ap (λ (z : ℕ). around z (frames_of ops)) (sym e) ∙ i.frames;
    }
skip_last column d more blocks ops e (inr i) = let z : false ≡ true = i.place in absurd (cc)

skip_step : (column : Column) (d more : ℕ) (op : Op) (blocks : List Block) (ops : List Op) → is_step column op ≡ true → Inner column d more blocks (op ∷ ops) → Skips column d more blocks ops
skip_step column d more op blocks ops so i =
    inl (record {
      place = step_place_in column op (suc (d + more)) ops so i.place;
      frames = ap (around more) (sym (same_outer (one op) (frames_of ops)) ∙ ap outer (sym (step_frames column op ops so))) ∙ i.frames;
    })

-- instructions that neither begin nor end a loop
abbrev pub is_turn : Op → Bool
is_turn (Times n) = true
is_turn Each = true
is_turn Back = true
is_turn op = false

pub skip_other : (column : Column) (d more : ℕ) (op : Op) (blocks : List Block) (ops : List Op) → is_turn op ≡ false → Skips column d more blocks (op ∷ ops) → Skips column d more blocks ops
skip_other column d more (Emit n) blocks ops e (inl i) = skip_step column d more (Emit n) blocks ops (goes_on column (is_step column (Emit n)) (Inside (suc (d + more))) ops i.place).so i
skip_other column d more (Pad n) blocks ops e (inl i) = skip_step column d more (Pad n) blocks ops (goes_on column (is_step column (Pad n)) (Inside (suc (d + more))) ops i.place).so i
skip_other column d more Align blocks ops e (inl i) = skip_step column d more Align blocks ops (goes_on column (is_step column Align) (Inside (suc (d + more))) ops i.place).so i
skip_other column d more (Length most) blocks ops e (inl i) =
    let g = goes_on column (is_send column && is_within 4096 most) (AfterLength (suc (d + more))) ops i.place in
    inr (record { place = g.on; frames = ap (around more) (sym (closes_outer (counted most) (frames_of ops))) ∙ i.frames })
skip_other column d more (ReadLength most) blocks ops e (inl i) =
    let g = goes_on column (is_receive column && is_within 4096 most) (AfterLength (suc (d + more))) ops i.place in
    inr (record { place = g.on; frames = ap (around more) (sym (closes_outer (counted most) (frames_of ops))) ∙ i.frames })
skip_other column d more Done blocks ops e (inl i) =
    let g = goes_on column (is_receive column && suc (d + more) == 0) Ended ops i.place in
    let z : suc (d + more) ≡ 0 = eqb-true (suc (d + more)) 0 (second_so (is_receive column) (suc (d + more) == 0) g.so) in
    absurd (omega (arith, z))
skip_other column d more End blocks ops e (inl i) =
    let g = goes_on column (is_send column && suc (d + more) == 0) Ended ops i.place in
    let z : suc (d + more) ≡ 0 = eqb-true (suc (d + more)) 0 (second_so (is_send column) (suc (d + more) == 0) g.so) in
    absurd (omega (arith, z))
skip_other column d more (Read n) blocks ops e (inl i) = skip_step column d more (Read n) blocks ops (goes_on column (is_step column (Read n)) (Inside (suc (d + more))) ops i.place).so i
skip_other column d more ReadBool blocks ops e (inl i) = skip_step column d more ReadBool blocks ops (goes_on column (is_step column ReadBool) (Inside (suc (d + more))) ops i.place).so i
skip_other column d more (ReadEnum n) blocks ops e (inl i) = skip_step column d more (ReadEnum n) blocks ops (goes_on column (is_step column (ReadEnum n)) (Inside (suc (d + more))) ops i.place).so i
skip_other column d more ReadChar blocks ops e (inl i) = skip_step column d more ReadChar blocks ops (goes_on column (is_step column ReadChar) (Inside (suc (d + more))) ops i.place).so i
skip_other column d more (Skip n) blocks ops e (inl i) = skip_step column d more (Skip n) blocks ops (goes_on column (is_step column (Skip n)) (Inside (suc (d + more))) ops i.place).so i
skip_other column d more ReadText blocks ops e (inl i) = skip_step column d more ReadText blocks ops (goes_on column (is_step column ReadText) (Inside (suc (d + more))) ops i.place).so i
skip_other column d more (Times n) blocks ops e s = absurd (cc)
skip_other column d more Each blocks ops e s = absurd (cc)
skip_other column d more Back blocks ops e s = absurd (cc)
skip_other column d more op blocks ops e (inr i) = let z : false ≡ true = i.place in absurd (cc)
