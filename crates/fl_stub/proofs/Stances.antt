-- Where a machine stands in receive code: one instruction, as a step in the tree of what is left.
use Rattle.std.proofs.Common.{◌≡◌, ℕ, zero, suc, ◌+◌, ◌-◌, ◌%◌, ◌<◌, ◌≤◌, ◌⊎◌, inl, inr, true, false, ◌&&◌, leb, List, [], ◌∷◌, Some, length, drop, refl, sym, ◌∙◌, ap, subst, arith, add-one}
use Rattle.std.specs.Prelude.{nat_lt, ◌==◌}
use Rattle.std.specs.Cmp.{first_so, second_so}
use Rattle.std.proofs.lemmas.List.{drop-drop}
use borrow.Author.Tests.{ltb-true, eqb-true, eqb-false, leb-true}
use Rattle.fl_stub.specs.declared.op.Op.{Op}
use Rattle.fl_stub.specs.declared.op.Column.TheVariants.{Receive}
use Rattle.fl_stub.specs.declared.op.Op.TheVariants.{Align, Times, Each, Back, Read, ReadBool, ReadEnum, ReadChar, Skip, ReadLength, ReadText, Done}
use Rattle.fl_stub.specs.declared.walk.WalkState.TheVariants.{Inside, AfterLength, Ended}
use Rattle.fl_stub.specs.Structure.{one, times, counted, Block, finished, is_step, is_width, is_within, IsCode}
use Rattle.fl_stub.specs.Frames.{starts_with, closes, frames_of, innermost, block_of}
use Rattle.fl_stub.specs.declared.mark.ByteKind.TheVariants.{Length as LengthMark}
use Rattle.fl_stub.specs.Meaning.{OpMove, number, zeros, zeros_to_8, move_of, gap_to_8}
use Rattle.fl_stub.specs.Walk.{accepts}
use Rattle.fl_stub.specs.Locations.{TheLoop, outer}
use Rattle.fl_stub.specs.Rests.{TheField, Rest, no_more, goes_by, takes, field_of, length_field, rest_field, rest_turns, rest_block, rest_after, rest_open, rest_from, rest_all, left_behind, taken_field, is_taken, is_silent, ReceiveLoops, IsStance, Reaches}
use Rattle.fl_stub.proofs.Stacks.{IsOpen, goes_on, step_frames}
use Rattle.fl_stub.proofs.Structures.{sound, accepts_code, whole_frames}
use Rattle.fl_stub.proofs.Steps.{same_outer, closes_outer, step_place_in}
use Rattle.fl_stub.proofs.Trees.{all_sound}
use Rattle.fl_stub.proofs.Reaching.{reach_first}

-- the open blocks that a place tells
opened : (ops : List Op) (d : ℕ) → d ≤ 8 → accepts Receive (Some (Inside d)) ops ≡ true → IsOpen Receive d (frames_of ops)
opened ops d small h = (sound Receive d ops small h).nested

here : (ops : List Op) (place : ℕ) (loops : List TheLoop) (rest : List Op) → drop place ops ≡ rest → IsStance ops place loops → accepts Receive (Some (Inside (length loops))) rest ≡ true
here ops place loops rest e s = subst (λ (x : List Op). accepts Receive (Some (Inside (length loops))) x ≡ true) e s.place

-- a step, and what is left after it
pub record Stepped (ops : List Op) (place : ℕ) (loops : List TheLoop) (op : Op) : Type 0 where
  pub stance : IsStance ops (place + 1) loops
  pub rest : (at : ℕ) → rest_from ops place loops at ≡ rest_field (field_of (move_of op) at) (rest_from ops (place + 1) loops) at

open_step : (ops : List Op) (op : Op) (d : ℕ) (blocks : List Block) (loops : List TheLoop) (at : ℕ) → IsOpen Receive d blocks
    → rest_open ops (starts_with (one op) blocks) loops at ≡ rest_field (field_of (move_of op) at) (rest_open ops blocks loops) at
open_step ops op d [] loops at h = absurd h
open_step ops op d (b ∷ around) loops at h = refl

pub stepped_stance : (ops : List Op) (place : ℕ) (loops : List TheLoop) (op : Op) → drop place ops ≡ op ∷ drop (place + 1) ops → IsStance ops place loops → is_step Receive op ≡ true → Stepped ops place loops op
stepped_stance ops place loops op e s so =
    let d = length loops in
    let rest = drop (place + 1) ops in
    let there = step_place_in Receive op d rest so (here ops place loops (op ∷ rest) e s) in
    let frames : frames_of (drop place ops) ≡ starts_with (one op) (frames_of rest) = ap frames_of e ∙ step_frames Receive op rest so in
    record {
      stance = record {
        depth = s.depth;
        place = there;
        loops = subst (λ (x : List Block). ReceiveLoops ops x loops) (ap outer frames ∙ same_outer (one op) (frames_of rest)) s.loops;
      };
      rest = λ at. ap (λ (x : List Block). rest_open ops x loops at) frames ∙ open_step ops op d (frames_of rest) loops at (opened rest d s.depth there);
    }

-- a step that takes nothing, and what is left after it
pub record Passed (ops : List Op) (place : ℕ) (loops : List TheLoop) (place2 : ℕ) (loops2 : List TheLoop) : Type 0 where
  pub stance : IsStance ops place2 loops2
  pub rest : (at : ℕ) → rest_from ops place loops at ≡ goes_by (rest_from ops place2 loops2 at)

open_times : (ops : List Op) (d n k start : ℕ) (blocks : List Block) (loops : List TheLoop) (at : ℕ) → IsOpen Receive (suc d) blocks → block_of (drop start ops) ≡ innermost blocks → n ≡ suc k
    → rest_open ops (closes (times n) blocks) loops at ≡ goes_by (rest_open ops blocks ((record { start = start; turns = k }) ∷ loops) at)
open_times ops d n k start [] loops at h e many = absurd h
open_times ops d n k start (body ∷ []) loops at h e many = absurd (h.1)
open_times ops d n k start (body ∷ c ∷ around) loops at h e many =
    ap (λ (z : ℕ). goes_by (rest_turns (rest_block body) z (rest_block c (rest_after ops around loops)) at)) many
    ∙ ap (λ (b : Block). goes_by (rest_block body (λ at. goes_by (rest_turns (rest_block b) k (rest_block c (rest_after ops around loops)) at)) at)) (sym e)

deeper : (d : ℕ) (rest : List Op) → accepts Receive (Some (Inside (d + 1))) rest ≡ true → accepts Receive (Some (Inside (suc d))) rest ≡ true
deeper d rest h = subst (λ (k : ℕ). accepts Receive (Some (Inside k)) rest ≡ true) (add-one d) h

pub times_fits : (ops : List Op) (place n : ℕ) (loops : List TheLoop) → drop place ops ≡ Times n ∷ drop (place + 1) ops → IsStance ops place loops → (1 ≤ n) × (length loops < 8)
times_fits ops place n loops e s =
    let d = length loops in
    let g = goes_on Receive (is_within 1024 n && nat_lt d 8) (Inside (d + 1)) (drop (place + 1) ops) (here ops place loops (Times n ∷ drop (place + 1) ops) e s) in
    (leb-true 1 n (first_so (leb 1 n) (leb n 1024) (first_so (is_within 1024 n) (nat_lt d 8) g.so)), ltb-true d 8 (second_so (is_within 1024 n) (nat_lt d 8) g.so))

pub times_stance : (ops : List Op) (place n k : ℕ) (loops : List TheLoop) → drop place ops ≡ Times n ∷ drop (place + 1) ops → IsStance ops place loops → n ≡ suc k
    → Passed ops place loops (place + 1) ((record { start = place + 1; turns = k }) ∷ loops)
times_stance ops place n k loops e s many =
    let d = length loops in
    let rest = drop (place + 1) ops in
    let g = goes_on Receive (is_within 1024 n && nat_lt d 8) (Inside (d + 1)) rest (here ops place loops (Times n ∷ rest) e s) in
    let deep = (times_fits ops place n loops e s).1 in
    let there = deeper d rest g.on in
    let frames : frames_of (drop place ops) ≡ closes (times n) (frames_of rest) = ap frames_of e in
    record {
      stance = record {
        depth = omega (arith, deep);
        place = there;
        loops = (there, refl, subst (λ (x : List Block). ReceiveLoops ops x loops) (ap outer frames ∙ closes_outer (times n) (frames_of rest)) s.loops);
      };
      rest = λ at. ap (λ (x : List Block). rest_open ops x loops at) frames ∙ open_times ops d n k (place + 1) (frames_of rest) loops at (opened rest (suc d) (omega (arith, deep)) there) refl many;
    }

pub back_fits : (ops : List Op) (place : ℕ) (loops : List TheLoop) → drop place ops ≡ Back ∷ drop (place + 1) ops → IsStance ops place loops → 0 < length loops
back_fits ops place loops e s =
    let d = length loops in
    ltb-true 0 d (goes_on Receive (nat_lt 0 d) (Inside (d - 1)) (drop (place + 1) ops) (here ops place loops (Back ∷ drop (place + 1) ops) e s)).so

-- what stands around a loop's end
around : (ops : List Op) (place : ℕ) (l : TheLoop) (loops : List TheLoop) → drop place ops ≡ Back ∷ drop (place + 1) ops → IsStance ops place (l ∷ loops) → ReceiveLoops ops (frames_of (drop (place + 1) ops)) (l ∷ loops)
around ops place l loops e s = subst (λ (x : List Block). ReceiveLoops ops (outer x) (l ∷ loops)) (ap frames_of e) s.loops

-- the end of a turn that is not the last
pub again_stance : (ops : List Op) (place k : ℕ) (l : TheLoop) (loops : List TheLoop) → drop place ops ≡ Back ∷ drop (place + 1) ops → IsStance ops place (l ∷ loops) → l.turns ≡ suc k
    → Passed ops place (l ∷ loops) l.start ((record { start = l.start; turns = k }) ∷ loops)
again_stance ops place k l loops e s many =
    let rest = drop (place + 1) ops in
    let blocks = frames_of rest in
    let stand = around ops place l loops e s in
    let next : List TheLoop = (record { start = l.start; turns = k }) ∷ loops in
    let body = rest_block (block_of (drop l.start ops)) in
    record {
      stance = record { depth = s.depth; place = stand.0; loops = subst (λ (x : List Block). ReceiveLoops ops x next) (sym stand.1) (stand.0, stand.1, stand.2) };
      rest = λ at.
          ap (λ (x : List Op). rest_open ops (frames_of x) (l ∷ loops) at) e
          ∙ ap (λ (z : ℕ). goes_by (rest_turns body z (rest_block (innermost blocks) (rest_after ops (outer blocks) loops)) at)) many
          ∙ ap (λ (x : List Block). goes_by (body (rest_after ops x next) at)) (sym stand.1);
    }

-- the end of a loop's last turn
pub over_stance : (ops : List Op) (place : ℕ) (l : TheLoop) (loops : List TheLoop) → drop place ops ≡ Back ∷ drop (place + 1) ops → IsStance ops place (l ∷ loops) → l.turns ≡ 0
    → Passed ops place (l ∷ loops) (place + 1) loops
over_stance ops place l loops e s none =
    let d = length loops in
    let rest = drop (place + 1) ops in
    let blocks = frames_of rest in
    let stand = around ops place l loops e s in
    let g = goes_on Receive (nat_lt 0 (suc d)) (Inside (suc d - 1)) rest (here ops place (l ∷ loops) (Back ∷ rest) e s) in
    let less : suc d - 1 ≡ d = omega arith in
    let deep = s.depth in
    let body = rest_block (block_of (drop l.start ops)) in
    record {
      stance = record { depth = omega (arith, deep); place = subst (λ (k : ℕ). accepts Receive (Some (Inside k)) rest ≡ true) less g.on; loops = stand.2 };
      rest = λ at.
          ap (λ (x : List Op). rest_open ops (frames_of x) (l ∷ loops) at) e
          ∙ ap (λ (z : ℕ). goes_by (rest_turns body z (rest_block (innermost blocks) (rest_after ops (outer blocks) loops)) at)) none;
    }

-- a length, and the loop that it counts

at_each : (d : ℕ) (rest : List Op) → accepts Receive (Some (AfterLength d)) rest ≡ true → (rest ≡ Each ∷ drop 1 rest) × (d < 8) × (accepts Receive (Some (Inside (suc d))) (drop 1 rest) ≡ true)
at_each d (Each ∷ rest) h =
    let g = goes_on Receive (nat_lt d 8) (Inside (d + 1)) rest h in
    (refl, ltb-true d 8 g.so, deeper d rest g.on)
at_each d rest h = absurd (cc)

pub record Counted (ops : List Op) (place most : ℕ) (loops : List TheLoop) : Type 0 where
  pub deep : length loops < 8
  pub body : accepts Receive (Some (Inside (suc (length loops)))) (drop (place + 2) ops) ≡ true
  pub fits : is_within 4096 most ≡ true
  pub around : outer (frames_of (drop place ops)) ≡ outer (outer (frames_of (drop (place + 2) ops)))
  pub rest : (at : ℕ) → rest_from ops place loops at
      ≡ takes (length_field most) (λ x. rest_turns (rest_block (block_of (drop (place + 2) ops))) x (rest_open ops (outer (frames_of (drop (place + 2) ops))) loops) (at + 8))

open_counted : (ops : List Op) (d most : ℕ) (blocks : List Block) (loops : List TheLoop) (at : ℕ) → IsOpen Receive (suc d) blocks
    → rest_open ops (closes (counted most) blocks) loops at ≡ takes (length_field most) (λ x. rest_turns (rest_block (innermost blocks)) x (rest_open ops (outer blocks) loops) (at + 8))
open_counted ops d most [] loops at h = absurd h
open_counted ops d most (body ∷ []) loops at h = absurd (h.1)
open_counted ops d most (body ∷ c ∷ around) loops at h = refl

pub length_stance : (ops : List Op) (place most : ℕ) (loops : List TheLoop) → drop place ops ≡ ReadLength most ∷ drop (place + 1) ops → IsStance ops place loops → Counted ops place most loops
length_stance ops place most loops e s =
    let d = length loops in
    let rest = drop (place + 1) ops in
    let g = goes_on Receive (is_within 4096 most) (AfterLength d) rest (here ops place loops (ReadLength most ∷ rest) e s) in
    let (is, deep, on) = at_each d rest g.on in
    let two : drop 1 rest ≡ drop (place + 2) ops = drop-drop 1 (place + 1) ops ∙ ap (λ (k : ℕ). drop k ops) (omega arith) in
    let there : accepts Receive (Some (Inside (suc d))) (drop (place + 2) ops) ≡ true = subst (λ (x : List Op). accepts Receive (Some (Inside (suc d))) x ≡ true) two on in
    let blocks = frames_of (drop (place + 2) ops) in
    let frames : frames_of (drop place ops) ≡ closes (counted most) blocks
    = ap frames_of e ∙ ap (λ (x : List Op). frames_of (ReadLength most ∷ x)) is ∙ ap (λ (x : List Op). closes (counted most) (frames_of x)) two in
    record {
      deep = deep;
      body = there;
      fits = g.so;
      around = ap outer frames ∙ closes_outer (counted most) blocks;
      rest = λ at. ap (λ (x : List Block). rest_open ops x loops at) frames ∙ open_counted ops d most blocks loops at (opened (drop (place + 2) ops) (suc d) (omega (arith, deep)) there);
    }

-- what is left after a length
pub record AfterLengthOf (ops : List Op) (place most x : ℕ) (loops : List TheLoop) (place2 : ℕ) (loops2 : List TheLoop) : Type 0 where
  pub stance : IsStance ops place2 loops2
  pub rest : (at : ℕ) → left_behind (rest_from ops place loops at) x ≡ rest_from ops place2 loops2 (at + 8)

pub turns_stance : (ops : List Op) (place most k : ℕ) (loops : List TheLoop) → drop place ops ≡ ReadLength most ∷ drop (place + 1) ops → IsStance ops place loops
    → AfterLengthOf ops place most (suc k) loops (place + 2) ((record { start = place + 2; turns = k }) ∷ loops)
turns_stance ops place most k loops e s =
    let c = length_stance ops place most loops e s in
    let deep = c.deep in
    record {
      stance = record { depth = omega (arith, deep); place = c.body; loops = (c.body, refl, subst (λ (x : List Block). ReceiveLoops ops x loops) c.around s.loops) };
      rest = λ at. ap (λ (r : Rest). left_behind r (suc k)) (c.rest at);
    }

pub skips_stance : (ops : List Op) (place most place2 : ℕ) (loops : List TheLoop) → drop place ops ≡ ReadLength most ∷ drop (place + 1) ops → IsStance ops place loops
    → accepts Receive (Some (Inside (length loops))) (drop place2 ops) ≡ true → frames_of (drop place2 ops) ≡ outer (frames_of (drop (place + 2) ops))
    → AfterLengthOf ops place most 0 loops place2 loops
skips_stance ops place most place2 loops e s there frames =
    let c = length_stance ops place most loops e s in
    record {
      stance = record { depth = s.depth; place = there; loops = subst (λ (x : List Block). ReceiveLoops ops x loops) (c.around ∙ ap outer (sym frames)) s.loops };
      rest = λ at. ap (λ (r : Rest). left_behind r 0) (c.rest at) ∙ ap (λ (x : List Block). rest_open ops x loops (at + 8)) (sym frames);
    }

-- the end of the code

no_loops : (loops : List TheLoop) → length loops ≡ 0 → loops ≡ []
no_loops [] e = refl
no_loops (l ∷ loops) e = absurd (omega (arith, e))

pub done_stance : (ops : List Op) (place : ℕ) (loops : List TheLoop) → drop place ops ≡ Done ∷ drop (place + 1) ops → IsStance ops place loops → (at : ℕ) → rest_from ops place loops at ≡ no_more
done_stance ops place loops e s at =
    let d = length loops in
    let g = goes_on Receive (d == 0) Ended (drop (place + 1) ops) (here ops place loops (Done ∷ drop (place + 1) ops) e s) in
    ap (λ (x : List Op). rest_open ops (frames_of x) loops at) e ∙ ap (λ (x : List TheLoop). rest_open ops (finished ∷ []) x at) (no_loops loops (eqb-true d 0 g.so))

pub never_past : (ops : List Op) (place : ℕ) (loops : List TheLoop) → drop place ops ≡ [] → IsStance ops place loops → ⊥
never_past ops place loops e s = let z = here ops place loops [] e s in absurd (cc)

-- an instruction that does not pass takes bytes, or is the last
some_bytes : (n : ℕ) → is_within 7 n ≡ true → 0 < n
some_bytes n h = let z : 1 ≤ n = leb-true 1 n (first_so (leb 1 n) (leb n 7) h) in omega (arith, z)

some_width : (n : ℕ) → is_width n ≡ true → 0 < n
some_width zero h = absurd (cc)
some_width (suc n) h = omega arith

pub record Takes (op : Op) (phase : ℕ) : Type 0 where
  pub taken : is_taken op ≡ true
  pub wide : (at : ℕ) → phase % 8 ≡ at % 8 → 0 < (taken_field op at).width

gap_some : (phase at : ℕ) → (phase % 8 == 0) ≡ false → phase % 8 ≡ at % 8 → 0 < gap_to_8 at
gap_some phase at e same = omega (arith, eqb-false (phase % 8) 0 e, same)

pub takes_or_ends : (op : Op) (phase d : ℕ) (rest : List Op) → accepts Receive (Some (Inside d)) (op ∷ rest) ≡ true → is_silent op phase ≡ false → Takes op phase ⊎ (op ≡ Done)
takes_or_ends (Read n) phase d rest h quiet = let g = goes_on Receive (is_width n) (Inside d) rest h in inl (record { taken = g.so; wide = λ at same. some_width n g.so })
takes_or_ends ReadBool phase d rest h quiet = inl (record { taken = refl; wide = λ at same. omega arith })
takes_or_ends (ReadEnum n) phase d rest h quiet = let g = goes_on Receive (is_within 4294967296 n) (Inside d) rest h in inl (record { taken = g.so; wide = λ at same. omega arith })
takes_or_ends ReadChar phase d rest h quiet = inl (record { taken = refl; wide = λ at same. omega arith })
takes_or_ends ReadText phase d rest h quiet = inl (record { taken = refl; wide = λ at same. omega arith })
takes_or_ends (Skip n) phase d rest h quiet = let g = goes_on Receive (is_within 7 n) (Inside d) rest h in inl (record { taken = g.so; wide = λ at same. some_bytes n g.so })
takes_or_ends Align phase d rest h quiet = inl (record { taken = refl; wide = λ at same. gap_some phase at quiet same })
takes_or_ends (ReadLength most) phase d rest h quiet = let g = goes_on Receive (is_within 4096 most) (AfterLength d) rest h in inl (record { taken = g.so; wide = λ at same. omega arith })
takes_or_ends Done phase d rest h quiet = inr refl
takes_or_ends (Times n) phase d rest h quiet = absurd (cc)
takes_or_ends Back phase d rest h quiet = absurd (cc)
takes_or_ends op phase d rest h quiet = absurd (cc)

-- at the first instruction
pub first_stance : (ops : List Op) (b : Block) → IsCode Receive ops b → IsStance ops 0 []
first_stance ops b code = record { depth = omega arith; place = accepts_code Receive ops b code; loops = tt }

pub first_reach : (ops : List Op) → IsCode Receive ops (block_of ops) → Reaches (rest_all (block_of ops)) (rest_from ops 0 [] 0) [] []
first_reach ops code =
    let b = block_of ops in
    let is : rest_from ops 0 [] 0 ≡ rest_all b = ap (λ (x : List Block). rest_open ops x [] 0) (whole_frames Receive ops b code) in
    subst (λ (r : Rest). Reaches (rest_all b) r [] []) (sym is) (reach_first b (all_sound b code.fits))

pub stance_takes : (ops : List Op) (place : ℕ) (loops : List TheLoop) (op : Op) (phase : ℕ) → drop place ops ≡ op ∷ drop (place + 1) ops → IsStance ops place loops → is_silent op phase ≡ false
    → Takes op phase ⊎ (op ≡ Done)
stance_takes ops place loops op phase e s quiet = takes_or_ends op phase (length loops) (drop (place + 1) ops) (here ops place loops (op ∷ drop (place + 1) ops) e s) quiet

-- an instruction that takes bytes is a step or a length
pub record IsLength (op : Op) : Type 0 where
  pub most : ℕ
  pub is : op ≡ ReadLength most

pub record IsStraightStep (op : Op) : Type 0 where
  pub step : is_step Receive op ≡ true
  pub field : (at : ℕ) → taken_field op at ≡ field_of (move_of op) at

pub step_or_length : (op : Op) → is_taken op ≡ true → IsStraightStep op ⊎ IsLength op
step_or_length (ReadLength most) h = inr (record { most = most; is = refl })
step_or_length (Read n) h = inl (record { step = h; field = λ at. refl })
step_or_length ReadBool h = inl (record { step = h; field = λ at. refl })
step_or_length (ReadEnum n) h = inl (record { step = h; field = λ at. refl })
step_or_length ReadChar h = inl (record { step = h; field = λ at. refl })
step_or_length ReadText h = inl (record { step = h; field = λ at. refl })
step_or_length (Skip n) h = inl (record { step = h; field = λ at. refl })
step_or_length Align h = inl (record { step = h; field = λ at. refl })
step_or_length op h = absurd (cc)

pub no_length : (move : OpMove) (at : ℕ) → (field_of move at).mark ≡ LengthMark → ⊥
no_length (number width least bound) at e = absurd (cc)
no_length (zeros count) at e = absurd (cc)
no_length zeros_to_8 at e = absurd (cc)

-- what is left where an instruction takes bytes
pub stance_field : (ops : List Op) (place : ℕ) (loops : List TheLoop) (op : Op) → drop place ops ≡ op ∷ drop (place + 1) ops → IsStance ops place loops → is_taken op ≡ true
    → (at : ℕ) → rest_from ops place loops at ≡ takes (taken_field op at) (left_behind (rest_from ops place loops at))
stance_field ops place loops op e s taken at = by_kind (step_or_length op taken)
  where
    whole : (r : Rest) (f : TheField) (k : ℕ → Rest) → r ≡ takes f k → r ≡ takes f (left_behind r)
    whole r f k e = e ∙ ap (λ (q : Rest). takes f (left_behind q)) (sym e)

    by_kind : IsStraightStep op ⊎ IsLength op → rest_from ops place loops at ≡ takes (taken_field op at) (left_behind (rest_from ops place loops at))
    by_kind (inl p) =
        let st = stepped_stance ops place loops op e s p.step in
        let f = field_of (move_of op) at in
        subst (λ (g : TheField). rest_from ops place loops at ≡ takes g (left_behind (rest_from ops place loops at))) (sym (p.field at)) (whole (rest_from ops place loops at) f _ (st.rest at))
    by_kind (inr l) =
        let c = length_stance ops place l.most loops (e ∙ ap (λ (o : Op). o ∷ drop (place + 1) ops) l.is) s in
        subst (λ (o : Op). rest_from ops place loops at ≡ takes (taken_field o at) (left_behind (rest_from ops place loops at))) (sym l.is) (whole (rest_from ops place loops at) (length_field l.most) _ (c.rest at))
