-- One instruction of send code: what is given from the location after it.
use Rattle.std.proofs.Common.{◌≡◌, ℕ, zero, suc, ◌+◌, ◌-◌, ◌%◌, ◌^◌, ◌<◌, ◌≤◌, Bool, true, false, ◌&&◌, List, [], ◌∷◌, ◌++◌, Option, Some, length, drop, refl, sym, ◌∙◌, ap, subst, arith, append_assoc, add-one}
use Rattle.std.specs.Prelude.{nat_lt, ◌==◌}
use Rattle.std.specs.Cmp.{first_so, second_so}
use Rattle.std.proofs.lemmas.List.{drop-drop}
use borrow.Author.Tests.{ltb-true, eqb-true, leb-true}
use Rattle.std.proofs.Common.{lit<, leb}
use Rattle.fl_stub.specs.declared.op.Op.{Op}
use Rattle.fl_stub.specs.declared.op.Op.TheVariants.{Emit, Pad, Align, Length, Times, Each, Back, End}
use Rattle.fl_stub.specs.declared.op.Column.{Column}
use Rattle.fl_stub.specs.declared.op.Column.TheVariants.{Send}
use Rattle.fl_stub.specs.declared.walk.WalkState.{WalkState}
use Rattle.fl_stub.specs.declared.walk.WalkState.TheVariants.{Inside, AfterLength, Ended}
use Rattle.fl_stub.specs.Structure.{Piece, one, times, counted, Block, finished, is_step, is_within, IsCode}
use Rattle.fl_stub.specs.Frames.{starts_with, closes, frames_of, innermost, block_of}
use Rattle.fl_stub.specs.Meaning.{move_of, number_bytes}
use Rattle.fl_stub.specs.Walk.{accepts}
use Rattle.fl_stub.specs.Given.{Given, Giver, first_of_tape, rest_of_tape, nothing_given, then_given, number_given, move_given, turn_given, turns_given, block_given}
use Rattle.fl_stub.specs.Locations.{TheLoop, TheEndLocation, outer, after_given, open_given, location_given, bytes_from, IsPlace, LoopsStand, IsLocation, StepsTo}
use Rattle.fl_stub.proofs.Stacks.{IsOpen, goes_on, step_frames}
use Rattle.fl_stub.proofs.Structures.{sound, step_goes, accepts_code}
use Rattle.fl_stub.proofs.Steady.{Alike, steady_open}

then_assoc : (g : Given) (f h : Giver) → then_given (then_given g f) h ≡ then_given g (λ at tape. then_given (f at tape) h)
then_assoc g f h =
    let mid = f g.at g.tape in
    let last = h mid.at mid.tape in
    let e : (g.bytes ++ mid.bytes) ++ last.bytes ≡ g.bytes ++ (mid.bytes ++ last.bytes) = append_assoc g.bytes mid.bytes last.bytes in
    let k : (g.steps + mid.steps) + last.steps ≡ g.steps + (mid.steps + last.steps) = omega arith in
    λ i. record { bytes = e i; at = last.at; tape = last.tape; steps = k i }

-- the open blocks that a place tells
opened : (ops : List Op) (d : ℕ) (rest : List Op) → d ≤ 8 → accepts Send (Some (Inside d)) rest ≡ true → IsOpen Send d (frames_of rest)
opened ops d rest small h = (sound Send d rest small h).nested

-- an instruction that is no loop

step_open : (ops : List Op) (op : Op) (d : ℕ) (blocks : List Block) (loops : List TheLoop) (at : ℕ) (tape : List ℕ) → IsOpen Send d blocks
    → open_given ops (starts_with (one op) blocks) loops at tape ≡ then_given (move_given (move_of op) at tape) (open_given ops blocks loops)
step_open ops op d [] loops at tape h = absurd h
step_open ops op d (b ∷ around) loops at tape h = then_assoc (move_given (move_of op) at tape) (block_given b) (after_given ops around loops)

pub same_outer : (p : Piece) (blocks : List Block) → outer (starts_with p blocks) ≡ outer blocks
same_outer p [] = refl
same_outer p (b ∷ around) = refl

pub step_place_in : (column : Column) (op : Op) (d : ℕ) (rest : List Op) → is_step column op ≡ true → accepts column (Some (Inside d)) (op ∷ rest) ≡ true → accepts column (Some (Inside d)) rest ≡ true
step_place_in column op d rest so h = sym (ap (λ (s : Option WalkState). accepts column s rest) (step_goes column d op so)) ∙ h

pub step_place : (op : Op) (d : ℕ) (rest : List Op) → is_step Send op ≡ true → accepts Send (Some (Inside d)) (op ∷ rest) ≡ true → accepts Send (Some (Inside d)) rest ≡ true
step_place op d rest so h = step_place_in Send op d rest so h

no_bytes : (width value : ℕ) (more : List ℕ) → width ≡ 0 → number_bytes width value ++ more ≡ more
no_bytes width value more e = ap (λ (w : ℕ). number_bytes w value ++ more) e

-- one step, and its bytes pending
pub moved : (ops : List Op) (s : TheEndLocation) (op : Op) (value width : ℕ) → drop s.place ops ≡ op ∷ drop (s.place + 1) ops → IsLocation ops s → s.width ≡ 0 → is_step Send op ≡ true
    → (move_given (move_of op) s.at s.tape).bytes ≡ number_bytes width value → (move_given (move_of op) s.at s.tape).steps ≡ 1 → width ≤ 8 → value < 256 ^ width
    → StepsTo ops s (record { place = s.place + 1; loops = s.loops; tape = (move_given (move_of op) s.at s.tape).tape; at = (move_given (move_of op) s.at s.tape).at % 8; value = value; width = width })
moved ops s op value width e location idle so bytes steps few small =
    let d = length s.loops in
    let rest = drop (s.place + 1) ops in
    let g = move_given (move_of op) s.at s.tape in
    let here : accepts Send (Some (Inside d)) (op ∷ rest) ≡ true = subst (λ (x : List Op). accepts Send (Some (Inside d)) x ≡ true) e location.place in
    let there = step_place op d rest so here in
    let frames : frames_of (drop s.place ops) ≡ starts_with (one op) (frames_of rest) = ap frames_of e ∙ step_frames Send op rest so in
    let given : location_given ops s ≡ then_given g (open_given ops (frames_of rest) s.loops)
    = ap (λ (x : List Block). open_given ops x s.loops s.at s.tape) frames ∙ step_open ops op d (frames_of rest) s.loops s.at s.tape (opened ops d rest location.depth there) in
    let alike : Alike (open_given ops (frames_of rest) s.loops g.at g.tape) (open_given ops (frames_of rest) s.loops (g.at % 8) g.tape)
    = steady_open ops (frames_of rest) s.loops g.at (g.at % 8) g.tape (omega arith) in
    let around : outer (frames_of (drop s.place ops)) ≡ outer (frames_of rest) = ap outer frames ∙ same_outer (one op) (frames_of rest) in
    record {
      location = record { depth = location.depth; place = there; loops = subst (λ (x : List Block). LoopsStand ops x s.loops) around location.loops; width = few; value = small };
      bytes = no_bytes s.width s.value (location_given ops s).bytes idle
          ∙ ap (λ (x : Given). x.bytes) given
          ∙ ap (λ (x : List ℕ). x ++ (open_given ops (frames_of rest) s.loops g.at g.tape).bytes) bytes
          ∙ ap (λ (x : List ℕ). number_bytes width value ++ x) alike.bytes;
      steps = ap (λ (x : Given). x.steps) given
          ∙ ap (λ (k : ℕ). k + (open_given ops (frames_of rest) s.loops g.at g.tape).steps) steps
          ∙ omega (arith, alike.steps);
    }

-- loops

-- a turn, its end, and the turns after it
one_turn : (f : Giver) (k : ℕ) (h : Giver) (at : ℕ) (tape : List ℕ)
    → then_given (turns_given f (suc k) at tape) h ≡ then_given (f at tape) (λ at tape. then_given (turn_given at tape) (λ at tape. then_given (turns_given f k at tape) h))
one_turn f k h at tape =
    then_assoc (then_given (f at tape) turn_given) (turns_given f k) h
    ∙ then_assoc (f at tape) turn_given (λ at tape. then_given (turns_given f k at tape) h)

-- one thing and a given one
abbrev joined : Given → Given → Given
joined g h = record { bytes = g.bytes ++ h.bytes; at = h.at; tape = h.tape; steps = g.steps + h.steps }

nothing_then : (f : Giver) (at : ℕ) (tape : List ℕ) → then_given (nothing_given at tape) f ≡ f at tape
nothing_then f at tape =
    let g = f at tape in
    let e : 0 + g.steps ≡ g.steps = omega arith in
    λ i. record { bytes = g.bytes; at = g.at; tape = g.tape; steps = e i }

-- the loop's turns after this one, and then the blocks around it
abbrev turns_left : List Op → List Block → ℕ → ℕ → List TheLoop → Giver
turns_left ops blocks start turns loops at tape =
    then_given (turns_given (block_given (block_of (drop start ops))) turns at tape) (λ at tape. then_given (block_given (innermost blocks) at tape) (after_given ops (outer blocks) loops))

-- the first of them begins at the loop's beginning
turns_again : (ops : List Op) (blocks : List Block) (start k : ℕ) (loops : List TheLoop) (at : ℕ) (tape : List ℕ)
    → turns_left ops blocks start (suc k) loops at tape ≡ then_given (block_given (block_of (drop start ops)) at tape) (after_given ops blocks ((record { start = start; turns = k }) ∷ loops))
turns_again ops blocks start k loops at tape =
    one_turn (block_given (block_of (drop start ops))) k (λ at tape. then_given (block_given (innermost blocks) at tape) (after_given ops (outer blocks) loops)) at tape

-- without any, the blocks around it go on
turns_over : (ops : List Op) (blocks : List Block) (start : ℕ) (loops : List TheLoop) (at : ℕ) (tape : List ℕ) → turns_left ops blocks start zero loops at tape ≡ open_given ops blocks loops at tape
turns_over ops blocks start loops at tape = nothing_then (open_given ops blocks loops) at tape

pub closes_outer : (loop : Block → Piece) (blocks : List Block) → outer (closes loop blocks) ≡ outer (outer blocks)
closes_outer loop [] = refl
closes_outer loop (b ∷ around) = same_outer (loop b) around

times_open : (ops : List Op) (d n start : ℕ) (blocks : List Block) (loops : List TheLoop) (at : ℕ) (tape : List ℕ) → IsOpen Send (suc d) blocks → block_of (drop start ops) ≡ innermost blocks
    → open_given ops (closes (times n) blocks) loops at tape ≡ joined (turn_given at tape) (turns_left ops (outer blocks) start n loops at tape)
times_open ops d n start [] loops at tape h e = absurd h
times_open ops d n start (body ∷ []) loops at tape h e = absurd (h.1)
times_open ops d n start (body ∷ c ∷ around) loops at tape h e =
    let after : Giver = after_given ops around loops in
    let turns : Giver = turns_given (block_given body) n in
    then_assoc (then_given (turn_given at tape) turns) (block_given c) after
    ∙ then_assoc (turn_given at tape) turns (λ at tape. then_given (block_given c at tape) after)
    ∙ ap (λ (b : Block). joined (turn_given at tape) (then_given (turns_given (block_given b) n at tape) (λ at tape. then_given (block_given c at tape) after))) (sym e)

counted_open : (ops : List Op) (d most start : ℕ) (blocks : List Block) (loops : List TheLoop) (at : ℕ) (tape : List ℕ) → IsOpen Send (suc d) blocks → block_of (drop start ops) ≡ innermost blocks
    → open_given ops (closes (counted most) blocks) loops at tape
    ≡ joined (number_given 8 at tape) (turns_left ops (outer blocks) start (first_of_tape tape) loops (at + 8) (rest_of_tape tape))
counted_open ops d most start [] loops at tape h e = absurd h
counted_open ops d most start (body ∷ []) loops at tape h e = absurd (h.1)
counted_open ops d most start (body ∷ c ∷ around) loops at tape h e =
    let after : Giver = after_given ops around loops in
    let turns : Giver = turns_given (block_given body) (first_of_tape tape) in
    then_assoc (then_given (number_given 8 at tape) turns) (block_given c) after
    ∙ then_assoc (number_given 8 at tape) turns (λ at tape. then_given (block_given c at tape) after)
    ∙ ap (λ (b : Block). joined (number_given 8 at tape) (then_given (turns_given (block_given b) (first_of_tape tape) (at + 8) (rest_of_tape tape)) (λ at tape. then_given (block_given c at tape) after))) (sym e)

-- a block's beginning and what stands around it, by its blocks
begins : (ops : List Op) (blocks : List Block) (loops : List TheLoop) (at : ℕ) (tape : List ℕ)
    → then_given (block_given (innermost blocks) at tape) (after_given ops (outer blocks) loops) ≡ open_given ops blocks loops at tape
begins ops blocks loops at tape = refl

pub same_place : (d : ℕ) (rest : List Op) → accepts Send (Some (Inside (d + 1))) rest ≡ true → accepts Send (Some (Inside (suc d))) rest ≡ true
same_place d rest h = subst (λ (k : ℕ). accepts Send (Some (Inside k)) rest ≡ true) (add-one d) h

-- a loop of so many turns begins
pub looped : (ops : List Op) (s : TheEndLocation) (n k : ℕ) → drop s.place ops ≡ Times n ∷ drop (s.place + 1) ops → IsLocation ops s → n ≡ suc k
    → StepsTo ops s (record s { place = s.place + 1; loops = (record { start = s.place + 1; turns = k }) ∷ s.loops })
looped ops s n k e location many =
    let d = length s.loops in
    let rest = drop (s.place + 1) ops in
    let here : accepts Send (Some (Inside d)) (Times n ∷ rest) ≡ true = subst (λ (x : List Op). accepts Send (Some (Inside d)) x ≡ true) e location.place in
    let g = goes_on Send (is_within 1024 n && nat_lt d 8) (Inside (d + 1)) rest here in
    let deep : d < 8 = ltb-true d 8 (second_so (is_within 1024 n) (nat_lt d 8) g.so) in
    let there = same_place d rest g.on in
    let frames : frames_of (drop s.place ops) ≡ closes (times n) (frames_of rest) = ap frames_of e in
    let around : outer (frames_of (drop s.place ops)) ≡ outer (outer (frames_of rest)) = ap outer frames ∙ closes_outer (times n) (frames_of rest) in
    let given : location_given ops s ≡ joined (turn_given s.at s.tape) (open_given ops (frames_of rest) ((record { start = s.place + 1; turns = k }) ∷ s.loops) s.at s.tape)
    = ap (λ (x : List Block). open_given ops x s.loops s.at s.tape) frames
    ∙ times_open ops d n (s.place + 1) (frames_of rest) s.loops s.at s.tape (opened ops (suc d) rest (omega arith) there) refl
    ∙ ap (λ (z : ℕ). joined (turn_given s.at s.tape) (turns_left ops (outer (frames_of rest)) (s.place + 1) z s.loops s.at s.tape)) many
    ∙ ap (joined (turn_given s.at s.tape)) (turns_again ops (outer (frames_of rest)) (s.place + 1) k s.loops s.at s.tape) in
    record {
      location = record {
        depth = omega (arith, deep);
        place = there;
        loops = (there, refl, subst (λ (x : List Block). LoopsStand ops x s.loops) around location.loops);
        width = location.width;
        value = location.value;
      };
      bytes = ap (λ (x : Given). number_bytes s.width s.value ++ x.bytes) given;
      steps = ap (λ (x : Given). x.steps) given ∙ omega arith;
    }

-- the end of a turn that isn't the last
pub again : (ops : List Op) (s : TheEndLocation) (l : TheLoop) (loops : List TheLoop) (k : ℕ) → drop s.place ops ≡ Back ∷ drop (s.place + 1) ops → IsLocation ops s → s.loops ≡ l ∷ loops → l.turns ≡ suc k
    → StepsTo ops s (record s { place = l.start; loops = (record { start = l.start; turns = k }) ∷ loops })
again ops s l loops k e location is many =
    let rest = drop (s.place + 1) ops in
    let frames : frames_of (drop s.place ops) ≡ finished ∷ frames_of rest = ap frames_of e in
    let stand : LoopsStand ops (frames_of rest) (l ∷ loops)
    = subst (λ (x : List TheLoop). LoopsStand ops (frames_of rest) x) is (subst (λ (x : List Block). LoopsStand ops (outer x) s.loops) frames location.loops) in
    let next : List TheLoop = (record { start = l.start; turns = k }) ∷ loops in
    let given : location_given ops s ≡ joined (turn_given s.at s.tape) (open_given ops (frames_of (drop l.start ops)) next s.at s.tape)
    = ap (λ (x : List Block). open_given ops x s.loops s.at s.tape) frames
    ∙ ap (λ (x : List TheLoop). open_given ops (finished ∷ frames_of rest) x s.at s.tape) is
    ∙ nothing_then (after_given ops (frames_of rest) (l ∷ loops)) s.at s.tape
    ∙ ap (λ (z : ℕ). joined (turn_given s.at s.tape) (turns_left ops (frames_of rest) l.start z loops s.at s.tape)) many
    ∙ ap (joined (turn_given s.at s.tape)) (turns_again ops (frames_of rest) l.start k loops s.at s.tape)
    ∙ ap (λ (x : List Block). joined (turn_given s.at s.tape) (then_given (block_given (block_of (drop l.start ops)) s.at s.tape) (after_given ops x next))) (sym stand.1) in
    record {
      location = record {
        depth = subst (λ (x : List TheLoop). length x ≤ 8) is location.depth;
        place = stand.0;
        loops = subst (λ (x : List Block). LoopsStand ops x next) (sym stand.1) (stand.0, stand.1, stand.2);
        width = location.width;
        value = location.value;
      };
      bytes = ap (λ (x : Given). number_bytes s.width s.value ++ x.bytes) given;
      steps = ap (λ (x : Given). x.steps) given ∙ omega arith;
    }

-- the end of a loop's last turn
pub over : (ops : List Op) (s : TheEndLocation) (l : TheLoop) (loops : List TheLoop) → drop s.place ops ≡ Back ∷ drop (s.place + 1) ops → IsLocation ops s → s.loops ≡ l ∷ loops → l.turns ≡ 0
    → StepsTo ops s (record s { place = s.place + 1; loops = loops })
over ops s l loops e location is none =
    let d = length loops in
    let rest = drop (s.place + 1) ops in
    let frames : frames_of (drop s.place ops) ≡ finished ∷ frames_of rest = ap frames_of e in
    let stand : LoopsStand ops (frames_of rest) (l ∷ loops)
    = subst (λ (x : List TheLoop). LoopsStand ops (frames_of rest) x) is (subst (λ (x : List Block). LoopsStand ops (outer x) s.loops) frames location.loops) in
    let deep : suc d ≤ 8 = subst (λ (x : List TheLoop). length x ≤ 8) is location.depth in
    let here : accepts Send (Some (Inside (suc d))) (Back ∷ rest) ≡ true
    = subst (λ (x : List TheLoop). accepts Send (Some (Inside (length x))) (Back ∷ rest) ≡ true) is (subst (λ (x : List Op). accepts Send (Some (Inside (length s.loops))) x ≡ true) e location.place) in
    let g = goes_on Send (nat_lt 0 (suc d)) (Inside (suc d - 1)) rest here in
    let less : suc d - 1 ≡ d = omega arith in
    let given : location_given ops s ≡ joined (turn_given s.at s.tape) (open_given ops (frames_of rest) loops s.at s.tape)
    = ap (λ (x : List Block). open_given ops x s.loops s.at s.tape) frames
    ∙ ap (λ (x : List TheLoop). open_given ops (finished ∷ frames_of rest) x s.at s.tape) is
    ∙ nothing_then (after_given ops (frames_of rest) (l ∷ loops)) s.at s.tape
    ∙ ap (λ (z : ℕ). joined (turn_given s.at s.tape) (turns_left ops (frames_of rest) l.start z loops s.at s.tape)) none
    ∙ ap (joined (turn_given s.at s.tape)) (turns_over ops (frames_of rest) l.start loops s.at s.tape) in
    record {
      location = record {
        depth = omega (arith, deep);
        place = subst (λ (k : ℕ). accepts Send (Some (Inside k)) rest ≡ true) less g.on;
        loops = stand.2;
        width = location.width;
        value = location.value;
      };
      bytes = ap (λ (x : Given). number_bytes s.width s.value ++ x.bytes) given;
      steps = ap (λ (x : Given). x.steps) given ∙ omega arith;
    }

-- a length, and the loop that it counts

pub record AtEach (d : ℕ) (rest : List Op) : Type 0 where
  pub is : rest ≡ Each ∷ drop 1 rest
  pub deep : d < 8
  pub on : accepts Send (Some (Inside (suc d))) (drop 1 rest) ≡ true

at_each : (d : ℕ) (rest : List Op) → accepts Send (Some (AfterLength d)) rest ≡ true → AtEach d rest
at_each d (Each ∷ rest) h =
    let g = goes_on Send (nat_lt d 8) (Inside (d + 1)) rest h in
    record { is = refl; deep = ltb-true d 8 g.so; on = same_place d rest g.on }
at_each d rest h = absurd (cc)

-- what stands at a length: the loop that it counts
pub record AtLength (ops : List Op) (s : TheEndLocation) (most : ℕ) : Type 0 where
  pub deep : length s.loops < 8
  pub body : accepts Send (Some (Inside (suc (length s.loops)))) (drop (s.place + 2) ops) ≡ true
  pub around : outer (frames_of (drop s.place ops)) ≡ outer (outer (frames_of (drop (s.place + 2) ops)))
  pub given : location_given ops s
      ≡ joined (number_given 8 s.at s.tape) (turns_left ops (outer (frames_of (drop (s.place + 2) ops))) (s.place + 2) (first_of_tape s.tape) s.loops (s.at + 8) (rest_of_tape s.tape))

pub at_length : (ops : List Op) (s : TheEndLocation) (most : ℕ) → drop s.place ops ≡ Length most ∷ drop (s.place + 1) ops → IsLocation ops s → AtLength ops s most
at_length ops s most e location =
    let d = length s.loops in
    let rest = drop (s.place + 1) ops in
    let here : accepts Send (Some (Inside d)) (Length most ∷ rest) ≡ true = subst (λ (x : List Op). accepts Send (Some (Inside d)) x ≡ true) e location.place in
    let g = goes_on Send (is_within 4096 most) (AfterLength d) rest here in
    let next = at_each d rest g.on in
    let two : drop 1 rest ≡ drop (s.place + 2) ops = drop-drop 1 (s.place + 1) ops ∙ ap (λ (k : ℕ). drop k ops) (omega arith) in
    let there : accepts Send (Some (Inside (suc d))) (drop (s.place + 2) ops) ≡ true = subst (λ (x : List Op). accepts Send (Some (Inside (suc d))) x ≡ true) two next.on in
    let blocks = frames_of (drop (s.place + 2) ops) in
    let frames : frames_of (drop s.place ops) ≡ closes (counted most) blocks
    = ap frames_of e ∙ ap (λ (x : List Op). frames_of (Length most ∷ x)) next.is ∙ ap (λ (x : List Op). closes (counted most) (frames_of x)) two in
    record {
      deep = next.deep;
      body = there;
      around = ap outer frames ∙ closes_outer (counted most) blocks;
      given = ap (λ (x : List Block). open_given ops x s.loops s.at s.tape) frames
          ∙ counted_open ops d most (s.place + 2) blocks s.loops s.at s.tape (opened ops (suc d) (drop (s.place + 2) ops) (let z = next.deep in omega (arith, z)) there) refl;
    }

-- what a length gives: itself in 8 bytes, and then what is given from the location after it
by_length : (ops : List Op) (s t : TheEndLocation) (blocks : List Block) → s.width ≡ 0 → t.width ≡ 8 → t.value ≡ first_of_tape s.tape → t.at ≡ s.at → t.tape ≡ rest_of_tape s.tape
    → blocks ≡ frames_of (drop t.place ops)
    → location_given ops s ≡ joined (number_given 8 s.at s.tape) (open_given ops blocks t.loops (s.at + 8) (rest_of_tape s.tape))
    → (bytes_from ops s ≡ bytes_from ops t) × ((location_given ops s).steps ≡ suc (location_given ops t).steps)
by_length ops s t blocks idle wide is at tape frames given =
    let later = open_given ops blocks t.loops (s.at + 8) (rest_of_tape s.tape) in
    let alike : Alike later (open_given ops blocks t.loops s.at (rest_of_tape s.tape)) = steady_open ops blocks t.loops (s.at + 8) s.at (rest_of_tape s.tape) (omega arith) in
    let same : open_given ops blocks t.loops s.at (rest_of_tape s.tape) ≡ location_given ops t
    = ap (λ (x : List Block). open_given ops x t.loops s.at (rest_of_tape s.tape)) frames
    ∙ ap (λ (k : ℕ). open_given ops (frames_of (drop t.place ops)) t.loops k (rest_of_tape s.tape)) (sym at)
    ∙ ap (λ (x : List ℕ). open_given ops (frames_of (drop t.place ops)) t.loops t.at x) (sym tape) in
    let number : number_bytes 8 (first_of_tape s.tape) ≡ number_bytes t.width t.value
    = ap (λ (k : ℕ). number_bytes 8 k) (sym is) ∙ ap (λ (w : ℕ). number_bytes w t.value) (sym wide) in (
      no_bytes s.width s.value (location_given ops s).bytes idle
          ∙ ap (λ (x : Given). x.bytes) given
          ∙ ap (λ (x : List ℕ). x ++ later.bytes) number
          ∙ ap (λ (x : List ℕ). number_bytes t.width t.value ++ x) (alike.bytes ∙ ap (λ (x : Given). x.bytes) same),
      ap (λ (x : Given). x.steps) given
          ∙ ap (λ (k : ℕ). 1 + k) (alike.steps ∙ ap (λ (x : Given). x.steps) same)
          ∙ omega arith,
    )

-- a length of some turns
pub counts : (ops : List Op) (s : TheEndLocation) (most k : ℕ) → drop s.place ops ≡ Length most ∷ drop (s.place + 1) ops → IsLocation ops s → s.width ≡ 0
    → first_of_tape s.tape ≡ suc k → suc k < 2 ^ 64
    → StepsTo ops s (record s { place = s.place + 2; loops = (record { start = s.place + 2; turns = k }) ∷ s.loops; tape = rest_of_tape s.tape; value = suc k; width = 8 })
counts ops s most k e location idle is fits =
    let a = at_length ops s most e location in
    let blocks = frames_of (drop (s.place + 2) ops) in
    let t : TheEndLocation = record s { place = s.place + 2; loops = (record { start = s.place + 2; turns = k }) ∷ s.loops; tape = rest_of_tape s.tape; value = suc k; width = 8 } in
    let given : location_given ops s ≡ joined (number_given 8 s.at s.tape) (open_given ops blocks t.loops (s.at + 8) (rest_of_tape s.tape))
    = a.given
    ∙ ap (λ (z : ℕ). joined (number_given 8 s.at s.tape) (turns_left ops (outer blocks) (s.place + 2) z s.loops (s.at + 8) (rest_of_tape s.tape))) is
    ∙ ap (joined (number_given 8 s.at s.tape)) (turns_again ops (outer blocks) (s.place + 2) k s.loops (s.at + 8) (rest_of_tape s.tape)) in
    let both = by_length ops s t blocks idle refl (sym is) refl refl refl given in
    record {
      location = record {
        depth = let z = a.deep in omega (arith, z);
        place = a.body;
        loops = (a.body, refl, subst (λ (x : List Block). LoopsStand ops x s.loops) a.around location.loops);
        width = omega arith;
        value = fits;
      };
      bytes = both.0;
      steps = both.1;
    }

-- a length of no turns: the loop is passed over
pub counts_none : (ops : List Op) (s : TheEndLocation) (most place : ℕ) → drop s.place ops ≡ Length most ∷ drop (s.place + 1) ops → IsLocation ops s → s.width ≡ 0
    → first_of_tape s.tape ≡ 0 → IsPlace ops (length s.loops) place → frames_of (drop place ops) ≡ outer (frames_of (drop (s.place + 2) ops))
    → StepsTo ops s (record s { place = place; tape = rest_of_tape s.tape; value = 0; width = 8 })
counts_none ops s most place e location idle is there frames =
    let a = at_length ops s most e location in
    let blocks = outer (frames_of (drop (s.place + 2) ops)) in
    let t : TheEndLocation = record s { place = place; tape = rest_of_tape s.tape; value = 0; width = 8 } in
    let given : location_given ops s ≡ joined (number_given 8 s.at s.tape) (open_given ops blocks s.loops (s.at + 8) (rest_of_tape s.tape))
    = a.given
    ∙ ap (λ (z : ℕ). joined (number_given 8 s.at s.tape) (turns_left ops blocks (s.place + 2) z s.loops (s.at + 8) (rest_of_tape s.tape))) is
    ∙ ap (joined (number_given 8 s.at s.tape)) (turns_over ops blocks (s.place + 2) s.loops (s.at + 8) (rest_of_tape s.tape)) in
    let both = by_length ops s t blocks idle refl (sym is) refl refl (sym frames) given in
    let around : outer (frames_of (drop s.place ops)) ≡ outer (frames_of (drop place ops)) = a.around ∙ ap outer (sym frames) in
    record {
      location = record {
        depth = location.depth;
        place = there;
        loops = subst (λ (x : List Block). LoopsStand ops x s.loops) around location.loops;
        width = omega arith;
        value = lit< tt;
      };
      bytes = both.0;
      steps = both.1;
    }

-- the end of the code

no_loops : (loops : List TheLoop) → length loops ≡ 0 → loops ≡ []
no_loops [] e = refl
no_loops (l ∷ loops) e = absurd (omega (arith, e))

pub at_end : (ops : List Op) (s : TheEndLocation) (rest : List Op) → drop s.place ops ≡ End ∷ rest → IsLocation ops s → s.width ≡ 0 → bytes_from ops s ≡ []
at_end ops s rest e location idle =
    let d = length s.loops in
    let here : accepts Send (Some (Inside d)) (End ∷ rest) ≡ true = subst (λ (x : List Op). accepts Send (Some (Inside d)) x ≡ true) e location.place in
    let g = goes_on Send (d == 0) Ended rest here in
    let none = no_loops s.loops (eqb-true d 0 g.so) in
    no_bytes s.width s.value (location_given ops s).bytes idle
    ∙ ap (λ (x : List Op). (open_given ops (frames_of x) s.loops s.at s.tape).bytes) e
    ∙ ap (λ (x : List TheLoop). (open_given ops (finished ∷ []) x s.at s.tape).bytes) none

-- an instruction that ends a loop is inside one
pub at_back : (ops : List Op) (s : TheEndLocation) (rest : List Op) → drop s.place ops ≡ Back ∷ rest → IsLocation ops s → 0 < length s.loops
at_back ops s rest e location =
    let d = length s.loops in
    let here : accepts Send (Some (Inside d)) (Back ∷ rest) ≡ true = subst (λ (x : List Op). accepts Send (Some (Inside d)) x ≡ true) e location.place in
    let g = goes_on Send (nat_lt 0 d) (Inside (d - 1)) rest here in
    ltb-true 0 d g.so

-- a location is not behind the last instruction
pub not_past : (ops : List Op) (s : TheEndLocation) → drop s.place ops ≡ [] → IsLocation ops s → ⊥
not_past ops s e location =
    let here : accepts Send (Some (Inside (length s.loops))) [] ≡ true = subst (λ (x : List Op). accepts Send (Some (Inside (length s.loops))) x ≡ true) e location.place in
    absurd (cc)

-- other instructions of send code are steps
abbrev pub is_loop_op : Op → Bool
is_loop_op (Times n) = true
is_loop_op (Length most) = true
is_loop_op Back = true
is_loop_op End = true
is_loop_op op = false

step_at : (op : Op) (d : ℕ) (rest : List Op) → is_loop_op op ≡ false → accepts Send (Some (Inside d)) (op ∷ rest) ≡ true → is_step Send op ≡ true
step_at (Times n) d rest e h = absurd (cc)
step_at (Length n) d rest e h = absurd (cc)
step_at Back d rest e h = absurd (cc)
step_at End d rest e h = absurd (cc)
step_at (Emit n) d rest e h = (goes_on Send (is_step Send (Emit n)) (Inside d) rest h).so
step_at (Pad n) d rest e h = (goes_on Send (is_step Send (Pad n)) (Inside d) rest h).so
step_at Align d rest e h = refl
step_at op d rest e h = absurd (cc)

pub at_step : (ops : List Op) (s : TheEndLocation) (op : Op) (rest : List Op) → drop s.place ops ≡ op ∷ rest → IsLocation ops s → is_loop_op op ≡ false → is_step Send op ≡ true
at_step ops s op rest e location plain = step_at op (length s.loops) rest plain (subst (λ (x : List Op). accepts Send (Some (Inside (length s.loops))) x ≡ true) e location.place)

-- a loop of so many turns has one, and room is left for it
pub at_times : (ops : List Op) (s : TheEndLocation) (n : ℕ) (rest : List Op) → drop s.place ops ≡ Times n ∷ rest → IsLocation ops s → (1 ≤ n) × (length s.loops < 8)
at_times ops s n rest e location =
    let d = length s.loops in
    let here : accepts Send (Some (Inside d)) (Times n ∷ rest) ≡ true = subst (λ (x : List Op). accepts Send (Some (Inside d)) x ≡ true) e location.place in
    let g = goes_on Send (is_within 1024 n && nat_lt d 8) (Inside (d + 1)) rest here in
    (leb-true 1 n (first_so (leb 1 n) (leb n 1024) (first_so (is_within 1024 n) (nat_lt d 8) g.so)), ltb-true d 8 (second_so (is_within 1024 n) (nat_lt d 8) g.so))

-- the first instruction of send code
pub first_place : (ops : List Op) (b : Block) → IsCode Send ops b → IsPlace ops 0 0
first_place ops b code = accepts_code Send ops b code
