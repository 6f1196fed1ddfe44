-- A cursor's instructions as steps from location to location.
use Rattle.std.proofs.Common.{◌++◌, ◌≡◌, ℕ, zero, suc, ◌+◌, ◌-◌, ◌/◌, ◌%◌, ◌^◌, ◌<◌, ◌≤◌, ◌≢◌, true, inl, inr, List, ◌∷◌, None, Some, None, length, drop, get_or, get_or-set_other, get_or-set_same, replicate, slice_get, slice_set, refl, sym, ◌∙◌, ap, subst, arith, add-one}
use Rattle.std.specs.Int.{bytes_low_first}
use Rattle.std.specs.Cmp.{second_so}
use Rattle.std.proofs.lemmas.List.{drop_more}
use Rattle.std.proofs.lemmas.Option.{slice_get_within, get_or_from_slice_get}
use Rattle.std.proofs.Math.Nat.{one-le-pow, zero-div}
use borrow.Author.Tests.{leb-true}
use Rattle.std.proofs.Common.{leb, lit<}
use Rattle.fl_stub.specs.declared.op.Op.{Op}
use Rattle.fl_stub.specs.declared.op.Column.{Column}
use Rattle.fl_stub.specs.declared.op.Op.TheVariants.{Emit, Pad, Align, Length, Times, Each, Back}
use Rattle.fl_stub.specs.Structure.{is_width, is_within}
use Rattle.fl_stub.specs.Frames.{frames_of}
use Rattle.fl_stub.specs.Meaning.{number_bytes, gap_to_8}
use Rattle.fl_stub.specs.Given.{first_of_tape, rest_of_tape}
use Rattle.fl_stub.specs.Locations.{TheLoop, TheEndLocation, IsPlace, IsLocation, StepsTo, outer}
use Rattle.fl_stub.proofs.Steps.{moved, looped, again, over, counts, counts_none, at_step, at_back, at_times, at_length}
use Rattle.fl_stub.proofs.Taking.{one_of_four, OneOfFour}
use Rattle.fl_machine.specs.declared.cursor.Loop.{Loop}
use Rattle.fl_machine.specs.declared.cursor.SendCursor.{SendCursor}
use Rattle.fl_machine.specs.Cursors.{loop_of, no_loop, loops_of, location_of, inside_after, inner_of, turns_of, IsRun}
use Rattle.fl_machine.specs.Filling.{RunOn}
use Rattle.fl_machine.proofs.Pours.{gives_all}
use Rattle.fl_stub.specs.Structure.{Block}
use Rattle.fl_stub.proofs.Skips.{Skips, Behind, skip_times, skip_each, skip_back, skip_last, skip_other}

pub at_op : {A : Type 0} → (ops : List A) (place : ℕ) (op : A) → slice_get ops place ≡ Some op → drop place ops ≡ op ∷ drop (place + 1) ops
at_op ops place op e =
    let inside = slice_get_within ops place op e in
    drop_more ops place op inside ∙ ap (λ x. x ∷ drop (place + 1) ops) (get_or_from_slice_get ops place op op e)

-- tables of loops

pub loops_length : (table : List Loop) (depth : ℕ) → length (loops_of table depth) ≡ depth
loops_length table zero = refl
loops_length table (suc depth) = ap suc (loops_length table depth)

loops_below : (table : List Loop) (at depth : ℕ) (l : Loop) → depth ≤ at → loops_of (slice_set table at l) depth ≡ loops_of table depth
loops_below table at zero l h = refl
loops_below table at (suc depth) l h =
    let other : depth ≢ at = omega (arith, h) in
    let e : get_or (slice_set table at l) depth no_loop ≡ get_or table depth no_loop = get_or-set_other table at depth l no_loop other in
    ap (λ (x : Loop). loop_of x ∷ loops_of (slice_set table at l) depth) e ∙ ap (λ (x : List TheLoop). loop_of (get_or table depth no_loop) ∷ x) (loops_below table at depth l (omega (arith, h)))

pub loops_pushed : (table : List Loop) (depth : ℕ) (l : Loop) → depth < length table → loops_of (slice_set table depth l) (depth + 1) ≡ loop_of l ∷ loops_of table depth
loops_pushed table depth l h =
    let e : get_or (slice_set table depth l) depth no_loop ≡ l = get_or-set_same table depth l no_loop h in
    ap (loops_of (slice_set table depth l)) (add-one depth)
    ∙ ap (λ (x : Loop). loop_of x ∷ loops_of (slice_set table depth l) depth) e
    ∙ ap (λ (x : List TheLoop). loop_of l ∷ x) (loops_below table depth depth l (omega arith))

pub loops_popped : (table : List Loop) (depth last : ℕ) → depth ≡ last + 1 → loops_of table depth ≡ loop_of (get_or table last no_loop) ∷ loops_of table last
loops_popped table depth last e = ap (loops_of table) (e ∙ add-one last)

-- numbers as bytes

div_zero : (n : ℕ) → 0 / n ≡ 0
div_zero n = zero-div n

zeros_from : (i n : ℕ) → replicate n 0 ≡ bytes_low_first i n 0
zeros_from i zero = refl
zeros_from zero (suc n) = ap (λ (x : List ℕ). 0 ∷ x) (zeros_from 1 n)
zeros_from (suc i) (suc n) =
    let e : 0 / 256 ^ suc i % 256 ≡ 0 = ap (λ (k : ℕ). k % 256) (div_zero (256 ^ suc i)) in
    ap (λ (x : List ℕ). 0 ∷ x) (zeros_from (suc (suc i)) n) ∙ ap (λ (b : ℕ). b ∷ bytes_low_first (suc (suc i)) n 0) (sym e)

pub zeros_bytes : (n : ℕ) → replicate n 0 ≡ number_bytes n 0
zeros_bytes n = zeros_from 0 n

pub zero_fits : (n : ℕ) → 0 < 256 ^ n
zero_fits n = let e : 1 ≤ 256 ^ n = one-le-pow n 256 (lit< tt) in omega (arith, e)

pub width_small : (width : ℕ) → is_width width ≡ true → width ≤ 8
width_small width h = by_cases (one_of_four width h)
  where
    by_cases : OneOfFour width → width ≤ 8
    by_cases (inl (inl e)) = omega (arith, e)
    by_cases (inl (inr e)) = omega (arith, e)
    by_cases (inr (inl e)) = omega (arith, e)
    by_cases (inr (inr e)) = omega (arith, e)

-- the instructions

pub steps_as : (ops : List Op) (s t u : TheEndLocation) → u ≡ t → StepsTo ops s t → StepsTo ops s u
steps_as ops s t u e h = subst (λ (x : TheEndLocation). StepsTo ops s x) (sym e) h

pub emit_fits : (ops : List Op) (tape : List ℕ) (c : SendCursor) (width : ℕ) → slice_get ops c.place ≡ Some (Emit width) → IsLocation ops (location_of tape c) → is_width width ≡ true
emit_fits ops tape c width e location = at_step ops (location_of tape c) (Emit width) (drop (c.place + 1) ops) (at_op ops c.place (Emit width) e) location refl

pub emitted : (ops : List Op) (tape : List ℕ) (old mid new : SendCursor) (width number low : ℕ) → slice_get ops old.place ≡ Some (Emit width) → IsLocation ops (location_of tape old) → old.width ≡ 0
    → number ≡ first_of_tape (drop old.next tape) → location_of tape mid ≡ record (location_of tape old) { tape = rest_of_tape (drop old.next tape) } → mid ≡ record old { next = mid.next }
    → number_bytes width low ≡ number_bytes width number → low < 256 ^ width
    → location_of tape new ≡ record (location_of tape mid) { place = mid.place + 1; at = (mid.phase + width) % 8; value = low; width = width }
    → StepsTo ops (location_of tape old) (location_of tape new)
emitted ops tape old mid new width number low op location idle is m rest bytes small n =
    let fits = emit_fits ops tape old width op location in
    let taken : number_bytes width (first_of_tape (drop old.next tape)) ≡ number_bytes width low = ap (λ (k : ℕ). number_bytes width k) (sym is) ∙ sym bytes in
    let made = moved ops (location_of tape old) (Emit width) low width (at_op ops old.place (Emit width) op) location idle fits taken refl (width_small width fits) small in
    let place : mid.place ≡ old.place = ap SendCursor.place rest in
    let phase : mid.phase ≡ old.phase = ap SendCursor.phase rest in
    let loops : loops_of mid.loops mid.depth ≡ loops_of old.loops old.depth = ap TheEndLocation.loops m in
    let left : drop mid.next tape ≡ rest_of_tape (drop old.next tape) = ap TheEndLocation.tape m in
    steps_as ops (location_of tape old) _ (location_of tape new)
    (n ∙ (λ i. record { place = place i + 1; loops = loops i; tape = left i; at = (phase i + width) % 8; value = low; width = width })) made

pub pad_fits : (ops : List Op) (tape : List ℕ) (c : SendCursor) (zeros : ℕ) → slice_get ops c.place ≡ Some (Pad zeros) → IsLocation ops (location_of tape c) → (is_within 7 zeros ≡ true) × (zeros ≤ 8)
pad_fits ops tape c zeros op location =
    let so : is_within 7 zeros ≡ true = at_step ops (location_of tape c) (Pad zeros) (drop (c.place + 1) ops) (at_op ops c.place (Pad zeros) op) location refl in
    let few : zeros ≤ 7 = leb-true zeros 7 (second_so (leb 1 zeros) (leb zeros 7) so) in
    (so, omega (arith, few))

pub padded : (ops : List Op) (tape : List ℕ) (old new : SendCursor) (zeros : ℕ) → slice_get ops old.place ≡ Some (Pad zeros) → IsLocation ops (location_of tape old) → old.width ≡ 0
    → location_of tape new ≡ record (location_of tape old) { place = old.place + 1; at = (old.phase + zeros) % 8; value = 0; width = zeros }
    → StepsTo ops (location_of tape old) (location_of tape new)
padded ops tape old new zeros op location idle n =
    let fits = pad_fits ops tape old zeros op location in
    steps_as ops (location_of tape old) _ (location_of tape new) n
    (moved ops (location_of tape old) (Pad zeros) 0 zeros (at_op ops old.place (Pad zeros) op) location idle fits.0 (zeros_bytes zeros) refl fits.1 (zero_fits zeros))

pub aligned : (ops : List Op) (tape : List ℕ) (old new : SendCursor) → slice_get ops old.place ≡ Some Align → IsLocation ops (location_of tape old) → old.width ≡ 0
    → location_of tape new ≡ record (location_of tape old) { place = old.place + 1; at = (old.phase + gap_to_8 old.phase) % 8; value = 0; width = gap_to_8 old.phase }
    → StepsTo ops (location_of tape old) (location_of tape new)
aligned ops tape old new op location idle n =
    let small : gap_to_8 old.phase ≤ 8 = omega arith in
    steps_as ops (location_of tape old) _ (location_of tape new) n
    (moved ops (location_of tape old) Align 0 (gap_to_8 old.phase) (at_op ops old.place Align op) location idle refl (zeros_bytes (gap_to_8 old.phase)) refl small (zero_fits (gap_to_8 old.phase)))

pub times_at : (ops : List Op) (tape : List ℕ) (c : SendCursor) (turns : ℕ) → slice_get ops c.place ≡ Some (Times turns) → IsLocation ops (location_of tape c) → (1 ≤ turns) × (c.depth < 8)
times_at ops tape c turns op location =
    let a = at_times ops (location_of tape c) turns (drop (c.place + 1) ops) (at_op ops c.place (Times turns) op) location in
    let d = loops_length c.loops c.depth in
    (a.0, let z = a.1 in omega (arith, z, d))

pub repeats : (ops : List Op) (tape : List ℕ) (old new : SendCursor) (turns start less : ℕ) → slice_get ops old.place ≡ Some (Times turns) → IsLocation ops (location_of tape old)
    → start ≡ old.place + 1 → turns ≡ suc less
    → location_of tape new ≡ record (location_of tape old) { place = start; loops = (record { start = start; turns = less }) ∷ loops_of old.loops old.depth }
    → StepsTo ops (location_of tape old) (location_of tape new)
repeats ops tape old new turns start less op location at many n =
    let loops : List TheLoop = loops_of old.loops old.depth in
    steps_as ops (location_of tape old) _ (location_of tape new)
    (n ∙ ap (λ (k : ℕ). record (location_of tape old) { place = k; loops = (record { start = k; turns = less }) ∷ loops }) at)
    (looped ops (location_of tape old) turns less (at_op ops old.place (Times turns) op) location many)

pub back_at : (ops : List Op) (tape : List ℕ) (c : SendCursor) → slice_get ops c.place ≡ Some Back → IsLocation ops (location_of tape c) → (1 ≤ c.depth) × (c.depth ≤ 8)
back_at ops tape c op location =
    let a = at_back ops (location_of tape c) (drop (c.place + 1) ops) (at_op ops c.place Back op) location in
    let d = loops_length c.loops c.depth in
    let deep = location.depth in
    (omega (arith, a, d), omega (arith, deep, d))

pub ended_turns : (ops : List Op) (tape : List ℕ) (old : SendCursor) → slice_get ops old.place ≡ Some Back → IsLocation ops (location_of tape old) → (get_or old.loops (old.depth - 1) no_loop).turns ≡ 0
    → StepsTo ops (location_of tape old) (location_of tape (record old { place = old.place + 1; depth = old.depth - 1 }))
ended_turns ops tape old op location none =
    let least = (back_at ops tape old op location).0 in
    let l : TheLoop = loop_of (get_or old.loops (old.depth - 1) no_loop) in
    over ops (location_of tape old) l (loops_of old.loops (old.depth - 1)) (at_op ops old.place Back op) location
    (loops_popped old.loops old.depth (old.depth - 1) (omega (arith, least))) none

pub next_turn : (ops : List Op) (tape : List ℕ) (old new : SendCursor) (start turns less : ℕ) → slice_get ops old.place ≡ Some Back → IsLocation ops (location_of tape old)
    → start ≡ (get_or old.loops (old.depth - 1) no_loop).start → turns ≡ (get_or old.loops (old.depth - 1) no_loop).turns → turns ≡ suc less
    → location_of tape new ≡ record (location_of tape old) { place = start; loops = (record { start = start; turns = less }) ∷ loops_of old.loops (old.depth - 1) }
    → StepsTo ops (location_of tape old) (location_of tape new)
next_turn ops tape old new start turns less op location at many one_more n =
    let least = (back_at ops tape old op location).0 in
    let l : TheLoop = loop_of (get_or old.loops (old.depth - 1) no_loop) in
    let loops : List TheLoop = loops_of old.loops (old.depth - 1) in
    steps_as ops (location_of tape old) _ (location_of tape new)
    (n ∙ ap (λ (k : ℕ). record (location_of tape old) { place = k; loops = (record { start = k; turns = less }) ∷ loops }) at)
    (again ops (location_of tape old) l loops less (at_op ops old.place Back op) location
    (loops_popped old.loops old.depth (old.depth - 1) (omega (arith, least))) (sym many ∙ one_more))

pub length_at : (ops : List Op) (tape : List ℕ) (c : SendCursor) (most : ℕ) → slice_get ops c.place ≡ Some (Length most) → IsLocation ops (location_of tape c)
    → (c.depth < 8) × IsPlace ops (suc (length (loops_of c.loops c.depth))) (c.place + 2)
length_at ops tape c most op location =
    let a = at_length ops (location_of tape c) most (at_op ops c.place (Length most) op) location in
    let deep = a.deep in
    (omega (arith, deep, loops_length c.loops c.depth), a.body)

pub counted_none : (ops : List Op) (tape : List ℕ) (old mid : SendCursor) (most turns start place : ℕ) → slice_get ops old.place ≡ Some (Length most) → IsLocation ops (location_of tape old) → old.width ≡ 0
    → turns ≡ first_of_tape (drop old.next tape) → location_of tape mid ≡ record (location_of tape old) { tape = rest_of_tape (drop old.next tape) } → turns ≡ 0
    → start ≡ old.place + 2
    → ((depth : ℕ) → IsPlace ops (suc depth) start → IsPlace ops depth place)
    → ((depth : ℕ) → IsPlace ops (suc depth) start → frames_of (drop place ops) ≡ outer (frames_of (drop start ops)))
    → StepsTo ops (location_of tape old) (location_of tape (record mid { place = place; value = turns; width = 8 }))
counted_none ops tape old mid most turns start place op location idle is m none at there frames =
    let d = length (loops_of old.loops old.depth) in
    let body : IsPlace ops (suc d) start = subst (λ (k : ℕ). IsPlace ops (suc d) k) (sym at) (length_at ops tape old most op location).1 in
    let behind : frames_of (drop place ops) ≡ outer (frames_of (drop (old.place + 2) ops)) = frames d body ∙ ap (λ (k : ℕ). outer (frames_of (drop k ops))) at in
    let made = counts_none ops (location_of tape old) most place (at_op ops old.place (Length most) op) location idle (sym is ∙ none) (there d body) behind in
    let e : location_of tape (record mid { place = place; value = turns; width = 8 }) ≡ record (location_of tape old) { place = place; tape = rest_of_tape (drop old.next tape); value = 0; width = 8 }
    = ap (λ (x : TheEndLocation). record x { place = place; value = turns; width = 8 }) m
    ∙ ap (λ (k : ℕ). record (location_of tape old) { place = place; tape = rest_of_tape (drop old.next tape); value = k; width = 8 }) none in
    steps_as ops (location_of tape old) _ _ e made

pub counted_turns : (ops : List Op) (tape : List ℕ) (old mid new : SendCursor) (most turns start less : ℕ) → slice_get ops old.place ≡ Some (Length most) → IsLocation ops (location_of tape old) → old.width ≡ 0
    → turns ≡ first_of_tape (drop old.next tape) → location_of tape mid ≡ record (location_of tape old) { tape = rest_of_tape (drop old.next tape) } → turns ≡ suc less → turns < 2 ^ 64
    → start ≡ old.place + 2
    → location_of tape new ≡ record (location_of tape mid) { place = start; loops = (record { start = start; turns = less }) ∷ loops_of mid.loops mid.depth; value = turns; width = 8 }
    → StepsTo ops (location_of tape old) (location_of tape new)
counted_turns ops tape old mid new most turns start less op location idle is m many fits at n =
    let made = counts ops (location_of tape old) most less (at_op ops old.place (Length most) op) location idle (sym is ∙ many) (subst (λ (k : ℕ). k < 2 ^ 64) many fits) in
    let e : location_of tape new ≡ record (location_of tape old) { place = old.place + 2; loops = (record { start = old.place + 2; turns = less }) ∷ loops_of old.loops old.depth; tape = rest_of_tape (drop old.next tape); value = suc less; width = 8 }
    = n
    ∙ ap (λ (x : TheEndLocation). record x { place = start; loops = (record { start = start; turns = less }) ∷ x.loops; value = turns; width = 8 }) m
    ∙ ap (λ (k : ℕ). record (location_of tape old) { place = k; loops = (record { start = k; turns = less }) ∷ loops_of old.loops old.depth; tape = rest_of_tape (drop old.next tape); value = turns; width = 8 }) at
    ∙ ap (λ (k : ℕ). record (location_of tape old) { place = old.place + 2; loops = (record { start = old.place + 2; turns = less }) ∷ loops_of old.loops old.depth; tape = rest_of_tape (drop old.next tape); value = k; width = 8 }) many in
    steps_as ops (location_of tape old) _ _ e made

-- passing over a loop

skip_some : (column : Column) (d inside next : ℕ) (op : Op) (blocks : List Block) (rest : List Op) → inside_after inside op ≡ Some next → Skips column d inside blocks (op ∷ rest) → Skips column d next blocks rest
skip_some column d inside next (Times n) blocks rest e s = let k : inside + 1 ≡ next = cc in subst (λ (z : ℕ). Skips column d z blocks rest) k (skip_times column d inside n blocks rest s)
skip_some column d inside next Each blocks rest e s = let k : inside + 1 ≡ next = cc in subst (λ (z : ℕ). Skips column d z blocks rest) k (skip_each column d inside blocks rest s)
skip_some column d zero next Back blocks rest e s = absurd (cc)
skip_some column d (suc less) next Back blocks rest e s = let k : less ≡ next = cc in subst (λ (z : ℕ). Skips column d z blocks rest) k (skip_back column d (suc less) less blocks rest refl s)
skip_some column d inside next op blocks rest e s = let k : inside ≡ next = cc in subst (λ (z : ℕ). Skips column d z blocks rest) k (skip_other column d inside op blocks rest refl s)

skip_none : (column : Column) (d inside : ℕ) (op : Op) (blocks : List Block) (rest : List Op) → inside_after inside op ≡ None → Skips column d inside blocks (op ∷ rest) → Behind column d blocks rest
skip_none column d zero Back blocks rest e s = skip_last column d zero blocks rest refl s
skip_none column d (suc less) Back blocks rest e s = absurd (cc)
skip_none column d inside op blocks rest e s = absurd (cc)

pub goes_inside : (column : Column) (ops : List Op) (place inside next d : ℕ) (op : Op) (blocks : List Block) → drop place ops ≡ op ∷ drop (place + 1) ops → inside_after inside op ≡ Some next
    → Skips column d inside blocks (drop place ops) → Skips column d next blocks (drop (place + 1) ops)
goes_inside column ops place inside next d op blocks at e s = skip_some column d inside next op blocks (drop (place + 1) ops) e (subst (λ (x : List Op). Skips column d inside blocks x) at s)

pub goes_behind : (column : Column) (ops : List Op) (place inside d : ℕ) (op : Op) (blocks : List Block) → drop place ops ≡ op ∷ drop (place + 1) ops → inside_after inside op ≡ None
    → Skips column d inside blocks (drop place ops) → Behind column d blocks (drop (place + 1) ops)
goes_behind column ops place inside d op blocks at e s = skip_none column d inside op blocks (drop (place + 1) ops) e (subst (λ (x : List Op). Skips column d inside blocks x) at s)

pub less_inside : (inside next : ℕ) (op : Op) → inside_after inside op ≡ Some next → next ≤ inside + 1
less_inside inside next (Times n) e = let k : inside + 1 ≡ next = cc in omega (arith, k)
less_inside inside next Each e = let k : inside + 1 ≡ next = cc in omega (arith, k)
less_inside zero next Back e = absurd (cc)
less_inside (suc less) next Back e = let k : less ≡ next = cc in omega (arith, k)
less_inside inside next op e = let k : inside ≡ next = cc in omega (arith, k)

-- runs: a loop over one number

-- from a number in such a loop to that of its next turn
pub run_on : (ops : List Op) (s : TheEndLocation) (l : TheLoop) (loops : List TheLoop) (k low : ℕ) → IsLocation ops s → s.loops ≡ l ∷ loops → l.turns ≡ suc k
    → drop s.place ops ≡ Back ∷ drop (s.place + 1) ops → drop l.start ops ≡ Emit s.width ∷ drop (l.start + 1) ops → s.place ≡ l.start + 1
    → number_bytes s.width low ≡ number_bytes s.width (first_of_tape s.tape) → low < 256 ^ s.width
    → RunOn ops s (record { place = s.place; loops = (record { start = l.start; turns = k }) ∷ loops; tape = rest_of_tape s.tape; at = (s.at + s.width) % 8; value = low; width = s.width })
run_on ops s l loops k low location is many back emit start bytes small =
    let given : TheEndLocation = record s { value = 0; width = 0 } in
    let idle : IsLocation ops given = gives_all ops s location in
    let turned = again ops given l loops k back idle is many in
    let begun : TheEndLocation = record given { place = l.start; loops = (record { start = l.start; turns = k }) ∷ loops } in
    let fits : is_width s.width ≡ true = at_step ops begun (Emit s.width) (drop (l.start + 1) ops) emit turned.location refl in
    let made = moved ops begun (Emit s.width) low s.width emit turned.location refl fits (sym bytes) refl (width_small s.width fits) small in
    let t : TheEndLocation = record { place = l.start + 1; loops = begun.loops; tape = rest_of_tape s.tape; at = (s.at + s.width) % 8; value = low; width = s.width } in
    let all : RunOn ops s t = record { location = made.location; bytes = ap (λ (x : List ℕ). number_bytes s.width s.value ++ x) (turned.bytes ∙ made.bytes) } in
    subst (λ (p : ℕ). RunOn ops s (record t { place = p })) (sym start) all

-- a run's cursor with the number of the next turn
abbrev pub after_turn : SendCursor → ℕ → SendCursor
after_turn c low = record c {
  loops = slice_set c.loops (c.depth - 1) (record { start = (inner_of c).start; turns = turns_of c - 1 });
  phase = (c.phase % 8 + c.width) % 8;
  value = low;
}

pub record Turned (ops : List Op) (tape : List ℕ) (old new : SendCursor) : Type 0 where
  pub width : new.width ≡ old.width
  pub run : IsRun ops new
  pub turns : turns_of old ≡ turns_of new + 1
  pub goes : RunOn ops (location_of tape old) (location_of tape new)

pub turned_at : (ops : List Op) (tape : List ℕ) (old : SendCursor) (next low : ℕ) → IsLocation ops (location_of tape old) → IsRun ops old → 0 < turns_of old → length old.loops ≡ 8
    → drop next tape ≡ rest_of_tape (drop old.next tape) → number_bytes old.width low ≡ number_bytes old.width (first_of_tape (drop old.next tape)) → low < 256 ^ old.width
    → Turned ops tape old (after_turn (record old { next = next }) low)
turned_at ops tape old next low location run more long left bytes small =
    let last = old.depth - 1 in
    let deep = run.deep in
    let around : List TheLoop = loops_of old.loops last in
    let inner : Loop = record { start = (inner_of old).start; turns = turns_of old - 1 } in
    let l : TheLoop = loop_of (inner_of old) in
    let depth : old.depth ≡ last + 1 = omega (arith, deep) in
    let few : old.depth ≤ 8 = let z = location.depth in omega (arith, z, loops_length old.loops old.depth) in
    let inside : last < length old.loops = omega (arith, deep, few, long) in
    let many : l.turns ≡ suc (turns_of old - 1) = omega (arith, more) in
    let pushed : loops_of (slice_set old.loops last inner) old.depth ≡ loop_of inner ∷ around = ap (loops_of (slice_set old.loops last inner)) depth ∙ loops_pushed old.loops last inner inside in
    let phase : (old.phase % 8 + old.width) % 8 ≡ (old.phase + old.width) % 8 = omega arith in
    let made = run_on ops (location_of tape old) l around (turns_of old - 1) low location (loops_popped old.loops old.depth last depth) many
    (at_op ops old.place Back run.back) (at_op ops (inner_of old).start (Emit old.width) run.emit) run.start bytes small in
    let is : get_or (slice_set old.loops last inner) last no_loop ≡ inner = get_or-set_same old.loops last inner no_loop inside in
    let start : (get_or (slice_set old.loops last inner) last no_loop).start ≡ (inner_of old).start = ap Loop.start is in
    let turns : (get_or (slice_set old.loops last inner) last no_loop).turns ≡ turns_of old - 1 = ap Loop.turns is in
    record {
      width = refl;
      run = record {
        deep = deep;
        back = run.back;
        emit = ap (slice_get ops) start ∙ run.emit;
        start = run.start ∙ ap (λ (k : ℕ). k + 1) (sym start);
      };
      turns = omega (arith, more, turns);
      goes = subst (λ (t : TheEndLocation). RunOn ops (location_of tape old) t)
          (λ i. record { place = old.place; loops = sym pushed i; tape = sym left i; at = sym phase i; value = low; width = old.width }) made;
    }

pub turned_run : (ops : List Op) (tape : List ℕ) (old mid : SendCursor) (number low : ℕ) → IsLocation ops (location_of tape old) → IsRun ops old → 0 < turns_of old → length old.loops ≡ 8
    → number ≡ first_of_tape (drop old.next tape) → location_of tape mid ≡ record (location_of tape old) { tape = rest_of_tape (drop old.next tape) } → mid ≡ record old { next = mid.next }
    → number_bytes mid.width low ≡ number_bytes mid.width number → low < 256 ^ mid.width
    → Turned ops tape old (after_turn mid low)
turned_run ops tape old mid number low location run more long is m rest bytes small =
    let width : mid.width ≡ old.width = ap SendCursor.width rest in
    let taken : number_bytes old.width low ≡ number_bytes old.width (first_of_tape (drop old.next tape))
    = subst (λ (w : ℕ). number_bytes w low ≡ number_bytes w number) width bytes ∙ ap (number_bytes old.width) is in
    let made = turned_at ops tape old mid.next low location run more long (ap TheEndLocation.tape m) taken (subst (λ (w : ℕ). low < 256 ^ w) width small) in
    subst (λ (c : SendCursor). Turned ops tape old (after_turn c low)) (sym rest) made

fits_run : (ops : List Op) (s : TheEndLocation) (l : TheLoop) (loops : List TheLoop) (k : ℕ) → IsLocation ops s → s.loops ≡ l ∷ loops → l.turns ≡ suc k
    → drop s.place ops ≡ Back ∷ drop (s.place + 1) ops → drop l.start ops ≡ Emit s.width ∷ drop (l.start + 1) ops → is_width s.width ≡ true
fits_run ops s l loops k location is many back emit =
    let turned = again ops s l loops k back location is many in
    at_step ops (record s { place = l.start; loops = (record { start = l.start; turns = k }) ∷ loops }) (Emit s.width) (drop (l.start + 1) ops) emit turned.location refl

pub run_fits : (ops : List Op) (tape : List ℕ) (c : SendCursor) → IsLocation ops (location_of tape c) → IsRun ops c → 0 < turns_of c → is_width c.width ≡ true
run_fits ops tape c location run more =
    let deep = run.deep in
    let last = c.depth - 1 in
    fits_run ops (location_of tape c) (loop_of (inner_of c)) (loops_of c.loops last) (turns_of c - 1) location (loops_popped c.loops c.depth last (omega (arith, deep))) (omega (arith, more))
    (at_op ops c.place Back run.back) (at_op ops (inner_of c).start (Emit c.width) run.emit)

pub depth_small : (ops : List Op) (tape : List ℕ) (c : SendCursor) → IsLocation ops (location_of tape c) → c.depth ≤ 8
depth_small ops tape c location = let z = location.depth in omega (arith, z, loops_length c.loops c.depth)
