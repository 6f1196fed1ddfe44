-- A run of receive code, instruction by instruction and field by field.
use Rattle.std.proofs.Common.{◌≡◌, ◌≢◌, ℕ, zero, suc, ◌+◌, ◌-◌, ◌*◌, ◌%◌, ◌^◌, ◌<◌, ◌≤◌, ◌⊎◌, inl, inr, ⊎_elim, lit<, lit≤, Bool, true, false, List, [], ◌∷◌, ◌++◌, length, take, take-add, drop, get_or, get_or-set_same, slice_get, slice_set, Some, None, refl, sym, ◌∙◌, ap, subst, arith, append_assoc}
use Rattle.std.proofs.Math.Nat.{mod-eq_of_lt, mod-lt, add-mul-mod_self_right, pow-le-pow_right}
use Rattle.std.proofs.Math.Seq.{take-append-add}
use Rattle.std.proofs.lemmas.Bool.{cases_lt}
use Rattle.std.proofs.lemmas.Grind.{flat_map-append}
use Rattle.std.proofs.lemmas.Option.{slice_get-get_or}
use Rattle.std.proofs.lemmas.List.{append-nil, length-append, drop-take, drop-drop, take_more, take_more_set, take-set-le, length-set, take_at, get_or-drop, get_or-take, length-take, length-take-le, length-drop, drop_all}
use Rattle.fl_stub.specs.declared.op.Op.{Op}
use Rattle.fl_stub.specs.declared.op.Op.TheVariants.{Align, Times, Back, ReadLength, Done}
use Rattle.fl_stub.specs.declared.op.Column.TheVariants.{Receive}
use Rattle.fl_stub.specs.declared.mark.ByteKind.TheVariants.{Length, Zero}
use Rattle.fl_stub.specs.Frames.{frames_of, block_of}
use Rattle.fl_stub.specs.Meaning.{OpMove, number, zeros, zeros_to_8, number_bytes, move_of, gap_to_8, Turns}
use Rattle.fl_stub.specs.Given.{bytes_given}
use Rattle.fl_stub.specs.Locations.{TheLoop, outer}
use Rattle.fl_stub.specs.Streams.{Follows, BeginsPayload, IsPayload, LeavesPayloads}
use Rattle.fl_stub.specs.Rests.{TheField, Rest, no_more, goes_by, takes, zeros_field, field_of, rest_from, rest_all, left_behind, is_taken, taken_field, is_silent, steps_left, onto, told, Reaches, IsPlaceIn, IsStance}
use Rattle.fl_stub.proofs.Numbers.{pow_positive, join_bytes, join_small, low_bytes_of, length_bytes}
use Rattle.fl_stub.proofs.Reaching.{reach_by, reach_field, leaves_over, leaves_under, leaves_end, begins_payload, is_payload, shows_bytes, turns_on}
use Rattle.fl_stub.proofs.Stances.{Passed, times_fits, times_stance, back_fits, again_stance, over_stance, stepped_stance, length_stance, turns_stance, skips_stance, stance_takes, stance_field, done_stance, never_past, Takes, step_or_length, IsStraightStep, IsLength, no_length}
use Rattle.fl_machine.specs.declared.cursor.Loop.{Loop}
use Rattle.fl_machine.specs.declared.intake.ByteField.{ByteField}
use Rattle.fl_machine.specs.declared.intake.RecvCursor.{RecvCursor}
use Rattle.fl_machine.specs.Cursors.{loop_of, no_loop, loops_of}
use Rattle.fl_machine.specs.Taking.{words_bytes, field_view, rest_of, IsTaking, IsWaiting, IsAtField, IsAt, Stands, IsFed, HasField, Passes, PassesOne, StepsOver, Grows, AreZeros, FirstSet, IsRunOf, inner_loop, HasRoom}
use Rattle.fl_machine.proofs.Turns.{at_op, loops_length, loops_popped, loops_pushed}

-- instructions that take no bytes

pass_one : (ops : List Op) (c d : RecvCursor) → Passed ops c.place (loops_of c.loops c.depth) d.place (loops_of d.loops d.depth) → d ≡ record c { place = d.place; loops = d.loops; depth = d.depth } → PassesOne ops c d
pass_one ops c d p others = record {
  passes = record {
    stance = p.stance;
    leads = λ at same whole taken done h. reach_by whole (rest_of ops d at) taken done (subst (λ (r : Rest). Reaches whole r taken done) (p.rest at) h);
    others = others;
  };
  steps = ap steps_left (p.rest c.phase);
}

-- into or on in a loop
entered : (ops : List Op) (c d : RecvCursor) (start : ℕ) (loops : List TheLoop) → Passed ops c.place (loops_of c.loops c.depth) start loops → loops_of d.loops d.depth ≡ loops
    → d ≡ record c { place = start; loops = d.loops; depth = d.depth } → PassesOne ops c d
entered ops c d start loops p is others =
    let place : d.place ≡ start = ap RecvCursor.place others in
    pass_one ops c d
    (subst (λ (x : List TheLoop). Passed ops c.place (loops_of c.loops c.depth) d.place x) (sym is) (subst (λ (k : ℕ). Passed ops c.place (loops_of c.loops c.depth) k loops) (sym place) p))
    (others ∙ ap (λ (k : ℕ). record c { place = k; loops = d.loops; depth = d.depth }) (sym place))

pub times_at : (ops : List Op) (c : RecvCursor) (turns : ℕ) → slice_get ops c.place ≡ Some (Times turns) → IsTaking ops c → (1 ≤ turns) × (c.depth < 8)
times_at ops c turns op s =
    let (some, deep) = times_fits ops c.place turns (loops_of c.loops c.depth) (at_op ops c.place (Times turns) op) s in
    (some, omega (arith, deep, loops_length c.loops c.depth))

pub repeats : (ops : List Op) (c d : RecvCursor) (turns less : ℕ) → slice_get ops c.place ≡ Some (Times turns) → IsTaking ops c → turns ≡ suc less
    → loops_of d.loops d.depth ≡ (record { start = c.place + 1; turns = less }) ∷ loops_of c.loops c.depth → d ≡ record c { place = c.place + 1; loops = d.loops; depth = d.depth } → PassesOne ops c d
repeats ops c d turns less op s many is others =
    entered ops c d (c.place + 1) _ (times_stance ops c.place turns less (loops_of c.loops c.depth) (at_op ops c.place (Times turns) op) s many) is others

pub back_at : (ops : List Op) (c : RecvCursor) → slice_get ops c.place ≡ Some Back → IsTaking ops c → (1 ≤ c.depth) × (c.depth ≤ 8)
back_at ops c op s =
    let some = back_fits ops c.place (loops_of c.loops c.depth) (at_op ops c.place Back op) s in
    let deep = s.depth in
    let long = loops_length c.loops c.depth in
    (omega (arith, some, long), omega (arith, deep, long))

-- the innermost loop
abbrev innermost_of : RecvCursor → Loop
innermost_of c = get_or c.loops (c.depth - 1) no_loop

in_loop : (ops : List Op) (c : RecvCursor) → IsTaking ops c → 1 ≤ c.depth → IsStance ops c.place (loop_of (innermost_of c) ∷ loops_of c.loops (c.depth - 1))
in_loop ops c s some = subst (λ (x : List TheLoop). IsStance ops c.place x) (loops_popped c.loops c.depth (c.depth - 1) (omega (arith, some))) s

as_popped : (ops : List Op) (c : RecvCursor) (place : ℕ) (loops : List TheLoop) → 1 ≤ c.depth
    → Passed ops c.place (loop_of (innermost_of c) ∷ loops_of c.loops (c.depth - 1)) place loops → Passed ops c.place (loops_of c.loops c.depth) place loops
as_popped ops c place loops some p = subst (λ (x : List TheLoop). Passed ops c.place x place loops) (sym (loops_popped c.loops c.depth (c.depth - 1) (omega (arith, some)))) p

pub turns_over : (ops : List Op) (c : RecvCursor) → slice_get ops c.place ≡ Some Back → IsTaking ops c → (get_or c.loops (c.depth - 1) no_loop).turns ≡ 0
    → PassesOne ops c (record c { place = c.place + 1; depth = c.depth - 1 })
turns_over ops c op s none =
    let some = (back_at ops c op s).0 in
    pass_one ops c (record c { place = c.place + 1; depth = c.depth - 1 })
    (as_popped ops c (c.place + 1) (loops_of c.loops (c.depth - 1)) some
    (over_stance ops c.place (loop_of (innermost_of c)) (loops_of c.loops (c.depth - 1)) (at_op ops c.place Back op) (in_loop ops c s some) none)) refl

pub turns_on_again : (ops : List Op) (c d : RecvCursor) → slice_get ops c.place ≡ Some Back → IsTaking ops c → ((get_or c.loops (c.depth - 1) no_loop).turns ≡ 0 → ⊥)
    → loops_of d.loops d.depth ≡ (record { start = (get_or c.loops (c.depth - 1) no_loop).start; turns = (get_or c.loops (c.depth - 1) no_loop).turns - 1 }) ∷ loops_of c.loops (c.depth - 1)
    → d ≡ record c { place = (get_or c.loops (c.depth - 1) no_loop).start; loops = d.loops; depth = d.depth } → PassesOne ops c d
turns_on_again ops c d op s more is others =
    let some = (back_at ops c op s).0 in
    let l = loop_of (innermost_of c) in
    let turns = (innermost_of c).turns in
    let many : turns ≡ suc (turns - 1) = omega (arith, more) in
    entered ops c d l.start _
    (as_popped ops c l.start _ some (again_stance ops c.place (turns - 1) l (loops_of c.loops (c.depth - 1)) (at_op ops c.place Back op) (in_loop ops c s some) many)) is others

-- a gap of no bytes
pub aligns : (ops : List Op) (c : RecvCursor) → slice_get ops c.place ≡ Some Align → IsTaking ops c → c.phase % 8 ≡ 0 → PassesOne ops c (record c { place = c.place + 1 })
aligns ops c op s even =
    let st = stepped_stance ops c.place (loops_of c.loops c.depth) Align (at_op ops c.place Align op) s refl in
    let d : RecvCursor = record c { place = c.place + 1 } in
    let none : (at : ℕ) → c.phase % 8 ≡ at % 8 → gap_to_8 at ≡ 0 = λ at same. omega (arith, same, even) in
    let here : (at : ℕ) → c.phase % 8 ≡ at % 8 → at + gap_to_8 at ≡ at = λ at same. let z = none at same in omega (arith, z) in
    record {
      passes = record {
        stance = st.stance;
        leads = λ at same whole taken done h.
            let made = reach_field whole (zeros_field (gap_to_8 at)) (λ x. rest_of ops d (at + gap_to_8 at)) taken done 0 (subst (λ (r : Rest). Reaches whole r taken done) (st.rest at) h) (lit≤ tt) (lit< tt) in
            let bytes : done ++ number_bytes (gap_to_8 at) 0 ≡ done = ap (λ (w : ℕ). done ++ number_bytes w 0) (none at same) ∙ append-nil done in
            subst (λ (k : ℕ). Reaches whole (rest_of ops d k) taken done) (here at same)
            (subst (λ (x : List ℕ). Reaches whole (rest_of ops d (at + gap_to_8 at)) taken x) bytes
            (subst (λ (x : List ℕ). Reaches whole (rest_of ops d (at + gap_to_8 at)) x (done ++ number_bytes (gap_to_8 at) 0)) (append-nil taken) made));
        others = refl;
      };
      steps = ap steps_left (st.rest c.phase) ∙ ap (λ (k : ℕ). suc (steps_left (rest_of ops d k))) (here c.phase refl);
    }

pub passes_none : (ops : List Op) (c : RecvCursor) → IsTaking ops c → Passes ops c c
passes_none ops c s = record { stance = s; leads = λ at same whole taken done h. h; others = refl }

pub passes_then : (ops : List Op) (a b c : RecvCursor) → Passes ops a b → PassesOne ops b c → Passes ops a c
passes_then ops a b c p q =
    let phase : b.phase ≡ a.phase = ap RecvCursor.phase p.others in
    record {
      stance = q.passes.stance;
      leads = λ at same whole taken done h. q.passes.leads at (ap (λ (k : ℕ). k % 8) phase ∙ same) whole taken done (p.leads at same whole taken done h);
      others = q.passes.others ∙ ap (λ (x : RecvCursor). record x { place = c.place; loops = c.loops; depth = c.depth }) p.others;
    }

pub passes_fewer : (ops : List Op) (b c : RecvCursor) → PassesOne ops b c → steps_left (rest_of ops c c.phase) < steps_left (rest_of ops b b.phase)
passes_fewer ops b c q =
    let same : steps_left (rest_of ops c c.phase) ≡ steps_left (rest_of ops c b.phase) = ap (λ (k : ℕ). steps_left (rest_of ops c k)) (ap RecvCursor.phase q.passes.others) in
    let fewer = q.steps in
    omega (arith, same, fewer)

-- past an instruction that has got its bytes

over_field : (ops : List Op) (c : RecvCursor) (f : ByteField) → (h : HasField ops c f) → IsTaking ops c → (at : ℕ) → c.phase % 8 ≡ at % 8 → rest_of ops c at ≡ takes (field_view f) (left_behind (rest_of ops c at))
over_field ops c f h s at same =
    stance_field ops c.place (loops_of c.loops c.depth) h.op (at_op ops c.place h.op h.there) s h.taken at
    ∙ ap (λ (g : TheField). takes g (left_behind (rest_of ops c at))) (sym (h.view at same))

pub field_of_rest : (ops : List Op) (c : RecvCursor) (f : ByteField) → (h : HasField ops c f) → IsTaking ops c → (at : ℕ) → c.phase % 8 ≡ at % 8 → rest_of ops c at ≡ takes (field_view f) (left_behind (rest_of ops c at))
field_of_rest ops c f h s at same = over_field ops c f h s at same

phase_on : (a w : ℕ) → (a % 8 + w) % 8 % 8 ≡ (a + w) % 8
phase_on a w = omega arith

pub over_step : (ops : List Op) (c : RecvCursor) (f : ByteField) (x : ℕ) → HasField ops c f → IsTaking ops c → f.mark ≢ Length
    → StepsOver ops c (record c { place = c.place + 1; phase = (c.phase % 8 + f.width) % 8; value = 0; have = 0 }) f x
over_step ops c f x h s straight = by_kind (step_or_length h.op h.taken)
  where
    d : RecvCursor
    d = record c { place = c.place + 1; phase = (c.phase % 8 + f.width) % 8; value = 0; have = 0 }

    by_kind : IsStraightStep h.op ⊎ IsLength h.op → StepsOver ops c d f x
    by_kind (inr l) =
        let mark : f.mark ≡ Length = ap TheField.mark (h.view c.phase refl) ∙ ap (λ (o : Op). (taken_field o c.phase).mark) l.is in
        absurd (straight mark)
    by_kind (inl p) =
        let st = stepped_stance ops c.place (loops_of c.loops c.depth) h.op (at_op ops c.place h.op h.there) s p.step in
        record {
          stance = st.stance;
          rest = λ at same.
              let width : f.width ≡ (field_of (move_of h.op) at).width = ap TheField.width (h.view at same ∙ p.field at) in
              ap (λ (w : ℕ). rest_of ops d (at + w)) width ∙ sym (ap (λ (r : Rest). left_behind r x) (st.rest at));
          phase = phase_on c.phase f.width;
          idle = refl;
          none = refl;
          count = refl;
        }

-- a length's instruction
length_there : (ops : List Op) (c : RecvCursor) (f : ByteField) → (h : HasField ops c f) → f.mark ≡ Length → IsLength h.op
length_there ops c f h mark = by_kind (step_or_length h.op h.taken)
  where
    by_kind : IsStraightStep h.op ⊎ IsLength h.op → IsLength h.op
    by_kind (inr l) = l
    by_kind (inl p) = absurd (no_length (move_of h.op) c.phase (sym (ap TheField.mark (h.view c.phase refl ∙ p.field c.phase)) ∙ mark))

at_length : (ops : List Op) (c : RecvCursor) (f : ByteField) → (h : HasField ops c f) → (l : IsLength h.op) → drop c.place ops ≡ ReadLength l.most ∷ drop (c.place + 1) ops
at_length ops c f h l = at_op ops c.place h.op h.there ∙ ap (λ (o : Op). o ∷ drop (c.place + 1) ops) l.is

wide_length : (ops : List Op) (c : RecvCursor) (f : ByteField) → (h : HasField ops c f) → (l : IsLength h.op) → f.width ≡ 8
wide_length ops c f h l = ap TheField.width (h.view c.phase refl) ∙ ap (λ (o : Op). (taken_field o c.phase).width) l.is

pub length_deep : (ops : List Op) (c : RecvCursor) (f : ByteField) → HasField ops c f → IsTaking ops c → f.mark ≡ Length → c.depth < 8
length_deep ops c f h s mark =
    let l = length_there ops c f h mark in
    let deep = (length_stance ops c.place l.most (loops_of c.loops c.depth) (at_length ops c f h l) s).deep in
    omega (arith, deep, loops_length c.loops c.depth)

pub over_none : (ops : List Op) (c : RecvCursor) (f : ByteField) (x place : ℕ) → HasField ops c f → IsTaking ops c → f.mark ≡ Length → x ≡ 0
    → ((depth : ℕ) → IsPlaceIn Receive ops (suc depth) (c.place + 2) → IsPlaceIn Receive ops depth place)
    → ((depth : ℕ) → IsPlaceIn Receive ops (suc depth) (c.place + 2) → frames_of (drop place ops) ≡ outer (frames_of (drop (c.place + 2) ops)))
    → StepsOver ops c (record c { place = place; phase = (c.phase % 8 + f.width) % 8; value = 0; have = 0 }) f x
over_none ops c f x place h s mark zero_turns there frames =
    let l = length_there ops c f h mark in
    let loops = loops_of c.loops c.depth in
    let body = (length_stance ops c.place l.most loops (at_length ops c f h l) s).body in
    let st = skips_stance ops c.place l.most place loops (at_length ops c f h l) s (there (length loops) body) (frames (length loops) body) in
    let d : RecvCursor = record c { place = place; phase = (c.phase % 8 + f.width) % 8; value = 0; have = 0 } in
    record {
      stance = st.stance;
      rest = λ at same. ap (λ (w : ℕ). rest_of ops d (at + w)) (wide_length ops c f h l) ∙ sym (st.rest at) ∙ ap (λ (k : ℕ). left_behind (rest_of ops c at) k) (sym zero_turns);
      phase = phase_on c.phase f.width;
      idle = refl;
      none = refl;
      count = refl;
    }

pub over_turns : (ops : List Op) (c d : RecvCursor) (f : ByteField) (x : ℕ) → HasField ops c f → IsTaking ops c → f.mark ≡ Length → (x ≡ 0 → ⊥)
    → loops_of d.loops d.depth ≡ (record { start = c.place + 2; turns = x - 1 }) ∷ loops_of c.loops c.depth
    → d ≡ record c { place = c.place + 2; loops = d.loops; depth = d.depth; phase = (c.phase % 8 + f.width) % 8; value = 0; have = 0 }
    → StepsOver ops c d f x
over_turns ops c d f x h s mark some is others =
    let l = length_there ops c f h mark in
    let loops = loops_of c.loops c.depth in
    let next : List TheLoop = (record { start = c.place + 2; turns = x - 1 }) ∷ loops in
    let many : x ≡ suc (x - 1) = omega (arith, some) in
    let st = turns_stance ops c.place l.most (x - 1) loops (at_length ops c f h l) s in
    let place : d.place ≡ c.place + 2 = ap RecvCursor.place others in
    record {
      stance = subst (λ (k : ℕ). IsStance ops k (loops_of d.loops d.depth)) (sym place) (subst (λ (z : List TheLoop). IsStance ops (c.place + 2) z) (sym is) st.stance);
      rest = λ at same.
          ap (λ (w : ℕ). rest_of ops d (at + w)) (wide_length ops c f h l)
          ∙ (λ i. rest_from ops (place i) (is i) (at + 8))
          ∙ sym (st.rest at)
          ∙ ap (λ (k : ℕ). left_behind (rest_of ops c at) k) (sym many);
      phase = ap (λ (k : ℕ). k % 8) (ap RecvCursor.phase others) ∙ phase_on c.phase f.width;
      idle = ap RecvCursor.have others;
      none = ap RecvCursor.value others;
      count = ap RecvCursor.count others;
    }

-- bytes

pub raised_fits : (value have n more : ℕ) → value < 256 ^ have → more < 256 ^ n → have + n ≤ 8 → value + more * 256 ^ have < 2 ^ 64
raised_fits value have n more small fits few =
    let low = join_small have n value more small fits in
    let high : 256 ^ (have + n) ≤ 256 ^ 8 = pow-le-pow_right (lit< tt) few in
    omega (arith, low, high)

pub first_left : (buffer : List ℕ) (used n : ℕ) → used + n ≤ 56 → drop used (take 56 buffer) ≡ take n (drop used buffer) ++ drop (used + n) (take 56 buffer)
first_left buffer used n inside =
    let e : used + n + (56 - used - n) ≡ 56 = omega (arith, inside) in
    let k : used + (n + (56 - used - n)) ≡ 56 = omega (arith, inside) in
    let rest = 56 - used - n in
    ap (λ (i : ℕ). drop used (take i buffer)) (sym k)
    ∙ drop-take used (n + rest) buffer
    ∙ take-add n rest (drop used buffer)
    ∙ ap (λ (x : List ℕ). take n (drop used buffer) ++ take rest x) (drop-drop n used buffer)
    ∙ ap (λ (i : ℕ). take n (drop used buffer) ++ take rest (drop i buffer)) (omega arith)
    ∙ ap (λ (x : List ℕ). take n (drop used buffer) ++ x) (sym (drop-take (used + n) rest buffer))
    ∙ ap (λ (i : ℕ). take n (drop used buffer) ++ drop (used + n) (take i buffer)) e

take_few : (n m : ℕ) (xs : List ℕ) → n ≤ m → take n (take m xs) ≡ take n xs
take_few zero m xs h = refl
take_few (suc n) zero xs h = absurd (omega (arith, h))
take_few (suc n) (suc m) [] h = refl
take_few (suc n) (suc m) (x ∷ xs) h = ap (λ (ys : List ℕ). x ∷ ys) (take_few n m xs (omega (arith, h)))

pub grows : (buffer : List ℕ) (used have value n word low : ℕ) → value < 256 ^ have → have + n ≤ 8 → used + n ≤ 56 → number_bytes 8 word ≡ take 8 (drop used buffer)
    → low ≡ value + word % 256 ^ n * 256 ^ have → word % 256 ^ n < 256 ^ n → Grows have value low n (drop used (take 56 buffer)) (drop (used + n) (take 56 buffer))
grows buffer used have value n word low small few inside bytes is part =
    let more = word % 256 ^ n in
    let chunk : take n (drop used buffer) ≡ number_bytes n more = sym (low_bytes_of n word (take 8 (drop used buffer)) (omega (arith, few)) bytes ∙ take_few n 8 (drop used buffer) (omega (arith, few))) in
    let rest : List ℕ = drop (used + n) (take 56 buffer) in
    record {
      bytes = ap (λ (x : List ℕ). number_bytes have value ++ x) (first_left buffer used n inside ∙ ap (λ (x : List ℕ). x ++ rest) chunk)
          ∙ sym (append_assoc (number_bytes have value) (number_bytes n more) rest)
          ∙ ap (λ (x : List ℕ). x ++ rest) (join_bytes have n value more small)
          ∙ ap (λ (k : ℕ). number_bytes (have + n) k ++ rest) (sym is);
      small = subst (λ (k : ℕ). k < 256 ^ (have + n)) (sym is) (join_small have n value more small part);
      same = ap (λ (k : ℕ). k % 256 ^ have) is ∙ add-mul-mod_self_right value more (256 ^ have) ∙ mod-eq_of_lt small;
    }

-- the words put into a buffer one by one
pub filled_more : (words buffer : List ℕ) (index : ℕ) → index < length words → 8 * index + 8 ≤ length buffer → take (8 * index) buffer ≡ words_bytes (take index words)
    → take (8 * (index + 1)) (take (8 * index) buffer ++ (number_bytes 8 (get_or words index 0) ++ drop (8 * index + 8) buffer)) ≡ words_bytes (take (index + 1) words)
filled_more words buffer index inside room so_far_is =
    let word = get_or words index 0 in
    let prefix = take (8 * index) buffer in
    let rest = drop (8 * index + 8) buffer in
    let long : length prefix ≡ 8 * index = length-take-le (8 * index) buffer (omega (arith, room)) in
    let eight : length (number_bytes 8 word) ≡ 8 = length_bytes 8 word in
    ap (λ (k : ℕ). take k (prefix ++ (number_bytes 8 word ++ rest))) (omega (arith, long))
    ∙ take-append-add prefix (number_bytes 8 word ++ rest) 8
    ∙ ap (λ (x : List ℕ). prefix ++ x) (take_at (number_bytes 8 word) rest 8 eight)
    ∙ ap (λ (x : List ℕ). x ++ number_bytes 8 word) so_far_is
    ∙ ap (λ (x : List ℕ). words_bytes (take index words) ++ x) (sym (append-nil (number_bytes 8 word)))
    ∙ sym (flat_map-append (number_bytes 8) (take index words) (word ∷ []))
    ∙ ap words_bytes (sym (take_more words index 0 inside))

-- the next instruction takes bytes, where it isn't the last
pub takes_here : (ops : List Op) (c : RecvCursor) (op : Op) → slice_get ops c.place ≡ Some op → IsTaking ops c → IsAtField ops c → op ≢ Done → Takes op c.phase
takes_here ops c op there s quiet other = by_kind (stance_takes ops c.place (loops_of c.loops c.depth) op c.phase (at_op ops c.place op there) s (quiet op there))
  where
    by_kind : Takes op c.phase ⊎ (op ≡ Done) → Takes op c.phase
    by_kind (inl t) = t
    by_kind (inr e) = absurd (other e)

pub has_field : (ops : List Op) (c : RecvCursor) (op : Op) (f : ByteField) → slice_get ops c.place ≡ Some op → IsTaking ops c → IsAtField ops c → op ≢ Done
    → ((at : ℕ) → c.phase % 8 ≡ at % 8 → field_view f ≡ taken_field op at) → HasField ops c f
has_field ops c op f there s quiet other view =
    let t = takes_here ops c op there s quiet other in
    let width : f.width ≡ (taken_field op c.phase).width = ap TheField.width (view c.phase refl) in
    let wide = t.wide c.phase refl in
    record { op = op; there = there; taken = t.taken; view = view; wide = omega (arith, width, wide) }

pub at_last : (ops : List Op) (c : RecvCursor) (op : Op) → slice_get ops c.place ≡ Some op → IsTaking ops c → op ≡ Done → (at : ℕ) → rest_of ops c at ≡ no_more
at_last ops c op there s e at = done_stance ops c.place (loops_of c.loops c.depth) (at_op ops c.place op there ∙ ap (λ (o : Op). o ∷ drop (c.place + 1) ops) e) s at

pub not_behind : (ops : List Op) (c : RecvCursor) → length ops ≤ c.place → IsTaking ops c → ⊥
not_behind ops c past s = never_past ops c.place (loops_of c.loops c.depth) (drop_all c.place ops past) s

-- a field that is to be taken, with what is known of it

abbrev field_in : TheField → Rest → TheField
field_in d no_more = d
field_in d (goes_by r) = d
field_in d (takes f k) = f

pub record Here (ops : List Op) (taken : List ℕ) (c : RecvCursor) (all left : List ℕ) (f : ByteField) : Type 0 where
  pub done : List ℕ
  pub stance : IsTaking ops c
  pub phase : c.phase % 8 ≡ length done % 8
  pub after : ℕ → Rest
  pub rest : rest_of ops c (length done) ≡ takes (field_view f) after
  pub after_is : after ≡ left_behind (rest_of ops c (length done))
  pub reach : Reaches (rest_all (block_of ops)) (takes (field_view f) after) taken done
  pub all_is : all ≡ done ++ (number_bytes c.have c.value ++ left)
  pub less : c.have < f.width
  pub below : c.value < f.last + 1
  pub small : c.value < 256 ^ c.have

pub here_of : (ops : List Op) (taken : List ℕ) (c : RecvCursor) (all left : List ℕ) (f : ByteField) → IsFed ops taken c all left → HasField ops c f → Here ops taken c all left f
here_of ops taken c all left f fed h =
    let a = fed.at in
    let after = left_behind (rest_of ops c (length a.done)) in
    let rest = field_of_rest ops c f h a.stance (length a.done) a.phase in
    let (less, below, small) = by_waiting a.done rest a.waiting in
    record {
      done = a.done;
      stance = a.stance;
      phase = a.phase;
      after = after;
      rest = rest;
      after_is = refl;
      reach = subst (λ (r : Rest). Reaches (rest_all (block_of ops)) r taken a.done) rest a.reach;
      all_is = fed.joined ∙ ap (λ (x : List ℕ). x ++ left) a.bytes_are ∙ append_assoc a.done (number_bytes c.have c.value) left;
      less = less;
      below = below;
      small = small;
    }
  where
    by_waiting : (done : List ℕ) → rest_of ops c (length done) ≡ takes (field_view f) (left_behind (rest_of ops c (length done))) → IsWaiting (rest_of ops c (length done)) c
        → (c.have < f.width) × (c.value < f.last + 1) × (c.value < 256 ^ c.have)
    by_waiting done rest (inl (none, zero_value)) =
        let wide = h.wide in
        let one : 256 ^ c.have ≡ 1 = ap (λ (k : ℕ). 256 ^ k) none in
        (omega (arith, none, wide), omega (arith, zero_value), omega (arith, zero_value, one))
    by_waiting done rest (inr part) =
        let same : part.field ≡ field_view f = ap (field_in (field_view f)) (sym part.is ∙ rest) in
        let width : part.field.width ≡ f.width = ap TheField.width same in
        let bound : part.field.bound ≡ f.last + 1 = ap TheField.bound same in
        let less = part.less in
        let below = part.below in
        (omega (arith, width, less), omega (arith, bound, below), part.small)

-- with the bytes that are there
pub here_grown : (ops : List Op) (taken : List ℕ) (c : RecvCursor) (all left rest : List ℕ) (f : ByteField) (low n : ℕ) → (h : Here ops taken c all left f) → Grows c.have c.value low n left rest
    → all ≡ h.done ++ (number_bytes (c.have + n) low ++ rest)
here_grown ops taken c all left rest f low n h g = h.all_is ∙ ap (λ (x : List ℕ). h.done ++ x) g.bytes

pub too_high : (ops : List Op) (taken : List ℕ) (c : RecvCursor) (all left rest : List ℕ) (f : ByteField) (low n : ℕ) → IsFed ops taken c all left → HasField ops c f → Grows c.have c.value low n left rest
    → c.have + n ≤ f.width → f.last < low → LeavesPayloads (block_of ops) all f.mark
too_high ops taken c all left rest f low n fed field g few over =
    let h = here_of ops taken c all left f fed field in
    let below = h.below in
    let same = g.same in
    leaves_over (block_of ops) (field_view f) h.after taken h.done all rest c.have n low h.reach (here_grown ops taken c all left rest f low n h g) few (omega (arith, below, same)) g.small (omega (arith, over))

pub too_low : (ops : List Op) (taken : List ℕ) (c : RecvCursor) (all left rest : List ℕ) (f : ByteField) (low n : ℕ) → IsFed ops taken c all left → HasField ops c f → Grows c.have c.value low n left rest
    → c.have + n ≡ f.width → low ≤ f.last → low < f.least → LeavesPayloads (block_of ops) all f.mark
too_low ops taken c all left rest f low n fed field g whole high under =
    let h = here_of ops taken c all left f fed field in
    let is : all ≡ h.done ++ (number_bytes f.width low ++ rest) = here_grown ops taken c all left rest f low n h g ∙ ap (λ (w : ℕ). h.done ++ (number_bytes w low ++ rest)) whole in
    leaves_under (block_of ops) (field_view f) h.after taken h.done all rest low h.reach is (omega (arith, high)) under

pub cut_here : (ops : List Op) (taken : List ℕ) (c : RecvCursor) (all left rest : List ℕ) (f : ByteField) (low n : ℕ) → IsFed ops taken c all left → HasField ops c f → IsAtField ops c → Grows c.have c.value low n left rest
    → c.have + n < f.width → low ≤ f.last → IsFed ops taken (record c { value = low; have = c.have + n }) all rest
cut_here ops taken c all left rest f low n fed field quiet g less high =
    let h = here_of ops taken c all left f fed field in
    let before : List ℕ = h.done ++ number_bytes (c.have + n) low in
    record {
      prefix = before;
      at = record {
        done = h.done;
        stance = h.stance;
        phase = h.phase;
        reach = subst (λ (r : Rest). Reaches (rest_all (block_of ops)) r taken h.done) (sym h.rest) h.reach;
        waiting = inr (record { field = field_view f; after = h.after; is = h.rest; less = less; below = omega (arith, high); small = g.small });
        bytes_are = refl;
        quiet = λ busy. quiet;
      };
      joined = here_grown ops taken c all left rest f low n h g ∙ sym (append_assoc h.done (number_bytes (c.have + n) low) rest);
    }

-- a number that is put on the tape has room there
pub room_here : (ops : List Op) (taken : List ℕ) (c : RecvCursor) (all left : List ℕ) (f : ByteField) (low room : ℕ) → IsFed ops taken c all left → HasField ops c f → f.least ≤ low → low ≤ f.last
    → ((t full : List ℕ) → Turns (block_of ops) t full → length t ≤ room) → f.told ≡ true → length taken < room
room_here ops taken c all left f low room fed field least high fits told_so =
    let h = here_of ops taken c all left f fed field in
    let on = turns_on (block_of ops) (field_view f) h.after taken h.done low h.reach least (omega (arith, high)) in
    let long = fits _ _ on.turns in
    let more : length (onto f.told low on.tail) ≡ suc (length on.tail) = ap (λ (t : Bool). length (onto t low on.tail)) told_so in
    omega (arith, long, more, length-append taken (onto f.told low on.tail))

-- room for some numbers is room for those that are left of them
pub room_on : (ops : List Op) (count count2 bytes bytes2 places : ℕ) → HasRoom ops count bytes places → count2 + bytes2 ≤ count + bytes → HasRoom ops count2 bytes2 places
room_on ops count count2 bytes bytes2 places (inl fits) less = inl fits
room_on ops count count2 bytes bytes2 places (inr room) less = inr (omega (arith, room, less))

pub room_told : (ops : List Op) (before tape : List ℕ) (c : RecvCursor) (all left : List ℕ) (f : ByteField) (low bytes : ℕ) → IsFed ops (before ++ take c.count tape) c all left → HasField ops c f → f.least ≤ low → low ≤ f.last
    → c.count ≤ length tape → HasRoom ops c.count bytes (length tape) → 0 < bytes → f.told ≡ true → c.count < length tape
room_told ops before tape c all left f low bytes fed field least high within (inl fits) some told_so =
    let room = room_here ops (before ++ take c.count tape) c all left f low (length tape) fed field least high fits told_so in
    omega (arith, room, length-append before (take c.count tape), length-take-le c.count tape within)
room_told ops before tape c all left f low bytes fed field least high within (inr room) some told_so = omega (arith, room, some)

-- numbers behind others, and more behind these
pub behind_more : (before taken taken2 more : List ℕ) → taken2 ≡ taken ++ more → before ++ taken2 ≡ (before ++ taken) ++ more
behind_more before taken taken2 more is = ap (λ (t : List ℕ). before ++ t) is ∙ sym (append_assoc before taken more)

pub whole_here : (ops : List Op) (taken taken2 : List ℕ) (c c1 c2 c3 : RecvCursor) (all left rest : List ℕ) (f : ByteField) (low n : ℕ) → IsFed ops taken c all left → HasField ops c f
    → Grows c.have c.value low n left rest → c.have + n ≡ f.width → low ≤ f.last → f.least ≤ low
    → c1 ≡ record c { count = c1.count } → taken2 ≡ taken ++ told f.told low → StepsOver ops c1 c2 f low → Passes ops c2 c3 → IsFed ops taken2 c3 all rest
whole_here ops taken taken2 c c1 c2 c3 all left rest f low n fed field g whole high least others tape over passes =
    let h = here_of ops taken c all left f fed field in
    let b = block_of ops in
    let done : List ℕ = h.done ++ number_bytes f.width low in
    let long : length done ≡ length h.done + f.width = length-append h.done (number_bytes f.width low) ∙ ap (λ (k : ℕ). length h.done + k) (length_bytes f.width low) in
    let phase1 : c1.phase ≡ c.phase = ap RecvCursor.phase others in
    let here : c1.phase % 8 ≡ length h.done % 8 = ap (λ (k : ℕ). k % 8) phase1 ∙ h.phase in
    let same : rest_of ops c1 (length h.done) ≡ rest_of ops c (length h.done) = ap (λ (x : RecvCursor). rest_of ops x (length h.done)) others in
    let next : rest_of ops c2 (length done) ≡ h.after low
    = ap (rest_of ops c2) long ∙ over.rest (length h.done) here ∙ ap (λ (r : Rest). left_behind r low) same ∙ ap (λ (k : ℕ → Rest). k low) (sym h.after_is) in
    let step : Reaches (rest_all b) (h.after low) (taken ++ told f.told low) done = reach_field (rest_all b) (field_view f) h.after taken h.done low h.reach least (omega (arith, high)) in
    let at2 : Reaches (rest_all b) (rest_of ops c2 (length done)) taken2 done
    = subst (λ (r : Rest). Reaches (rest_all b) r taken2 done) (sym next) (subst (λ (t : List ℕ). Reaches (rest_all b) (h.after low) t done) (sym tape) step) in
    let phase2 : c2.phase % 8 ≡ length done % 8 = let p = over.phase in omega (arith, p, here, long) in
    let phase3 : c3.phase % 8 ≡ length done % 8 = ap (λ (x : RecvCursor). x.phase % 8) passes.others ∙ phase2 in
    let have : c3.have ≡ 0 = ap RecvCursor.have passes.others ∙ over.idle in
    let value : c3.value ≡ 0 = ap RecvCursor.value passes.others ∙ over.none in
    record {
      prefix = done;
      at = record {
        done = done;
        stance = passes.stance;
        phase = phase3;
        reach = passes.leads (length done) phase2 (rest_all b) taken2 done at2;
        waiting = inl (have, value);
        bytes_are = sym (append-nil done) ∙ ap (λ (w : ℕ). done ++ number_bytes w c3.value) (sym have);
        quiet = λ busy. absurd (busy have);
      };
      joined = here_grown ops taken c all left rest f low n h g ∙ ap (λ (w : ℕ). h.done ++ (number_bytes w low ++ rest)) whole ∙ sym (append_assoc h.done (number_bytes f.width low) rest);
    }

-- fragments

pub settled_stands : (ops : List Op) (taken bytes : List ℕ) (c d : RecvCursor) → c.have ≡ 0 → Passes ops c d → Stands ops taken c bytes → Stands ops taken d bytes
settled_stands ops taken bytes c d idle p s =
    let a = s.at in
    let have : d.have ≡ c.have = ap RecvCursor.have p.others in
    let value : d.value ≡ c.value = ap RecvCursor.value p.others in
    let none : c.value ≡ 0 = no_value a.waiting in
    record {
      at = record {
        done = a.done;
        stance = p.stance;
        phase = ap (λ (x : RecvCursor). x.phase % 8) p.others ∙ a.phase;
        reach = p.leads (length a.done) a.phase (rest_all (block_of ops)) taken a.done a.reach;
        waiting = inl (have ∙ idle, value ∙ none);
        bytes_are = a.bytes_are ∙ (λ i. a.done ++ number_bytes (sym have i) (sym value i));
        quiet = λ busy. absurd (busy (have ∙ idle));
      };
      shows = subst (λ (v : ℕ). Follows (length bytes) bytes (bytes_given (block_of ops) (taken ++ v ∷ []))) (sym value) s.shows;
    }
  where
    no_value : {r : Rest} → IsWaiting r c → c.value ≡ 0
    no_value {r} (inl w) = w.1
    no_value {r} (inr part) = let small = part.small in let one : 256 ^ c.have ≡ 1 = ap (λ (k : ℕ). 256 ^ k) idle in omega (arith, small, one)

pub fed_first : (ops : List Op) (taken bytes words : List ℕ) (c : RecvCursor) → Stands ops taken c bytes → IsFed ops taken c (bytes ++ words) words
fed_first ops taken bytes words c s = record { prefix = bytes; at = s.at; joined = refl }

-- all bytes of a fragment taken, and the call goes on
pub stands_after : (ops : List Op) (taken : List ℕ) (c : RecvCursor) (all left : List ℕ) → IsFed ops taken c all left → left ≡ [] → Stands ops taken c all
stands_after ops taken c all left fed none =
    let a = fed.at in
    let is : all ≡ fed.prefix = fed.joined ∙ ap (λ (x : List ℕ). fed.prefix ++ x) none ∙ append-nil fed.prefix in
    record {
      at = subst (λ (x : List ℕ). IsAt ops taken c x) (sym is) a;
      shows = shows_bytes (block_of ops) (rest_of ops c (length a.done)) taken a.done all c.have c.value a.reach a.waiting (is ∙ a.bytes_are);
    }

pub begins_after : (ops : List Op) (taken : List ℕ) (c : RecvCursor) (all left : List ℕ) (f : ByteField) → IsFed ops taken c all left → HasField ops c f → left ≡ [] → BeginsPayload (block_of ops) all
begins_after ops taken c all left f fed field none =
    let h = here_of ops taken c all left f fed field in
    let is : all ≡ h.done ++ number_bytes c.have c.value = h.all_is ∙ ap (λ (x : List ℕ). h.done ++ (number_bytes c.have c.value ++ x)) none ∙ ap (λ (x : List ℕ). h.done ++ x) (append-nil (number_bytes c.have c.value)) in
    begins_payload (block_of ops) (takes (field_view f) h.after) taken h.done all c.have c.value h.reach
    (record { field = field_view f; after = h.after; is = refl; less = h.less; below = h.below; small = h.small }) is

-- the end of the code

pub record Ended (ops : List Op) (taken : List ℕ) (c : RecvCursor) (all left : List ℕ) : Type 0 where
  pub done : List ℕ
  pub reach : Reaches (rest_all (block_of ops)) (rest_of ops c (length done)) taken done
  pub is : all ≡ done ++ left

pub ended_here : (ops : List Op) (taken : List ℕ) (c : RecvCursor) (all left : List ℕ) → IsFed ops taken c all left → ((at : ℕ) → rest_of ops c at ≡ no_more) → Ended ops taken c all left
ended_here ops taken c all left fed last =
    let a = fed.at in
    let idle : c.have ≡ 0 = by_waiting (last (length a.done)) a.waiting in
    let prefix : fed.prefix ≡ a.done = a.bytes_are ∙ ap (λ (w : ℕ). a.done ++ number_bytes w c.value) idle ∙ append-nil a.done in
    record { done = a.done; reach = a.reach; is = fed.joined ∙ ap (λ (x : List ℕ). x ++ left) prefix }
  where
    never : (f : TheField) (k : ℕ → Rest) → no_more ≡ takes f k → ⊥
    never f k e = absurd (cc)

    by_waiting : {r : Rest} → r ≡ no_more → IsWaiting r c → c.have ≡ 0
    by_waiting {r} e (inl w) = w.0
    by_waiting {r} e (inr part) = absurd (never part.field part.after (sym e ∙ part.is))

left_zeros : (buffer : List ℕ) (used i : ℕ) → used + i < 56 → get_or (drop used (take 56 buffer)) i 0 ≡ get_or buffer (used + i) 0
left_zeros buffer used i inside = get_or-drop used (take 56 buffer) i 0 ∙ get_or-take 56 buffer (used + i) 0 inside

long_left : (buffer : List ℕ) (used : ℕ) → length buffer ≡ 64 → length (drop used (take 56 buffer)) ≡ 56 - used
long_left buffer used long = length-drop used (take 56 buffer) ∙ ap (λ (k : ℕ). k - used) (length-take-le 56 buffer (omega (arith, long)))

pub payload_whole : (ops : List Op) (taken : List ℕ) (c : RecvCursor) (all buffer : List ℕ) (used : ℕ) → IsFed ops taken c all (drop used (take 56 buffer)) → ((at : ℕ) → rest_of ops c at ≡ no_more)
    → length buffer ≡ 64 → AreZeros buffer used 56 → IsPayload (block_of ops) all taken
payload_whole ops taken c all buffer used fed last long zeros_there =
    let e = ended_here ops taken c all (drop used (take 56 buffer)) fed last in
    is_payload (block_of ops) (rest_of ops c (length e.done)) taken e.done all (drop used (take 56 buffer)) e.reach (last (length e.done)) e.is
    (λ i small. let inside : used + i < 56 = omega (arith, small, long_left buffer used long) in left_zeros buffer used i inside ∙ zeros_there (used + i) (omega arith) inside)

pub payload_wrong : (ops : List Op) (taken : List ℕ) (c : RecvCursor) (all buffer : List ℕ) (used : ℕ) → IsFed ops taken c all (drop used (take 56 buffer)) → ((at : ℕ) → rest_of ops c at ≡ no_more)
    → length buffer ≡ 64 → FirstSet buffer used → LeavesPayloads (block_of ops) all Zero
payload_wrong ops taken c all buffer used fed last long first =
    let e = ended_here ops taken c all (drop used (take 56 buffer)) fed last in
    let at = first.at in
    let from = first.from_there in
    let inside = first.inside in
    let there : used + (at - used) ≡ at = omega (arith, from) in
    leaves_end (block_of ops) (rest_of ops c (length e.done)) taken e.done all (drop used (take 56 buffer)) (at - used) e.reach (last (length e.done)) e.is
    (omega (arith, from, inside, long_left buffer used long))
    (λ i small. left_zeros buffer used i (omega (arith, small, inside)) ∙ first.zeros (used + i) (omega arith) (omega (arith, small, from)))
    (λ z. first.wrong (ap (λ (k : ℕ). get_or buffer k 0) (sym there) ∙ sym (left_zeros buffer used (at - used) (omega (arith, from, inside))) ∙ z))

pub not_there : (ops : List Op) (c : RecvCursor) → slice_get ops c.place ≡ None → IsTaking ops c → ⊥
not_there ops c none s = ⊎_elim
    (λ (inside : c.place < length ops).
    let op = get_or ops c.place Done in
    let some : Some op ≡ None = sym (slice_get-get_or ops c.place Done inside) ∙ none in
    absurd (cc))
    (λ (past : length ops ≤ c.place). not_behind ops c past s)
    (cases_lt c.place (length ops))

-- a run with another count stands in the same place
pub same_stance : (ops : List Op) (c d : RecvCursor) → IsTaking ops c → d ≡ record c { count = d.count } → IsTaking ops d
same_stance ops c d s e = subst (λ (x : RecvCursor). IsTaking ops x) (sym e) s

pub same_field : (ops : List Op) (c d : RecvCursor) (f : ByteField) → HasField ops c f → d ≡ record c { count = d.count } → HasField ops d f
same_field ops c d f h e = subst (λ (x : RecvCursor). HasField ops x f) (sym e) (record { op = h.op; there = h.there; taken = h.taken; view = h.view; wide = h.wide })

pub nothing_left : (buffer : List ℕ) (used : ℕ) → 56 ≤ used → drop used (take 56 buffer) ≡ []
nothing_left buffer used past = drop_all used (take 56 buffer) (omega (arith, past, length-take 56 buffer))

pub take_kept : (few many : ℕ) (one two : List ℕ) → few ≤ many → take many one ≡ take many two → take few one ≡ take few two
take_kept few many one two less same = sym (take_few few many one less) ∙ ap (take few) same ∙ take_few few many two less

-- the end of the code just behind the fragment's last byte
pub payload_ends : (ops : List Op) (taken : List ℕ) (c : RecvCursor) (all left : List ℕ) → IsFed ops taken c all left → ((at : ℕ) → rest_of ops c at ≡ no_more) → left ≡ [] → IsPayload (block_of ops) all taken
payload_ends ops taken c all left fed last none =
    let e = ended_here ops taken c all left fed last in
    is_payload (block_of ops) (rest_of ops c (length e.done)) taken e.done all left e.reach (last (length e.done)) e.is (λ i small. absurd (omega (arith, small, ap length none)))

-- a loop over one number

told_move : (move : OpMove) (at at2 : ℕ) → (field_of move at).told ≡ true → field_of move at ≡ field_of move at2
told_move (number width least bound) at at2 e = refl
told_move (zeros count) at at2 e = refl
told_move zeros_to_8 at at2 e = absurd (cc)

told_same : (op : Op) (at at2 : ℕ) → is_taken op ≡ true → (taken_field op at).told ≡ true → taken_field op at ≡ taken_field op at2
told_same op at at2 taken e = by_kind (step_or_length op taken)
  where
    by_kind : IsStraightStep op ⊎ IsLength op → taken_field op at ≡ taken_field op at2
    by_kind (inl p) = p.field at ∙ told_move (move_of op) at at2 (ap TheField.told (sym (p.field at)) ∙ e) ∙ sym (p.field at2)
    by_kind (inr l) = ap (λ (o : Op). taken_field o at) l.is ∙ sym (ap (λ (o : Op). taken_field o at2) l.is)

told_loud : (op : Op) (at phase : ℕ) → is_taken op ≡ true → (taken_field op at).told ≡ true → is_silent op phase ≡ false
told_loud (Times n) at phase taken e = absurd (cc)
told_loud Back at phase taken e = absurd (cc)
told_loud Align at phase taken e = absurd (cc)
told_loud op at phase taken e = refl

pub run_field : (ops : List Op) (c d : RecvCursor) (f : ByteField) → HasField ops c f → f.told ≡ true → d.place ≡ c.place → HasField ops d f
run_field ops c d f h e place =
    let so : (taken_field h.op c.phase).told ≡ true = ap TheField.told (sym (h.view c.phase refl)) ∙ e in
    record {
      op = h.op;
      there = ap (slice_get ops) place ∙ h.there;
      taken = h.taken;
      view = λ at same. h.view c.phase refl ∙ told_same h.op c.phase at h.taken so;
      wide = h.wide;
    }

pub run_settled : (ops : List Op) (d : RecvCursor) (f : ByteField) → HasField ops d f → f.told ≡ true → IsAtField ops d
run_settled ops d f h e op there =
    let so : (taken_field h.op d.phase).told ≡ true = ap TheField.told (sym (h.view d.phase refl)) ∙ e in
    let same : Some h.op ≡ Some op = sym h.there ∙ there in
    let is : h.op ≡ op = cc in
    ap (λ (o : Op). is_silent o d.phase) (sym is) ∙ told_loud h.op d.phase d.phase h.taken so

-- a turn of such a loop that is not the last
pub record Turned (c d : RecvCursor) (f : ByteField) : Type 0 where
  pub others : d ≡ record c { loops = d.loops; count = c.count + 1; phase = (c.phase % 8 + f.width) % 8 }
  pub loops : d.loops ≡ slice_set c.loops (c.depth - 1) (record { start = (inner_loop c).start; turns = (inner_loop c).turns - 1 })

pub turned_inner : (c d : RecvCursor) (f : ByteField) → Turned c d f → 0 < c.depth → c.depth ≤ 8 → length c.loops ≡ 8 → inner_loop d ≡ record { start = (inner_loop c).start; turns = (inner_loop c).turns - 1 }
turned_inner c d f t deep few long =
    let l : Loop = record { start = (inner_loop c).start; turns = (inner_loop c).turns - 1 } in
    let depth : d.depth ≡ c.depth = ap RecvCursor.depth t.others in
    ap (λ (k : ℕ). get_or d.loops (k - 1) no_loop) depth
    ∙ ap (λ (x : List Loop). get_or x (c.depth - 1) no_loop) t.loops
    ∙ get_or-set_same c.loops (c.depth - 1) l no_loop (omega (arith, deep, few, long))

turned_loops : (c d : RecvCursor) (f : ByteField) → Turned c d f → 0 < c.depth → c.depth ≤ 8 → length c.loops ≡ 8
    → loops_of d.loops d.depth ≡ (record { start = (inner_loop c).start; turns = (inner_loop c).turns - 1 }) ∷ loops_of c.loops (c.depth - 1)
turned_loops c d f t deep few long =
    let l : Loop = record { start = (inner_loop c).start; turns = (inner_loop c).turns - 1 } in
    let depth : d.depth ≡ c.depth - 1 + 1 = ap RecvCursor.depth t.others ∙ omega (arith, deep) in
    ap (loops_of d.loops) depth ∙ ap (λ (x : List Loop). loops_of x (c.depth - 1 + 1)) t.loops ∙ loops_pushed c.loops (c.depth - 1) l (omega (arith, deep, few, long))

pub run_again : (ops : List Op) (c d : RecvCursor) (f : ByteField) → IsRunOf ops c f → Turned c d f → c.depth ≤ 8 → length c.loops ≡ 8 → IsRunOf ops d f
run_again ops c d f run t few long =
    let place : d.place ≡ c.place = ap RecvCursor.place t.others in
    record {
      deep = subst (λ (k : ℕ). 0 < k) (sym (ap RecvCursor.depth t.others)) run.deep;
      idle = ap RecvCursor.have t.others ∙ run.idle;
      told = run.told;
      no_length = run.no_length;
      start = ap Loop.start (turned_inner c d f t run.deep few long) ∙ run.start ∙ sym place;
      back = ap (λ (k : ℕ). slice_get ops (k + 1)) place ∙ run.back;
    }

pub run_turn : (ops : List Op) (taken taken2 : List ℕ) (c d : RecvCursor) (all left rest : List ℕ) (f : ByteField) (low n : ℕ) → IsFed ops taken c all left → HasField ops c f → IsRunOf ops c f
    → 0 < (inner_loop c).turns → c.depth ≤ 8 → length c.loops ≡ 8 → Grows c.have c.value low n left rest → c.have + n ≡ f.width → low ≤ f.last → f.least ≤ low
    → taken2 ≡ taken ++ told f.told low → Turned c d f → IsFed ops taken2 d all rest
run_turn ops taken taken2 c d all left rest f low n fed field run more few long g whole high least tape t =
    let h = here_of ops taken c all left f fed field in
    let c1 : RecvCursor = record c { count = d.count } in
    let c2 : RecvCursor = record c1 { place = c.place + 1; phase = (c.phase % 8 + f.width) % 8; value = 0; have = 0 } in
    let over = over_step ops c1 f low (same_field ops c c1 f field refl) (same_stance ops c c1 h.stance refl) run.no_length in
    let idle = run.idle in
    let small = h.small in
    let one : 256 ^ c.have ≡ 1 = ap (λ (k : ℕ). 256 ^ k) idle in
    let none : c.value ≡ 0 = omega (arith, small, one) in
    let start = run.start in
    let depth = ap RecvCursor.depth t.others in
    let count = ap RecvCursor.count t.others in
    let others : d ≡ record c2 { place = (inner_loop c).start; loops = d.loops; depth = d.depth }
    = t.others ∙ (λ i. record { place = sym start i; loops = d.loops; depth = sym depth i; count = sym count i; phase = (c.phase % 8 + f.width) % 8; value = none i; have = idle i }) in
    let back = turns_on_again ops c2 d run.back over.stance (λ z. omega (arith, more, z)) (turned_loops c d f t run.deep few long) others in
    whole_here ops taken taken2 c c1 c2 d all left rest f low n fed field g whole high least refl tape over back.passes

pub run_grows : (buffer : List ℕ) (used have value n word low : ℕ) → have ≡ 0 → value < 256 ^ have → n ≤ 8 → used + n ≤ 56 → number_bytes 8 word ≡ take 8 (drop used buffer) → low ≡ word % 256 ^ n
    → Grows have value low n (drop used (take 56 buffer)) (drop (used + n) (take 56 buffer))
run_grows buffer used have value n word low idle small few inside bytes is =
    let one : 256 ^ have ≡ 1 = ap (λ (k : ℕ). 256 ^ k) idle in
    let none : value ≡ 0 = omega (arith, small, one) in
    let part : word % 256 ^ n < 256 ^ n = mod-lt word (pow_positive n) in
    let raised : word % 256 ^ n * 256 ^ have ≡ word % 256 ^ n * 1 = ap (λ (k : ℕ). word % 256 ^ n * k) one in
    grows buffer used have value n word low small (omega (arith, idle, few)) inside bytes (is ∙ omega (arith, none, raised)) part

pub stance_depth : (ops : List Op) (c : RecvCursor) → IsTaking ops c → c.depth ≤ 8
stance_depth ops c s = let deep = s.depth in omega (arith, deep, loops_length c.loops c.depth)

pub told_tape : (tape tape2 taken : List ℕ) (count count2 x : ℕ) (t : Bool) → t ≡ true → count < length tape → tape2 ≡ slice_set tape count x → count2 ≡ count + 1 → take count2 tape2 ≡ take count tape ++ told t x
told_tape tape tape2 taken count count2 x t so inside is more =
    ap (λ (k : ℕ). take k tape2) more ∙ ap (take (count + 1)) is ∙ take_more_set tape count x inside ∙ ap (λ (b : Bool). take count tape ++ told b x) (sym so)

pub told_kept : (tape tape2 : List ℕ) (few count x : ℕ) → few ≤ count → tape2 ≡ slice_set tape count x → take few tape2 ≡ take few tape
told_kept tape tape2 few count x less is = ap (take few) is ∙ take-set-le few tape count x less

pub told_long : (tape tape2 : List ℕ) (count x : ℕ) → tape2 ≡ slice_set tape count x → length tape2 ≡ length tape
told_long tape tape2 count x is = ap length is ∙ length-set tape count x
