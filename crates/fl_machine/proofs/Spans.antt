-- Bytes taken by a loop over one byte, several at once.
use Rattle.std.proofs.Common.{◌≡◌, ◌≢◌, Bool, ℕ, zero, suc, ◌+◌, ◌-◌, ◌%◌, ◌^◌, ◌<◌, ◌≤◌, List, [], ◌∷◌, ◌++◌, length, take, drop, get_or, get_or-set_same, slice_set, refl, sym, ◌∙◌, ap, subst, arith, append_assoc}
use Rattle.std.proofs.lemmas.List.{append-nil, length-set, length-drop, length-take-le, take_more, take_more_set, get_or-drop, set-get_or}
use Rattle.fl_stub.specs.declared.op.Op.{Op}
use Rattle.fl_stub.specs.Meaning.{number_bytes}
use Rattle.fl_stub.specs.Rests.{told}
use Rattle.fl_machine.specs.declared.cursor.Loop.{Loop}
use Rattle.fl_machine.specs.declared.intake.ByteField.{ByteField}
use Rattle.fl_machine.specs.declared.intake.RecvCursor.{RecvCursor}
use Rattle.fl_machine.specs.Cursors.{no_loop}
use Rattle.fl_machine.specs.Taking.{IsFed, HasField, Grows, IsRunOf, AreWithin, inner_loop, after_bytes, run_at}
use Rattle.fl_machine.proofs.Intakes.{here_of, Turned, turned_inner, run_again, run_field, run_turn, first_left, behind_more}
use Rattle.fl_machine.proofs.Eights.{set_again}

-- one more byte behind others, and wider bounds
pub wider : (low high least last : ℕ) (bytes : List ℕ) → least ≤ low → high ≤ last → AreWithin low high bytes → AreWithin least last bytes
wider low high least last [] under over within = tt
wider low high least last (x ∷ bytes) under over within =
    let above = within.1 in
    let below = within.2 in
    (within.0, omega (arith, under, above), omega (arith, over, below), wider low high least last bytes under over within.3)

pub within_more : (least last : ℕ) (bytes : List ℕ) (x : ℕ) → AreWithin least last bytes → x < 256 → least ≤ x → x ≤ last → AreWithin least last (bytes ++ x ∷ [])
within_more least last [] x within small above below = (small, above, below, tt)
within_more least last (y ∷ bytes) x within small above below = (within.0, within.1, within.2, within_more least last bytes x within.3 small above below)

-- one more byte on the tape, and among those of the fragment
pub bytes_more : (buffer : List ℕ) (from many x : ℕ) → from + many < length buffer → x ≡ get_or buffer (from + many) 0 → take (many + 1) (drop from buffer) ≡ take many (drop from buffer) ++ x ∷ []
bytes_more buffer from many x inside is =
    let there : many < length (drop from buffer) = omega (arith, inside, length-drop from buffer) in
    take_more (drop from buffer) many 0 there ∙ ap (λ (b : ℕ). take many (drop from buffer) ++ b ∷ []) (get_or-drop from buffer many 0 ∙ sym is)

pub copied_more : (tape first buffer : List ℕ) (count from many x : ℕ) → count + many < length tape → from + many < length buffer → x ≡ get_or buffer (from + many) 0
    → take (count + many) tape ≡ take count first ++ take many (drop from buffer)
    → take (count + (many + 1)) (slice_set tape (count + many) x) ≡ take count first ++ take (many + 1) (drop from buffer)
copied_more tape first buffer count from many x room inside is put =
    ap (λ (k : ℕ). take k (slice_set tape (count + many) x)) (omega arith)
    ∙ take_more_set tape (count + many) x room
    ∙ ap (λ (numbers : List ℕ). numbers ++ x ∷ []) put
    ∙ append_assoc (take count first) (take many (drop from buffer)) (x ∷ [])
    ∙ ap (λ (bytes : List ℕ). take count first ++ bytes) (sym (bytes_more buffer from many x inside is))

-- a turn, and so many
abbrev pub span_turn : RecvCursor → ByteField → RecvCursor
span_turn c f = record c {
  loops = slice_set c.loops (c.depth - 1) (record { start = (inner_loop c).start; turns = (inner_loop c).turns - 1 });
  count = c.count + 1;
  phase = (c.phase % 8 + f.width) % 8;
}

abbrev pub span_turns : ℕ → RecvCursor → ByteField → RecvCursor
span_turns zero c f = c
span_turns (suc n) c f = span_turns n (span_turn c f) f

-- a byte as a number
grown_byte : (have value x : ℕ) (rest : List ℕ) → have ≡ 0 → value < 256 ^ have → x < 256 → Grows have value x 1 (x ∷ rest) rest
grown_byte have value x rest idle small byte =
    let one : 256 ^ have ≡ 1 = ap (λ (k : ℕ). 256 ^ k) idle in
    let none : value ≡ 0 = omega (arith, small, one) in
    let low : x % 256 ≡ x = omega (arith, byte) in
    let same : x % 1 ≡ 0 = omega arith in
    record {
      bytes = ap (λ (k : ℕ). number_bytes k value ++ (x ∷ rest)) idle ∙ ap (λ (b : ℕ). b ∷ rest) (sym low) ∙ sym (ap (λ (k : ℕ). number_bytes (k + 1) x ++ rest) idle);
      small = subst (λ (k : ℕ). x < 256 ^ (k + 1)) (sym idle) (omega (arith, byte));
      same = ap (λ (k : ℕ). x % k) one ∙ same ∙ sym none;
    }

-- the bytes of a run of numbers go from what is left to what was taken
pub record Spanned (ops : List Op) (taken : List ℕ) (c d : RecvCursor) (bytes rest : List ℕ) : Type 0 where
  pub fed : (all : List ℕ) → IsFed ops taken c all (bytes ++ rest) → IsFed ops (taken ++ bytes) d all rest

pub spanned : (bytes : List ℕ) (ops : List Op) (taken : List ℕ) (c : RecvCursor) (f : ByteField) (rest : List ℕ) → HasField ops c f → IsRunOf ops c f → f.width ≡ 1 → length bytes ≤ (inner_loop c).turns
    → c.depth ≤ 8 → length c.loops ≡ 8 → AreWithin f.least f.last bytes → Spanned ops taken c (span_turns (length bytes) c f) bytes rest
spanned [] ops taken c f rest field run one many few long right =
    record { fed = λ all fed. subst (λ (t : List ℕ). IsFed ops t c all rest) (sym (append-nil taken)) fed }
spanned (x ∷ bytes) ops taken c f rest field run one many few long right =
    let d = span_turn c f in
    let inner : Loop = record { start = (inner_loop c).start; turns = (inner_loop c).turns - 1 } in
    let t : Turned c d f = record { others = refl; loops = refl } in
    let is = turned_inner c d f t run.deep few long in
    let fewer : (inner_loop d).turns ≡ (inner_loop c).turns - 1 = ap Loop.turns is in
    let longer : length d.loops ≡ 8 = length-set c.loops (c.depth - 1) inner ∙ long in
    let field_on = run_field ops c d f field run.told refl in
    let run_on = run_again ops c d f run t few long in
    let on = spanned bytes ops (taken ++ x ∷ []) d f rest field_on run_on one (omega (arith, many, fewer)) few longer right.3 in
    let put : taken ++ x ∷ [] ≡ taken ++ told f.told x = sym (ap (λ (b : Bool). taken ++ told b x) run.told) in
    let more : 0 < (inner_loop c).turns = omega (arith, many) in
    let whole : c.have + 1 ≡ f.width = let idle = run.idle in omega (arith, idle, one) in
    record {
      fed = λ all fed.
          let small = (here_of ops taken c all (x ∷ (bytes ++ rest)) f fed field).small in
          subst (λ (all_taken : List ℕ). IsFed ops all_taken (span_turns (length bytes) d f) all rest) (append_assoc taken (x ∷ []) bytes)
          (on.fed all (run_turn ops taken (taken ++ x ∷ []) c d all (x ∷ (bytes ++ rest)) (bytes ++ rest) f x 1 fed field run more few long (grown_byte c.have c.value x (bytes ++ rest) run.idle small right.0) whole right.2 right.1 put t));
    }

pub span_far : (n : ℕ) (c : RecvCursor) (f : ByteField) → f.width ≡ 1 → 0 < c.depth → c.depth ≤ 8 → length c.loops ≡ 8 → n < (inner_loop c).turns → span_turns (suc n) c f ≡ after_bytes c (suc n)
span_far zero c f one deep few long more =
    let phase : (c.phase % 8 + f.width) % 8 ≡ (c.phase % 8 + 1) % 8 = ap (λ (w : ℕ). (c.phase % 8 + w) % 8) one in
    λ i. record (span_turn c f) { phase = phase i }
span_far (suc n) c f one deep few long more =
    let d = span_turn c f in
    let last = c.depth - 1 in
    let inner : Loop = record { start = (inner_loop c).start; turns = (inner_loop c).turns - 1 } in
    let is : inner_loop d ≡ inner = get_or-set_same c.loops last inner no_loop (omega (arith, deep, few, long)) in
    let longer : length d.loops ≡ 8 = length-set c.loops last inner ∙ long in
    let fewer : (inner_loop d).turns ≡ (inner_loop c).turns - 1 = ap Loop.turns is in
    let on = span_far n d f one deep few longer (omega (arith, more, fewer)) in
    let phase : ((c.phase % 8 + f.width) % 8 % 8 + suc n) % 8 ≡ (c.phase % 8 + suc (suc n)) % 8 = omega (arith, one) in
    let count : c.count + 1 + suc n ≡ c.count + suc (suc n) = omega arith in
    let turns : (inner_loop d).turns - suc n ≡ (inner_loop c).turns - suc (suc n) = omega (arith, fewer) in
    let one_less : Loop = record { start = (inner_loop d).start; turns = (inner_loop d).turns - suc n } in
    let loops : slice_set d.loops last one_less ≡ slice_set c.loops last (record { start = (inner_loop c).start; turns = (inner_loop c).turns - suc (suc n) })
    = set_again c.loops last inner one_less ∙ (λ i. slice_set c.loops last (record { start = (ap Loop.start is) i; turns = turns i })) in
    on ∙ (λ i. record c { loops = loops i; count = count i; phase = phase i })

-- the bytes of a fragment from a place on, put on the tape
pub span : (ops : List Op) (before tape tape2 buffer all : List ℕ) (c d : RecvCursor) (f : ByteField) (used many : ℕ) → HasField ops c f → IsRunOf ops c f → f.width ≡ 1 → many ≢ 0 → many ≤ (inner_loop c).turns
    → c.depth ≤ 8 → length c.loops ≡ 8 → used + many ≤ 56 → length buffer ≡ 64 → AreWithin f.least f.last (take many (drop used buffer)) → d ≡ after_bytes c many
    → take (c.count + many) tape2 ≡ take c.count tape ++ take many (drop used buffer)
    → IsFed ops (before ++ take c.count tape) c all (drop used (take 56 buffer)) → IsFed ops (before ++ take d.count tape2) d all (drop (used + many) (take 56 buffer))
span ops before tape tape2 buffer all c d f used many field run one some few deep long inside whole right is put fed =
    let bytes = take many (drop used buffer) in
    let rest = drop (used + many) (take 56 buffer) in
    let there : many ≤ length (drop used buffer) = omega (arith, inside, whole, length-drop used buffer) in
    let bytes_long : length bytes ≡ many = length-take-le many (drop used buffer) there in
    let one_more : many ≡ suc (many - 1) = omega (arith, some) in
    let s = spanned bytes ops (before ++ take c.count tape) c f rest field run one (omega (arith, few, bytes_long)) deep long right in
    let last : span_turns (length bytes) c f ≡ d
    = ap (λ (k : ℕ). span_turns k c f) (bytes_long ∙ one_more) ∙ span_far (many - 1) c f one run.deep deep long (omega (arith, few, some)) ∙ ap (after_bytes c) (sym one_more) ∙ sym is in
    let numbers : (before ++ take c.count tape) ++ bytes ≡ before ++ take d.count tape2 = sym (behind_more before (take c.count tape) (take d.count tape2) bytes (ap (λ (x : RecvCursor). take x.count tape2) is ∙ put)) in
    subst (λ (t : List ℕ). IsFed ops t d all rest) numbers
    (subst (λ (x : RecvCursor). IsFed ops ((before ++ take c.count tape) ++ bytes) x all rest) last
    (s.fed all (subst (λ (left : List ℕ). IsFed ops (before ++ take c.count tape) c all left) (first_left buffer used many inside) fed)))

-- a loop over one number, turn by turn
pub run_inner : (c : RecvCursor) (left count phase : ℕ) → 0 < c.depth → c.depth ≤ 8 → length c.loops ≡ 8 → inner_loop (run_at c left count phase) ≡ record { start = (inner_loop c).start; turns = left }
run_inner c left count phase deep few long =
    let inner : Loop = record { start = (inner_loop c).start; turns = left } in
    get_or-set_same c.loops (c.depth - 1) inner no_loop (omega (arith, deep, few, long))

pub run_first : (c : RecvCursor) → c ≡ run_at c (inner_loop c).turns c.count c.phase
run_first c = sym (ap (λ (x : List Loop). record c { loops = x }) (set-get_or c.loops (c.depth - 1) no_loop))

pub run_turned : (c : RecvCursor) (left count phase : ℕ) (f : ByteField) → 0 < c.depth → c.depth ≤ 8 → length c.loops ≡ 8
    → Turned (run_at c left count phase) (run_at c (left - 1) (count + 1) ((phase % 8 + f.width) % 8)) f
run_turned c left count phase f deep few long =
    let last = c.depth - 1 in
    let before : Loop = record { start = (inner_loop c).start; turns = left } in
    let after : Loop = record { start = (inner_loop c).start; turns = left - 1 } in
    let is = run_inner c left count phase deep few long in
    record {
      others = refl;
      loops = sym (set_again c.loops last before after)
          ∙ ap (λ (l : Loop). slice_set (slice_set c.loops last before) last (record { start = l.start; turns = l.turns - 1 })) (sym is);
    }

pub run_long : (c : RecvCursor) (left count phase : ℕ) → length c.loops ≡ 8 → length (run_at c left count phase).loops ≡ 8
run_long c left count phase long = length-set c.loops (c.depth - 1) (record { start = (inner_loop c).start; turns = left }) ∙ long
