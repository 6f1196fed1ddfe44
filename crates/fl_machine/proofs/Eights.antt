-- Turns of a loop over one byte, several at once.
use Rattle.std.proofs.Common.{◌≡◌, ℕ, zero, suc, ◌+◌, ◌-◌, ◌%◌, ◌^◌, ◌<◌, ◌≤◌, List, [], ◌∷◌, ◌++◌, length, map, take, drop, get_or, get_or-set_same, slice_set, refl, sym, ◌∙◌, ap, subst, arith, append_assoc}
use Rattle.std.proofs.lemmas.List.{drop_more, length-set, length-map, length-append, length-drop, length-take-le, map-append, take_more, get_or-drop}
use Rattle.fl_stub.specs.declared.op.Op.{Op}
use Rattle.fl_stub.specs.Meaning.{number_bytes}
use Rattle.fl_stub.specs.Given.{first_of_tape, rest_of_tape}
use Rattle.fl_stub.specs.Locations.{IsLocation, bytes_from}
use Rattle.fl_machine.specs.declared.cursor.Loop.{Loop}
use Rattle.fl_machine.specs.declared.cursor.SendCursor.{SendCursor}
use Rattle.fl_machine.specs.Cursors.{no_loop, location_of, inner_of, turns_of, low_byte, IsRun}
use Rattle.fl_machine.specs.Filling.{Holds}
use Rattle.fl_machine.proofs.Turns.{after_turn, turned_at, depth_small}
use Rattle.fl_machine.proofs.Pours.{holds_more}

-- a turn, and so many
abbrev pub byte_turn : List ℕ → SendCursor → SendCursor
byte_turn tape c = after_turn (record c { next = c.next + 1 }) (low_byte (get_or tape c.next 0))

abbrev pub byte_turns : ℕ → List ℕ → SendCursor → SendCursor
byte_turns zero tape c = c
byte_turns (suc n) tape c = byte_turns n tape (byte_turn tape c)

-- the turns from one cursor to another, and the bytes of the first and of n numbers more
pub record TurnedOn (ops : List Op) (tape : List ℕ) (old new : SendCursor) (n : ℕ) : Type 0 where
  pub width : new.width ≡ 1
  pub run : IsRun ops new
  pub turns : turns_of old ≡ turns_of new + suc n
  pub location : IsLocation ops (location_of tape new)
  pub bytes : bytes_from ops (location_of tape old) ≡ map low_byte (old.value ∷ take n (drop old.next tape)) ++ bytes_from ops (location_of tape new)

turned_one : (ops : List Op) (tape : List ℕ) (c : SendCursor) → IsLocation ops (location_of tape c) → IsRun ops c → c.width ≡ 1 → 0 < turns_of c → c.next < length tape → length c.loops ≡ 8
    → TurnedOn ops tape c (byte_turn tape c) 0
turned_one ops tape c location run one more there long =
    let x = get_or tape c.next 0 in
    let cut : drop c.next tape ≡ x ∷ drop (c.next + 1) tape = drop_more tape c.next 0 there in
    let left : drop (c.next + 1) tape ≡ rest_of_tape (drop c.next tape) = sym (ap rest_of_tape cut) in
    let first : first_of_tape (drop c.next tape) ≡ x = ap first_of_tape cut in
    let twice : x % 256 % 256 ≡ x % 256 = omega arith in
    let same : number_bytes 1 (low_byte x) ≡ number_bytes 1 (first_of_tape (drop c.next tape)) = ap (λ (b : ℕ). b ∷ []) twice ∙ ap (number_bytes 1) (sym first) in
    let small : low_byte x < 256 ^ 1 = omega arith in
    let t = turned_at ops tape c (c.next + 1) (low_byte x) location run more long left
    (subst (λ (w : ℕ). number_bytes w (low_byte x) ≡ number_bytes w (first_of_tape (drop c.next tape))) (sym one) same)
    (subst (λ (w : ℕ). low_byte x < 256 ^ w) (sym one) small) in
    record {
      width = t.width ∙ one;
      run = t.run;
      turns = t.turns;
      location = t.goes.location;
      bytes = t.goes.bytes ∙ ap (λ (w : ℕ). number_bytes w c.value ++ bytes_from ops (location_of tape (byte_turn tape c))) one;
    }

pub turned_on : (n : ℕ) (ops : List Op) (tape : List ℕ) (c : SendCursor) → IsLocation ops (location_of tape c) → IsRun ops c → c.width ≡ 1 → n < turns_of c → c.next + n < length tape → length c.loops ≡ 8
    → TurnedOn ops tape c (byte_turns (suc n) tape c) n
turned_on zero ops tape c location run one more there long = turned_one ops tape c location run one more (omega (arith, there)) long
turned_on (suc n) ops tape c location run one more there long =
    let x = get_or tape c.next 0 in
    let d = byte_turn tape c in
    let t = turned_one ops tape c location run one (omega (arith, more)) (omega (arith, there)) long in
    let turns = t.turns in
    let inner : Loop = record { start = (inner_of c).start; turns = turns_of c - 1 } in
    let longer : length d.loops ≡ 8 = length-set c.loops (c.depth - 1) inner ∙ long in
    let u = turned_on n ops tape d t.location t.run t.width (omega (arith, more, turns)) (omega (arith, there)) longer in
    let after = u.turns in
    let twice : x % 256 % 256 ≡ x % 256 = omega arith in
    let cut : drop c.next tape ≡ x ∷ drop (c.next + 1) tape = drop_more tape c.next 0 (omega (arith, there)) in
    let rest = bytes_from ops (location_of tape (byte_turns (suc n) tape d)) in
    record {
      width = u.width;
      run = u.run;
      turns = omega (arith, turns, after);
      location = u.location;
      bytes = t.bytes ∙ ap (λ (bs : List ℕ). low_byte c.value ∷ bs) (u.bytes ∙ ap (λ (b : ℕ). b ∷ (map low_byte (take n (drop (c.next + 1) tape)) ++ rest)) twice)
          ∙ ap (λ (left : List ℕ). low_byte c.value ∷ (map low_byte (take (suc n) left) ++ rest)) (sym cut);
    }

-- the cursor behind so many turns
abbrev pub far_on : ℕ → List ℕ → SendCursor → SendCursor
far_on n tape c = record c {
  loops = slice_set c.loops (c.depth - 1) (record { start = (inner_of c).start; turns = turns_of c - suc n });
  next = c.next + suc n;
  phase = (c.phase % 8 + suc n) % 8;
  value = low_byte (get_or tape (c.next + n) 0);
}

-- the same place written twice
pub set_again : (xs : List Loop) (at : ℕ) (a b : Loop) → slice_set (slice_set xs at a) at b ≡ slice_set xs at b
set_again [] at a b = refl
set_again (x ∷ xs) zero a b = refl
set_again (x ∷ xs) (suc at) a b = ap (λ (ys : List Loop). x ∷ ys) (set_again xs at a b)

pub far : (n : ℕ) (tape : List ℕ) (c : SendCursor) → c.width ≡ 1 → 0 < c.depth → c.depth ≤ 8 → length c.loops ≡ 8 → n < turns_of c → byte_turns (suc n) tape c ≡ far_on n tape c
far zero tape c one deep few long more =
    let phase : (c.phase % 8 + c.width) % 8 ≡ (c.phase % 8 + 1) % 8 = ap (λ (w : ℕ). (c.phase % 8 + w) % 8) one in
    let at : c.next ≡ c.next + 0 = omega arith in
    λ i. record c {
      loops = slice_set c.loops (c.depth - 1) (record { start = (inner_of c).start; turns = turns_of c - 1 });
      next = c.next + 1;
      phase = phase i;
      value = low_byte (get_or tape (at i) 0);
    }
far (suc n) tape c one deep few long more =
    let d = byte_turn tape c in
    let last = c.depth - 1 in
    let inner : Loop = record { start = (inner_of c).start; turns = turns_of c - 1 } in
    let is : inner_of d ≡ inner = get_or-set_same c.loops last inner no_loop (omega (arith, deep, few, long)) in
    let longer : length d.loops ≡ 8 = length-set c.loops last inner ∙ long in
    let fewer : turns_of d ≡ turns_of c - 1 = ap Loop.turns is in
    let on = far n tape d one deep few longer (omega (arith, more, fewer)) in
    let phase : ((c.phase % 8 + c.width) % 8 % 8 + suc n) % 8 ≡ (c.phase % 8 + suc (suc n)) % 8 = omega (arith, one) in
    let next : c.next + 1 + suc n ≡ c.next + suc (suc n) = omega arith in
    let at : c.next + 1 + n ≡ c.next + suc n = omega arith in
    let turns : turns_of d - suc n ≡ turns_of c - suc (suc n) = omega (arith, fewer) in
    let one_less : Loop = record { start = (inner_of d).start; turns = turns_of d - suc n } in
    let loops : slice_set d.loops last one_less ≡ slice_set c.loops last (record { start = (inner_of c).start; turns = turns_of c - suc (suc n) })
    = set_again c.loops last inner one_less ∙ (λ i. slice_set c.loops last (record { start = (ap Loop.start is) i; turns = turns i })) in
    on ∙ (λ i. record c { loops = loops i; next = next i; phase = phase i; value = low_byte (get_or tape (at i) 0) })

-- the cursor behind so many turns, the last of whose numbers is the tape's number so far on
abbrev pub passed_on : ℕ → ℕ → List ℕ → SendCursor → SendCursor
passed_on many n tape c = record c {
  loops = slice_set c.loops (c.depth - 1) (record { start = (inner_of c).start; turns = turns_of c - many });
  next = c.next + many;
  phase = (c.phase % 8 + many) % 8;
  value = low_byte (get_or tape (c.next + n) 0);
}

pub bytes_on : (n many : ℕ) (ops : List Op) (tape : List ℕ) (c : SendCursor) → many ≡ suc n → IsLocation ops (location_of tape c) → IsRun ops c → c.width ≡ 1 → many ≤ turns_of c → c.next + many ≤ length tape → length c.loops ≡ 8
    → TurnedOn ops tape c (passed_on many n tape c) n
bytes_on n many ops tape c is location run one more there long =
    let few = depth_small ops tape c location in
    let t = turned_on n ops tape c location run one (omega (arith, more, is)) (omega (arith, there, is)) long in
    subst (λ (m : ℕ). TurnedOn ops tape c (passed_on m n tape c) n) (sym is)
    (subst (λ (d : SendCursor). TurnedOn ops tape c d n) (far n tape c one run.deep few long (omega (arith, more, is))) t)

-- their bytes in a fragment, one after another
pub bytes_put : (buffer put numbers : List ℕ) (at first from index byte : ℕ) → length buffer ≡ 56 → length put ≡ at → at + 1 + index < 56 → from + index < length numbers → byte ≡ low_byte (get_or numbers (from + index) 0)
    → Holds buffer (put ++ map low_byte (first ∷ take index (drop from numbers)))
    → Holds (slice_set buffer (at + 1 + index) byte) (put ++ map low_byte (first ∷ take (index + 1) (drop from numbers)))
bytes_put buffer put numbers at first from index byte whole long inside room is h =
    let ys = drop from numbers in
    let x = get_or numbers (from + index) 0 in
    let there : index < length ys = omega (arith, room, length-drop from numbers) in
    let before = map low_byte (first ∷ take index ys) in
    let more : take (index + 1) ys ≡ take index ys ++ x ∷ [] = take_more ys index 0 there ∙ ap (λ (b : ℕ). take index ys ++ b ∷ []) (get_or-drop from numbers index 0) in
    let mapped : map low_byte (take (index + 1) ys) ≡ map low_byte (take index ys) ++ low_byte x ∷ [] = ap (map low_byte) more ∙ map-append low_byte (take index ys) (x ∷ []) in
    let few : length before ≡ index + 1 = length-map (first ∷ take index ys) low_byte ∙ omega (arith, length-take-le index ys (omega (arith, there))) in
    let end : length (put ++ before) ≡ at + 1 + index = length-append put before ∙ omega (arith, long, few) in
    let all : (put ++ before) ++ byte ∷ [] ≡ put ++ map low_byte (first ∷ take (index + 1) ys)
    = append_assoc put before (byte ∷ []) ∙ ap (λ (zs : List ℕ). put ++ (low_byte first ∷ zs)) (ap (λ (b : ℕ). map low_byte (take index ys) ++ b ∷ []) is ∙ sym mapped) in
    subst (λ (zs : List ℕ). Holds (slice_set buffer (at + 1 + index) byte) zs) all (holds_more buffer (put ++ before) (at + 1 + index) byte whole end inside h)
