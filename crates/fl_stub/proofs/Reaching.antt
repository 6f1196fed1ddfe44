-- What is known where a run of receive code stands: which payloads go on from there, and what is wrong where none does.
use Rattle.std.proofs.Common.{◌≡◌, ℕ, zero, suc, ◌+◌, ◌-◌, ◌/◌, ◌%◌, ◌^◌, ◌<◌, ◌≤◌, ◌⊎◌, inl, inr, ⊎_elim, Bool, true, false, List, [], ◌∷◌, ◌++◌, length, drop, get_or, replicate, refl, sym, ◌∙◌, ap, subst, arith, append_assoc}
use Rattle.std.proofs.Math.Nat.{mod-lt, mod-le, mod-eq_of_lt, mod-one}
use Rattle.std.proofs.Math.Seq.{drop-append_seam}
use Rattle.std.proofs.lemmas.Bool.{cases_lt}
use Rattle.std.proofs.lemmas.List.{length-append, append-nil, get_or_append_left, get_or-append_right, get_or_past, get_or-drop, get_or-replicate, length-replicate, drop-drop}
use Rattle.fl_stub.specs.declared.mark.ByteKind.{ByteKind}
use Rattle.fl_stub.specs.declared.mark.ByteKind.TheVariants.{Zero}
use Rattle.fl_stub.specs.Structure.{Block}
use Rattle.fl_stub.specs.Meaning.{number_bytes, StubMoment, moment_first, moment_last, Turns}
use Rattle.fl_stub.specs.Given.{bytes_given}
use Rattle.fl_stub.specs.Marks.{marks_of, mark_at}
use Rattle.fl_stub.specs.Streams.{Follows, GoesOn, BeginsPayload, IsPayload, LeavesPayloads}
use Rattle.fl_stub.specs.Rests.{TheField, Rest, no_more, goes_by, takes, rest_all, onto, told, told_number, told_rest, RestTurns, rest_bytes, rest_marks, IsSound, AllSound, GoesFrom, Reaches, IsPartOfField}
use Rattle.fl_stub.proofs.Trees.{all_bytes, all_marks, tree_turns, turns_tree}
use Rattle.fl_stub.proofs.Numbers.{length_bytes, pow_positive, cut, prefix_follows, same_low}

-- each rest of sound fields has an end
pub record Ends (r : Rest) : Type 0 where
  pub tape : List ℕ
  pub bytes : List ℕ
  pub turns : (at : ℕ) → RestTurns r (record { at = at; tape = tape; bytes = bytes }) (moment_last (at + length bytes))

end_here : Ends no_more
end_here = record { tape = []; bytes = []; turns = λ at. let e : at ≡ at + 0 = omega arith in λ i. record { at = e i; tape = []; bytes = [] } }

end_field : (f : TheField) (k : ℕ → Rest) → IsSound f → Ends (k f.least) → Ends (takes f k)
end_field f k s e = record {
  tape = onto f.told f.least e.tape;
  bytes = number_bytes f.width f.least ++ e.bytes;
  turns = λ at.
      let long : at + f.width + length e.bytes ≡ at + length (number_bytes f.width f.least ++ e.bytes)
      = omega (arith, length-append (number_bytes f.width f.least) e.bytes, length_bytes f.width f.least) in
      let l : StubMoment = record { at = at + f.width; tape = e.tape; bytes = e.bytes } in (
        f.least,
        l,
        record { at_least = omega arith; below = s.some; tape = refl; bytes = refl; at = refl },
        subst (λ (z : ℕ). RestTurns (k f.least) l (moment_last z)) long (e.turns (at + f.width)),
      );
}

pub ends : (r : Rest) → AllSound r → Ends r
ends no_more s = end_here
ends (goes_by r) s = let e = ends r s in record { tape = e.tape; bytes = e.bytes; turns = e.turns }
ends (takes f k) (s, h) = end_field f k s (ends (k f.least) (h f.least (omega arith) s.some))

-- a number that the next field may have, and how a payload goes on with it
pub record TurnsOn (b : Block) (f : TheField) (taken done : List ℕ) (x : ℕ) : Type 0 where
  pub tail : List ℕ
  pub more : List ℕ
  pub turns : Turns b (taken ++ onto f.told x tail) (done ++ (number_bytes f.width x ++ more))

pub turns_on : (b : Block) (f : TheField) (k : ℕ → Rest) (taken done : List ℕ) (x : ℕ) → Reaches (rest_all b) (takes f k) taken done → f.least ≤ x → x < f.bound → TurnsOn b f taken done x
turns_on b f k taken done x reach low high =
    let e = ends (k x) (reach.sound.1 x low high) in
    let bytes : List ℕ = number_bytes f.width x ++ e.bytes in
    let m : StubMoment = record { at = length done; tape = onto f.told x e.tape; bytes = bytes } in
    let l : StubMoment = record { at = length done + f.width; tape = e.tape; bytes = e.bytes } in
    let n : StubMoment = moment_last (length done + f.width + length e.bytes) in
    let turns : RestTurns (takes f k) m n = (x, l, record { at_least = low; below = high; tape = refl; bytes = refl; at = refl }, e.turns (length done + f.width)) in
    let long : length done + f.width + length e.bytes ≡ length (done ++ bytes)
    = omega (arith, length-append done bytes, length-append (number_bytes f.width x) e.bytes, length_bytes f.width x) in
    record {
      tail = e.tape;
      more = e.bytes;
      turns = turns_tree b (taken ++ onto f.told x e.tape) (done ++ bytes)
          (subst (λ (z : ℕ). RestTurns (rest_all b) (moment_first (taken ++ onto f.told x e.tape) (done ++ bytes)) (moment_last z)) long (reach.to m n refl turns));
    }

-- a number of the field with these first bytes
pub record Pick (f : TheField) (j low : ℕ) : Type 0 where
  pub x : ℕ
  pub at_least : f.least ≤ x
  pub below : x < f.bound
  pub same : x % 256 ^ j ≡ low % 256 ^ j

pub pick : (f : TheField) (j low : ℕ) → IsSound f → j < f.width → low % 256 ^ j < f.bound → Pick f j low
pick f j low s less below = ⊎_elim
    (λ (narrow : f.width < 2).
    let z : j ≡ 0 = omega (arith, less, narrow) in
    let one : (v : ℕ) → v % 256 ^ j ≡ 0 = λ v. ap (λ (i : ℕ). v % 256 ^ i) z ∙ mod-one v in
    record { x = f.least; at_least = omega arith; below = s.some; same = one f.least ∙ sym (one low) })
    (λ (wide : 2 ≤ f.width). record {
      x = low % 256 ^ j;
      at_least = omega (arith, s.low wide);
      below = below;
      same = mod-eq_of_lt (mod-lt low (pow_positive j));
    })
    (cases_lt f.width 2)

-- a payload that goes on with some bytes of the next number
pub record CanGo (b : Block) (taken all : List ℕ) (p : ℕ) : Type 0 where
  pub tail : List ℕ
  pub full : List ℕ
  pub goes : GoesOn b all p (taken ++ tail) full

long_prefix : (done : List ℕ) (j x : ℕ) → length (done ++ number_bytes j x) ≡ length done + j
long_prefix done j x = length-append done (number_bytes j x) ∙ ap (λ (k : ℕ). length done + k) (length_bytes j x)

pub can_go : (b : Block) (f : TheField) (k : ℕ → Rest) (taken done all more : List ℕ) (t low j : ℕ) → Reaches (rest_all b) (takes f k) taken done
    → all ≡ done ++ (number_bytes t low ++ more) → j ≤ t → j < f.width → low % 256 ^ j < f.bound → CanGo b taken all (length done + j)
can_go b f k taken done all more t low j reach is few less below =
    let y = pick f j low (reach.sound.0) less below in
    let on = turns_on b f k taken done y.x reach y.at_least y.below in
    let full : List ℕ = done ++ (number_bytes f.width y.x ++ on.more) in
    let prefix : List ℕ = done ++ number_bytes j (low % 256 ^ j) in
    let a : List ℕ = number_bytes (t - j) (low / 256 ^ j) ++ more in
    let c : List ℕ = number_bytes (f.width - j) (y.x / 256 ^ j) ++ on.more in
    let one : all ≡ prefix ++ a = is ∙ cut done more t low j few in
    let two : full ≡ prefix ++ c = cut done on.more f.width y.x j (omega (arith, less)) ∙ ap (λ (z : ℕ). (done ++ number_bytes j z) ++ c) y.same in
    let follows : Follows (length done + j) (prefix ++ a) (prefix ++ c) = prefix_follows prefix a c (length done + j) (long_prefix done j (low % 256 ^ j)) in
    record {
      tail = onto f.told y.x on.tail;
      full = full;
      goes = record {
        turns = on.turns;
        follows = subst (λ (z : List ℕ). Follows (length done + j) z full) (sym one) (subst (λ (z : List ℕ). Follows (length done + j) (prefix ++ a) z) (sym two) follows);
      };
    }

-- a payload that begins with the bytes done goes on with a number of the next field
pub record GoesInto (f : TheField) (taken done tape full : List ℕ) : Type 0 where
  pub x : ℕ
  pub at_least : f.least ≤ x
  pub below : x < f.bound
  pub more : List ℕ
  pub full_is : full ≡ done ++ (number_bytes f.width x ++ more)

done_follows : (done left full : List ℕ) (p : ℕ) → length done ≤ p → Follows p (done ++ left) full → Follows (length done) done full
done_follows done left full p far f = record { each = λ i small. sym (get_or_append_left done left 0 i small) ∙ f.each i (omega (arith, small, far)) }

pub goes_from : (b : Block) (r : Rest) (taken done all left tape full : List ℕ) (p : ℕ) → Reaches (rest_all b) r taken done → all ≡ done ++ left → length done ≤ p
    → GoesOn b all p tape full → GoesFrom r taken done tape full (moment_last (length full))
goes_from b r taken done all left tape full p reach is far g =
    reach.from tape full (moment_last (length full)) (tree_turns b tape full g.turns)
    (done_follows done left full p far (subst (λ (z : List ℕ). Follows p z full) is g.follows))

pub goes_into : (b : Block) (f : TheField) (k : ℕ → Rest) (taken done all left tape full : List ℕ) (p : ℕ) → Reaches (rest_all b) (takes f k) taken done → all ≡ done ++ left → length done ≤ p
    → GoesOn b all p tape full → GoesInto f taken done tape full
goes_into b f k taken done all left tape full p reach is far g =
    let h = goes_from b (takes f k) taken done all left tape full p reach is far g in
    let (x, l, mf, t) = h.turns in
    record { x = x; at_least = mf.at_least; below = mf.below; more = l.bytes; full_is = h.full_is ∙ ap (λ (z : List ℕ). done ++ z) mf.bytes }

-- the marks where a field stands
mark_there : (b : Block) (f : TheField) (k : ℕ → Rest) (taken done tail : List ℕ) (j : ℕ) → Reaches (rest_all b) (takes f k) taken done → j < f.width
    → f.mark ≡ mark_at (marks_of b (taken ++ tail)) (length done + j)
mark_there b f k taken done tail j reach less =
    let marks : List ByteKind = rest_marks (rest_all b) (taken ++ tail) in
    let here : List ByteKind = replicate f.width f.mark in
    let more : List ByteKind = rest_marks (k (told_number f.told tail)) (told_rest f.told tail) in
    sym (get_or-replicate f.width j f.mark Zero less)
    ∙ sym (get_or_append_left here more Zero j (omega (arith, less, length-replicate f.width f.mark)))
    ∙ ap (λ (z : List ByteKind). get_or z j Zero) (sym (reach.marks tail))
    ∙ get_or-drop (length done) marks j Zero
    ∙ ap (λ (z : List ByteKind). get_or z (length done + j) Zero) (sym (all_marks b (taken ++ tail)))

-- a number's byte with which no number of the field goes on, and the first such
pub record IsWrong (f : TheField) (low j : ℕ) : Type 0 where
  pub less : j < f.width
  pub below : low % 256 ^ j < f.bound
  pub none : (x : ℕ) → f.least ≤ x → x < f.bound → x % 256 ^ suc j ≡ low % 256 ^ suc j → ⊥

pub leaves_field : (b : Block) (f : TheField) (k : ℕ → Rest) (taken done all more : List ℕ) (t low j : ℕ) → Reaches (rest_all b) (takes f k) taken done
    → all ≡ done ++ (number_bytes t low ++ more) → j < t → IsWrong f low j → LeavesPayloads b all f.mark
leaves_field b f k taken done all more t low j reach is few wrong =
    let go = can_go b f k taken done all more t low j reach is (omega (arith, few)) wrong.less wrong.below in
    record {
      p = length done + j;
      inside = omega (arith, ap length is, length-append done (number_bytes t low ++ more), length-append (number_bytes t low) more, length_bytes t low, few);
      tape = taken ++ go.tail;
      full = go.full;
      goes = go.goes;
      none = λ tape2 full2 g.
          let i = goes_into b f k taken done all (number_bytes t low ++ more) tape2 full2 (length done + j + 1) reach is (omega arith) g in
          let one = is ∙ cut done more t low (suc j) few in
          let two = i.full_is ∙ cut done i.more f.width i.x (suc j) wrong.less in
          let a : List ℕ = number_bytes (t - suc j) (low / 256 ^ suc j) ++ more in
          let c : List ℕ = number_bytes (f.width - suc j) (i.x / 256 ^ suc j) ++ i.more in
          let other : List ℕ = (done ++ number_bytes (suc j) (i.x % 256 ^ suc j)) ++ c in
          let follows : Follows (length done + j + 1) ((done ++ number_bytes (suc j) (low % 256 ^ suc j)) ++ a) other
          = subst (λ (z : List ℕ). Follows (length done + j + 1) z other) one (subst (λ (z : List ℕ). Follows (length done + j + 1) all z) two g.follows) in
          let same = same_low done a c (suc j) (low % 256 ^ suc j) (i.x % 256 ^ suc j) (length done + j + 1) (mod-lt low (pow_positive (suc j))) (mod-lt i.x (pow_positive (suc j))) (omega arith) follows in
          wrong.none i.x i.at_least i.below (sym same);
      is = mark_there b f k taken done go.tail j reach wrong.less;
    }

-- where a number's low part reaches the bound
pub record Crosses (low have t bound : ℕ) : Type 0 where
  pub j : ℕ
  pub inside : j < t
  pub below : low % 256 ^ j < bound
  pub over : bound ≤ low % 256 ^ suc j

crossing : (n low have bound : ℕ) → low % 256 ^ have < bound → bound ≤ low % 256 ^ (n + have) → Crosses low have (n + have) bound
crossing zero low have bound below over =
    let e : low % 256 ^ (zero + have) ≡ low % 256 ^ have = ap (λ (k : ℕ). low % 256 ^ k) (omega arith) in
    absurd (omega (arith, e, below, over))
crossing (suc n) low have bound below over =
    let e : suc n + have ≡ suc (n + have) = omega arith in
    ⊎_elim
    (λ (small : low % 256 ^ (n + have) < bound).
    record { j = n + have; inside = omega arith; below = small; over = subst (λ (k : ℕ). bound ≤ low % 256 ^ k) e over })
    (λ (high : bound ≤ low % 256 ^ (n + have)). let c = crossing n low have bound below high in record { j = c.j; inside = let z = c.inside in omega (arith, z); below = c.below; over = c.over })
    (cases_lt (low % 256 ^ (n + have)) bound)

-- a low part that reaches the bound
pub leaves_over : (b : Block) (f : TheField) (k : ℕ → Rest) (taken done all more : List ℕ) (have n low : ℕ) → Reaches (rest_all b) (takes f k) taken done
    → all ≡ done ++ (number_bytes (have + n) low ++ more) → have + n ≤ f.width → low % 256 ^ have < f.bound → low < 256 ^ (have + n) → f.bound ≤ low
    → LeavesPayloads b all f.mark
leaves_over b f k taken done all more have n low reach is few below small over =
    let e : n + have ≡ have + n = omega arith in
    let whole : low % 256 ^ (n + have) ≡ low = ap (λ (i : ℕ). low % 256 ^ i) e ∙ mod-eq_of_lt small in
    let c = crossing n low have f.bound below (omega (arith, whole, over)) in
    let inside = c.inside in
    leaves_field b f k taken done all more (have + n) low c.j reach is (omega (arith, inside))
    (record {
      less = omega (arith, inside, few);
      below = c.below;
      none = λ x least high same. let a = mod-le x (256 ^ suc c.j) in let d = c.over in omega (arith, a, d, same, high);
    })

-- a whole number that is too low
pub leaves_under : (b : Block) (f : TheField) (k : ℕ → Rest) (taken done all more : List ℕ) (low : ℕ) → Reaches (rest_all b) (takes f k) taken done
    → all ≡ done ++ (number_bytes f.width low ++ more) → low < f.bound → low < f.least → LeavesPayloads b all f.mark
leaves_under b f k taken done all more low reach is high under = by_width f.width refl
  where
    high_of : (x w : ℕ) → f.width ≡ w → x < f.bound → x % 256 ^ w ≡ x
    high_of x w e h = mod-eq_of_lt (let s = reach.sound.0.high in let p : 256 ^ f.width ≡ 256 ^ w = ap (λ (i : ℕ). 256 ^ i) e in omega (arith, s, p, h))

    by_width : (w : ℕ) → f.width ≡ w → LeavesPayloads b all f.mark
    by_width zero e =
        let s = reach.sound.0.high in
        let some = reach.sound.0.some in
        let p : 256 ^ f.width ≡ 1 = ap (λ (i : ℕ). 256 ^ i) e in
        absurd (omega (arith, s, p, under, some))
    by_width (suc j) e =
        leaves_field b f k taken done all more f.width low j reach is (omega (arith, e))
        (record {
          less = omega (arith, e);
          below = let a = mod-le low (256 ^ j) in omega (arith, a, high);
          none = λ x least below same. let a = high_of x (suc j) e below in let c = high_of low (suc j) e high in omega (arith, a, c, same, least, under);
        })

-- some bytes of a number
pub begins_payload : (b : Block) (r : Rest) (taken done all : List ℕ) (have value : ℕ) → Reaches (rest_all b) r taken done → IsPartOfField r have value
    → all ≡ done ++ number_bytes have value → BeginsPayload b all
begins_payload b r taken done all have value reach part is =
    let f = part.field in
    let at : Reaches (rest_all b) (takes f part.after) taken done = subst (λ (z : Rest). Reaches (rest_all b) z taken done) part.is reach in
    let nothing : all ≡ done ++ (number_bytes have value ++ []) = is ∙ ap (λ (z : List ℕ). done ++ z) (sym (append-nil (number_bytes have value))) in
    let same : value % 256 ^ have ≡ value = mod-eq_of_lt part.small in
    let below = part.below in
    let go = can_go b f part.after taken done all [] have value have at nothing (omega arith) part.less (omega (arith, same, below)) in
    let long : length done + have ≡ length all = sym (ap length is ∙ long_prefix done have value) in
    record {
      tape = taken ++ go.tail;
      full = go.full;
      goes = subst (λ (n : ℕ). GoesOn b all n (taken ++ go.tail) go.full) long go.goes;
      longer = λ tape2 full2 g.
          let i = goes_into b f part.after taken done all (number_bytes have value) tape2 full2 (length all) at is (omega (arith, long)) g in
          let less = part.less in
          omega (arith, long, less, ap length i.full_is, length-append done (number_bytes f.width i.x ++ i.more), length-append (number_bytes f.width i.x) i.more, length_bytes f.width i.x);
    }

-- the end

end_turns : (b : Block) (taken done : List ℕ) → Reaches (rest_all b) no_more taken done → Turns b taken done
end_turns b taken done reach =
    let m : StubMoment = moment_last (length done) in
    let t : RestTurns (rest_all b) (moment_first (taken ++ []) (done ++ [])) m = reach.to m m refl refl in
    turns_tree b taken done (subst (λ (x : List ℕ). RestTurns (rest_all b) (moment_first taken x) m) (append-nil done) (subst (λ (x : List ℕ). RestTurns (rest_all b) (moment_first x (done ++ [])) m) (append-nil taken) t))

end_follows : (done left : List ℕ) (n p : ℕ) → n ≡ length done + p → ((i : ℕ) → i < p → get_or left i 0 ≡ 0) → Follows n (done ++ left) done
end_follows done left n p long zeros = record {
  each = λ i small. ⊎_elim
      (λ (inside : i < length done). get_or_append_left done left 0 i inside)
      (λ (past : length done ≤ i). get_or-append_right done left (length done) i 0 refl past ∙ zeros (i - length done) (omega (arith, small, long, past)) ∙ sym (get_or_past done i 0 past))
      (cases_lt i (length done));
}

pub is_payload : (b : Block) (r : Rest) (taken done all left : List ℕ) → Reaches (rest_all b) r taken done → r ≡ no_more → all ≡ done ++ left → ((i : ℕ) → i < length left → get_or left i 0 ≡ 0)
    → IsPayload b all taken
is_payload b r taken done all left reach ended is zeros =
    let at : Reaches (rest_all b) no_more taken done = subst (λ (z : Rest). Reaches (rest_all b) z taken done) ended reach in
    let long : length all ≡ length done + length left = ap length is ∙ length-append done left in
    record {
      full = done;
      goes = record { turns = end_turns b taken done at; follows = subst (λ (z : List ℕ). Follows (length all) z done) (sym is) (end_follows done left (length all) (length left) long zeros) };
      short = omega (arith, long);
    }

-- a byte behind the last that is no zero
pub leaves_end : (b : Block) (r : Rest) (taken done all left : List ℕ) (p : ℕ) → Reaches (rest_all b) r taken done → r ≡ no_more → all ≡ done ++ left → p < length left
    → ((i : ℕ) → i < p → get_or left i 0 ≡ 0) → (get_or left p 0 ≡ 0 → ⊥) → LeavesPayloads b all Zero
leaves_end b r taken done all left p reach ended is inside zeros wrong =
    let at : Reaches (rest_all b) no_more taken done = subst (λ (z : Rest). Reaches (rest_all b) z taken done) ended reach in
    let long : length all ≡ length done + length left = ap length is ∙ length-append done left in
    record {
      p = length done + p;
      inside = omega (arith, long, inside);
      tape = taken;
      full = done;
      goes = record { turns = end_turns b taken done at; follows = subst (λ (z : List ℕ). Follows (length done + p) z done) (sym is) (end_follows done left (length done + p) p refl zeros) };
      none = λ tape2 full2 g.
          let h = goes_from b no_more taken done all left tape2 full2 (length done + p + 1) at is (omega arith) g in
          let nothing : h.m.bytes ≡ [] = ap StubMoment.bytes h.turns in
          let same : full2 ≡ done = h.full_is ∙ ap (λ (z : List ℕ). done ++ z) nothing ∙ append-nil done in
          let there : get_or left p 0 ≡ get_or all (length done + p) 0
          = ap (λ (i : ℕ). get_or left i 0) (omega arith) ∙ sym (get_or-append_right done left (length done) (length done + p) 0 refl (omega arith)) ∙ ap (λ (z : List ℕ). get_or z (length done + p) 0) (sym is) in
          wrong (there ∙ g.follows.each (length done + p) (omega arith) ∙ ap (λ (z : List ℕ). get_or z (length done + p) 0) same ∙ get_or_past done (length done + p) 0 (omega arith));
      is =
          let none : get_or (drop (length done) (rest_marks (rest_all b) (taken ++ []))) p Zero ≡ Zero = ap (λ (z : List ByteKind). get_or z p Zero) (at.marks []) ∙ get_or_past {X = ByteKind} [] p Zero (omega arith) in
          sym (ap (λ (z : List ByteKind). get_or z (length done + p) Zero) (all_marks b taken)
          ∙ ap (λ (z : List ℕ). get_or (rest_marks (rest_all b) z) (length done + p) Zero) (sym (append-nil taken))
          ∙ sym (get_or-drop (length done) (rest_marks (rest_all b) (taken ++ [])) p Zero)
          ∙ none);
    }

-- steps

pub reach_first : (b : Block) → AllSound (rest_all b) → Reaches (rest_all b) (rest_all b) [] []
reach_first b sound = record {
  to = λ m n e t. let start : m ≡ moment_first m.tape m.bytes = λ i. record { at = e i; tape = m.tape; bytes = m.bytes } in subst (λ (z : StubMoment). RestTurns (rest_all b) z n) start t;
  from = λ tape full n t f. record { m = moment_first tape full; at = refl; tape_is = refl; full_is = refl; turns = t };
  gives = λ tape. refl;
  marks = λ tape. refl;
  sound = sound;
}

pub reach_by : (whole r : Rest) (taken done : List ℕ) → Reaches whole (goes_by r) taken done → Reaches whole r taken done
reach_by whole r taken done h = record {
  to = h.to;
  from = λ tape full n t f. let g = h.from tape full n t f in record { m = g.m; at = g.at; tape_is = g.tape_is; full_is = g.full_is; turns = g.turns };
  gives = h.gives;
  marks = h.marks;
  sound = h.sound;
}

tell : (t : Bool) (x : ℕ) (taken tape : List ℕ) → taken ++ onto t x tape ≡ (taken ++ told t x) ++ tape
tell true x taken tape = sym (append_assoc taken (x ∷ []) tape)
tell false x taken tape = ap (λ (z : List ℕ). z ++ tape) (sym (append-nil taken))

pub tells : (t : Bool) (x : ℕ) (tape : List ℕ) → (t ≡ false → x ≡ 0) → (told_number t (onto t x tape) ≡ x) × (told_rest t (onto t x tape) ≡ tape)
tells true x tape none = (refl, refl)
tells false x tape none = (sym (none refl), refl)

pub reach_field : (whole : Rest) (f : TheField) (k : ℕ → Rest) (taken done : List ℕ) (x : ℕ) → Reaches whole (takes f k) taken done → f.least ≤ x → x < f.bound
    → Reaches whole (k x) (taken ++ told f.told x) (done ++ number_bytes f.width x)
reach_field whole f k taken done x h low high =
    let sound = h.sound.0 in
    let bytes : List ℕ = number_bytes f.width x in
    let long : length (done ++ bytes) ≡ length done + f.width = long_prefix done f.width x in
    let tall = sound.high in
    let fits : x < 256 ^ f.width = omega (arith, high, tall) in
    let none : f.told ≡ false → x ≡ 0 = λ e. let one = sound.unacknowledged e in omega (arith, one, high) in
    record {
      to = λ m n at t.
          let before : StubMoment = record { at = length done; tape = onto f.told x m.tape; bytes = bytes ++ m.bytes } in
          let made = h.to before n refl (x, m, record { at_least = low; below = high; tape = refl; bytes = refl; at = at ∙ long }, t) in
          subst (λ (z : List ℕ). RestTurns whole (moment_first ((taken ++ told f.told x) ++ m.tape) z) n) (sym (append_assoc done bytes m.bytes))
          (subst (λ (z : List ℕ). RestTurns whole (moment_first z (done ++ (bytes ++ m.bytes))) n) (tell f.told x taken m.tape) made);
      from = λ tape full n t follows.
          let first : Follows (length done) done full = done_follows done bytes full (length (done ++ bytes)) (omega (arith, long)) follows in
          let g = h.from tape full n t first in
          let (y, l, mf, after) = g.turns in
          let is : full ≡ (done ++ number_bytes f.width y) ++ l.bytes = g.full_is ∙ ap (λ (z : List ℕ). done ++ z) mf.bytes ∙ sym (append_assoc done (number_bytes f.width y) l.bytes) in
          let other = mf.below in
          let joined : Follows (length (done ++ bytes)) ((done ++ bytes) ++ []) ((done ++ number_bytes f.width y) ++ l.bytes)
          = subst (λ (z : List ℕ). Follows (length (done ++ bytes)) z ((done ++ number_bytes f.width y) ++ l.bytes)) (sym (append-nil (done ++ bytes)))
          (subst (λ (z : List ℕ). Follows (length (done ++ bytes)) (done ++ bytes) z) is follows) in
          let same : x ≡ y = same_low done [] l.bytes f.width x y (length (done ++ bytes)) fits (omega (arith, other, tall)) long joined in
          record {
            m = l;
            at = mf.at ∙ ap (λ (z : ℕ). z + f.width) g.at ∙ sym long;
            tape_is = g.tape_is ∙ ap (λ (z : List ℕ). taken ++ z) mf.tape ∙ ap (λ (z : ℕ). taken ++ onto f.told z l.tape) (sym same) ∙ tell f.told x taken l.tape;
            full_is = is ∙ ap (λ (z : ℕ). (done ++ number_bytes f.width z) ++ l.bytes) (sym same);
            turns = subst (λ (z : ℕ). RestTurns (k z) l n) (sym same) after;
          };
      gives = λ tape.
          let (one, two) = tells f.told x tape none in
          ap (rest_bytes whole) (sym (tell f.told x taken tape))
          ∙ h.gives (onto f.told x tape)
          ∙ (λ i. done ++ (number_bytes f.width (one i) ++ rest_bytes (k (one i)) (two i)))
          ∙ sym (append_assoc done bytes (rest_bytes (k x) tape));
      marks = λ tape.
          let (one, two) = tells f.told x tape none in
          let all : List ByteKind = rest_marks whole ((taken ++ told f.told x) ++ tape) in
          let after : drop (length done) all ≡ replicate f.width f.mark ++ rest_marks (k x) tape
          = ap (λ (z : List ℕ). drop (length done) (rest_marks whole z)) (sym (tell f.told x taken tape))
          ∙ h.marks (onto f.told x tape)
          ∙ (λ i. replicate f.width f.mark ++ rest_marks (k (one i)) (two i)) in
          ap (λ (z : ℕ). drop z all) (long ∙ omega arith)
          ∙ sym (drop-drop f.width (length done) all)
          ∙ ap (drop f.width) after
          ∙ ap (λ (z : ℕ). drop z (replicate f.width f.mark ++ rest_marks (k x) tape)) (sym (length-replicate f.width f.mark))
          ∙ drop-append_seam (replicate f.width f.mark) (rest_marks (k x) tape);
      sound = h.sound.1 x low high;
    }

-- what is shown of the bytes
pub shows_bytes : (b : Block) (r : Rest) (taken done all : List ℕ) (have value : ℕ) → Reaches (rest_all b) r taken done → ((have ≡ 0) × (value ≡ 0)) ⊎ IsPartOfField r have value
    → all ≡ done ++ number_bytes have value → Follows (length all) all (bytes_given b (taken ++ value ∷ []))
shows_bytes b r taken done all have value reach (inl none) is =
    let given : bytes_given b (taken ++ value ∷ []) ≡ done ++ rest_bytes r (value ∷ []) = all_bytes b (taken ++ value ∷ []) ∙ reach.gives (value ∷ []) in
    let same : all ≡ done ++ [] = is ∙ ap (λ (z : ℕ). done ++ number_bytes z value) (none.0) in
    let long : length done ≡ length all = sym (ap length (same ∙ append-nil done)) in
    subst (λ (z : List ℕ). Follows (length all) z (bytes_given b (taken ++ value ∷ []))) (sym same)
    (subst (λ (z : List ℕ). Follows (length all) (done ++ []) z) (sym given) (prefix_follows done [] (rest_bytes r (value ∷ [])) (length all) long))
shows_bytes b r taken done all have value reach (inr part) is =
    let f = part.field in
    let at : Reaches (rest_all b) (takes f part.after) taken done = subst (λ (z : Rest). Reaches (rest_all b) z taken done) part.is reach in
    let tape : List ℕ = value ∷ [] in
    let x : told_number f.told tape ≡ value = by_told f.told (λ e. let one = at.sound.0.unacknowledged e in let below = part.below in omega (arith, one, below)) in
    let more : List ℕ = rest_bytes (part.after (told_number f.told tape)) (told_rest f.told tape) in
    let given : bytes_given b (taken ++ tape) ≡ done ++ (number_bytes f.width value ++ more)
    = all_bytes b (taken ++ tape) ∙ at.gives tape ∙ ap (λ (z : ℕ). done ++ (number_bytes f.width z ++ more)) x in
    let less = part.less in
    let low : value % 256 ^ have ≡ value = mod-eq_of_lt part.small in
    let split : bytes_given b (taken ++ tape) ≡ (done ++ number_bytes have value) ++ (number_bytes (f.width - have) (value / 256 ^ have) ++ more)
    = given ∙ cut done more f.width value have (omega (arith, less)) ∙ ap (λ (z : ℕ). (done ++ number_bytes have z) ++ (number_bytes (f.width - have) (value / 256 ^ have) ++ more)) low in
    let same : all ≡ (done ++ number_bytes have value) ++ [] = is ∙ sym (append-nil (done ++ number_bytes have value)) in
    subst (λ (z : List ℕ). Follows (length all) z (bytes_given b (taken ++ tape))) (sym same)
    (subst (λ (z : List ℕ). Follows (length all) ((done ++ number_bytes have value) ++ []) z) (sym split)
    (prefix_follows (done ++ number_bytes have value) [] (number_bytes (f.width - have) (value / 256 ^ have) ++ more) (length all) (sym (ap length is))))
  where
    by_told : (t : Bool) → (t ≡ false → value ≡ 0) → told_number t (value ∷ []) ≡ value
    by_told true h = refl
    by_told false h = sym (h refl)
