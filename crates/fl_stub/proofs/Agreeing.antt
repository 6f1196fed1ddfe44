-- Payloads of receive code that begin alike have the same marks up to the first byte in which they differ.
use Rattle.std.proofs.Common.{◌≡◌, ℕ, ◌+◌, ◌-◌, ◌<◌, ◌≤◌, ⊎_elim, List, [], ◌++◌, length, get_or, replicate, refl, sym, ◌∙◌, ap, subst, arith}
use Rattle.std.proofs.lemmas.Bool.{cases_lt}
use Rattle.std.proofs.lemmas.List.{get_or_append_left, get_or-append_right, get_or-replicate, length-replicate}
use Rattle.fl_stub.specs.declared.mark.ByteKind.{ByteKind}
use Rattle.fl_stub.specs.declared.mark.ByteKind.TheVariants.{Zero}
use Rattle.fl_stub.specs.Structure.{Block}
use Rattle.fl_stub.specs.Meaning.{number_bytes, StubMoment, moment_first, moment_last}
use Rattle.fl_stub.specs.Marks.{marks_of, mark_at}
use Rattle.fl_stub.specs.Streams.{Follows, LeavesPayloads, OneMark, OneLeaving}
use Rattle.fl_stub.specs.Rests.{TheField, Rest, no_more, goes_by, takes, rest_all, MovesField, RestTurns, rest_marks, IsSound, AllSound}
use Rattle.fl_stub.proofs.Numbers.{length_bytes, same_low}
use Rattle.fl_stub.proofs.Trees.{all_marks, all_sound, tree_turns}
use Rattle.fl_stub.proofs.Reaching.{tells}

-- the marks from a field on: its own, and those behind it
field_marks : (f : TheField) (k : ℕ → Rest) (x : ℕ) (m l : StubMoment) → IsSound f → MovesField f x m l
    → rest_marks (takes f k) m.tape ≡ replicate f.width f.mark ++ rest_marks (k x) l.tape
field_marks f k x m l s moves =
    let below = moves.below in
    let (number, left) = tells f.told x l.tape (λ e. let one = s.unacknowledged e in omega (arith, one, below)) in
    ap (rest_marks (takes f k)) moves.tape ∙ (λ i. replicate f.width f.mark ++ rest_marks (k (number i)) (left i))

-- inside a field its mark stands
mark_inside : (width p : ℕ) (mark : ByteKind) (more : List ByteKind) → p < width → mark_at (replicate width mark ++ more) p ≡ mark
mark_inside width p mark more less =
    get_or_append_left (replicate width mark) more Zero p (omega (arith, less, length-replicate width mark)) ∙ get_or-replicate width p mark Zero less

-- behind it, those behind it
mark_behind : (width p : ℕ) (mark : ByteKind) (more : List ByteKind) → width ≤ p → mark_at (replicate width mark ++ more) p ≡ mark_at more (p - width)
mark_behind width p mark more past = get_or-append_right (replicate width mark) more width p Zero (length-replicate width mark) past

byte_behind : (width x i : ℕ) (more : List ℕ) → get_or more i 0 ≡ get_or (number_bytes width x ++ more) (width + i) 0
byte_behind width x i more =
    ap (λ (j : ℕ). get_or more j 0) (omega arith) ∙ sym (get_or-append_right (number_bytes width x) more width (width + i) 0 (length_bytes width x) (omega arith))

follows_behind : (width x y p : ℕ) (a b : List ℕ) → Follows p (number_bytes width x ++ a) (number_bytes width y ++ b) → width ≤ p → Follows (p - width) a b
follows_behind width x y p a b f past = record {
  each = λ i small. byte_behind width x i a ∙ f.each (width + i) (omega (arith, small, past)) ∙ sym (byte_behind width y i b);
}

-- the same number stands in the bytes of a field
same_field : (f : TheField) (x y p : ℕ) (m l m2 l2 : StubMoment) → IsSound f → MovesField f x m l → MovesField f y m2 l2 → Follows p m.bytes m2.bytes → f.width ≤ p → x ≡ y
same_field f x y p m l m2 l2 s one two follows past =
    let high = s.high in
    let below = one.below in
    let below2 = two.below in
    let here : Follows f.width (number_bytes f.width x ++ l.bytes) (number_bytes f.width y ++ l2.bytes) = record {
      each = λ i small. ap (λ (z : List ℕ). get_or z i 0) (sym one.bytes) ∙ follows.each i (omega (arith, small, past)) ∙ ap (λ (z : List ℕ). get_or z i 0) two.bytes;
    } in
    same_low [] l.bytes l2.bytes f.width x y f.width (omega (arith, below, high)) (omega (arith, below2, high)) (omega arith) here

same_mark : (r : Rest) (m n m2 n2 : StubMoment) (p : ℕ) → AllSound r → RestTurns r m n → RestTurns r m2 n2 → Follows p m.bytes m2.bytes
    → mark_at (rest_marks r m.tape) p ≡ mark_at (rest_marks r m2.tape) p
same_mark no_more m n m2 n2 p s t t2 follows = refl
same_mark (goes_by r) m n m2 n2 p s t t2 follows = same_mark r m n m2 n2 p s t t2 follows
same_mark (takes f k) m n m2 n2 p (s, more) (x, l, moves, t) (y, l2, moves2, t2) follows =
    ap (λ (z : List ByteKind). mark_at z p) (field_marks f k x m l s moves)
    ∙ ⊎_elim
    (λ (less : p < f.width). mark_inside f.width p f.mark (rest_marks (k x) l.tape) less ∙ sym (mark_inside f.width p f.mark (rest_marks (k y) l2.tape) less))
    (λ (past : f.width ≤ p).
    let same = same_field f x y p m l m2 l2 s moves moves2 follows past in
    let left : Follows (p - f.width) l.bytes l2.bytes = follows_behind f.width x y p l.bytes l2.bytes (subst (λ (z : List ℕ). Follows p z (number_bytes f.width y ++ l2.bytes)) moves.bytes (subst (λ (z : List ℕ). Follows p m.bytes z) moves2.bytes follows)) past in
    mark_behind f.width p f.mark (rest_marks (k x) l.tape) past
    ∙ same_mark (k x) l n l2 n2 (p - f.width) (more x moves.at_least moves.below) t (subst (λ (z : ℕ). RestTurns (k z) l2 n2) (sym same) t2) left
    ∙ ap (λ (z : ℕ). mark_at (rest_marks (k z) l2.tape) (p - f.width)) same
    ∙ sym (mark_behind f.width p f.mark (rest_marks (k y) l2.tape) past))
    (cases_lt p f.width)
    ∙ sym (ap (λ (z : List ByteKind). mark_at z p) (field_marks f k y m2 l2 s moves2))

pub one_mark : OneMark
one_mark b tape tape2 full full2 p fits t t2 follows =
    ap (λ (z : List ByteKind). mark_at z p) (all_marks b tape)
    ∙ same_mark (rest_all b) (moment_first tape full) (moment_last (length full)) (moment_first tape2 full2) (moment_last (length full2)) p (all_sound b fits)
    (tree_turns b tape full t) (tree_turns b tape2 full2 t2) follows
    ∙ sym (ap (λ (z : List ByteKind). mark_at z p) (all_marks b tape2))

-- the place at which bytes leave the payloads is one
leaves_at : (b : Block) (bytes : List ℕ) (mark mark2 : ByteKind) (x : LeavesPayloads b bytes mark) (y : LeavesPayloads b bytes mark2) → y.p ≤ x.p
leaves_at b bytes mark mark2 x y = ⊎_elim
    (λ (less : x.p < y.p).
    absurd (x.none y.tape y.full (record { turns = y.goes.turns; follows = record { each = λ i small. y.goes.follows.each i (omega (arith, small, less)) } })))
    (λ (past : y.p ≤ x.p). past)
    (cases_lt x.p y.p)

pub one_leaving : OneLeaving
one_leaving b bytes mark mark2 fits x y =
    let low = leaves_at b bytes mark mark2 x y in
    let high = leaves_at b bytes mark2 mark y x in
    let same : x.p ≡ y.p = omega (arith, low, high) in
    x.is
    ∙ one_mark b x.tape y.tape x.full y.full x.p fits x.goes.turns y.goes.turns
    (record { each = λ i small. sym (x.goes.follows.each i small) ∙ y.goes.follows.each i (omega (arith, small, same)) })
    ∙ ap (λ (i : ℕ). mark_at (marks_of b y.tape) i) same
    ∙ sym y.is
