-- What steps give, they take back.
use Rattle.std.proofs.Common.{◌≡◌, ◌≢◌, ℕ, zero, suc, ◌+◌, ◌*◌, ◌%◌, List, [], ◌∷◌, ◌++◌, length, take, drop, replicate, refl, sym, ◌∙◌, ap, arith, append_assoc, ltb}
use Rattle.std.specs.Int.{from_le_bytes, w64}
use Rattle.std.proofs.lemmas.List.{append-nil, length-append, length-replicate, take-append-drop}
use Rattle.std.proofs.lemmas.Bool.{le-ltb, cond-false}
use Rattle.fl_stub.specs.Meaning.{gap_to_8, moment_first, moment_last}
use Rattle.fl_stub_steps.specs.Spreading.{packed_for, Spread, Spreader, spread_of, spread_first, copied, padded, aligned, repeated, length_at}
use Rattle.fl_stub_steps.specs.Steps.{TheStep, span, align, each, counted, times, TheSteps, no_step, after, step_done, steps_done}
use Rattle.fl_stub_steps.specs.Taking.{passed, passed_to_8, step_taken, steps_taken, TakesBack}
use Rattle.fl_stub_steps.proofs.Spreads.{block_carries}
use Rattle.fl_stub_steps.proofs.StepsPut.{snoc_same}

-- what f gives from x, g takes back
record Undone (f g : Spreader) (x : Spread) : Type 0 where
  pub from : List ℕ
  pub given : List ℕ
  pub tape : x.left ≡ from ++ (f x).left
  pub bytes : (f x).given ≡ x.given ++ given
  pub back : (before more : List ℕ) → (length x.given + length (given ++ more)) % 8 ≡ 0 → g (spread_of before (given ++ more)) ≡ spread_of (before ++ from) more

-- it does where a byte of the tape is left, so that no copy was short; and where none is left none comes
record Undoes (f g : Spreader) : Type 0 where
  pub none : (x : Spread) → x.left ≡ [] → (f x).left ≡ []
  pub undone : (x : Spread) → (f x).left ≢ [] → Undone f g x

undoes_same : Undoes (λ x. x) (λ x. x)
undoes_same = record {
  none = λ x e. e;
  undone = λ x some. record {
    from = [];
    given = [];
    tape = refl;
    bytes = sym (append-nil x.given);
    back = λ before more whole. ap (λ (z : List ℕ). spread_of z more) (sym (append-nil before));
  };
}

undoes_then : (f g h k : Spreader) → Undoes f g → Undoes h k → Undoes (λ x. h (f x)) (λ x. k (g x))
undoes_then f g h k one two = record {
  none = λ x e. two.none (f x) (one.none x e);
  undone = λ x some.
      let a = one.undone x (λ e. some (two.none (f x) e)) in
      let b = two.undone (f x) some in
      record {
        from = a.from ++ b.from;
        given = a.given ++ b.given;
        tape = a.tape ∙ ap (λ (z : List ℕ). a.from ++ z) b.tape ∙ sym (append_assoc a.from b.from (h (f x)).left);
        bytes = b.bytes ∙ ap (λ (z : List ℕ). z ++ b.given) a.bytes ∙ append_assoc x.given a.given b.given;
        back = λ before more whole.
            let apart : (a.given ++ b.given) ++ more ≡ a.given ++ (b.given ++ more) = append_assoc a.given b.given more in
            let first : (length x.given + length (a.given ++ (b.given ++ more))) % 8 ≡ 0 = omega (arith, whole, ap length apart) in
            let second : (length (f x).given + length (b.given ++ more)) % 8 ≡ 0
            = omega (arith, first, ap length a.bytes, length-append x.given a.given, length-append a.given (b.given ++ more)) in
            ap (λ (z : List ℕ). k (g (spread_of before z))) apart
            ∙ ap k (a.back before (b.given ++ more) first)
            ∙ b.back (before ++ a.from) more second
            ∙ ap (λ (z : List ℕ). spread_of z more) (append_assoc before a.from b.from);
      };
}

-- ---- copies and zeros

drop_none : (n : ℕ) (xs : List ℕ) → xs ≡ [] → drop n xs ≡ []
drop_none zero xs e = e
drop_none (suc n) [] e = refl
drop_none (suc n) (x ∷ xs) e = absurd (cc)

some_left : (n : ℕ) (xs : List ℕ) → drop n xs ≢ [] → length (take n xs) ≡ n
some_left zero xs some = refl
some_left (suc n) [] some = absurd (some refl)
some_left (suc n) (x ∷ xs) some = ap suc (some_left n xs some)

taken_again : (n : ℕ) (xs more : List ℕ) → length xs ≡ n → (take n (xs ++ more) ≡ xs) × (drop n (xs ++ more) ≡ more)
taken_again zero [] more e = (refl, refl)
taken_again zero (x ∷ xs) more e = absurd (omega (arith, e))
taken_again (suc n) [] more e = absurd (omega (arith, e))
taken_again (suc n) (x ∷ xs) more e =
    let p = taken_again n xs more (omega (arith, e)) in
    (ap (λ (l : List ℕ). x ∷ l) (p.0), p.1)

undoes_copy : (n : ℕ) → Undoes (copied n) (copied n)
undoes_copy n = record {
  none = λ x e. drop_none n x.left e;
  undone = λ x some.
      let here = take n x.left in
      record {
        from = here;
        given = here;
        tape = sym (take-append-drop n x.left);
        bytes = refl;
        back = λ before more whole.
            let p = taken_again n here more (some_left n x.left some) in
            ap (λ (z : List ℕ). spread_of (before ++ z) (drop n (here ++ more))) (p.0) ∙ ap (λ (z : List ℕ). spread_of (before ++ here) z) (p.1);
      };
}

zeros_back : (n : ℕ) (before more : List ℕ) → passed n (spread_of before (replicate n 0 ++ more)) ≡ spread_of (before ++ []) more
zeros_back n before more =
    let p = taken_again n (replicate n 0) more (length-replicate {A = ℕ} n 0) in
    ap (λ (z : List ℕ). spread_of before z) (p.1) ∙ ap (λ (z : List ℕ). spread_of z more) (sym (append-nil before))

undoes_pad : (n : ℕ) → Undoes (padded n) (passed n)
undoes_pad n = record {
  none = λ x e. e;
  undone = λ x some. record { from = []; given = replicate n 0; tape = refl; bytes = refl; back = λ before more whole. zeros_back n before more };
}

gap_left : (at gap more : ℕ) → gap ≡ gap_to_8 at → (at + (gap + more)) % 8 ≡ 0 → (gap + more) % 8 ≡ gap
gap_left at gap more e whole = omega (arith, e, whole)

undoes_align : Undoes aligned passed_to_8
undoes_align = record {
  none = λ x e. e;
  undone = λ x some.
      let gap = gap_to_8 (length x.given) in
      record {
        from = [];
        given = replicate gap 0;
        tape = refl;
        bytes = refl;
        back = λ before more whole.
            let long : length (replicate gap 0 ++ more) ≡ gap + length more = omega (arith, length-append (replicate {A = ℕ} gap 0) more, length-replicate {A = ℕ} gap 0) in
            let past : length (replicate gap 0 ++ more) % 8 ≡ gap
            = ap (λ (k : ℕ). k % 8) long ∙ gap_left (length x.given) gap (length more) refl (omega (arith, whole, long)) in
            ap (λ (k : ℕ). passed k (spread_of before (replicate gap 0 ++ more))) past ∙ zeros_back gap before more;
      };
}

-- ---- loops

undoes_turns : (f g : Spreader) → Undoes f g → (k : ℕ) → Undoes (repeated f k) (repeated g k)
undoes_turns f g one zero = undoes_same
undoes_turns f g one (suc k) = undoes_then f g (repeated f k) (repeated g k) one (undoes_turns f g one k)

-- a length is told by its eight bytes
length_same : (xs more : List ℕ) → length xs ≡ 8 → length_at (xs ++ more) ≡ from_le_bytes w64 xs
length_same (a ∷ b ∷ c ∷ d ∷ e ∷ f ∷ g ∷ h ∷ []) more long =
    let xs = a ∷ b ∷ c ∷ d ∷ e ∷ f ∷ g ∷ h ∷ [] in
    cond-false (ltb (length (xs ++ more)) 8) 0 (from_le_bytes w64 xs) (le-ltb (length (xs ++ more)) 8 (omega (arith, length-append xs more)))
length_same xs more long = absurd (omega (arith, long))

-- a length, and then what it says
undoes_counted : (f g : ℕ → Spreader) → ((k : ℕ) → Undoes (f k) (g k)) → Undoes (λ x. f (length_at x.left) (copied 8 x)) (λ x. g (length_at x.left) (copied 8 x))
unfolding undoes_then undoes_copy
undoes_counted f g one = record {
  none = λ x e. (one (length_at x.left)).none (copied 8 x) ((undoes_copy 8).none x e);
  undone = λ x some.
      let k = length_at x.left in
      let here = take 8 x.left in
      let long = some_left 8 x.left (λ e. some ((one k).none (copied 8 x) e)) in
      let rest = ((one k).undone (copied 8 x) some).given in
      let told : length_at x.left ≡ from_le_bytes w64 here = ap length_at (sym (take-append-drop 8 x.left)) ∙ length_same here (drop 8 x.left) long in
      let all = (undoes_then (copied 8) (copied 8) (f k) (g k) (undoes_copy 8) (one k)).undone x some in
      record {
        from = all.from;
        given = all.given;
        tape = all.tape;
        bytes = all.bytes;
        back = λ before more whole.
            let same : length_at (all.given ++ more) ≡ k = ap length_at (append_assoc here rest more) ∙ length_same here (rest ++ more) long ∙ sym told in
            ap (λ (n : ℕ). g n (copied 8 (spread_of before (all.given ++ more)))) same ∙ all.back before more whole;
      };
}

mutual
  step_undoes : (s : TheStep) → Undoes (step_done s) (step_taken s)
  step_undoes (span bytes zeros) = undoes_then (copied bytes) (copied bytes) (padded zeros) (passed zeros) (undoes_copy bytes) (undoes_pad zeros)
  step_undoes align = undoes_align
  step_undoes (each bytes) = undoes_counted (λ k. copied (k * bytes)) (λ k. copied (k * bytes)) (λ k. undoes_copy (k * bytes))
  step_undoes (counted steps) = undoes_counted (λ k. repeated (steps_done steps) k) (λ k. repeated (steps_taken steps) k) (λ k. undoes_turns (steps_done steps) (steps_taken steps) (steps_undo steps) k)
  step_undoes (times turns steps) = undoes_turns (steps_done steps) (steps_taken steps) (steps_undo steps) turns

  steps_undo : (steps : TheSteps) → Undoes (steps_done steps) (steps_taken steps)
  steps_undo no_step = undoes_same
  steps_undo (after s earlier) = undoes_then (steps_done earlier) (steps_taken earlier) (step_done s) (step_taken s) (steps_undo earlier) (step_undoes s)

not_none : (x : ℕ) → x ∷ [] ≡ [] → ⊥
not_none x e = absurd (cc)

same_before : (xs ys : List ℕ) → xs ++ 0 ∷ [] ≡ ys ++ 0 ∷ [] → xs ≡ ys
same_before xs ys e = (snoc_same xs ys 0 0 e).0

pub takes_back : TakesBack
takes_back column b steps tape bytes more fits means t whole =
    let packed = packed_for b tape in
    let carried = block_carries column b fits (moment_first tape bytes) (moment_last (length bytes)) t in
    let x = spread_of [] (packed ++ 0 ∷ []) in
    let gives : steps_done steps x ≡ spread_of bytes (0 ∷ [])
    = means x ∙ carried.moves [] (0 ∷ []) refl ∙ ap (λ (z : List ℕ). spread_of z (0 ∷ [])) (sym (carried.bytes ∙ append-nil carried.given)) in
    let u = (steps_undo steps).undone x (λ e. not_none 0 (sym (ap (λ (s : Spread). s.left) gives) ∙ e)) in
    let from_is : u.from ≡ packed = same_before u.from packed (sym (u.tape ∙ ap (λ (s : Spread). u.from ++ s.left) gives)) in
    let given_is : u.given ≡ bytes = sym u.bytes ∙ ap (λ (s : Spread). s.given) gives in
    let fit : (0 + length (u.given ++ more)) % 8 ≡ 0 = omega (arith, whole, ap length given_is, length-append u.given more) in
    ap (λ (z : List ℕ). steps_taken steps (spread_first (z ++ more))) (sym given_is) ∙ u.back [] more fit ∙ ap (λ (z : List ℕ). spread_of z more) from_is
