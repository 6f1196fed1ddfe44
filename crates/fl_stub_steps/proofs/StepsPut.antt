-- Steps that are put before others.
use Rattle.std.proofs.Common.{◌≡◌, ℕ, zero, suc, ◌+◌, ◌-◌, ◌*◌, ◌<◌, List, [], ◌∷◌, ◌++◌, take, drop, refl, sym, ◌∙◌, ap, arith, append_assoc, rules}
use Rattle.std.proofs.lemmas.List.{append-nil, drop-drop}
use Rattle.std.proofs.Math.Seq.{take-add}
use Rattle.fl_stub_steps.specs.declared.step.StubStep.{StubStep}
use Rattle.fl_stub_steps.specs.declared.step.StubStep.TheVariants.{Span, Align, Each, Counted, Times}
use Rattle.fl_stub_steps.specs.declared.step.StubStep.TheViews.{the_lemmas}
use Rattle.fl_stub_steps.specs.declared.step.StubStep.TheFolds.{fold_out-StubStep}
use Rattle.std.specs.Global.{Vec}
use Rattle.fl_stub_steps.specs.Spreading.{Spread, Spreader, copied, padded, aligned, repeated, length_at}
use Rattle.fl_stub_steps.specs.Steps.{TheStep, span, align, each, counted as counted_steps, times as times_steps, step_step, step_of, steps_of, step_done, done}
use Rattle.fl_stub_steps.specs.Spreading.{spread_of}

-- ---- a step's meaning

pub span_seen : (bytes pad : ℕ) → step_of (Span bytes pad) ≡ span bytes pad
span_seen bytes pad = search (rules, the_lemmas, fold_out-StubStep TheStep step_step)

pub align_seen : step_of Align ≡ align
align_seen = search (rules, the_lemmas, fold_out-StubStep TheStep step_step)

pub each_seen : (bytes : ℕ) → step_of (Each bytes) ≡ each bytes
each_seen bytes = search (rules, the_lemmas, fold_out-StubStep TheStep step_step)

pub counted_seen : (body : Vec StubStep) → step_of (Counted body) ≡ counted_steps (steps_of body.items)
counted_seen body = search (rules, the_lemmas, fold_out-StubStep TheStep step_step)

pub times_seen : (turns : ℕ) (body : Vec StubStep) → step_of (Times turns body) ≡ times_steps turns (steps_of body.items)
times_seen turns body = search (rules, the_lemmas, fold_out-StubStep TheStep step_step)

-- a step put behind those stored is done before them
pub done_pushed : (steps : List StubStep) (s : StubStep) (x : Spread) → done (steps ++ s ∷ []) x ≡ done steps (step_done (step_of s) x)
done_pushed [] s x = refl
done_pushed (t ∷ steps) s x = ap (λ (y : Spread). step_done (step_of t) y) (done_pushed steps s x)

-- ---- copies

pub no_copy : (x : Spread) → copied 0 x ≡ x
no_copy x = ap (λ (z : List ℕ). spread_of z x.left) (append-nil x.given)

pub copied_twice : (a b : ℕ) (x : Spread) → copied (a + b) x ≡ copied b (copied a x)
copied_twice a b x =
    ap (λ (z : List ℕ). spread_of (x.given ++ z) (drop (a + b) x.left)) (take-add a b x.left)
    ∙ ap (λ (z : List ℕ). spread_of z (drop (a + b) x.left)) (sym (append_assoc x.given (take a x.left) (take b (drop a x.left))))
    ∙ ap (λ (z : List ℕ). spread_of ((x.given ++ take a x.left) ++ take b (drop a x.left)) z) (sym (drop-drop b a x.left))

pub repeated_copies : (c k : ℕ) (x : Spread) → repeated (copied c) k x ≡ copied (k * c) x
repeated_copies c zero x = let e : 0 ≡ 0 * c = omega arith in sym (no_copy x) ∙ ap (λ (n : ℕ). copied n x) e
repeated_copies c (suc k) x =
    let e : c + k * c ≡ suc k * c = omega arith in
    repeated_copies c k (copied c x) ∙ sym (copied_twice c (k * c) x) ∙ ap (λ (n : ℕ). copied n x) e

pub repeated_same : (f g : Spreader) → ((x : Spread) → f x ≡ g x) → (k : ℕ) (x : Spread) → repeated f k x ≡ repeated g k x
repeated_same f g same zero x = refl
repeated_same f g same (suc k) x = repeated_same f g same k (f x) ∙ ap (λ (y : Spread). repeated g k y) (same x)

-- the last of some things, and those before it
pub snoc_same : {A : Type 0} (u v : List A) (s t : A) → u ++ s ∷ [] ≡ v ++ t ∷ [] → (u ≡ v) × (s ≡ t)
snoc_same [] [] s t e = (refl, cc)
snoc_same [] (y ∷ []) s t e = absurd (cc)
snoc_same [] (y ∷ z ∷ v) s t e = absurd (cc)
snoc_same (x ∷ []) [] s t e = absurd (cc)
snoc_same (x ∷ y ∷ u) [] s t e = absurd (cc)
snoc_same {A = A} (x ∷ u) (y ∷ v) s t e =
    let both : (x ≡ y) × (u ++ s ∷ [] ≡ v ++ t ∷ []) = (cc, cc) in
    let rest = snoc_same u v s t (both.1) in
    (ap (λ (z : A). z ∷ u) (both.0) ∙ ap (λ (l : List A). y ∷ l) (rest.0), rest.1)

-- ---- what is put before steps

pub span_done : (bytes : ℕ) (x : Spread) → step_done (step_of (Span bytes 0)) x ≡ copied bytes x
span_done bytes x =
    ap (λ (s : TheStep). step_done s x) (span_seen bytes 0) ∙ ap (λ (z : List ℕ). spread_of z (drop bytes x.left)) (append-nil (x.given ++ take bytes x.left))

pub zeros_done : (zeros : ℕ) (x : Spread) → step_done (step_of (Span 0 zeros)) x ≡ padded zeros x
zeros_done zeros x = ap (λ (s : TheStep). step_done s x) (span_seen 0 zeros) ∙ ap (λ (y : Spread). padded zeros y) (no_copy x)

pub align_done : (x : Spread) → step_done (step_of Align) x ≡ aligned x
align_done x = ap (λ (s : TheStep). step_done s x) align_seen

-- a copy and a span, as one span
pub joined_span : (bytes more all zeros : ℕ) (x : Spread) → all ≡ bytes + more → step_done (step_of (Span all zeros)) x ≡ step_done (step_of (Span more zeros)) (copied bytes x)
joined_span bytes more all zeros x e =
    ap (λ (s : TheStep). step_done s x) (span_seen all zeros)
    ∙ ap (λ (n : ℕ). padded zeros (copied n x)) e
    ∙ ap (λ (y : Spread). padded zeros y) (copied_twice bytes more x)
    ∙ ap (λ (s : TheStep). step_done s (copied bytes x)) (sym (span_seen more zeros))

-- a step pushed
pub pushed : (old new : List StubStep) (s : StubStep) (f : Spreader) → new ≡ old ++ s ∷ [] → ((x : Spread) → step_done (step_of s) x ≡ f x) → (x : Spread) → done new x ≡ done old (f x)
pushed old new s f is same x = ap (λ (l : List StubStep). done l x) is ∙ done_pushed old s x ∙ ap (λ (y : Spread). done old y) (same x)

-- a step in place of the last
pub replaced : (old mid new : List StubStep) (s t : StubStep) (f : Spreader) → old ≡ mid ++ s ∷ [] → new ≡ mid ++ t ∷ [] → ((x : Spread) → step_done (step_of t) x ≡ step_done (step_of s) (f x))
    → (x : Spread) → done new x ≡ done old (f x)
replaced old mid new s t f popped is same x =
    ap (λ (l : List StubStep). done l x) is ∙ done_pushed mid t x ∙ ap (λ (y : Spread). done mid y) (same x)
    ∙ sym (done_pushed mid s (f x)) ∙ ap (λ (l : List StubStep). done l (f x)) (sym popped)

-- nothing was there
pub first_pushed : (old mid new : List StubStep) (s : StubStep) (f : Spreader) → old ≡ mid ++ [] → new ≡ mid ++ s ∷ [] → ((x : Spread) → step_done (step_of s) x ≡ f x)
    → (x : Spread) → done new x ≡ done old (f x)
first_pushed old mid new s f popped is same x =
    pushed mid new s f is same x ∙ ap (λ (l : List StubStep). done l (f x)) (sym (append-nil mid) ∙ sym popped)

-- what was there is put back
pub put_back : (old mid back new : List StubStep) (s t : StubStep) (f : Spreader) → old ≡ mid ++ s ∷ [] → back ≡ mid ++ s ∷ [] → new ≡ back ++ t ∷ [] → ((x : Spread) → step_done (step_of t) x ≡ f x)
    → (x : Spread) → done new x ≡ done old (f x)
put_back old mid back new s t f popped again is same x =
    pushed back new t f is same x ∙ ap (λ (l : List StubStep). done l (f x)) (again ∙ sym popped)

-- ---- loops

pub each_put : (body : List StubStep) (bytes : ℕ) → ((x : Spread) → done body x ≡ copied bytes x) → (x : Spread) → step_done (step_of (Each bytes)) x ≡ repeated (done body) (length_at x.left) (copied 8 x)
each_put body bytes told x =
    ap (λ (s : TheStep). step_done s x) (each_seen bytes)
    ∙ sym (repeated_copies bytes (length_at x.left) (copied 8 x))
    ∙ sym (repeated_same (done body) (copied bytes) told (length_at x.left) (copied 8 x))

pub counted_put_in : (body : Vec StubStep) (x : Spread) → step_done (step_of (Counted body)) x ≡ repeated (done body.items) (length_at x.left) (copied 8 x)
counted_put_in body x = ap (λ (s : TheStep). step_done s x) (counted_seen body)

pub times_put_in : (turns : ℕ) (body : Vec StubStep) (x : Spread) → step_done (step_of (Times turns body)) x ≡ repeated (done body.items) turns x
times_put_in turns body x = ap (λ (s : TheStep). step_done s x) (times_seen turns body)

pub copies_put : (body : List StubStep) (bytes turns all : ℕ) → ((x : Spread) → done body x ≡ copied bytes x) → all ≡ turns * bytes → (x : Spread) → copied all x ≡ repeated (done body) turns x
copies_put body bytes turns all told e x =
    ap (λ (n : ℕ). copied n x) e ∙ sym (repeated_copies bytes turns x) ∙ sym (repeated_same (done body) (copied bytes) told turns x)

-- one turn more
pub again : (f : Spreader) (n k : ℕ) (x y z : Spread) → k < n → y ≡ f x → repeated f (n - k) x ≡ z → repeated f (n - (k + 1)) y ≡ z
again f n k x y z less is so_far =
    let e : n - k ≡ suc (n - (k + 1)) = omega (arith, less) in
    ap (λ (w : Spread). repeated f (n - (k + 1)) w) is ∙ ap (λ (m : ℕ). repeated f m x) (sym e) ∙ so_far
