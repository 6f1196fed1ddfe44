-- Steps that give bytes of the tape alone.
use Rattle.std.proofs.Common.{◌≡◌, ℕ, ◌+◌, ◌*◌, ◌<◌, ◌≤◌, List, [], ◌∷◌, ◌++◌, length, take, drop, get_or, sym, ◌∙◌, ap, append_assoc}
use Rattle.std.proofs.lemmas.List.{take-append-drop, take_more, take_all}
use Rattle.fl_stub_steps.specs.declared.step.StubStep.{StubStep}
use Rattle.fl_stub_steps.specs.declared.step.StubStep.TheVariants.{Span, Align, Each}
use Rattle.fl_stub_steps.specs.Spreading.{Spread, copied, aligned, length_at, spread_first}
use Rattle.fl_stub_steps.specs.Steps.{TheStep, step_of, step_done, done, all_of}
use Rattle.fl_stub_steps.proofs.StepsPut.{span_done, each_seen, align_done, done_pushed}

pub copied_all : (n : ℕ) (x : Spread) → all_of (copied n x) ≡ all_of x
copied_all n x = append_assoc x.given (take n x.left) (drop n x.left) ∙ ap (λ (z : List ℕ). x.given ++ z) (take-append-drop n x.left)

pub span_all : (n : ℕ) (x : Spread) → all_of (step_done (step_of (Span n 0)) x) ≡ all_of x
span_all n x = ap all_of (span_done n x) ∙ copied_all n x

pub each_all : (n : ℕ) (x : Spread) → all_of (step_done (step_of (Each n)) x) ≡ all_of x
each_all n x =
    ap (λ (s : TheStep). all_of (step_done s x)) (each_seen n)
    ∙ copied_all (length_at x.left * n) (copied 8 x) ∙ copied_all 8 x

-- one more
pub more_all : (steps : List StubStep) (k : ℕ) (s : StubStep) → k < length steps → s ≡ get_or steps k s → ((x : Spread) → all_of (done (take k steps) x) ≡ all_of x)
    → ((x : Spread) → all_of (step_done (step_of s) x) ≡ all_of x) → (x : Spread) → all_of (done (take (k + 1) steps) x) ≡ all_of x
more_all steps k s inside is so_far one x =
    ap (λ (l : List StubStep). all_of (done l x)) (take_more steps k s inside ∙ ap (λ (t : StubStep). take k steps ++ t ∷ []) (sym is))
    ∙ ap all_of (done_pushed (take k steps) s x) ∙ so_far (step_done (step_of s) x) ∙ one x

pub every_all : (steps : List StubStep) (k : ℕ) → length steps ≤ k → ((x : Spread) → all_of (done (take k steps) x) ≡ all_of x) → (x : Spread) → all_of (done steps x) ≡ all_of x
every_all steps k past all x = ap (λ (l : List StubStep). all_of (done l x)) (sym (take_all k steps past)) ∙ all x

-- zeros before the first byte are none
pub align_first : (steps others : List StubStep) → steps ≡ others ++ Align ∷ [] → ((x : Spread) → all_of (done others x) ≡ all_of x) → (packed : List ℕ) → all_of (done steps (spread_first packed)) ≡ packed
align_first steps others is all packed =
    ap (λ (l : List StubStep). all_of (done l (spread_first packed))) is
    ∙ ap all_of (done_pushed others Align (spread_first packed) ∙ ap (λ (y : Spread). done others y) (align_done (spread_first packed)))
    ∙ all (aligned (spread_first packed))

-- the last of the steps is zeros up to a multiple of 8
pub last_align : (steps others : List StubStep) (n : ℕ) (s : StubStep) → n < length steps → length steps ≤ n + 1 → s ≡ get_or steps n s → s ≡ Align → others ≡ take n steps
    → ((x : Spread) → all_of (done others x) ≡ all_of x) → (packed : List ℕ) → all_of (done steps (spread_first packed)) ≡ packed
last_align steps others n s inside last is aligns before all packed =
    let joined : steps ≡ others ++ Align ∷ []
    = sym (take_all (n + 1) steps last) ∙ take_more steps n s inside ∙ ap (λ (t : StubStep). take n steps ++ t ∷ []) (sym is ∙ aligns) ∙ ap (λ (l : List StubStep). l ++ Align ∷ []) (sym before) in
    align_first steps others joined all packed
