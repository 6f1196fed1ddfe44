-- The steps of open blocks, as blocks begin, end and grow.
use Rattle.std.proofs.Common.{◌≡◌, ℕ, List, [], ◌∷◌, ◌++◌, length, sym, ◌∙◌, ap, subst, arith}
use Rattle.std.proofs.lemmas.List.{append-nil, length-append}
use Rattle.std.specs.Global.{Vec}
use Rattle.fl_stub.specs.declared.op.Op.{Op}
use Rattle.fl_stub.specs.Structure.{Piece, one, times, counted, Block, finished}
use Rattle.fl_stub.specs.Meaning.{move_of}
use Rattle.fl_stub.specs.Frames.{starts_with, closes}
use Rattle.fl_stub_steps.specs.declared.step.StubStep.{StubStep}
use Rattle.fl_stub_steps.specs.Spreading.{Spread, move_spread, piece_spread, block_spread, repeated, copied, length_at}
use Rattle.fl_stub_steps.specs.Steps.{done}
use Rattle.fl_stub_steps.specs.Opened.{MeansBlock, Opened}
use Rattle.fl_stub_steps.proofs.StepsPut.{snoc_same, repeated_same}

not_none : {A : Type 0} (u : List A) (s : A) → u ++ s ∷ [] ≡ [] → ⊥
not_none u s e = absurd (omega (arith, length-append u (s ∷ []), ap length e))

none_left : {A : Type 0} (old new : List A) → old ≡ new ++ [] → old ≡ [] → new ≡ []
none_left old new popped e = sym (append-nil new) ∙ sym popped ∙ e

pub begins : (old new : List (Vec StubStep)) (s : Vec StubStep) (blocks : List Block) → s.items ≡ [] → new ≡ old ++ s ∷ [] → Opened old blocks → Opened new (finished ∷ blocks)
begins old new s blocks e is o = (old, s, is, (λ x. ap (λ (l : List StubStep). done l x) e), o)

-- the innermost block is the last
popped_one : (old mid : List (Vec StubStep)) (s : Vec StubStep) (b : Block) (blocks : List Block) → old ≡ mid ++ s ∷ [] → Opened old (b ∷ blocks) → MeansBlock s b × Opened mid blocks
popped_one old mid s b blocks popped (outer, inner, is, means, rest) =
    let same = snoc_same mid outer s inner (sym popped ∙ is) in
    (subst (λ (v : Vec StubStep). MeansBlock v b) (sym (same.1)) means, subst (λ (l : List (Vec StubStep)). Opened l blocks) (sym (same.0)) rest)

pub inside_none : (old new : List (Vec StubStep)) (p : Piece) (blocks : List Block) → old ≡ new ++ [] → length old ≡ 0 → Opened old blocks → Opened new (starts_with p blocks)
inside_none old new p [] popped none o = none_left old new popped o
inside_none old new p (b ∷ blocks) popped none (outer, inner, is, means, rest) = absurd (omega (arith, length-append outer (inner ∷ []), ap length is, none))

pub inside_some : (old mid new : List (Vec StubStep)) (s t : Vec StubStep) (op : Op) (blocks : List Block) → old ≡ mid ++ s ∷ [] → new ≡ mid ++ t ∷ []
    → ((x : Spread) → done t.items x ≡ done s.items (move_spread (move_of op) x)) → Opened old blocks → Opened new (starts_with (one op) blocks)
inside_some old mid new s t op [] popped is put o = absurd (not_none mid s (sym popped ∙ o))
inside_some old mid new s t op (b ∷ blocks) popped is put o =
    let (means, rest) = popped_one old mid s b blocks popped o in
    (mid, t, is, (λ x. put x ∙ means (move_spread (move_of op) x)), rest)

pub closes_none : (old new : List (Vec StubStep)) (loop : Block → Piece) (blocks : List Block) → old ≡ new ++ [] → length old ≡ 0 → Opened old blocks → Opened new (closes loop blocks)
closes_none old new loop [] popped none o = none_left old new popped o
closes_none old new loop (b ∷ blocks) popped none (outer, inner, is, means, rest) = absurd (omega (arith, length-append outer (inner ∷ []), ap length is, none))

pub closes_one : (old mid new : List (Vec StubStep)) (s : Vec StubStep) (loop : Block → Piece) (blocks : List Block) → old ≡ mid ++ s ∷ [] → mid ≡ new ++ [] → length mid ≡ 0
    → Opened old blocks → Opened new (closes loop blocks)
closes_one old mid new s loop [] popped none zero o = absurd (not_none mid s (sym popped ∙ o))
closes_one old mid new s loop (b ∷ blocks) popped none zero o = inside_none mid new (loop b) blocks none zero (popped_one old mid s b blocks popped o).1

-- a loop's body, and the block around it before and after
pub closes_two : (old mid outer new : List (Vec StubStep)) (s t u : Vec StubStep) (loop : Block → Piece) (blocks : List Block) → old ≡ mid ++ s ∷ [] → mid ≡ outer ++ t ∷ [] → new ≡ outer ++ u ∷ []
    → ((b : Block) → MeansBlock s b → (x : Spread) → done u.items x ≡ done t.items (piece_spread (loop b) x)) → Opened old blocks → Opened new (closes loop blocks)
closes_two old mid outer new s t u loop [] popped next_popped is put o = absurd (not_none mid s (sym popped ∙ o))
closes_two old mid outer new s t u loop (b ∷ []) popped next_popped is put o =
    absurd (not_none outer t (sym next_popped ∙ (popped_one old mid s b [] popped o).1))
closes_two old mid outer new s t u loop (b ∷ c ∷ blocks) popped next_popped is put o =
    let (means, rest) = popped_one old mid s b (c ∷ blocks) popped o in
    let (around, left) = popped_one mid outer t c blocks next_popped rest in
    (outer, u, is, (λ x. put b means x ∙ around (piece_spread (loop b) x)), left)

pub times_put : (body before new : List StubStep) (turns : ℕ) → ((x : Spread) → done new x ≡ done before (repeated (done body) turns x))
    → (b : Block) → ((x : Spread) → done body x ≡ block_spread b x) → (x : Spread) → done new x ≡ done before (piece_spread (times turns b) x)
times_put body before new turns put b means x = put x ∙ ap (λ (y : Spread). done before y) (repeated_same (done body) (block_spread b) means turns x)

pub counted_put : (body before new : List StubStep) (most : ℕ) → ((x : Spread) → done new x ≡ done before (repeated (done body) (length_at x.left) (copied 8 x)))
    → (b : Block) → ((x : Spread) → done body x ≡ block_spread b x) → (x : Spread) → done new x ≡ done before (piece_spread (counted most b) x)
counted_put body before new most put b means x = put x ∙ ap (λ (y : Spread). done before y) (repeated_same (done body) (block_spread b) means (length_at x.left) (copied 8 x))
