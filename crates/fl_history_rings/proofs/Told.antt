-- What a side told: all that it had taken when it put last. What it saw and didn't take.
use Rattle.std.proofs.Common.{Option, Some, None, ℕ, ◌≡◌, ◌≢◌, ◌≤◌, ◌+◌, ◌==◌, Bool, true, false, if◌then◌else◌, List, [], ◌∷◌, ◌++◌, length, ap, ◌∙◌, sym, refl, arith, length-append}
use mathlib.Core.Logic.{dite}
use native.Mathlib.Decide.{ℕ_discrete}
use Rattle.fl_base.specs.declared.fragment.Frag.{Frag}
use Rattle.fl_history_rings.specs.declared.board.Action.{Action}
use Rattle.fl_history_rings.specs.declared.board.Action.TheVariants.{Put, Found, Missed, Saw, Took}
use Rattle.fl_history_rings.specs.declared.board.Entry.{Entry}
use Rattle.fl_history_rings.specs.Rule.{gather, one_put, one_took, one_action, takes_at, told_from, told_at, seen_from, seen_at}
use Rattle.fl_history_rings.proofs.Logs.{gather_here, gather_else}

-- ---- actions in a row

-- one more taken, and told by it
pub told_step : (t u : ℕ) (d : Action) (ds : List Action) → told_from t u (d ∷ ds) ≡ told_from (t + length (one_took d)) (told_from t u (d ∷ [])) ds
told_step t u (Put frag) ds = let same : t ≡ t + 0 = omega arith in ap (λ (x : ℕ). told_from x t ds) same
told_step t u (Found control) ds = let same : t ≡ t + 0 = omega arith in ap (λ (x : ℕ). told_from x u ds) same
told_step t u Missed ds = let same : t ≡ t + 0 = omega arith in ap (λ (x : ℕ). told_from x u ds) same
told_step t u (Saw frag) ds = let same : t ≡ t + 0 = omega arith in ap (λ (x : ℕ). told_from x u ds) same
told_step t u (Took frag) ds = refl

-- only a put tells
told_none : (d : Action) → (let none : List Frag = [] in one_put d ≡ none) → (t u : ℕ) → told_from t u (d ∷ []) ≡ u
told_none (Put frag) none t u = absurd (cc)
told_none (Found control) none t u = refl
told_none Missed none t u = refl
told_none (Saw frag) none t u = refl
told_none (Took frag) none t u = refl

told_one : (t u : ℕ) (d : Action) → u ≤ t → told_from t u (d ∷ []) ≤ t + length (one_took d)
told_one t u (Put frag) le = omega arith
told_one t u (Found control) le = omega (arith, le)
told_one t u Missed le = omega (arith, le)
told_one t u (Saw frag) le = omega (arith, le)
told_one t u (Took frag) le = omega (arith, le)

-- how many of them take a fragment
abbrev takes_in : List Action → ℕ
takes_in [] = 0
takes_in (d ∷ ds) = length (one_took d) + takes_in ds

put_last : (t u : ℕ) (ds : List Action) (frag : Frag) → told_from t u (ds ++ Put frag ∷ []) ≡ t + takes_in ds
put_last t u [] frag = omega arith
put_last t u (d ∷ ds) frag =
    let rest = put_last (t + length (one_took d)) (told_from t u (d ∷ [])) ds frag in
    told_step t u d (ds ++ Put frag ∷ []) ∙ omega (arith, rest)

unput_last : (t u : ℕ) (ds : List Action) (d : Action) → (let none : List Frag = [] in one_put d ≡ none) → told_from t u (ds ++ d ∷ []) ≡ told_from t u ds
unput_last t u [] d none = told_none d none t u
unput_last t u (x ∷ ds) d none =
    told_step t u x (ds ++ d ∷ []) ∙ unput_last (t + length (one_took x)) (told_from t u (x ∷ [])) ds d none ∙ sym (told_step t u x ds)

told_low : (t u : ℕ) (ds : List Action) → u ≤ t → told_from t u ds ≤ t + takes_in ds
told_low t u [] le = omega (arith, le)
told_low t u (d ∷ ds) le =
    let rest = told_low (t + length (one_took d)) (told_from t u (d ∷ [])) ds (told_one t u d le) in
    omega (arith, told_step t u d ds, rest)

-- ---- what a history says of a side

piece_takes : (b : Bool) (d : Action) (ds : List Action) (frags : List Frag) → takes_in ds ≡ length frags → takes_in ((if b then d ∷ [] else []) ++ ds) ≡ length ((if b then one_took d else []) ++ frags)
piece_takes true d ds frags same = omega (arith, same, length-append (one_took d) frags)
piece_takes false d ds frags same = same

takes_so : (s : ℕ) (es : List Entry) → takes_in (gather one_action s es) ≡ length (takes_at s es)
takes_so s [] = refl
takes_so s (e ∷ es) = piece_takes (e.side == s) e.action (gather one_action s es) (takes_at s es) (takes_so s es)

-- once it put a fragment, it told all that it took
pub told_put : (s : ℕ) (es : List Entry) (e : Entry) (frag : Frag) → e.side ≡ s → e.action ≡ Put frag → told_at s (es ++ e ∷ []) ≡ length (takes_at s es)
told_put s es e frag here is =
    let last = put_last 0 0 (gather one_action s es) frag in
    ap (λ (ds : List Action). told_from 0 0 ds) (gather_here one_action s es e here) ∙ ap (λ (d : Action). told_from 0 0 (gather one_action s es ++ d ∷ [])) is
    ∙ omega (arith, last, takes_so s es)

-- and nothing more with anything else
pub told_else : (s : ℕ) (es : List Entry) (e : Entry) → e.side ≢ s → told_at s (es ++ e ∷ []) ≡ told_at s es
told_else s es e ne = ap (λ (ds : List Action). told_from 0 0 ds) (gather_else one_action s es e ne)

pub told_still : (s : ℕ) (es : List Entry) (e : Entry) → (let none : List Frag = [] in one_put e.action ≡ none) → told_at s (es ++ e ∷ []) ≡ told_at s es
told_still s es e none =
    dite (ℕ_discrete e.side s)
    (λ here. ap (λ (ds : List Action). told_from 0 0 ds) (gather_here one_action s es e here) ∙ unput_last 0 0 (gather one_action s es) e.action none)
    (λ ne. told_else s es e ne)

-- what was told was taken
pub told_taken : (s : ℕ) (es : List Entry) → told_at s es ≤ length (takes_at s es)
told_taken s es = let low = told_low 0 0 (gather one_action s es) (omega arith) in omega (arith, low, takes_so s es)

-- ---- what it saw

seen_push : (seen : Option Frag) (ds : List Action) (d : Action) → seen_from seen (ds ++ d ∷ []) ≡ seen_from (seen_from seen ds) (d ∷ [])
seen_push seen [] d = refl
seen_push seen (Put frag ∷ ds) d = seen_push seen ds d
seen_push seen (Found control ∷ ds) d = seen_push seen ds d
seen_push seen (Missed ∷ ds) d = seen_push seen ds d
seen_push seen (Saw frag ∷ ds) d = seen_push (Some frag) ds d
seen_push seen (Took frag ∷ ds) d = seen_push None ds d

pub seen_here : (s : ℕ) (es : List Entry) (e : Entry) → e.side ≡ s → seen_at s (es ++ e ∷ []) ≡ seen_from (seen_at s es) (e.action ∷ [])
seen_here s es e here = ap (λ (ds : List Action). seen_from None ds) (gather_here one_action s es e here) ∙ seen_push None (gather one_action s es) e.action

pub seen_else : (s : ℕ) (es : List Entry) (e : Entry) → e.side ≢ s → seen_at s (es ++ e ∷ []) ≡ seen_at s es
seen_else s es e ne = ap (λ (ds : List Action). seen_from None ds) (gather_else one_action s es e ne)
