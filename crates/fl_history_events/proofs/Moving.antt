-- A step moves past steps of other cores: later, where it may wait, and earlier, where it may come earlier.
use Rattle.std.proofs.Common.{ℕ, ◌≡◌, ◌≢◌, ◌==◌, Bool, true, eq-eqb, ne_eqb, List, [], ◌∷◌, ◌++◌, ap, subst, ◌∙◌, sym, refl, append_assoc, append-nil}
use mathlib.Core.Logic.{dite}
use mathlib.Core.Option.{some}
use native.Mathlib.Decide.{ℕ_discrete}
use lib.ListN.{get_elem?}
use Rattle.fl_history_rings.specs.declared.board.Action.{Action}
use Rattle.fl_history_rings.specs.declared.board.Entry.{Entry}
use Rattle.fl_history_rings.specs.declared.board.SideEnd.{SideEnd}
use Rattle.fl_history_rings.specs.Rings.{mate, Way, Goes, Runs, IsByItsCore}
use Rattle.fl_history_rings.specs.Rule.{gather, one_action}
use Rattle.fl_history_rings.proofs.Logs.{same_there, then_is, else_is}
use Rattle.fl_history_rings.proofs.Words.{mate_back}
use Rattle.fl_history_events.specs.Events.{MayWait, AllMayWait, MayComeEarlier, known_after, stands_from}
use Rattle.fl_history_events.proofs.Ways.{put_to, taken_by, does_finds, Standing, waits_change, comes_change, put_stands, known_stands}
use Rattle.fl_history_events.proofs.Exchanging.{exchanged, mine_after, theirs_after, else_after}

-- ---- steps in a row, and in two rows

module _ {S E : Type 0} (R : S → E → S → Type 0) where
  pub runs_join : (a b c : S) (xs ys : List E) → Runs R a xs b → Runs R b ys c → Runs R a (xs ++ ys) c
  runs_join a b c [] ys one two = subst (λ (s : S). Runs R s ys c) (sym one) two
  runs_join a b c (x ∷ xs) ys one two = (one.0, one.1, runs_join one.0 b c xs ys one.2 two)

  pub runs_cut : (a c : S) (xs ys : List E) → Runs R a (xs ++ ys) c → (b : S) × Runs R a xs b × Runs R b ys c
  runs_cut a c [] ys run = (a, refl, run)
  runs_cut a c (x ∷ xs) ys run =
      let rest = runs_cut run.0 c xs ys run.2 in
      (rest.0, (run.0, run.1, rest.1), rest.2)

module _ (ends : List SideEnd) where
  abbrev Ran : List Way → List Entry → List Way → Type 0
  Ran = Runs (Goes ends)

  -- ---- whose steps

  -- all are this core's, by its sides
  abbrev pub ByCore : ℕ → List Entry → Type 0
  ByCore k [] = Unit {0}
  ByCore k (e ∷ es) = (e.core ≡ k) × IsByItsCore ends e × ByCore k es

  -- none is this core's
  abbrev pub ByOthers : ℕ → List Entry → Type 0
  ByOthers k [] = Unit {0}
  ByOthers k (e ∷ es) = (e.core ≢ k) × IsByItsCore ends e × ByOthers k es

  pub sides_differ : (e f : Entry) → IsByItsCore ends e → IsByItsCore ends f → f.core ≢ e.core → f.side ≢ e.side
  sides_differ e f (one, one_at, one_by) (two, two_at, two_by) ne same =
      let both : two ≡ one = same_there ends e.side two one (subst (λ (s : ℕ). get_elem? ends s ≡ some two) same two_at) one_at in
      ne (two_by ∙ ap (λ (z : SideEnd). z.core) both ∙ sym one_by)

  -- ---- later

  one_waits : (a c : List Way) (k : ℕ) (e : Entry) (ys : List Entry) → MayWait e.action → e.core ≡ k → IsByItsCore ends e → ByOthers k ys
      → Ran a (e ∷ ys) c → Ran a (ys ++ e ∷ []) c
  one_waits a c k e [] may own by others run = run
  one_waits a c k e (y ∷ ys) may own by others run =
      let first = run.1 in
      let second = run.2.1 in
      let apart = sides_differ e y by others.1 (λ d. others.0 (d ∙ own)) in
      let turn = exchanged ends a run.0 run.2.0 e y first second apart (λ across. waits_change first.mine.waiting e.action y.action may) in
      (turn.0, turn.1, one_waits turn.0 c k e ys may own by others.2 (run.2.0, turn.2, run.2.2))

  pub all_wait : (a c : List Way) (k : ℕ) (xs ys : List Entry) → AllMayWait xs → ByCore k xs → ByOthers k ys → Ran a (xs ++ ys) c → Ran a (ys ++ xs) c
  all_wait a c k [] ys may own others run = subst (λ (l : List Entry). Ran a l c) (sym (append-nil ys)) run
  all_wait a c k (x ∷ xs) ys may own others run =
      let rest : Ran run.0 (ys ++ xs) c = all_wait run.0 c k xs ys may.1 own.2 others run.2 in
      let parts = runs_cut (Goes ends) a c (x ∷ ys) xs (run.0, run.1, rest) in
      let moved : Ran a (ys ++ x ∷ []) parts.0 = one_waits a parts.0 k x ys may.0 own.0 own.1 others parts.1 in
      subst (λ (l : List Entry). Ran a l c) (append_assoc ys (x ∷ []) xs) (runs_join (Goes ends) a parts.0 c (ys ++ x ∷ []) xs moved parts.2)

  -- ---- what stands for a side

  abbrev pub StandsFor : ℕ → List Way → Type 0
  StandsFor s ways = (q : Way) → get_elem? ways (mate s) ≡ some q → Standing q.waiting

  -- it stays whatever other sides do
  stays_standing : (a b : List Way) (e : Entry) (s : ℕ) → Goes ends a e b → e.side ≢ s → StandsFor s a → StandsFor s b
  stays_standing a b e s goes ne stands q at =
      dite (ℕ_discrete (mate s) e.side)
      (λ is.
      let effect = does_finds goes.end.slots goes.mine goes.theirs e.action goes.mine_left goes.theirs_left goes.does in
      let stood : Standing goes.mine.waiting = stands goes.mine (subst (λ (x : ℕ). get_elem? a x ≡ some goes.mine) (sym is) goes.stood) in
      let left : q ≡ put_to e.action goes.mine =
      same_there b e.side q goes.mine_left (subst (λ (x : ℕ). get_elem? b x ≡ some q) is at) (mine_after ends a b e goes) ∙ effect.1 in
      subst (λ (z : Way). Standing z.waiting) (sym left) (put_stands goes.mine e.action stood))
      (λ away.
      let apart : mate s ≢ mate e.side = λ d. ne (sym (mate_back e.side) ∙ ap mate (sym d) ∙ mate_back s) in
      stands q (sym (else_after ends a b e goes (mate s) away apart) ∙ at))

  -- and what is known to stand after a step of the side itself does
  known_step : (a b : List Way) (e : Entry) (s : ℕ) (known : Bool) → Goes ends a e b → e.side ≡ s → (known ≡ true → StandsFor s a)
      → known_after known e.action ≡ true → StandsFor s b
  known_step a b e s known goes here stands is q at =
      let effect = does_finds goes.end.slots goes.mine goes.theirs e.action goes.mine_left goes.theirs_left goes.does in
      let stood : known ≡ true → Standing goes.theirs.waiting =
      λ yes_known. stands yes_known goes.theirs (subst (λ (x : ℕ). get_elem? a (mate x) ≡ some goes.theirs) here goes.stood_back) in
      let left : q ≡ taken_by e.action goes.theirs =
      same_there b (mate e.side) q goes.theirs_left (subst (λ (x : ℕ). get_elem? b (mate x) ≡ some q) (sym here) at) (theirs_after ends a b e goes) ∙ effect.2 in
      subst (λ (z : Way). Standing z.waiting) (sym left)
      (known_stands goes.end.slots goes.mine goes.theirs e.action known stood effect.0 is)

  piece_here : (s : ℕ) (e : Entry) (es : List Entry) → e.side ≡ s → gather one_action s (e ∷ es) ≡ e.action ∷ gather one_action s es
  piece_here s e es is =
      let none : List Action = [] in
      ap (λ (l : List Action). l ++ gather one_action s es) (then_is (e.side == s) (one_action e.action) none (eq-eqb e.side s is))

  pub piece_else : (s : ℕ) (e : Entry) (es : List Entry) → e.side ≢ s → gather one_action s (e ∷ es) ≡ gather one_action s es
  piece_else s e es ne =
      let none : List Action = [] in
      ap (λ (l : List Action). l ++ gather one_action s es) (else_is (e.side == s) (one_action e.action) none (ne_eqb e.side s ne))

  pub known_run : (a b : List Way) (s : ℕ) (known : Bool) (es : List Entry) → (known ≡ true → StandsFor s a) → Ran a es b
      → stands_from known (gather one_action s es) ≡ true → StandsFor s b
  known_run a b s known [] stands run is = subst (λ (l : List Way). StandsFor s l) run (stands is)
  known_run a b s known (e ∷ es) stands run is =
      dite (ℕ_discrete e.side s)
      (λ here.
      known_run run.0 b s (known_after known e.action) es
      (λ known_then. known_step a run.0 e s known run.1 here stands known_then) run.2
      (subst (λ (l : List Action). stands_from known l ≡ true) (piece_here s e es here) is))
      (λ ne.
      known_run run.0 b s known es
      (λ known_then. stays_standing a run.0 e s run.1 ne (stands known_then)) run.2
      (subst (λ (l : List Action). stands_from known l ≡ true) (piece_else s e es ne) is))

  -- ---- earlier

  pub one_comes : (a c : List Way) (k : ℕ) (e : Entry) (ys : List Entry) (known : Bool) → MayComeEarlier known e.action → (known ≡ true → StandsFor e.side a)
      → e.core ≡ k → IsByItsCore ends e → ByOthers k ys → Ran a (ys ++ e ∷ []) c → Ran a (e ∷ ys) c
  one_comes a c k e [] known may stands own by others run = run
  one_comes a c k e (y ∷ ys) known may stands own by others run =
      let first = run.1 in
      let apart : e.side ≢ y.side = λ d. sides_differ e y by others.1 (λ same. others.0 (same ∙ own)) (sym d) in
      let rest : Ran run.0 (e ∷ ys) c =
      one_comes run.0 c k e ys known may (λ is. stays_standing a run.0 y e.side first (λ d. apart (sym d)) (stands is)) own by others.2 run.2 in
      let back : e.side ≡ mate y.side → mate e.side ≡ y.side = λ d. ap mate d ∙ mate_back y.side in
      let turn = exchanged ends a run.0 rest.0 y e first rest.1 apart
      (λ across. comes_change first.mine.waiting known y.action e.action may
      (λ is. stands is first.mine (subst (λ (x : ℕ). get_elem? a x ≡ some first.mine) (sym (back across)) first.stood))) in
      (turn.0, turn.1, (rest.0, turn.2, rest.2))
