-- What a core did by two sides, by one of which it put last, is an event.
use Rattle.std.proofs.Common.{ℕ, ◌≡◌, ◌≢◌, ◌⊎◌, inl, inr, ⊎_elim, ◌==◌, if◌then◌else◌, eq-eqb, ne_eqb, Bool, false, List, [], ◌∷◌, ◌++◌, set, slice_get, slice_set, Some, ap, subst, ◌∙◌, sym, refl, append_assoc, append-nil}
use Rattle.std.specs.List.{AllByRecursion}
use mathlib.Core.Logic.{dite}
use native.Mathlib.Decide.{ℕ_discrete}
use Rattle.fl_history_rings.specs.declared.board.Action.{Action}
use Rattle.fl_history_rings.specs.declared.board.Entry.{Entry}
use Rattle.fl_history_rings.specs.Rule.{gather, one_action}
use Rattle.fl_history_rings.specs.Cores.{TheCore}
use Rattle.fl_history_rings.proofs.Logs.{then_is, else_is}
use Rattle.fl_history_sides.specs.States.{TheHistorySide, numbers_of}
use Rattle.fl_history_sides.specs.Core.{IsStepBy, AreSidesOf}
use Rattle.fl_history_sides.proofs.Prefixes.{Numbered, numbered}
use Rattle.fl_history_events.specs.Events.{MayWait, AllMayWait, MayComeEarlier, known_after, stands_from, known_to_stand, FollowAll}
use Rattle.fl_history_events.proofs.Cutting.{cons_none, cons_same, snoc_none, gather_join}
use Rattle.fl_history_events.proofs.Moments.{stands_join}
use Rattle.fl_history_entries.specs.Entries.{DidAnEvent}
use Rattle.fl_history_entries.proofs.Acting.{piece_here, piece_else, AllWait}
use Rattle.fl_history_entries.proofs.Growing.{Grew, grew_not, GrewAt, DidMore, did_more}
use Rattle.fl_history_entries.proofs.Eventful.{set_here, set_else, one_there, numbers_set, number_at}

-- ---- steps by two sides

-- these come earlier, one after another
abbrev pub AllCome : Bool → List Action → Type 0
AllCome known [] = Unit {0}
AllCome known (a ∷ acts) = MayComeEarlier known a × AllCome (known_after known a) acts

known_here : (s : ℕ) (past before : List Entry) (e : Entry) → e.side ≡ s
    → known_to_stand s (past ++ (before ++ e ∷ [])) ≡ known_after (known_to_stand s (past ++ before)) e.action
known_here s past before e is =
    ap (known_to_stand s) (sym (append_assoc past before (e ∷ [])))
    ∙ ap (stands_from false) (gather_join one_action s (past ++ before) (e ∷ []) ∙ ap (λ (l : List Action). gather one_action s (past ++ before) ++ l) (piece_here s e [] is))
    ∙ stands_join false (gather one_action s (past ++ before)) (e.action ∷ [])

known_else : (s : ℕ) (past before : List Entry) (e : Entry) → e.side ≢ s → known_to_stand s (past ++ (before ++ e ∷ [])) ≡ known_to_stand s (past ++ before)
known_else s past before e ne =
    ap (known_to_stand s) (sym (append_assoc past before (e ∷ [])))
    ∙ ap (stands_from false) (gather_join one_action s (past ++ before) (e ∷ []) ∙ ap (λ (l : List Action). gather one_action s (past ++ before) ++ l) (piece_else s e [] ne)
    ∙ append-nil (gather one_action s (past ++ before)))

wait_more : (xs : List Entry) (e : Entry) → AllMayWait xs → MayWait e.action → AllMayWait (xs ++ e ∷ [])
wait_more [] e all_so may = (may, tt)
wait_more (x ∷ xs) e all_so may = (all_so.0, wait_more xs e all_so.1 may)

-- by the side a, which puts last, and by b, of which it is known that one stands for it
module _ (a b : ℕ) (apart : a ≢ b) (past : List Entry) where
  abbrev ByEither : Entry → Type 0
  ByEither e = (e.side ≡ a) ⊎ (e.side ≡ b)

  abbrev none : List Action
  none = []

  -- behind what decides
  then_come : (before rest : List Entry) → AllByRecursion ByEither rest → gather one_action a rest ≡ none
      → AllCome (known_to_stand b (past ++ before)) (gather one_action b rest) → FollowAll past before rest
  then_come before [] by unheard come = tt
  then_come before (e ∷ es) by unheard come =
      ⊎_elim
      (λ here. absurd (cons_none e.action (gather one_action a es) (sym (piece_here a e es here) ∙ unheard)))
      (λ here.
      let known : Bool = known_to_stand b (past ++ before) in
      let both : AllCome known (e.action ∷ gather one_action b es) = subst (λ (l : List Action). AllCome known l) (piece_here b e es here) come in
      let away : e.side ≢ a = λ d. apart (sym d ∙ here) in (
        inr (subst (λ (s : ℕ). MayComeEarlier (known_to_stand s (past ++ before)) e.action) (sym here) both.0),
        then_come (before ++ e ∷ []) es by.1 (sym (piece_else a e es away) ∙ unheard)
            (subst (λ (z : Bool). AllCome z (gather one_action b es)) (sym (known_here b past before e here)) both.1),
      ))
      by.0

  -- up to it
  abbrev Decides : List Action → Action → List Entry → List Entry → Type 0
  Decides room x before rest = AllByRecursion ByEither rest → AllMayWait before → AllWait room → gather one_action a rest ≡ room ++ x ∷ []
      → AllWait (gather one_action b rest) → AllCome (known_to_stand b (past ++ before)) (gather one_action b rest) → FollowAll past before rest

  first_by_a : (room : List Action) (x : Action) (before : List Entry) (e : Entry) (es : List Entry) → e.side ≡ a
      → ((less : List Action) (sofar : List Entry) → Decides less x sofar es) → Decides room x before (e ∷ es)
  first_by_a [] x before e es here later by wait room_waits is b_waits come =
      let parts = cons_same e.action x (gather one_action a es) none (sym (piece_here a e es here) ∙ is) in
      let away : e.side ≢ b = λ d. apart (sym here ∙ d) in (
        inl wait,
        then_come (before ++ e ∷ []) es by.1 parts.1
            (subst (λ (z : Bool). AllCome z (gather one_action b es)) (sym (known_else b past before e away))
            (subst (λ (l : List Action). AllCome (known_to_stand b (past ++ before)) l) (piece_else b e es away) come)),
      )
  first_by_a (r ∷ room) x before e es here later by wait room_waits is b_waits come =
      let parts = cons_same e.action r (gather one_action a es) (room ++ x ∷ []) (sym (piece_here a e es here) ∙ is) in
      let away : e.side ≢ b = λ d. apart (sym here ∙ d) in (
        inl wait,
        later room (before ++ e ∷ []) by.1 (wait_more before e wait (subst (λ (z : Action). MayWait z) (sym parts.0) room_waits.0)) room_waits.1 parts.1
            (subst (λ (l : List Action). AllWait l) (piece_else b e es away) b_waits)
            (subst (λ (z : Bool). AllCome z (gather one_action b es)) (sym (known_else b past before e away))
            (subst (λ (l : List Action). AllCome (known_to_stand b (past ++ before)) l) (piece_else b e es away) come)),
      )

  first_by_b : (room : List Action) (x : Action) (before : List Entry) (e : Entry) (es : List Entry) → e.side ≡ b
      → ((sofar : List Entry) → Decides room x sofar es) → Decides room x before (e ∷ es)
  first_by_b room x before e es here later by wait room_waits is b_waits come =
      let away : e.side ≢ a = λ d. apart (sym d ∙ here) in
      let waits : AllWait (e.action ∷ gather one_action b es) = subst (λ (l : List Action). AllWait l) (piece_here b e es here) b_waits in
      let known : Bool = known_to_stand b (past ++ before) in
      let both : AllCome known (e.action ∷ gather one_action b es) = subst (λ (l : List Action). AllCome known l) (piece_here b e es here) come in (
        inl wait,
        later (before ++ e ∷ []) by.1 (wait_more before e wait waits.0) room_waits (sym (piece_else a e es away) ∙ is) waits.1
            (subst (λ (z : Bool). AllCome z (gather one_action b es)) (sym (known_here b past before e here)) both.1),
      )

  decides : (room : List Action) (x : Action) (before rest : List Entry) → Decides room x before rest
  decides room x before [] by wait room_waits is b_waits come = absurd (snoc_none room x is)
  decides room x before (e ∷ es) by wait room_waits is b_waits come =
      ⊎_elim
      (λ here. first_by_a room x before e es here (λ less sofar. decides less x sofar es) by wait room_waits is b_waits come)
      (λ here. first_by_b room x before e es here (λ sofar. decides room x sofar es) by wait room_waits is b_waits come)
      by.0

-- steps by some of these sides, and none by any but two, are by these
by_two : (k : ℕ) (numbers : List ℕ) (a b : ℕ) (rest : List Entry) → AllByRecursion (IsStepBy k numbers) rest
    → ((i m : ℕ) → slice_get numbers i ≡ Some m → m ≢ a → m ≢ b → (let none : List Action = [] in gather one_action m rest ≡ none))
    → AllByRecursion (λ e. (e.side ≡ a) ⊎ (e.side ≡ b)) rest
by_two k numbers a b [] all_so others = tt
by_two k numbers a b (e ∷ es) all_so others =
    (either, by_two k numbers a b es all_so.1 less)
  where
    either : (e.side ≡ a) ⊎ (e.side ≡ b)
    either =
        dite (ℕ_discrete e.side a)
        (λ is. inl is)
        (λ ne_a.
        dite (ℕ_discrete e.side b)
        (λ is. inr is)
        (λ ne_b.
        absurd (cons_none e.action (gather one_action e.side es) (sym (piece_here e.side e es refl) ∙ others all_so.0.1.0 e.side all_so.0.1.1 ne_a ne_b))))

    less : (i m : ℕ) → slice_get numbers i ≡ Some m → m ≢ a → m ≢ b → (let none : List Action = [] in gather one_action m es ≡ none)
    less i m at ne_a ne_b =
        sym (piece_else m e es (λ d. ⊎_elim (λ is. ne_a (sym d ∙ is)) (λ is. ne_b (sym d ∙ is)) either)) ∙ others i m at ne_a ne_b

module _ (c d : TheCore) (ss : List TheHistorySide) (m n : ℕ) (p q p2 q2 : TheHistorySide) (h : AreSidesOf c ss) (k : AreSidesOf d (slice_set (slice_set ss m q) n q2))
    (apart : m ≢ n) (at : slice_get ss m ≡ Some p) (at2 : slice_get ss n ≡ Some p2)
    (room : List Action) (x : Action) (taken : List Action) (grew : Grew (room ++ x ∷ []) p q) (grew2 : Grew taken p2 q2) where
  abbrev nothing : List Action
  nothing = []

  abbrev acts : ℕ → List Action
  acts i = if i == m then room ++ x ∷ [] else (if i == n then taken else [])

  acts_m : (i : ℕ) → i ≡ m → acts i ≡ room ++ x ∷ []
  acts_m i is = then_is (i == m) (room ++ x ∷ []) (if i == n then taken else nothing) (eq-eqb i m is)

  acts_n : (i : ℕ) → i ≡ n → acts i ≡ taken
  acts_n i is =
      else_is (i == m) (room ++ x ∷ []) (if i == n then taken else nothing) (ne_eqb i m (λ e. apart (sym e ∙ is)))
      ∙ then_is (i == n) taken nothing (eq-eqb i n is)

  acts_else : (i : ℕ) → i ≢ m → i ≢ n → acts i ≡ nothing
  acts_else i ne ne2 =
      else_is (i == m) (room ++ x ∷ []) (if i == n then taken else nothing) (ne_eqb i m ne)
      ∙ else_is (i == n) taken nothing (ne_eqb i n ne2)

  abbrev mid : List TheHistorySide
  mid = set ss m q

  at2_mid : slice_get mid n ≡ Some p2
  at2_mid = set_else ss m n q (λ e. apart (sym e)) ∙ at2

  grew_m : (i : ℕ) (z : TheHistorySide) → slice_get ss i ≡ Some z → i ≡ m → GrewAt (acts i) z (set mid n q2) i
  grew_m i z there is =
      let same : p ≡ z = one_there ss i p z (ap (slice_get ss) is ∙ at) there in
      record {
        side = q;
        there =
            set_else mid n i q2 (λ e. apart (sym is ∙ e))
            ∙ subst (λ (j : ℕ). slice_get mid j ≡ Some q) (sym is) (set_here ss m p q at);
        grew = subst (λ (y : TheHistorySide). Grew (acts i) y q) same (subst (λ (l : List Action). Grew l p q) (sym (acts_m i is)) grew);
      }

  grew_n : (i : ℕ) (z : TheHistorySide) → slice_get ss i ≡ Some z → i ≡ n → GrewAt (acts i) z (set mid n q2) i
  grew_n i z there is =
      let same : p2 ≡ z = one_there ss i p2 z (ap (slice_get ss) is ∙ at2) there in
      record {
        side = q2;
        there = subst (λ (j : ℕ). slice_get (set mid n q2) j ≡ Some q2) (sym is) (set_here mid n p2 q2 at2_mid);
        grew = subst (λ (y : TheHistorySide). Grew (acts i) y q2) same (subst (λ (l : List Action). Grew l p2 q2) (sym (acts_n i is)) grew2);
      }

  grew_each : (i : ℕ) (z : TheHistorySide) → slice_get ss i ≡ Some z → GrewAt (acts i) z (set mid n q2) i
  grew_each i z there =
      dite (ℕ_discrete i m)
      (λ is. grew_m i z there is)
      (λ ne.
      dite (ℕ_discrete i n)
      (λ is. grew_n i z there is)
      (λ ne2.
      record {
        side = z;
        there = set_else mid n i q2 ne2 ∙ set_else ss m i q ne ∙ there;
        grew = subst (λ (l : List Action). Grew l z z) (sym (acts_else i ne ne2)) (grew_not z);
      }))

  numbers : numbers_of (set mid n q2) ≡ numbers_of ss
  numbers = numbers_set mid n p2 q2 at2_mid grew2.number ∙ numbers_set ss m p q at grew.number

  more : DidMore c d ss (set mid n q2) h k numbers acts grew_each
  more = did_more c d ss (set mid n q2) h k numbers acts grew_each

  sides_apart : p.number ≢ p2.number
  sides_apart e = apart (h.apart m n p.number (number_at ss m p at) (number_at ss n p2 at2 ∙ ap (λ (j : ℕ). Some j) (sym e)))

  by_these : AllByRecursion (λ e. (e.side ≡ p.number) ⊎ (e.side ≡ p2.number)) more.rest
  by_these =
      by_two d.number (numbers_of ss) p.number p2.number more.rest more.by_core
      (λ i j there ne ne2.
      let z : Numbered ss i j = numbered ss i j there in
      let away : i ≢ m = λ is. ne (sym z.number ∙ ap (λ (y : TheHistorySide). y.number) (one_there ss i z.side p z.there (ap (slice_get ss) is ∙ at))) in
      let away2 : i ≢ n = λ is. ne2 (sym z.number ∙ ap (λ (y : TheHistorySide). y.number) (one_there ss i z.side p2 z.there (ap (slice_get ss) is ∙ at2))) in
      subst (λ (l : ℕ). gather one_action l more.rest ≡ nothing) z.number (more.by_side i z.side z.there ∙ acts_else i away away2))

  pub by_two_sides : AllWait room → AllWait taken → AllCome (known_to_stand p2.number c.steps) taken → DidAnEvent c d
  by_two_sides room_waits taken_waits come =
      let own : gather one_action p.number more.rest ≡ room ++ x ∷ [] = more.by_side m p at ∙ acts_m m refl in
      let other : gather one_action p2.number more.rest ≡ taken = more.by_side n p2 at2 ∙ acts_n n refl in
      let past : c.steps ++ [] ≡ c.steps = append-nil c.steps in
      record {
        steps = more.rest;
        did = more.steps_are;
        is_event =
            decides p.number p2.number sides_apart c.steps room x [] more.rest by_these tt room_waits own
            (subst (λ (l : List Action). AllWait l) (sym other) taken_waits)
            (subst (λ (l : List Action). AllCome (known_to_stand p2.number (c.steps ++ [])) l) (sym other)
            (subst (λ (l : List Entry). AllCome (known_to_stand p2.number l) taken) (sym past) come));
      }
