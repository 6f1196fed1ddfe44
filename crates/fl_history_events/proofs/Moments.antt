-- An event has a moment, and what has one is an event; and what is begun of one.
use Rattle.std.proofs.Common.{ℕ, ◌≡◌, ◌⊎◌, inl, inr, ⊎_elim, Bool, true, false, List, [], ◌∷◌, ◌++◌, ap, subst, ◌∙◌, sym, refl, append_assoc, append-nil}
use Rattle.std.proofs.lemmas.Bool.{false≢true}
use Rattle.fl_history_rings.specs.declared.board.Action.{Action}
use Rattle.fl_history_rings.specs.declared.board.Action.TheVariants.{Put, Found, Missed, Saw, Took}
use Rattle.fl_history_rings.specs.declared.board.Entry.{Entry}
use Rattle.fl_history_rings.specs.Rule.{gather, one_action}
use Rattle.fl_history_events.specs.Events.{MayWait, AllMayWait, MayComeEarlier, known_after, stands_from, known_to_stand, FollowAll, IsEventAfter, AllMayComeEarlier, HaveMoment}
use Rattle.fl_history_events.specs.Laws.{EventsHaveMoments, BegunEventsAreEvents, EventsStayEvents}
use Rattle.fl_history_events.proofs.Cutting.{gather_join}

-- whether it may wait
waits_or_not : (d : Action) → MayWait d ⊎ (MayWait d → ⊥)
waits_or_not (Put f) = inr (λ may. may)
waits_or_not (Found control) = inl tt
waits_or_not Missed = inr (λ may. may)
waits_or_not (Saw f) = inl tt
waits_or_not (Took f) = inl tt

all_join : (xs : List Entry) (e : Entry) → AllMayWait xs → MayWait e.action → AllMayWait (xs ++ e ∷ [])
all_join [] e all_so may = (may, tt)
all_join (x ∷ xs) e all_so may = (all_so.0, all_join xs e all_so.1 may)

all_cut : (xs ys : List Entry) → AllMayWait (xs ++ ys) → AllMayWait xs × AllMayWait ys
all_cut [] ys all_so = (tt, all_so)
all_cut (x ∷ xs) ys all_so = let rest = all_cut xs ys all_so.1 in ((all_so.0, rest.0), rest.1)

-- ---- what has a moment is an event

module _ (past : List Entry) where
  follow_join : (before xs ys : List Entry) → FollowAll past before xs → FollowAll past (before ++ xs) ys → FollowAll past before (xs ++ ys)
  follow_join before [] ys one two = subst (λ (l : List Entry). FollowAll past l ys) (append-nil before) two
  follow_join before (x ∷ xs) ys one two =
      (one.0, follow_join (before ++ x ∷ []) xs ys one.1 (subst (λ (l : List Entry). FollowAll past l ys) (sym (append_assoc before (x ∷ []) xs)) two))

  waits_follow : (before xs : List Entry) → AllMayWait before → AllMayWait xs → FollowAll past before xs
  waits_follow before [] first all_so = tt
  waits_follow before (x ∷ xs) first all_so =
      (inl first, waits_follow (before ++ x ∷ []) xs (all_join before x first all_so.0) all_so.1)

  comes_follow : (before xs : List Entry) → AllMayComeEarlier (past ++ before) xs → FollowAll past before xs
  comes_follow before [] all_so = tt
  comes_follow before (x ∷ xs) all_so =
      (inr all_so.0, comes_follow (before ++ x ∷ []) xs (subst (λ (l : List Entry). AllMayComeEarlier l xs) (append_assoc past before (x ∷ [])) all_so.1))

  is_event : (steps : List Entry) → HaveMoment past steps → IsEventAfter past steps
  is_event steps has =
      subst (λ (l : List Entry). IsEventAfter past l) (sym has.steps_are)
      (follow_join [] has.before (has.moment ∷ has.behind) (waits_follow [] has.before tt has.wait)
      (inl has.wait, comes_follow (has.before ++ has.moment ∷ []) has.behind has.come))

  -- ---- an event has a moment

  -- behind what may not all wait, all come earlier
  all_come : (before xs : List Entry) → (AllMayWait before → ⊥) → FollowAll past before xs → AllMayComeEarlier (past ++ before) xs
  all_come before [] ne follow = tt
  all_come before (x ∷ xs) ne follow = (
    ⊎_elim (λ wait. absurd (ne wait)) (λ come. come) follow.0,
    subst (λ (l : List Entry). AllMayComeEarlier l xs) (sym (append_assoc past before (x ∷ [])))
        (all_come (before ++ x ∷ []) xs (λ wait. ne (all_cut before (x ∷ []) wait).0) follow.1),
  )

  moment_here : (before : List Entry) (x : Entry) (xs : List Entry) → AllMayWait before → AllMayComeEarlier (past ++ (before ++ x ∷ [])) xs
      → HaveMoment past (before ++ x ∷ xs)
  moment_here before x xs wait come = record { before = before; moment = x; behind = xs; steps_are = refl; wait = wait; come = come }

  has_moment : (before : List Entry) (x : Entry) (xs : List Entry) → AllMayWait before → FollowAll past (before ++ x ∷ []) xs → HaveMoment past (before ++ x ∷ xs)
  has_moment before x [] wait follow = moment_here before x [] wait tt
  has_moment before x (y ∷ ys) wait follow =
      ⊎_elim
      (λ may.
      subst (λ (l : List Entry). HaveMoment past l) (append_assoc before (x ∷ []) (y ∷ ys))
      (has_moment (before ++ x ∷ []) y ys (all_join before x wait may) follow.1))
      (λ ne.
      moment_here before x (y ∷ ys) wait (all_come (before ++ x ∷ []) (y ∷ ys) (λ waits. ne (all_cut before (x ∷ []) waits).1.0) follow))
      (waits_or_not x.action)

  event_has_moment : (steps : List Entry) → IsEventAfter past steps → (let none : List Entry = [] in steps ≡ none) ⊎ HaveMoment past steps
  event_has_moment [] follow = inl refl
  event_has_moment (x ∷ xs) follow = inr (has_moment [] x xs tt follow.1)

  -- ---- what is begun of an event

  follow_first : (before xs ys : List Entry) → FollowAll past before (xs ++ ys) → FollowAll past before xs
  follow_first before [] ys follow = tt
  follow_first before (x ∷ xs) ys follow = (follow.0, follow_first (before ++ x ∷ []) xs ys follow.1)

pub events_have_moments : EventsHaveMoments
events_have_moments = record { event_has = event_has_moment; are_event = is_event }

pub begun_events : BegunEventsAreEvents
begun_events = λ past steps more. follow_first past [] steps more

-- ---- after more

-- where more is known beforehand no less is known then
more_known : (known : Bool) (acts : List Action) → stands_from false acts ≡ true → stands_from known acts ≡ true
more_known known [] is = absurd (false≢true is)
more_known known (Put f ∷ acts) is = more_known known acts is
more_known known (Found control ∷ acts) is = is
more_known known (Missed ∷ acts) is = more_known known acts is
more_known known (Saw f ∷ acts) is = is
more_known known (Took f ∷ acts) is = is

pub stands_join : (known : Bool) (xs ys : List Action) → stands_from known (xs ++ ys) ≡ stands_from (stands_from known xs) ys
stands_join known [] ys = refl
stands_join known (x ∷ xs) ys = stands_join (known_after known x) xs ys

known_after_more : (s : ℕ) (past before : List Entry) → known_to_stand s before ≡ true → known_to_stand s (past ++ before) ≡ true
known_after_more s past before is =
    ap (stands_from false) (gather_join one_action s past before)
    ∙ stands_join false (gather one_action s past) (gather one_action s before)
    ∙ more_known (stands_from false (gather one_action s past)) (gather one_action s before) is

earlier_more : (known more : Bool) (d : Action) → (known ≡ true → more ≡ true) → MayComeEarlier known d → MayComeEarlier more d
earlier_more known more (Put f) so may = may
earlier_more known more (Found control) so may = so may
earlier_more known more Missed so may = tt
earlier_more known more (Saw f) so may = so may
earlier_more known more (Took f) so may = so may

follow_more : (past before xs : List Entry) → FollowAll [] before xs → FollowAll past before xs
follow_more past before [] follow = tt
follow_more past before (x ∷ xs) follow = (
  ⊎_elim
      (λ wait. inl wait)
      (λ come. inr (earlier_more (known_to_stand x.side before) (known_to_stand x.side (past ++ before)) x.action (known_after_more x.side past before) come))
      follow.0,
  follow_more past (before ++ x ∷ []) xs follow.1,
)

pub stay_events : EventsStayEvents
stay_events = λ past steps. follow_more past [] steps
