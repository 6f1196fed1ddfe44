-- A dispatcher's turn at the end that is due, whatever it takes from.
use Rattle.std.proofs.Common.{◌≡◌, inl, inr, refl, sym, ◌∙◌, ap, subst, ℕ, false, List, [], ◌∷◌}
use Rattle.std.specs.Prelude.{Ok}
use Rattle.fl_base.specs.declared.fragment.Frag.{Frag}
use Rattle.fl_lists.specs.declared.place.Place.{Place}
use Rattle.fl_lists.specs.declared.place.Place.TheVariants as place
use Rattle.fl_lists.specs.ThreeLists.{ThreeLists, unlinked}
use Rattle.fl_waitset.specs.declared.waitset.Pick.{Pick}
use Rattle.fl_waitset.specs.declared.waitset.Pick.TheVariants as pick
use Rattle.fl_waitset.specs.Waiting.{first_of, next_pick}
use Rattle.fl_link.specs.Looks.{Look, saw, saw_ack, found, found_ack, missed}
use Rattle.fl_endpoint.specs.View.{TheEnd}
use Rattle.fl_endpoint.specs.View.{holds_back as end_holds_back}
use Rattle.fl_endpoint.specs.Events.{IsReady}
use Rattle.fl_endpoint.specs.Accounts.{Sound}
use Rattle.fl_core.specs.declared.kind.ChannelKind.{ChannelKind}
use Rattle.fl_core.specs.declared.turn_answer.TurnAnswer.{TurnAnswer}
use Rattle.fl_core.specs.declared.turn_answer.TurnAnswer.TheVariants as turn
use Rattle.fl_core.specs.BoardTurns.{WaitsIn, put_off, moment, Gives as EndGives, LooksAt}
use Rattle.fl_model.specs.Rings.{Label}
use Rattle.fl_model.specs.Waits.{Dispatcher, Due, pending, polled, first_due, puts_off, deregisters}
use Rattle.fl_world_refines.specs.EndLaws.{TakeShows}
use Rattle.fl_core_refines.specs.CutSides.{nothing_stands, left_one, gave_one, gave_ack}
use Rattle.fl_core_refines.specs.CutEnds.{EndCut, ShowsEnd}
use Rattle.fl_core_refines.specs.CutEvents.{TurnPlace, SideKind, label_due, IsOpen, Turns}
use Rattle.fl_core_refines.proofs.Ends.{is_bound_now, holds_now, take_part, take_whole, take_wrong}

-- what a kind of side does that shows what gives
pub record GivingLaw {T P : Type 0} (takes : T → Look → T → Type 0) (Shows : P → T → Type 0) (g : SideKind P) (kind : ChannelKind) : Type 0 where
  pub misses : (label : Label) (v : P) (p q : T) → Shows v p → takes p missed q → (w : P) × g.gives label nothing_stands v w × Shows w q
  pub leaves : (label : Label) (v : P) (p q : T) (f : Frag) → Shows v p → takes p (saw f) q → (w : P) × g.gives label (left_one f) v w × Shows w q
  pub gives_one : (label : Label) (v : P) (p m q : T) (f : Frag) → Shows v p → takes p (saw f) m → takes m (found f) q
      → (w : P) × g.gives label (gave_one f) v w × Shows w q
  pub gives_ack : (label : Label) (v : P) (p m q : T) → Shows v p → takes p saw_ack m → takes m found_ack q
      → (w : P) × g.gives label gave_ack v w × Shows w q
  pub waits : (v : P) (p q : T) (to : Place) → Shows v p → WaitsIn takes kind p to q → (to ≡ g.waits_at v) × Shows v q

-- whose turn it is, by what the waitset picks
abbrev pub due_of : Pick → Due
due_of (pick.Pending c) = pending c.0
due_of (pick.Polled c) = polled c.0

pub due_is : (w : ThreeLists) (picked : Pick) → next_pick w ≡ Ok picked → first_due w.pending w.polled ≡ due_of picked
due_is w picked e = by_lists w.pending w.polled e where
  by_lists : (xs ys : List ℕ) → first_of xs ys ≡ Ok picked → first_due xs ys ≡ due_of picked
  by_lists (c ∷ cs) ys h = let same : pick.Pending (record { 0 = c }) ≡ picked = cc in ap due_of same
  by_lists [] (c ∷ cs) h = let same : pick.Polled (record { 0 = c }) ≡ picked = cc in ap due_of same
  by_lists [] [] h = absurd (cc)

-- what a turn made of the location, and what it made of what that shows
pub record Turned {T P : Type 0} (Shows : P → T → Type 0) (g : SideKind P) (due : Due) (answer : TurnAnswer) (a : TurnPlace P)
    (lists : ThreeLists) (t : TheEnd) (q : T) : Type 0 where
  pub after : TurnPlace P
  pub turns : Turns g due answer a after
  pub shows : ShowsEnd after.end t
  pub side_shows : Shows after.side q
  pub lists_are : lists ≡ after.waits.lists
  pub ends_are : after.waits.ends ≡ a.waits.ends
  pub wired_end : after.end.wired_end ≡ a.end.wired_end
  pub seat : after.end.end.seat ≡ a.end.end.seat

module _ {T P : Type 0} (takes : T → Look → T → Type 0) (Shows : P → T → Type 0) (g : SideKind P) (kind : ChannelKind) where
  abbrev location : Dispatcher → EndCut → P → TurnPlace P
  location waits x v = record { waits = waits; end = x; side = v }

  -- a channel goes from one list to the back of another
  goes_so : (waits : Dispatcher) (w v : ThreeLists) (from : Place) (c : ℕ) (to at : Place) → w ≡ waits.lists → to ≡ at → v ≡ put_off w from c to
      → v ≡ (puts_off from c at waits).lists
  goes_so waits w v from c to at same there e =
      e ∙ ap (λ (x : ThreeLists). put_off x from c to) same ∙ ap (put_off waits.lists from c) there

  is_open : (x : EndCut) (s : TheEnd) → ShowsEnd x s → Sound s → IsReady s → end_holds_back s ≡ false → IsOpen x
  is_open x s h sound ready holds = (is_bound_now x s h ready, sym (holds_now x s h sound) ∙ holds)

  given_turn : GivingLaw takes Shows g kind → TakeShows → (waits : Dispatcher) (x : EndCut) (v : P) (c : ℕ) (w u : ThreeLists) (s t : TheEnd) (p q : T)
      (answer : TurnAnswer) → ShowsEnd x s → Sound s → Shows v p → w ≡ waits.lists
      → EndGives takes kind c (moment w s p) (Ok answer) (moment u t q) → Turned Shows g (pending c) answer (location waits x v) u t q
  given_turn law takes_law waits x v c w u s t p q (turn.Handle call) h sound k same (m, (open_, (f, between, is_bare, seen, taken, in_)), (to, wait, e)) =
      let one = law.gives_one (label_due x) v p between m f k seen taken in
      let there = law.waits one.0 m q to one.2 wait in
      let took = take_whole takes_law x f call s t h sound open_.0.1 is_bare in_ in
      record {
        after = location (puts_off place.Pending c (g.waits_at one.0) waits) took.after one.0;
        turns = (is_open x s h sound open_.0 open_.1, (f, took.takes, (one.1, refl)));
        shows = took.shows;
        side_shows = there.1;
        lists_are = goes_so waits w u place.Pending c to (g.waits_at one.0) same there.0 e;
        ends_are = refl;
        wired_end = took.wired_end;
        seat = took.seat;
      }
  given_turn law takes_law waits x v c w u s t p q turn.Part h sound k same (m, (open_, (f, between, is_bare, seen, taken, in_)), (to, wait, e)) =
      let one = law.gives_one (label_due x) v p between m f k seen taken in
      let there = law.waits one.0 m q to one.2 wait in
      let took = take_part x f s t h in_ in
      record {
        after = location (puts_off place.Pending c (g.waits_at one.0) waits) took.after one.0;
        turns = (is_open x s h sound open_.0 open_.1, (f, took.takes, (one.1, refl)));
        shows = took.shows;
        side_shows = there.1;
        lists_are = goes_so waits w u place.Pending c to (g.waits_at one.0) same there.0 e;
        ends_are = refl;
        wired_end = took.wired_end;
        seat = took.seat;
      }
  given_turn law takes_law waits x v c w u s t p q turn.Quiet h sound k same (m, (open_, (between, seen, taken), is), (to, wait, e)) =
      let one = law.gives_ack (label_due x) v p between m k seen taken in
      let there = law.waits one.0 m q to one.2 wait in
      record {
        after = location (puts_off place.Pending c (g.waits_at one.0) waits) x one.0;
        turns = (is_open x s h sound open_.0 open_.1, refl, (one.1, refl));
        shows = subst (ShowsEnd x) (sym is) h;
        side_shows = there.1;
        lists_are = goes_so waits w u place.Pending c to (g.waits_at one.0) same there.0 e;
        ends_are = refl;
        wired_end = refl;
        seat = refl;
      }
  given_turn law takes_law waits x v c w u s t p q turn.Nothing h sound k same (m, (open_, none, is), (to, wait, e)) =
      let one = law.misses (label_due x) v p m k none in
      let there = law.waits one.0 m q to one.2 wait in
      record {
        after = location (puts_off place.Pending c (g.waits_at one.0) waits) x one.0;
        turns = (is_open x s h sound open_.0 open_.1, refl, (one.1, refl));
        shows = subst (ShowsEnd x) (sym is) h;
        side_shows = there.1;
        lists_are = goes_so waits w u place.Pending c to (g.waits_at one.0) same there.0 e;
        ends_are = refl;
        wired_end = refl;
        seat = refl;
      }
  given_turn law takes_law waits x v c w u s t p q turn.Full h sound k same ((ready, holds, side_is, is), e) = record {
    after = location (puts_off place.Pending c place.Pending waits) x v;
    turns = (is_bound_now x s h ready, sym (holds_now x s h sound) ∙ holds, refl, refl, refl);
    shows = subst (ShowsEnd x) (sym is) h;
    side_shows = subst (Shows v) (sym side_is) k;
    lists_are = goes_so waits w u place.Pending c place.Pending place.Pending same refl e;
    ends_are = refl;
    wired_end = refl;
    seat = refl;
  }
  given_turn law takes_law waits x v c w u s t p q (turn.Refused fault) h sound k same ((open_, (f, is_bare, seen, in_)), e) =
      let one = law.leaves (label_due x) v p q f k seen in
      let failing = take_wrong x f fault s t h in_ in
      record {
        after = location (deregisters c waits) failing.after one.0;
        turns = (is_open x s h sound open_.0 open_.1, (f, failing.fails, one.1), refl);
        shows = failing.shows;
        side_shows = one.2;
        lists_are = e ∙ ap (λ (y : ThreeLists). unlinked y c) same;
        ends_are = refl;
        wired_end = failing.wired_end;
        seat = failing.seat;
      }
  given_turn law takes_law waits x v c w u s t p q turn.Ready h sound k same a = absurd a

  examined_turn : GivingLaw takes Shows g kind → (waits : Dispatcher) (x : EndCut) (v : P) (c : ℕ) (w u : ThreeLists) (s t : TheEnd) (p q : T)
      (answer : TurnAnswer) → ShowsEnd x s → Shows v p → w ≡ waits.lists → LooksAt takes (pick.Polled (record { 0 = c })) kind (moment w s p) (Ok answer) (moment u t q)
      → Turned Shows g (polled c) answer (location waits x v) u t q
  examined_turn law waits x v c w u s t p q turn.Ready h k same (((f, seen), e), is) =
      let one = law.leaves (label_due x) v p q f k seen in
      record {
        after = location (puts_off place.Polled c place.Pending waits) x one.0;
        turns = (refl, (f, one.1), refl);
        shows = subst (ShowsEnd x) (sym is) h;
        side_shows = one.2;
        lists_are = goes_so waits w u place.Polled c place.Pending place.Pending same refl e;
        ends_are = refl;
        wired_end = refl;
        seat = refl;
      }
  examined_turn law waits x v c w u s t p q turn.Quiet h k same ((inl none, e), is) =
      let one = law.misses (label_due x) v p q k none in
      record {
        after = location (puts_off place.Polled c place.Polled waits) x one.0;
        turns = (refl, inl one.1, refl);
        shows = subst (ShowsEnd x) (sym is) h;
        side_shows = one.2;
        lists_are = goes_so waits w u place.Polled c place.Polled place.Polled same refl e;
        ends_are = refl;
        wired_end = refl;
        seat = refl;
      }
  examined_turn law waits x v c w u s t p q turn.Quiet h k same ((inr (between, seen, taken), e), is) =
      let one = law.gives_ack (label_due x) v p between q k seen taken in
      record {
        after = location (puts_off place.Polled c place.Polled waits) x one.0;
        turns = (refl, inr one.1, refl);
        shows = subst (ShowsEnd x) (sym is) h;
        side_shows = one.2;
        lists_are = goes_so waits w u place.Polled c place.Polled place.Polled same refl e;
        ends_are = refl;
        wired_end = refl;
        seat = refl;
      }
  examined_turn law waits x v c w u s t p q (turn.Handle call) h k same a = absurd a.0
  examined_turn law waits x v c w u s t p q turn.Part h k same a = absurd a.0
  examined_turn law waits x v c w u s t p q turn.Full h k same a = absurd a.0
  examined_turn law waits x v c w u s t p q turn.Nothing h k same a = absurd a.0
  examined_turn law waits x v c w u s t p q (turn.Refused fault) h k same a = absurd a.0

  pub turn_shows : GivingLaw takes Shows g kind → TakeShows → (waits : Dispatcher) (x : EndCut) (v : P) (picked : Pick) (w u : ThreeLists) (s t : TheEnd) (p q : T)
      (answer : TurnAnswer) → ShowsEnd x s → Sound s → Shows v p → w ≡ waits.lists → LooksAt takes picked kind (moment w s p) (Ok answer) (moment u t q)
      → Turned Shows g (due_of picked) answer (location waits x v) u t q
  turn_shows law takes_law waits x v (pick.Pending c) w u s t p q answer h sound k same a =
      given_turn law takes_law waits x v c.0 w u s t p q answer h sound k same a
  turn_shows law takes_law waits x v (pick.Polled c) w u s t p q answer h sound k same a =
      examined_turn law waits x v c.0 w u s t p q answer h k same a
