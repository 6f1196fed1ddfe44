-- One step more: it comes to the last event of its core, or that event to it.
use Rattle.std.proofs.Common.{ℕ, ◌≡◌, ◌≢◌, ⊎_elim, true, false, List, [], ◌∷◌, ◌++◌, ap, subst, ◌∙◌, sym, refl, append_assoc, append-nil}
use Rattle.std.proofs.lemmas.Bool.{false≢true}
use mathlib.Core.Logic.{dite}
use native.Mathlib.Decide.{ℕ_discrete}
use Rattle.fl_history_rings.specs.declared.board.Action.{Action}
use Rattle.fl_history_rings.specs.declared.board.Entry.{Entry}
use Rattle.fl_history_rings.specs.declared.board.SideEnd.{SideEnd}
use Rattle.fl_history_rings.specs.Rings.{Way, Goes, Runs, IsByItsCore}
use Rattle.fl_history_rings.specs.Rule.{gather, one_action}
use Rattle.fl_history_rings.proofs.Logs.{runs_more}
use Rattle.fl_history_events.specs.Events.{AllMayWait, MayComeEarlier, stands_from, known_to_stand, MayFollow, joined, CoreEvent, event, all_steps, events_of}
use Rattle.fl_history_events.proofs.Moving.{runs_join, runs_cut, ByCore, ByOthers, sides_differ, all_wait, StandsFor, piece_else, known_run, one_comes}
use Rattle.fl_history_events.proofs.Cutting.{cons_none, gather_join, events_here, events_else, events_both, steps_both, LastEvent}

module _ (ends : List SideEnd) where
  abbrev Ran : List Way → List Entry → List Way → Type 0
  Ran = Runs (Goes ends)

  -- each event's steps are its core's
  abbrev pub EachByCore : List CoreEvent → Type 0
  EachByCore [] = Unit {0}
  EachByCore (d ∷ ds) = ByCore ends d.core d.steps × EachByCore ds

  -- ---- whose steps, of lists in a row

  pub each_join : (xs ys : List CoreEvent) → EachByCore xs → EachByCore ys → EachByCore (xs ++ ys)
  each_join [] ys one two = two
  each_join (d ∷ xs) ys one two = (one.0, each_join xs ys one.1 two)

  each_cut : (xs ys : List CoreEvent) → EachByCore (xs ++ ys) → EachByCore xs × EachByCore ys
  each_cut [] ys all_so = (tt, all_so)
  each_cut (d ∷ xs) ys all_so = let rest = each_cut xs ys all_so.1 in ((all_so.0, rest.0), rest.1)

  one_more : (k : ℕ) (xs : List Entry) (e : Entry) → ByCore ends k xs → e.core ≡ k → IsByItsCore ends e → ByCore ends k (xs ++ e ∷ [])
  one_more k [] e own is by = (is, by, tt)
  one_more k (x ∷ xs) e own is by = (own.0, own.1, one_more k xs e own.2 is by)

  others_join : (k j : ℕ) (xs ys : List Entry) → j ≢ k → ByCore ends j xs → ByOthers ends k ys → ByOthers ends k (xs ++ ys)
  others_join k j [] ys ne own others = others
  others_join k j (x ∷ xs) ys ne own others = ((λ d. ne (sym own.0 ∙ d)), own.1, others_join k j xs ys ne own.2 others)

  -- where no event is of this core no step is
  none_behind : (k : ℕ) (ds : List CoreEvent) → EachByCore ds → (let none : List (List Entry) = [] in events_of k ds ≡ none) → ByOthers ends k (all_steps ds)
  none_behind k [] each is = tt
  none_behind k (d ∷ ds) each is =
      dite (ℕ_discrete d.core k)
      (λ here. absurd (cons_none d.steps (events_of k ds) (sym (events_here k d ds here) ∙ is)))
      (λ ne. others_join k d.core d.steps (all_steps ds) ne each.0 (none_behind k ds each.1 (sym (events_else k d ds ne) ∙ is)))

  -- ---- what was done by a side

  -- nothing by another core
  not_by_side : (k j : ℕ) (e : Entry) (steps : List Entry) → e.core ≡ k → IsByItsCore ends e → j ≢ k → ByCore ends j steps
      → (let none : List Action = [] in gather one_action e.side steps ≡ none)
  not_by_side k j e [] is by ne own = refl
  not_by_side k j e (x ∷ xs) is by ne own =
      piece_else ends e.side x xs (sides_differ ends e x by own.1 (λ d. ne (sym own.0 ∙ d ∙ is)))
      ∙ not_by_side k j e xs is by ne own.2

  -- so all of it is in its core's events
  by_its_side : (k : ℕ) (e : Entry) (ds : List CoreEvent) → e.core ≡ k → IsByItsCore ends e → EachByCore ds
      → gather one_action e.side (all_steps ds) ≡ gather one_action e.side (joined (events_of k ds))
  by_its_side k e [] is by each = refl
  by_its_side k e (d ∷ ds) is by each =
      gather_join one_action e.side d.steps (all_steps ds)
      ∙ ap (λ (l : List Action). gather one_action e.side d.steps ++ l) (by_its_side k e ds is by each.1)
      ∙ dite (ℕ_discrete d.core k)
      (λ here.
      sym (gather_join one_action e.side d.steps (joined (events_of k ds)))
      ∙ ap (λ (l : List (List Entry)). gather one_action e.side (joined l)) (sym (events_here k d ds here)))
      (λ ne.
      ap (λ (l : List Action). l ++ gather one_action e.side (joined (events_of k ds))) (not_by_side k d.core e d.steps is by ne each.0)
      ∙ ap (λ (l : List (List Entry)). gather one_action e.side (joined l)) (sym (events_else k d ds ne)))

  -- ---- one step more

  -- the order with it: the last event of its core has it too, and those of other cores are as before
  pub record TakesIn (start : List Way) (order : List CoreEvent) (k : ℕ) (rest : List (List Entry)) (last : List Entry) (e : Entry) (after : List Way) : Type 0 where
    pub with : List CoreEvent
    pub runs : Ran start (all_steps with) after
    pub each : EachByCore with
    pub own : events_of k with ≡ rest ++ (last ++ e ∷ []) ∷ []
    pub others : (j : ℕ) → j ≢ k → events_of j with ≡ events_of j order

  module _ (start m after : List Way) (order : List CoreEvent) (k : ℕ) (rest : List (List Entry)) (last : List Entry) (e : Entry)
      (run : Ran start (all_steps order) m) (goes : Goes ends m e after) (each : EachByCore order) (found : LastEvent k order rest last)
      (own : e.core ≡ k) (by : IsByItsCore ends e) where
    abbrev before : List Entry
    before = all_steps found.before

    abbrev behind : List Entry
    behind = all_steps found.behind

    abbrev with_e : CoreEvent
    with_e = event k (last ++ e ∷ [])

    each_parts : EachByCore found.before × (ByCore ends k last × EachByCore found.behind)
    each_parts = each_cut found.before (event k last ∷ found.behind) (subst (λ (l : List CoreEvent). EachByCore l) found.order_is each)

    others_behind : ByOthers ends k behind
    others_behind = none_behind k found.behind each_parts.1.1 found.none_behind

    -- the run up to that event, and from there
    parts : (a : List Way) × Ran start before a × Ran a (last ++ behind) m
    parts =
        runs_cut (Goes ends) start m before (last ++ behind)
        (subst (λ (l : List Entry). Ran start l m)
        (ap all_steps found.order_is ∙ steps_both found.before (event k last ∷ found.behind)) run)

    with_own : ByCore ends k (last ++ e ∷ [])
    with_own = one_more k last e each_parts.1.0 own by

    abbrev none : List (List Entry)
    none = []

    -- the events of other cores, around this one
    around : (j : ℕ) → j ≢ k → (steps : List Entry) → events_of j (found.before ++ event k steps ∷ found.behind) ≡ events_of j found.before ++ events_of j found.behind
    around j ne steps =
        events_both j found.before (event k steps ∷ found.behind)
        ∙ ap (λ (l : List (List Entry)). events_of j found.before ++ l) (events_else j (event k steps) found.behind (λ d. ne (sym d)))

    order_around : (j : ℕ) → j ≢ k → events_of j order ≡ events_of j found.before ++ events_of j found.behind
    order_around j ne = ap (events_of j) found.order_is ∙ around j ne last

    -- ---- the event waits

    module _ (waits : AllMayWait last) where
      abbrev later : List CoreEvent
      later = (found.before ++ found.behind) ++ with_e ∷ []

      later_steps : all_steps later ≡ before ++ ((behind ++ last) ++ e ∷ [])
      later_steps =
          steps_both (found.before ++ found.behind) (with_e ∷ [])
          ∙ ap (λ (l : List Entry). l ++ ((last ++ e ∷ []) ++ [])) (steps_both found.before found.behind)
          ∙ ap (λ (l : List Entry). (before ++ behind) ++ l) (append-nil (last ++ e ∷ []))
          ∙ append_assoc before behind (last ++ e ∷ [])
          ∙ ap (λ (l : List Entry). before ++ l) (sym (append_assoc behind last (e ∷ [])))

      later_runs : Ran start (all_steps later) after
      later_runs =
          let moved : Ran parts.0 (behind ++ last) m = all_wait ends parts.0 m k last behind waits each_parts.1.0 others_behind parts.2 in
          subst (λ (l : List Entry). Ran start l after) (sym later_steps)
          (runs_join (Goes ends) start parts.0 after before ((behind ++ last) ++ e ∷ []) parts.1
          (runs_more (Goes ends) parts.0 (behind ++ last) m after e moved goes))

      takes_later : TakesIn start order k rest last e after
      takes_later = record {
        with = later;
        runs = later_runs;
        each = each_join (found.before ++ found.behind) (with_e ∷ []) (each_join found.before found.behind each_parts.0 each_parts.1.1) (with_own, tt);
        own =
            events_both k (found.before ++ found.behind) (with_e ∷ [])
            ∙ ap (λ (l : List (List Entry)). events_of k (found.before ++ found.behind) ++ l) (events_here k with_e [] refl)
            ∙ ap (λ (l : List (List Entry)). l ++ (last ++ e ∷ []) ∷ [])
            (events_both k found.before found.behind
            ∙ ap (λ (l : List (List Entry)). events_of k found.before ++ l) found.none_behind
            ∙ append-nil (events_of k found.before)
            ∙ found.rest_is);
        others = λ j ne.
            events_both j (found.before ++ found.behind) (with_e ∷ [])
            ∙ ap (λ (l : List (List Entry)). events_of j (found.before ++ found.behind) ++ l) (events_else j with_e [] (λ d. ne (sym d)))
            ∙ append-nil (events_of j (found.before ++ found.behind))
            ∙ events_both j found.before found.behind
            ∙ sym (order_around j ne);
      }

    -- ---- the step comes earlier

    module _ (comes : MayComeEarlier (known_to_stand e.side (joined rest ++ last)) e.action) where
      -- what the core did by that side, up to this event
      done_so : gather one_action e.side (joined rest ++ last) ≡ gather one_action e.side (before ++ last)
      done_so =
          ap (λ (l : List (List Entry)). gather one_action e.side (joined l ++ last)) (sym found.rest_is)
          ∙ gather_join one_action e.side (joined (events_of k found.before)) last
          ∙ ap (λ (l : List Action). l ++ gather one_action e.side last) (sym (by_its_side k e found.before own by each_parts.0))
          ∙ sym (gather_join one_action e.side before last)

      abbrev earlier : List CoreEvent
      earlier = found.before ++ with_e ∷ found.behind

      come : Ran parts.0 ((last ++ e ∷ []) ++ behind) after
      come =
          let two = runs_cut (Goes ends) parts.0 m last behind parts.2 in
          let nothing : false ≡ true → StandsFor ends e.side start = λ is. absurd (false≢true is) in
          let whole : Ran start (before ++ last) two.0 = runs_join (Goes ends) start parts.0 two.0 before last parts.1 two.1 in
          let stands : known_to_stand e.side (joined rest ++ last) ≡ true → StandsFor ends e.side two.0 =
          λ is. known_run ends start two.0 e.side false (before ++ last) nothing whole (subst (λ (l : List Action). stands_from false l ≡ true) done_so is) in
          let more : Ran two.0 (behind ++ e ∷ []) after = runs_more (Goes ends) two.0 behind m after e two.2 goes in
          let moved : Ran two.0 (e ∷ behind) after =
          one_comes ends two.0 after k e behind (known_to_stand e.side (joined rest ++ last)) comes stands own by others_behind more in
          subst (λ (l : List Entry). Ran parts.0 l after) (sym (append_assoc last (e ∷ []) behind))
          (runs_join (Goes ends) parts.0 two.0 after last (e ∷ behind) two.1 moved)

      takes_earlier : TakesIn start order k rest last e after
      takes_earlier = record {
        with = earlier;
        runs =
            subst (λ (l : List Entry). Ran start l after) (sym (steps_both found.before (with_e ∷ found.behind)))
            (runs_join (Goes ends) start parts.0 after before ((last ++ e ∷ []) ++ behind) parts.1 come);
        each = each_join found.before (with_e ∷ found.behind) each_parts.0 (with_own, each_parts.1.1);
        own =
            events_both k found.before (with_e ∷ found.behind)
            ∙ ap (λ (l : List (List Entry)). events_of k found.before ++ l) (events_here k with_e found.behind refl)
            ∙ ap (λ (l : List (List Entry)). events_of k found.before ++ (last ++ e ∷ []) ∷ l) found.none_behind
            ∙ ap (λ (l : List (List Entry)). l ++ (last ++ e ∷ []) ∷ []) found.rest_is;
        others = λ j ne. around j ne (last ++ e ∷ []) ∙ sym (order_around j ne);
      }

    pub takes_in : MayFollow (joined rest) last e → TakesIn start order k rest last e after
    takes_in = ⊎_elim takes_later takes_earlier
