-- Events have one order: by induction on the steps, from the last one.
use Rattle.std.proofs.Common.{ℕ, zero, suc, ◌≡◌, ◌≢◌, ◌<◌, ◌≤◌, ⊎_elim, ◌==◌, if◌then◌else◌, eq-eqb, ne_eqb, List, [], ◌∷◌, ◌++◌, length, ap, subst, ◌∙◌, sym, refl, arith, append_assoc, append-nil, length-append, lt_of_not-le}
use mathlib.Core.Logic.{dite}
use mathlib.Core.Option.{some, some-injective, some-ne-none}
use native.Mathlib.Decide.{dec_le, ℕ_discrete}
use lib.ListN.{get_elem?}
use Rattle.atomic_table.proofs.Lists.{at_longer, at_last}
use Rattle.fl_history_rings.specs.declared.board.Entry.{Entry}
use Rattle.fl_history_rings.specs.declared.board.SideEnd.{SideEnd}
use Rattle.fl_history_rings.specs.Rings.{Way, Goes, Runs, IsByItsCore, steps_of}
use Rattle.fl_history_rings.proofs.Logs.{then_is, else_is, steps_more, steps_same}
use Rattle.fl_history_events.specs.Events.{MayFollow, IsEventAfter, joined, AreEvents, IsCut, CoreEvent, all_steps, events_of, EventGoes}
use Rattle.fl_history_events.specs.Laws.{EventsHaveOneOrder}
use Rattle.fl_history_events.proofs.Moving.{ByCore, runs_cut}
use Rattle.fl_history_events.proofs.Cutting.{cons_none, last_or_none, snoc_same, nothing_joined, follow_cut, LastStep, last_step, events_both, steps_both, last_event, each_of, each_own, each_else, each_steps}
use Rattle.fl_history_events.proofs.Taking.{EachByCore, each_join, TakesIn, takes_in}

module _ (ends : List SideEnd) (start : List Way) where
  abbrev Ran : List Entry → List Way → Type 0
  Ran = Runs (Goes ends) start

  abbrev AllByCores : List Entry → Type 0
  AllByCores log = (i : ℕ) (e : Entry) → get_elem? log i ≡ some e → IsByItsCore ends e

  record Ordered (events : ℕ → List (List Entry)) (after : List Way) : Type 0 where
    order : List CoreEvent
    runs : Ran (all_steps order) after
    each : EachByCore ends order
    did : (core : ℕ) → events_of core order ≡ events core

  abbrev none : List Entry
  none = []

  -- events without steps are of any core
  each_none : (k : ℕ) (pieces : List (List Entry)) → joined pieces ≡ none → EachByCore ends (each_of k pieces)
  each_none k [] is = tt
  each_none k (steps ∷ more) is =
      let parts = nothing_joined steps (joined more) is in
      (subst (λ (l : List Entry). ByCore ends k l) (sym parts.0) tt, each_none k more parts.1)

  -- ---- nothing was done

  module _ (events : ℕ → List (List Entry)) (idle : (core : ℕ) → joined (events core) ≡ none) where
    -- the events of the first so many cores
    abbrev up_to : ℕ → List CoreEvent
    up_to zero = []
    up_to (suc n) = up_to n ++ each_of n (events n)

    up_to_steps : (n : ℕ) → all_steps (up_to n) ≡ none
    up_to_steps zero = refl
    up_to_steps (suc n) =
        steps_both (up_to n) (each_of n (events n))
        ∙ ap (λ (l : List Entry). l ++ all_steps (each_of n (events n))) (up_to_steps n)
        ∙ each_steps n (events n) ∙ idle n

    up_to_each : (n : ℕ) → EachByCore ends (up_to n)
    up_to_each zero = tt
    up_to_each (suc n) = each_join ends (up_to n) (each_of n (events n)) (up_to_each n) (each_none n (events n) (idle n))

    abbrev no_events : List (List Entry)
    no_events = []

    above : (n c : ℕ) → n ≤ c → events_of c (up_to n) ≡ no_events
    above zero c far = refl
    above (suc n) c far =
        events_both c (up_to n) (each_of n (events n))
        ∙ ap (λ (l : List (List Entry)). l ++ events_of c (each_of n (events n))) (above n c (omega (arith, far)))
        ∙ each_else n c (events n) (λ d. omega (arith, far, d))

    below : (n c : ℕ) → c < n → events_of c (up_to n) ≡ events c
    below zero c near = absurd (omega (arith, near))
    below (suc n) c near =
        events_both c (up_to n) (each_of n (events n))
        ∙ dite (ℕ_discrete c n)
        (λ here.
        ap (λ (l : List (List Entry)). l ++ events_of c (each_of n (events n))) (above n c (omega (arith, here)))
        ∙ subst (λ (x : ℕ). events_of x (each_of n (events n)) ≡ events x) (sym here) (each_own n (events n)))
        (λ ne.
        ap (λ (l : List (List Entry)). events_of c (up_to n) ++ l) (each_else n c (events n) (λ d. ne (sym d)))
        ∙ append-nil (events_of c (up_to n)) ∙ below n c (omega (arith, near, ne)))

    nothing_done : (cores : ℕ) (after : List Way) → start ≡ after → ((core : ℕ) → cores ≤ core → events core ≡ no_events) → Ordered events after
    nothing_done cores after same within = record {
      order = up_to cores;
      runs = subst (λ (l : List Entry). Ran l after) (sym (up_to_steps cores)) same;
      each = up_to_each cores;
      did = λ core.
          dite (dec_le cores core)
          (λ far. above cores core far ∙ sym (within core far))
          (λ near. below cores core (lt_of_not-le near));
    }

  -- ---- one step more

  module _ (cores : ℕ) (es : List Entry) (e : Entry) (events : ℕ → List (List Entry)) (cut : IsCut cores (es ++ e ∷ []) events) where
    abbrev k : ℕ
    k = e.core

    found : LastStep (events k) (steps_of k es) e
    found = last_step (events k) (steps_of k es) e (cut.whole k ∙ steps_more k es e refl)

    -- the events without it
    abbrev fewer : ℕ → List (List Entry)
    fewer c = if c == k then found.before ++ found.last ∷ [] else events c

    fewer_here : (c : ℕ) → c ≡ k → fewer c ≡ found.before ++ found.last ∷ []
    fewer_here c here = then_is (c == k) (found.before ++ found.last ∷ []) (events c) (eq-eqb c k here)

    fewer_else : (c : ℕ) → c ≢ k → fewer c ≡ events c
    fewer_else c ne = else_is (c == k) (found.before ++ found.last ∷ []) (events c) (ne_eqb c k ne)

    is_event : IsEventAfter (joined found.before) (found.last ++ e ∷ [])
    is_event = cut.each k found.before found.behind (found.last ++ e ∷ []) found.pieces_are

    begun : IsEventAfter (joined found.before) found.last × MayFollow (joined found.before) found.last e
    begun = follow_cut (joined found.before) [] found.last e is_event

    -- one of these pieces is the last of them, or comes before
    each_before : (xs ys zs : List (List Entry)) (steps z : List Entry) → found.before ++ found.last ∷ [] ≡ xs ++ steps ∷ ys → ys ≡ zs ++ z ∷ []
        → IsEventAfter (joined xs) steps
    each_before xs ys zs steps z is so =
        let split : found.before ++ found.last ∷ [] ≡ (xs ++ steps ∷ zs) ++ z ∷ [] =
        is ∙ ap (λ (l : List (List Entry)). xs ++ steps ∷ l) so ∙ sym (append_assoc xs (steps ∷ zs) (z ∷ [])) in
        let same = snoc_same found.before (xs ++ steps ∷ zs) found.last z split in
        cut.each k xs (zs ++ (found.last ++ e ∷ []) ∷ found.behind) steps
        (found.pieces_are ∙ ap (λ (l : List (List Entry)). l ++ (found.last ++ e ∷ []) ∷ found.behind) same.0
        ∙ append_assoc xs (steps ∷ zs) ((found.last ++ e ∷ []) ∷ found.behind))

    each_last : (xs ys : List (List Entry)) (steps : List Entry) → found.before ++ found.last ∷ [] ≡ xs ++ steps ∷ ys
        → (let no_more : List (List Entry) = [] in ys ≡ no_more) → IsEventAfter (joined xs) steps
    each_last xs ys steps is so =
        let same = snoc_same found.before xs found.last steps (is ∙ ap (λ (l : List (List Entry)). xs ++ steps ∷ l) so) in
        subst (λ (l : List (List Entry)). IsEventAfter (joined l) steps) same.0
        (subst (λ (l : List Entry). IsEventAfter (joined found.before) l) same.1 begun.0)

    each_here : AreEvents (found.before ++ found.last ∷ [])
    each_here xs ys steps is =
        ⊎_elim
        (λ none_left. each_last xs ys steps is none_left)
        (λ parts. each_before xs ys parts.0 steps parts.1 is parts.2)
        (last_or_none ys)

    some_there : (c : ℕ) → c ≡ k → (let no_events : List (List Entry) = [] in events c ≡ no_events) → ⊥
    some_there c here nothing = middle_there found.before (found.last ++ e ∷ []) found.behind (sym found.pieces_are ∙ ap events (sym here) ∙ nothing)
      where
        middle_there : (xs : List (List Entry)) (y : List Entry) (ys : List (List Entry)) → (let no_events : List (List Entry) = [] in xs ++ y ∷ ys ≡ no_events) → ⊥
        middle_there [] y ys is = cons_none y ys is
        middle_there (x ∷ xs) y ys is = cons_none x (xs ++ y ∷ ys) is

    cut_fewer : IsCut cores es fewer
    cut_fewer = record {
      whole = λ c.
          dite (ℕ_discrete c k)
          (λ here. ap joined (fewer_here c here) ∙ found.without ∙ ap (λ (x : ℕ). steps_of x es) (sym here))
          (λ ne. ap joined (fewer_else c ne) ∙ cut.whole c ∙ steps_same c es e (λ d. ne (sym d)));
      each = λ c.
          dite (ℕ_discrete c k)
          (λ here. subst (λ (l : List (List Entry)). AreEvents l) (sym (fewer_here c here)) each_here)
          (λ ne. subst (λ (l : List (List Entry)). AreEvents l) (sym (fewer_else c ne)) (cut.each c));
      within = λ c far.
          dite (ℕ_discrete c k)
          (λ here. absurd (some_there c here (cut.within c far)))
          (λ ne. fewer_else c ne ∙ cut.within c far);
    }

    module _ (m after : List Way) (goes : Goes ends m e after) (by : IsByItsCore ends e) (before : Ordered fewer m) where
      taken : TakesIn ends start before.order k found.before found.last e after
      taken =
          takes_in ends start m after before.order k found.before found.last e before.runs goes before.each
          (last_event k before.order found.before found.last (before.did k ∙ fewer_here k refl)) refl by begun.1

      -- behind it come events of its core without steps
      abbrev idle : List CoreEvent
      idle = each_of k found.behind

      own_so : events_of k taken.with ++ events_of k idle ≡ events k
      own_so =
          ap (λ (l : List (List Entry)). l ++ events_of k idle) taken.own
          ∙ ap (λ (l : List (List Entry)). (found.before ++ (found.last ++ e ∷ []) ∷ []) ++ l) (each_own k found.behind)
          ∙ append_assoc found.before ((found.last ++ e ∷ []) ∷ []) found.behind
          ∙ sym found.pieces_are

      with_step : Ordered events after
      with_step = record {
        order = taken.with ++ idle;
        runs =
            subst (λ (l : List Entry). Ran l after)
            (sym (steps_both taken.with idle ∙ ap (λ (l : List Entry). all_steps taken.with ++ l) (each_steps k found.behind ∙ found.none) ∙ append-nil (all_steps taken.with)))
            taken.runs;
        each = each_join ends taken.with idle taken.each (each_none k found.behind found.none);
        did = λ c.
            events_both c taken.with idle
            ∙ dite (ℕ_discrete c k)
            (λ here. subst (λ (x : ℕ). events_of x taken.with ++ events_of x idle ≡ events x) (sym here) own_so)
            (λ ne.
            ap (λ (l : List (List Entry)). events_of c taken.with ++ l) (each_else k c found.behind (λ d. ne (sym d)))
            ∙ append-nil (events_of c taken.with) ∙ taken.others c ne ∙ before.did c ∙ fewer_else c ne);
      }

  -- ---- all steps

  one_step_more : (cores : ℕ) (es : List Entry) (e : Entry) (events : ℕ → List (List Entry)) (after : List Way) → IsCut cores (es ++ e ∷ []) events
      → Ran (es ++ e ∷ []) after → AllByCores (es ++ e ∷ [])
      → ((fewer : ℕ → List (List Entry)) (m : List Way) → Ran es m → AllByCores es → IsCut cores es fewer → Ordered fewer m)
      → Ordered events after
  one_step_more cores es e events after cut run by order =
      let parts = runs_cut (Goes ends) start after es (e ∷ []) run in
      let goes : Goes ends parts.0 e after = subst (λ (w : List Way). Goes ends parts.0 e w) parts.2.2 parts.2.1 in
      with_step cores es e events cut parts.0 after goes (by (length es) e (at_last es e (length es) refl))
      (order (fewer cores es e events cut) parts.0 parts.1 (λ i d at. by i d (at_longer es (e ∷ []) i d at)) (cut_fewer cores es e events cut))

  ordered : (n : ℕ) (log : List Entry) (cores : ℕ) (events : ℕ → List (List Entry)) (after : List Way) → length log ≡ n → Ran log after → AllByCores log
      → IsCut cores log events → Ordered events after
  ordered zero [] cores events after long run by cut = nothing_done events (λ core. cut.whole core) cores after run cut.within
  ordered zero (e ∷ es) cores events after long run by cut = absurd (omega (arith, long))
  ordered (suc n) log cores events after long run by cut =
      ⊎_elim
      (λ nothing. let empty = ap length nothing in absurd (omega (arith, long, empty)))
      (λ parts.
      let is = parts.2 in
      let shorter : length parts.0 ≡ n = omega (arith, long, ap length is, length-append parts.0 (parts.1 ∷ [])) in
      one_step_more cores parts.0 parts.1 events after
      (subst (λ (l : List Entry). IsCut cores l events) is cut)
      (subst (λ (l : List Entry). Ran l after) is run)
      (subst (λ (l : List Entry). AllByCores l) is by)
      (λ fewer m run_then by_then cut_then. ordered n parts.0 cores fewer m shorter run_then by_then cut_then))
      (last_or_none log)

-- ---- the law

module _ (ends : List SideEnd) where
  of_core : (k : ℕ) (steps : List Entry) → ByCore ends k steps → (j : ℕ) (e : Entry) → get_elem? steps j ≡ some e → (e.core ≡ k) × IsByItsCore ends e
  of_core k [] own j e at = absurd (some-ne-none e (sym at))
  of_core k (x ∷ xs) own zero e at =
      subst (λ (z : Entry). (z.core ≡ k) × IsByItsCore ends z) (some-injective x e at) (own.0, own.1)
  of_core k (x ∷ xs) own (suc j) e at = of_core k xs own.2 j e at

  of_cores : (order : List CoreEvent) → EachByCore ends order → (i j : ℕ) (d : CoreEvent) (e : Entry) → get_elem? order i ≡ some d → get_elem? d.steps j ≡ some e
      → (e.core ≡ d.core) × IsByItsCore ends e
  of_cores [] each i j d e at there = absurd (some-ne-none d (sym at))
  of_cores (x ∷ xs) each zero j d e at there =
      of_core d.core d.steps (subst (λ (z : CoreEvent). ByCore ends z.core z.steps) (some-injective x d at) each.0) j e there
  of_cores (x ∷ xs) each (suc i) j d e at there = of_cores xs each.1 i j d e at there

-- what is done in this order is done event by event
happen : (ends : List SideEnd) (before after : List Way) (order : List CoreEvent) → Runs (Goes ends) before (all_steps order) after
    → Runs (EventGoes ends) before order after
happen ends before after [] run = run
happen ends before after (d ∷ ds) run =
    let parts = runs_cut (Goes ends) before after d.steps (all_steps ds) run in
    (parts.0, parts.1, happen ends parts.0 after ds parts.2)

pub events_have_one_order : EventsHaveOneOrder
events_have_one_order = λ ends before after log cores events run by cut.
    let all_so : Ordered ends before events after = ordered ends before (length log) log cores events after refl run by cut in
    record {
      order = all_so.order;
      happen = happen ends before after all_so.order all_so.runs;
      runs = all_so.runs;
      by_its_core = of_cores ends all_so.order all_so.each;
      did = all_so.did;
    }
