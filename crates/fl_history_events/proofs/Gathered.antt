-- Of cores that are gathered.
use Rattle.std.proofs.Common.{ℕ, zero, suc, ◌≡◌, ◌≢◌, ◌<◌, ◌+◌, ◌⊎◌, inl, inr, ⊎_elim, ◌==◌, eq-eqb, ne_eqb, List, [], ◌∷◌, ◌++◌, length, ap, subst, ◌∙◌, sym, refl, arith}
use mathlib.Core.Logic.{dite}
use mathlib.Core.Option.{some, some-injective, some-ne-none}
use native.Mathlib.Decide.{ℕ_discrete}
use lib.ListN.{get_elem?}
use Rattle.fl_history_rings.specs.declared.board.Entry.{Entry}
use Rattle.fl_history_rings.specs.declared.board.SideEnd.{SideEnd}
use Rattle.fl_history_rings.specs.Rings.{all_empty, steps_of}
use Rattle.fl_history_rings.specs.Cores.{TheCore, InOneOrder}
use Rattle.fl_history_rings.specs.Laws.{IsAmong, AllAreAmong}
use Rattle.fl_history_rings.proofs.First.{no_others}
use Rattle.fl_history_rings.proofs.Logs.{then_is, else_is}
use Rattle.fl_history_events.specs.Events.{joined, IsCut, CoreEvent, all_steps, events_of, EventsInOneOrder}
use Rattle.fl_history_events.specs.Gathered.{AreCut, GatheredInOneOrder}
use Rattle.fl_history_events.specs.Laws.{GatheredEventsHaveOneOrder}
use Rattle.fl_history_events.proofs.Cutting.{events_here, events_else}
use Rattle.fl_history_events.proofs.Ordering.{events_have_one_order}

-- above all numbers of these cores
abbrev count_of : List TheCore → ℕ
count_of [] = 0
count_of (c ∷ cs) = c.number + 1 + count_of cs

below_count : (cores : List TheCore) (i : ℕ) (c : TheCore) → get_elem? cores i ≡ some c → c.number < count_of cores
below_count [] i c at = absurd (some-ne-none c (sym at))
below_count (x ∷ xs) zero c at = let same = ap (λ (z : TheCore). z.number) (some-injective x c at) in omega (arith, same)
below_count (x ∷ xs) (suc i) c at = let rest = below_count xs i c at in omega (arith, rest)

-- whether a core is among these
among_or_not : (cores : List TheCore) (n : ℕ) → IsAmong cores n ⊎ (IsAmong cores n → ⊥)
among_or_not [] n = inr (λ here. some-ne-none here.1 (sym here.2))
among_or_not (x ∷ xs) n =
    dite (ℕ_discrete x.number n)
    (λ is. inl (0, x, refl, is))
    (λ ne. ⊎_elim (λ here. inl (suc here.0, here.1, here.2, here.3)) (λ none. inr (λ here. neither ne none here)) (among_or_not xs n))
  where
    neither : x.number ≢ n → (IsAmong xs n → ⊥) → IsAmong (x ∷ xs) n → ⊥
    neither ne none (zero, c, at, is) = ne (ap (λ (z : TheCore). z.number) (some-injective x c at) ∙ is)
    neither ne none (suc i, c, at, is) = none (i, c, at, is)

steps_here : (k : ℕ) (e : Entry) (es : List Entry) → e.core ≡ k → steps_of k (e ∷ es) ≡ e ∷ steps_of k es
steps_here k e es is = then_is (e.core == k) (e ∷ steps_of k es) (steps_of k es) (eq-eqb e.core k is)

steps_else : (k : ℕ) (e : Entry) (es : List Entry) → e.core ≢ k → steps_of k (e ∷ es) ≡ steps_of k es
steps_else k e es ne = else_is (e.core == k) (e ∷ steps_of k es) (steps_of k es) (ne_eqb e.core k ne)

-- an item of two lists in a row is one of either
pub at_either : {A : Type 0} (xs ys : List A) (i : ℕ) (a : A) → get_elem? (xs ++ ys) i ≡ some a → ((j : ℕ) × (get_elem? xs j ≡ some a)) ⊎ ((j : ℕ) × (get_elem? ys j ≡ some a))
at_either [] ys i a at = inr (i, at)
at_either (x ∷ xs) ys zero a at = inl (zero, at)
at_either (x ∷ xs) ys (suc i) a at =
    ⊎_elim (λ here. inl (suc here.0, here.1)) (λ there. inr there) (at_either xs ys i a at)

-- a core that did nothing
pub did_nothing : (n : ℕ) (log : List Entry) → ((i : ℕ) (e : Entry) → get_elem? log i ≡ some e → e.core ≢ n) → (let none : List Entry = [] in steps_of n log ≡ none)
did_nothing n [] never = refl
did_nothing n (e ∷ es) never =
    steps_else n e es (never 0 e refl)
    ∙ did_nothing n es (λ i d at. never (suc i) d at)

module _ (ends : List SideEnd) (cores : List TheCore) (order : InOneOrder ends cores) (events : ℕ → List (List Entry)) (all_here : AllAreAmong cores ends) (cut : AreCut cores events) where
  whole : (core : ℕ) → joined (events core) ≡ steps_of core order.log
  whole core =
      ⊎_elim
      (λ here. subst (λ (n : ℕ). joined (events n) ≡ steps_of n order.log) here.3 (cut.whole here.0 here.1 here.2 ∙ sym (order.did here.0 here.1 here.2)))
      (λ none.
      ap joined (cut.no_more core none)
      ∙ sym (did_nothing core order.log (λ i e at is. none (subst (λ (n : ℕ). IsAmong cores n) is (no_others ends cores order all_here i e at)))))
      (among_or_not cores core)

  is_cut : IsCut (count_of cores) order.log events
  is_cut = record {
    whole = whole;
    each = cut.each;
    within = λ core far. cut.no_more core (λ here. let near = below_count cores here.0 here.1 here.2 in let is = here.3 in omega (arith, far, near, is));
  }

-- ---- the steps of an order of events

-- all are this core's
abbrev pub AllOf : ℕ → List Entry → Type 0
AllOf k steps = (j : ℕ) (e : Entry) → get_elem? steps j ≡ some e → e.core ≡ k

pub steps_join : (k : ℕ) (xs ys : List Entry) → steps_of k (xs ++ ys) ≡ steps_of k xs ++ steps_of k ys
steps_join k [] ys = refl
steps_join k (x ∷ xs) ys =
    dite (ℕ_discrete x.core k)
    (λ here.
    steps_here k x (xs ++ ys) here ∙ ap (λ (l : List Entry). x ∷ l) (steps_join k xs ys)
    ∙ ap (λ (l : List Entry). l ++ steps_of k ys) (sym (steps_here k x xs here)))
    (λ ne.
    steps_else k x (xs ++ ys) ne ∙ steps_join k xs ys ∙ ap (λ (l : List Entry). l ++ steps_of k ys) (sym (steps_else k x xs ne)))

pub steps_own : (k : ℕ) (steps : List Entry) → AllOf k steps → steps_of k steps ≡ steps
steps_own k [] own = refl
steps_own k (x ∷ xs) own =
    steps_here k x xs (own 0 x refl) ∙ ap (λ (l : List Entry). x ∷ l) (steps_own k xs (λ j e at. own (suc j) e at))

pub steps_others : (k j : ℕ) (steps : List Entry) → j ≢ k → AllOf j steps → (let none : List Entry = [] in steps_of k steps ≡ none)
steps_others k j steps ne own = did_nothing k steps (λ i e at is. ne (sym (own i e at) ∙ is))

-- whose steps those of each event are
EachOwn : List CoreEvent → Type 0
EachOwn order = (i : ℕ) (d : CoreEvent) → get_elem? order i ≡ some d → AllOf d.core d.steps

order_steps : (k : ℕ) (order : List CoreEvent) → EachOwn order → steps_of k (all_steps order) ≡ joined (events_of k order)
unfolding EachOwn
order_steps k [] own = refl
order_steps k (d ∷ ds) own =
    steps_join k d.steps (all_steps ds)
    ∙ ap (λ (l : List Entry). steps_of k d.steps ++ l) (order_steps k ds (λ i e at. own (suc i) e at))
    ∙ dite (ℕ_discrete d.core k)
    (λ here.
    ap (λ (l : List Entry). l ++ joined (events_of k ds))
    (subst (λ (n : ℕ). steps_of n d.steps ≡ d.steps) here (steps_own d.core d.steps (own 0 d refl)))
    ∙ ap joined (sym (events_here k d ds here)))
    (λ ne.
    ap (λ (l : List Entry). l ++ joined (events_of k ds)) (steps_others k d.core d.steps ne (own 0 d refl))
    ∙ ap joined (sym (events_else k d ds ne)))

-- a step of the order is one of an event
in_event : (order : List CoreEvent) (i : ℕ) (e : Entry) → get_elem? (all_steps order) i ≡ some e
    → (n j : ℕ) × (d : CoreEvent) × (get_elem? order n ≡ some d) × (get_elem? d.steps j ≡ some e)
in_event [] i e at = absurd (some-ne-none e (sym at))
in_event (d ∷ ds) i e at =
    ⊎_elim
    (λ here. (0, here.0, d, refl, here.1))
    (λ there. let rest = in_event ds there.0 e there.1 in (suc rest.0, rest.1, rest.2, rest.3, rest.4))
    (at_either d.steps (all_steps ds) i e at)

module _ (ends : List SideEnd) (cores : List TheCore) (order : InOneOrder ends cores) (events : ℕ → List (List Entry)) (all_here : AllAreAmong cores ends) (cut : AreCut cores events) where
  whole_order : EventsInOneOrder ends (all_empty (length ends)) events order.queues
  whole_order =
      events_have_one_order ends (all_empty (length ends)) order.queues order.log (count_of cores) events order.runs order.by_its_core
      (is_cut ends cores order events all_here cut)

  each_own_steps : EachOwn whole_order.order
  unfolding EachOwn
  each_own_steps i d at j e there = (whole_order.by_its_core i j d e at there).0

  steps_order : InOneOrder ends cores
  steps_order = record {
    sides_are = order.sides_are;
    log = all_steps whole_order.order;
    queues = order.queues;
    runs = whole_order.runs;
    by_its_core = λ i e at.
        let found = in_event whole_order.order i e at in
        (whole_order.by_its_core found.0 found.1 found.2 e found.3 found.4).1;
    did = λ i c at.
        order_steps c.number whole_order.order each_own_steps ∙ ap joined (whole_order.did c.number) ∙ cut.whole i c at;
  }

  in_one_order : GatheredInOneOrder ends cores events order.queues
  unfolding steps_order
  in_one_order = record { whole = whole_order; steps = steps_order; log_is = refl; queues_are = refl }

pub gathered_events : GatheredEventsHaveOneOrder
gathered_events = λ ends cores order events all_here cut. in_one_order ends cores order events all_here cut
