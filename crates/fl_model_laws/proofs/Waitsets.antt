-- What each call makes of a dispatcher's lists: no channel comes to stand twice, and each listed one is an end's.
use Rattle.std.proofs.Common.{◌≡◌, refl, sym, ◌∙◌, ap, subst, ℕ, suc, ◌+◌, ◌<◌, ◌≤◌, ◌==◌, Bool, true, false, ◌⊎◌, inl, inr}
use Rattle.std.proofs.Common.{List, [], ◌∷◌, ◌++◌, length, slice_get, Option, Some, arith}
use Rattle.std.specs.Prelude.{IsSome}
use Rattle.std.proofs.lemmas.List.{length-append}
use Rattle.std.proofs.lemmas.Bool.{false≢true, true≢false, eqb-true, or_cases}
use Rattle.fl_base.specs.declared.identity.EndId.{EndId}
use Rattle.fl_lists.specs.declared.place.Place.{Place}
use Rattle.fl_lists.specs.declared.place.Place.TheVariants.{Idle, Polled, Pending}
use Rattle.fl_lists.specs.ThreeLists.{ThreeLists, list_at, is_in, place_of, unlinked, pushed, moved, NoRepeat, IsApart}
use Rattle.fl_lists.proofs.Members.{is_in-push, left_out, is_in_from-without, NoRepeat-without, NoRepeat-push}
use Rattle.fl_waitset.proofs.Moves.{idle_moves, first_moves}
use Rattle.fl_model.specs.Waits.{Dispatcher, most_ends, fresh_dispatcher, with_end, registers, deregisters, triggers, puts_off}
use Rattle.fl_model.specs.SoundLists.{ListsStand}
use Rattle.fl_model_laws.proofs.Cases.{either}
use Rattle.fl_model_laws.proofs.EndsStanding.{in_range, there_is}

-- ---- three lists

abbrev pub IsFree : ℕ → ThreeLists → Type 0
IsFree c w = (place : Place) → is_in c (list_at w place) ≡ false

in_push : (k c : ℕ) (xs : List ℕ) → is_in k (xs ++ c ∷ []) ≡ true → (is_in k xs ≡ true) ⊎ (c ≡ k)
in_push k c xs h =
    elim (or_cases (is_in k xs) (c == k) (sym (is_in-push k c xs) ∙ h)) [
      | inl a ↦ inl a
      | inr b ↦ inr (eqb-true c k b)
    ]

-- what stands in a list stood there, or is what was pushed there
pub pushed_from : (w : ThreeLists) (c : ℕ) (to place : Place) (k : ℕ) → is_in k (list_at (pushed w c to) place) ≡ true
    → (is_in k (list_at w place) ≡ true) ⊎ ((c ≡ k) × (place ≡ to))
pushed_from w c Idle Idle k h = elim (in_push k c w.idle h) [ inl a ↦ inl a | inr b ↦ inr (b, refl) ]
pushed_from w c Idle Polled k h = inl h
pushed_from w c Idle Pending k h = inl h
pushed_from w c Polled Idle k h = inl h
pushed_from w c Polled Polled k h = elim (in_push k c w.polled h) [ inl a ↦ inl a | inr b ↦ inr (b, refl) ]
pushed_from w c Polled Pending k h = inl h
pushed_from w c Pending Idle k h = inl h
pushed_from w c Pending Polled k h = inl h
pushed_from w c Pending Pending k h = elim (in_push k c w.pending h) [ inl a ↦ inl a | inr b ↦ inr (b, refl) ]

pushed_once : (w : ThreeLists) (c : ℕ) (to place : Place) → IsFree c w → IsApart w → NoRepeat (list_at (pushed w c to) place)
pushed_once w c Idle Idle f h = NoRepeat-push c w.idle (h.once Idle) (f Idle)
pushed_once w c Idle Polled f h = h.once Polled
pushed_once w c Idle Pending f h = h.once Pending
pushed_once w c Polled Idle f h = h.once Idle
pushed_once w c Polled Polled f h = NoRepeat-push c w.polled (h.once Polled) (f Polled)
pushed_once w c Polled Pending f h = h.once Pending
pushed_once w c Pending Idle f h = h.once Idle
pushed_once w c Pending Polled f h = h.once Polled
pushed_once w c Pending Pending f h = NoRepeat-push c w.pending (h.once Pending) (f Pending)

pushed_size : (w : ThreeLists) (c : ℕ) (to : Place) → (pushed w c to).size ≡ w.size
pushed_size w c Idle = refl
pushed_size w c Polled = refl
pushed_size w c Pending = refl

stood : (w : ThreeLists) (c k : ℕ) (place : Place) → IsFree c w → c ≡ k → is_in k (list_at w place) ≡ true → ⊥
stood w c k place f e h = false≢true (sym (f place) ∙ ap (λ (n : ℕ). is_in n (list_at w place)) e ∙ h)

pub push_apart : (w : ThreeLists) (c : ℕ) (to : Place) → IsFree c w → c < w.size → IsApart w → IsApart (pushed w c to)
push_apart w c to f below h = record {
  once = λ place. pushed_once w c to place f h;
  one_list = λ p q k a b. elim (pushed_from w c to p k a) [
    | inl x ↦ elim (pushed_from w c to q k b) [ inl y ↦ h.one_list p q k x y | inr y ↦ absurd (stood w c k p f y.0 x) ]
    | inr x ↦ elim (pushed_from w c to q k b) [ inl y ↦ absurd (stood w c k q f x.0 y) | inr y ↦ x.1 ∙ sym y.1 ]
  ];
  below = λ place k a. subst (λ (n : ℕ). k < n) (sym (pushed_size w c to)) (elim (pushed_from w c to place k a) [
    | inl x ↦ h.below place k x
    | inr x ↦ subst (λ (n : ℕ). n < w.size) x.0 below
  ]);
}

unlinked_from : (w : ThreeLists) (c : ℕ) (place : Place) (k : ℕ) → is_in k (list_at (unlinked w c) place) ≡ true → is_in k (list_at w place) ≡ true
unlinked_from w c Idle k h = (is_in_from-without k c w.idle h).1
unlinked_from w c Polled k h = (is_in_from-without k c w.polled h).1
unlinked_from w c Pending k h = (is_in_from-without k c w.pending h).1

unlinked_once : (w : ThreeLists) (c : ℕ) (place : Place) → IsApart w → NoRepeat (list_at (unlinked w c) place)
unlinked_once w c Idle h = NoRepeat-without c w.idle (h.once Idle)
unlinked_once w c Polled h = NoRepeat-without c w.polled (h.once Polled)
unlinked_once w c Pending h = NoRepeat-without c w.pending (h.once Pending)

pub unlink_apart : (w : ThreeLists) (c : ℕ) → IsApart w → IsApart (unlinked w c)
unlink_apart w c h = record {
  once = λ place. unlinked_once w c place h;
  one_list = λ p q k a b. h.one_list p q k (unlinked_from w c p k a) (unlinked_from w c q k b);
  below = λ place k a. h.below place k (unlinked_from w c place k a);
}

unlinked_free : (w : ThreeLists) (c : ℕ) → IsFree c (unlinked w c)
unlinked_free w c Idle = left_out c w.idle
unlinked_free w c Polled = left_out c w.polled
unlinked_free w c Pending = left_out c w.pending

-- ---- a dispatcher's

abbrev HasEnd : Dispatcher → ℕ → Type 0
HasEnd d c = IsSome (slice_get d.ends c)

below_size : (d : Dispatcher) (c : ℕ) → HasEnd d c → ListsStand d → c < d.lists.size
below_size d c a h =
    let there : suc c ≤ length d.ends = in_range d.ends c a in
    let few : length d.ends ≤ most_ends = h.few in
    let size : d.lists.size ≡ most_ends = h.size in
    omega arith

pub registers_stands : (c : ℕ) (to : Place) (d : Dispatcher) → IsFree c d.lists → HasEnd d c → ListsStand d → ListsStand (registers c to d)
registers_stands c to d f a h = record {
  size = pushed_size d.lists c to ∙ h.size;
  few = h.few;
  apart = push_apart d.lists c to f (below_size d c a h) h.apart;
  ends = λ place k b. elim (pushed_from d.lists c to place k b) [
    | inl x ↦ h.ends place k x
    | inr x ↦ subst (HasEnd d) x.0 a
  ];
}

pub deregisters_stands : (c : ℕ) (d : Dispatcher) → ListsStand d → ListsStand (deregisters c d)
deregisters_stands c d h = record {
  size = h.size;
  few = h.few;
  apart = unlink_apart d.lists c h.apart;
  ends = λ place k b. h.ends place k (unlinked_from d.lists c place k b);
}

-- a channel goes from its list to the back of one
pub moves_stands : (c : ℕ) (to : Place) (d : Dispatcher) → HasEnd d c → ListsStand d → ListsStand (record d { lists = moved d.lists c to })
moves_stands c to d a h = registers_stands c to (deregisters c d) (unlinked_free d.lists c) a (deregisters_stands c d h)

with_lists : Dispatcher → ThreeLists → Dispatcher
with_lists d w = record d { lists = w }

pub puts_off_stands : (from : Place) (c : ℕ) (to : Place) (d : Dispatcher) → slice_get (list_at d.lists from) 0 ≡ Some c → HasEnd d c → ListsStand d
    → ListsStand (puts_off from c to d)
puts_off_stands from c to d q a h =
    subst (λ (w : ThreeLists). ListsStand (record d { lists = w })) (first_moves d.lists c from to h.apart q) (moves_stands c to d a h)

idle_place : (w : ThreeLists) (c : ℕ) → is_in c w.idle ≡ true → place_of w c ≡ Some Idle
idle_place w c h = either (λ (o : Option Place). o ≡ Some Idle) (is_in c w.idle) _ _ (λ q. refl) (λ q. absurd (true≢false (sym h ∙ q)))

pub triggers_stands : (c : ℕ) (d : Dispatcher) → ListsStand d → ListsStand (triggers c d)
triggers_stands c d h = by_idle (is_in c d.lists.idle) refl
  where
    by_idle : (b : Bool) → is_in c d.lists.idle ≡ b → ListsStand (triggers c d)
    by_idle true q =
        subst (λ (w : ThreeLists). ListsStand (record d { lists = w })) (idle_moves d.lists c h.apart (idle_place d.lists c q))
        (moves_stands c Pending d (h.ends Idle c q) h)
    by_idle false q =
        either (λ (w : ThreeLists). ListsStand (record d { lists = w })) (is_in c d.lists.idle) _ _ (λ r. absurd (true≢false (sym r ∙ q))) (λ r. h)

pub with_end_stands : (e : EndId) (d : Dispatcher) → length d.ends + 1 ≤ most_ends → ListsStand d → ListsStand (with_end e d)
with_end_stands e d a h =
    let longer : length (d.ends ++ e ∷ []) ≡ length d.ends + 1 = length-append d.ends (e ∷ []) in
    record {
      size = h.size;
      few = omega arith;
      apart = h.apart;
      ends = λ place k b. let there : suc k ≤ length d.ends = in_range d.ends k (h.ends place k b) in there_is (d.ends ++ e ∷ []) k (omega arith);
    }

empty_once : (place : Place) → NoRepeat (list_at fresh_dispatcher.lists place)
empty_once Idle = tt
empty_once Polled = tt
empty_once Pending = tt

pub empty_none : (place : Place) (k : ℕ) → is_in k (list_at fresh_dispatcher.lists place) ≡ true → ⊥
empty_none Idle k h = false≢true h
empty_none Polled k h = false≢true h
empty_none Pending k h = false≢true h

pub fresh_stands : ListsStand fresh_dispatcher
fresh_stands = record {
  size = refl;
  few = omega arith;
  apart = record {
    once = empty_once;
    one_list = λ p q k a b. absurd (empty_none p k a);
    below = λ p k a. absurd (empty_none p k a);
  };
  ends = λ p k a. absurd (empty_none p k a);
}

-- the next channel is in no list
pub next_free : (d : Dispatcher) → ListsStand d → IsFree (length d.ends) d.lists
next_free d h place = by_test (is_in (length d.ends) (list_at d.lists place)) refl
  where
    by_test : (b : Bool) → is_in (length d.ends) (list_at d.lists place) ≡ b → is_in (length d.ends) (list_at d.lists place) ≡ false
    by_test true q =
        let there : suc (length d.ends) ≤ length d.ends = in_range d.ends (length d.ends) (h.ends place (length d.ends) q) in
        absurd (omega arith)
    by_test false q = q
