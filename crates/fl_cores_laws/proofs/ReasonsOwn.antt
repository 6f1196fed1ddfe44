-- Why a core refuses an opening of its own accord, by its table; and that this stays so.
use Rattle.std.proofs.Common.{◌≡◌, ◌⊎◌, inl, inr, refl, sym, ap, ◌∙◌, subst, ℕ, zero, suc, ◌+◌, ◌-◌, ◌<◌, ◌≤◌, ◌==◌, ◌&&◌, ◌||◌, not, nat_lt, if◌then◌else◌, Bool, true, false}
use Rattle.std.proofs.Common.{List, [], ◌∷◌, length, slice_get, position, Option, Some, None, arith}
use Rattle.std.specs.List.{list_any, position_or_len}
use Rattle.std.specs.Option.{option_map}
use Rattle.std.proofs.lemmas.Bool.{ltb-true}
use Rattle.std.proofs.lemmas.Bool.Decides.{nat_tests}
use Rattle.std.proofs.lemmas.List.Quantifiers.{position-Some}
use Rattle.std.proofs.lemmas.Option.{get_or_from_slice_get}
use Rattle.fl_base.specs.declared.identity.CoreId.{CoreId}
use Rattle.fl_base.specs.declared.identity.Circuit.{Circuit}
use Rattle.fl_base.specs.Given.{given}
use Rattle.fl_nameserv.specs.Registrations.{TheRegistration, by_iref}
use Rattle.fl_hop.specs.declared.links.LinkState.{LinkState}
use Rattle.fl_hop.specs.Later.{Later}
use Rattle.fl_hop.specs.Numbers.{OpenedHere, number, next_here, next_own, next_due}
use Rattle.fl_hop.specs.Openings.{is_next}
use Rattle.fl_hop.specs.Table.{TheCircuits, link_of, stands}
use Rattle.fl_hop.proofs.Lists.{at_within}
use Rattle.fl_hop.proofs.Numbering.{number_once}
use Rattle.fl_monitor.specs.declared.opening.Opening.{Opening}
use Rattle.fl_monitor.specs.declared.heard.MessageOutcome.{MessageOutcome}
use Rattle.fl_monitor.specs.declared.heard.MessageOutcome.TheVariants.{OpeningWentOn, ServerMade, OpeningFailed, AnswerWentOn, EndOpened, EndRefused}
use Rattle.fl_monitor.specs.Fates.{Known, arrival, passage, fate, comes_along, is_offered_elsewhere, is_for_another, is_in_place}
use Rattle.fl_monitor.specs.Hearing.{heard_by}
use Rattle.fl_monitor.specs.Routing.{is_core, all_differ, next_on, comes_after, is_named_behind, is_on_route}
use Rattle.fl_cores_laws.specs.Reasons.{IsUsedUp, Refuses}
use Rattle.fl_cores_laws.proofs.AskedLaid.{Laid}

-- ---- tables of the same core, with the same neighbours

abbrev goes_to : LinkState → CoreId
goes_to link = link.neighbour

first_same : (core : ℕ) (xs ys : List LinkState) → ((l : ℕ) → option_map goes_to (slice_get ys l) ≡ option_map goes_to (slice_get xs l))
    → position_or_len (λ (a : LinkState). a.neighbour.0 == core) ys ≡ position_or_len (λ (a : LinkState). a.neighbour.0 == core) xs
first_same core [] [] same = refl
first_same core [] (y ∷ ys) same = absurd (let clash : Some y.neighbour ≡ None = same 0 in cc)
first_same core (x ∷ xs) [] same = absurd (let clash : None ≡ Some x.neighbour = same 0 in cc)
first_same core (x ∷ xs) (y ∷ ys) same =
    let both : Some y.neighbour ≡ Some x.neighbour = same 0 in
    let one : y.neighbour ≡ x.neighbour = cc in
    let rest = first_same core xs ys (λ l. same (suc l)) in
    ap (λ (c : CoreId). if not (c.0 == core) then 1 + position_or_len (λ (a : LinkState). a.neighbour.0 == core) ys else 0) one
    ∙ ap (λ (n : ℕ). if not (x.neighbour.0 == core) then 1 + n else 0) rest

as_many : (xs ys : List LinkState) → ((l : ℕ) → option_map goes_to (slice_get ys l) ≡ option_map goes_to (slice_get xs l)) → length ys ≡ length xs
as_many [] [] same = refl
as_many [] (y ∷ ys) same = absurd (let clash : Some y.neighbour ≡ None = same 0 in cc)
as_many (x ∷ xs) [] same = absurd (let clash : None ≡ Some x.neighbour = same 0 in cc)
as_many (x ∷ xs) (y ∷ ys) same = ap suc (as_many xs ys (λ l. same (suc l)))

pub laid_link : (t u : TheCircuits) → Laid t u → (core : ℕ) → link_of u core ≡ link_of t core
laid_link t u laid core =
    ap (λ (n : ℕ). if nat_lt n (length u.links) then Some n else None) (first_same core t.links u.links laid.links)
    ∙ ap (λ (m : ℕ). if nat_lt (position_or_len (λ (a : LinkState). a.neighbour.0 == core) t.links) m then Some (position_or_len (λ (a : LinkState). a.neighbour.0 == core) t.links) else None)
    (as_many t.links u.links laid.links)

none_by : (o : Option LinkState) → option_map goes_to o ≡ None → o ≡ None
none_by None is = refl
none_by (Some a) is = absurd (cc)

-- a link that isn't there wasn't
pub laid_none : (t u : TheCircuits) → Laid t u → (l : ℕ) → slice_get u.links l ≡ None → slice_get t.links l ≡ None
laid_none t u laid l none = none_by (slice_get t.links l) (sym (laid.links l) ∙ ap (option_map goes_to) none)

-- ---- numbers that are used up stay so

pub used_later : (t u : TheCircuits) → Laid t u → Later t u → (l : ℕ) → IsUsedUp t l → IsUsedUp u l
used_later t u laid later l x =
    let last : OpenedHere t l (number t.core x.state.neighbour.0 1022) = record { link = x.state; there = x.state_is; among = (1022, omega (arith, all), refl) } in
    let now : OpenedHere u l (number t.core x.state.neighbour.0 1022) = later.here l (number t.core x.state.neighbour.0 1022) last in
    let (k, less, is) = now.among in
    let both : Some now.link.neighbour ≡ Some x.state.neighbour =
    sym (ap (option_map goes_to) now.there) ∙ laid.links l ∙ ap (option_map goes_to) x.state_is in
    let one : now.link.neighbour ≡ x.state.neighbour = cc in
    let same : number t.core x.state.neighbour.0 1022 ≡ number t.core x.state.neighbour.0 k =
    is ∙ ap (λ (core : ℕ). number core now.link.neighbour.0 k) laid.core ∙ ap (λ (c : CoreId). number t.core c.0 k) one in
    let place : 1022 ≡ k = number_once t.core x.state.neighbour.0 1022 k same in
    record { state = now.link; state_is = now.there; all = omega (arith, place, less) }
  where
    all : 1023 ≤ x.state.opened
    all = x.all

-- where its table was t at first, a core refuses for the same reason later on
module _ (names : List TheRegistration) (NoPlace : Opening → Type 0) where
  pub refuses_later : (t u v : TheCircuits) (o : Opening) (reason : ℕ) → ((l : ℕ) → IsUsedUp u l → IsUsedUp v l) → Refuses names NoPlace t u o reason
      → Refuses names NoPlace t v o reason
  refuses_later t u v o reason grows (inl full) = inl full
  refuses_later t u v o reason grows (inr (inl nowhere)) = inr (inl nowhere)
  refuses_later t u v o reason grows (inr (inr (is, x))) =
      inr (inr (is, record { next = x.next; next_is = x.next_is; link = x.link; link_is = x.link_is; used_up = grows x.link x.used_up }))

  -- and as its table was before
  pub refuses_laid : (t u : TheCircuits) (o : Opening) (reason : ℕ) → Laid t u → Refuses names NoPlace u u o reason → Refuses names NoPlace t u o reason
  refuses_laid t u o reason laid (inl (is, x)) = inl (
    is,
    record {
      last = ap (next_on o.path) (sym laid.core) ∙ x.last;
      own = ap (λ (core : ℕ). is_offered_elsewhere names core o.service.0) (sym laid.core) ∙ x.own;
      none = x.none;
    },
  )
  refuses_laid t u o reason laid (inr (inl (is, x))) = inr (inl (
    is,
    record {
      next = x.next;
      next_is = ap (next_on o.path) (sym laid.core) ∙ x.next_is;
      none = elim x.none [ inl none ↦ inl (sym (laid_link t u laid x.next.0) ∙ none) | inr twice ↦ inr twice ];
    },
  ))
  refuses_laid t u o reason laid (inr (inr (is, x))) = inr (inr (
    is,
    record {
      next = x.next;
      next_is = ap (next_on o.path) (sym laid.core) ∙ x.next_is;
      link = x.link;
      link_is = sym (laid_link t u laid x.next.0) ∙ x.link_is;
      used_up = x.used_up;
    },
  ))

-- ---- a route that turns back names a core twice

any_there : (core : ℕ) (cs : List CoreId) (k : ℕ) (b : CoreId) → slice_get cs k ≡ Some b → b.0 ≡ core → list_any (is_core core) cs ≡ true
any_there core [] k b at same = absurd (cc)
any_there core (c ∷ cs) zero b at same =
    let one : c ≡ b = cc in
    let test : (c.0 == core) ≡ true = let numbers : c.0 ≡ core = ap (λ (x : CoreId). x.0) one ∙ same in grind (arith, nat_tests, numbers) in
    by (c.0 == core) test
  where
    by : (t : Bool) → t ≡ true → (t || list_any (is_core core) cs) ≡ true
    by true is = refl
    by false is = absurd (cc)
any_there core (c ∷ cs) (suc k) b at same = by (c.0 == core) (any_there core cs k b at same) where
  by : (t : Bool) → list_any (is_core core) cs ≡ true → (t || list_any (is_core core) cs) ≡ true
  by true is = refl
  by false is = is

not_both : (a b : Bool) → a ≡ true → (not a && b) ≡ false
not_both true b is = refl
not_both false b is = absurd (cc)

nor_rest : (a b : Bool) → b ≡ false → (a && b) ≡ false
nor_rest true b is = is
nor_rest false b is = refl

named_twice : (path : List CoreId) (i k : ℕ) (a b : CoreId) → slice_get path i ≡ Some a → slice_get path k ≡ Some b → i < k → b.0 ≡ a.0 → all_differ path ≡ false
named_twice [] i k a b here there less same = absurd (cc)
named_twice (c ∷ cs) i zero a b here there less same = absurd (omega (arith, less))
named_twice (c ∷ cs) zero (suc k) a b here there less same =
    let one : c ≡ a = cc in
    let numbers : b.0 ≡ c.0 = same ∙ ap (λ (x : CoreId). x.0) (sym one) in
    not_both (list_any (is_core c.0) cs) (all_differ cs) (any_there c.0 cs k b there numbers)
named_twice (c ∷ cs) (suc i) (suc k) a b here there less same =
    nor_rest (not (list_any (is_core c.0) cs)) (all_differ cs) (named_twice cs i k a b here there (omega (arith, less)) same)

-- the core on the link's other side stands directly before this one
pub record StandsBefore (t : TheCircuits) (l : ℕ) (path : List CoreId) : Type 0 where
  pub state : LinkState
  pub state_is : slice_get t.links l ≡ Some state
  pub place : ℕ
  pub place_is : position (is_core t.core) path ≡ Some place
  pub some : 0 < place
  pub before : CoreId
  pub before_is : slice_get path (place - 1) ≡ Some before
  pub same : before.0 ≡ state.neighbour.0

first_test : (a b : Bool) → (a && b) ≡ true → a ≡ true
first_test true b h = refl
first_test false b h = absurd (cc)

module _ (t : TheCircuits) (l : ℕ) (path : List CoreId) where
  by_before : (state : LinkState) → slice_get t.links l ≡ Some state → (place : ℕ) → position (is_core t.core) path ≡ Some place → 0 < place
      → (o : Option CoreId) → slice_get path (place - 1) ≡ o → given o false (is_core state.neighbour.0) ≡ true → StandsBefore t l path
  by_before state at place is some None there h = absurd (cc)
  by_before state at place is some (Some c) there h =
      record { state = state; state_is = at; place = place; place_is = is; some = some; before = c; before_is = there; same = grind (arith, nat_tests, h) }

  by_test : (state : LinkState) → slice_get t.links l ≡ Some state → (place : ℕ) → position (is_core t.core) path ≡ Some place → (b : Bool) → nat_lt 0 place ≡ b
      → (if b then given (slice_get path (place - 1)) false (is_core state.neighbour.0) else false) ≡ true → StandsBefore t l path
  by_test state at place is true some h = by_before state at place is (ltb-true 0 place some) (slice_get path (place - 1)) refl h
  by_test state at place is false some h = absurd (cc)

  by_place : (state : LinkState) → slice_get t.links l ≡ Some state → (o : Option ℕ) → position (is_core t.core) path ≡ o
      → given o false (λ place. comes_after path place state.neighbour.0 && not (is_named_behind path place t.core)) ≡ true → StandsBefore t l path
  by_place state at None is h = absurd (cc)
  by_place state at (Some place) is h =
      by_test state at place is (nat_lt 0 place) refl (first_test (comes_after path place state.neighbour.0) (not (is_named_behind path place t.core)) h)

  by_state : (o : Option LinkState) → slice_get t.links l ≡ o → given o false (λ state. is_on_route path state.neighbour.0 t.core) ≡ true → StandsBefore t l path
  by_state None at h = absurd (cc)
  by_state (Some state) at h = by_place state at (position (is_core t.core) path) refl h

  pub stands_before : comes_along t l path ≡ true → StandsBefore t l path
  stands_before h = by_state (slice_get t.links l) refl h

-- ---- the link to a core

pub record IsLinkTo (t : TheCircuits) (core l : ℕ) : Type 0 where
  pub state : LinkState
  pub state_is : slice_get t.links l ≡ Some state
  pub same : state.neighbour.0 ≡ core

pub link_to : (t : TheCircuits) (core l : ℕ) → link_of t core ≡ Some l → IsLinkTo t core l
link_to t core l is =
    let none : LinkState = record { neighbour = record { 0 = 0 }; opened = 0; taken = 0 } in
    let found = position-Some (λ (a : LinkState). a.neighbour.0 == core) t.links l none is in
    let (state, at) = at_within t.links l found.0 in
    let test : (state.neighbour.0 == core) ≡ true =
    subst (λ (a : LinkState). (a.neighbour.0 == core) ≡ true) (get_or_from_slice_get t.links l state none at) found.1 in
    record { state = state; state_is = at; same = grind (arith, nat_tests, test) }

-- a link on which no number is next is used up
used_up_by : (core : ℕ) (link : LinkState) (b : Bool) → nat_lt link.opened 1023 ≡ b → (if b then Some (number core link.neighbour.0 link.opened) else None) ≡ None → 1023 ≤ link.opened
used_up_by core link true few is = absurd (cc)
used_up_by core link false few is = grind (arith, nat_tests, few)

pub is_used_up : (t : TheCircuits) (l : ℕ) (link : LinkState) → slice_get t.links l ≡ Some link → next_own t l ≡ None → IsUsedUp t l
is_used_up t l link at none =
    record { state = link; state_is = at; all = used_up_by t.core link (nat_lt link.opened 1023) refl (ap (λ (o : Option LinkState). next_here t.core o) (sym at) ∙ none) }

-- ---- an opening that is heard

-- what an opening that fails here fails for
abbrev pub IsGood : (ℕ → Type 0) → Type 0 → MessageOutcome → Type 0
IsGood Own L (OpeningFailed binding reason) = Own reason ⊎ L
IsGood Own L (OpeningWentOn binding m n) = Unit {0}
IsGood Own L (ServerMade binding dispatcher c) = Unit {0}
IsGood Own L (AnswerWentOn binding m c) = Unit {0}
IsGood Own L (EndOpened e c) = Unit {0}
IsGood Own L (EndRefused e reason) = Unit {0}

sixth : (a b c d e f : Bool) → (a && b && not c && not d && e && not f) ≡ true → f ≡ false
sixth a b c d e false h = refl
sixth true true false false true true h = absurd (cc)
sixth false b c d e true h = absurd (cc)
sixth true false c d e true h = absurd (cc)
sixth true true true d e true h = absurd (cc)
sixth true true false true e true h = absurd (cc)
sixth true true false false false true h = absurd (cc)

-- whose service isn't another core's, where the route ends here
pub own_in_place : (kn : Known) (t : TheCircuits) (l c : ℕ) (o : Opening) → is_in_place kn t l c o ≡ true → next_on o.path t.core ≡ None
    → is_offered_elsewhere kn.names t.core o.service.0 ≡ false
own_in_place kn t l c o h last =
    ap (λ (next : Option CoreId). given next (is_offered_elsewhere kn.names t.core o.service.0) λ core. false) (sym last)
    ∙ sixth (is_next (next_due t l) c) (nat_lt o.binding 1024) kn.here.has_end (stands t o.binding) (comes_along t l o.path) (is_for_another kn.names t o) h

module _ (names : List TheRegistration) (NoPlace : Opening → Type 0) (kn : Known) (known : kn.names ≡ names) (t : TheCircuits) (l : ℕ) (o : Opening)
    (none_here : kn.here.has_place ≡ false → NoPlace o) (along : comes_along t l o.path ≡ true)
    (own : next_on o.path t.core ≡ None → is_offered_elsewhere kn.names t.core o.service.0 ≡ false) (c : Circuit) (L : Type 0)
    (lacks : by_iref o.service.0 kn.names ≡ None → L) where
  abbrev Good : MessageOutcome → Type 0
  Good h = IsGood (Refuses names NoPlace t t o) L h

  at_last : next_on o.path t.core ≡ None → (r : Option TheRegistration) (place : Bool) → by_iref o.service.0 kn.names ≡ r → kn.here.has_place ≡ place
      → Good (heard_by o.binding c (arrival kn o.service.0))
  at_last last None place is has = rw is (inr (lacks is))
  at_last last (Some r) true is has = rw (is, has) tt
  at_last last (Some r) false is has = rw (is, has) (inl (inl (
    refl,
    record {
      last = last;
      own = ap (λ (ns : List TheRegistration). is_offered_elsewhere ns t.core o.service.0) (sym known) ∙ own last;
      none = none_here has;
    },
  )))

  -- the link to the next core isn't the one on which the opening came, but where the route turns back
  turns_back : (next : CoreId) → next_on o.path t.core ≡ Some next → link_of t next.0 ≡ Some l → all_differ o.path ≡ false
  turns_back next next_is is =
      let b = stands_before t l o.path along in
      let x = link_to t next.0 l is in
      let states : Some b.state ≡ Some x.state = sym b.state_is ∙ x.state_is in
      let one : b.state ≡ x.state = cc in
      let numbers : next.0 ≡ b.before.0 = sym x.same ∙ ap (λ (a : LinkState). a.neighbour.0) (sym one) ∙ sym b.same in
      let behind : slice_get o.path (b.place + 1) ≡ Some next =
      ap (λ (p : Option ℕ). given p None λ (place : ℕ). slice_get o.path (place + 1)) (sym b.place_is) ∙ next_is in
      named_twice o.path (b.place - 1) (b.place + 1) b.before next b.before_is behind (omega arith) numbers

  at_link : (next : CoreId) → next_on o.path t.core ≡ Some next → (m : ℕ) (same : Bool) (n : Option ℕ) → link_of t next.0 ≡ Some m → (l == m) ≡ same → next_own t m ≡ n
      → Good (heard_by o.binding c (passage t l next.0))
  at_link next next_is m true n is test own =
      let one : m ≡ l = grind (arith, nat_tests, test) in
      rw (is, test) (inl (inr (inl (refl, record { next = next; next_is = next_is; none = inr (turns_back next next_is (is ∙ ap Some one)) }))))
  at_link next next_is m false None is test own =
      let x = link_to t next.0 m is in
      rw (is, test, own) (inl (inr (inr (refl, record { next = next; next_is = next_is; link = m; link_is = is; used_up = is_used_up t m x.state x.state_is own }))))
  at_link next next_is m false (Some n) is test own = rw (is, test, own) tt

  on_the_way : (next : CoreId) → next_on o.path t.core ≡ Some next → (m : Option ℕ) → link_of t next.0 ≡ m → Good (heard_by o.binding c (passage t l next.0))
  on_the_way next next_is None is = rw is (inl (inr (inl (refl, record { next = next; next_is = next_is; none = inl is }))))
  on_the_way next next_is (Some m) is = at_link next next_is m (l == m) (next_own t m) is refl refl

  by_route : (next : Option CoreId) → next_on o.path t.core ≡ next → Good (heard_by o.binding c (fate kn t l o))
  by_route None is = rw is (at_last is (by_iref o.service.0 kn.names) kn.here.has_place refl refl)
  by_route (Some next) is = rw is (on_the_way next is (link_of t next.0) refl)

  pub opening_good : (h : MessageOutcome) → h ≡ heard_by o.binding c (fate kn t l o) → Good h
  opening_good h is = subst Good (sym is) (by_route (next_on o.path t.core) refl)
