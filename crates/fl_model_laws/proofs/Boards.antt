-- A board: what is found of circuits in a state, as functions. What each number on each link leads to, each binding's route,
-- and the monitors' messages between two cores. What holds of a sound state's board, and what keeps it.
use Rattle.std.proofs.Common.{◌≡◌, refl, sym, ◌∙◌, ap, subst, ℕ, ◌+◌, ◌<◌, ◌≤◌, ◌==◌, ◌||◌, Bool, true, false, ◌⊎◌, inl, inr}
use Rattle.std.proofs.Common.{List, [], ◌∷◌, ◌++◌, length, Option, Some, None, arith}
use Rattle.std.specs.Prelude.{filter_map}
use Rattle.std.specs.List.{cons_option}
use Rattle.std.proofs.lemmas.Bool.{false≢true, eqb-true, eq-eqb, or_left, or_right}
use Rattle.std.proofs.lemmas.List.{append-nil}
use Rattle.std.proofs.lemmas.List.Elements.{filter_map-append}
use Rattle.fl_lists.specs.ThreeLists.{is_in, NoRepeat}
use Rattle.fl_lists.proofs.Members.{NoRepeat-push}
use Rattle.fl_hop.specs.declared.entry.HopTarget.{HopTarget}
use Rattle.fl_hop.specs.declared.entry.HopTarget.TheVariants.{Link as to_link, End as to_end}
use Rattle.fl_hop.specs.declared.entry.Hop.{Hop}
use Rattle.fl_hop.proofs.Entering.{same_or}
use Rattle.fl_model.specs.Rings.{MonitorLabel, open_circuit, circuit_opened, circuit_refused}
use Rattle.fl_model.specs.State.{OpeningVerdict, undecided, granted, denied, Route}
use Rattle.fl_model.specs.Binding.{all_differ}
use Rattle.fl_model.specs.Standing.{core_at, standing, asking, Message, due_message, opening_number, answer_number, asking_by, standing_by}
use Rattle.fl_model.specs.SoundRoutes.{VerdictFits, OneNumber}
use Rattle.fl_model.specs.SoundLimits.{OneNumberBack}
use Rattle.fl_model.specs.SoundEntries.{Leads, to_this, on_to, behind, ahead, Key, near_key, far_key}

-- ---- members of a list

abbrev pub Has : {X : Type 0} → List X → X → Type 0
Has [] x = ⊥
Has (y ∷ ys) x = (y ≡ x) ⊎ Has ys x

pub has_push : {X : Type 0} (xs : List X) (y x : X) → Has (xs ++ y ∷ []) x → Has xs x ⊎ (y ≡ x)
has_push [] y x h = elim h [ inl e ↦ inr e | inr n ↦ absurd n ]
has_push (z ∷ xs) y x h = elim h [
  | inl e ↦ inl (inl e)
  | inr k ↦ elim (has_push xs y x k) [ inl a ↦ inl (inr a) | inr b ↦ inr b ]
]

pub has_none : {X : Type 0} (xs : List X) (x : X) → xs ≡ [] → Has xs x → ⊥
has_none {X} xs x e h = subst (λ (ys : List X). Has ys x) e h

pub mapped_in : {X : Type 0} (f : X → Option ℕ) (xs : List X) (x : X) (k : ℕ) → Has xs x → f x ≡ Some k → is_in k (filter_map f xs) ≡ true
mapped_in f [] x k h q = absurd h
mapped_in {X} f (y ∷ xs) x k h q = elim h [
  | inl e ↦ ap (λ (o : Option ℕ). is_in k (cons_option o (filter_map f xs))) (ap f e ∙ q) ∙ or_left (k == k) (is_in k (filter_map f xs)) (eq-eqb k k refl)
  | inr t ↦ behind_it (f y) (mapped_in f xs x k t q)
]
  where
    behind_it : (o : Option ℕ) → is_in k (filter_map f xs) ≡ true → is_in k (cons_option o (filter_map f xs)) ≡ true
    behind_it None h = h
    behind_it (Some n) h = or_right (n == k) (is_in k (filter_map f xs)) h

pub in_mapped : {X : Type 0} (f : X → Option ℕ) (xs : List X) (k : ℕ) → is_in k (filter_map f xs) ≡ true → (x : X) × Has xs x × (f x ≡ Some k)
in_mapped f [] k h = absurd (cc)
in_mapped {X} f (y ∷ xs) k h = by (λ t. in_mapped f xs k t) (f y) refl h
  where
    later : (is_in k (filter_map f xs) ≡ true → (x : X) × Has xs x × (f x ≡ Some k)) → is_in k (filter_map f xs) ≡ true
        → (x : X) × Has (y ∷ xs) x × (f x ≡ Some k)
    later r t = let (x, a, b) = r t in (x, inr a, b)

    first : (is_in k (filter_map f xs) ≡ true → (x : X) × Has xs x × (f x ≡ Some k)) → (n : ℕ) → f y ≡ Some n → (b : Bool) → (n == k) ≡ b
        → is_in k (n ∷ filter_map f xs) ≡ true → (x : X) × Has (y ∷ xs) x × (f x ≡ Some k)
    first r n e true t i = (y, inl refl, e ∙ ap (λ (m : ℕ). Some m) (eqb-true n k t))
    first r n e false t i = later r (sym (ap (λ (b : Bool). b || is_in k (filter_map f xs)) t) ∙ i)

    by : (is_in k (filter_map f xs) ≡ true → (x : X) × Has xs x × (f x ≡ Some k)) → (o : Option ℕ) → f y ≡ o
        → is_in k (cons_option o (filter_map f xs)) ≡ true → (x : X) × Has (y ∷ xs) x × (f x ≡ Some k)
    by r None e i = later r i
    by r (Some n) e i = first r n e (n == k) refl i

-- ---- the board

pub record Board : Type 0 where
  pub hops : Key → Option Hop
  -- at which place a core has its link to a neighbour
  pub places : ℕ → ℕ → Option ℕ
  pub routes : ℕ → Option Route
  pub said : ℕ → ℕ → List MonitorLabel

abbrev pub Says : Board → ℕ → HopTarget → Leads → Type 0
Says b core (to_end e) (to_this f) = e ≡ f
Says b core (to_link l c) (on_to neighbour number) = (b.places core neighbour ≡ Some l.0) × (c.0 ≡ number)
Says b core way leads = ⊥

pub record Stands (b : Board) (key : Key) (n : ℕ) (leads : Leads) : Type 0 where
  pub hop : Hop
  pub there : b.hops key ≡ Some hop
  pub binding_is : hop.binding ≡ n
  pub way : Says b key.core hop.way leads

pub record StandOn (b : Board) (n : ℕ) (route : Route) : Type 0 where
  pub near : (j : ℕ) → j < standing route → j < length route.numbers → Stands b (near_key route j) n (behind n route j)
  pub far : (j : ℕ) → j + 1 < standing route → j < length route.numbers → Stands b (far_key route j) n (ahead n route (j + 1))

pub record DueNear (b : Board) (key : Key) (hop : Hop) (n : ℕ) (route : Route) (j : ℕ) : Type 0 where
  pub within : j < length route.numbers
  pub stands : j < standing route
  pub key_is : key ≡ near_key route j
  pub way : Says b key.core hop.way (behind n route j)

pub record DueFar (b : Board) (key : Key) (hop : Hop) (n : ℕ) (route : Route) (j : ℕ) : Type 0 where
  pub within : j < length route.numbers
  pub stands : j + 1 < standing route
  pub key_is : key ≡ far_key route j
  pub way : Says b key.core hop.way (ahead n route (j + 1))

abbrev pub DueOn : Board → Key → Hop → ℕ → Route → Type 0
DueOn b key hop n route = (j : ℕ) × (DueNear b key hop n route j ⊎ DueFar b key hop n route j)

abbrev pub DueIn : Board → Key → Hop → ℕ → Type 0
DueIn b key hop n = (route : Route) × (b.routes n ≡ Some route) × DueOn b key hop n route

abbrev pub WaitsOn : Board → Route → Type 0
WaitsOn b route = (j : ℕ) → j < asking route → (hop : Hop) × (b.hops (near_key route j) ≡ Some hop) × (hop.answered ≡ false)

abbrev pub message : ℕ → ℕ → MonitorLabel → Message
message a b m = record { from = a; to = b; said = m }

abbrev pub MessageDue : Board → Message → Type 0
MessageDue b m = (n : ℕ) × ((route : Route) × ((b.routes n ≡ Some route) × (due_message n route ≡ Some m)))

-- the five predicates
pub record Fits (b : Board) : Type 0 where
  pub messages : (x y : ℕ) (m : MonitorLabel) → Has (b.said x y) m → MessageDue b (message x y m)
  pub answers : (x y : ℕ) → NoRepeat (filter_map answer_number (b.said x y))
  pub stand : (n : ℕ) (route : Route) → b.routes n ≡ Some route → StandOn b n route
  pub due : (key : Key) (hop : Hop) → b.hops key ≡ Some hop → DueIn b key hop hop.binding
  pub wait : (n : ℕ) (route : Route) → b.routes n ≡ Some route → WaitsOn b route

pub record IsRoute (route : Route) : Type 0 where
  pub differ : all_differ route.cores ≡ true
  pub apart : (i j : ℕ) → i < length route.cores → j < length route.cores → core_at route i ≡ core_at route j → i ≡ j
  pub some : 1 ≤ length route.numbers
  pub few : length route.numbers + 1 ≤ length route.cores
  pub verdict : VerdictFits route route.verdict

-- and what else is known of a sound state's
pub record Known (b : Board) : Type 0 where
  pub fits : Fits b
  pub lone : (x y : ℕ) → NoRepeat (filter_map opening_number (b.said x y))
  pub routes : (n : ℕ) (route : Route) → b.routes n ≡ Some route → IsRoute route
  pub once : (m n : ℕ) (p q : Route) (i j : ℕ) → b.routes m ≡ Some p → b.routes n ≡ Some q → OneNumber p q i j → m ≡ n
  pub back : (m n : ℕ) (p q : Route) (i j : ℕ) → b.routes m ≡ Some p → b.routes n ≡ Some q → OneNumberBack p q i j → m ≡ n

pub some_is : {X : Type 0} (o : Option X) (x y : X) → o ≡ Some x → o ≡ Some y → x ≡ y
some_is o x y p q = let e : Some x ≡ Some y = sym p ∙ q in cc

-- ---- a board on which one binding's circuit changed

pub record Changes (b c : Board) (n : ℕ) : Type 0 where
  pub others : (m : ℕ) → (m ≡ n → ⊥) → c.routes m ≡ b.routes m
  pub places : (core neighbour l : ℕ) → b.places core neighbour ≡ Some l → c.places core neighbour ≡ Some l
  -- other bindings' entries stay, and no others come
  pub kept : (key : Key) (hop : Hop) → b.hops key ≡ Some hop → (hop.binding ≡ n → ⊥) → c.hops key ≡ Some hop
  pub were : (key : Key) (hop : Hop) → c.hops key ≡ Some hop → (hop.binding ≡ n → ⊥) → b.hops key ≡ Some hop

-- what is to be shown of its own entries
pub record Own (c : Board) (n : ℕ) : Type 0 where
  pub stand : (route : Route) → c.routes n ≡ Some route → StandOn c n route
  pub due : (key : Key) (hop : Hop) → c.hops key ≡ Some hop → hop.binding ≡ n → DueIn c key hop n
  pub wait : (route : Route) → c.routes n ≡ Some route → WaitsOn c route

pub says_on : (b c : Board) (core : ℕ) (way : HopTarget) (leads : Leads)
    → ((neighbour l : ℕ) → b.places core neighbour ≡ Some l → c.places core neighbour ≡ Some l) → Says b core way leads → Says c core way leads
says_on b c core (to_end e) (to_this f) h s = s
says_on b c core (to_end e) (on_to neighbour number) h s = absurd s
says_on b c core (to_link l d) (to_this f) h s = absurd s
says_on b c core (to_link l d) (on_to neighbour number) h s = (h neighbour l.0 s.0, s.1)

pub due_on : (b c : Board) (key : Key) (hop : Hop) (n : ℕ) (route : Route)
    → ((core neighbour l : ℕ) → b.places core neighbour ≡ Some l → c.places core neighbour ≡ Some l) → DueOn b key hop n route → DueOn c key hop n route
due_on b c key hop n route h (j, d) = (
  j,
  elim d [
    | inl a ↦ inl (record { within = a.within; stands = a.stands; key_is = a.key_is; way = says_on b c key.core hop.way (behind n route j) (h key.core) a.way })
    | inr a ↦ inr (record { within = a.within; stands = a.stands; key_is = a.key_is; way = says_on b c key.core hop.way (ahead n route (j + 1)) (h key.core) a.way })
  ],
)

module _ (b c : Board) (n : ℕ) (ch : Changes b c n) where
  pub stands_on : (key : Key) (m : ℕ) (leads : Leads) → (m ≡ n → ⊥) → Stands b key m leads → Stands c key m leads
  stands_on key m leads away s = record {
    hop = s.hop;
    there = ch.kept key s.hop s.there (λ e. away (sym s.binding_is ∙ e));
    binding_is = s.binding_is;
    way = says_on b c key.core s.hop.way leads (ch.places key.core) s.way;
  }

  other_stand : (m : ℕ) (route : Route) → (m ≡ n → ⊥) → StandOn b m route → StandOn c m route
  other_stand m route away s = record {
    near = λ j p q. stands_on (near_key route j) m (behind m route j) away (s.near j p q);
    far = λ j p q. stands_on (far_key route j) m (ahead m route (j + 1)) away (s.far j p q);
  }

  pub stand_kept : Fits b → Own c n → (m : ℕ) (route : Route) → c.routes m ≡ Some route → StandOn c m route
  stand_kept f own m route q = elim (same_or m n) [
    | inl e ↦ subst (λ (k : ℕ). StandOn c k route) (sym e) (own.stand route (ap c.routes (sym e) ∙ q))
    | inr away ↦ other_stand m route away (f.stand m route (sym (ch.others m away) ∙ q))
  ]

  pub due_kept : Fits b → Own c n → (key : Key) (hop : Hop) → c.hops key ≡ Some hop → DueIn c key hop hop.binding
  due_kept f own key hop q = elim (same_or hop.binding n) [
    | inl e ↦ subst (DueIn c key hop) (sym e) (own.due key hop q e)
    | inr away ↦
        (let (route, there, due) = f.due key hop (ch.were key hop q away) in
        (route, ch.others hop.binding away ∙ there, due_on b c key hop hop.binding route ch.places due))
  ]

  -- an entry that a core waits at is its binding's
  pub wait_kept : Known b → Own c n → (m : ℕ) (route : Route) → c.routes m ≡ Some route → WaitsOn c route
  wait_kept k own m route q = elim (same_or m n) [
    | inl e ↦ own.wait route (ap c.routes (sym e) ∙ q)
    | inr away ↦ other_wait away (sym (ch.others m away) ∙ q)
  ]
    where
      asked : (v : OpeningVerdict) → VerdictFits route v → (j : ℕ) → j < asking_by route v → length route.numbers + 1 ≤ length route.cores
          → (j < length route.numbers) × (j < standing_by route v)
      asked undecided f j h few = (h, h)
      asked (granted i) f j h few = let g : i ≤ length route.numbers = f.1 in (omega arith, omega arith)
      asked (denied i fault) f j h few = let g : i ≤ length route.numbers = f in (omega arith, h)

      other_wait : (m ≡ n → ⊥) → b.routes m ≡ Some route → WaitsOn c route
      other_wait away r j h =
          let (hop, there, unanswered) = k.fits.wait m route r j h in
          let is = k.routes m route r in
          let w = asked route.verdict is.verdict j h is.few in
          let s = (k.fits.stand m route r).near j w.1 w.0 in
          let one : s.hop ≡ hop = some_is (b.hops (near_key route j)) s.hop hop s.there there in
          let its : hop.binding ≡ m = ap (λ (x : Hop). x.binding) (sym one) ∙ s.binding_is in
          (hop, ch.kept (near_key route j) hop there (λ e. away (sym its ∙ e)), unanswered)

-- ---- messages

-- the first message between two cores is taken
pub record Takes (f g : ℕ → ℕ → List MonitorLabel) (a b : ℕ) (m : MonitorLabel) : Type 0 where
  pub head : f a b ≡ m ∷ g a b
  pub rest : (u v : ℕ) → ((u ≡ a) × (v ≡ b) → ⊥) → g u v ≡ f u v

-- one more, or none, comes to the back
pub record Puts (g h : ℕ → ℕ → List MonitorLabel) (x y : ℕ) (new : Option MonitorLabel) : Type 0 where
  pub back : h x y ≡ g x y ++ cons_option new []
  pub rest : (u v : ℕ) → ((u ≡ x) × (v ≡ y) → ⊥) → h u v ≡ g u v

pub pair_or : (x y a b : ℕ) → ((x ≡ a) × (y ≡ b)) ⊎ ((x ≡ a) × (y ≡ b) → ⊥)
pair_or x y a b = elim (same_or x a) [
  | inl e ↦ elim (same_or y b) [
    | inl f ↦ inl (e, f)
    | inr f ↦ inr (λ k. f k.1)
  ]
  | inr e ↦ inr (λ k. e k.0)
]

-- a message has one number
pub has_number : (m : MonitorLabel) → ((k : ℕ) × (opening_number m ≡ Some k)) ⊎ ((k : ℕ) × (answer_number m ≡ Some k))
has_number (open_circuit o) = inl (o.circuit, refl)
has_number (circuit_opened c) = inr (c, refl)
has_number (circuit_refused c fault) = inr (c, refl)

not_again : (f : MonitorLabel → Option ℕ) (m : MonitorLabel) (ms : List MonitorLabel) (k : ℕ) → f m ≡ Some k → NoRepeat (filter_map f (m ∷ ms)) → Has ms m → ⊥
not_again f m ms k q r h =
    let s : NoRepeat (k ∷ filter_map f ms) = subst (λ (o : Option ℕ). NoRepeat (cons_option o (filter_map f ms))) q r in
    false≢true (sym s.0 ∙ mapped_in f ms m k h q)

no_repeat_later : (f : MonitorLabel → Option ℕ) (m : MonitorLabel) (ms : List MonitorLabel) → NoRepeat (filter_map f (m ∷ ms)) → NoRepeat (filter_map f ms)
no_repeat_later f m ms h = by (f m) h
  where
    by : (o : Option ℕ) → NoRepeat (cons_option o (filter_map f ms)) → NoRepeat (filter_map f ms)
    by None r = r
    by (Some k) r = r.1

no_repeat_more : (f : MonitorLabel → Option ℕ) (ms : List MonitorLabel) (m : MonitorLabel) → NoRepeat (filter_map f ms)
    → ((k : ℕ) → f m ≡ Some k → (w : MonitorLabel) → Has ms w → f w ≡ Some k → ⊥) → NoRepeat (filter_map f (ms ++ m ∷ []))
no_repeat_more f ms m h new = subst NoRepeat (sym (filter_map-append f ms (m ∷ []))) (by (f m) refl)
  where
    fresh : (k : ℕ) → f m ≡ Some k → (b : Bool) → is_in k (filter_map f ms) ≡ b → is_in k (filter_map f ms) ≡ false
    fresh k q false e = e
    fresh k q true e = let (w, i, j) = in_mapped f ms k e in absurd (new k q w i j)

    by : (o : Option ℕ) → f m ≡ o → NoRepeat (filter_map f ms ++ cons_option o [])
    by None q = subst NoRepeat (sym (append-nil (filter_map f ms))) h
    by (Some k) q = NoRepeat-push k (filter_map f ms) h (fresh k q (is_in k (filter_map f ms)) refl)

pub taken_left : (f g : ℕ → ℕ → List MonitorLabel) (a b : ℕ) (m : MonitorLabel) → Takes f g a b m → NoRepeat (filter_map opening_number (f a b))
    → NoRepeat (filter_map answer_number (f a b)) → (u v : ℕ) (w : MonitorLabel) → Has (g u v) w → Has (f u v) w × (message u v w ≡ message a b m → ⊥)
taken_left f g a b m t p q u v w h = elim (pair_or u v a b) [
  | inl (e, i) ↦ (
    (subst (λ (x : ℕ). Has (f x v) w) (sym e) (subst (λ (y : ℕ). Has (f a y) w) (sym i) (subst (λ (ms : List MonitorLabel). Has ms w) (sym t.head) (inr (at_it e i))))),
    (λ s. again (subst (Has (g a b)) (ap (λ (x : Message). x.said) s) (at_it e i))),
  )
  | inr away ↦ (
    subst (λ (ms : List MonitorLabel). Has ms w) (t.rest u v away) h,
    (λ s. away (ap (λ (x : Message). x.from) s, ap (λ (x : Message). x.to) s)),
  )
]
  where
    at_it : u ≡ a → v ≡ b → Has (g a b) w
    at_it e i = subst (λ (y : ℕ). Has (g a y) w) i (subst (λ (x : ℕ). Has (g x v) w) e h)

    again : Has (g a b) m → ⊥
    again i = elim (has_number m) [
      | inl (k, n) ↦ not_again opening_number m (g a b) k n (subst (λ (ms : List MonitorLabel). NoRepeat (filter_map opening_number ms)) t.head p) i
      | inr (k, n) ↦ not_again answer_number m (g a b) k n (subst (λ (ms : List MonitorLabel). NoRepeat (filter_map answer_number ms)) t.head q) i
    ]

pub taken_once : (f g : ℕ → ℕ → List MonitorLabel) (a b : ℕ) (m : MonitorLabel) → Takes f g a b m → ((u v : ℕ) → NoRepeat (filter_map answer_number (f u v)))
    → (u v : ℕ) → NoRepeat (filter_map answer_number (g u v))
taken_once f g a b m t q u v = elim (pair_or u v a b) [
  | inl (e, i) ↦ subst (λ (x : ℕ). NoRepeat (filter_map answer_number (g x v))) (sym e) (subst (λ (y : ℕ). NoRepeat (filter_map answer_number (g a y))) (sym i)
      (no_repeat_later answer_number m (g a b) (subst (λ (ms : List MonitorLabel). NoRepeat (filter_map answer_number ms)) t.head (q a b))))
  | inr away ↦ subst (λ (ms : List MonitorLabel). NoRepeat (filter_map answer_number ms)) (sym (t.rest u v away)) (q u v)
]

pub put_has : (g h : ℕ → ℕ → List MonitorLabel) (x y : ℕ) (new : Option MonitorLabel) → Puts g h x y new → (u v : ℕ) (w : MonitorLabel) → Has (h u v) w
    → Has (g u v) w ⊎ ((u ≡ x) × ((v ≡ y) × (new ≡ Some w)))
put_has g h x y new p u v w i = elim (pair_or u v x y) [
  | inr away ↦ inl (subst (λ (ms : List MonitorLabel). Has ms w) (p.rest u v away) i)
  | inl (e, f) ↦ elim (by new (subst (λ (ms : List MonitorLabel). Has ms w) p.back (subst (λ (s : ℕ). Has (h x s) w) f (subst (λ (r : ℕ). Has (h r v) w) e i)))) [
    | inl old ↦ inl (subst (λ (r : ℕ). Has (g r v) w) (sym e) (subst (λ (s : ℕ). Has (g x s) w) (sym f) old))
    | inr is ↦ inr (e, (f, is))
  ]
]
  where
    by : (o : Option MonitorLabel) → Has (g x y ++ cons_option o []) w → Has (g x y) w ⊎ (o ≡ Some w)
    by None k = inl (subst (λ (ms : List MonitorLabel). Has ms w) (append-nil (g x y)) k)
    by (Some m) k = elim (has_push (g x y) m w k) [ inl a ↦ inl a | inr e ↦ inr (ap (λ (s : MonitorLabel). Some s) e) ]

pub put_once : (g h : ℕ → ℕ → List MonitorLabel) (x y : ℕ) (new : Option MonitorLabel) → Puts g h x y new → ((u v : ℕ) → NoRepeat (filter_map answer_number (g u v)))
    → ((m : MonitorLabel) → new ≡ Some m → (k : ℕ) → answer_number m ≡ Some k → (w : MonitorLabel) → Has (g x y) w → answer_number w ≡ Some k → ⊥)
    → (u v : ℕ) → NoRepeat (filter_map answer_number (h u v))
put_once g h x y new p q fresh u v = elim (pair_or u v x y) [
  | inr away ↦ subst (λ (ms : List MonitorLabel). NoRepeat (filter_map answer_number ms)) (sym (p.rest u v away)) (q u v)
  | inl (e, i) ↦ subst (λ (r : ℕ). NoRepeat (filter_map answer_number (h r v))) (sym e) (subst (λ (s : ℕ). NoRepeat (filter_map answer_number (h x s))) (sym i)
      (subst (λ (ms : List MonitorLabel). NoRepeat (filter_map answer_number ms)) (sym p.back) (by new refl)))
]
  where
    by : (o : Option MonitorLabel) → new ≡ o → NoRepeat (filter_map answer_number (g x y ++ cons_option o []))
    by None is = subst (λ (ms : List MonitorLabel). NoRepeat (filter_map answer_number ms)) (sym (append-nil (g x y))) (q x y)
    by (Some m) is = no_repeat_more answer_number (g x y) m (q x y) (fresh m is)
