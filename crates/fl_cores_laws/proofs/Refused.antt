-- What a monitor says and hears of refusals, and where entries are gone.
use Rattle.std.proofs.Common.{◌≡◌, ◌⊎◌, inl, inr, refl, sym, ap, ◌∙◌, subst, ℕ, zero, suc, ◌+◌, ◌*◌, ◌<◌, ◌≤◌, nat_lt, if◌then◌else◌, Bool, true, false, List, [], ◌∷◌, ◌++◌, length, slice_get, slice_set, slice_index_or}
use Rattle.std.proofs.Common.{Option, Some, None, option_map, arith}
use Rattle.std.proofs.lemmas.Bool.{cases_eq}
use Rattle.std.proofs.lemmas.Bool.Decides.{nat_tests}
use Rattle.fl_base.specs.declared.fragment.Frag.{Frag}
use Rattle.fl_base.specs.declared.identity.IRef.{IRef}
use Rattle.fl_base.specs.declared.identity.CoreId.{CoreId}
use Rattle.fl_base.specs.declared.identity.Side.TheVariants.{Server}
use Rattle.fl_base.specs.declared.identity.LinkId.{LinkId}
use Rattle.fl_base.specs.declared.identity.Circuit.{Circuit}
use Rattle.fl_base.specs.Control.{bare}
use Rattle.fl_base.specs.Given.{given}
use Rattle.fl_hop.specs.declared.entry.Hop.{Hop}
use Rattle.fl_hop.specs.declared.entry.HopTarget.{HopTarget}
use Rattle.fl_hop.specs.declared.entry.HopTarget.TheVariants.{Link, End}
use Rattle.fl_hop.specs.declared.links.LinkState.{LinkState}
use Rattle.fl_hop.specs.Joined.{Sound, Leads}
use Rattle.fl_hop.specs.Later.{Later, unanswered}
use Rattle.fl_hop.specs.Numbers.{Given, IsAmong, IsOpened, IsTaken, OpenedHere, OpenedThere, number, next_due, with_opening, with_taking, changed, after_opening, after_taking, count_opening, count_taking}
use Rattle.fl_hop.specs.Openings.{IsWaiting, passed_on, answered}
use Rattle.fl_hop.specs.Table.{TheCircuits, slot, hop_at, put_at, with_hops, with_entry, without_entry, leading}
use Rattle.fl_hop.proofs.Answering.{numbers_apart}
use Rattle.fl_hop.proofs.Cells.{slot_once}
use Rattle.fl_hop.proofs.Counting.{Next, Due, next_is, due_is, never_due, counted_taking}
use Rattle.fl_hop.proofs.Laters.{put_other}
use Rattle.fl_hop.proofs.Lists.{set_cases, set_here, at_within, index_there, within}
use Rattle.fl_hop.proofs.Numbering.{small}
use Rattle.fl_monitor.specs.declared.opening.Opening.{Opening}
use Rattle.fl_monitor.specs.declared.heard.MessageOutcome.{MessageOutcome}
use Rattle.fl_monitor.specs.declared.heard.MessageOutcome.TheVariants.{OpeningWentOn, ServerMade, OpeningFailed, AnswerWentOn, EndOpened, EndRefused}
use Rattle.fl_monitor.specs.declared.message.MonitorMessage.{MonitorMessage}
use Rattle.fl_monitor.specs.declared.message.MonitorMessage.TheVariants.{OpenCircuit, CircuitOpened, CircuitRefused}
use Rattle.fl_monitor.specs.Fates.{Known}
use Rattle.fl_monitor.specs.Hearing.{ComesTo, opened_at, refused_at, says, after_opening as table_of_opening, table_after}
use Rattle.fl_monitor.specs.Monitors.{TheMonitor, AllSaid, IsQueuedMessage, waiting_for}
use Rattle.fl_monitor.specs.Saying.{Says}
use Rattle.fl_monitor.proofs.Single.{says_no_other, says_the_same, says_what_is_written}
use Rattle.fl_cores_laws.specs.Named.{Has, IsRefusedIn, IsFree, AreRefused}
use Rattle.fl_cores_laws.proofs.Bound.{given_there}
use Rattle.fl_cores_laws.proofs.Counted.{next_still}
use Rattle.fl_cores_laws.proofs.Named.{IsNext, opening_next, due_in_place, has_split, waits}

-- ---- numbers

module _ (core : ℕ) (links : List LinkState) (m l n : ℕ) where
  -- taking opens none
  pub opened_still : (o : Option LinkState) → slice_get links m ≡ o → IsOpened core (changed with_taking links m o) l n → IsOpened core links l n
  opened_still None at x = x
  opened_still (Some a) at x = elim (set_cases links m (with_taking a) l x.link x.there) [
    | inl p ↦ record {
      link = a;
      there = ap (slice_get links) p.0 ∙ at;
      among = subst (λ (y : LinkState). IsAmong core y.neighbour.0 y.opened n) p.1 x.among;
    }
    | inr p ↦ record { link = x.link; there = p.1; among = x.among }
  ]

  pub record IsNewest : Type 0 where
    pub link_is : l ≡ m
    pub link : LinkState
    pub there : slice_get links m ≡ Some link
    pub number_is : n ≡ number core link.neighbour.0 link.opened

  newest : (a : LinkState) → slice_get links m ≡ Some a → l ≡ m → IsAmong core a.neighbour.0 (a.opened + 1) n → IsOpened core links l n ⊎ IsNewest
  newest a at same (k, less, is) = elim (cases_eq k a.opened) [
    | inl last ↦ inr (record { link_is = same; link = a; there = at; number_is = is ∙ ap (number core a.neighbour.0) last })
    | inr other ↦ inl (record { link = a; there = ap (slice_get links) same ∙ at; among = (k, omega (arith, less, other), is) })
  ]

  pub opened_before : (o : Option LinkState) → slice_get links m ≡ o → IsOpened core (changed with_opening links m o) l n → IsOpened core links l n ⊎ IsNewest
  opened_before None at x = inl x
  opened_before (Some a) at x = elim (set_cases links m (with_opening a) l x.link x.there) [
    | inl p ↦ newest a at p.0 (subst (λ (y : LinkState). IsAmong core y.neighbour.0 y.opened n) p.1 x.among)
    | inr p ↦ inl (record { link = x.link; there = p.1; among = x.among })
  ]

pub newest_next : (core : ℕ) (links : List LinkState) (m l n c : ℕ) → Next core links m c → IsNewest core links m l n → n ≡ c
newest_next core links m l n c next x =
    let both : Some x.link ≡ Some next.link = sym x.there ∙ next.there in
    let same : x.link ≡ next.link = cc in
    x.number_is ∙ ap (λ (a : LinkState). number core a.neighbour.0 a.opened) same ∙ next.is

taken_new : (core : ℕ) (links : List LinkState) (l n : ℕ) → Due core links l n → IsTaken core (count_taking links l) l n
taken_new core links l n x =
    subst (λ v. IsTaken core v l n) (sym (counted_taking core links l n x))
    (record { link = with_taking x.link; there = set_here links l x.link (with_taking x.link) x.there; among = (x.link.taken, omega arith, sym x.is) })

-- ---- entries that are gone

set_index : (xs : List (Option Hop)) (i j : ℕ) (o : Option Hop) → (slice_index_or (slice_set xs i o) j None ≡ o) ⊎ (slice_index_or (slice_set xs i o) j None ≡ slice_index_or xs j None)
set_index [] i j o = inr refl
set_index (x ∷ xs) zero zero o = inl refl
set_index (x ∷ xs) zero (suc j) o = inr refl
set_index (x ∷ xs) (suc i) zero o = inr refl
set_index (x ∷ xs) (suc i) (suc j) o = set_index xs i j o

-- what is put there leaves none where there was one
put_some : (t : TheCircuits) (way : HopTarget) (h : Hop) (l n : ℕ) → hop_at (with_hops t (put_at way (Some h) t.hops)) l n ≡ None → hop_at t l n ≡ None
put_some t (End e) h l n none = none
put_some t (Link m d) h l n none = by (nat_lt n 2047) none where
  by : (b : Bool) → (if b then slice_index_or (slice_set t.hops (slot m.0 d.0) (Some h)) (slot l n) None else None) ≡ None → (if b then slice_index_or t.hops (slot l n) None else None) ≡ None
  by true is = elim (set_index t.hops (slot m.0 d.0) (slot l n) (Some h)) [
    | inl some ↦ (let clash : Some h ≡ None = sym some ∙ is in absurd (cc))
    | inr old ↦ sym old ∙ is
  ]
  by false is = refl

pub none_before : (t : TheCircuits) (binding : ℕ) (ok : Bool) (a b : HopTarget) (l n : ℕ) → hop_at (with_entry t binding ok a b) l n ≡ None → hop_at t l n ≡ None
none_before t binding ok a b l n none =
    let x : Hop = record { binding = binding; way = a; answered = ok } in
    let y : Hop = record { binding = binding; way = b; answered = ok } in
    let first : TheCircuits = with_hops t (put_at a (Some y) t.hops) in
    put_some t a y l n (put_some first b x l n none)

-- the last thing put stands
set_long : (xs : List (Option Hop)) (i : ℕ) (o : Option Hop) → length (slice_set xs i o) ≡ length xs
set_long [] i o = refl
set_long (x ∷ xs) zero o = refl
set_long (x ∷ xs) (suc i) o = ap suc (set_long xs i o)

put_long : (way : HopTarget) (o : Option Hop) (xs : List (Option Hop)) → length (put_at way o xs) ≡ length xs
put_long (Link l c) o xs = set_long xs (slot l.0 c.0) o
put_long (End e) o xs = refl

pub test_true : (b : Bool) (o p : Option Hop) → b ≡ true → (if b then o else p) ≡ o
test_true true o p is = refl
test_true false o p is = absurd (cc)

pub less_true : (a b : ℕ) → a < b → nat_lt a b ≡ true
less_true a b less = grind (arith, nat_tests, less)

last_stands : (t : TheCircuits) (hops : List (Option Hop)) (m : LinkId) (d : Circuit) (o : Option Hop) (links : ℕ) → length hops ≡ 2047 * links → m.0 < links → d.0 ≤ 2046
    → hop_at (with_hops t (put_at (Link m d) o hops)) m.0 d.0 ≡ o
last_stands t hops m d o links long within few =
    let (old, there) = at_within hops (slot m.0 d.0) (omega (arith, long, within, few)) in
    test_true (nat_lt d.0 2047) _ None (less_true d.0 2047 (omega (arith, few)))
    ∙ index_there (slice_set hops (slot m.0 d.0) o) (slot m.0 d.0) None o (set_here hops (slot m.0 d.0) old o there)

set_none : (xs : List (Option Hop)) (i : ℕ) → slice_index_or (slice_set xs i None) i None ≡ None
set_none [] i = refl
set_none (x ∷ xs) zero = refl
set_none (x ∷ xs) (suc i) = set_none xs i

put_none_here : (t : TheCircuits) (m : LinkId) (d : Circuit) → hop_at (with_hops t (put_at (Link m d) None t.hops)) m.0 d.0 ≡ None
put_none_here t m d = by (nat_lt d.0 2047) where
  by : (b : Bool) → (if b then slice_index_or (slice_set t.hops (slot m.0 d.0) None) (slot m.0 d.0) None else None) ≡ None
  by true = set_none t.hops (slot m.0 d.0)
  by false = refl

-- a number that was given has none still, where it had none
none_map : (o : Option Hop) → option_map unanswered o ≡ None → o ≡ None
none_map None h = refl
none_map (Some x) h = absurd (cc)

free_still : (t u : TheCircuits) (l n : ℕ) → Later t u → IsFree t l n → IsFree u l n
free_still t u l n later f = record {
  there = later.there l n f.there;
  none = elim (later.kept l n (inr f.there)) [
    | inl same ↦ none_map (hop_at u l n) (same ∙ ap (option_map unanswered) f.none)
    | inr gone ↦ gone
  ];
}

-- a number of this core's own that was given before was its own
here_before : (t u : TheCircuits) (l n : ℕ) → Sound u → Later t u → Given t l n → OpenedHere u l n → OpenedHere t l n
here_before t u l n sound later (inl before) here = before
here_before t u l n sound later (inr there) here = absurd (numbers_apart u sound l n here (later.there l n there))

-- ---- the monitor of before, and of afterwards

refused_parts : (c d : Circuit) (r q : ℕ) → CircuitRefused c r ≡ CircuitRefused d q → c ≡ d
refused_parts c d r q same = cc

module _ (said heard said2 heard2 : ℕ → List Frag) (m m2 : TheMonitor) (later : Later m.circuits m2.circuits) (named : AreRefused said heard m)
    (more : (l : ℕ) (f : Frag) → Has f (heard l) → Has f (heard2 l)) where
  gone_still : (l n : ℕ) → OpenedHere m.circuits l n → hop_at m.circuits l n ≡ None → IsRefusedIn (heard2 l) n
  gone_still l n here none =
      let a = named.gone l n here none in
      record { frag = a.frag; has = more l a.frag a.has; circuit = a.circuit; number = a.number; reason = a.reason; says = a.says }

  refused_still : (l : ℕ) (f : Frag) (c : Circuit) (reason : ℕ) → Has f (said l) ⊎ Has f (waiting_for m.outboxes l) → Says f (CircuitRefused c reason) → IsFree m2.circuits l c.0
  refused_still l f c reason has says_it = free_still m.circuits m2.circuits l c.0 later (named.refused l f c reason has says_it)

  -- nothing new is said, and the table is as it was
  pub refused_rests : ((l : ℕ) (f : Frag) → Has f (said2 l) ⊎ Has f (waiting_for m2.outboxes l) → (g : Frag) × (bare g ≡ bare f) × (Has g (said l) ⊎ Has g (waiting_for m.outboxes l)))
      → m2.circuits ≡ m.circuits → AreRefused said2 heard2 m2
  refused_rests from same = record {
    refused = λ l f c reason has says_it.
        (let (g, alike, before) = from l f has in refused_still l g c reason before (says_the_same f g (CircuitRefused c reason) alike says_it));
    gone = λ l n here none.
        gone_still l n (subst (λ (t : TheCircuits). OpenedHere t l n) same here) (sym (ap (λ (t : TheCircuits). hop_at t l n) same) ∙ none);
  }

  -- a message more is to be said; if it refuses a number, no entry stands there
  module _ (x : LinkId) (msg : MonitorMessage) (put : IsQueuedMessage (record { link = x; message = msg }) m.outboxes m2.outboxes) (same_said : (l : ℕ) (f : Frag) → Has f (said2 l) → Has f (said l)) where
    refused_then : ((c : Circuit) (reason : ℕ) → msg ≡ CircuitRefused c reason → IsFree m2.circuits x.0 c.0)
        → (l : ℕ) (f : Frag) (c : Circuit) (reason : ℕ) → Has f (said2 l) ⊎ Has f (waiting_for m2.outboxes l) → Says f (CircuitRefused c reason) → IsFree m2.circuits l c.0
    refused_then new l f c reason (inl h) says_it = refused_still l f c reason (inl (same_said l f h)) says_it
    refused_then new l f c reason (inr h) says_it =
        elim (waits f m.outboxes x.0 (put.outbox ++ put.frag ∷ []) l (subst (λ (boxes : List (List Frag)). Has f (waiting_for boxes l)) put.more h)) [
          | inl old ↦ refused_still l f c reason (inr old) says_it
          | inr p ↦ elim (has_split f put.outbox (put.frag ∷ []) p.1) [
            | inl old ↦ refused_still l f c reason (inr (subst (λ (o : Option (List Frag)). Has f (given o [] (λ b. b))) (sym (ap (slice_get m.outboxes) p.0 ∙ put.there)) old)) says_it
            | inr one ↦ elim one [
              | inl same ↦ subst (λ (k : ℕ). IsFree m2.circuits k c.0) (sym p.0)
                  (new c reason (says_no_other put.frag msg (CircuitRefused c reason) (says_what_is_written put.frag msg put.is.widths put.is.written)
                  (says_the_same f put.frag (CircuitRefused c reason) (ap bare same) says_it)))
              | inr none ↦ absurd none
            ]
          ]
        ]

-- ---- a message that is heard

pub no_asked : (c d : Circuit) (b r : ℕ) (s : IRef) (p : List CoreId) → OpenCircuit c b s p ≡ CircuitRefused d r → ⊥
no_asked c d b r s p is = cc

no_opened : (c d : Circuit) (r : ℕ) → CircuitOpened c ≡ CircuitRefused d r → ⊥
no_opened c d r is = cc

went_back : (c : Circuit) (b : ℕ) (way : HopTarget) (k : ℕ) (r : ℕ) → OpeningFailed k r ≡ opened_at c b way → ⊥
went_back c b (Link x d) k r is = cc
went_back c b (End e) k r is = cc

back_to : (reason b : ℕ) (way : HopTarget) (k : ℕ) (x : LinkId) (d : Circuit) → AnswerWentOn k x d ≡ refused_at reason b way → way ≡ Link x d
back_to reason b (Link y e) k x d is = (let one : y ≡ x = cc in let two : e ≡ d = cc in ap (λ (z : LinkId). Link z e) one ∙ ap (Link x) two)
back_to reason b (End e) k x d is = absurd (cc)

module _ (said heard heard2 : ℕ → List Frag) (m m2 : TheMonitor) (before : Sound m.circuits) (sound : Sound m2.circuits) (later : Later m.circuits m2.circuits)
    (named : AreRefused said heard m) (more : (l : ℕ) (f : Frag) → Has f (heard l) → Has f (heard2 l)) where
  abbrev t : TheCircuits
  t = m.circuits

  abbrev Refused : Type 0
  Refused = (k : ℕ) (f : Frag) (c : Circuit) (reason : ℕ) → Has f (said k) ⊎ Has f (waiting_for m2.outboxes k) → Says f (CircuitRefused c reason) → IsFree m2.circuits k c.0

  abbrev Gone : Type 0
  Gone = (k n : ℕ) → OpenedHere m2.circuits k n → hop_at m2.circuits k n ≡ None → IsRefusedIn (heard2 k) n

  pub quiet : (x : LinkId) (msg : MonitorMessage) → ((c : Circuit) (r : ℕ) → msg ≡ CircuitRefused c r → ⊥) → IsQueuedMessage (record { link = x; message = msg }) m.outboxes m2.outboxes → Refused
  quiet x msg none put = refused_then said heard said heard2 m m2 later named more x msg put (λ k f h. h) (λ c r is. absurd (none c r is))

  silent : m2.outboxes ≡ m.outboxes → Refused
  silent same k f c reason has says_it =
      refused_still said heard said heard2 m m2 later named more k f c reason
      (elim has [ inl h ↦ inl h | inr h ↦ inr (subst (λ (boxes : List (List Frag)). Has f (waiting_for boxes k)) same h) ]) says_it

  -- no entry is taken away, and numbers that are new have theirs
  pub gone_as_before : ((k n : ℕ) → OpenedHere m2.circuits k n → hop_at m2.circuits k n ≡ None → OpenedHere t k n) → ((k n : ℕ) → hop_at m2.circuits k n ≡ None → hop_at t k n ≡ None) → Gone
  gone_as_before here none k n opened_is none_is = gone_still said heard said heard2 m m2 later named more k n (here k n opened_is none_is) (none k n none_is)

  -- ---- an opening

  small_next : (x : LinkId) (d : Circuit) (next : Next t.core t.links x.0 d.0) → (d.0 ≤ 2046) × (x.0 < length t.links)
  small_next x d next =
      let few : next.link.opened ≤ 1022 = next.few in
      ((small t.core next.link.neighbour.0 (next.link.opened + 1) d.0 (omega (arith, few)) (next.link.opened, omega arith, sym next.is)).1, within t.links x.0 next.link next.there)

  module _ (l : LinkId) (c : Circuit) (binding : ℕ) (due : next_due t l.0 ≡ Some c.0) where
    none_due : hop_at t l.0 c.0 ≡ None
    none_due = by (hop_at t l.0 c.0) refl where
      by : (o : Option Hop) → hop_at t l.0 c.0 ≡ o → o ≡ None
      by None at = refl
      by (Some h) at = absurd (never_due t.core t.links before.apart l.0 c.0 (due_is t.core t.links l.0 c.0 due) (given_there t l.0 c.0 h before at))

    pub opening_refused : (service : IRef) (path : List CoreId) (h : MessageOutcome) → IsNext t h → m2.circuits ≡ table_of_opening t l c binding h
        → AllSaid (says l (OpenCircuit c binding service path) h) m.outboxes m2.outboxes → Refused × Gone
    opening_refused service path (OpeningWentOn b x d) next is put = (
      quiet x (OpenCircuit d binding service path) (λ e r same. no_asked d e binding r service path same) put,
      gone_as_before (λ k n here none. opened_here k n (subst (λ (v : TheCircuits). OpenedHere v k n) is here) (sym (ap (λ (v : TheCircuits). hop_at v k n) is) ∙ none))
          (λ k n none. none_before (after_opening (after_taking t l.0) x.0) binding false (Link l c) (Link x d) k n (sym (ap (λ (v : TheCircuits). hop_at v k n) is) ∙ none)),
    ) where
      own : Next t.core t.links x.0 d.0
      own = next_is t.core t.links x.0 d.0 next

      stands_now : hop_at (passed_on t l c x d binding) x.0 d.0 ≡ leading binding false (Link l c)
      stands_now =
          last_stands (after_opening (after_taking t l.0) x.0) (put_at (Link l c) (leading binding false (Link x d)) t.hops) x d (leading binding false (Link l c)) (length t.links)
          (put_long (Link l c) (leading binding false (Link x d)) t.hops ∙ before.whole) (small_next x d own).1 (small_next x d own).0

      opened_here : (k n : ℕ) → IsOpened t.core (count_opening (count_taking t.links l.0) x.0) k n → hop_at (passed_on t l c x d binding) k n ≡ None → OpenedHere t k n
      opened_here k n y none = elim (opened_before t.core (count_taking t.links l.0) x.0 k n (slice_get (count_taking t.links l.0) x.0) refl y) [
        | inl old ↦ opened_still t.core t.links l.0 k n (slice_get t.links l.0) refl old
        | inr new ↦
            (let number_is = newest_next t.core (count_taking t.links l.0) x.0 k n d.0 (next_still t.core t.links l.0 x.0 d.0 own) new in
            let there : hop_at (passed_on t l c x d binding) k n ≡ leading binding false (Link l c) =
            ap (λ (i : ℕ). hop_at (passed_on t l c x d binding) i n) new.link_is ∙ ap (hop_at (passed_on t l c x d binding) x.0) number_is ∙ stands_now in
            let clash : leading binding false (Link l c) ≡ None = sym there ∙ none in absurd (cc))
      ]
    opening_refused service path (ServerMade b e x) next is put = (
      quiet l (CircuitOpened x) (λ d r same. no_opened x d r same) put,
      gone_as_before (λ k n here none. opened_still t.core t.links l.0 k n (slice_get t.links l.0) refl (subst (λ (v : TheCircuits). OpenedHere v k n) is here))
          (λ k n none. none_before (after_taking t l.0) binding false (Link l c) (End (record { binding = binding; side = Server })) k n (sym (ap (λ (v : TheCircuits). hop_at v k n) is) ∙ none)),
    )
    opening_refused service path (OpeningFailed b reason) next is put = (
      refused_then said heard said heard2 m m2 later named more l (CircuitRefused c reason) put (λ k f h. h)
          (λ d r same. subst (λ (i : Circuit). IsFree m2.circuits l.0 i.0) (refused_parts c d reason r same) (record {
            there = subst (λ (v : TheCircuits). OpenedThere v l.0 c.0) (sym is) (taken_new t.core t.links l.0 c.0 (due_is t.core t.links l.0 c.0 due));
            none = ap (λ (v : TheCircuits). hop_at v l.0 c.0) is ∙ none_due;
          })),
      gone_as_before (λ k n here none. opened_still t.core t.links l.0 k n (slice_get t.links l.0) refl (subst (λ (v : TheCircuits). OpenedHere v k n) is here))
          (λ k n none. sym (ap (λ (v : TheCircuits). hop_at v k n) is) ∙ none),
    )
    opening_refused service path (AnswerWentOn b x d) next is put = absurd next
    opening_refused service path (EndOpened e x) next is put = absurd next
    opening_refused service path (EndRefused e reason) next is put = absurd next

  -- ---- an answer

  opened_said : (l : LinkId) (c : Circuit) (b : ℕ) (way : HopTarget) (h : MessageOutcome) → h ≡ opened_at c b way → AllSaid (says l (CircuitOpened c) h) m.outboxes m2.outboxes → Refused
  opened_said l c b way (OpeningWentOn k x d) is put = quiet x (CircuitOpened d) (λ e r same. no_opened d e r same) put
  opened_said l c b way (ServerMade k e x) is put = quiet l (CircuitOpened x) (λ d r same. no_opened x d r same) put
  opened_said l c b way (OpeningFailed k reason) is put = absurd (went_back c b way k reason is)
  opened_said l c b way (AnswerWentOn k x d) is put = quiet x (CircuitOpened d) (λ e r same. no_opened d e r same) put
  opened_said l c b way (EndOpened e x) is put = silent put
  opened_said l c b way (EndRefused e reason) is put = silent put

  -- ---- a refusal

  module _ (l : LinkId) (c : Circuit) (hop : Hop) (waits_there : IsWaiting t l.0 c.0 hop) (is : m2.circuits ≡ without_entry t (Link l c) hop.way) where
    leads : (way : HopTarget) → hop.way ≡ way → Leads t l.0 c.0 hop.binding way
    leads way same = record { answered = hop.answered; there = waits_there.there ∙ ap (λ (x : HopTarget). leading hop.binding hop.answered x) same }

    -- the number on its other side is a neighbour's
    far_there : (x : LinkId) (d : Circuit) → hop.way ≡ Link x d → OpenedThere t x.0 d.0
    far_there x d same = elim (before.toward l.0 c.0 hop.binding (Link x d) (leads (Link x d) same)) [
      | inl p ↦ p.1
      | inr p ↦ absurd (numbers_apart t before l.0 c.0 waits_there.here p.0)
    ]

    far_free : (x : LinkId) (d : Circuit) → hop.way ≡ Link x d → IsFree m2.circuits x.0 d.0
    far_free x d same = record {
      there = subst (λ (v : TheCircuits). OpenedThere v x.0 d.0) (sym is) (far_there x d same);
      none = ap (λ (v : TheCircuits). hop_at v x.0 d.0) is ∙ ap (λ (w : HopTarget). hop_at (without_entry t (Link l c) w) x.0 d.0) same
          ∙ put_none_here (with_hops t (put_at (Link l c) None t.hops)) x d;
    }

    refusal_said : (r : ℕ) (h : MessageOutcome) → h ≡ refused_at r hop.binding hop.way → AllSaid (says l (CircuitRefused c r) h) m.outboxes m2.outboxes → Refused
    refusal_said r (AnswerWentOn k x d) comes put =
        refused_then said heard said heard2 m m2 later named more x (CircuitRefused d r) put (λ i f h. h)
        (λ e q same. subst (λ (i : Circuit). IsFree m2.circuits x.0 i.0) (refused_parts d e r q same) (far_free x d (back_to r hop.binding hop.way k x d comes)))
    refusal_said r (EndOpened e x) comes put = silent put
    refusal_said r (EndRefused e reason) comes put = silent put
    refusal_said r (OpeningWentOn k x d) comes put = absurd (by hop.way comes) where
      by : (way : HopTarget) → OpeningWentOn k x d ≡ refused_at r hop.binding way → ⊥
      by (Link y e) same = cc
      by (End e) same = cc
    refusal_said r (ServerMade k e x) comes put = absurd (by hop.way comes) where
      by : (way : HopTarget) → ServerMade k e x ≡ refused_at r hop.binding way → ⊥
      by (Link y d) same = cc
      by (End d) same = cc
    refusal_said r (OpeningFailed k reason) comes put = absurd (by hop.way comes) where
      by : (way : HopTarget) → OpeningFailed k reason ≡ refused_at r hop.binding way → ⊥
      by (Link y e) same = cc
      by (End e) same = cc

    -- where one of this core's own is gone, it is that number's
    small_at : (k n : ℕ) (h : Hop) → hop_at t k n ≡ Some h → n ≤ 2046
    small_at k n h at = elim (given_there t k n h before at) [
      | inl o ↦ (small t.core o.link.neighbour.0 o.link.opened n (before.counts k o.link o.there).0 o.among).1
      | inr o ↦ (small o.link.neighbour.0 t.core o.link.taken n (before.counts k o.link o.there).1 o.among).1
    ]

    still : (k n : ℕ) (h : Hop) → OpenedHere t k n → hop_at t k n ≡ Some h → (slot k n ≡ slot l.0 c.0 → ⊥) → (way : HopTarget) → hop.way ≡ way → hop_at (without_entry t (Link l c) way) k n ≡ hop_at t k n
    still k n h here at other (End e) same = put_other t (Link l c) None k n other
    still k n h here at other (Link x d) same =
        let back = before.both l x c d hop.binding (leads (Link x d) same) in
        put_other (with_hops t (put_at (Link l c) None t.hops)) (Link x d) None k n
        (λ slots. (let (a, b) = slot_once k n x.0 d.0 slots (small_at k n h at) (small_at x.0 d.0 _ back.there) in
        numbers_apart t before k n here (subst (λ (i : ℕ). OpenedThere t i n) (sym a) (subst (λ (i : ℕ). OpenedThere t x.0 i) (sym b) (far_there x d same)))))
        ∙ put_other t (Link l c) None k n other

    refusal_gone : IsRefusedIn (heard2 l.0) c.0 → Gone
    refusal_gone heard_it k n here none = by (hop_at t k n) refl where
      here_t : OpenedHere t k n
      here_t = subst (λ (v : TheCircuits). OpenedHere v k n) is here

      by : (o : Option Hop) → hop_at t k n ≡ o → IsRefusedIn (heard2 k) n
      by None at = gone_still said heard said heard2 m m2 later named more k n here_t at
      by (Some h) at = elim (cases_eq (slot k n) (slot l.0 c.0)) [
        | inl same ↦ (let (a, b) = slot_once k n l.0 c.0 same (small_at k n h at) (small_at l.0 c.0 hop waits_there.there) in
            subst (λ (i : ℕ). IsRefusedIn (heard2 i) n) (sym a) (subst (λ (i : ℕ). IsRefusedIn (heard2 l.0) i) (sym b) heard_it))
        | inr other ↦ (let clash : Some h ≡ None = sym at ∙ sym (still k n h here_t at other hop.way refl) ∙ sym (ap (λ (v : TheCircuits). hop_at v k n) is) ∙ none in absurd (cc))
      ]

  pub hears_refused : (l : LinkId) (kn : Known) (frag : Frag) (msg : MonitorMessage) (h : MessageOutcome) → Has frag (heard2 l.0) → Says frag msg → ComesTo kn t l msg h
      → m2.circuits ≡ table_after t l msg h → AllSaid (says l msg h) m.outboxes m2.outboxes → AreRefused said heard2 m2
  hears_refused l kn frag (OpenCircuit c binding service path) h has says_it comes is put =
      let o : Opening = record { binding = binding; service = service; path = path } in
      let both = opening_refused l c binding (due_in_place kn t l c o comes.0) service path h (opening_next kn t l.0 c o h comes.1) is put in
      record { refused = both.0; gone = both.1 }
  hears_refused l kn frag (CircuitOpened c) h has says_it (hop, waits_there, comes) is put =
      let u : m2.circuits ≡ answered t l c hop = is ∙ ap (λ (o : Option Hop). given o t λ x. answered t l c x) waits_there.there in
      record {
        refused = opened_said l c hop.binding hop.way h comes put;
        gone = gone_as_before (λ k n here none. subst (λ (v : TheCircuits). OpenedHere v k n) u here)
            (λ k n none. none_before t hop.binding true hop.way (Link l c) k n (sym (ap (λ (v : TheCircuits). hop_at v k n) u) ∙ none));
      }
  hears_refused l kn frag (CircuitRefused c r) h has says_it (hop, waits_there, comes) is put =
      let u : m2.circuits ≡ without_entry t (Link l c) hop.way = is ∙ ap (λ (o : Option Hop). given o t λ x. without_entry t (Link l c) x.way) waits_there.there in
      record {
        refused = refusal_said l c hop waits_there u r h comes put;
        gone = refusal_gone l c hop waits_there u (record { frag = frag; has = has; circuit = c; number = refl; reason = r; says = says_it });
      }
