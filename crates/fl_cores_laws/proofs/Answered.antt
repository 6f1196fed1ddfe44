-- What a monitor says and hears of open circuits, and which openings were answered.
use Rattle.std.proofs.Common.{◌≡◌, ◌⊎◌, inl, inr, refl, sym, ap, ◌∙◌, subst, ℕ, zero, suc, ◌+◌, ◌*◌, ◌<◌, ◌≤◌, nat_lt, if◌then◌else◌, Bool, true, false, List, [], ◌∷◌, ◌++◌, length, slice_get, slice_set, slice_index_or}
use Rattle.std.proofs.Common.{Option, Some, None, option_map, arith}
use Rattle.std.proofs.lemmas.Bool.{cases_eq}
use Rattle.std.proofs.lemmas.Bool.Decides.{nat_tests}
use Rattle.fl_base.specs.declared.fragment.Frag.{Frag}
use Rattle.fl_base.specs.declared.identity.IRef.{IRef}
use Rattle.fl_base.specs.declared.identity.CoreId.{CoreId}
use Rattle.fl_base.specs.declared.identity.EndId.{EndId}
use Rattle.fl_base.specs.declared.identity.Side.TheVariants.{Client, Server}
use Rattle.fl_base.specs.declared.identity.LinkId.{LinkId}
use Rattle.fl_base.specs.declared.identity.Circuit.{Circuit}
use Rattle.fl_base.specs.Control.{bare}
use Rattle.fl_base.specs.Given.{given}
use Rattle.fl_hop.specs.declared.entry.Hop.{Hop}
use Rattle.fl_hop.specs.declared.entry.HopTarget.{HopTarget}
use Rattle.fl_hop.specs.declared.entry.HopTarget.TheVariants.{Link, End}
use Rattle.fl_hop.specs.declared.links.LinkState.{LinkState}
use Rattle.fl_hop.specs.Joined.{Sound, Leads}
use Rattle.fl_hop.specs.Later.{Later, way_at}
use Rattle.fl_hop.specs.Numbers.{Given, OpenedHere, OpenedThere, next_own, next_due, after_opening, after_taking}
use Rattle.fl_hop.specs.Openings.{IsWaiting, opened as opened_table, answered}
use Rattle.fl_hop.specs.Table.{TheCircuits, slot, hop_at, put_at, with_hops, with_links, with_entry, without_entry, leading}
use Rattle.fl_hop.proofs.Answering.{numbers_apart}
use Rattle.fl_hop.proofs.Cells.{slot_once}
use Rattle.fl_hop.proofs.Counting.{Next, Due, next_is, due_is, never_next, never_due}
use Rattle.fl_hop.proofs.Entering.{IsSlot}
use Rattle.fl_hop.proofs.Laters.{put_other, put_none}
use Rattle.fl_hop.proofs.Lists.{set_here, at_within, index_there, within}
use Rattle.fl_hop.proofs.Numbering.{small}
use Rattle.fl_monitor.specs.declared.opening.Opening.{Opening}
use Rattle.fl_monitor.specs.declared.heard.MessageOutcome.{MessageOutcome}
use Rattle.fl_monitor.specs.declared.heard.MessageOutcome.TheVariants.{OpeningWentOn, ServerMade, OpeningFailed, AnswerWentOn, EndOpened, EndRefused}
use Rattle.fl_monitor.specs.declared.message.MonitorMessage.{MonitorMessage}
use Rattle.fl_monitor.specs.declared.message.MonitorMessage.TheVariants.{OpenCircuit, CircuitOpened, CircuitRefused}
use Rattle.fl_monitor.specs.Fates.{Known}
use Rattle.fl_monitor.specs.Hearing.{ComesTo, opened_at, refused_at, says, after_opening as table_of_opening, table_after}
use Rattle.fl_monitor.specs.Monitors.{TheMonitor, AllSaid, IsQueuedMessage, waiting_for}
use Rattle.fl_monitor.specs.Saying.{Says}
use Rattle.fl_monitor.proofs.Single.{says_no_other, says_the_same, says_what_is_written}
use Rattle.fl_core.specs.View.{server_of}
use Rattle.fl_core_run_laws.specs.Led.{IsSettled}
use Rattle.fl_core_run_laws.proofs.Tables.{GoesOn, OneNew, way_of, leads_at, stands_there, ways_alike, opened_goes}
use Rattle.fl_core_run_laws.proofs.TablesHeard.{new_by, heard_goes, server_made}
use Rattle.fl_cores_laws.specs.Named.{Has}
use Rattle.fl_cores_laws.specs.Answered.{IsOpenedIn, IsAnswered, IsOpenWay, IsOpen, AreAnswered}
use Rattle.fl_cores_laws.proofs.Bound.{given_there}
use Rattle.fl_cores_laws.proofs.Named.{IsNext, opening_next, due_in_place, has_split, waits}

-- ---- look-ups

one_hop : (o : Option Hop) (a b : Hop) → o ≡ Some a → o ≡ Some b → a ≡ b
one_hop o a b p q = cc

set_index : (xs : List (Option Hop)) (i j : ℕ) (o : Option Hop) → (slice_index_or (slice_set xs i o) j None ≡ o) ⊎ (slice_index_or (slice_set xs i o) j None ≡ slice_index_or xs j None)
set_index [] i j o = inr refl
set_index (x ∷ xs) zero zero o = inl refl
set_index (x ∷ xs) zero (suc j) o = inr refl
set_index (x ∷ xs) (suc i) zero o = inr refl
set_index (x ∷ xs) (suc i) (suc j) o = set_index xs i j o

-- where one number changed: what was put stands there, or what stood before
put_or : (t : TheCircuits) (way : HopTarget) (o : Option Hop) (l n : ℕ)
    → (hop_at (with_hops t (put_at way o t.hops)) l n ≡ o) ⊎ (hop_at (with_hops t (put_at way o t.hops)) l n ≡ hop_at t l n)
put_or t (End e) o l n = inr refl
put_or t (Link m d) o l n = by (nat_lt n 2047) where
  by : (b : Bool) → ((if b then slice_index_or (slice_set t.hops (slot m.0 d.0) o) (slot l n) None else None) ≡ o)
      ⊎ ((if b then slice_index_or (slice_set t.hops (slot m.0 d.0) o) (slot l n) None else None) ≡ (if b then slice_index_or t.hops (slot l n) None else None))
  by true = set_index t.hops (slot m.0 d.0) (slot l n) o
  by false = inr refl

-- the last thing put stands
set_long : (xs : List (Option Hop)) (i : ℕ) (o : Option Hop) → length (slice_set xs i o) ≡ length xs
set_long [] i o = refl
set_long (x ∷ xs) zero o = refl
set_long (x ∷ xs) (suc i) o = ap suc (set_long xs i o)

put_long : (way : HopTarget) (o : Option Hop) (xs : List (Option Hop)) → length (put_at way o xs) ≡ length xs
put_long (Link l c) o xs = set_long xs (slot l.0 c.0) o
put_long (End e) o xs = refl

test_true : (b : Bool) (o p : Option Hop) → b ≡ true → (if b then o else p) ≡ o
test_true true o p is = refl
test_true false o p is = absurd (cc)

less_true : (a b : ℕ) → a < b → nat_lt a b ≡ true
less_true a b less = grind (arith, nat_tests, less)

last_stands : (t : TheCircuits) (hops : List (Option Hop)) (m : LinkId) (d : Circuit) (o : Option Hop) (links : ℕ) → length hops ≡ 2047 * links → m.0 < links → d.0 ≤ 2046
    → hop_at (with_hops t (put_at (Link m d) o hops)) m.0 d.0 ≡ o
last_stands t hops m d o links long within few =
    let (old, there) = at_within hops (slot m.0 d.0) (omega (arith, long, within, few)) in
    test_true (nat_lt d.0 2047) _ None (less_true d.0 2047 (omega (arith, few)))
    ∙ index_there (slice_set hops (slot m.0 d.0) o) (slot m.0 d.0) None o (set_here hops (slot m.0 d.0) old o there)

was_here : (t u : TheCircuits) (l n : ℕ) → Sound u → Later t u → Given t l n → OpenedHere u l n → OpenedHere t l n
was_here t u l n sound later (inl before) here = before
was_here t u l n sound later (inr there) here = absurd (numbers_apart u sound l n here (later.there l n there))

answered_is : (binding : ℕ) (ok : Bool) (way : HopTarget) (h : Hop) → leading binding ok way ≡ Some h → h.answered ≡ ok
answered_is binding ok way h is = let same : record { binding = binding; way = way; answered = ok } ≡ h = cc in sym (ap (λ (x : Hop). x.answered) same)

no_false : true ≡ false → ⊥
no_false e = absurd (cc)

-- ---- what becomes of answered openings

-- those that were answered are so still, and what is answered then was before, or is new
pub record Answers (new : ℕ → ℕ → Type 0) (t u : TheCircuits) : Type 0 where
  pub stays : (l n : ℕ) → OpenedHere t l n → IsAnswered t l n → IsAnswered u l n
  pub came : (l n : ℕ) → OpenedHere u l n → IsAnswered u l n → IsAnswered t l n ⊎ new l n

abbrev pub NoNew : ℕ → ℕ → Type 0
NoNew l n = ⊥

abbrev pub New : ℕ → ℕ → ℕ → ℕ → Type 0
New m c l n = (l ≡ m) × (n ≡ c)

-- links that changed, and nothing else
links_answer : (t : TheCircuits) (links : List LinkState) → Answers NoNew t (with_links t links)
links_answer t links = record {
  stays = λ l n here a. record { hop = a.hop; there = a.there; yes_is = a.yes_is };
  came = λ l n here a. inl (record { hop = a.hop; there = a.there; yes_is = a.yes_is });
}

-- ---- a new entry

abbrev IsFresh : TheCircuits → HopTarget → Type 0
IsFresh t (Link l c) = (c.0 ≤ 2046) × (Given t l.0 c.0 → ⊥)
IsFresh t (End e) = Unit {0}

fresh_slot : (t : TheCircuits) (way : HopTarget) (l n : ℕ) (h : Hop) → IsFresh t way → Given t l n → hop_at t l n ≡ Some h → IsSlot way (slot l n) → ⊥
fresh_slot t (Link m d) l n h new given at e =
    let (a, b) = slot_once l n m.0 d.0 e (stands_there t l n h at).0 new.0 in
    new.1 (subst (λ (x : ℕ). Given t x d.0) a (subst (λ (x : ℕ). Given t l x) b given))
fresh_slot t (End f) l n h new given at e = e

entry_answers : (t : TheCircuits) (links : List LinkState) (binding : ℕ) (a b : HopTarget) → IsFresh t a → IsFresh t b → Answers NoNew t (with_entry (with_links t links) binding false a b)
entry_answers t links binding a b x y = record {
  stays = λ l n here k. record {
    hop = k.hop;
    there = put_other first b (leading binding false a) l n (fresh_slot t b l n k.hop y (inl here) k.there)
        ∙ put_other (with_links t links) a (leading binding false b) l n (fresh_slot t a l n k.hop x (inl here) k.there) ∙ k.there;
    yes_is = k.yes_is;
  };
  came = λ l n here k. inl (record { hop = k.hop; there = old l n k; yes_is = k.yes_is });
} where
  first : TheCircuits
  first = with_hops (with_links t links) (put_at a (leading binding false b) t.hops)

  old : (l n : ℕ) → (k : IsAnswered (with_entry (with_links t links) binding false a b) l n) → hop_at t l n ≡ Some k.hop
  old l n k = elim (put_or first b (leading binding false a) l n) [
    | inl new ↦ absurd (no_false (sym k.yes_is ∙ answered_is binding false a k.hop (sym new ∙ k.there)))
    | inr same ↦ elim (put_or (with_links t links) a (leading binding false b) l n) [
      | inl new ↦ absurd (no_false (sym k.yes_is ∙ answered_is binding false b k.hop (sym new ∙ sym same ∙ k.there)))
      | inr too ↦ sym too ∙ sym same ∙ k.there
    ]
  ]

next_fresh : (t : TheCircuits) (l : LinkId) (c : Circuit) → Sound t → next_own t l.0 ≡ Some c.0 → IsFresh t (Link l c)
next_fresh t l c k h =
    let next : Next t.core t.links l.0 c.0 = next_is t.core t.links l.0 c.0 h in
    let few : next.link.opened ≤ 1022 = next.few in
    let p = small t.core next.link.neighbour.0 (next.link.opened + 1) c.0 (omega (arith, few)) (next.link.opened, omega arith, sym next.is) in
    (p.1, never_next t.core t.links k.apart l.0 c.0 next)

due_fresh : (t : TheCircuits) (l : LinkId) (c : Circuit) → Sound t → next_due t l.0 ≡ Some c.0 → IsFresh t (Link l c)
due_fresh t l c k h =
    let due : Due t.core t.links l.0 c.0 = due_is t.core t.links l.0 c.0 h in
    let few : due.link.taken ≤ 1022 = due.few in
    let p = small due.link.neighbour.0 t.core (due.link.taken + 1) c.0 (omega (arith, few)) (due.link.taken, omega arith, sym due.is) in
    (p.1, never_due t.core t.links k.apart l.0 c.0 due)

pub asked_answers : (t : TheCircuits) (l : LinkId) (c : Circuit) (binding : ℕ) → Sound t → next_own t l.0 ≡ Some c.0 → Answers NoNew t (opened_table t l c binding)
asked_answers t l c binding k next = entry_answers t (after_opening t l.0).links binding (End (record { binding = binding; side = Client })) (Link l c) tt (next_fresh t l c k next)

-- ---- an entry that is answered, or refused

module _ (t : TheCircuits) (before : Sound t) (l : LinkId) (c : Circuit) (hop : Hop) (waits_there : IsWaiting t l.0 c.0 hop) where
  leads : (way : HopTarget) → hop.way ≡ way → Leads t l.0 c.0 hop.binding way
  leads way same = leads_at t l.0 c.0 hop way waits_there.there same

  -- the number on its other side is a neighbour's
  pub far_there : (x : LinkId) (d : Circuit) → hop.way ≡ Link x d → OpenedThere t x.0 d.0
  far_there x d same = elim (before.toward l.0 c.0 hop.binding (Link x d) (leads (Link x d) same)) [
    | inl p ↦ p.1
    | inr p ↦ absurd (numbers_apart t before l.0 c.0 waits_there.here p.0)
  ]

  small_here : c.0 ≤ 2046
  small_here = (stands_there t l.0 c.0 hop waits_there.there).0

  -- one of this core's own isn't on that side
  not_far : (way : HopTarget) → hop.way ≡ way → (k n : ℕ) → OpenedHere t k n → n ≤ 2046 → IsSlot way (slot k n) → ⊥
  not_far (End e) same k n here few slots = slots
  not_far (Link x d) same k n here few slots =
      let back = before.both l x c d hop.binding (leads (Link x d) same) in
      let (a, b) = slot_once k n x.0 d.0 slots few (stands_there t x.0 d.0 _ back.there).0 in
      numbers_apart t before k n here (subst (λ (i : ℕ). OpenedThere t i n) (sym a) (subst (λ (i : ℕ). OpenedThere t x.0 i) (sym b) (far_there x d same)))

  abbrev yes_here : TheCircuits
  yes_here = answered t l c hop

  -- after the answer
  answer_answers : Sound yes_here → Answers (New l.0 c.0) t yes_here
  answer_answers sound = record { stays = stays; came = came } where
    stays : (k n : ℕ) → OpenedHere t k n → IsAnswered t k n → IsAnswered yes_here k n
    stays k n here a = elim (put_or (with_hops t (put_at hop.way (leading hop.binding true (Link l c)) t.hops)) (Link l c) (leading hop.binding true hop.way) k n) [
      | inl new ↦ record { hop = record { binding = hop.binding; way = hop.way; answered = true }; there = new; yes_is = refl }
      | inr same ↦ elim (put_or t hop.way (leading hop.binding true (Link l c)) k n) [
        | inl new ↦ record { hop = record { binding = hop.binding; way = Link l c; answered = true }; there = same ∙ new; yes_is = refl }
        | inr too ↦ record { hop = a.hop; there = same ∙ too ∙ a.there; yes_is = a.yes_is }
      ]
    ]

    came : (k n : ℕ) → OpenedHere yes_here k n → IsAnswered yes_here k n → IsAnswered t k n ⊎ New l.0 c.0 k n
    came k n here a = elim (cases_eq (slot k n) (slot l.0 c.0)) [
      | inl same ↦ inr (slot_once k n l.0 c.0 same (stands_there yes_here k n a.hop a.there).0 small_here)
      | inr other ↦ inl (record {
        hop = a.hop;
        there = sym (put_other (with_hops t (put_at hop.way (leading hop.binding true (Link l c)) t.hops)) (Link l c) (leading hop.binding true hop.way) k n other
            ∙ put_other t hop.way (leading hop.binding true (Link l c)) k n (not_far hop.way refl k n here (stands_there yes_here k n a.hop a.there).0)) ∙ a.there;
        yes_is = a.yes_is;
      })
    ]

  -- after the refusal
  refusal_answers : Answers NoNew t (without_entry t (Link l c) hop.way)
  refusal_answers = record {
    stays = λ k n here a. record {
      hop = a.hop;
      there = put_other (with_hops t (put_at (Link l c) None t.hops)) hop.way None k n (not_far hop.way refl k n here (stands_there t k n a.hop a.there).0)
          ∙ put_other t (Link l c) None k n (not_waiting k n a) ∙ a.there;
      yes_is = a.yes_is;
    };
    came = λ k n here a. inl (record { hop = a.hop; there = old k n a; yes_is = a.yes_is });
  } where
    not_waiting : (k n : ℕ) → IsAnswered t k n → slot k n ≡ slot l.0 c.0 → ⊥
    not_waiting k n a same =
        let (one, two) = slot_once k n l.0 c.0 same (stands_there t k n a.hop a.there).0 small_here in
        let is : a.hop ≡ hop = one_hop (hop_at t k n) a.hop hop a.there (ap (λ (i : ℕ). hop_at t i n) one ∙ ap (hop_at t l.0) two ∙ waits_there.there) in
        no_false (sym a.yes_is ∙ ap (λ (x : Hop). x.answered) is ∙ waits_there.unanswered)

    none_some : (k n : ℕ) (h : Hop) → hop_at (without_entry t (Link l c) hop.way) k n ≡ None → hop_at (without_entry t (Link l c) hop.way) k n ≡ Some h → ⊥
    none_some k n h none some = let clash : None ≡ Some h = sym none ∙ some in absurd (cc)

    old : (k n : ℕ) → (a : IsAnswered (without_entry t (Link l c) hop.way) k n) → hop_at t k n ≡ Some a.hop
    old k n a = elim (put_none (with_hops t (put_at (Link l c) None t.hops)) hop.way k n) [
      | inl same ↦ elim (put_none t (Link l c) k n) [
        | inl too ↦ sym (same ∙ too) ∙ a.there
        | inr gone ↦ absurd (none_some k n a.hop (same ∙ gone) a.there)
      ]
      | inr gone ↦ absurd (none_some k n a.hop gone a.there)
    ]

  -- the number of the neighbour's that is on its other side is open then
  far_open : Sound yes_here → (x : LinkId) (d : Circuit) → hop.way ≡ Link x d → IsOpen yes_here x.0 d.0
  far_open sound x d same = record {
    there = far_there x d same;
    hop = record { binding = hop.binding; way = Link l c; answered = back.answered };
    stands = back.there;
    way = record { hop = record { binding = hop.binding; way = hop.way; answered = true }; there = here_now; yes_is = refl };
  } where
    here_now : hop_at yes_here l.0 c.0 ≡ leading hop.binding true hop.way
    here_now =
        last_stands t (put_at hop.way (leading hop.binding true (Link l c)) t.hops) l c (leading hop.binding true hop.way) (length t.links)
        (put_long hop.way (leading hop.binding true (Link l c)) t.hops ∙ before.whole) (within t.links l.0 waits_there.here.link waits_there.here.there) small_here

    back : Leads yes_here x.0 d.0 hop.binding (Link l c)
    back = sound.both l x c d hop.binding (record { answered = true; there = here_now ∙ ap (λ (w : HopTarget). leading hop.binding true w) same })

-- ---- what is open stays open

module _ (t u : TheCircuits) (before : Sound t) (sound : Sound u) (later : Later t u)
    (ends : (l n : ℕ) (e : EndId) → IsSettled t l n e → IsSettled u l n e) (stays : (l n : ℕ) → OpenedHere t l n → IsAnswered t l n → IsAnswered u l n) where
  way_kept : (l n : ℕ) (h : Hop) (way : HopTarget) → Given t l n → way_at t l n ≡ Some way → hop_at u l n ≡ Some h → h.way ≡ way
  way_kept l n h way given was now = elim (later.kept l n given) [
    | inl same ↦ (let both : Some h.way ≡ Some way = sym (way_of u l n h h.way now refl) ∙ ways_alike t u l n same ∙ was in cc)
    | inr gone ↦ absurd (let clash : Some h ≡ None = sym now ∙ gone in cc)
  ]

  pub open_stays : (l n : ℕ) → IsOpen t l n → IsOpen u l n
  open_stays l n x = by x.hop.way refl x.way where
    by : (way : HopTarget) → x.hop.way ≡ way → IsOpenWay t way → IsOpen u l n
    by (End e) is open_is =
        let s = ends l n e (record { hop = x.hop; there = x.stands; way = is; for_good = inr x.there }) in
        record { there = later.there l n x.there; hop = s.hop; stands = s.there; way = subst (IsOpenWay u) (sym s.way) tt }
    by (Link m d) is a =
        let leads = leads_at t l n x.hop (Link m d) x.stands is in
        let own : OpenedHere t m.0 d.0 = elim (before.toward l n x.hop.binding (Link m d) leads) [
          | inl p ↦ absurd (numbers_apart t before l n p.0 x.there)
          | inr p ↦ p.1
        ] in
        let a2 = stays m.0 d.0 own a in
        let back = before.both (record { 0 = l }) m (record { 0 = n }) d x.hop.binding leads in
        let was : way_at t m.0 d.0 ≡ Some (Link (record { 0 = l }) (record { 0 = n })) = ap (option_map (λ (h : Hop). h.way)) back.there in
        let way = way_kept m.0 d.0 a2.hop (Link (record { 0 = l }) (record { 0 = n })) (inl own) was a2.there in
        let forth = sound.both m (record { 0 = l }) d (record { 0 = n }) a2.hop.binding (leads_at u m.0 d.0 a2.hop (Link (record { 0 = l }) (record { 0 = n })) a2.there way) in
        record {
          there = later.there l n x.there;
          hop = record { binding = a2.hop.binding; way = Link m d; answered = forth.answered };
          stands = forth.there;
          way = a2;
        }

-- ---- the monitor of before, and of afterwards

no_opened : (c d : Circuit) → CircuitOpened c ≡ CircuitOpened d → c ≡ d
no_opened c d same = cc

module _ (said heard said2 heard2 : ℕ → List Frag) (m m2 : TheMonitor) (named : AreAnswered said heard m) (more : (l : ℕ) (f : Frag) → Has f (heard l) → Has f (heard2 l))
    (open_on : (l n : ℕ) → IsOpen m.circuits l n → IsOpen m2.circuits l n) where
  answered_still : (l n : ℕ) → OpenedHere m.circuits l n → IsAnswered m.circuits l n → IsOpenedIn (heard2 l) n
  answered_still l n here yes_there =
      let a = named.answered l n here yes_there in
      record { frag = a.frag; has = more l a.frag a.has; circuit = a.circuit; number = a.number; says = a.says }

  opened_still : (l : ℕ) (f : Frag) (c : Circuit) → Has f (said l) ⊎ Has f (waiting_for m.outboxes l) → Says f (CircuitOpened c) → IsOpen m2.circuits l c.0
  opened_still l f c has says_it = open_on l c.0 (named.opened l f c has says_it)

  -- nothing new is said, and the table is as it was
  pub answers_rest : ((l : ℕ) (f : Frag) → Has f (said2 l) ⊎ Has f (waiting_for m2.outboxes l) → (g : Frag) × (bare g ≡ bare f) × (Has g (said l) ⊎ Has g (waiting_for m.outboxes l)))
      → m2.circuits ≡ m.circuits → AreAnswered said2 heard2 m2
  answers_rest from same = record {
    opened = λ l f c has says_it.
        (let (g, alike, before) = from l f has in opened_still l g c before (says_the_same f g (CircuitOpened c) alike says_it));
    answered = λ l n here yes_there.
        answered_still l n (subst (λ (t : TheCircuits). OpenedHere t l n) same here) (subst (λ (t : TheCircuits). IsAnswered t l n) same yes_there);
  }

  -- a message more is to be said; if it says that a number is open, that is so
  module _ (x : LinkId) (msg : MonitorMessage) (put : IsQueuedMessage (record { link = x; message = msg }) m.outboxes m2.outboxes) (same_said : (l : ℕ) (f : Frag) → Has f (said2 l) → Has f (said l)) where
    opened_then : ((c : Circuit) → msg ≡ CircuitOpened c → IsOpen m2.circuits x.0 c.0)
        → (l : ℕ) (f : Frag) (c : Circuit) → Has f (said2 l) ⊎ Has f (waiting_for m2.outboxes l) → Says f (CircuitOpened c) → IsOpen m2.circuits l c.0
    opened_then new l f c (inl h) says_it = opened_still l f c (inl (same_said l f h)) says_it
    opened_then new l f c (inr h) says_it =
        elim (waits f m.outboxes x.0 (put.outbox ++ put.frag ∷ []) l (subst (λ (boxes : List (List Frag)). Has f (waiting_for boxes l)) put.more h)) [
          | inl old ↦ opened_still l f c (inr old) says_it
          | inr p ↦ elim (has_split f put.outbox (put.frag ∷ []) p.1) [
            | inl old ↦ opened_still l f c (inr (subst (λ (o : Option (List Frag)). Has f (given o [] (λ b. b))) (sym (ap (slice_get m.outboxes) p.0 ∙ put.there)) old)) says_it
            | inr one ↦ elim one [
              | inl same ↦ subst (λ (k : ℕ). IsOpen m2.circuits k c.0) (sym p.0)
                  (new c (says_no_other put.frag msg (CircuitOpened c) (says_what_is_written put.frag msg put.is.widths put.is.written)
                  (says_the_same f put.frag (CircuitOpened c) (ap bare same) says_it)))
              | inr none ↦ absurd none
            ]
          ]
        ]

-- ---- a message that is heard

pub no_asked : (c d : Circuit) (b : ℕ) (s : IRef) (p : List CoreId) → OpenCircuit c b s p ≡ CircuitOpened d → ⊥
no_asked c d b s p is = cc

no_refused : (c d : Circuit) (r : ℕ) → CircuitRefused c r ≡ CircuitOpened d → ⊥
no_refused c d r is = cc

went_to : (c : Circuit) (b : ℕ) (way : HopTarget) (k : ℕ) (x : LinkId) (d : Circuit) → AnswerWentOn k x d ≡ opened_at c b way → way ≡ Link x d
went_to c b (Link y e) k x d is = (let one : y ≡ x = cc in let two : e ≡ d = cc in ap (λ (z : LinkId). Link z e) one ∙ ap (Link x) two)
went_to c b (End e) k x d is = absurd (cc)

module _ (said heard heard2 : ℕ → List Frag) (m m2 : TheMonitor) (before : Sound m.circuits) (sound : Sound m2.circuits) (named : AreAnswered said heard m)
    (more : (l : ℕ) (f : Frag) → Has f (heard l) → Has f (heard2 l)) where
  abbrev t : TheCircuits
  t = m.circuits

  abbrev Opened : Type 0
  Opened = (k : ℕ) (f : Frag) (c : Circuit) → Has f (said k) ⊎ Has f (waiting_for m2.outboxes k) → Says f (CircuitOpened c) → IsOpen m2.circuits k c.0

  abbrev Answered : Type 0
  Answered = (k n : ℕ) → OpenedHere m2.circuits k n → IsAnswered m2.circuits k n → IsOpenedIn (heard2 k) n

  module _ (open_on : (l n : ℕ) → IsOpen m.circuits l n → IsOpen m2.circuits l n) where
    pub quiet : (x : LinkId) (msg : MonitorMessage) → ((c : Circuit) → msg ≡ CircuitOpened c → ⊥) → IsQueuedMessage (record { link = x; message = msg }) m.outboxes m2.outboxes → Opened
    quiet x msg none put = opened_then said heard said heard2 m m2 named more open_on x msg put (λ k f h. h) (λ c is. absurd (none c is))

    silent : m2.outboxes ≡ m.outboxes → Opened
    silent same k f c has says_it =
        opened_still said heard said heard2 m m2 named more open_on k f c
        (elim has [ inl h ↦ inl h | inr h ↦ inr (subst (λ (boxes : List (List Frag)). Has f (waiting_for boxes k)) same h) ]) says_it

    -- of what is answered then it heard
    pub answered_then : (new : ℕ → ℕ → Type 0) → Later t m2.circuits → Answers new t m2.circuits → ((k n : ℕ) → new k n → IsOpenedIn (heard2 k) n) → Answered
    answered_then new later a heard_new k n here yes_there = elim (a.came k n here yes_there) [
      | inl old ↦ answered_still said heard said heard2 m m2 named more open_on k n (was_here t m2.circuits k n sound later (given_there t k n old.hop before old.there) here) old
      | inr one ↦ heard_new k n one
    ]

    -- ---- what is said

    opening_said : (l : LinkId) (c : Circuit) (b : ℕ) (service : IRef) (path : List CoreId) (h : MessageOutcome) → IsNext t h
        → ((k e : ℕ) (x : Circuit) → h ≡ ServerMade k e x → IsOpen m2.circuits l.0 x.0) → AllSaid (says l (OpenCircuit c b service path) h) m.outboxes m2.outboxes → Opened
    opening_said l c b service path (OpeningWentOn k x d) next made put = quiet x (OpenCircuit d b service path) (λ e same. no_asked d e b service path same) put
    opening_said l c b service path (ServerMade k e x) next made put =
        opened_then said heard said heard2 m m2 named more open_on l (CircuitOpened x) put (λ i f h. h)
        (λ d same. subst (λ (i : Circuit). IsOpen m2.circuits l.0 i.0) (no_opened x d same) (made k e x refl))
    opening_said l c b service path (OpeningFailed k reason) next made put = quiet l (CircuitRefused c reason) (λ d same. no_refused c d reason same) put
    opening_said l c b service path (AnswerWentOn k x d) next made put = absurd next
    opening_said l c b service path (EndOpened e x) next made put = absurd next
    opening_said l c b service path (EndRefused e reason) next made put = absurd next

    answer_said : (l : LinkId) (c : Circuit) (b : ℕ) (way : HopTarget) (h : MessageOutcome) → h ≡ opened_at c b way → ((x : LinkId) (d : Circuit) → way ≡ Link x d → IsOpen m2.circuits x.0 d.0)
        → AllSaid (says l (CircuitOpened c) h) m.outboxes m2.outboxes → Opened
    answer_said l c b way (AnswerWentOn k x d) is made put =
        opened_then said heard said heard2 m m2 named more open_on x (CircuitOpened d) put (λ i f h. h)
        (λ e same. subst (λ (i : Circuit). IsOpen m2.circuits x.0 i.0) (no_opened d e same) (made x d (went_to c b way k x d is)))
    answer_said l c b way (EndOpened e x) is made put = silent put
    answer_said l c b way (EndRefused e reason) is made put = silent put
    answer_said l c b way (OpeningWentOn k x d) is made put = absurd (by way is) where
      by : (w : HopTarget) → OpeningWentOn k x d ≡ opened_at c b w → ⊥
      by (Link y e) same = cc
      by (End e) same = cc
    answer_said l c b way (ServerMade k e x) is made put = absurd (by way is) where
      by : (w : HopTarget) → ServerMade k e x ≡ opened_at c b w → ⊥
      by (Link y d) same = cc
      by (End d) same = cc
    answer_said l c b way (OpeningFailed k reason) is made put = absurd (by way is) where
      by : (w : HopTarget) → OpeningFailed k reason ≡ opened_at c b w → ⊥
      by (Link y e) same = cc
      by (End e) same = cc

    refusal_said : (l : LinkId) (c : Circuit) (b r : ℕ) (way : HopTarget) (h : MessageOutcome) → h ≡ refused_at r b way → AllSaid (says l (CircuitRefused c r) h) m.outboxes m2.outboxes → Opened
    refusal_said l c b r way (AnswerWentOn k x d) is put = quiet x (CircuitRefused d r) (λ e same. no_refused d e r same) put
    refusal_said l c b r way (EndOpened e x) is put = silent put
    refusal_said l c b r way (EndRefused e reason) is put = silent put
    refusal_said l c b r way (OpeningWentOn k x d) is put = quiet x (CircuitRefused d r) (λ e same. no_refused d e r same) put
    refusal_said l c b r way (OpeningFailed k reason) is put = quiet l (CircuitRefused c reason) (λ d same. no_refused c d reason same) put
    refusal_said l c b r way (ServerMade k e x) is put = absurd (by way is) where
      by : (w : HopTarget) → ServerMade k e x ≡ refused_at r b w → ⊥
      by (Link y d) same = cc
      by (End d) same = cc

  -- ---- what becomes of the table

  opening_answers : (l : LinkId) (c : Circuit) (binding : ℕ) (h : MessageOutcome) → next_due t l.0 ≡ Some c.0 → IsNext t h → Answers NoNew t (table_of_opening t l c binding h)
  opening_answers l c binding (OpeningWentOn b x d) due next =
      entry_answers t (after_opening (after_taking t l.0) x.0).links binding (Link l c) (Link x d) (due_fresh t l c before due) (next_fresh t x d before next)
  opening_answers l c binding (ServerMade b e x) due next =
      entry_answers t (after_taking t l.0).links binding (Link l c) (End (record { binding = binding; side = Server })) (due_fresh t l c before due) tt
  opening_answers l c binding (OpeningFailed b reason) due next = links_answer t (after_taking t l.0).links
  opening_answers l c binding (AnswerWentOn b x d) due next = absurd next
  opening_answers l c binding (EndOpened e x) due next = absurd next
  opening_answers l c binding (EndRefused e reason) due next = absurd next

  -- a server's end that was made is open at the number that it answers
  made_open : (kn : Known) (l : LinkId) (msg : MonitorMessage) (k e : ℕ) (x : Circuit) → ComesTo kn t l msg (ServerMade k e x) → m2.circuits ≡ table_after t l msg (ServerMade k e x) → IsOpen m2.circuits l.0 x.0
  made_open kn l msg k e x comes is =
      let s : IsSettled m2.circuits l.0 x.0 (server_of k) = subst (λ (v : TheCircuits). IsSettled v l.0 x.0 (server_of k)) (sym is) (server_made kn t l msg k e x before comes).settled in
      record {
        there = elim (sound.toward l.0 x.0 s.hop.binding (End (server_of k)) (leads_at m2.circuits l.0 x.0 s.hop (End (server_of k)) s.there s.way)) [
          | inl p ↦ absurd (let clash : Server ≡ Client = ap (λ (n : EndId). n.side) p.1 in cc)
          | inr p ↦ p.0
        ];
        hop = s.hop;
        stands = s.there;
        way = subst (IsOpenWay m2.circuits) (sym s.way) tt;
      }

  module _ (l : LinkId) (kn : Known) (msg : MonitorMessage) (h : MessageOutcome) (comes : ComesTo kn t l msg h) (is : m2.circuits ≡ table_after t l msg h) where
    goes : GoesOn (new_by l h) t m2.circuits
    goes = subst (GoesOn (new_by l h) t) (sym is) (heard_goes kn t l msg h before comes)

    opens_on : (new : ℕ → ℕ → Type 0) → Answers new t m2.circuits → (k n : ℕ) → IsOpen t k n → IsOpen m2.circuits k n
    opens_on new a k n x = open_stays t m2.circuits before sound goes.later goes.settled a.stays k n x

  pub hears_answered : (l : LinkId) (kn : Known) (frag : Frag) (msg : MonitorMessage) (h : MessageOutcome) → Has frag (heard2 l.0) → Says frag msg → ComesTo kn t l msg h
      → m2.circuits ≡ table_after t l msg h → AllSaid (says l msg h) m.outboxes m2.outboxes → AreAnswered said heard2 m2
  hears_answered l kn frag (OpenCircuit c binding service path) h has says_it comes is put =
      let o : Opening = record { binding = binding; service = service; path = path } in
      let next = opening_next kn t l.0 c o h comes.1 in
      let a : Answers NoNew t m2.circuits = subst (Answers NoNew t) (sym is) (opening_answers l c binding h (due_in_place kn t l c o comes.0) next) in
      let on = opens_on l kn (OpenCircuit c binding service path) h comes is NoNew a in
      record {
        opened = opening_said on l c binding service path h next
            (λ k e x same. made_open kn l (OpenCircuit c binding service path) k e x (subst (ComesTo kn t l (OpenCircuit c binding service path)) same comes)
            (is ∙ ap (table_after t l (OpenCircuit c binding service path)) same)) put;
        answered = answered_then on NoNew (goes l kn (OpenCircuit c binding service path) h comes is).later a (λ k n none. absurd none);
      }
  hears_answered l kn frag (CircuitOpened c) h has says_it comes is put =
      let (hop, waits_there, went) = comes in
      let u : m2.circuits ≡ answered t l c hop = is ∙ ap (λ (o : Option Hop). given o t λ x. answered t l c x) waits_there.there in
      let sound_u : Sound (answered t l c hop) = subst Sound u sound in
      let a : Answers (New l.0 c.0) t m2.circuits = subst (Answers (New l.0 c.0) t) (sym u) (answer_answers t before l c hop waits_there sound_u) in
      let on = opens_on l kn (CircuitOpened c) h comes is (New l.0 c.0) a in
      record {
        opened = answer_said on l c hop.binding hop.way h went
            (λ x d same. subst (λ (v : TheCircuits). IsOpen v x.0 d.0) (sym u) (far_open t before l c hop waits_there sound_u x d same)) put;
        answered = answered_then on (New l.0 c.0) (goes l kn (CircuitOpened c) h comes is).later a
            (λ k n new. subst (λ (i : ℕ). IsOpenedIn (heard2 i) n) (sym new.0) (record { frag = frag; has = has; circuit = c; number = sym new.1; says = says_it }));
      }
  hears_answered l kn frag (CircuitRefused c r) h has says_it comes is put =
      let (hop, waits_there, went) = comes in
      let u : m2.circuits ≡ without_entry t (Link l c) hop.way = is ∙ ap (λ (o : Option Hop). given o t λ x. without_entry t (Link l c) x.way) waits_there.there in
      let a : Answers NoNew t m2.circuits = subst (Answers NoNew t) (sym u) (refusal_answers t before l c hop waits_there) in
      let on = opens_on l kn (CircuitRefused c r) h comes is NoNew a in
      record {
        opened = refusal_said on l c hop.binding r hop.way h went put;
        answered = answered_then on NoNew (goes l kn (CircuitRefused c r) h comes is).later a (λ k n none. absurd none);
      }

  -- ---- a circuit is asked for

  pub asks_answered : (l : LinkId) (c : Circuit) (binding : ℕ) (service : IRef) (path : List CoreId) → next_own t l.0 ≡ Some c.0 → m2.circuits ≡ opened_table t l c binding
      → IsQueuedMessage (record { link = l; message = OpenCircuit c binding service path }) m.outboxes m2.outboxes → AreAnswered said heard2 m2
  asks_answered l c binding service path next is put =
      let g = subst (GoesOn (OneNew l.0 (record { binding = binding; side = Client })) t) (sym is) (opened_goes t l c binding before next) in
      let a : Answers NoNew t m2.circuits = subst (Answers NoNew t) (sym is) (asked_answers t l c binding before next) in
      let on = λ (k n : ℕ) (x : IsOpen t k n). open_stays t m2.circuits before sound g.later g.settled a.stays k n x in
      record {
        opened = quiet on l (OpenCircuit c binding service path) (λ d same. no_asked c d binding service path same) put;
        answered = answered_then on NoNew g.later a (λ k n none. absurd none);
      }
