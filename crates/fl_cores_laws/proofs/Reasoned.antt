-- What a monitor says and hears of refusals: each has its reason, here or further on.
use Rattle.std.proofs.Common.{◌≡◌, ◌⊎◌, inl, inr, refl, sym, ap, ◌∙◌, subst, ℕ, List, [], ◌∷◌, ◌++◌, slice_get}
use Rattle.std.proofs.Common.{Option, Some, None}
use Rattle.std.specs.Option.{option_map}
use Rattle.fl_base.specs.declared.fragment.Frag.{Frag}
use Rattle.fl_base.specs.declared.identity.CoreId.{CoreId}
use Rattle.fl_base.specs.declared.identity.IRef.{IRef}
use Rattle.fl_base.specs.declared.identity.LinkId.{LinkId}
use Rattle.fl_base.specs.declared.identity.Circuit.{Circuit}
use Rattle.fl_base.specs.Control.{bare}
use Rattle.fl_base.specs.Given.{given}
use Rattle.fl_hop.specs.declared.entry.Hop.{Hop}
use Rattle.fl_hop.specs.declared.entry.HopTarget.{HopTarget}
use Rattle.fl_hop.specs.declared.entry.HopTarget.TheVariants.{Link, End}
use Rattle.fl_hop.specs.Joined.{Sound}
use Rattle.fl_hop.specs.Later.{Later, unanswered}
use Rattle.fl_hop.specs.Numbers.{Given, OpenedHere, OpenedThere, next_own}
use Rattle.fl_hop.specs.Table.{TheCircuits, hop_at}
use Rattle.fl_hop.proofs.Counting.{next_is, never_next}
use Rattle.fl_nameserv.specs.Registrations.{TheRegistration}
use Rattle.fl_monitor.specs.declared.opening.Opening.{Opening}
use Rattle.fl_monitor.specs.declared.message.MonitorMessage.{MonitorMessage}
use Rattle.fl_monitor.specs.declared.message.MonitorMessage.TheVariants.{CircuitOpened, CircuitRefused}
use Rattle.fl_monitor.specs.Monitors.{TheMonitor, IsQueuedMessage, waiting_for, asks}
use Rattle.fl_monitor.specs.Saying.{Says}
use Rattle.fl_monitor.proofs.Single.{says_no_other, says_the_same, says_what_is_written}
use Rattle.fl_cores_laws.specs.Named.{Has, AsksFor, AreNamed}
use Rattle.fl_cores_laws.specs.Reasons.{IsUsedUp, Refuses, CameUnder, AsksOnly, HeardRefused, IsRefusedFor, IsFrom, IsFor, AreReasoned, as_talk}
use Rattle.fl_cores_laws.proofs.Bound.{map_some}
use Rattle.fl_cores_laws.proofs.Named.{has_split, waits}
use Rattle.fl_cores_laws.proofs.ReasonsOwn.{refuses_later}

-- ---- what asks, and what refuses

pub refused_parts : (c d : Circuit) (r q : ℕ) → CircuitRefused c r ≡ CircuitRefused d q → (c ≡ d) × (r ≡ q)
refused_parts c d r q same = (let one : c ≡ d = cc in one, let two : r ≡ q = cc in two)

pub asks_parts : (c d : Circuit) (a b : Opening) → asks c a ≡ asks d b → (c ≡ d) × (b ≡ a)
asks_parts c d a b same =
    let circuits : c ≡ d = cc in
    let bindings : b.binding ≡ a.binding = cc in
    let services : b.service ≡ a.service = cc in
    let paths : b.path ≡ a.path = cc in (
      circuits,
      ap (λ (n : ℕ). let o : Opening = record { binding = n; service = b.service; path = b.path } in o) bindings
          ∙ ap (λ (x : IRef). let o : Opening = record { binding = a.binding; service = x; path = b.path } in o) services
          ∙ ap (λ (p : List CoreId). let o : Opening = record { binding = a.binding; service = a.service; path = p } in o) paths,
    )

-- what asks is no answer, and no answer asks
pub opened_asks : (d c : Circuit) (o : Opening) → CircuitOpened d ≡ asks c o → ⊥
opened_asks d c o is = cc

pub refused_asks : (d c : Circuit) (r : ℕ) (o : Opening) → CircuitRefused d r ≡ asks c o → ⊥
refused_asks d c r o is = cc

pub asks_refused : (d c : Circuit) (r : ℕ) (o : Opening) → asks c o ≡ CircuitRefused d r → ⊥
asks_refused d c r o is = cc

pub opened_refused : (c d : Circuit) (r : ℕ) → CircuitOpened c ≡ CircuitRefused d r → ⊥
opened_refused c d r is = cc

-- with one message more, what is said was said before, or is that
pub said_or_new : (said : ℕ → List Frag) (m m2 : TheMonitor) (x : LinkId) (msg : MonitorMessage) → IsQueuedMessage (record { link = x; message = msg }) m.outboxes m2.outboxes → (l : ℕ) (f : Frag)
    (other : MonitorMessage) → Has f (said l) ⊎ Has f (waiting_for m2.outboxes l) → Says f other → (Has f (said l) ⊎ Has f (waiting_for m.outboxes l)) ⊎ ((l ≡ x.0) × (msg ≡ other))
said_or_new said m m2 x msg put l f other (inl h) says_it = inl (inl h)
said_or_new said m m2 x msg put l f other (inr h) says_it =
    elim (waits f m.outboxes x.0 (put.outbox ++ put.frag ∷ []) l (subst (λ (boxes : List (List Frag)). Has f (waiting_for boxes l)) put.more h)) [
      | inl old ↦ inl (inr old)
      | inr p ↦ elim (has_split f put.outbox (put.frag ∷ []) p.1) [
        | inl old ↦ inl (inr (subst (λ (o : Option (List Frag)). Has f (given o [] (λ b. b))) (sym (ap (slice_get m.outboxes) p.0 ∙ put.there)) old))
        | inr new ↦ elim new [
          | inl same ↦ inr (
            p.0,
            says_no_other put.frag msg other (says_what_is_written put.frag msg put.is.widths put.is.written) (says_the_same f put.frag other (ap bare same) says_it),
          )
          | inr none ↦ absurd none
        ]
      ]
    ]

-- an entry that stood at a number that was given leads the same way
old_way : (t u : TheCircuits) (l n : ℕ) (h : Hop) → Later t u → Given t l n → hop_at u l n ≡ Some h → (x : Hop) × (hop_at t l n ≡ Some x) × (x.way ≡ h.way) × (x.binding ≡ h.binding)
old_way t u l n h later given at = elim (later.kept l n given) [
  | inl same ↦ (let (x, there, is) = map_some (hop_at t l n) (unanswered h) (sym same ∙ ap (option_map unanswered) at) in (x, there, ap (λ (y : Hop). y.way) is, ap (λ (y : Hop). y.binding) is))
  | inr gone ↦ (let clash : None ≡ Some h = sym gone ∙ at in absurd (cc))
]

pub came_more : (t : TheCircuits) (heard heard2 : ℕ → List Frag) → ((l : ℕ) (f : Frag) → Has f (heard l) → Has f (heard2 l)) → (l n : ℕ) (o : Opening) → CameUnder t heard l n o → CameUnder t heard2 l n o
came_more t heard heard2 more l n o a = record { frag = a.frag; has = more l a.frag a.has; circuit = a.circuit; number = a.number; says = a.says; along = a.along }

pub from_more : (Requests : Opening → Type 0) (t : TheCircuits) (heard heard2 : ℕ → List Frag) → ((l : ℕ) (f : Frag) → Has f (heard l) → Has f (heard2 l)) → (way : HopTarget) (o : Opening)
    → IsFrom Requests t heard way o → IsFrom Requests t heard2 way o
from_more Requests t heard heard2 more (Link x d) o came = came_more t heard heard2 more x.0 d.0 o came
from_more Requests t heard heard2 more (End e) o requested = requested

-- ---- less was said, more was heard, or nothing new

module _ (names : List TheRegistration) (NoPlace Requests : Opening → Type 0) (t : TheCircuits) where
  pub wider : (said said2 heard heard2 : ℕ → List Frag) (m : TheMonitor) → ((l : ℕ) (f : Frag) → Has f (said2 l) → Has f (said l)) → ((l : ℕ) (f : Frag) → Has f (heard l) → Has f (heard2 l))
      → AreReasoned names NoPlace Requests t (as_talk said heard m) → AreReasoned names NoPlace Requests t (as_talk said2 heard2 m)
  wider said said2 heard heard2 m fewer more n = record {
    asked = λ l f c o has says_it. elim (n.asked l f c o (in_more l f has) says_it) [
      | inl own ↦ inl own
      | inr came ↦ inr (came.0, came.1, came_more t heard heard2 more came.0 came.1 o came.2)
    ];
    told = λ l i hop there at. (let (o, came, same) = n.told l i hop there at in (o, came_more t heard heard2 more l i o came, same));
    given = λ l i hop here at. (let x = n.given l i hop here at in record {
      opening = x.opening;
      binding_is = x.binding_is;
      origin = from_more Requests t heard heard2 more hop.way x.opening x.origin;
      only = only_fewer l i x.opening x.only;
    });
    refused = λ l f c reason has says_it.
        (let (o, came, why) = n.refused l f c reason (in_more l f has) says_it in (
          o,
          came_more t heard heard2 more l c.0 o came,
          elim why [
            | inl good ↦ inl good
            | inr others ↦ elim others [
              | inl lacks ↦ inr (inl lacks)
              | inr h ↦ inr (inr (record { link = h.link; frag = h.frag; has = more h.link h.frag h.has; circuit = h.circuit; says = h.says; given = h.given; only = only_fewer h.link h.circuit.0 o h.only }))
            ]
          ],
        ));
  } where
    in_more : (l : ℕ) (f : Frag) → Has f (said2 l) ⊎ Has f (waiting_for m.outboxes l) → Has f (said l) ⊎ Has f (waiting_for m.outboxes l)
    in_more l f has = elim has [ inl a ↦ inl (fewer l f a) | inr b ↦ inr b ]

    only_fewer : (l i : ℕ) (o : Opening) → AsksOnly said m l i o → AsksOnly said2 m l i o
    only_fewer l i o only f c x has is says_it = only f c x (in_more l f has) is says_it

  pub rests : (said said2 heard : ℕ → List Frag) (m m2 : TheMonitor) → m2.circuits ≡ m.circuits
      → ((l : ℕ) (f : Frag) → Has f (said2 l) ⊎ Has f (waiting_for m2.outboxes l) → (g : Frag) × (bare g ≡ bare f) × (Has g (said l) ⊎ Has g (waiting_for m.outboxes l)))
      → AreReasoned names NoPlace Requests t (as_talk said heard m) → AreReasoned names NoPlace Requests t (as_talk said2 heard m2)
  rests said said2 heard m m2 same from n = record {
    asked = λ l f c o has says_it. (let (g, alike, before) = from l f has in n.asked l g c o before (says_the_same f g (asks c o) alike says_it));
    told = λ l i hop there at. n.told l i hop (subst (λ (u : TheCircuits). OpenedThere u l i) same there) (sym (ap (λ (u : TheCircuits). hop_at u l i) same) ∙ at);
    given = λ l i hop here at.
        (let x = n.given l i hop (subst (λ (u : TheCircuits). OpenedHere u l i) same here) (sym (ap (λ (u : TheCircuits). hop_at u l i) same) ∙ at) in
        record { opening = x.opening; binding_is = x.binding_is; origin = x.origin; only = only_still l i x.opening x.only });
    refused = λ l f c reason has says_it.
        (let (g, alike, before) = from l f has in
        let (o, came, why) = n.refused l g c reason before (says_the_same f g (CircuitRefused c reason) alike says_it) in (
          o,
          came,
          elim why [
            | inl good ↦ inl (subst (λ (u : TheCircuits). Refuses names NoPlace t u o reason) (sym same) good)
            | inr others ↦ elim others [
              | inl lacks ↦ inr (inl lacks)
              | inr h ↦ inr (inr (record {
                link = h.link;
                frag = h.frag;
                has = h.has;
                circuit = h.circuit;
                says = h.says;
                given = subst (λ (u : TheCircuits). OpenedHere u h.link h.circuit.0) (sym same) h.given;
                only = only_still h.link h.circuit.0 o h.only;
              }))
            ]
          ],
        ));
  } where
    only_still : (l i : ℕ) (o : Opening) → AsksOnly said m l i o → AsksOnly said2 m2 l i o
    only_still l i o only f c x has is says_it = (let (g, alike, before) = from l f has in only g c x before is (says_the_same f g (asks c x) alike says_it))

-- ---- the monitor of before, and of afterwards

module _ (names : List TheRegistration) (NoPlace Requests : Opening → Type 0) (t0 : TheCircuits) (said heard heard2 : ℕ → List Frag) (m m2 : TheMonitor) (sound : Sound m.circuits) (sound2 : Sound m2.circuits)
    (later : Later m.circuits m2.circuits) (grows : (l : ℕ) → IsUsedUp m.circuits l → IsUsedUp m2.circuits l) (named : AreNamed said heard m)
    (reasoned : AreReasoned names NoPlace Requests t0 (as_talk said heard m)) (more : (l : ℕ) (f : Frag) → Has f (heard l) → Has f (heard2 l)) where
  abbrev Before : ℕ → Frag → Type 0
  Before l f = Has f (said l) ⊎ Has f (waiting_for m.outboxes l)

  abbrev Now : ℕ → Frag → Type 0
  Now l f = Has f (said l) ⊎ Has f (waiting_for m2.outboxes l)

  -- an opening of the entry's binding was heard under its number
  abbrev Told : ℕ → ℕ → Hop → Type 0
  Told l n hop = (o : Opening) × CameUnder t0 heard2 l n o × (o.binding ≡ hop.binding)

  -- a job here asks for it, or it was heard
  abbrev Founded : Opening → Type 0
  Founded o = Requests o ⊎ ((k n : ℕ) × CameUnder t0 heard2 k n o)

  -- so it is at each number of a neighbour's that wasn't given before
  abbrev Taken : Type 0
  Taken = (l n : ℕ) → OpenedThere m2.circuits l n → OpenedThere m.circuits l n ⊎ ((hop : Hop) → hop_at m2.circuits l n ≡ Some hop → Told l n hop)

  -- what asks was given before
  asked_given : (l : ℕ) (f : Frag) (c : Circuit) (o : Opening) → Before l f → Says f (asks c o) → OpenedHere m.circuits l c.0
  asked_given l f c o before says_it =
      let asked : AsksFor f c o.binding = record { service = o.service; path = o.path; says = says_it } in
      (named.asked l f c o.binding before asked).given

  -- a number that is next wasn't given
  never_given : (x : LinkId) (d : Circuit) (l n : ℕ) → next_own m.circuits x.0 ≡ Some d.0 → l ≡ x.0 → n ≡ d.0 → OpenedHere m.circuits l n → ⊥
  never_given x d l n next links numbers here =
      never_next m.circuits.core m.circuits.links sound.apart x.0 d.0 (next_is m.circuits.core m.circuits.links x.0 d.0 next)
      (inl (subst (λ (i : ℕ). OpenedHere m.circuits x.0 i) numbers (subst (λ (i : ℕ). OpenedHere m.circuits i n) links here)))

  -- with one message more, what is said was said before, or is that
  said_then : (x : LinkId) (msg : MonitorMessage) → IsQueuedMessage (record { link = x; message = msg }) m.outboxes m2.outboxes → (l : ℕ) (f : Frag) (other : MonitorMessage) → Now l f → Says f other
      → Before l f ⊎ ((l ≡ x.0) × (msg ≡ other))
  said_then x msg put l f other now says_it = said_or_new said m m2 x msg put l f other now says_it

  -- what is new of it: which openings it asks for, by link and number, and what it refuses
  module _ (Asks : ℕ → Circuit → Opening → Type 0) (Refuses : ℕ → Circuit → ℕ → Type 0)
      (asks_then : (l : ℕ) (f : Frag) (c : Circuit) (o : Opening) → Now l f → Says f (asks c o) → Before l f ⊎ Asks l c o)
      (refuses_then : (l : ℕ) (f : Frag) (c : Circuit) (reason : ℕ) → Now l f → Says f (CircuitRefused c reason) → Before l f ⊎ Refuses l c reason)
      (fresh : (l n : ℕ) (c : Circuit) (o : Opening) → OpenedHere m.circuits l n → Asks l c o → c.0 ≡ n → ⊥) where
    only_still : (l n : ℕ) (o : Opening) → OpenedHere m.circuits l n → AsksOnly said m l n o → AsksOnly said m2 l n o
    only_still l n o here only f c x has is says_it = elim (asks_then l f c x has says_it) [
      | inl old ↦ only f c x old is says_it
      | inr new ↦ absurd (fresh l n c x here new is)
    ]

    heard_still : (o : Opening) (reason : ℕ) → HeardRefused (as_talk said heard m) o reason → HeardRefused (as_talk said heard2 m2) o reason
    heard_still o reason h = record {
      link = h.link;
      frag = h.frag;
      has = more h.link h.frag h.has;
      circuit = h.circuit;
      says = h.says;
      given = later.here h.link h.circuit.0 h.given;
      only = only_still h.link h.circuit.0 o h.given h.only;
    }

    why_still : (o : Opening) (reason : ℕ) → IsRefusedFor names NoPlace t0 (as_talk said heard m) o reason → IsRefusedFor names NoPlace t0 (as_talk said heard2 m2) o reason
    why_still o reason (inl good) = inl (refuses_later names NoPlace t0 m.circuits m2.circuits o reason grows good)
    why_still o reason (inr (inl lacks)) = inr (inl lacks)
    why_still o reason (inr (inr h)) = inr (inr (heard_still o reason h))

    abbrev For : ℕ → ℕ → Hop → Type 0
    For l n hop = IsFor Requests t0 (as_talk said heard2 m2) l n hop

    abbrev IsRefused : ℕ → Circuit → ℕ → Type 0
    IsRefused l c reason = (o : Opening) × CameUnder t0 heard2 l c.0 o × IsRefusedFor names NoPlace t0 (as_talk said heard2 m2) o reason

    given_still : (l n : ℕ) (hop : Hop) → OpenedHere m.circuits l n → hop_at m2.circuits l n ≡ Some hop → For l n hop
    given_still l n hop here at =
        let (was, there, way, binding) = old_way m.circuits m2.circuits l n hop later (inl here) at in
        let x = reasoned.given l n was here there in
        record {
          opening = x.opening;
          binding_is = x.binding_is ∙ binding;
          origin = subst (λ (w : HopTarget). IsFrom Requests t0 heard2 w x.opening) way (from_more Requests t0 heard heard2 more was.way x.opening x.origin);
          only = only_still l n x.opening here x.only;
        }

    told_still : (l n : ℕ) (hop : Hop) → OpenedThere m.circuits l n → hop_at m2.circuits l n ≡ Some hop → Told l n hop
    told_still l n hop there at =
        let (was, stood, way, binding) = old_way m.circuits m2.circuits l n hop later (inr there) at in
        let (o, came, same) = reasoned.told l n was there stood in
        (o, came_more t0 heard heard2 more l n o came, same ∙ binding)

    reasoned_then : ((l : ℕ) (c : Circuit) (o : Opening) → Asks l c o → Founded o) → Taken → ((l n : ℕ) → OpenedHere m2.circuits l n → OpenedHere m.circuits l n ⊎ ((hop : Hop) → hop_at m2.circuits l n ≡ Some hop → For l n hop))
        → ((l : ℕ) (c : Circuit) (reason : ℕ) → Refuses l c reason → IsRefused l c reason) → AreReasoned names NoPlace Requests t0 (as_talk said heard2 m2)
    reasoned_then founded taken_then opened_then new = record {
      asked = λ l f c o has says_it. elim (asks_then l f c o has says_it) [
        | inl old ↦ elim (reasoned.asked l f c o old says_it) [
          | inl own ↦ inl own
          | inr came ↦ inr (came.0, came.1, came_more t0 heard heard2 more came.0 came.1 o came.2)
        ]
        | inr now ↦ founded l c o now
      ];
      told = λ l n hop there at. elim (taken_then l n there) [
        | inl old ↦ told_still l n hop old at
        | inr entry ↦ entry hop at
      ];
      given = λ l n hop here at. elim (opened_then l n here) [
        | inl old ↦ given_still l n hop old at
        | inr entry ↦ entry hop at
      ];
      refused = λ l f c reason has says_it. elim (refuses_then l f c reason has says_it) [
        | inl old ↦ (let (o, came, why) = reasoned.refused l f c reason old says_it in (o, came_more t0 heard heard2 more l c.0 o came, why_still o reason why))
        | inr now ↦ new l c reason now
      ];
    }

  -- ---- where nothing asks and nothing refuses

  abbrev No : ℕ → Circuit → Opening → Type 0
  No l c o = ⊥

  abbrev None_refused : ℕ → Circuit → ℕ → Type 0
  None_refused l c reason = ⊥

  no_fresh : (l n : ℕ) (c : Circuit) (o : Opening) → OpenedHere m.circuits l n → No l c o → c.0 ≡ n → ⊥
  no_fresh l n c o here none is = none

  silent : m2.outboxes ≡ m.outboxes → (l : ℕ) (f : Frag) → Now l f → Before l f
  silent same l f has = elim has [ inl h ↦ inl h | inr h ↦ inr (subst (λ (boxes : List (List Frag)). Has f (waiting_for boxes l)) same h) ]

  pub by_silence : m2.outboxes ≡ m.outboxes → Taken → ((l n : ℕ) → OpenedHere m2.circuits l n → OpenedHere m.circuits l n) → AreReasoned names NoPlace Requests t0 (as_talk said heard2 m2)
  by_silence same taken_then opened_then =
      reasoned_then No None_refused (λ l f c o has says_it. inl (silent same l f has)) (λ l f c reason has says_it. inl (silent same l f has)) no_fresh (λ l c o none. absurd none) taken_then
      (λ l n here. inl (opened_then l n here)) (λ l c reason none. absurd none)

  -- a message more, which says that a circuit is open
  pub by_opened : (x : LinkId) (d : Circuit) → IsQueuedMessage (record { link = x; message = CircuitOpened d }) m.outboxes m2.outboxes → Taken
      → ((l n : ℕ) → OpenedHere m2.circuits l n → OpenedHere m.circuits l n) → AreReasoned names NoPlace Requests t0 (as_talk said heard2 m2)
  by_opened x d put taken_then opened_then =
      reasoned_then No None_refused
      (λ l f c o has says_it. elim (said_then x (CircuitOpened d) put l f (asks c o) has says_it) [ inl old ↦ inl old | inr new ↦ absurd (opened_asks d c o new.1) ])
      (λ l f c reason has says_it. elim (said_then x (CircuitOpened d) put l f (CircuitRefused c reason) has says_it) [ inl old ↦ inl old | inr new ↦ absurd (opened_refused d c reason new.1) ])
      no_fresh (λ l c o none. absurd none) taken_then (λ l n here. inl (opened_then l n here)) (λ l c reason none. absurd none)

  -- ---- one that refuses an opening

  module _ (x : LinkId) (d : Circuit) (r : ℕ) (put : IsQueuedMessage (record { link = x; message = CircuitRefused d r }) m.outboxes m2.outboxes) where
    abbrev This : ℕ → Circuit → ℕ → Type 0
    This l c reason = (l ≡ x.0) × (CircuitRefused d r ≡ CircuitRefused c reason)

    no_asks : (l : ℕ) (f : Frag) (c : Circuit) (o : Opening) → Now l f → Says f (asks c o) → Before l f ⊎ No l c o
    no_asks l f c o has says_it = elim (said_then x (CircuitRefused d r) put l f (asks c o) has says_it) [ inl old ↦ inl old | inr new ↦ absurd (refused_asks d c r o new.1) ]

    this_refuses : (l : ℕ) (f : Frag) (c : Circuit) (reason : ℕ) → Now l f → Says f (CircuitRefused c reason) → Before l f ⊎ This l c reason
    this_refuses l f c reason has says_it = said_then x (CircuitRefused d r) put l f (CircuitRefused c reason) has says_it

    -- what was heard further on stays so
    still_heard : (o : Opening) (reason : ℕ) → HeardRefused (as_talk said heard m) o reason → HeardRefused (as_talk said heard2 m2) o reason
    still_heard o reason h = heard_still No This no_asks this_refuses no_fresh o reason h

    pub still_only : (l n : ℕ) (o : Opening) → OpenedHere m.circuits l n → AsksOnly said m l n o → AsksOnly said m2 l n o
    still_only l n o here only = only_still No This no_asks this_refuses no_fresh l n o here only

    pub by_refusal : Taken → ((l n : ℕ) → OpenedHere m2.circuits l n → OpenedHere m.circuits l n) → (o : Opening) → CameUnder t0 heard2 x.0 d.0 o → IsRefusedFor names NoPlace t0 (as_talk said heard2 m2) o r
        → AreReasoned names NoPlace Requests t0 (as_talk said heard2 m2)
    by_refusal taken_then opened_then o came why =
        reasoned_then No This no_asks this_refuses no_fresh (λ l c o none. absurd none) taken_then (λ l n here. inl (opened_then l n here))
        (λ l c reason new. (let (circuits, reasons) = refused_parts d c r reason new.1 in (
          o,
          subst (λ (i : ℕ). CameUnder t0 heard2 i c.0 o) (sym new.0) (subst (λ (i : Circuit). CameUnder t0 heard2 x.0 i.0 o) circuits came),
          subst (λ (q : ℕ). IsRefusedFor names NoPlace t0 (as_talk said heard2 m2) o q) reasons why,
        )))

  -- ---- one that asks for an opening, under the next number of a link

  module _ (x : LinkId) (d : Circuit) (o : Opening) (put : IsQueuedMessage (record { link = x; message = asks d o }) m.outboxes m2.outboxes) (next : next_own m.circuits x.0 ≡ Some d.0) where
    abbrev That : ℕ → Circuit → Opening → Type 0
    That l c y = (l ≡ x.0) × (asks d o ≡ asks c y)

    that_asks : (l : ℕ) (f : Frag) (c : Circuit) (y : Opening) → Now l f → Says f (asks c y) → Before l f ⊎ That l c y
    that_asks l f c y has says_it = said_then x (asks d o) put l f (asks c y) has says_it

    none_refuses : (l : ℕ) (f : Frag) (c : Circuit) (reason : ℕ) → Now l f → Says f (CircuitRefused c reason) → Before l f ⊎ None_refused l c reason
    none_refuses l f c reason has says_it = elim (said_then x (asks d o) put l f (CircuitRefused c reason) has says_it) [ inl old ↦ inl old | inr new ↦ absurd (asks_refused c d reason o new.1) ]

    that_fresh : (l n : ℕ) (c : Circuit) (y : Opening) → OpenedHere m.circuits l n → That l c y → c.0 ≡ n → ⊥
    that_fresh l n c y here new is =
        let (circuits, openings) = asks_parts d c o y new.1 in
        never_given x d l n next new.0 (sym is ∙ ap (λ (i : Circuit). i.0) (sym circuits)) here

    -- just that was asked for under it
    only_that : AsksOnly said m2 x.0 d.0 o
    only_that f c y has is says_it = elim (that_asks x.0 f c y has says_it) [
      | inl old ↦ absurd (never_given x d x.0 c.0 next refl is (asked_given x.0 f c y old says_it))
      | inr new ↦ (asks_parts d c o y new.1).1
    ]

    pub by_asking : Founded o → Taken → ((l n : ℕ) → OpenedHere m2.circuits l n → OpenedHere m.circuits l n ⊎ ((l ≡ x.0) × (n ≡ d.0)))
        → ((hop : Hop) → hop_at m2.circuits x.0 d.0 ≡ Some hop → (o.binding ≡ hop.binding) × IsFrom Requests t0 heard2 hop.way o)
        → AreReasoned names NoPlace Requests t0 (as_talk said heard2 m2)
    by_asking founded taken_then opened_then entry =
        reasoned_then That None_refused that_asks none_refuses that_fresh (λ l c y new. subst Founded (sym (asks_parts d c o y new.1).1) founded) taken_then
        (λ l n here. elim (opened_then l n here) [
          | inl old ↦ inl old
          | inr new ↦ inr (λ hop at.
              (let there : hop_at m2.circuits x.0 d.0 ≡ Some hop = sym (ap (λ (i : ℕ). hop_at m2.circuits i d.0) new.0) ∙ sym (ap (hop_at m2.circuits l) new.1) ∙ at in
              let (binding, origin) = entry hop there in
              record {
                opening = o;
                binding_is = binding;
                origin = origin;
                only = subst (λ (i : ℕ). AsksOnly said m2 i n o) (sym new.0) (subst (λ (i : ℕ). AsksOnly said m2 x.0 i o) (sym new.1) only_that);
              }))
        ])
        (λ l c reason none. absurd none)
