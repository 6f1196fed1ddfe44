-- A core whose table leads to its ends of circuits stays one.
use Rattle.std.proofs.Common.{◌≡◌, ◌≢◌, refl, sym, ap, ◌∙◌, subst, ℕ, zero, suc, ◌<◌, ◌==◌, ◌||◌, inl, inr, if◌then◌else◌, List, [], ◌∷◌, ◌++◌, map, drop, length, slice_get, slice_set}
use Rattle.std.proofs.Common.{Option, Some, None, Bool, true, false, arith}
use Rattle.std.specs.List.{list_any}
use Rattle.std.proofs.lemmas.Bool.Decides.{nat_tests}
use Rattle.std.proofs.lemmas.List.{length-map}
use Rattle.fl_base.specs.declared.fragment.Frag.{Frag}
use Rattle.fl_base.specs.declared.identity.EndId.{EndId}
use Rattle.fl_base.specs.declared.identity.LinkId.{LinkId}
use Rattle.fl_base.specs.Control.{circuit_of}
use Rattle.fl_base.specs.Given.{given}
use Rattle.fl_hop.specs.declared.entry.HopTarget.TheVariants.{End}
use Rattle.fl_hop.specs.declared.entry.Hop.{Hop}
use Rattle.fl_hop.specs.Joined.{Sound}
use Rattle.fl_hop.specs.Later.{way_at}
use Rattle.fl_hop.specs.Table.{TheCircuits, is_of, stands, hop_at, slot}
use Rattle.fl_core.proofs.BoardPlaces.{set_here, set_elsewhere, push_cases}
use Rattle.fl_core.specs.BoardView.{TheEndAtChannel}
use Rattle.fl_monitor.specs.Outboxes.{IsFragOf}
use Rattle.fl_monitor.specs.Monitors.{waiting_for, AllSaid}
use Rattle.fl_monitor.specs.Hearing.{says}
use Rattle.fl_monitor.specs.declared.heard.MessageOutcome.{MessageOutcome}
use Rattle.fl_monitor.specs.declared.heard.MessageOutcome.TheVariants.{OpeningWentOn, ServerMade, OpeningFailed, AnswerWentOn, EndOpened, EndRefused}
use Rattle.fl_monitor.specs.declared.message.MonitorMessage.{MonitorMessage}
use Rattle.fl_monitor.proofs.Single.{says_what_is_written, says_alone}
use Rattle.fl_core.specs.View.{TheCore, place_of, arrivals_by}
use Rattle.fl_core.specs.Sound.{IsCore}
use Rattle.fl_core.specs.declared.wiring.WiredEnd.{WiredEnd}
use Rattle.fl_core.specs.declared.wiring.EndWiring.TheVariants.{Circuit}
use Rattle.fl_core_run_laws.specs.Led.{IsSettled, IsLedTo, IsLed, LeadsAtFirst}
use Rattle.fl_core_run_laws.proofs.Bound.{circuits_of}
use Rattle.fl_core_run_laws.proofs.Tables.{GoesOn, way_there, stands_there}

-- ---- what is led to, by lists of wired ends and of circuits

abbrev pub EndsLed : TheCircuits → List WiredEnd → List (Option ℕ) → Type 0
EndsLed t wired_ends circuits = (e a : ℕ) (l : LinkId) (p : WiredEnd) (o : Option ℕ) → slice_get wired_ends e ≡ Some p → p.wiring ≡ Circuit l a → slice_get circuits e ≡ Some o → IsLedTo t l.0 p.name o

pub map_found : {X Y : Type 0} (f : X → Y) (xs : List X) (i : ℕ) (y : Y) → slice_get (map f xs) i ≡ Some y → (x : X) × (slice_get xs i ≡ Some x) × (f x ≡ y)
map_found f [] i y h = absurd (cc)
map_found f (x ∷ xs) zero y h = (x, refl, let same : f x ≡ y = cc in same)
map_found f (x ∷ xs) (suc i) y h = map_found f xs i y h

pub map_there : {X Y : Type 0} (f : X → Y) (xs : List X) (i : ℕ) (x : X) → slice_get xs i ≡ Some x → slice_get (map f xs) i ≡ Some (f x)
map_there f [] i x h = absurd (cc)
map_there f (z ∷ xs) zero x h = let same : z ≡ x = cc in ap Some (ap f same)
map_there f (z ∷ xs) (suc i) x h = map_there f xs i x h

pub ends_led : (k : TheCore) → IsLed k → EndsLed k.monitor.circuits k.wired_ends (circuits_of k.board.seats)
ends_led k led e a l p o wired_end wiring at =
    let (seat, there, is) = map_found (λ (s : TheEndAtChannel). s.end.circuit) k.board.seats e o at in
    subst (IsLedTo k.monitor.circuits l.0 p.name) is (led.ends e a l p seat wired_end wiring there)

-- a table that went on leads to the same ends
pub ends_on : (new : ℕ → EndId → Type 0) (t u : TheCircuits) (wired_ends : List WiredEnd) (circuits : List (Option ℕ)) → GoesOn new t u → ((e m : ℕ) (p : WiredEnd) → slice_get wired_ends e ≡ Some p → new m p.name → ⊥)
    → EndsLed t wired_ends circuits → EndsLed u wired_ends circuits
ends_on new t u wired_ends circuits g old led e a l p o wired_end wiring at =
    let one = led e a l p o wired_end wiring at in
    record {
      alone = λ m n way. elim (g.came m n p.name way) [
        | inl there ↦ one.alone m n there
        | inr fresh ↦ absurd (old e m p wired_end fresh)
      ];
      bound = λ c is. g.settled l.0 c p.name (one.bound c is);
    }

-- one end more
pub ends_more : (t : TheCircuits) (wired_ends : List WiredEnd) (circuits : List (Option ℕ)) (p : WiredEnd) (l : LinkId) (a : ℕ) (o : Option ℕ) → length wired_ends ≡ length circuits → p.wiring ≡ Circuit l a → IsLedTo t l.0 p.name o
    → EndsLed t wired_ends circuits → EndsLed t (wired_ends ++ p ∷ []) (circuits ++ o ∷ [])
ends_more t wired_ends circuits p l a o many is new led e b m q x wired_end wiring at = elim (push_cases wired_ends p e q wired_end) [
  | inl last ↦ elim (push_cases circuits o e x at) [
    | inl also ↦ (let same : Circuit m b ≡ Circuit l a = sym wiring ∙ ap (λ (y : WiredEnd). y.wiring) last.1 ∙ is in
        let links : l ≡ m = cc in
        subst (λ (i : LinkId). IsLedTo t i.0 q.name x) links (subst (λ (y : WiredEnd). IsLedTo t l.0 y.name x) (sym last.1) (subst (IsLedTo t l.0 p.name) (sym also.1) new)))
    | inr wrong ↦ absurd (let inside = within_list circuits e x wrong in let here = last.0 in omega (arith, inside, many, here))
  ]
  | inr there ↦ elim (push_cases circuits o e x at) [
    | inl wrong ↦ absurd (let inside = within_list wired_ends e q there in let here = wrong.0 in omega (arith, inside, many, here))
    | inr also ↦ led e b m q x there wiring also
  ]
] where
  within_list : {X : Type 0} (xs : List X) (i : ℕ) (x : X) → slice_get xs i ≡ Some x → i < length xs
  within_list [] i x h = absurd (cc)
  within_list (z ∷ xs) zero x h = omega arith
  within_list (z ∷ xs) (suc i) x h = let inside = within_list xs i x h in omega (arith, inside)

found_set : (xs : List (Option ℕ)) (j : ℕ) (y x : Option ℕ) → slice_get (slice_set xs j y) j ≡ Some x → (z : Option ℕ) × (slice_get xs j ≡ Some z) × (x ≡ y)
found_set [] j y x h = absurd (cc)
found_set (z ∷ xs) zero y x h = (z, refl, let same : x ≡ y = cc in same)
found_set (z ∷ xs) (suc j) y x h = found_set xs j y x h

bound_is : (m n : ℕ) (x : Option ℕ) → Some m ≡ x → x ≡ Some n → m ≡ n
bound_is m n x p q = cc

-- one end is bound
pub ends_bound : (t : TheCircuits) (wired_ends : List WiredEnd) (circuits : List (Option ℕ)) (i c : ℕ) (name : EndId) → ((p : WiredEnd) → slice_get wired_ends i ≡ Some p → p.name ≡ name)
    → ((a : ℕ) (l : LinkId) (p : WiredEnd) → slice_get wired_ends i ≡ Some p → p.wiring ≡ Circuit l a → ((m n : ℕ) → way_at t m n ≡ Some (End name) → m ≡ l.0) → IsSettled t l.0 c name)
    → EndsLed t wired_ends circuits → EndsLed t wired_ends (slice_set circuits i (Some c))
ends_bound t wired_ends circuits i c name named settled led e a l p o wired_end wiring at = by (e == i) refl where
  by : (b : Bool) → (e == i) ≡ b → IsLedTo t l.0 p.name o
  by false other =
      let ne : e ≢ i = λ same. absurd (grind (arith, nat_tests, other, same)) in
      led e a l p o wired_end wiring (sym (set_elsewhere circuits i e (Some c) ne) ∙ at)
  by true same =
      let eq : e ≡ i = grind (arith, nat_tests, same) in
      let here : slice_get wired_ends i ≡ Some p = subst (λ (j : ℕ). slice_get wired_ends j ≡ Some p) eq wired_end in
      let stood = found_set circuits i (Some c) o (subst (λ (j : ℕ). slice_get (slice_set circuits i (Some c)) j ≡ Some o) eq at) in
      let before = led e a l p stood.0 wired_end wiring (subst (λ (j : ℕ). slice_get circuits j ≡ Some stood.0) (sym eq) stood.1) in
      let name_is : p.name ≡ name = named p here in
      record {
        alone = before.alone;
        bound = λ n is.
            (let one : c ≡ n = bound_is c n o (sym stood.2) is in
            subst (λ (x : ℕ). IsSettled t l.0 x p.name) one (subst (λ (x : EndId). IsSettled t l.0 c x) (sym name_is)
            (settled a l p here wiring (λ m d way. before.alone m d (way ∙ ap (λ (x : EndId). Some (End x)) (sym name_is))))));
      }

-- ---- outboxes

abbrev pub OnZero : List (List Frag) → Type 0
OnZero outboxes = (l i : ℕ) (frag : Frag) → slice_get (waiting_for outboxes l) i ≡ Some frag → circuit_of frag.control ≡ 0

waits_set : (outboxes : List (List Frag)) (l m : ℕ) (there xs : List Frag) (b : Bool) → slice_get outboxes l ≡ Some there → (m == l) ≡ b → waiting_for (slice_set outboxes l xs) m ≡ (if b then xs else waiting_for outboxes m)
waits_set outboxes l m there xs true at same =
    let eq : m ≡ l = grind (arith, nat_tests, same) in
    ap (λ (o : Option (List Frag)). given o [] λ x. x) (ap (slice_get (slice_set outboxes l xs)) eq ∙ set_here outboxes l there xs at)
waits_set outboxes l m there xs false at other =
    let ne : m ≢ l = λ same. absurd (grind (arith, nat_tests, other, same)) in
    ap (λ (o : Option (List Frag)). given o [] λ x. x) (set_elsewhere outboxes l m xs ne)

pub zero_set : (outboxes : List (List Frag)) (l : ℕ) (there xs : List Frag) → slice_get outboxes l ≡ Some there → ((i : ℕ) (frag : Frag) → slice_get xs i ≡ Some frag → circuit_of frag.control ≡ 0)
    → OnZero outboxes → OnZero (slice_set outboxes l xs)
zero_set outboxes l there xs at new old m i frag h = by (m == l) refl where
  by : (b : Bool) → (m == l) ≡ b → circuit_of frag.control ≡ 0
  by true same = new i frag (sym (ap (λ (ys : List Frag). slice_get ys i) (waits_set outboxes l m there xs true at same)) ∙ h)
  by false other = old m i frag (sym (ap (λ (ys : List Frag). slice_get ys i) (waits_set outboxes l m there xs false at other)) ∙ h)

pub frag_on_zero : (frag : Frag) (m : MonitorMessage) → IsFragOf frag m → circuit_of frag.control ≡ 0
frag_on_zero frag m is = (says_alone frag m (says_what_is_written frag m is.widths is.written)).circuit

waits_there : (outboxes : List (List Frag)) (l : ℕ) (there : List Frag) → slice_get outboxes l ≡ Some there → waiting_for outboxes l ≡ there
waits_there outboxes l there at = ap (λ (o : Option (List Frag)). given o [] λ x. x) at

-- a message more is to be said
pub zero_more : (outboxes after : List (List Frag)) (l : ℕ) (outbox : List Frag) (f : Frag) (m : MonitorMessage) → slice_get outboxes l ≡ Some outbox → IsFragOf f m → after ≡ slice_set outboxes l (outbox ++ f ∷ [])
    → OnZero outboxes → OnZero after
zero_more outboxes after l outbox f m there is more old =
    subst OnZero (sym more) (zero_set outboxes l outbox (outbox ++ f ∷ []) there
    (λ i frag at. elim (push_cases outbox f i frag at) [
      | inl last ↦ ap (λ (x : Frag). circuit_of x.control) last.1 ∙ frag_on_zero f m is
      | inr stood ↦ old l i frag (ap (λ (xs : List Frag). slice_get xs i) (waits_there outboxes l outbox there) ∙ stood)
    ])
    old)

-- what follows from a message is
pub zero_heard : (l : LinkId) (msg : MonitorMessage) (h : MessageOutcome) (outboxes after : List (List Frag)) → AllSaid (says l msg h) outboxes after → OnZero outboxes → OnZero after
zero_heard l msg (OpeningWentOn binding n c) outboxes after h old = zero_more outboxes after n.0 h.outbox h.frag _ h.there h.is h.more old
zero_heard l msg (ServerMade binding dispatcher c) outboxes after h old = zero_more outboxes after l.0 h.outbox h.frag _ h.there h.is h.more old
zero_heard l msg (OpeningFailed binding reason) outboxes after h old = zero_more outboxes after l.0 h.outbox h.frag _ h.there h.is h.more old
zero_heard l msg (AnswerWentOn binding n c) outboxes after h old = zero_more outboxes after n.0 h.outbox h.frag _ h.there h.is h.more old
zero_heard l msg (EndOpened end c) outboxes after h old = subst OnZero (sym h) old
zero_heard l msg (EndRefused end reason) outboxes after h old = subst OnZero (sym h) old

-- the first is said
pub zero_less : (outboxes : List (List Frag)) (l : ℕ) (f : Frag) (rest : List Frag) → waiting_for outboxes l ≡ f ∷ rest → OnZero outboxes → OnZero (slice_set outboxes l (drop 1 (waiting_for outboxes l)))
zero_less outboxes l f rest is old = by (slice_get outboxes l) refl where
  by : (o : Option (List Frag)) → slice_get outboxes l ≡ o → OnZero (slice_set outboxes l (drop 1 (waiting_for outboxes l)))
  by None at = absurd (let no : [] ≡ f ∷ rest = sym (ap (λ (o : Option (List Frag)). given o [] λ x. x) at) ∙ is in cc)
  by (Some there) at =
      subst (λ (xs : List Frag). OnZero (slice_set outboxes l (drop 1 xs))) (sym is)
      (zero_set outboxes l there rest at (λ i frag h. old l (suc i) frag (ap (λ (xs : List Frag). slice_get xs (suc i)) is ∙ h)) old)

-- ---- where an entry stands, its binding does

any_of : (binding : ℕ) (hops : List (Option Hop)) (i : ℕ) (h : Hop) → slice_get hops i ≡ Some (Some h) → (h.binding == binding) ≡ true → list_any (is_of binding) hops ≡ true
any_of binding [] i h at is = absurd (cc)
any_of binding (x ∷ xs) zero h at is =
    let same : x ≡ Some h = cc in
    ap (λ (o : Option Hop). is_of binding o || list_any (is_of binding) xs) same ∙ ap (λ (b : Bool). b || list_any (is_of binding) xs) is
any_of binding (x ∷ xs) (suc i) h at is = or_true (is_of binding x) (list_any (is_of binding) xs) (any_of binding xs i h at is) where
  or_true : (a b : Bool) → b ≡ true → (a || b) ≡ true
  or_true true b h = refl
  or_true false b h = h

-- an entry to an end is of the end's binding
pub end_binding : (t : TheCircuits) (l n : ℕ) (hop : Hop) (name : EndId) → Sound t → hop_at t l n ≡ Some hop → hop.way ≡ End name → name.binding ≡ hop.binding
end_binding t l n hop name k at is = elim (k.toward l n hop.binding (End name) (record { answered = hop.answered; there = at ∙ ap (λ w. Some (let h : Hop = record { binding = hop.binding; way = w; answered = hop.answered } in h)) is })) [
  | inl h ↦ ap (λ (e : EndId). e.binding) h.1
  | inr h ↦ ap (λ (e : EndId). e.binding) h.1
]

-- so no entry leads to an end of a binding that stands nowhere
pub none_leads : (t : TheCircuits) (l n : ℕ) (name : EndId) → Sound t → stands t name.binding ≡ false → way_at t l n ≡ Some (End name) → ⊥
none_leads t l n name k none way =
    let (hop, at, is) = way_there t l n (End name) way in
    let binding : name.binding ≡ hop.binding = end_binding t l n hop name k at is in
    let same : (hop.binding == name.binding) ≡ true = grind (arith, nat_tests, binding) in
    let so : stands t name.binding ≡ true = any_of name.binding t.hops (slot l n) hop (stands_there t l n hop at).1 same in
    absurd (let no : false ≡ true = sym none ∙ so in cc)

-- there are as many ends as wired ends
pub as_many : (k : TheCore) → IsCore k → length k.wired_ends ≡ length (circuits_of k.board.seats)
as_many k core =
    sym (length-map k.wired_ends _) ∙ sym (ap length core.kinds) ∙ length-map k.board.seats _ ∙ sym (length-map k.board.seats (λ (s : TheEndAtChannel). s.end.circuit))

-- an end whose name isn't at the core is at no wired end
pub absent_wired_end : (k : TheCore) → IsCore k → (name : EndId) → place_of k name ≡ None → (e : ℕ) (p : WiredEnd) → slice_get k.wired_ends e ≡ Some p → p.name ≡ name → ⊥
absent_wired_end k core name none e p at same =
    let found : Some e ≡ None = sym (core.named e p at) ∙ ap (place_of k) same ∙ none in
    absurd (cc)

-- a core without ends of circuits
pub leads_at_first : LeadsAtFirst
leads_at_first k none quiet = record {
  ends = λ e a l p seat wired_end wiring at. absurd (let no : Some a ≡ None = sym (ap arrivals_by wiring) ∙ none e p wired_end in cc);
  says = λ l i frag at. absurd (let no : None ≡ Some frag = sym (ap (λ (xs : List Frag). slice_get xs i) (quiet l)) ∙ at in cc);
}
