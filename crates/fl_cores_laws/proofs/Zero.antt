-- The fragments on circuit 0 that went over a link: the monitor's alone.
use Rattle.std.proofs.Common.{◌≡◌, ◌≢◌, inl, inr, refl, sym, ap, ◌∙◌, subst, ℕ, ◌+◌, ◌-◌, ◌*◌, ◌^◌, ◌≤◌, ◌==◌, not, if◌then◌else◌, Bool, true, false, List, [], ◌∷◌, ◌++◌, Some, arith}
use Rattle.fl_base.specs.declared.fragment.Frag.{Frag}
use Rattle.fl_base.specs.declared.identity.LinkId.{LinkId}
use Rattle.fl_base.specs.declared.identity.Circuit.{Circuit}
use Rattle.fl_base.specs.Control.{circuit_of, body, is_ack_only, bare, with_circuit}
use Rattle.fl_hop.specs.declared.entry.Hop.{Hop}
use Rattle.fl_hop.specs.declared.entry.HopTarget.{HopTarget}
use Rattle.fl_hop.specs.declared.entry.HopTarget.TheVariants.{Link, End}
use Rattle.fl_hop.specs.Joined.{Sound, Leads}
use Rattle.fl_hop.specs.Later.{way_at}
use Rattle.fl_hop.specs.Numbers.{Given}
use Rattle.fl_hop.specs.OfCircuit.{as_carried, with_number, of_circuit}
use Rattle.fl_hop.specs.Stretch.{TableStep, CircuitEvent, passed, wrote, said, heard, AsLed, goes_through, if_so, put_by, put_on}
use Rattle.fl_hop.specs.Table.{TheCircuits, hop_at, leading}
use Rattle.fl_hop.proofs.Laws.{is_eq, not_eq, of_join}
use Rattle.fl_hop.proofs.Numbering.{small}
use Rattle.fl_monitor.specs.declared.message.MonitorMessage.{MonitorMessage}
use Rattle.fl_monitor.specs.Saying.{Says}
use Rattle.fl_monitor.proofs.Single.{says_the_same, says_alone}
use Rattle.fl_link.proofs.Carried.{bare-bare}
use Rattle.std.specs.Option.{option_map}
use Rattle.std.specs.Prelude.{Option, None}
use Rattle.fl_cores_laws.specs.Named.{Has}
use Rattle.fl_cores_laws.proofs.Named.{has_split}
use Rattle.fl_cores_laws.proofs.Bound.{given_there}

-- ---- one fragment

zero_by : (a b : Bool) (f g : Frag) → Has f (with_number 0 (if not a then g ∷ [] else [])) → (circuit_of g.control == 0) ≡ b → (b ≡ true) × (as_carried g ≡ f)
zero_by true b f g h is = absurd h
zero_by false true f g h is =
    (refl, elim (subst (λ (c : Bool). Has f (if c then as_carried g ∷ [] else [])) is h) [ inl same ↦ same | inr none ↦ absurd none ])
zero_by false false f g h is = absurd (subst (λ (c : Bool). Has f (if c then as_carried g ∷ [] else [])) is h)

-- what is carried on circuit 0 of one fragment
on_zero : (f g : Frag) → Has f (of_circuit 0 (g ∷ [])) → circuit_of g.control ≢ 0 → ⊥
on_zero f g h other =
    let (yes_is, same) = zero_by (is_ack_only g) false f g h (not_eq (circuit_of g.control) 0 other) in
    let clash : false ≡ true = yes_is in absurd (cc)

as_it_is : (f g : Frag) → Has f (of_circuit 0 (g ∷ [])) → as_carried g ≡ f
as_it_is f g h = (zero_by (is_ack_only g) (circuit_of g.control == 0) f g h refl).1

if_on_zero : (b : Bool) (f g : Frag) → Has f (of_circuit 0 (if_so b g)) → circuit_of g.control ≢ 0 → ⊥
if_on_zero true f g h other = on_zero f g h other
if_on_zero false f g h other = h

-- ---- numbers of entries

given_number : (t : TheCircuits) (l n : ℕ) → Sound t → Given t l n → (n ≢ 0) × (n ≤ 2046)
given_number t l n k (inl o) = small t.core o.link.neighbour.0 o.link.opened n (k.counts l o.link o.there).0 o.among
given_number t l n k (inr o) = small o.link.neighbour.0 t.core o.link.taken n (k.counts l o.link o.there).1 o.among

map_way : (o : Option Hop) (way : HopTarget) → option_map (λ (hop : Hop). hop.way) o ≡ Some way → (hop : Hop) × (o ≡ Some hop) × (hop.way ≡ way)
map_way None way h = absurd (cc)
map_way (Some hop) way h = (hop, refl, let e : hop.way ≡ way = cc in e)

led_number : (t : TheCircuits) (l n : ℕ) (way : HopTarget) → Sound t → way_at t l n ≡ Some way → n ≢ 0
led_number t l n way k led =
    let (hop, there, is) = map_way (hop_at t l n) way led in
    (given_number t l n k (given_there t l n hop k there)).0

far_number : (t : TheCircuits) (l n : ℕ) (m : LinkId) (d : Circuit) → Sound t → way_at t l n ≡ Some (Link m d) → (d.0 ≢ 0) × (d.0 ≤ 2046)
far_number t l n m d k led =
    let (hop, there, is) = map_way (hop_at t l n) (Link m d) led in
    let leads : Leads t l n hop.binding (Link m d) = record { answered = hop.answered; there = there ∙ ap (λ (x : HopTarget). leading hop.binding hop.answered x) is } in
    let back = k.both (record { 0 = l }) m (record { 0 = n }) d hop.binding leads in
    given_number t m.0 d.0 k (given_there t m.0 d.0 (record { binding = hop.binding; way = Link (record { 0 = l }) (record { 0 = n }); answered = back.answered }) k back.there)

bare_circuit : (w : ℕ) → circuit_of (body w) ≡ circuit_of w
bare_circuit w = omega arith

circuit_set : (w c : ℕ) → c ≤ 2046 → circuit_of (body (w - 2 ^ 32 * circuit_of w + 2 ^ 32 * c)) ≡ c
circuit_set w c few = omega (arith, few)

-- ---- steps

-- the fragments that the monitor put on a link by these steps
abbrev pub said_by : ℕ → CircuitEvent → List Frag
said_by l (said m frag) = if_so (m == l) frag
said_by l (passed m frag way) = []
said_by l (wrote e m frag) = []
said_by l (heard m frag) = []

abbrev pub said_on : ℕ → List TableStep → List Frag
said_on l [] = []
said_on l (p ∷ ps) = said_by l p.circuit_event ++ said_on l ps

pub record IsSaid (l : ℕ) (steps : List TableStep) (f : Frag) : Type 0 where
  pub frag : Frag
  pub has : Has frag (said_on l steps)
  pub is : as_carried (bare frag) ≡ f

none_here : (b : Bool) (f g : Frag) → Has f (of_circuit 0 (if_so b (bare g))) → (b ≡ true) × (as_carried (bare g) ≡ f)
none_here true f g h = (refl, as_it_is f (bare g) h)
none_here false f g h = absurd h

log_entry_said : (p : TableStep) (l : ℕ) (f : Frag) (log_entry : CircuitEvent) → Sound p.moment → AsLed p.moment log_entry → Has f (of_circuit 0 (put_by l log_entry)) → (g : Frag) × Has g (said_by l log_entry) × (as_carried (bare g) ≡ f)
log_entry_said p l f (passed m frag (Link x c)) sound led h =
    let far = far_number p.moment m (circuit_of frag.control) x c sound led in
    absurd (if_on_zero (x.0 == l) f (bare (with_circuit c.0 frag)) h (λ e. far.0 (sym (circuit_set frag.control c.0 far.1) ∙ e)))
log_entry_said p l f (passed m frag (End e)) sound led h = absurd h
log_entry_said p l f (wrote e m frag) sound led h =
    absurd (if_on_zero (m == l) f (bare frag) h (λ is. led_number p.moment m (circuit_of frag.control) (End e) sound led (sym (bare_circuit frag.control) ∙ is)))
log_entry_said p l f (said m frag) sound led h =
    let (here, is) = none_here (m == l) f frag h in
    (frag, subst (λ (b : Bool). Has frag (if_so b frag)) (sym here) (inl refl), is)
log_entry_said p l f (heard m frag) sound led h = absurd h

in_first : (f : Frag) (xs ys : List Frag) → Has f xs → Has f (xs ++ ys)
in_first f [] ys h = absurd h
in_first f (x ∷ xs) ys (inl same) = inl same
in_first f (x ∷ xs) ys (inr rest) = inr (in_first f xs ys rest)

in_last : (f : Frag) (xs ys : List Frag) → Has f ys → Has f (xs ++ ys)
in_last f [] ys h = h
in_last f (x ∷ xs) ys h = inr (in_last f xs ys h)

-- what was put on a link on circuit 0 is what the monitor put there
pub zero_said : (t : TheCircuits) (steps : List TableStep) (u : TheCircuits) → goes_through t steps u → (l : ℕ) (f : Frag) → Has f (of_circuit 0 (put_on l steps)) → IsSaid l steps f
zero_said t [] u all l f h = absurd h
zero_said t (p ∷ ps) u all l f h = elim (has_split f (of_circuit 0 (put_by l p.circuit_event)) (of_circuit 0 (put_on l ps)) (subst (Has f) (of_join 0 (put_by l p.circuit_event) (put_on l ps)) h)) [
  | inl here ↦ (let (g, has, is) = log_entry_said p l f p.circuit_event all.1.sound all.1.led here in record { frag = g; has = in_first g (said_by l p.circuit_event) (said_on l ps) has; is = is })
  | inr later ↦ (let x = zero_said p.moment ps u all.2 l f later in record { frag = x.frag; has = in_last x.frag (said_by l p.circuit_event) (said_on l ps) x.has; is = x.is })
]

-- ---- the monitors' own

carried_step : (w : ℕ) → circuit_of w ≡ 0 → body (body (body w - 2 ^ 32 * circuit_of (body w) + 2 ^ 32 * 0)) ≡ body w
carried_step w zero_is = omega (arith, zero_is)

-- carrying leaves a fragment on circuit 0 what it is
pub carried_zero : (f : Frag) → circuit_of f.control ≡ 0 → bare (as_carried (bare f)) ≡ bare f
carried_zero f zero_is = ap (λ (w : ℕ). let x : Frag = record { words = f.words; control = w } in x) (carried_step f.control zero_is)

-- a fragment that says something is carried on circuit 0
first_call : (a : Bool) (f : Frag) → a ≡ false → (if not a then f ∷ [] else []) ≡ f ∷ []
first_call false f is = refl
first_call true f is = absurd (cc)

pub says_zero : (f : Frag) (m : MonitorMessage) → Says f m → of_circuit 0 (bare f ∷ []) ≡ as_carried (bare f) ∷ []
says_zero f m s =
    let alone = says_alone (bare f) m (says_the_same f (bare f) m (bare-bare f) s) in
    ap (with_number 0) (first_call (is_ack_only (bare f)) (bare f) alone.no_ack)
    ∙ ap (λ (b : Bool). if b then as_carried (bare f) ∷ [] else []) (is_eq (circuit_of (bare f).control) 0 alone.circuit)
