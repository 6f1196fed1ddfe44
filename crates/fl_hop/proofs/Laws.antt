-- What comes out of a circuit is what went in.
use Rattle.std.proofs.Common.{◌≡◌, ◌≢◌, refl, sym, ap, subst, ◌∙◌, ℕ, ◌+◌, ◌-◌, ◌*◌, ◌^◌, ◌≤◌, ◌==◌, ◌&&◌, ◌⊎◌, inl, inr, Bool, true, false, not, cond, List, [], ◌∷◌, ◌++◌, map, Option, Some, None, option_map, append_assoc, arith}
use Rattle.std.proofs.lemmas.List.{append-nil}
use Rattle.std.proofs.lemmas.Bool.{cases_eq}
use Rattle.std.proofs.lemmas.Bool.Decides.{nat_tests}
use Rattle.fl_base.specs.declared.fragment.Frag.{Frag}
use Rattle.fl_base.specs.declared.identity.LinkId.{LinkId}
use Rattle.fl_base.specs.declared.identity.Circuit.{Circuit}
use Rattle.fl_base.specs.declared.identity.EndId.{EndId}
use Rattle.fl_base.specs.declared.identity.Side.{Side}
use Rattle.fl_base.specs.declared.identity.Side.TheVariants.{Client, Server}
use Rattle.fl_base.specs.Control.{circuit_of, is_ack_only, with_circuit, body, bare}
use Rattle.fl_base.specs.Prefix.{IsPrefix}
use Rattle.fl_link.specs.Calls.{calls_only}
use Rattle.fl_link.proofs.Conserved.{calls_only-join, bare-ack}
use Rattle.fl_hop.specs.declared.entry.HopTarget.{HopTarget}
use Rattle.fl_hop.specs.declared.entry.HopTarget.TheVariants.{Link, End}
use Rattle.fl_hop.specs.declared.entry.Hop.{Hop}
use Rattle.fl_hop.specs.Table.{TheCircuits, hop_at, leading}
use Rattle.fl_hop.specs.Numbers.{Given}
use Rattle.fl_hop.specs.Joined.{Sound, Leads}
use Rattle.fl_hop.specs.Later.{Later, way_at, entry_at, unanswered}
use Rattle.fl_hop.specs.OfCircuit.{as_carried, with_number, of_circuit}
use Rattle.fl_hop.specs.Stretch.{CircuitEvent, passed, wrote, said, heard, AsLed, TableStep, Went, TableHistory, goes_through, AllWent, Stood, if_so, same_side, same_end, taken_by, sent_to, brought_to, put_by, come_by, written_in, taken_from, put_on, come_to, written_by, OnlyFrom, OnlyOnto}
use Rattle.fl_hop.specs.Carried.{Leg, Along}
use Rattle.fl_hop.proofs.Numbering.{small, not_ack}
use Rattle.fl_hop.proofs.Cells.{same_link, same_circuit, cond_true, cond_false}
use Rattle.fl_hop.proofs.Answering.{zero_free}

-- Tables that follow one another.

pub later_same : (t : TheCircuits) → Later t t
later_same t = record { core = refl; here = λ l n o. o; there = λ l n o. o; kept = λ l n g. inl refl }

no_entry : (t : TheCircuits) (l n : ℕ) → hop_at t l n ≡ None → entry_at t l n ≡ None
no_entry t l n e = ap (option_map unanswered) e

entry_none : (o : Option Hop) → option_map unanswered o ≡ None → o ≡ None
entry_none None e = refl
entry_none (Some hop) e = absurd (cc)

pub later_chain : (t u v : TheCircuits) → Later t u → Later u v → Later t v
later_chain t u v a b = record {
  core = b.core ∙ a.core;
  here = λ l n o. b.here l n (a.here l n o);
  there = λ l n o. b.there l n (a.there l n o);
  kept = λ l n g.
      elim (b.kept l n (given_on l n g)) [
        | inl same ↦
            elim (a.kept l n g) [
              | inl too ↦ inl (same ∙ too)
              | inr gone ↦ inr (entry_none (hop_at v l n) (same ∙ no_entry u l n gone))
            ]
        | inr gone ↦ inr gone
      ];
} where
  given_on : (l n : ℕ) → Given t l n → Given u l n
  given_on l n (inl o) = inl (a.here l n o)
  given_on l n (inr o) = inr (a.there l n o)

-- Entries that stand led the same way before.

leads_way : (t : TheCircuits) (l n binding : ℕ) (way : HopTarget) → Leads t l n binding way → way_at t l n ≡ Some way
leads_way t l n binding way e = ap (option_map (λ (hop : Hop). hop.way)) e.there

leads_entry : (t : TheCircuits) (l n binding : ℕ) (way : HopTarget) → Leads t l n binding way → entry_at t l n ≡ leading binding false way
leads_entry t l n binding way e = ap (option_map unanswered) e.there

hop_leads : (o : Option Hop) (way : HopTarget) → option_map (λ (hop : Hop). hop.way) o ≡ Some way → (b : ℕ) × (a : Bool) × (o ≡ leading b a way)
hop_leads None way e = absurd (cc)
hop_leads (Some hop) way e =
    let same : hop.way ≡ way = cc in
    let f : HopTarget → Option Hop = λ w. leading hop.binding hop.answered w in
    (hop.binding, hop.answered, ap f same)

led : (t : TheCircuits) (l n : ℕ) (way : HopTarget) → way_at t l n ≡ Some way → (b : ℕ) × Leads t l n b way
led t l n way e =
    let (b, a, is) = hop_leads (hop_at t l n) way e in
    (b, record { answered = a; there = is })

given_at : (t : TheCircuits) → Sound t → (l n binding : ℕ) (way : HopTarget) → Leads t l n binding way → Given t l n
given_at t sound l n binding way e =
    elim (sound.toward l n binding way e) [
      | inl (o, w) ↦ inl o
      | inr (o, w) ↦ inr o
    ]

same_leading : (b d : ℕ) (v w : HopTarget) → leading b false v ≡ leading d false w → (b ≡ d) × (v ≡ w)
same_leading b d v w e =
    let hop : record { binding = b; way = v; answered = false } ≡ record { binding = d; way = w; answered = false } = cc in
    (ap (λ (h : Hop). h.binding) hop, ap (λ (h : Hop). h.way) hop)

-- an entry's number names it for ever
pub one_entry : (t u : TheCircuits) (l n binding other : ℕ) (way on : HopTarget) → Sound t → Later t u → Leads t l n binding way → Leads u l n other on → (binding ≡ other) × (way ≡ on)
one_entry t u l n binding other way on sound later was is =
    elim (later.kept l n (given_at t sound l n binding way was)) [
      | inl same ↦ same_leading binding other way on (sym (leads_entry t l n binding way was) ∙ sym same ∙ leads_entry u l n other on is)
      | inr gone ↦
          let some : None ≡ leading other false on = sym (no_entry u l n gone) ∙ leads_entry u l n other on is in
          absurd (cc)
    ]

-- two tables of one core, of which one became the other
abbrev pub Beside : TheCircuits → TheCircuits → Type 0
Beside t u = Later t u ⊎ Later u t

-- what a number led to at one moment, it leads to at another, if an entry stands there
same_way : (u t : TheCircuits) → Sound u → Sound t → Beside u t → (l n : ℕ) (a b : HopTarget) → way_at u l n ≡ Some a → way_at t l n ≡ Some b → a ≡ b
same_way u t us ts (inl later) l n a b was is =
    let x = led u l n a was in
    let y = led t l n b is in
    (one_entry u t l n x.0 y.0 a b us later x.1 y.1).1
same_way u t us ts (inr later) l n a b was is =
    let x = led u l n a was in
    let y = led t l n b is in
    sym (one_entry t u l n y.0 x.0 b a ts later y.1 x.1).1

-- Fragments.

circuit_step : (w d : ℕ) → d ≤ 2046 → circuit_of (w - 2 ^ 32 * circuit_of w + 2 ^ 32 * d) ≡ d
circuit_step w d l = omega arith

-- a fragment has the circuit that it is given
has_circuit : (frag : Frag) (d : ℕ) → d ≤ 2046 → circuit_of (with_circuit d frag).control ≡ d
has_circuit frag d l = circuit_step frag.control d l

clear_step : (w d v : ℕ) → v ≡ w - 2 ^ 32 * circuit_of w + 2 ^ 32 * d → circuit_of v ≡ d → v - 2 ^ 32 * circuit_of v + 2 ^ 32 * 0 ≡ w - 2 ^ 32 * circuit_of w + 2 ^ 32 * 0
clear_step w d v e c = omega (arith, e, c)

-- and is carried as the same
same_carried : (frag : Frag) (d : ℕ) → d ≤ 2046 → as_carried (with_circuit d frag) ≡ as_carried frag
same_carried frag d l =
    let f : ℕ → Frag = λ w. bare (record { words = frag.words; control = w }) in
    ap f (clear_step frag.control d (frag.control - 2 ^ 32 * circuit_of frag.control + 2 ^ 32 * d) refl (circuit_step frag.control d l))

bare_step : (w : ℕ) → circuit_of (body w) ≡ circuit_of w
bare_step w = omega arith

-- a bare fragment has its circuit, and is carried as the same
bare_circuit : (frag : Frag) → circuit_of (bare frag).control ≡ circuit_of frag.control
bare_circuit frag = bare_step frag.control

body_step : (w : ℕ) → body (body w - 2 ^ 32 * circuit_of (body w) + 2 ^ 32 * 0) ≡ body (w - 2 ^ 32 * circuit_of w + 2 ^ 32 * 0)
body_step w = omega arith

bare_carried : (frag : Frag) → as_carried (bare frag) ≡ as_carried frag
bare_carried frag =
    let f : ℕ → Frag = λ w. record { words = frag.words; control = w } in
    ap f (body_step frag.control)

pub is_eq : (a b : ℕ) → a ≡ b → (a == b) ≡ true
is_eq a b e = grind (arith, nat_tests, e)

pub not_eq : (a b : ℕ) → a ≢ b → (a == b) ≡ false
not_eq a b n = grind (arith, nat_tests, n)

pub bool_cases : (b : Bool) → (b ≡ true) ⊎ (b ≡ false)
bool_cases true = inl refl
bool_cases false = inr refl

on_here : (c : ℕ) (frag : Frag) (rest : List Frag) → circuit_of frag.control ≡ c → with_number c (frag ∷ rest) ≡ as_carried frag ∷ with_number c rest
on_here c frag rest e = cond_true (circuit_of frag.control == c) (as_carried frag ∷ with_number c rest) (with_number c rest) (is_eq (circuit_of frag.control) c e)

on_other : (c : ℕ) (frag : Frag) (rest : List Frag) → circuit_of frag.control ≢ c → with_number c (frag ∷ rest) ≡ with_number c rest
on_other c frag rest n = cond_false (circuit_of frag.control == c) (as_carried frag ∷ with_number c rest) (with_number c rest) (not_eq (circuit_of frag.control) c n)

call_first : (b : Bool) (frag : Frag) (rest : List Frag) → b ≡ false → cond (not b) (frag ∷ rest) rest ≡ frag ∷ rest
call_first true frag rest e = absurd (cc)
call_first false frag rest e = refl

call_next : (b : Bool) (frag : Frag) (rest : List Frag) → b ≡ true → cond (not b) (frag ∷ rest) rest ≡ rest
call_next true frag rest e = refl
call_next false frag rest e = absurd (cc)

of_call_first : (c : ℕ) (frag : Frag) (rest : List Frag) → is_ack_only frag ≡ false → of_circuit c (frag ∷ rest) ≡ with_number c (frag ∷ calls_only rest)
of_call_first c frag rest e = ap (with_number c) (call_first (is_ack_only frag) frag (calls_only rest) e)

of_ack : (c : ℕ) (frag : Frag) (rest : List Frag) → is_ack_only frag ≡ true → of_circuit c (frag ∷ rest) ≡ of_circuit c rest
of_ack c frag rest e = ap (with_number c) (call_next (is_ack_only frag) frag (calls_only rest) e)

of_here : (c : ℕ) (frag : Frag) (rest : List Frag) → c ≢ 0 → circuit_of frag.control ≡ c → of_circuit c (frag ∷ rest) ≡ as_carried frag ∷ of_circuit c rest
of_here c frag rest some e = of_call_first c frag rest (not_ack frag (λ z. some (sym e ∙ z))) ∙ on_here c frag (calls_only rest) e

of_other : (c : ℕ) (frag : Frag) (rest : List Frag) → circuit_of frag.control ≢ c → of_circuit c (frag ∷ rest) ≡ of_circuit c rest
of_other c frag rest n =
    elim (bool_cases (is_ack_only frag)) [
      | inl ack ↦ of_ack c frag rest ack
      | inr call ↦ of_call_first c frag rest call ∙ on_other c frag (calls_only rest) n
    ]

-- The fragments of a circuit among more.

on_join : (c : ℕ) (xs ys : List Frag) → with_number c (xs ++ ys) ≡ with_number c xs ++ with_number c ys
on_join c [] ys = refl
on_join c (x ∷ xs) ys = on_first (circuit_of x.control == c) (as_carried x) (with_number c (xs ++ ys)) (with_number c xs) (with_number c ys) (on_join c xs ys) where
  on_first : (b : Bool) (f : Frag) (all first rest : List Frag) → all ≡ first ++ rest → cond b (f ∷ all) all ≡ cond b (f ∷ first) first ++ rest
  on_first true f all first rest e = ap (λ v. f ∷ v) e
  on_first false f all first rest e = e

pub of_join : (c : ℕ) (xs ys : List Frag) → of_circuit c (xs ++ ys) ≡ of_circuit c xs ++ of_circuit c ys
of_join c xs ys = ap (with_number c) (calls_only-join xs ys) ∙ on_join c (calls_only xs) (calls_only ys)

pub of_prefix : (c : ℕ) (xs ys : List Frag) → IsPrefix xs ys → IsPrefix (of_circuit c xs) (of_circuit c ys)
of_prefix c xs ys p = (of_circuit c p.0, ap (of_circuit c) p.1 ∙ of_join c xs p.0)

-- what is carried doesn't tell epochs and counts
pub of_bare : (c : ℕ) (frags : List Frag) → of_circuit c (map bare frags) ≡ of_circuit c frags
of_bare c [] = refl
of_bare c (x ∷ xs) =
    elim (bool_cases (is_ack_only x)) [
      | inl ack ↦ of_ack c (bare x) (map bare xs) (bare-ack x ∙ ack) ∙ of_bare c xs ∙ sym (of_ack c x xs ack)
      | inr call ↦
          of_call_first c (bare x) (map bare xs) (bare-ack x ∙ call)
          ∙ elim (cases_eq (circuit_of x.control) c) [
            | inl same ↦
                on_here c (bare x) (calls_only (map bare xs)) (bare_circuit x ∙ same)
                ∙ ap (λ f. f ∷ of_circuit c (map bare xs)) (bare_carried x)
                ∙ ap (λ fs. as_carried x ∷ fs) (of_bare c xs)
                ∙ sym (on_here c x (calls_only xs) same)
            | inr other ↦
                on_other c (bare x) (calls_only (map bare xs)) (λ e. other (sym (bare_circuit x) ∙ e))
                ∙ of_bare c xs
                ∙ sym (on_other c x (calls_only xs) other)
          ]
          ∙ sym (of_call_first c x xs call)
    ]

-- One fragment, if there is one.

of_none : (c : ℕ) (so : Bool) (frag : Frag) → (so ≡ true → circuit_of frag.control ≡ c → ⊥) → of_circuit c (if_so so frag) ≡ []
of_none c false frag n = refl
of_none c true frag n = of_other c frag [] (n refl)

of_one : (c : ℕ) (so : Bool) (frag : Frag) → so ≡ true → c ≢ 0 → circuit_of frag.control ≡ c → of_circuit c (if_so so frag) ≡ as_carried frag ∷ []
of_one c false frag e some is = absurd (cc)
of_one c true frag e some is = of_here c frag [] some is

is_same : (a b : ℕ) → (a == b) ≡ true → a ≡ b
is_same a b e = grind (arith, nat_tests, e)

-- what is taken from a link, or put on it unchanged, under a number
bare_here : (l c k : ℕ) (frag : Frag) → c ≢ 0 → k ≡ l → circuit_of frag.control ≡ c → of_circuit c (if_so (k == l) (bare frag)) ≡ as_carried frag ∷ []
bare_here l c k frag some e f =
    of_one c (k == l) (bare frag) (is_eq k l e) some (bare_circuit frag ∙ f)
    ∙ ap (λ x. x ∷ []) (bare_carried frag)

bare_other : (l c k : ℕ) (frag : Frag) → ((k ≡ l) → (circuit_of frag.control ≡ c) → ⊥) → of_circuit c (if_so (k == l) (bare frag)) ≡ []
bare_other l c k frag n = of_none c (k == l) (bare frag) (λ e f. n (is_same k l e) (sym (bare_circuit frag) ∙ f))

-- what is put on a link by a fragment that goes there under a number, or another way
put_here : (m : LinkId) (d : Circuit) (frag : Frag) (way : HopTarget) → way ≡ Link m d → d.0 ≢ 0 → d.0 ≤ 2046 → of_circuit d.0 (sent_to m.0 frag way) ≡ as_carried frag ∷ []
put_here m d frag way is some small =
    ap (λ w. of_circuit d.0 (sent_to m.0 frag w)) is
    ∙ of_one d.0 (m.0 == m.0) (bare (with_circuit d.0 frag)) (is_eq m.0 m.0 refl) some (bare_circuit (with_circuit d.0 frag) ∙ has_circuit frag d.0 small)
    ∙ ap (λ f. f ∷ []) (bare_carried (with_circuit d.0 frag) ∙ same_carried frag d.0 small)

put_other : (m : LinkId) (d : Circuit) (frag : Frag) (way : HopTarget) → (way ≡ Link m d → ⊥) → ((k : LinkId) (i : Circuit) → way ≡ Link k i → i.0 ≤ 2046) → of_circuit d.0 (sent_to m.0 frag way) ≡ []
put_other m d frag (End e) n small = refl
put_other m d frag (Link k i) n small =
    of_none d.0 (k.0 == m.0) (bare (with_circuit i.0 frag)) (λ same e.
    let f : LinkId → HopTarget = λ x. Link x i in
    let g : Circuit → HopTarget = λ x. Link m x in
    n (ap f (same_link k m (is_same k.0 m.0 same)) ∙ ap g (same_circuit i d (sym (has_circuit frag i.0 (small k i refl)) ∙ sym (bare_circuit (with_circuit i.0 frag)) ∙ e))))

of_both : (c d : ℕ) (x y xs ys : List Frag) → of_circuit d x ≡ of_circuit c y → of_circuit d xs ≡ of_circuit c ys → of_circuit d (x ++ xs) ≡ of_circuit c (y ++ ys)
of_both c d x y xs ys e f = of_join d x xs ∙ ap (λ v. v ++ of_circuit d xs) e ∙ ap (λ v. of_circuit c y ++ v) f ∙ sym (of_join c y ys)

of_each : (c : ℕ) (x y xs ys : List Frag) → x ≡ of_circuit c y → xs ≡ of_circuit c ys → x ++ xs ≡ of_circuit c (y ++ ys)
of_each c x y xs ys e f = ap (λ v. v ++ xs) e ∙ ap (λ v. of_circuit c y ++ v) f ∙ sym (of_join c y ys)

-- Tables.

given_small : (t : TheCircuits) → Sound t → (l n : ℕ) → Given t l n → n ≤ 2046
given_small t sound l n (inl o) = (small t.core o.link.neighbour.0 o.link.opened n (sound.counts l o.link o.there).0 o.among).1
given_small t sound l n (inr o) = (small o.link.neighbour.0 t.core o.link.taken n (sound.counts l o.link o.there).1 o.among).1

-- number 0 leads nowhere
some_number : (t : TheCircuits) → Sound t → (l n : ℕ) (way : HopTarget) → way_at t l n ≡ Some way → n ≢ 0
some_number t sound l n way e = λ z.
    let zero : way_at t l 0 ≡ None = ap (option_map (λ (hop : Hop). hop.way)) (zero_free t sound l) in
    let some : None ≡ Some way = sym zero ∙ ap (way_at t l) (sym z) ∙ e in
    absurd (cc)

-- a way on leads back
back : (t : TheCircuits) → Sound t → (l n : ℕ) (m : LinkId) (d : Circuit) → way_at t l n ≡ Some (Link m d) → way_at t m.0 d.0 ≡ Some (Link (record { 0 = l }) (record { 0 = n }))
back t sound l n m d e =
    let (b, x) = led t l n (Link m d) e in
    let link : LinkId = record { 0 = l } in
    let circuit : Circuit = record { 0 = n } in
    leads_way t m.0 d.0 b (Link link circuit) (sound.both link m circuit d b x)

far_small : (t : TheCircuits) → Sound t → (l n : ℕ) (m : LinkId) (d : Circuit) → way_at t l n ≡ Some (Link m d) → d.0 ≤ 2046
far_small t sound l n m d e =
    let (b, x) = led t l n (Link m d) e in
    let link : LinkId = record { 0 = l } in
    let circuit : Circuit = record { 0 = n } in
    given_small t sound m.0 d.0 (given_at t sound m.0 d.0 b (Link link circuit) (sound.both link m circuit d b x))

moved : (u : TheCircuits) (l m i j : ℕ) (way : HopTarget) → l ≡ m → i ≡ j → way_at u l i ≡ Some way → way_at u m j ≡ Some way
moved u l m i j way e f at = subst (λ x. way_at u x j ≡ Some way) e (subst (λ y. way_at u l y ≡ Some way) f at)

-- Stretches.

pub stretch_later : (t : TheCircuits) (ps : List TableStep) (u : TheCircuits) → goes_through t ps u → Later t u
stretch_later t [] u all = all
stretch_later t (p ∷ ps) u all = later_chain t p.moment u all.0 (stretch_later p.moment ps u all.2)

-- calls before a stretch belong to it
stretch_from : (t v : TheCircuits) (ps : List TableStep) (u : TheCircuits) → Later t v → goes_through v ps u → goes_through t ps u
stretch_from t v [] u later all = later_chain t v u later all
stretch_from t v (p ∷ ps) u later all = (later_chain t v p.moment later all.0, all.1, all.2)

pub stretch_join : (t : TheCircuits) (ps : List TableStep) (u : TheCircuits) (qs : List TableStep) (v : TheCircuits) → goes_through t ps u → goes_through u qs v → goes_through t (ps ++ qs) v
stretch_join t [] u qs v a b = stretch_from t u qs v a b
stretch_join t (p ∷ ps) u qs v a b = (a.0, a.1, stretch_join p.moment ps u qs v a.2 b)

pub joins : (s r : TableHistory) → s.finish ≡ r.start → AllWent s → AllWent r → AllWent (record { start = s.start; steps = s.steps ++ r.steps; finish = r.finish })
joins s r e a b = stretch_join s.start s.steps r.start r.steps r.finish (subst (λ t. goes_through s.start s.steps t) e a) b

pub stood_on : (s r : TableHistory) (l n binding : ℕ) (way : HopTarget) → s.finish ≡ r.start → Stood s l n binding way × AllWent r → Stood (record { start = s.start; steps = s.steps ++ r.steps; finish = r.finish }) l n binding way
stood_on s r l n binding way e h =
    let x = h.0 in
    record {
      moment = x.moment;
      sound = x.sound;
      leads = x.leads;
      before = x.before;
      after = x.after ++ r.steps;
      all = ap (λ v. v ++ r.steps) x.all ∙ append_assoc x.before x.after r.steps;
      until = x.until;
      since = stretch_join x.moment x.after r.start r.steps r.finish (subst (λ t. goes_through x.moment x.after t) e x.since) h.1;
    }

pub stood_before : (s r : TableHistory) (l n binding : ℕ) (way : HopTarget) → s.finish ≡ r.start → AllWent s × Stood r l n binding way → Stood (record { start = s.start; steps = s.steps ++ r.steps; finish = r.finish }) l n binding way
stood_before s r l n binding way e h =
    let x = h.1 in
    record {
      moment = x.moment;
      sound = x.sound;
      leads = x.leads;
      before = s.steps ++ x.before;
      after = x.after;
      all = ap (λ v. s.steps ++ v) x.all ∙ sym (append_assoc s.steps x.before x.after);
      until = stretch_join s.start s.steps r.start x.before x.moment (subst (λ t. goes_through s.start s.steps t) e h.0) x.until;
      since = x.since;
    }

pub stood_finish : (s : TableHistory) (l n binding : ℕ) (way : HopTarget) → AllWent s → Sound s.finish × Leads s.finish l n binding way → Stood s l n binding way
stood_finish s l n binding way all h = record {
  moment = s.finish;
  sound = h.0;
  leads = h.1;
  before = s.steps;
  after = [];
  all = sym (append-nil s.steps);
  until = all;
  since = later_same s.finish;
}

pub stood_start : (s : TableHistory) (l n binding : ℕ) (way : HopTarget) → AllWent s → Sound s.start × Leads s.start l n binding way → Stood s l n binding way
stood_start s l n binding way all h = record {
  moment = s.start;
  sound = h.0;
  leads = h.1;
  before = [];
  after = s.steps;
  all = refl;
  until = later_same s.start;
  since = all;
}

pub one_step : (p : TableStep) → Went p → AllWent (record { start = p.moment; steps = p ∷ []; finish = p.moment })
one_step p went = (later_same p.moment, went, later_same p.moment)

-- a step of a stretch, seen from a table of another moment
abbrev pub Near : TheCircuits → TableStep → Type 0
Near t p = Went p × Beside p.moment t

abbrev pub AllNear : TheCircuits → List TableStep → Type 0
AllNear t [] = Unit {0}
AllNear t (p ∷ ps) = Near t p × AllNear t ps

near_before : (s t : TheCircuits) (ps : List TableStep) → goes_through s ps t → AllNear t ps
near_before s t [] all = tt
near_before s t (p ∷ ps) all = ((all.1, inl (stretch_later p.moment ps t all.2)), near_before p.moment t ps all.2)

near_after : (t s : TheCircuits) (ps : List TableStep) (u : TheCircuits) → Later t s → goes_through s ps u → AllNear t ps
near_after t s [] u later all = tt
near_after t s (p ∷ ps) u later all =
    let on = later_chain t s p.moment later all.0 in
    ((all.1, inr on), near_after t p.moment ps u on all.2)

near_join : (t : TheCircuits) (ps qs : List TableStep) → AllNear t ps → AllNear t qs → AllNear t (ps ++ qs)
near_join t [] qs a b = b
near_join t (p ∷ ps) qs a b = (a.0, near_join t ps qs a.1 b)

-- all steps of a stretch, seen from the moment at which an entry stood
near : (s : TableHistory) (l n binding : ℕ) (way : HopTarget) → (x : Stood s l n binding way) → AllNear x.moment s.steps
near s l n binding way x =
    subst (AllNear x.moment) (sym x.all)
    (near_join x.moment x.before x.after (near_before s.start x.moment x.before x.until) (near_after x.moment x.moment x.after s.finish (later_same x.moment) x.since))

-- From link to link.

module _ (t : TheCircuits) (sound : Sound t) (l m : LinkId) (c d : Circuit) (binding : ℕ) (leads : Leads t l.0 c.0 binding (Link m d)) where
  here : way_at t l.0 c.0 ≡ Some (Link m d)
  here = leads_way t l.0 c.0 binding (Link m d) leads

  far : way_at t m.0 d.0 ≡ Some (Link l c)
  far = back t sound l.0 c.0 m d here

  some_near : c.0 ≢ 0
  some_near = some_number t sound l.0 c.0 (Link m d) here

  some_far : d.0 ≢ 0
  some_far = some_number t sound m.0 d.0 (Link l c) far

  -- what is forwarded from the near number goes out under the far one
  goes : (u : TheCircuits) → Sound u → Beside u t → (k n : ℕ) (way : HopTarget) → way_at u k n ≡ Some way → k ≡ l.0 → n ≡ c.0 → way ≡ Link m d
  goes u us b k n way led e f = same_way u t us sound b l.0 c.0 way (Link m d) (moved u k l.0 n c.0 way e f led) here

  -- and nothing else does
  comes : (u : TheCircuits) → Sound u → Beside u t → (k n : ℕ) (way : HopTarget) → way_at u k n ≡ Some way → way ≡ Link m d → (k ≡ l.0) × (n ≡ c.0)
  comes u us b k n way led is =
      let some : HopTarget → Option HopTarget = λ x. Some x in
      let then_back = back u us k n m d (led ∙ ap some is) in
      let same = same_way u t us sound b m.0 d.0 (Link (record { 0 = k }) (record { 0 = n })) (Link l c) then_back far in
      let a : record { 0 = k } ≡ l = cc in
      let b : record { 0 = n } ≡ c = cc in
      (ap (λ (x : LinkId). x.0) a, ap (λ (x : Circuit). x.0) b)

  circuit_event_on : (u : TheCircuits) (circuit_event : CircuitEvent) → Sound u → AsLed u circuit_event → Beside u t → of_circuit d.0 (put_by m.0 circuit_event) ≡ of_circuit c.0 (taken_by l.0 circuit_event)
  circuit_event_on u (passed k frag way) us led b =
      let some : HopTarget → Option HopTarget = λ x. Some x in
      let smalls : (j : LinkId) (i : Circuit) → way ≡ Link j i → i.0 ≤ 2046 = λ j i is. far_small u us k (circuit_of frag.control) j i (led ∙ ap some is) in
      let away : ((k ≡ l.0) → (circuit_of frag.control ≡ c.0) → ⊥) → of_circuit d.0 (sent_to m.0 frag way) ≡ of_circuit c.0 (if_so (k == l.0) (bare frag)) = λ n.
      put_other m d frag way (λ is. n (comes u us b k (circuit_of frag.control) way led is).0 (comes u us b k (circuit_of frag.control) way led is).1) smalls
      ∙ sym (bare_other l.0 c.0 k frag n) in
      elim (cases_eq k l.0) [
        | inr apart ↦ away (λ e f. apart e)
        | inl same ↦
            elim (cases_eq (circuit_of frag.control) c.0) [
              | inr apart ↦ away (λ e f. apart f)
              | inl too ↦
                  put_here m d frag way (goes u us b k (circuit_of frag.control) way led same too) some_far (far_small t sound l.0 c.0 m d here)
                  ∙ sym (bare_here l.0 c.0 k frag some_near same too)
            ]
      ]
  circuit_event_on u (wrote e k frag) us led b =
      bare_other m.0 d.0 k frag (λ x y.
      let same = same_way u t us sound b m.0 d.0 (End e) (Link l c) (moved u k m.0 (circuit_of frag.control) d.0 (End e) x y led) far in
      absurd (cc))
  circuit_event_on u (said k frag) us led b = bare_other m.0 d.0 k frag (λ x y. some_far (sym y ∙ led))
  circuit_event_on u (heard k frag) us led b = sym (bare_other l.0 c.0 k frag (λ x y. some_near (sym y ∙ led)))

  carry : (ps : List TableStep) → AllNear t ps → of_circuit d.0 (put_on m.0 ps) ≡ of_circuit c.0 (taken_from l.0 ps)
  carry [] all = refl
  carry (p ∷ ps) all =
      of_both c.0 d.0 (put_by m.0 p.circuit_event) (taken_by l.0 p.circuit_event) (put_on m.0 ps) (taken_from l.0 ps)
      (circuit_event_on p.moment p.circuit_event all.0.0.sound all.0.0.led all.0.1)
      (carry ps all.1)

pub carried_on : (s : TableHistory) (l m : LinkId) (c d : Circuit) (binding : ℕ) → Stood s l.0 c.0 binding (Link m d) → of_circuit d.0 (put_on m.0 s.steps) ≡ of_circuit c.0 (taken_from l.0 s.steps)
carried_on s l m c d binding x = carry x.moment x.sound l m c d binding x.leads s.steps (near s l.0 c.0 binding (Link m d) x)

-- From a link to an end, and from an end to a link.

same_side_is : (a b : Side) → same_side a b ≡ true → a ≡ b
same_side_is Client Client e = refl
same_side_is Client Server e = absurd (cc)
same_side_is Server Client e = absurd (cc)
same_side_is Server Server e = refl

side_same : (a : Side) → same_side a a ≡ true
side_same Client = refl
side_same Server = refl

and_true : (a b : Bool) → (a && b) ≡ true → (a ≡ true) × (b ≡ true)
and_true true b e = (refl, e)
and_true false b e = absurd (cc)

same_end_is : (f e : EndId) → same_end f e ≡ true → f ≡ e
same_end_is f e h =
    let (x, y) = and_true (f.binding == e.binding) (same_side f.side e.side) h in
    let a : f.binding ≡ e.binding = grind (arith, nat_tests, x) in
    let g : ℕ → EndId = λ n. record { binding = n; side = f.side } in
    let k : Side → EndId = λ s. record { binding = e.binding; side = s } in
    ap g a ∙ ap k (same_side_is f.side e.side y)

both_true : (a b : Bool) → a ≡ true → b ≡ true → (a && b) ≡ true
both_true true b e f = f
both_true false b e f = cc

pub end_same : (e : EndId) → same_end e e ≡ true
end_same e = both_true (e.binding == e.binding) (same_side e.side e.side) (is_eq e.binding e.binding refl) (side_same e.side)

come_here : (e : EndId) (frag : Frag) (way : HopTarget) → way ≡ End e → brought_to e frag way ≡ as_carried frag ∷ []
come_here e frag way is =
    ap (λ w. brought_to e frag w) is ∙ cond_true (same_end e e) (as_carried frag ∷ []) [] (end_same e)

come_other : (e : EndId) (frag : Frag) (way : HopTarget) → (way ≡ End e → ⊥) → brought_to e frag way ≡ []
come_other e frag (Link k i) n = refl
come_other e frag (End f) n =
    elim (bool_cases (same_end f e)) [
      | inl same ↦ let g : EndId → HopTarget = λ x. End x in absurd (n (ap g (same_end_is f e same)))
      | inr other ↦ cond_false (same_end f e) (as_carried frag ∷ []) [] other
    ]

same_ends : (f e : EndId) → End f ≡ End e → f ≡ e
same_ends f e h = cc

module _ (t : TheCircuits) (sound : Sound t) (l : LinkId) (c : Circuit) (binding : ℕ) (e : EndId) (leads : Leads t l.0 c.0 binding (End e)) where
  at_end : way_at t l.0 c.0 ≡ Some (End e)
  at_end = leads_way t l.0 c.0 binding (End e) leads

  some_here : c.0 ≢ 0
  some_here = some_number t sound l.0 c.0 (End e) at_end

  circuit_event_in : (u : TheCircuits) (circuit_event : CircuitEvent) → Sound u → AsLed u circuit_event → Beside u t → ((m : ℕ) (frag : Frag) → circuit_event ≡ passed m frag (End e) → (m ≡ l.0) × (circuit_of frag.control ≡ c.0)) → come_by e circuit_event ≡ of_circuit c.0 (taken_by l.0 circuit_event)
  circuit_event_in u (passed k frag way) us led b only =
      let f : HopTarget → CircuitEvent = λ w. passed k frag w in
      let away : ((k ≡ l.0) → (circuit_of frag.control ≡ c.0) → ⊥) → brought_to e frag way ≡ of_circuit c.0 (if_so (k == l.0) (bare frag)) = λ n.
      come_other e frag way (λ is. n (only k frag (ap f is)).0 (only k frag (ap f is)).1) ∙ sym (bare_other l.0 c.0 k frag n) in
      elim (cases_eq k l.0) [
        | inr other ↦ away (λ x y. other x)
        | inl same ↦
            elim (cases_eq (circuit_of frag.control) c.0) [
              | inr apart ↦ away (λ x y. apart y)
              | inl too ↦
                  come_here e frag way (same_way u t us sound b l.0 c.0 way (End e) (moved u k l.0 (circuit_of frag.control) c.0 way same too led) at_end)
                  ∙ sym (bare_here l.0 c.0 k frag some_here same too)
            ]
      ]
  circuit_event_in u (wrote f k frag) us led b only = refl
  circuit_event_in u (said k frag) us led b only = refl
  circuit_event_in u (heard k frag) us led b only = sym (bare_other l.0 c.0 k frag (λ x y. some_here (sym y ∙ led)))

  carry_in : (ps : List TableStep) → AllNear t ps → OnlyFrom l.0 c.0 e ps → come_to e ps ≡ of_circuit c.0 (taken_from l.0 ps)
  carry_in [] all only = refl
  carry_in (p ∷ ps) all only =
      of_each c.0 (come_by e p.circuit_event) (taken_by l.0 p.circuit_event) (come_to e ps) (taken_from l.0 ps)
      (circuit_event_in p.moment p.circuit_event all.0.0.sound all.0.0.led all.0.1 only.0)
      (carry_in ps all.1 only.1)

  -- no forward goes out under the number that the end writes on
  never : (u : TheCircuits) → Sound u → Beside u t → (k n : ℕ) (way : HopTarget) → way_at u k n ≡ Some way → way ≡ Link l c → ⊥
  never u us b k n way led is =
      let some : HopTarget → Option HopTarget = λ x. Some x in
      let then_back = back u us k n l c (led ∙ ap some is) in
      let same = same_way u t us sound b l.0 c.0 (Link (record { 0 = k }) (record { 0 = n })) (End e) then_back at_end in
      cc

  circuit_event_out : (u : TheCircuits) (circuit_event : CircuitEvent) → Sound u → AsLed u circuit_event → Beside u t → ((m : ℕ) (frag : Frag) → circuit_event ≡ wrote e m frag → (m ≡ l.0) × (circuit_of frag.control ≡ c.0)) → written_in e circuit_event ≡ of_circuit c.0 (put_by l.0 circuit_event)
  circuit_event_out u (passed k frag way) us led b only =
      let some : HopTarget → Option HopTarget = λ x. Some x in
      sym (put_other l c frag way (never u us b k (circuit_of frag.control) way led) (λ j i is. far_small u us k (circuit_of frag.control) j i (led ∙ ap some is)))
  circuit_event_out u (wrote f k frag) us led b only =
      elim (bool_cases (same_end f e)) [
        | inl same ↦
            let g : EndId → CircuitEvent = λ x. wrote x k frag in
            let there = only k frag (ap g (same_end_is f e same)) in
            cond_true (same_end f e) (as_carried frag ∷ []) [] same ∙ sym (bare_here l.0 c.0 k frag some_here there.0 there.1)
        | inr other ↦
            cond_false (same_end f e) (as_carried frag ∷ []) [] other
            ∙ sym (bare_other l.0 c.0 k frag (λ x y.
            let is = same_way u t us sound b l.0 c.0 (End f) (End e) (moved u k l.0 (circuit_of frag.control) c.0 (End f) x y led) at_end in
            let same = ap (λ v. same_end v e) (same_ends f e is) ∙ end_same e in
            absurd (cc)))
      ]
  circuit_event_out u (said k frag) us led b only = sym (bare_other l.0 c.0 k frag (λ x y. some_here (sym y ∙ led)))
  circuit_event_out u (heard k frag) us led b only = refl

  carry_out : (ps : List TableStep) → AllNear t ps → OnlyOnto l.0 c.0 e ps → written_by e ps ≡ of_circuit c.0 (put_on l.0 ps)
  carry_out [] all only = refl
  carry_out (p ∷ ps) all only =
      of_each c.0 (written_in e p.circuit_event) (put_by l.0 p.circuit_event) (written_by e ps) (put_on l.0 ps)
      (circuit_event_out p.moment p.circuit_event all.0.0.sound all.0.0.led all.0.1 only.0)
      (carry_out ps all.1 only.1)

pub carried_in : (s : TableHistory) (l : LinkId) (c : Circuit) (binding : ℕ) (e : EndId) → Stood s l.0 c.0 binding (End e) → OnlyFrom l.0 c.0 e s.steps → come_to e s.steps ≡ of_circuit c.0 (taken_from l.0 s.steps)
carried_in s l c binding e x only = carry_in x.moment x.sound l c binding e x.leads s.steps (near s l.0 c.0 binding (End e) x) only

pub own_alone : (s : TableHistory) (l : LinkId) (c : Circuit) (binding : ℕ) (e : EndId) → Stood s l.0 c.0 binding (End e) → OnlyOnto l.0 c.0 e s.steps → of_circuit c.0 (put_on l.0 s.steps) ≡ written_by e s.steps
own_alone s l c binding e x only = sym (carry_out x.moment x.sound l c binding e x.leads s.steps (near s l.0 c.0 binding (End e) x) only)

-- Along a route.

prefix_chain : (xs ys zs : List Frag) → IsPrefix xs ys → IsPrefix ys zs → IsPrefix xs zs
prefix_chain xs ys zs a b = (a.0 ++ b.0, b.1 ∙ ap (λ v. v ++ b.0) a.1 ∙ append_assoc xs a.0 b.0)

pub along : (gs : List Leg) (ins outs : List Frag) → Along ins gs outs → IsPrefix outs ins
along [] ins outs a = a
along (g ∷ gs) ins outs a =
    prefix_chain outs (of_circuit g.circuit g.got) ins (along gs (of_circuit g.circuit g.got) outs a.2)
    (prefix_chain (of_circuit g.circuit g.got) (of_circuit g.circuit g.sent) ins a.1 a.0)
