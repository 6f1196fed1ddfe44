-- What leads to an end at last led there all the while: so what came to it came under one number, and what it wrote went out under that.
use Rattle.std.proofs.Common.{◌≡◌, sym, ap, ◌∙◌, subst, ℕ, inl, inr, List, [], ◌∷◌, ◌++◌}
use Rattle.std.proofs.Common.{Some, None, option_map}
use Rattle.fl_base.specs.declared.identity.EndId.{EndId}
use Rattle.fl_base.specs.declared.identity.LinkId.{LinkId}
use Rattle.fl_base.specs.declared.identity.Circuit.{Circuit as Number}
use Rattle.fl_base.specs.Control.{circuit_of}
use Rattle.fl_hop.specs.declared.entry.HopTarget.TheVariants.{Link, End}
use Rattle.fl_hop.specs.declared.entry.Hop.{Hop}
use Rattle.fl_hop.specs.Joined.{Sound, Leads}
use Rattle.fl_hop.specs.Later.{Later, way_at}
use Rattle.fl_hop.specs.Numbers.{Given}
use Rattle.fl_hop.specs.Stretch.{TableStep, AsLed, goes_through, OnlyFrom, OnlyOnto}
use Rattle.fl_hop.specs.Table.{TheCircuits, hop_at}
use Rattle.fl_hop.proofs.Laws.{stretch_later}
use Rattle.fl_core_run_laws.proofs.Leading.{end_binding}
use Rattle.fl_core_run_laws.proofs.Tables.{ways_alike, way_there, leads_at}

-- ---- a table and those after it

given_on : (t v : TheCircuits) (l c : ℕ) → Later t v → Given t l c → Given v l c
given_on t v l c a (inl o) = inl (a.here l c o)
given_on t v l c a (inr o) = inr (a.there l c o)

no_way : (v : TheCircuits) (l c : ℕ) (name : EndId) → hop_at v l c ≡ None → way_at v l c ≡ Some (End name) → ⊥
no_way v l c name none way = let no : None ≡ Some (End name) = sym (ap (option_map (λ (hop : Hop). hop.way)) none) ∙ way in absurd (cc)

-- what leads to the end before and after leads there in between
between : (t v u : TheCircuits) (l c : ℕ) (name : EndId) → Later t v → Later v u → Given t l c → way_at t l c ≡ Some (End name) → way_at u l c ≡ Some (End name) → way_at v l c ≡ Some (End name)
between t v u l c name a b given first last = elim (a.kept l c given) [
  | inl same ↦ ways_alike t v l c same ∙ first
  | inr gone ↦ absurd (elim (b.kept l c (given_on t v l c a given)) [
    | inl same ↦ no_way v l c name gone (sym (ways_alike v u l c same) ∙ last)
    | inr too ↦ no_way u l c name too last
  ])
]

-- one number leads to an end
one_number : (t : TheCircuits) (l c m n : ℕ) (name : EndId) → Sound t → way_at t l c ≡ Some (End name) → way_at t m n ≡ Some (End name) → (m ≡ l) × (n ≡ c)
one_number t l c m n name k first second =
    let (g, at, is) = way_there t l c (End name) first in
    let (h, too, also) = way_there t m n (End name) second in
    let same : g.binding ≡ h.binding = sym (end_binding t l c g name k at is) ∙ end_binding t m n h name k too also in
    let one = subst (λ (b : ℕ). Leads t l c b (End name)) same (leads_at t l c g (End name) at is) in
    elim (k.one (record { 0 = l }) (record { 0 = m }) (record { 0 = c }) (record { 0 = n }) h.binding (End name) (End name) one (leads_at t m n h (End name) too also)) [
      | inl both ↦ (sym (ap (λ (x : LinkId). x.0) both.0), sym (ap (λ (x : Number). x.0) both.1))
      | inr wrong ↦ absurd (no_link name (record { 0 = m }) (record { 0 = n }) wrong)
    ] where
      no_link : (e : EndId) (x : LinkId) (y : Number) → End e ≡ Link x y → ⊥
      no_link e x y h = cc

-- ---- steps

pub only : (name : EndId) (l c : ℕ) (t : TheCircuits) (steps : List TableStep) (u : TheCircuits) → goes_through t steps u → Given t l c → way_at t l c ≡ Some (End name) → way_at u l c ≡ Some (End name)
    → OnlyFrom l c name steps × OnlyOnto l c name steps
only name l c t [] u g given first last = (tt, tt)
only name l c t (p ∷ ps) u g given first last =
    let here = between t p.moment u l c name g.0 (stretch_later p.moment ps u g.2) given first last in
    let rest = only name l c p.moment ps u g.2 (given_on t p.moment l c g.0 given) here last in (
      (λ m frag is. one_number p.moment l c m (circuit_of frag.control) name g.1.sound here (subst (AsLed p.moment) is g.1.led), rest.0),
      (λ m frag is. one_number p.moment l c m (circuit_of frag.control) name g.1.sound here (subst (AsLed p.moment) is g.1.led), rest.1),
    )

pub only_joins : (l c : ℕ) (name : EndId) (xs ys : List TableStep) → OnlyFrom l c name xs × OnlyOnto l c name xs → OnlyFrom l c name ys × OnlyOnto l c name ys → OnlyFrom l c name (xs ++ ys) × OnlyOnto l c name (xs ++ ys)
only_joins l c name [] ys one two = two
only_joins l c name (x ∷ xs) ys one two =
    let more = only_joins l c name xs ys (one.0.1, one.1.1) two in
    ((one.0.0, more.0), (one.1.0, more.1))
