-- What an end writes next, and what its label stands for where it goes.
use Rattle.std.proofs.Common.{◌≡◌, refl, sym, ◌∙◌, ap, subst, ℕ, zero, suc, ◌+◌, ◌-◌, ◌≤◌, ◌<◌, ◌==◌, ◌&&◌, ◌||◌, min, not, cond, Bool, true, false, List, [], ◌∷◌, length, slice_get, reverse, Option, Some, None, is_some, arith}
use Rattle.std.specs.Prelude.{unwrap_or}
use Rattle.std.specs.List.{position_from}
use Rattle.std.proofs.lemmas.List.{length-reverse, get_or-reverse}
use Rattle.std.proofs.lemmas.Option.{same_Some, slice_get_within, get_or_from_slice_get, slice_get-get_or}
use Rattle.std.proofs.lemmas.Bool.{eqb-true}
use Rattle.std.proofs.lemmas.Bool.Decides.{nat_tests}
use Rattle.std.proofs.lemmas.Iterator.Adapters.{position_from-zero}
use Rattle.fl_base.specs.declared.fragment.Frag.{Frag}
use Rattle.fl_base.specs.declared.identity.EndId.{EndId}
use Rattle.fl_base.specs.declared.identity.Side.{Side}
use Rattle.fl_base.specs.declared.identity.Side.TheVariants.{Client, Server}
use Rattle.fl_base.specs.Given.{given}
use Rattle.fl_lists.specs.ThreeLists.{is_in}
use Rattle.fl_model.specs.Calls.{Planned, stream}
use Rattle.fl_model.specs.Rings.{next_of}
use Rattle.fl_model.specs.Ends.{written_of, End, is_bound}
use Rattle.fl_model.specs.Binding.{all_differ}
use Rattle.fl_model.specs.State.{OpeningVerdict, undecided, granted, denied, Route, Back, local, over_ring, over_route, Binding, State, end_in, way_of, place_in, number_between}
use Rattle.fl_model.specs.Sending.{next_fragment}
use Rattle.fl_model.specs.Standing.{Routed, number_at}
use Rattle.fl_model.specs.SoundRoutes.{RoutesLead, NumbersGoAlongRoutes, VerdictsFit, VerdictFits, EndsAreBound, BoundBy, BoundWhere, BothBound, ClientBoundAfter}
use Rattle.fl_world_refines.specs.Fragments.{frag_of, calls_off_links}
use Rattle.fl_world_refines.specs.StateLaws.{EndIn, StandsFor}
use Rattle.fl_world_refines.proofs.Tests.{by_test}
use Rattle.fl_world_refines.proofs.Carried.{calls_are, link_calls_are}

-- ---- places on a way

both : (a b : Bool) → (a && b) ≡ true → (a ≡ true) × (b ≡ true)
both true b h = (refl, h)
both false b h = absurd (cc)

same_number : (n : ℕ) → (n == n) ≡ true
same_number n = grind (arith, nat_tests)

-- what stands in a list is in it
in_list : (cs : List ℕ) (j c : ℕ) → slice_get cs j ≡ Some c → is_in c cs ≡ true
in_list [] j c q = absurd (cc)
in_list (d ∷ cs) zero c q = let e : d ≡ c = same_Some d c q in ap (λ (t : Bool). t || is_in c cs) (ap (λ (n : ℕ). n == c) e ∙ same_number c)
in_list (d ∷ cs) (suc j) c q = by_test (d == c)
    (λ t. ap (λ (b : Bool). b || is_in c cs) t)
    (λ t. ap (λ (b : Bool). b || is_in c cs) t ∙ in_list cs j c q)

not_in : (d c : ℕ) (cs : List ℕ) (j : ℕ) → not (is_in d cs) ≡ true → slice_get cs j ≡ Some c → (d == c) ≡ false
not_in d c cs j absent q = by_test (d == c)
    (λ t.
    let e : d ≡ c = eqb-true d c t in
    let here : is_in d cs ≡ true = ap (λ (n : ℕ). is_in n cs) e ∙ in_list cs j c q in
    absurd (let u : false ≡ true = sym (ap not here) ∙ absent in cc))
    (λ t. t)

place_from : (cs : List ℕ) (i j c : ℕ) → all_differ cs ≡ true → slice_get cs j ≡ Some c → position_from (λ (d : ℕ). d == c) i cs ≡ Some (i + j)
place_from [] i j c a q = absurd (cc)
place_from (d ∷ cs) i zero c a q =
    let e : (d == c) ≡ true = ap (λ (n : ℕ). n == c) (same_Some d c q) ∙ same_number c in
    ap (λ (t : Bool). cond t (Some i) (position_from (λ (x : ℕ). x == c) (i + 1) cs)) e ∙ ap Some (let z : i ≡ i + 0 = omega arith in z)
place_from (d ∷ cs) i (suc j) c a q =
    let p = both (not (is_in d cs)) (all_differ cs) a in
    let e : (d == c) ≡ false = not_in d c cs j p.0 q in
    ap (λ (t : Bool). cond t (Some i) (position_from (λ (x : ℕ). x == c) (i + 1) cs)) e
    ∙ place_from cs (i + 1) j c p.1 q ∙ ap Some (let z : i + 1 + j ≡ i + suc j = omega arith in z)

-- on a route without repetition a core has the place where it stands
place_is : (cs : List ℕ) (j c : ℕ) → all_differ cs ≡ true → slice_get cs j ≡ Some c → place_in cs c ≡ Some j
place_is cs j c a q =
    position_from-zero (λ (d : ℕ). d == c) cs ∙ place_from cs 0 j c a q ∙ ap Some (let z : 0 + j ≡ j = omega arith in z)

number_is : (route : Route) (i j a b : ℕ) → all_differ route.cores ≡ true → slice_get route.cores i ≡ Some a → slice_get route.cores j ≡ Some b
    → number_between a b route ≡ slice_get route.numbers (min i j)
number_is route i j a b d p q =
    ap (λ (o : Option ℕ). given o None λ x. given (place_in route.cores b) None λ y. slice_get route.numbers (min x y)) (place_is route.cores i a d p)
    ∙ ap (λ (o : Option ℕ). given o None λ y. slice_get route.numbers (min i y)) (place_is route.cores j b d q)

-- from behind
from_behind : (cs : List ℕ) (k c : ℕ) → slice_get (reverse cs) k ≡ Some c → slice_get cs (length cs - 1 - k) ≡ Some c
from_behind cs k c q =
    let within = slice_get_within (reverse cs) k c q in
    let long = length-reverse cs in
    let inside : k < length cs = omega (arith, within, long) in
    slice_get-get_or cs (length cs - 1 - k) c (omega (arith, inside))
    ∙ ap Some (sym (get_or-reverse cs k c inside) ∙ get_or_from_slice_get (reverse cs) k c c q)

-- ---- where the end is bound

next_on_circuit : (i : Planned) (x : End) (n : ℕ) → x.circuit ≡ Some n → next_fragment i x ≡ slice_get (stream n i x.out.accepted) (written_of x.out)
next_on_circuit i x n q = ap (λ (o : Option ℕ). slice_get (stream (unwrap_or o 0) i x.out.accepted) (written_of x.out)) q

on_zero : (side : Side) (b : Binding) → BothBound b → (end_in side b).circuit ≡ Some 0
on_zero Client b h = h.0
on_zero Server b h = h.1

-- off links
stands_off : (s : State) (e : EndId) (b : Binding) (i : Planned) → EndIn s e b i → (end_in e.side b).circuit ≡ Some 0
    → frag_of (calls_off_links s) (next_of e (written_of (end_in e.side b).out)) ≡ next_fragment i (end_in e.side b)
stands_off s e b i here q =
    ap (λ (fs : List Frag). slice_get fs (written_of (end_in e.side b).out)) (calls_are 0 s e b i here.binding here.interface)
    ∙ sym (next_on_circuit i (end_in e.side b) 0 q)

-- on the first link of the way
record OnFirstLink (route : Route) (side : Side) (x : End) : Type 0 where
  pub number : ℕ
  pub circuit : x.circuit ≡ Some number
  pub between : (a b : ℕ) → slice_get (way_of side route) 0 ≡ Some a → slice_get (way_of side route) 1 ≡ Some b → number_between a b route ≡ Some number

stands_on : (s : State) (e : EndId) (b : Binding) (i : Planned) (route : Route) → EndIn s e b i → b.back ≡ over_route route
    → OnFirstLink route e.side (end_in e.side b) → StandsFor s e i (end_in e.side b) (over_route route)
stands_on s e b i route here back h a c p q =
    ap (λ (fs : List Frag). slice_get fs (written_of (end_in e.side b).out))
    (link_calls_are a c s e b route h.number here.binding (ap Rattle.fl_model.specs.Forwarding.route_of back) (h.between a c p q)
    ∙ calls_are h.number s e b i here.binding here.interface)
    ∙ sym (next_on_circuit i (end_in e.side b) h.number h.circuit)

unbound : {P : Type 0} (x : End) → x.circuit ≡ None → is_bound x ≡ true → P
unbound x none h = absurd (let u : false ≡ true = sym (ap is_some none) ∙ h in cc)

client_after : (route : Route) (j : ℕ) (b : Binding) → ClientBoundAfter route j b → is_bound b.client ≡ true → b.client.circuit ≡ Some (number_at route 0)
client_after route zero b h t = h
client_after route (suc j) b h t = unbound b.client h t

first_link_of : (s : State) (side : Side) (b : Binding) (route : Route) (verdict : OpeningVerdict) → 1 ≤ length route.numbers → 2 ≤ length route.cores
    → all_differ route.cores ≡ true → VerdictFits route verdict → BoundBy route verdict b → is_bound (end_in side b) ≡ true
    → OnFirstLink route side (end_in side b)
first_link_of s Client b route undecided n m d f h t = unbound b.client h.0 t
first_link_of s Server b route undecided n m d f h t = unbound b.server h.1 t
first_link_of s Client b route (denied j fault) n m d f h t = unbound b.client h.0 t
first_link_of s Server b route (denied j fault) n m d f h t = unbound b.server h.1 t
first_link_of s Client b route (granted j) n m d f h t = record {
  number = number_at route 0;
  circuit = client_after route j b h.0 t;
  between = λ a c p q. number_is route 0 1 a c d p q ∙ slice_get-get_or route.numbers 0 0 (omega (arith, n));
}
first_link_of s Server b route (granted j) n m d f h t = record {
  number = number_at route (length route.numbers - 1);
  circuit = h.1;
  between = λ a c p q.
      let i : ℕ = length route.cores - 1 - 0 in
      let k : ℕ = length route.cores - 1 - 1 in
      let fits = f.0 in
      let least : min (length route.cores - 1 - 0) (length route.cores - 1 - 1) ≡ length route.numbers - 1 = omega (arith, fits, m) in
      number_is route (length route.cores - 1 - 0) (length route.cores - 1 - 1) a c d (from_behind route.cores 0 a p) (from_behind route.cores 1 c q)
      ∙ ap (slice_get route.numbers) least
      ∙ slice_get-get_or route.numbers (length route.numbers - 1) 0 (omega (arith, n));
}

pub next_is_written : (s : State) (e : EndId) (b : Binding) (i : Planned) → RoutesLead s → NumbersGoAlongRoutes s → VerdictsFit s → EndsAreBound s
    → EndIn s e b i → is_bound (end_in e.side b) ≡ true → StandsFor s e i (end_in e.side b) b.back
next_is_written s e b i lead go fit bounds here t = by_back b.back refl where
  bound_where : (back : Back) → b.back ≡ back → BoundWhere back b
  bound_where back r = subst (λ (x : Back). BoundWhere x b) r (bounds e.binding b here.binding)

  by_back : (back : Back) → b.back ≡ back → StandsFor s e i (end_in e.side b) back
  by_back local r = stands_off s e b i here (on_zero e.side b (bound_where local r))
  by_back (over_ring n) r = stands_off s e b i here (on_zero e.side b (bound_where (over_ring n) r))
  by_back (over_route route) r =
      let routed : Routed s e.binding route = record { binding = b; there = here.binding; back = r } in
      let leads = lead e.binding route routed in
      let goes = go e.binding route routed in
      stands_on s e b i route here r
      (first_link_of s e.side b route route.verdict goes.some leads.some leads.differ (fit e.binding route routed) (bound_where (over_route route) r) t)
