-- A circuit's number on a link, one way, is one end's: two ends whose calls go over a link one way under one number are one.
use Rattle.std.proofs.Common.{◌≡◌, refl, sym, ◌∙◌, ap, subst, ℕ, suc, ◌+◌, ◌-◌, ◌<◌, min, length, reverse, slice_get}
use Rattle.std.proofs.Common.{true, Option, Some, None, arith}
use Rattle.std.proofs.lemmas.List.{length-reverse}
use Rattle.fl_base.specs.declared.identity.EndId.{EndId}
use Rattle.fl_base.specs.declared.identity.Side.{Side}
use Rattle.fl_base.specs.declared.identity.Side.TheVariants.{Client, Server}
use Rattle.fl_base.specs.Given.{given}
use Rattle.fl_model.specs.Binding.{all_differ}
use Rattle.fl_model.specs.State.{Route, Binding, State, place_in, way_of, number_between}
use Rattle.fl_model.specs.Standing.{Routed, core_at, number_at}
use Rattle.fl_model.specs.Sound.{Sound}
use Rattle.fl_model_laws.proofs.ForwardsTold.{place_there}
use Rattle.fl_model_laws.proofs.Routed.{same_route}
use Rattle.fl_model_laws.proofs.Small.{some_same}
use Rattle.fl_model_laws.proofs.Ways.{got_within, got_index, index_got, flipped, once_of}
use Rattle.fl_world_laws.specs.Meaning.{CircuitGoesOver}

-- the core that a route comes to first, of two of which the ways of this side come to x first
abbrev first_by : Side → ℕ → ℕ → ℕ
first_by Client x y = x
first_by Server x y = y

-- places t and t + 1 of a route, of two cores, and the number between them
record AtPlace (side : Side) (route : Route) (a b c : ℕ) : Type 0 where
  t : ℕ
  cores : t + 1 < length route.cores
  first : core_at route t ≡ first_by side a b
  second : core_at route (t + 1) ≡ first_by side b a
  numbers : t < length route.numbers
  number : number_at route t ≡ c

min_next : (n : ℕ) → min n (suc n) ≡ n
min_next n = omega arith

min_before : (n : ℕ) → min (suc n) n ≡ n
min_before n = omega arith

number_at_places : (route : Route) (a b i j : ℕ) → place_in route.cores a ≡ Some i → place_in route.cores b ≡ Some j
    → number_between a b route ≡ slice_get route.numbers (min i j)
number_at_places route a b i j p q =
    ap (λ (o : Option ℕ). given o None λ m. given (place_in route.cores b) None λ n. slice_get route.numbers (min m n)) p
    ∙ ap (λ (o : Option ℕ). given o None λ n. slice_get route.numbers (min i n)) q

at_place : (side : Side) (route : Route) (a b c j : ℕ) → all_differ route.cores ≡ true
    → number_between a b route ≡ Some c → slice_get (way_of side route) j ≡ Some a → slice_get (way_of side route) (suc j) ≡ Some b
    → AtPlace side route a b c
at_place Client route a b c j differ n p q =
    let within = got_within route.cores (suc j) b q in
    let next : j + 1 ≡ suc j = omega arith in
    let near = place_there route.cores j a (got_within route.cores j a p) (got_index route.cores j a p) differ in
    let far = place_there route.cores (suc j) b within (got_index route.cores (suc j) b q) differ in
    let there : slice_get route.numbers j ≡ Some c =
    sym (number_at_places route a b j (suc j) near far ∙ ap (slice_get route.numbers) (min_next j)) ∙ n in
    record {
      t = j;
      cores = omega (arith, within);
      first = got_index route.cores j a p;
      second = ap (core_at route) next ∙ got_index route.cores (suc j) b q;
      numbers = got_within route.numbers j c there;
      number = got_index route.numbers j c there;
    }
at_place Server route a b c j differ n p q =
    let long : length (reverse route.cores) ≡ length route.cores = length-reverse route.cores in
    let within : suc j < length (reverse route.cores) = got_within (reverse route.cores) (suc j) b q in
    let t : ℕ = length route.cores - 1 - suc j in
    let back : length route.cores - 1 - j ≡ suc t = omega (arith, long, within) in
    let next : t + 1 ≡ suc t = omega arith in
    let b_there : slice_get route.cores t ≡ Some b = flipped route.cores (suc j) b q in
    let a_there : slice_get route.cores (suc t) ≡ Some a =
    subst (λ (m : ℕ). slice_get route.cores m ≡ Some a) back (flipped route.cores j a p) in
    let inside = got_within route.cores (suc t) a a_there in
    let near = place_there route.cores (suc t) a inside (got_index route.cores (suc t) a a_there) differ in
    let far = place_there route.cores t b (got_within route.cores t b b_there) (got_index route.cores t b b_there) differ in
    let there : slice_get route.numbers t ≡ Some c =
    sym (number_at_places route a b (suc t) t near far ∙ ap (slice_get route.numbers) (min_before t)) ∙ n in
    record {
      t = t;
      cores = omega (arith, inside);
      first = got_index route.cores t b b_there;
      second = ap (core_at route) next ∙ got_index route.cores (suc t) a a_there;
      numbers = got_within route.numbers t c there;
      number = got_index route.numbers t c there;
    }

same_ends : (e f : EndId) → e.binding ≡ f.binding → e.side ≡ f.side → e ≡ f
same_ends e f p q =
    ap (λ (n : ℕ). (let x : EndId = record { binding = n; side = e.side } in x)) p
    ∙ ap (λ (y : Side). (let x : EndId = record { binding = f.binding; side = y } in x)) q

-- the two cores can't stand on one route in both orders
not_both_ways : (route : Route) (a b c : ℕ) → all_differ route.cores ≡ true → AtPlace Client route a b c
    → AtPlace Server route a b c → ⊥
not_both_ways route a b c differ h k =
    let once = once_of route.cores differ in
    let within = h.cores in
    let inside = k.cores in
    let ab : h.t ≡ k.t + 1 =
    once h.t (k.t + 1) a (index_got route.cores h.t (omega (arith, within)) ∙ ap (λ n. Some n) h.first)
    (index_got route.cores (k.t + 1) inside ∙ ap (λ n. Some n) k.second) in
    let ba : h.t + 1 ≡ k.t =
    once (h.t + 1) k.t b (index_got route.cores (h.t + 1) within ∙ ap (λ n. Some n) h.second)
    (index_got route.cores k.t (omega (arith, inside)) ∙ ap (λ n. Some n) k.first) in
    absurd (omega (arith, ab, ba))

module _ (s : State) (sound : Sound s) (a b c : ℕ) where
  abbrev routed : (e : EndId) (h : CircuitGoesOver s a b c e) → Routed s e.binding h.route
  routed e h = record { binding = h.binding; there = h.binding_is; back = h.back }

  differ : (e : EndId) (h : CircuitGoesOver s a b c e) → all_differ h.route.cores ≡ true
  differ e h = (sound.routes e.binding h.route (routed e h)).differ

  pub same_binding : (e f : EndId) (h : CircuitGoesOver s a b c e) (k : CircuitGoesOver s a b c f) → e.binding ≡ f.binding → h.binding ≡ k.binding
  same_binding e f h k q =
      some_same h.binding k.binding (sym h.binding_is ∙ ap (slice_get s.bindings) q ∙ k.binding_is)

  one_route : (e f : EndId) (h : CircuitGoesOver s a b c e) (k : CircuitGoesOver s a b c f) → e.binding ≡ f.binding → h.route ≡ k.route
  one_route e f h k q = same_route h.route k.route (sym h.back ∙ ap (λ (x : Binding). x.back) (same_binding e f h k q) ∙ k.back)

  by_sides : (x y : Side) (e f : EndId) (h : CircuitGoesOver s a b c e) (k : CircuitGoesOver s a b c f) → e.side ≡ x → f.side ≡ y → AtPlace x h.route a b c
      → AtPlace y k.route a b c → e ≡ f
  by_sides Client Client e f h k p q u v =
      same_ends e f
      (sound.numbers_once e.binding f.binding h.route k.route u.t v.t (routed e h) (routed f k) (record {
        first = u.numbers;
        second = v.numbers;
        from = u.first ∙ sym v.first;
        to = u.second ∙ sym v.second;
        number = u.number ∙ sym v.number;
      })) (p ∙ sym q)
  by_sides Server Server e f h k p q u v =
      same_ends e f
      (sound.numbers_once e.binding f.binding h.route k.route u.t v.t (routed e h) (routed f k) (record {
        first = u.numbers;
        second = v.numbers;
        from = u.first ∙ sym v.first;
        to = u.second ∙ sym v.second;
        number = u.number ∙ sym v.number;
      })) (p ∙ sym q)
  by_sides Client Server e f h k p q u v =
      let same = sound.numbers_once_back e.binding f.binding h.route k.route u.t v.t (routed e h) (routed f k) (record {
        first = u.numbers;
        second = v.numbers;
        from = u.first ∙ sym v.second;
        to = u.second ∙ sym v.first;
        number = u.number ∙ sym v.number;
      }) in
      absurd (not_both_ways k.route a b c (differ f k) (subst (λ (r : Route). AtPlace Client r a b c) (one_route e f h k same) u) v)
  by_sides Server Client e f h k p q u v =
      let same = sound.numbers_once_back e.binding f.binding h.route k.route u.t v.t (routed e h) (routed f k) (record {
        first = u.numbers;
        second = v.numbers;
        from = u.first ∙ sym v.second;
        to = u.second ∙ sym v.first;
        number = u.number ∙ sym v.number;
      }) in
      absurd (not_both_ways k.route a b c (differ f k) v (subst (λ (r : Route). AtPlace Server r a b c) (one_route e f h k same) u))

  pub one_end : (e f : EndId) (h : CircuitGoesOver s a b c e) (k : CircuitGoesOver s a b c f) → e ≡ f
  one_end e f h k =
      by_sides e.side f.side e f h k refl refl (at_place e.side h.route a b c h.place (differ e h) h.number h.near h.far)
      (at_place f.side k.route a b c k.place (differ f k) k.number k.near k.far)
