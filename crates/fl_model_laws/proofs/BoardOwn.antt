-- The entries of the binding whose circuit changed: an opening went on, arrived or failed; an answer went back.
use Rattle.std.proofs.Common.{◌≡◌, ◌≢◌, refl, sym, ◌∙◌, ap, subst, ℕ, zero, suc, ◌+◌, ◌-◌, ◌<◌, ◌≤◌, ◌==◌, Bool, false, if◌then◌else◌, ◌⊎◌, inl, inr}
use Rattle.std.proofs.Common.{List, [], ◌∷◌, ◌++◌, length, slice_index, Some, None, arith}
use Rattle.std.proofs.lemmas.Bool.{ne_eqb, eq-eqb}
use Rattle.fl_base.specs.declared.identity.Side.TheVariants.{Client, Server}
use Rattle.fl_hop.specs.declared.entry.Hop.{Hop}
use Rattle.fl_hop.proofs.Entering.{same_or}
use Rattle.fl_model.specs.State.{OpeningVerdict, undecided, granted, denied, Route}
use Rattle.fl_model.specs.Binding.{end_id}
use Rattle.fl_model.specs.Forwarding.{with_number, grants, denies, passes_word, word_passes}
use Rattle.fl_model.specs.Standing.{core_at, number_at, standing, standing_by, asking, asking_by}
use Rattle.fl_model.specs.SoundRoutes.{VerdictFits}
use Rattle.fl_model.specs.SoundEntries.{Leads, to_this, on_to, behind, ahead, Key, near_key, far_key}
use Rattle.fl_model_laws.proofs.PlacesStep.{length_push}
use Rattle.fl_model_laws.proofs.Boards.{Board, Says, Stands, StandOn, DueNear, DueFar, DueOn, WaitsOn, Fits, Known, IsRoute, some_is, Changes, Own, says_on}

-- ---- numbers

pub index_push : (xs : List ℕ) (d j : ℕ) → j < length xs → slice_index (xs ++ d ∷ []) j ≡ slice_index xs j
index_push [] d j h = absurd (omega arith)
index_push (x ∷ xs) d zero h = refl
index_push (x ∷ xs) d (suc j) h = index_push xs d j (let e : suc j < length (x ∷ xs) = h in omega arith)

pub index_last : (xs : List ℕ) (d : ℕ) → slice_index (xs ++ d ∷ []) (length xs) ≡ d
index_last [] d = refl
index_last (x ∷ xs) d = index_last xs d

-- ---- a key at which an entry is due

way_at : (c : Board) (key at : Key) (hop : Hop) (n : ℕ) (leads : Leads) → Stands c at n leads → key ≡ at → c.hops key ≡ Some hop → Says c key.core hop.way leads
way_at c key at hop n leads s e q =
    let one : s.hop ≡ hop = some_is (c.hops at) s.hop hop s.there (ap c.hops (sym e) ∙ q) in
    subst (λ (k : Key). Says c k.core hop.way leads) (sym e) (subst (λ (h : Hop). Says c at.core h.way leads) one s.way)

pub due_near_at : (c : Board) (key : Key) (hop : Hop) (n : ℕ) (route : Route) (j : ℕ) → Stands c (near_key route j) n (behind n route j) → key ≡ near_key route j
    → c.hops key ≡ Some hop → j < length route.numbers → j < standing route → DueNear c key hop n route j
due_near_at c key hop n route j s e q a b =
    record { within = a; stands = b; key_is = e; way = way_at c key (near_key route j) hop n (behind n route j) s e q }

pub due_far_at : (c : Board) (key : Key) (hop : Hop) (n : ℕ) (route : Route) (j : ℕ) → Stands c (far_key route j) n (ahead n route (j + 1)) → key ≡ far_key route j
    → c.hops key ≡ Some hop → j < length route.numbers → j + 1 < standing route → DueFar c key hop n route j
due_far_at c key hop n route j s e q a b =
    record { within = a; stands = b; key_is = e; way = way_at c key (far_key route j) hop n (ahead n route (j + 1)) s e q }

abbrev pub Elsewhere : Board → Board → ℕ → Type 0
Elsewhere b c core = (key : Key) → (key.core ≡ core → ⊥) → c.hops key ≡ b.hops key

stands_else : (b c : Board) (n core : ℕ) (key : Key) (leads : Leads) → Changes b c n → Elsewhere b c core → (key.core ≡ core → ⊥) → Stands b key n leads → Stands c key n leads
stands_else b c n core key leads ch e away s = record {
  hop = s.hop;
  there = e key away ∙ s.there;
  binding_is = s.binding_is;
  way = says_on b c key.core s.hop.way leads (ch.places key.core) s.way;
}

-- two cores of a route at different places differ
cores_apart : (route : Route) → IsRoute route → (i j : ℕ) → i < length route.cores → j < length route.cores → i ≢ j → core_at route i ≡ core_at route j → ⊥
cores_apart route is i j a b ne e = ne (is.apart i j a b e)

-- of an old entry of the binding's own, its place
its_due : (b : Board) (n : ℕ) (route : Route) (key : Key) (hop : Hop) → Fits b → b.routes n ≡ Some route → b.hops key ≡ Some hop → hop.binding ≡ n → DueOn b key hop n route
its_due b n route key hop f at q e =
    let (other, there, due) = f.due key hop q in
    let same : other ≡ route = some_is (b.routes n) other route (ap b.routes (sym e) ∙ there) at in
    subst (DueOn b key hop n) same (subst (λ (m : ℕ). DueOn b key hop m other) e due)

-- ---- an opening went on

abbrev pub next_key : Route → ℕ → Key
next_key route d =
    let t = length route.numbers in record { core = core_at route t; neighbour = core_at route (t + 1); number = d }

abbrev pub IsFar : Key → Route → ℕ → Type 0
IsFar key route i = (j : ℕ) × ((suc j ≡ i) × (key ≡ far_key route j))

pub record WentOn (b c : Board) (n : ℕ) (route : Route) (d : ℕ) : Type 0 where
  pub was : b.routes n ≡ Some route
  pub verdict : route.verdict ≡ undecided
  pub more : length route.numbers + 1 < length route.cores
  pub is : c.routes n ≡ Some (with_number d route)
  pub changes : Changes b c n
  pub elsewhere : Elsewhere b c (core_at route (length route.numbers))
  pub near : Stands c (next_key route d) n (behind n route (length route.numbers))
  pub fresh : near.hop.answered ≡ false
  pub far : (j : ℕ) → suc j ≡ length route.numbers → Stands c (far_key route j) n (on_to (core_at route (length route.numbers + 1)) d)
  pub came : (key : Key) (hop : Hop) → c.hops key ≡ Some hop → hop.binding ≡ n
      → (b.hops key ≡ Some hop) ⊎ ((key ≡ next_key route d) ⊎ IsFar key route (length route.numbers))

module _ (b c : Board) (n : ℕ) (route : Route) (d : ℕ) (known : Known b) (h : WentOn b c n route d) where
  after : Route
  after = with_number d route

  stands_were : standing route ≡ length route.numbers
  stands_were = ap (standing_by route) h.verdict

  stands_are : standing (with_number d route) ≡ length route.numbers + 1
  stands_are = ap (standing_by (with_number d route)) h.verdict ∙ length_push route.numbers d

  asks_were : asking route ≡ length route.numbers
  asks_were = ap (asking_by route) h.verdict

  asks_are : asking (with_number d route) ≡ length route.numbers + 1
  asks_are = ap (asking_by (with_number d route)) h.verdict ∙ length_push route.numbers d

  route_is : IsRoute route
  route_is = known.routes n route h.was

  same_near : (j : ℕ) → j < length route.numbers → near_key (with_number d route) j ≡ near_key route j
  same_near j l =
      ap (λ (k : ℕ). (let x : Key = record { core = core_at route j; neighbour = core_at route (j + 1); number = k } in x)) (index_push route.numbers d j l)

  same_far : (j : ℕ) → j < length route.numbers → far_key (with_number d route) j ≡ far_key route j
  same_far j l =
      ap (λ (k : ℕ). (let x : Key = record { core = core_at route (j + 1); neighbour = core_at route j; number = k } in x)) (index_push route.numbers d j l)

  last_near : near_key (with_number d route) (length route.numbers) ≡ next_key route d
  last_near = ap (λ (k : ℕ). (let x : Key = record { core = core_at route (length route.numbers); neighbour = core_at route (length route.numbers + 1); number = k } in x))
      (index_last route.numbers d)

  same_behind : (j : ℕ) → j ≤ length route.numbers → behind n (with_number d route) j ≡ behind n route j
  same_behind zero l = refl
  same_behind (suc j) l = ap (on_to (core_at route j)) (index_push route.numbers d j (omega arith))

  same_ahead : (j : ℕ) → j < length route.numbers → ahead n (with_number d route) j ≡ ahead n route j
  same_ahead j l =
      ap (λ (k : ℕ). if j + 1 == length route.cores then to_this (end_id n Server) else on_to (core_at route (j + 1)) k) (index_push route.numbers d j l)

  last_ahead : (j : ℕ) → suc j ≡ length route.numbers → ahead n (with_number d route) (j + 1) ≡ on_to (core_at route (length route.numbers + 1)) d
  last_ahead j e =
      let at : j + 1 ≡ length route.numbers = omega (arith, e) in
      let more : length route.numbers + 1 < length route.cores = h.more in
      ap (ahead n (with_number d route)) at
      ∙ ap (λ (t : Bool). if t then to_this (end_id n Server) else on_to (core_at route (length route.numbers + 1)) (number_at (with_number d route) (length route.numbers)))
      (ne_eqb (length route.numbers + 1) (length route.cores) (λ same. absurd (omega (arith, same, more))))
      ∙ ap (on_to (core_at route (length route.numbers + 1))) (index_last route.numbers d)

  off_core : (j : ℕ) → j < length route.numbers → core_at route j ≡ core_at route (length route.numbers) → ⊥
  off_core j l = let more = h.more in cores_apart route route_is j (length route.numbers) (omega arith) (omega arith) (λ e. absurd (omega arith))

  went_near : (j : ℕ) → j < standing (with_number d route) → Stands c (near_key (with_number d route) j) n (behind n (with_number d route) j)
  went_near j p = elim (same_or j (length route.numbers)) [
    | inl e ↦ subst (λ (i : ℕ). Stands c (near_key (with_number d route) i) n (behind n (with_number d route) i)) (sym e)
        (subst (λ (k : Key). Stands c k n (behind n (with_number d route) (length route.numbers))) (sym last_near)
        (subst (Stands c (next_key route d) n) (sym (same_behind (length route.numbers) (omega arith))) h.near))
    | inr ne ↦
        (let st = stands_are in
        let were = stands_were in
        let l : j < length route.numbers = omega arith in
        subst (λ (k : Key). Stands c k n (behind n (with_number d route) j)) (sym (same_near j l))
        (subst (Stands c (near_key route j) n) (sym (same_behind j (omega arith)))
        (stands_else b c n (core_at route (length route.numbers)) (near_key route j) (behind n route j) h.changes h.elsewhere (off_core j l)
        ((known.fits.stand n route h.was).near j (omega arith) l))))
  ]

  went_far : (j : ℕ) → j + 1 < standing (with_number d route) → Stands c (far_key (with_number d route) j) n (ahead n (with_number d route) (j + 1))
  went_far j p =
      let st = stands_are in
      let were = stands_were in
      let l : j < length route.numbers = omega arith in
      subst (λ (k : Key). Stands c k n (ahead n (with_number d route) (j + 1))) (sym (same_far j l))
      (elim (same_or (suc j) (length route.numbers)) [
        | inl e ↦ subst (Stands c (far_key route j) n) (sym (last_ahead j e)) (h.far j e)
        | inr ne ↦
            (let k : j + 1 < length route.numbers = omega arith in
            subst (Stands c (far_key route j) n) (sym (same_ahead (j + 1) k))
            (stands_else b c n (core_at route (length route.numbers)) (far_key route j) (ahead n route (j + 1)) h.changes h.elsewhere (off_core (j + 1) k)
            ((known.fits.stand n route h.was).far j (omega arith) l)))
      ])

  went_due : (key : Key) (hop : Hop) → c.hops key ≡ Some hop → hop.binding ≡ n → DueOn c key hop n (with_number d route)
  went_due key hop q e =
      let st = stands_are in
      let were = stands_were in
      let long = length_push route.numbers d in
      elim (h.came key hop q e) [
        | inl old ↦
            (let (j, due) = its_due b n route key hop known.fits h.was old e in (
              j,
              elim due [
                | inl a ↦ (let w : j < length route.numbers = a.within in inl (record {
                  within = omega arith;
                  stands = omega arith;
                  key_is = a.key_is ∙ sym (same_near j w);
                  way = subst (Says c key.core hop.way) (sym (same_behind j (omega arith))) (says_on b c key.core hop.way (behind n route j) (h.changes.places key.core) a.way);
                }))
                | inr a ↦ (let w : j < length route.numbers = a.within in let s : j + 1 < standing route = a.stands in inr (record {
                  within = omega arith;
                  stands = omega arith;
                  key_is = a.key_is ∙ sym (same_far j w);
                  way = subst (Says c key.core hop.way) (sym (same_ahead (j + 1) (omega arith))) (says_on b c key.core hop.way (ahead n route (j + 1)) (h.changes.places key.core) a.way);
                }))
              ],
            ))
        | inr new ↦ elim new [
          | inl is ↦ (
            length route.numbers,
            inl (due_near_at c key hop n (with_number d route) (length route.numbers) (went_near (length route.numbers) (omega arith)) (is ∙ sym last_near) q
                (omega arith) (omega arith)),
          )
          | inr (j, (at, is)) ↦ (
            j,
            inr (due_far_at c key hop n (with_number d route) j (went_far j (omega (arith, at, st))) (is ∙ sym (same_far j (omega (arith, at)))) q
                (omega (arith, at, long)) (omega (arith, at, st))),
          )
        ]
      ]

  went_wait : WaitsOn c (with_number d route)
  went_wait j p = elim (same_or j (length route.numbers)) [
    | inl e ↦ (h.near.hop, ap (λ (i : ℕ). c.hops (near_key (with_number d route) i)) e ∙ ap c.hops last_near ∙ h.near.there, h.fresh)
    | inr ne ↦
        (let st = asks_are in
        let were = asks_were in
        let l : j < length route.numbers = omega arith in
        let (hop, there, bare) = known.fits.wait n route h.was j (omega arith) in
        (hop, ap c.hops (same_near j l) ∙ h.elsewhere (near_key route j) (off_core j l) ∙ there, bare))
  ]

  pub went_own : Own c n
  went_own = record {
    stand = λ r q. subst (StandOn c n) (some_is (c.routes n) (with_number d route) r h.is q)
        (record { near = λ j p w. went_near j p; far = λ j p w. went_far j p });
    due = λ key hop q e. (with_number d route, h.is, went_due key hop q e);
    wait = λ r q. subst (WaitsOn c) (some_is (c.routes n) (with_number d route) r h.is q) went_wait;
  }

-- ---- an opening arrived

pub record Arrived (b c : Board) (n : ℕ) (route : Route) : Type 0 where
  pub was : b.routes n ≡ Some route
  pub verdict : route.verdict ≡ undecided
  pub last : length route.numbers + 1 ≡ length route.cores
  pub is : c.routes n ≡ Some (grants route)
  pub changes : Changes b c n
  pub elsewhere : Elsewhere b c (core_at route (length route.numbers))
  pub far : (j : ℕ) → suc j ≡ length route.numbers → Stands c (far_key route j) n (to_this (end_id n Server))
  pub came : (key : Key) (hop : Hop) → c.hops key ≡ Some hop → hop.binding ≡ n → (b.hops key ≡ Some hop) ⊎ IsFar key route (length route.numbers)

module _ (b c : Board) (n : ℕ) (route : Route) (known : Known b) (h : Arrived b c n route) where
  stood : standing route ≡ length route.numbers
  stood = ap (standing_by route) h.verdict

  asked : asking route ≡ length route.numbers
  asked = ap (asking_by route) h.verdict

  off_last : (j : ℕ) → j < length route.numbers → core_at route j ≡ core_at route (length route.numbers) → ⊥
  off_last j l = let last = h.last in cores_apart route (known.routes n route h.was) j (length route.numbers) (omega arith) (omega arith) (λ e. absurd (omega arith))

  ahead_last : (j : ℕ) → suc j ≡ length route.numbers → ahead n route (j + 1) ≡ to_this (end_id n Server)
  ahead_last j e =
      let last = h.last in
      ap (λ (t : Bool). if t then to_this (end_id n Server) else on_to (core_at route (j + 1 + 1)) (number_at route (j + 1)))
      (eq-eqb (j + 1 + 1) (length route.cores) (omega (arith, e, last)))

  arrived_near : (j : ℕ) → j < length route.numbers → Stands c (near_key route j) n (behind n route j)
  arrived_near j l =
      let were = stood in
      stands_else b c n (core_at route (length route.numbers)) (near_key route j) (behind n route j) h.changes h.elsewhere (off_last j l)
      ((known.fits.stand n route h.was).near j (omega arith) l)

  arrived_far : (j : ℕ) → j < length route.numbers → Stands c (far_key route j) n (ahead n route (j + 1))
  arrived_far j l = elim (same_or (suc j) (length route.numbers)) [
    | inl e ↦ subst (Stands c (far_key route j) n) (sym (ahead_last j e)) (h.far j e)
    | inr ne ↦
        (let were = stood in
        let k : j + 1 < length route.numbers = omega arith in
        stands_else b c n (core_at route (length route.numbers)) (far_key route j) (ahead n route (j + 1)) h.changes h.elsewhere (off_last (j + 1) k)
        ((known.fits.stand n route h.was).far j (omega arith) l))
  ]

  arrived_due : (key : Key) (hop : Hop) → c.hops key ≡ Some hop → hop.binding ≡ n → DueOn c key hop n (grants route)
  arrived_due key hop q e =
      let were = stood in
      let last = h.last in
      elim (h.came key hop q e) [
        | inl old ↦
            (let (j, due) = its_due b n route key hop known.fits h.was old e in (
              j,
              elim due [
                | inl a ↦ (let w : j < length route.numbers = a.within in inl (record {
                  within = w;
                  stands = (let s : j < length route.cores = omega arith in s);
                  key_is = a.key_is;
                  way = says_on b c key.core hop.way (behind n route j) (h.changes.places key.core) a.way;
                }))
                | inr a ↦ (let w : j < length route.numbers = a.within in inr (record {
                  within = w;
                  stands = (let s : j + 1 < length route.cores = omega arith in s);
                  key_is = a.key_is;
                  way = says_on b c key.core hop.way (ahead n route (j + 1)) (h.changes.places key.core) a.way;
                }))
              ],
            ))
        | inr (j, (at, is)) ↦
            (let w : j < length route.numbers = omega (arith, at) in
            let s : j + 1 < length route.cores = omega (arith, at, last) in
            (j, inr (due_far_at c key hop n (grants route) j (arrived_far j w) is q w s)))
      ]

  arrived_wait : (j : ℕ) → j < length route.cores - 1 → (hop : Hop) × (c.hops (near_key route j) ≡ Some hop) × (hop.answered ≡ false)
  arrived_wait j p =
      let last = h.last in
      let were = asked in
      let l : j < length route.numbers = omega arith in
      let (hop, there, bare) = known.fits.wait n route h.was j (omega arith) in
      (hop, h.elsewhere (near_key route j) (off_last j l) ∙ there, bare)

  pub arrived_own : Own c n
  arrived_own = record {
    stand = λ r q. subst (StandOn c n) (some_is (c.routes n) (grants route) r h.is q) (record { near = λ j p w. arrived_near j w; far = λ j p w. arrived_far j w });
    due = λ key hop q e. (grants route, h.is, arrived_due key hop q e);
    wait = λ r q. subst (WaitsOn c) (some_is (c.routes n) (grants route) r h.is q) (λ j p. arrived_wait j p);
  }

-- ---- an opening failed

pub record Failed (b c : Board) (n : ℕ) (route : Route) (fault : ℕ) : Type 0 where
  pub was : b.routes n ≡ Some route
  pub verdict : route.verdict ≡ undecided
  pub is : c.routes n ≡ Some (denies fault route)
  pub places : (core neighbour l : ℕ) → b.places core neighbour ≡ Some l → c.places core neighbour ≡ Some l
  pub hops : (key : Key) → c.hops key ≡ b.hops key

pub failed_own : (b c : Board) (n : ℕ) (route : Route) (fault : ℕ) → Known b → Failed b c n route fault → Own c n
failed_own b c n route fault known h = record {
  stand = λ r q. subst (StandOn c n) (some_is (c.routes n) (denies fault route) r h.is q) (record {
    near = λ j p w. stays (near_key route j) (behind n route j) ((known.fits.stand n route h.was).near j (below j p) w);
    far = λ j p w. stays (far_key route j) (ahead n route (j + 1)) ((known.fits.stand n route h.was).far j (below (j + 1) p) w);
  });
  due = λ key hop q e. (denies fault route, h.is, dues key hop q e);
  wait = λ r q. subst (WaitsOn c) (some_is (c.routes n) (denies fault route) r h.is q)
      (λ j p. let (hop, there, bare) = known.fits.wait n route h.was j (waits j p) in (hop, h.hops (near_key route j) ∙ there, bare));
}
  where
    stood : standing route ≡ length route.numbers
    stood = ap (standing_by route) h.verdict

    below : (j : ℕ) → j < length route.numbers → j < standing route
    below j p = let were = stood in omega arith

    waits : (j : ℕ) → j < length route.numbers → j < asking route
    waits j p = let were : asking route ≡ length route.numbers = ap (asking_by route) h.verdict in omega arith

    stays : (key : Key) (leads : Leads) → Stands b key n leads → Stands c key n leads
    stays key leads s = record {
      hop = s.hop;
      there = h.hops key ∙ s.there;
      binding_is = s.binding_is;
      way = says_on b c key.core s.hop.way leads (h.places key.core) s.way;
    }

    dues : (key : Key) (hop : Hop) → c.hops key ≡ Some hop → hop.binding ≡ n → DueOn c key hop n (denies fault route)
    dues key hop q e =
        let were = stood in
        let (j, due) = its_due b n route key hop known.fits h.was (sym (h.hops key) ∙ q) e in (
          j,
          elim due [
            | inl a ↦ inl (record {
              within = a.within;
              stands = (let s : j < length route.numbers = a.within in s);
              key_is = a.key_is;
              way = says_on b c key.core hop.way (behind n route j) (h.places key.core) a.way;
            })
            | inr a ↦ (let t : j + 1 < standing route = a.stands in inr (record {
              within = a.within;
              stands = (let s : j + 1 < length route.numbers = omega arith in s);
              key_is = a.key_is;
              way = says_on b c key.core hop.way (ahead n route (j + 1)) (h.places key.core) a.way;
            }))
          ],
        )

-- ---- the answer that the circuit is open came to core i of the route: its entry there is marked

pub record OpenedBack (b c : Board) (n : ℕ) (route : Route) (i : ℕ) : Type 0 where
  pub was : b.routes n ≡ Some route
  pub verdict : route.verdict ≡ granted (suc i)
  pub is : c.routes n ≡ Some (passes_word route)
  pub changes : Changes b c n
  pub elsewhere : Elsewhere b c (core_at route i)
  pub near : Stands c (near_key route i) n (behind n route i)
  pub far : (j : ℕ) → suc j ≡ i → Stands c (far_key route j) n (ahead n route (j + 1))
  pub came : (key : Key) (hop : Hop) → c.hops key ≡ Some hop → hop.binding ≡ n → (b.hops key ≡ Some hop) ⊎ ((key ≡ near_key route i) ⊎ IsFar key route i)

module _ (b c : Board) (n : ℕ) (route : Route) (i : ℕ) (known : Known b) (h : OpenedBack b c n route i) where
  granted_fits : VerdictFits route (granted (suc i))
  granted_fits = subst (VerdictFits route) h.verdict (known.routes n route h.was).verdict

  back_stood : standing route ≡ length route.cores
  back_stood = ap (standing_by route) h.verdict

  back_stands : standing (passes_word route) ≡ length route.cores
  back_stands = ap (λ (v : OpeningVerdict). standing_by (passes_word route) (word_passes v)) h.verdict

  back_asked : asking route ≡ suc i
  back_asked = ap (asking_by route) h.verdict

  back_asks : asking (passes_word route) ≡ i
  back_asks = ap (λ (v : OpeningVerdict). asking_by (passes_word route) (word_passes v)) h.verdict ∙ (let e : suc i - 1 ≡ i = omega arith in e)

  off_place : (j : ℕ) → j < length route.cores → j ≢ i → core_at route j ≡ core_at route i → ⊥
  off_place j l ne =
      let whole : length route.numbers + 1 ≡ length route.cores = granted_fits.0 in
      let fits : suc i ≤ length route.numbers = granted_fits.1 in
      cores_apart route (known.routes n route h.was) j i l (omega arith) ne

  back_near : (j : ℕ) → j < length route.numbers → Stands c (near_key route j) n (behind n route j)
  back_near j l = elim (same_or j i) [
    | inl e ↦ subst (λ (k : ℕ). Stands c (near_key route k) n (behind n route k)) (sym e) h.near
    | inr ne ↦
        (let whole : length route.numbers + 1 ≡ length route.cores = granted_fits.0 in
        let were = back_stood in
        stands_else b c n (core_at route i) (near_key route j) (behind n route j) h.changes h.elsewhere (off_place j (omega arith) ne)
        ((known.fits.stand n route h.was).near j (omega arith) l))
  ]

  back_far : (j : ℕ) → j < length route.numbers → Stands c (far_key route j) n (ahead n route (j + 1))
  back_far j l = elim (same_or (suc j) i) [
    | inl e ↦ h.far j e
    | inr ne ↦
        (let whole : length route.numbers + 1 ≡ length route.cores = granted_fits.0 in
        let were = back_stood in
        stands_else b c n (core_at route i) (far_key route j) (ahead n route (j + 1)) h.changes h.elsewhere (off_place (j + 1) (omega arith) (λ e. ne (omega (arith, e))))
        ((known.fits.stand n route h.was).far j (omega arith) l))
  ]

  back_due : (key : Key) (hop : Hop) → c.hops key ≡ Some hop → hop.binding ≡ n → DueOn c key hop n (passes_word route)
  back_due key hop q e =
      let whole : length route.numbers + 1 ≡ length route.cores = granted_fits.0 in
      let fits : suc i ≤ length route.numbers = granted_fits.1 in
      let st = back_stands in
      elim (h.came key hop q e) [
        | inl old ↦
            (let (j, due) = its_due b n route key hop known.fits h.was old e in (
              j,
              elim due [
                | inl a ↦ (let w : j < length route.numbers = a.within in inl (record {
                  within = w;
                  stands = omega arith;
                  key_is = a.key_is;
                  way = says_on b c key.core hop.way (behind n route j) (h.changes.places key.core) a.way;
                }))
                | inr a ↦ (let w : j < length route.numbers = a.within in inr (record {
                  within = w;
                  stands = omega arith;
                  key_is = a.key_is;
                  way = says_on b c key.core hop.way (ahead n route (j + 1)) (h.changes.places key.core) a.way;
                }))
              ],
            ))
        | inr new ↦ elim new [
          | inl is ↦ (i, inl (due_near_at c key hop n (passes_word route) i h.near is q (omega arith) (omega arith)))
          | inr (j, (at, is)) ↦ (j, inr (due_far_at c key hop n (passes_word route) j (h.far j at) is q (omega (arith, at, fits)) (omega (arith, at, fits, whole, st))))
        ]
      ]

  back_wait : WaitsOn c (passes_word route)
  back_wait j p =
      let whole : length route.numbers + 1 ≡ length route.cores = granted_fits.0 in
      let fits : suc i ≤ length route.numbers = granted_fits.1 in
      let asks = back_asks in
      let were = back_asked in
      let (hop, there, bare) = known.fits.wait n route h.was j (omega arith) in
      (hop, h.elsewhere (near_key route j) (off_place j (omega arith) (λ e. absurd (omega (arith, e, p, asks)))) ∙ there, bare)

  pub back_own : Own c n
  back_own = record {
    stand = λ r q. subst (StandOn c n) (some_is (c.routes n) (passes_word route) r h.is q) (record { near = λ j p w. back_near j w; far = λ j p w. back_far j w });
    due = λ key hop q e. (passes_word route, h.is, back_due key hop q e);
    wait = λ r q. subst (WaitsOn c) (some_is (c.routes n) (passes_word route) r h.is q) back_wait;
  }

-- ---- the answer that it is refused came to core i of the route: its entry there is gone

pub record RefusedBack (b c : Board) (n : ℕ) (route : Route) (i fault : ℕ) : Type 0 where
  pub was : b.routes n ≡ Some route
  pub verdict : route.verdict ≡ denied (suc i) fault
  pub is : c.routes n ≡ Some (passes_word route)
  pub changes : Changes b c n
  pub elsewhere : Elsewhere b c (core_at route i)
  pub near : c.hops (near_key route i) ≡ None
  pub far : (j : ℕ) → suc j ≡ i → c.hops (far_key route j) ≡ None
  pub came : (key : Key) (hop : Hop) → c.hops key ≡ Some hop → b.hops key ≡ Some hop

module _ (b c : Board) (n : ℕ) (route : Route) (i fault : ℕ) (known : Known b) (h : RefusedBack b c n route i fault) where
  denied_fits : suc i ≤ length route.numbers
  denied_fits = subst (VerdictFits route) h.verdict (known.routes n route h.was).verdict

  gone_stood : standing route ≡ suc i
  gone_stood = ap (standing_by route) h.verdict

  gone_stands : standing (passes_word route) ≡ i
  gone_stands = ap (λ (v : OpeningVerdict). standing_by (passes_word route) (word_passes v)) h.verdict ∙ (let e : suc i - 1 ≡ i = omega arith in e)

  gone_asked : asking route ≡ suc i
  gone_asked = ap (asking_by route) h.verdict

  gone_asks : asking (passes_word route) ≡ i
  gone_asks = ap (λ (v : OpeningVerdict). asking_by (passes_word route) (word_passes v)) h.verdict ∙ (let e : suc i - 1 ≡ i = omega arith in e)

  off_gone : (j : ℕ) → j < i → core_at route j ≡ core_at route i → ⊥
  off_gone j l =
      let fits = denied_fits in
      let few = (known.routes n route h.was).few in
      cores_apart route (known.routes n route h.was) j i (omega arith) (omega arith) (λ e. absurd (omega (arith, e, l)))

  not_there : (key at : Key) (hop : Hop) → c.hops key ≡ Some hop → key ≡ at → c.hops at ≡ None → ⊥
  not_there key at hop q e none = let f : Some hop ≡ None = sym q ∙ ap c.hops e ∙ none in absurd (cc)

  gone_stand : StandOn c n (passes_word route)
  gone_stand =
      let st = gone_stands in
      let were = gone_stood in record {
        near = λ j p w. stands_else b c n (core_at route i) (near_key route j) (behind n route j) h.changes h.elsewhere (off_gone j (omega (arith, p, st)))
            ((known.fits.stand n route h.was).near j (omega (arith, p, st, were)) w);
        far = λ j p w. stands_else b c n (core_at route i) (far_key route j) (ahead n route (j + 1)) h.changes h.elsewhere (off_gone (j + 1) (omega (arith, p, st)))
            ((known.fits.stand n route h.was).far j (omega (arith, p, st, were)) w);
      }

  near_left : (key : Key) (hop : Hop) (j : ℕ) → c.hops key ≡ Some hop → DueNear b key hop n route j → DueNear c key hop n (passes_word route) j
  near_left key hop j q a =
      let st = gone_stands in
      let were = gone_stood in
      let s : j < standing route = a.stands in
      let ne : j ≢ i = λ e. not_there key (near_key route i) hop q (a.key_is ∙ ap (near_key route) e) h.near in
      record {
        within = a.within;
        stands = omega arith;
        key_is = a.key_is;
        way = says_on b c key.core hop.way (behind n route j) (h.changes.places key.core) a.way;
      }

  far_left : (key : Key) (hop : Hop) (j : ℕ) → c.hops key ≡ Some hop → DueFar b key hop n route j → DueFar c key hop n (passes_word route) j
  far_left key hop j q a =
      let st = gone_stands in
      let were = gone_stood in
      let s : j + 1 < standing route = a.stands in
      let ne : suc j ≢ i = λ e. not_there key (far_key route j) hop q a.key_is (h.far j e) in
      record {
        within = a.within;
        stands = omega arith;
        key_is = a.key_is;
        way = says_on b c key.core hop.way (ahead n route (j + 1)) (h.changes.places key.core) a.way;
      }

  gone_due : (key : Key) (hop : Hop) → c.hops key ≡ Some hop → hop.binding ≡ n → DueOn c key hop n (passes_word route)
  gone_due key hop q e =
      let (j, due) = its_due b n route key hop known.fits h.was (h.came key hop q) e in (
        j,
        elim due [
          | inl a ↦ inl (near_left key hop j q a)
          | inr a ↦ inr (far_left key hop j q a)
        ],
      )

  gone_wait : WaitsOn c (passes_word route)
  gone_wait j p =
      let asks = gone_asks in
      let were = gone_asked in
      let l : j < i = omega arith in
      let (hop, there, bare) = known.fits.wait n route h.was j (omega arith) in
      (hop, h.elsewhere (near_key route j) (off_gone j l) ∙ there, bare)

  pub gone_own : Own c n
  gone_own = record {
    stand = λ r q. subst (StandOn c n) (some_is (c.routes n) (passes_word route) r h.is q) gone_stand;
    due = λ key hop q e. (passes_word route, h.is, gone_due key hop q e);
    wait = λ r q. subst (WaitsOn c) (some_is (c.routes n) (passes_word route) r h.is q) gone_wait;
  }

-- ---- a circuit was begun

pub record Begun (b c : Board) (n : ℕ) (after : Route) (d : ℕ) : Type 0 where
  pub was : b.routes n ≡ None
  pub is : c.routes n ≡ Some after
  pub numbers : after.numbers ≡ d ∷ []
  pub verdict : after.verdict ≡ undecided
  pub near : Stands c (near_key after 0) n (to_this (end_id n Client))
  pub fresh : near.hop.answered ≡ false
  pub came : (key : Key) (hop : Hop) → c.hops key ≡ Some hop → hop.binding ≡ n → (b.hops key ≡ Some hop) ⊎ (key ≡ near_key after 0)

pub begun_own : (b c : Board) (n : ℕ) (after : Route) (d : ℕ) → Known b → Begun b c n after d → Own c n
begun_own b c n after d known h = record {
  stand = λ r q. subst (StandOn c n) (some_is (c.routes n) after r h.is q) (record {
    near = λ j p w. subst (λ (k : ℕ). Stands c (near_key after k) n (behind n after k)) (sym (only j w)) h.near;
    far = λ j p w. absurd (let st = stands_one in omega (arith, st, p));
  });
  due = λ key hop q e. elim (h.came key hop q e) [
    | inl old ↦ absurd (let (other, there, due) = known.fits.due key hop old in let f : None ≡ Some other = sym h.was ∙ ap b.routes (sym e) ∙ there in cc)
    | inr is ↦ (after, h.is, (0, inl (due_near_at c key hop n after 0 h.near is q (let l = long in omega arith) (let st = stands_one in omega arith))))
  ];
  wait = λ r q. subst (WaitsOn c) (some_is (c.routes n) after r h.is q)
      (λ j p. (h.near.hop, ap (λ (k : ℕ). c.hops (near_key after k)) (none_else j p) ∙ h.near.there, h.fresh));
}
  where
    long : length after.numbers ≡ 1
    long = ap length h.numbers

    stands_one : standing after ≡ 1
    stands_one = ap (standing_by after) h.verdict ∙ ap length h.numbers

    only : (j : ℕ) → j < length after.numbers → j ≡ 0
    only j w = let l = long in omega arith

    none_else : (j : ℕ) → j < asking after → j ≡ 0
    none_else j p = let one : asking after ≡ 1 = ap (asking_by after) h.verdict ∙ ap length h.numbers in omega arith
