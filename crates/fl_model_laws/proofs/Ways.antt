-- The way of an end's calls over its route: no core comes twice; and in a sound state a fragment that stands first on a link goes on
-- along it, by its entry, to the next core or to the other end.
use Rattle.std.proofs.Common.{◌≡◌, ◌≢◌, refl, sym, ◌∙◌, ap, subst, ℕ, zero, suc, ◌+◌, ◌-◌, ◌<◌, ◌==◌, min, Bool, true, false, if◌then◌else◌, List, [], ◌∷◌, length, drop, reverse, get_or, slice_get, Some, arith}
use Rattle.std.specs.Prelude.{slice_index}
use Rattle.std.proofs.lemmas.Bool.{eqb-true, eqb-false}
use Rattle.std.proofs.lemmas.List.{length-reverse, get_or-reverse}
use Rattle.std.proofs.lemmas.List.Quantifiers.{position-Some}
use Rattle.fl_base.specs.declared.identity.EndId.{EndId}
use Rattle.fl_base.specs.declared.identity.Side.{Side}
use Rattle.fl_base.specs.declared.identity.Side.TheVariants.{Client, Server}
use Rattle.fl_base.specs.Ends.{peer}
use Rattle.fl_hop.specs.declared.entry.HopTarget.{HopTarget}
use Rattle.fl_hop.specs.declared.entry.HopTarget.TheVariants.{Link as to_link, End as to_end}
use Rattle.fl_hop.specs.declared.entry.Hop.{Hop}
use Rattle.fl_hop.specs.Table.{hop_at}
use Rattle.fl_model.specs.Monitors.{Core, link_to}
use Rattle.fl_model.specs.State.{Route, State, core_of, place_in, number_between}
use Rattle.fl_model.specs.Binding.{all_differ, end_id}
use Rattle.fl_model.specs.Forwarding.{LinkEnd}
use Rattle.fl_model.specs.Standing.{core_at, number_at, standing}
use Rattle.fl_model.specs.SoundEntries.{Leads, to_this, on_to, behind, ahead, SaysWay, Key, EntryAt, near_key, far_key, EntryIs, EntriesStandOn}
use Rattle.fl_model_laws.proofs.Arriving.{place_is}
use Rattle.fl_model_laws.proofs.BindingWalk.{given_there}
use Rattle.fl_model_laws.proofs.Hearing.{LinkThere}
use Rattle.fl_model_laws.proofs.Scenes.{way_on}

-- ---- lists

pub got_within : (xs : List ℕ) (i x : ℕ) → slice_get xs i ≡ Some x → i < length xs
got_within [] i x h = absurd (cc)
got_within (y ∷ xs) zero x h = omega arith
got_within (y ∷ xs) (suc i) x h = let k : i < length xs = got_within xs i x h in omega arith

pub got_index : (xs : List ℕ) (i x : ℕ) → slice_get xs i ≡ Some x → slice_index xs i ≡ x
got_index [] i x h = absurd (cc)
got_index (y ∷ xs) zero x h = let e : y ≡ x = cc in e
got_index (y ∷ xs) (suc i) x h = got_index xs i x h

pub index_got : (xs : List ℕ) (i : ℕ) → i < length xs → slice_get xs i ≡ Some (slice_index xs i)
index_got [] i h = absurd (omega arith)
index_got (y ∷ xs) zero h = refl
index_got (y ∷ xs) (suc i) h = index_got xs i (omega arith)

get_got : (xs : List ℕ) (i d : ℕ) → i < length xs → slice_get xs i ≡ Some (get_or xs i d)
get_got [] i d h = absurd (omega arith)
get_got (y ∷ xs) zero d h = refl
get_got (y ∷ xs) (suc i) d h = get_got xs i d (omega arith)

pub flipped : (xs : List ℕ) (i x : ℕ) → slice_get (reverse xs) i ≡ Some x → slice_get xs (length xs - 1 - i) ≡ Some x
flipped xs i x h =
    let long : length (reverse xs) ≡ length xs = length-reverse xs in
    let within : i < length (reverse xs) = got_within (reverse xs) i x h in
    get_got xs (length xs - 1 - i) 0 (omega arith) ∙ ap (λ n. Some n) (sym (get_or-reverse xs i 0 (omega arith)))
    ∙ sym (get_got (reverse xs) i 0 within) ∙ h

pub flipped_back : (xs : List ℕ) (i x : ℕ) → i < length xs → slice_get xs (length xs - 1 - i) ≡ Some x → slice_get (reverse xs) i ≡ Some x
flipped_back xs i x a h =
    let long : length (reverse xs) ≡ length xs = length-reverse xs in
    get_got (reverse xs) i 0 (omega arith) ∙ ap (λ n. Some n) (get_or-reverse xs i 0 a) ∙ sym (get_got xs (length xs - 1 - i) 0 (omega arith)) ∙ h

abbrev pub Once : List ℕ → Type 0
Once xs = (i j x : ℕ) → slice_get xs i ≡ Some x → slice_get xs j ≡ Some x → i ≡ j

pub once_of : (xs : List ℕ) → all_differ xs ≡ true → Once xs
once_of xs d i j x p q =
    sym (place_is xs i x (got_within xs i x p) (got_index xs i x p) d) ∙ place_is xs j x (got_within xs j x q) (got_index xs j x q) d

once_back : (xs : List ℕ) → Once xs → Once (reverse xs)
once_back xs h i j x p q =
    let long : length (reverse xs) ≡ length xs = length-reverse xs in
    let a : i < length (reverse xs) = got_within (reverse xs) i x p in
    let b : j < length (reverse xs) = got_within (reverse xs) j x q in
    let e = h (length xs - 1 - i) (length xs - 1 - j) x (flipped xs i x p) (flipped xs j x q) in
    omega arith

pub once_on : (side : Side) (cores : List ℕ) → Once cores → Once (way_on side cores)
once_on Client cores h = h
once_on Server cores h = once_back cores h

pub way_long : (side : Side) (cores : List ℕ) → length (way_on side cores) ≡ length cores
way_long Client cores = refl
way_long Server cores = length-reverse cores

pub place_got : (xs : List ℕ) (core j : ℕ) → place_in xs core ≡ Some j → slice_get xs j ≡ Some core
place_got xs core j h =
    let f = position-Some (λ c. c == core) xs j 0 h in
    get_got xs j 0 f.0 ∙ ap (λ n. Some n) (eqb-true (get_or xs j 0) core f.1)

pub dropped_got : (xs : List ℕ) (j : ℕ) → slice_get (drop 1 xs) j ≡ slice_get xs (suc j)
dropped_got [] j = refl
dropped_got (x ∷ xs) j = refl

-- ---- a fragment goes on along its way

abbrev pub LeadsOn : List ℕ → ℕ → Core → EndId → HopTarget → Type 0
LeadsOn way place k e (to_link l c) = (next : ℕ) × (slice_get way (suc (suc place)) ≡ Some next) × (link_to next k ≡ Some l.0)
LeadsOn way place k e (to_end f) = (length way ≡ suc (suc place)) × (e ≡ peer f)

numbers_between : (a b : ℕ) (route : Route) (c : ℕ) → number_between a b route ≡ Some c
    → (i : ℕ) × (j : ℕ) × (slice_get route.cores i ≡ Some a) × (slice_get route.cores j ≡ Some b) × (slice_get route.numbers (min i j) ≡ Some c)
numbers_between a b route c h =
    let (i, p, q) = given_there (place_in route.cores a) _ c h in
    let (j, r, t) = given_there (place_in route.cores b) _ c q in
    (i, j, place_got route.cores a i p, place_got route.cores b j r, t)

-- what an entry there leads to, the one found does
says_so : (s : State) (here : LinkEnd) (k : Core) (hop : Hop) (c : ℕ) (key : Key) (n : ℕ) (leads : Leads) → LinkThere s here → core_of s here.core ≡ Some k
    → hop_at k.circuits here.link c ≡ Some hop → key.core ≡ here.core → key.neighbour ≡ here.neighbour → key.number ≡ c → EntryIs s key n leads
    → SaysWay k hop.way leads
says_so s here k hop c key n leads t at is core neighbour number entry =
    let there : EntryAt s key entry.hop = entry.entry in
    let one : there.core ≡ k = (let u : Some there.core ≡ Some k = sym there.core_is ∙ ap (core_of s) core ∙ at in cc) in
    let mine : t.core ≡ k = (let u : Some t.core ≡ Some k = sym t.core_is ∙ at in cc) in
    let place : link_to here.neighbour k ≡ Some here.link = subst (λ (j : Core). link_to here.neighbour j ≡ Some here.link) mine t.place in
    let to : link_to here.neighbour k ≡ Some there.link =
    ap (λ (m : ℕ). link_to m k) (sym neighbour) ∙ subst (λ (j : Core). link_to key.neighbour j ≡ Some there.link) one there.link_is in
    let link : here.link ≡ there.link = (let u : Some here.link ≡ Some there.link = sym place ∙ to in cc) in
    let got : hop_at k.circuits there.link key.number ≡ Some entry.hop = subst (λ (j : Core). hop_at j.circuits there.link key.number ≡ Some entry.hop) one there.there in
    let was : hop_at k.circuits there.link key.number ≡ Some hop =
    ap (λ (m : ℕ). hop_at k.circuits m key.number) (sym link) ∙ ap (hop_at k.circuits here.link) number ∙ is in
    let hops : entry.hop ≡ hop = (let u : Some entry.hop ≡ Some hop = sym got ∙ was in cc) in
    subst (λ (h : Hop). SaysWay k h.way leads) hops (subst (λ (j : Core). SaysWay j entry.hop.way leads) one entry.way)

client_leads : (k : Core) (n : ℕ) (route : Route) (place : ℕ) (way : HopTarget) (t : Bool) → (place + 1 + 1 == length route.cores) ≡ t → place + 1 < length route.cores
    → SaysWay k way (if t then to_this (end_id n Server) else on_to (core_at route (place + 1 + 1)) (number_at route (place + 1)))
    → LeadsOn route.cores place k (end_id n Client) way
client_leads k n route place (to_link l c) true q a h = absurd h
client_leads k n route place (to_end e) true q a h =
    let last : place + 1 + 1 ≡ length route.cores = eqb-true (place + 1 + 1) (length route.cores) q in
    (omega arith, ap peer (sym h))
client_leads k n route place (to_link l c) false q a h =
    let more : place + 1 + 1 ≢ length route.cores = eqb-false (place + 1 + 1) (length route.cores) q in
    let two : place + 1 + 1 ≡ suc (suc place) = omega arith in
    (core_at route (place + 1 + 1), ap (slice_get route.cores) (sym two) ∙ index_got route.cores (place + 1 + 1) (omega arith), h.0)
client_leads k n route place (to_end e) false q a h = absurd h

server_leads : (k : Core) (n : ℕ) (route : Route) (place i : ℕ) (way : HopTarget) → i ≡ length route.cores - 1 - suc place → suc place < length route.cores
    → SaysWay k way (behind n route i) → LeadsOn (reverse route.cores) place k (end_id n Server) way
server_leads k n route place zero (to_link l c) q a h = absurd h
server_leads k n route place zero (to_end e) q a h =
    let long : length (reverse route.cores) ≡ length route.cores = length-reverse route.cores in
    (omega arith, ap peer (sym h))
server_leads k n route place (suc i) (to_link l c) q a h =
    let same : length route.cores - 1 - suc (suc place) ≡ i = omega arith in
    (core_at route i, flipped_back route.cores (suc (suc place)) (core_at route i) (omega arith) (ap (slice_get route.cores) same ∙ index_got route.cores i (omega arith)), h.0)
server_leads k n route place (suc i) (to_end e) q a h = absurd h

module _ (s : State) (here : LinkEnd) (t : LinkThere s here) (k : Core) (at : core_of s here.core ≡ Some k) (hop : Hop) (c n : ℕ)
    (is : hop_at k.circuits here.link c ≡ Some hop) (route : Route) (number : number_between here.neighbour here.core route ≡ Some c)
    (once : Once route.cores) (granted : standing route ≡ length route.cores) (stands : EntriesStandOn s n route) (place : ℕ) where
  pub leads_on : (side : Side) → slice_get (way_on side route.cores) place ≡ Some here.neighbour → slice_get (way_on side route.cores) (suc place) ≡ Some here.core
      → LeadsOn (way_on side route.cores) place k (end_id n side) hop.way
  leads_on Client near far =
      let (i, j, p, q, r) = numbers_between here.neighbour here.core route c number in
      let first : i ≡ place = once i place here.neighbour p near in
      let second : j ≡ suc place = once j (suc place) here.core q far in
      let least : min i j ≡ place = omega arith in
      let its : slice_get route.numbers place ≡ Some c = ap (slice_get route.numbers) (sym least) ∙ r in
      let long : suc place < length route.cores = got_within route.cores (suc place) here.core far in
      let entry = stands.far place (omega arith) (got_within route.numbers place c its) in
      let one : place + 1 ≡ suc place = omega arith in
      client_leads k n route place hop.way (place + 1 + 1 == length route.cores) refl (omega arith)
      (says_so s here k hop c (far_key route place) n (ahead n route (place + 1)) t at is
      (ap (core_at route) one ∙ got_index route.cores (suc place) here.core far)
      (got_index route.cores place here.neighbour near) (got_index route.numbers place c its) entry)
  leads_on Server near far =
      let (i, j, p, q, r) = numbers_between here.neighbour here.core route c number in
      let turned : length (reverse route.cores) ≡ length route.cores = length-reverse route.cores in
      let long : suc place < length (reverse route.cores) = got_within (reverse route.cores) (suc place) here.core far in
      let m : ℕ = length route.cores - 1 - suc place in
      let near_is : slice_get route.cores (length route.cores - 1 - place) ≡ Some here.neighbour = flipped route.cores place here.neighbour near in
      let far_is : slice_get route.cores m ≡ Some here.core = flipped route.cores (suc place) here.core far in
      let first : i ≡ length route.cores - 1 - place = once i (length route.cores - 1 - place) here.neighbour p near_is in
      let second : j ≡ length route.cores - 1 - suc place = once j m here.core q far_is in
      let least : min i j ≡ length route.cores - 1 - suc place = omega arith in
      let its : slice_get route.numbers m ≡ Some c = ap (slice_get route.numbers) (sym least) ∙ r in
      let entry = stands.near m (omega arith) (got_within route.numbers m c its) in
      let next : length route.cores - 1 - suc place + 1 ≡ length route.cores - 1 - place = omega arith in
      server_leads k n route place m hop.way refl (omega arith)
      (says_so s here k hop c (near_key route m) n (behind n route m) t at is
      (got_index route.cores m here.core far_is)
      (ap (core_at route) next ∙ got_index route.cores (length route.cores - 1 - place) here.neighbour near_is) (got_index route.numbers m c its) entry)
