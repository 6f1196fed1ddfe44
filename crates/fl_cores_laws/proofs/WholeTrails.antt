-- A circuit's route back from the server's end passes no core twice, so it comes to the client's end.
use Rattle.std.proofs.Common.{◌≡◌, ◌⊎◌, inl, inr, refl, sym, ap, ◌∙◌, subst, ℕ, zero, suc, ◌+◌, ◌<◌, ◌≤◌, Bool, List, [], ◌∷◌, length, slice_get, Some, arith}
use Rattle.fl_base.specs.declared.identity.EndId.{EndId}
use Rattle.fl_base.specs.declared.identity.LinkId.{LinkId}
use Rattle.fl_base.specs.declared.identity.Circuit.{Circuit as Number}
use Rattle.fl_base.specs.declared.identity.Side.TheVariants.{Client, Server}
use Rattle.fl_hop.specs.declared.entry.Hop.{Hop}
use Rattle.fl_hop.specs.declared.entry.HopTarget.{HopTarget}
use Rattle.fl_hop.specs.declared.entry.HopTarget.TheVariants.{Link, End}
use Rattle.fl_hop.specs.declared.links.LinkState.{LinkState}
use Rattle.fl_hop.specs.Joined.{Leads, IsServerWay, Sound}
use Rattle.fl_hop.specs.Numbers.{OpenedThere}
use Rattle.fl_hop.specs.Table.{TheCircuits, hop_at, leading}
use Rattle.fl_hop.proofs.Answering.{numbers_apart}
use Rattle.fl_core.specs.View.{client_of, server_of}
use Rattle.fl_core.specs.declared.core_job.CoreJob.{CoreJob}
use Rattle.fl_cores_laws.specs.Cores.{OneCore}
use Rattle.fl_cores_laws.specs.Circuits.{AreOneLink, Point, Station, IsRoute}
use Rattle.fl_cores_laws.specs.Neighbours.{ComesFrom, EntriesLeadBack}
use Rattle.fl_cores_laws.specs.Back.{HasNeighbour}
use Rattle.fl_cores_laws.specs.Whole.{GoesTo, ArePaired, Begins, RoutesBegin}
use Rattle.fl_cores_laws.proofs.Trails.{IsTrail, few_stops}

-- ---- one table

module _ (t : TheCircuits) (sound : Sound t) (binding : ℕ) where
  -- a binding's entry is at one of the numbers that neighbours gave
  pub one_number : (l m : LinkId) (c d : Number) (a b : HopTarget) → OpenedThere t l.0 c.0 → OpenedThere t m.0 d.0 → Leads t l.0 c.0 binding a → Leads t m.0 d.0 binding b
      → (l ≡ m) × (c ≡ d)
  one_number l m c d a b here there x y = elim (sound.one l m c d binding a b x y) [
    | inl same ↦ same
    | inr other ↦ absurd (elim (sound.toward l.0 c.0 binding a x) [
      | inl own ↦ numbers_apart t sound l.0 c.0 own.0 here
      | inr given ↦ numbers_apart t sound m.0 d.0 (subst (IsServerWay t.core t.links binding) other given.1) there
    ])
  ]

  way_led : (p q : Bool) (a b : HopTarget) → leading binding p a ≡ leading binding q b → a ≡ b
  way_led p q a b same = (let h : record { binding = binding; way = a; answered = p } ≡ record { binding = binding; way = b; answered = q } = cc in ap (λ (x : Hop). x.way) h)

  -- so it leads one way
  one_way : (l m : LinkId) (c d : Number) (a b : HopTarget) → OpenedThere t l.0 c.0 → OpenedThere t m.0 d.0 → Leads t l.0 c.0 binding a → Leads t m.0 d.0 binding b → a ≡ b
  one_way l m c d a b here there x y =
      let both = one_number l m c d a b here there x y in
      way_led x.answered y.answered a b (sym x.there ∙ ap (λ (i : LinkId). hop_at t i.0 c.0) both.0 ∙ ap (λ (n : Number). hop_at t m.0 n.0) both.1 ∙ y.there)

  -- what leads to the server's end is a number that the neighbour gave
  pub given_last : (l : LinkId) (c : Number) → Leads t l.0 c.0 binding (End (server_of binding)) → OpenedThere t l.0 c.0
  given_last l c x = elim (sound.toward l.0 c.0 binding (End (server_of binding)) x) [
    | inl own ↦ absurd (let clash : Server ≡ Client = ap (λ (e : EndId). e.side) own.1 in cc)
    | inr given ↦ given.0
  ]

pub one_place : (c : OneCore) (l : LinkId) (n m : ℕ) → GoesTo c l n → GoesTo c l m → n ≡ m
one_place c l n m x y =
    let found : Some x.link ≡ Some y.link = sym x.link_is ∙ y.link_is in
    let same : x.link ≡ y.link = cc in
    sym x.neighbour ∙ ap (λ (a : LinkState). a.neighbour.0) same ∙ y.neighbour

-- ---- a trail: from stop to stop, toward the server's end

pub record Stop : Type 0 where
  pub place : ℕ
  pub core : OneCore
  pub link : LinkId
  pub number : Number

-- at its core an entry of the binding leads this way, from a number that the neighbour gave
pub record IsStop (cores : List OneCore) (binding : ℕ) (s : Stop) (way : HopTarget) : Type 0 where
  pub core_is : slice_get cores s.place ≡ Some s.core
  pub given : OpenedThere s.core.finish.core.monitor.circuits s.link.0 s.number.0
  pub leads : Leads s.core.finish.core.monitor.circuits s.link.0 s.number.0 binding way

-- it leads to the other stop, by a link to that one's core
record ComesBefore (cores : List OneCore) (binding : ℕ) (s r : Stop) : Type 0 where
  pub onto : LinkId
  pub stop : IsStop cores binding s (Link onto r.number)
  pub goes : GoesTo s.core onto r.place

-- from this stop over those to the server's end
abbrev ComesTo : List OneCore → ℕ → Stop → List Stop → Type 0
ComesTo cores binding s xs = IsTrail (λ (x : Stop). IsStop cores binding x (End (server_of binding))) (ComesBefore cores binding) s xs

pub within : (cores : List OneCore) (n : ℕ) (c : OneCore) → slice_get cores n ≡ Some c → n < length cores
within [] n c is = absurd (cc)
within (x ∷ xs) zero c is = omega arith
within (x ∷ xs) (suc n) c is = omega (arith, within xs n c is)

module _ (jobs : List CoreJob) (cores : List OneCore) (paired : ArePaired jobs cores) (binding : ℕ) where
  pub one_core : (n m : ℕ) (c d : OneCore) → slice_get cores n ≡ Some c → slice_get cores m ≡ Some d → n ≡ m → c ≡ d
  one_core n m c d is is2 same = (let found : Some c ≡ Some d = sym is ∙ ap (slice_get cores) same ∙ is2 in cc)

  -- two stops at one place lead one way
  way_by : (c d : OneCore) → c ≡ d → Sound c.finish.core.monitor.circuits → (l m : LinkId) (x y : Number) (a b : HopTarget)
      → OpenedThere c.finish.core.monitor.circuits l.0 x.0 → OpenedThere d.finish.core.monitor.circuits m.0 y.0
      → Leads c.finish.core.monitor.circuits l.0 x.0 binding a → Leads d.finish.core.monitor.circuits m.0 y.0 binding b → a ≡ b
  way_by c d same sound l m x y a b here there from onto =
      one_way c.finish.core.monitor.circuits sound binding l m x y a b here
      (subst (λ (k : OneCore). OpenedThere k.finish.core.monitor.circuits m.0 y.0) (sym same) there) from
      (subst (λ (k : OneCore). Leads k.finish.core.monitor.circuits m.0 y.0 binding b) (sym same) onto)

  same_way : (s t : Stop) (a b : HopTarget) → IsStop cores binding s a → IsStop cores binding t b → s.place ≡ t.place → a ≡ b
  same_way s t a b x y same =
      way_by s.core t.core (one_core s.place t.place s.core t.core x.core_is y.core_is same) (paired.leading s.place s.core x.core_is).table
      s.link t.link s.number t.number a b x.given y.given x.leads y.leads

  same_next : (s t r u : Stop) → ComesBefore cores binding s r → ComesBefore cores binding t u → s.place ≡ t.place → r.place ≡ u.place
  same_next s t r u x y same =
      let ways = same_way s t (Link x.onto r.number) (Link y.onto u.number) x.stop y.stop same in
      let links : x.onto ≡ y.onto = cc in
      let cored = one_core s.place t.place s.core t.core x.stop.core_is y.stop.core_is same in
      one_place s.core x.onto r.place u.place x.goes
      (subst (λ (l : LinkId). GoesTo s.core l u.place) (sym links) (subst (λ (c : OneCore). GoesTo c y.onto u.place) (sym cored) y.goes))

  same_last : (s t r : Stop) → IsStop cores binding s (End (server_of binding)) → ComesBefore cores binding t r → s.place ≡ t.place → ⊥
  same_last s t r x y same = absurd (let ways = same_way s t (End (server_of binding)) (Link y.onto r.number) x y.stop same in cc)

  -- no trail has more stops than there are cores
  few_of : (s : Stop) (xs : List Stop) → ComesTo cores binding s xs → length (s ∷ xs) ≤ length cores
  few_of s xs x =
      few_stops (λ (y : Stop). IsStop cores binding y (End (server_of binding))) (ComesBefore cores binding) (λ (y : Stop). y.place) (length cores) same_last same_next
      (λ y stop. within cores y.place y.core stop.core_is) (λ y r next. within cores y.place y.core next.stop.core_is) s xs x

  -- ---- one station after another

  -- over these stations a number of the neighbour's leads from the stop's link to a point
  abbrev Onward : Point → Stop → List Station → Type 0
  Onward q s stations = (c : OneCore) (l : LinkId) → AreOneLink c l s.core s.link → IsRoute jobs binding (record { core = c; link = l; number = s.number }) stations q

  record Walked (q : Point) (count : ℕ) : Type 0 where
    pub stop : Stop
    pub rest : List Stop
    pub trail : ComesTo cores binding stop rest
    pub long : length rest ≡ count
    pub stations : List Station
    pub onward : Onward q stop stations

  way_on : (s : Stop) (xs : List Stop) → ComesTo cores binding s xs → (way : HopTarget) × IsStop cores binding s way
  way_on s [] x = (End (server_of binding), x)
  way_on s (r ∷ xs) x = (Link x.0.onto r.number, x.0.stop)

  -- the neighbour's entry there, from the client's end or from a number of another neighbour
  abbrev Before : OneCore → LinkId → Number → Type 0
  Before c l n = Leads c.finish.core.monitor.circuits l.0 n.0 binding (End (client_of binding))
      ⊎ ((x : LinkId) × (i : Number) × ComesFrom c.finish.core.monitor.circuits x i l n binding)

  before : EntriesLeadBack → (s : Stop) (way : HopTarget) → IsStop cores binding s way → (x : HasNeighbour cores s.core s.link) → Before x.core x.link s.number
  before back s way stop x =
      let hop : Hop = record { binding = binding; way = way; answered = stop.leads.answered } in
      back jobs x.core s.core x.link s.link (paired.leading x.place x.core x.core_is) (paired.leading s.place s.core stop.core_is)
      (paired.unused x.place x.core x.core_is) (paired.unused s.place s.core stop.core_is) x.one s.number hop stop.given stop.leads.there

  one_more : (q : Point) (count : ℕ) (w : Walked q count) (x : HasNeighbour cores w.stop.core w.stop.link) → GoesTo x.core x.link w.stop.place → Before x.core x.link w.stop.number
      → Begins jobs cores binding q ⊎ Walked q (suc count)
  one_more q count w x goes (inl first) = inl (record {
    point = record { core = x.core; link = x.link; number = w.stop.number };
    place = x.place;
    core_is = x.core_is;
    stations = w.stations;
    route = w.onward x.core x.link x.one;
    first = first;
  })
  one_more q count w x goes (inr (y, i, comes)) =
      let stop : Stop = record { place = x.place; core = x.core; link = y; number = i } in
      let station : Station = record { core = x.core; from = y; number = i; onto = x.link; next = w.stop.number } in
      inr (record {
        stop = stop;
        rest = w.stop ∷ w.rest;
        trail = (record { onto = x.link; stop = record { core_is = x.core_is; given = comes.given; leads = comes.leads }; goes = goes }, w.trail);
        long = ap suc w.long;
        stations = station ∷ w.stations;
        onward = λ c l one. (one, refl, record { leading = paired.leading x.place x.core x.core_is; entry = comes.leads }, w.onward x.core x.link x.one);
      })

  further : EntriesLeadBack → (q : Point) (count : ℕ) → Walked q count → Begins jobs cores binding q ⊎ Walked q (suc count)
  further back q count w =
      let (way, stop) = way_on w.stop w.rest w.trail in
      let pair = paired.paired w.stop.place w.stop.number.0 w.stop.core w.stop.link stop.core_is stop.given in
      one_more q count w pair.across pair.back (before back w.stop way stop pair.across)

  walk : EntriesLeadBack → (left : ℕ) (q : Point) (count : ℕ) → Walked q count → count + left ≡ length cores → Begins jobs cores binding q
  walk back zero q count w all = absurd (let less = few_of w.stop w.rest w.trail in let long = w.long in omega (arith, less, long, all))
  walk back (suc left) q count w all = elim (further back q count w) [
    | inl begins ↦ begins
    | inr more ↦ walk back left q (suc count) more (omega (arith, all))
  ]

pub routes_begin : EntriesLeadBack → RoutesBegin
routes_begin back jobs cores paired binding place q is last =
    let sound = (paired.leading place q.core is).table in
    let stop : Stop = record { place = place; core = q.core; link = q.link; number = q.number } in
    let given = given_last q.core.finish.core.monitor.circuits sound binding q.link q.number last in
    walk jobs cores paired binding back (length cores) q 0 (record {
      stop = stop;
      rest = [];
      trail = record { core_is = is; given = given; leads = last };
      long = refl;
      stations = [];
      onward = λ c l one. (one, refl);
    }) (omega arith)
