-- From a client's end that is bound in the end the circuit goes forth, core by core, to the server's, which is bound too.
use Rattle.std.proofs.Common.{◌≡◌, ◌⊎◌, inl, inr, refl, sym, ap, ◌∙◌, subst, ℕ, zero, suc, ◌+◌, ◌≤◌, List, [], ◌∷◌, length, slice_get, Some, arith}
use Rattle.fl_base.specs.declared.identity.EndId.{EndId}
use Rattle.fl_base.specs.declared.identity.LinkId.{LinkId}
use Rattle.fl_base.specs.declared.identity.Circuit.{Circuit as Number}
use Rattle.fl_base.specs.declared.identity.Side.TheVariants.{Client, Server}
use Rattle.fl_hop.specs.declared.entry.Hop.{Hop}
use Rattle.fl_hop.specs.declared.entry.HopTarget.{HopTarget}
use Rattle.fl_hop.specs.declared.entry.HopTarget.TheVariants.{Link, End}
use Rattle.fl_hop.specs.Joined.{Leads, IsServerWay, Sound}
use Rattle.fl_hop.specs.Numbers.{OpenedHere, OpenedThere}
use Rattle.fl_hop.specs.Table.{TheCircuits, hop_at, leading}
use Rattle.fl_hop.proofs.Answering.{numbers_apart}
use Rattle.fl_core.specs.View.{client_of}
use Rattle.fl_core.specs.declared.core_job.CoreJob.{CoreJob}
use Rattle.fl_core_run_laws.specs.Led.{IsSettled}
use Rattle.fl_cores_laws.specs.Cores.{OneCore}
use Rattle.fl_cores_laws.specs.Neighbours.{NeighboursAgree}
use Rattle.fl_cores_laws.specs.Answered.{IsAnswered, IsOpenWay, IsOpen, NeighboursOpen}
use Rattle.fl_cores_laws.specs.Whole.{GoesTo}
use Rattle.fl_cores_laws.specs.Stands.{LedServersAreBound}
use Rattle.fl_cores_laws.specs.Meeting.{IsPaired, AreWired, IsMet, BoundClientsMeet}
use Rattle.fl_cores_laws.proofs.Bound.{binding_in}
use Rattle.fl_cores_laws.proofs.Neighbours.{leads_of}
use Rattle.fl_cores_laws.proofs.Trails.{IsTrail, few_stops}
use Rattle.fl_cores_laws.proofs.Wired.{link_side_there, turned, are_paired}
use Rattle.fl_cores_laws.proofs.WholeEnds.{settled, bound_entry}
use Rattle.fl_cores_laws.proofs.WholeTrails.{one_number, one_place, Stop, IsStop, within, one_core}

-- what the laws below say of two neighbours, and of a server's end
pub record Neighbourly : Type 0 where
  pub opens : NeighboursOpen
  pub agree : NeighboursAgree
  pub servers : LedServersAreBound

-- ---- one table

-- a number leads one way
way_once : (t : TheCircuits) (binding : ℕ) (l m : LinkId) (c d : Number) (a b : HopTarget) → l ≡ m → c ≡ d → Leads t l.0 c.0 binding a → Leads t m.0 d.0 binding b → a ≡ b
way_once t binding l m c d a b links numbers x y =
    let same : leading binding x.answered a ≡ leading binding y.answered b =
    sym x.there ∙ ap (λ (i : LinkId). hop_at t i.0 c.0) links ∙ ap (λ (n : Number). hop_at t m.0 n.0) numbers ∙ y.there in
    (let hops : record { binding = binding; way = a; answered = x.answered } ≡ record { binding = binding; way = b; answered = y.answered } = cc in ap (λ (h : Hop). h.way) hops)

-- a binding's entry leads to the client's end, or from a number of the neighbour's to another
not_both : (t : TheCircuits) → Sound t → (binding : ℕ) (l m x : LinkId) (c d n : Number) → Leads t l.0 c.0 binding (End (client_of binding)) → Leads t m.0 d.0 binding (Link x n) → ⊥
not_both t sound binding l m x c d n first other =
    let back = sound.both m x d n binding other in
    elim (sound.one l x c n binding (End (client_of binding)) (Link m d) first back) [
      | inl same ↦ absurd (let ways = way_once t binding l x c n (End (client_of binding)) (Link m d) same.0 same.1 first back in cc)
      | inr clash ↦ absurd (cc)
    ]

-- ---- the way forth

module _ (laws : Neighbourly) (jobs : List CoreJob) (cores : List OneCore) (wired : AreWired jobs cores) (binding : ℕ) where
  one_of : (n m : ℕ) (c d : OneCore) → slice_get cores n ≡ Some c → slice_get cores m ≡ Some d → n ≡ m → c ≡ d
  one_of n m c d is is2 same = one_core jobs cores (are_paired jobs cores wired) binding n m c d is is2 same

  -- the first stop: the core before it, at this place, has the client's end
  record IsFirstStop (s : Stop) : Type 0 where
    pub way : HopTarget
    pub stop : IsStop cores binding s way
    pub place : ℕ
    pub core : OneCore
    pub core_is : slice_get cores place ≡ Some core
    pub link : LinkId
    pub number : Number
    pub first : Leads core.finish.core.monitor.circuits link.0 number.0 binding (End (client_of binding))
    pub goes : GoesTo s.core s.link place

  -- a stop that comes from another, whose entry leads to its number
  record ComesAfter (s r : Stop) : Type 0 where
    pub way : HopTarget
    pub stop : IsStop cores binding s way
    pub onto : LinkId
    pub before : IsStop cores binding r (Link onto s.number)
    pub goes : GoesTo s.core s.link r.place

  -- two stops at one place have one link
  same_link : (c d : OneCore) (l m : LinkId) (x y : Number) (a b : HopTarget) → c ≡ d → Sound c.finish.core.monitor.circuits → OpenedThere c.finish.core.monitor.circuits l.0 x.0
      → OpenedThere d.finish.core.monitor.circuits m.0 y.0 → Leads c.finish.core.monitor.circuits l.0 x.0 binding a → Leads d.finish.core.monitor.circuits m.0 y.0 binding b → l ≡ m
  same_link c d l m x y a b same sound here there from onto =
      (one_number c.finish.core.monitor.circuits sound binding l m x y a b here
      (subst (λ (k : OneCore). OpenedThere k.finish.core.monitor.circuits m.0 y.0) (sym same) there) from
      (subst (λ (k : OneCore). Leads k.finish.core.monitor.circuits m.0 y.0 binding b) (sym same) onto)).0

  -- so they come from one place
  same_from : (s t : Stop) (a b : HopTarget) → IsStop cores binding s a → IsStop cores binding t b → s.place ≡ t.place → (n m : ℕ) → GoesTo s.core s.link n → GoesTo t.core t.link m → n ≡ m
  same_from s t a b x y same n m goes goes2 =
      let cored = one_of s.place t.place s.core t.core x.core_is y.core_is same in
      let links = same_link s.core t.core s.link t.link s.number t.number a b cored (wired.leading s.place s.core x.core_is).table x.given y.given x.leads y.leads in
      one_place s.core s.link n m goes
      (subst (λ (l : LinkId). GoesTo s.core l m) (sym links) (subst (λ (c : OneCore). GoesTo c t.link m) (sym cored) goes2))

  one_first : (s t r : Stop) → IsFirstStop s → ComesAfter t r → s.place ≡ t.place → ⊥
  one_first s t r x y same =
      let places = same_from s t x.way y.way x.stop y.stop same x.place r.place x.goes y.goes in
      let cored = one_of x.place r.place x.core r.core x.core_is y.before.core_is places in
      not_both r.core.finish.core.monitor.circuits (wired.leading r.place r.core y.before.core_is).table binding x.link r.link y.onto x.number r.number t.number
      (subst (λ (c : OneCore). Leads c.finish.core.monitor.circuits x.link.0 x.number.0 binding (End (client_of binding))) cored x.first) y.before.leads

  one_before : (s t r u : Stop) → ComesAfter s r → ComesAfter t u → s.place ≡ t.place → r.place ≡ u.place
  one_before s t r u x y same = same_from s t x.way y.way x.stop y.stop same r.place u.place x.goes y.goes

  few_of : (s : Stop) (xs : List Stop) → IsTrail IsFirstStop ComesAfter s xs → length (s ∷ xs) ≤ length cores
  few_of s xs x =
      few_stops IsFirstStop ComesAfter (λ (y : Stop). y.place) (length cores) one_first one_before
      (λ y first. within cores y.place y.core first.stop.core_is) (λ y r next. within cores y.place y.core next.stop.core_is) s xs x

  -- ---- over one link

  abbrev stop_at : ℕ → OneCore → LinkId → Number → Stop
  stop_at place c l n = record { place = place; core = c; link = l; number = n }

  -- the core gave this number, by which its entry leads, and the number was answered
  record GoesOut (place : ℕ) (c : OneCore) (l : LinkId) (n : Number) : Type 0 where
    pub core_is : slice_get cores place ≡ Some c
    pub given : OpenedHere c.finish.core.monitor.circuits l.0 n.0
    pub way : HopTarget
    pub leads : Leads c.finish.core.monitor.circuits l.0 n.0 binding way
    pub answered : IsAnswered c.finish.core.monitor.circuits l.0 n.0

  -- over this number there is a stop, from which the circuit goes on by another that was answered
  record Lands (place : ℕ) (n : Number) : Type 0 where
    pub at : ℕ
    pub core : OneCore
    pub link : LinkId
    pub onto : LinkId
    pub next : Number
    pub stop : IsStop cores binding (stop_at at core link n) (Link onto next)
    pub answered : IsAnswered core.finish.core.monitor.circuits onto.0 next.0
    pub goes : GoesTo core link place

  module _ (place : ℕ) (c : OneCore) (l : LinkId) (n : Number) (g : GoesOut place c l n) (x : IsPaired cores place c l) where
    abbrev d : OneCore
    d = x.across.core

    abbrev m : LinkId
    m = x.across.link

    open_there : IsOpen d.finish.core.monitor.circuits m.0 n.0
    open_there =
        laws.opens jobs c d l m (wired.leading place c g.core_is) (wired.leading x.across.place d x.across.core_is) (wired.unused place c g.core_is) (wired.unused x.across.place d x.across.core_is)
        (turned d c m l x.across.one) n.0 g.given g.answered

    leads_there : Leads d.finish.core.monitor.circuits m.0 n.0 binding open_there.hop.way
    leads_there =
        let s = laws.agree jobs c d l m (wired.leading place c g.core_is) (wired.leading x.across.place d x.across.core_is) (wired.unused place c g.core_is) (wired.unused x.across.place d x.across.core_is)
        (turned d c m l x.across.one) n.0 open_there.hop open_there.there open_there.stands in
        let same : open_there.hop.binding ≡ binding = sym s.binding_is ∙ binding_in binding g.leads.answered g.way s.hop (sym g.leads.there ∙ s.there) in
        leads_of d.finish.core.monitor.circuits m.0 n.0 open_there.hop binding open_there.hop.way open_there.stands same refl

    server_way : (way : HopTarget) → Leads d.finish.core.monitor.circuits m.0 n.0 binding way → IsServerWay d.finish.core.monitor.circuits.core d.finish.core.monitor.circuits.links binding way
    server_way way leads = elim ((wired.leading x.across.place d x.across.core_is).table.toward m.0 n.0 binding way leads) [
      | inl own ↦ absurd (numbers_apart d.finish.core.monitor.circuits (wired.leading x.across.place d x.across.core_is).table m.0 n.0 own.0 open_there.there)
      | inr given ↦ given.1
    ]

    -- to the server's end, or on
    by_way : (way : HopTarget) → IsOpenWay d.finish.core.monitor.circuits way → Leads d.finish.core.monitor.circuits m.0 n.0 binding way → IsMet cores binding ⊎ Lands place n
    by_way (End e) way_open leads =
        let last = subst (λ (y : EndId). Leads d.finish.core.monitor.circuits m.0 n.0 binding (End y)) (server_way (End e) leads) leads in
        inl (record {
          place = x.across.place;
          core = d;
          core_is = x.across.core_is;
          bound = laws.servers jobs d (wired.leading x.across.place d x.across.core_is) (wired.unused x.across.place d x.across.core_is) m.0 n.0 binding last;
        })
    by_way (Link onto next) way_open leads = inr (record {
      at = x.across.place;
      core = d;
      link = m;
      onto = onto;
      next = next;
      stop = record { core_is = x.across.core_is; given = open_there.there; leads = leads };
      answered = way_open;
      goes = x.back;
    })

    arrive : IsMet cores binding ⊎ Lands place n
    arrive = by_way open_there.hop.way open_there.way leads_there

  goes_over : (place : ℕ) (c : OneCore) (l : LinkId) (n : Number) → GoesOut place c l n → IsMet cores binding ⊎ Lands place n
  goes_over place c l n g =
      let (side, link_side) = link_side_there jobs c (wired.leading place c g.core_is) l.0 g.given.link g.given.there in
      arrive place c l n g (wired.links place side c l g.core_is link_side)

  -- ---- core by core

  record Walked (count : ℕ) : Type 0 where
    pub stop : Stop
    pub rest : List Stop
    pub trail : IsTrail IsFirstStop ComesAfter stop rest
    pub long : length rest ≡ count
    pub onto : LinkId
    pub next : Number
    pub here : IsStop cores binding stop (Link onto next)
    pub answered : IsAnswered stop.core.finish.core.monitor.circuits onto.0 next.0

  -- from a stop on
  goes_out : (count : ℕ) (w : Walked count) → GoesOut w.stop.place w.stop.core w.onto w.next
  goes_out count w =
      let table = (wired.leading w.stop.place w.stop.core w.here.core_is).table in
      record {
        core_is = w.here.core_is;
        given = elim (table.toward w.stop.link.0 w.stop.number.0 binding (Link w.onto w.next) w.here.leads) [
          | inl own ↦ absurd (numbers_apart w.stop.core.finish.core.monitor.circuits table w.stop.link.0 w.stop.number.0 own.0 w.here.given)
          | inr given ↦ given.1
        ];
        way = Link w.stop.link w.stop.number;
        leads = table.both w.stop.link w.onto w.stop.number w.next binding w.here.leads;
        answered = w.answered;
      }

  one_more : (count : ℕ) (w : Walked count) → Lands w.stop.place w.next → Walked (suc count)
  one_more count w x = record {
    stop = stop_at x.at x.core x.link w.next;
    rest = w.stop ∷ w.rest;
    trail = (record { way = Link x.onto x.next; stop = x.stop; onto = w.onto; before = w.here; goes = x.goes }, w.trail);
    long = ap suc w.long;
    onto = x.onto;
    next = x.next;
    here = x.stop;
    answered = x.answered;
  }

  further : (count : ℕ) (w : Walked count) → IsMet cores binding ⊎ Walked (suc count)
  further count w = elim (goes_over w.stop.place w.stop.core w.onto w.next (goes_out count w)) [
    | inl met ↦ inl met
    | inr lands ↦ inr (one_more count w lands)
  ]

  walk : (left count : ℕ) → Walked count → count + left ≡ length cores → IsMet cores binding
  walk zero count w all = absurd (let less = few_of w.stop w.rest w.trail in let long = w.long in omega (arith, less, long, all))
  walk (suc left) count w all = elim (further count w) [
    | inl met ↦ met
    | inr more ↦ walk left (suc count) more (omega (arith, all))
  ]

  -- ---- from the client's end

  begin : (place : ℕ) (c : OneCore) (l : LinkId) (n : Number) → slice_get cores place ≡ Some c → Leads c.finish.core.monitor.circuits l.0 n.0 binding (End (client_of binding))
      → Lands place n → Walked 0
  begin place c l n is first x = record {
    stop = stop_at x.at x.core x.link n;
    rest = [];
    trail = record { way = Link x.onto x.next; stop = x.stop; place = place; core = c; core_is = is; link = l; number = n; first = first; goes = x.goes };
    long = refl;
    onto = x.onto;
    next = x.next;
    here = x.stop;
    answered = x.answered;
  }

  from_first : (place : ℕ) (c : OneCore) (l : LinkId) (n : Number) → GoesOut place c l n → Leads c.finish.core.monitor.circuits l.0 n.0 binding (End (client_of binding)) → IsMet cores binding
  from_first place c l n g first = elim (goes_over place c l n g) [
    | inl met ↦ met
    | inr lands ↦ walk (length cores) 0 (begin place c l n g.core_is first lands) (omega arith)
  ]

-- what leads to the client's end is a number that the core gave
given_first : (t : TheCircuits) → Sound t → (binding : ℕ) (l : LinkId) (c : Number) → Leads t l.0 c.0 binding (End (client_of binding)) → OpenedHere t l.0 c.0
given_first t sound binding l c x = elim (sound.toward l.0 c.0 binding (End (client_of binding)) x) [
  | inl own ↦ own.0
  | inr given ↦ absurd (let clash : Client ≡ Server = ap (λ (e : EndId). e.side) given.1 in cc)
]

answered_first : (t : TheCircuits) → Sound t → (l : LinkId) (c : Number) (name : EndId) → OpenedHere t l.0 c.0 → IsSettled t l.0 c.0 name → IsAnswered t l.0 c.0
answered_first t sound l c name here s = elim s.for_good [
  | inl yes_is ↦ record { hop = s.hop; there = s.there; yes_is = yes_is }
  | inr there ↦ absurd (numbers_apart t sound l.0 c.0 here there)
]

pub clients_meet : Neighbourly → BoundClientsMeet
clients_meet laws jobs cores wired n place d p is s =
    let v = wired.leading place p.core is in
    let first = bound_entry jobs d (client_of n) p v s in
    let given = given_first p.core.finish.core.monitor.circuits v.table n p.link p.number first in
    from_first laws jobs cores wired n place p.core p.link p.number (record {
      core_is = is;
      given = given;
      way = End (client_of n);
      leads = first;
      answered = answered_first p.core.finish.core.monitor.circuits v.table p.link p.number (client_of n) given (settled jobs d (client_of n) p v s);
    }) first
