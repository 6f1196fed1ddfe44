-- Over all cores: a number is given once for a binding, so the numbers that a core gave on a link are for as many bindings.
use Rattle.std.proofs.Common.{◌≡◌, ◌≢◌, ◌⊎◌, inl, inr, refl, sym, ap, ◌∙◌, subst, ℕ, zero, suc, ◌+◌, ◌-◌, ◌<◌, ◌≤◌, List, [], length, slice_get, position, Option, Some, None, arith}
use Rattle.std.proofs.lemmas.Bool.{cases_lt}
use Rattle.std.proofs.lemmas.List.Quantifiers.{position-Some}
use Rattle.fl_base.specs.declared.fragment.Frag.{Frag}
use Rattle.fl_base.specs.declared.identity.CoreId.{CoreId}
use Rattle.fl_base.specs.declared.identity.EndId.{EndId}
use Rattle.fl_base.specs.declared.identity.Circuit.{Circuit}
use Rattle.fl_cores_shares.specs.Settled.{RingsConserve}
use Rattle.fl_nameserv.specs.Registrations.{TheRegistration}
use Rattle.fl_compile.specs.Programs.{TheProgram}
use Rattle.fl_hop.specs.declared.links.LinkState.{LinkState}
use Rattle.fl_hop.specs.Numbers.{OpenedHere, number}
use Rattle.fl_hop.proofs.Lists.{at_within}
use Rattle.fl_hop.proofs.Numbering.{number_once}
use Rattle.fl_monitor.specs.declared.opening.Opening.{Opening}
use Rattle.fl_monitor.specs.declared.message.MonitorMessage.TheVariants.{CircuitRefused}
use Rattle.fl_monitor.specs.Saying.{Says}
use Rattle.fl_monitor.specs.Routing.{is_core}
use Rattle.fl_core.specs.View.{client_of}
use Rattle.fl_core.specs.declared.core_job.CoreJob.TheVariants as job
use Rattle.fl_core.specs.declared.core_job.OpenRequest.{OpenRequest}
use Rattle.fl_core_run.specs.OpeningStatus.{refusal_at}
use Rattle.fl_cores_file.specs.Jobs.{Job}
use Rattle.fl_cores_jobs.specs.declared.end_work.BindingCores.{BindingCores}
use Rattle.fl_cores_jobs.specs.State.{TheJoinedJobs, AreJoined}
use Rattle.fl_cores_laws.specs.Cores.{OneCore, shared_ways, AllAmple}
use Rattle.fl_cores_laws.specs.Named.{Has}
use Rattle.fl_cores_laws.specs.Asked.{IsRequested, CameAlong}
use Rattle.fl_cores_laws.specs.Whole.{HasOwn}
use Rattle.fl_cores_laws.specs.Runs.{AreSetUp}
use Rattle.fl_cores_laws.specs.Reasons.{IsUsedUp, Talk, HeardRefused, AsksOnly, LeadsOverUsedUp, RefusesRequest, WasFull, WasRefused, IsRefusedAt, IsOnlyRequest, GivesNone, Origin, from_job, from_link, IsSince, IsGivenTo, talk_of, IsOwnRequest, IsOwnMade, CoresReason, GoesReasoned}
use Rattle.fl_cores_laws.specs.Spent.{GoesOver, AreOver, SpentOnBindings, IsCrowdedOut, SpentOnOthers}
use Rattle.fl_cores_laws.proofs.AskedRoutes.{stands_behind, heard_requested}
use Rattle.fl_cores_laws.proofs.ReasonsAll.{beside, went, Heard, Came, Why, is_offered, across_start, across_finish, at_home, not_again}
use Rattle.fl_cores_laws.proofs.ReasonsOwn.{stands_before}
use Rattle.fl_cores_laws.proofs.Routes.{CircuitsPrefix}
use Rattle.fl_cores_laws.proofs.WholeHome.{opener}
use Rattle.fl_cores_laws.proofs.WholeOpened.{sound_first}

-- ---- one job opens a binding

one_number : (a b : ℕ) → Some a ≡ Some b → a ≡ b
one_number a b same = cc

one_state : (a b : LinkState) → Some a ≡ Some b → a ≡ b
one_state a b same = cc

one_job : (w v : OpenRequest) → Some (job.Open w) ≡ Some (job.Open v) → w ≡ v
one_job w v same = cc

module _ (asked : List Job) (j : TheJoinedJobs) (count : ℕ) (joined : AreJoined count asked j) where
  one_place : (o : Option ℕ) (b : BindingCores) (n : ℕ) → slice_get j.bindings n ≡ Some b → b.opened ≡ o → (p q : ℕ) (w v : OpenRequest) → slice_get j.jobs p ≡ Some (job.Open w) → slice_get j.jobs q ≡ Some (job.Open v)
      → w.opening.binding ≡ n → v.opening.binding ≡ n → p ≡ q
  one_place None b n at by p q w v here there one two = absurd (joined.set_up n b at by p w here one)
  one_place (Some k) b n at by p q w v here there one two =
      let first = joined.opened n b k at by in
      first.alone p w here one ∙ sym (first.alone q v there two)

  -- so two openings of one binding for which jobs request are one
  one_opening : (a b : Opening) → IsRequested j.jobs a → IsRequested j.jobs b → a.binding ≡ b.binding → a ≡ b
  one_opening a b x y same =
      let (bound, bound_is) = at_within j.bindings x.request.opening.binding (joined.there x.place (job.Open x.request) x.job_is) in
      let too : y.request.opening.binding ≡ x.request.opening.binding =
      ap (λ (o : Opening). o.binding) y.opening_is ∙ sym same ∙ ap (λ (o : Opening). o.binding) (sym x.opening_is) in
      let places = one_place bound.opened bound x.request.opening.binding bound_is refl x.place y.place x.request y.request x.job_is y.job_is refl too in
      let requests = one_job x.request y.request (sym x.job_is ∙ ap (slice_get j.jobs) places ∙ y.job_is) in
      sym x.opening_is ∙ ap (λ (w : OpenRequest). w.opening) requests ∙ y.opening_is

-- ---- over all cores

module _ (rings : RingsConserve) (prefix : CircuitsPrefix) (reason : CoresReason) (asked : List Job) (j : TheJoinedJobs) (cores : List OneCore) (names : List TheRegistration)
    (programs : List TheProgram) (all : AreSetUp asked j cores names programs) where
  abbrev Its : (n : ℕ) (c : OneCore) → slice_get cores n ≡ Some c → GoesReasoned j.jobs c
  Its n c is = went rings prefix reason asked j cores names programs all n c is

  abbrev Comes : (n : ℕ) (c : OneCore) → slice_get cores n ≡ Some c → ℕ → ℕ → Opening → Type 0
  Comes n c is l i o = Came rings prefix reason asked j cores names programs all n c is l i o

  abbrev Gave : OneCore → ℕ → ℕ → Type 0
  Gave c l i = OpenedHere c.finish.core.monitor.circuits l i

  abbrev For : (n : ℕ) (c : OneCore) (is : slice_get cores n ≡ Some c) (l i : ℕ) → Gave c l i → IsGivenTo (IsOwnMade j.jobs c) c.start.core.monitor.circuits (talk_of c (Its n c is).asking.steps) l i
  For n c is l i a = (Its n c is).settled.given.given l i a

  abbrev Since : (n : ℕ) (c : OneCore) (is : slice_get cores n ≡ Some c) → ℕ → Opening → Origin → Type 0
  Since n c is l o origin = IsSince (IsOwnMade j.jobs c) c.start.core.monitor.circuits (talk_of c (Its n c is).asking.steps) l o origin

  -- what was heard a job asks for
  came_requested : (n : ℕ) (c : OneCore) (is : slice_get cores n ≡ Some c) (l i : ℕ) (o : Opening) → Comes n c is l i o → IsRequested j.jobs o
  came_requested n c is l i o came =
      let along : CameAlong c.start.core.monitor.circuits (Heard rings prefix reason asked j cores names programs all n c is) o =
      record { link = record { 0 = l }; frag = came.frag; has = came.has; asks = record { circuit = came.circuit; says = came.says }; along = came.along } in
      heard_requested rings prefix (λ jobs d v u. (reason jobs d v u).asking) j.jobs cores (beside rings prefix reason asked j cores names programs all) n c is o along

  since_requested : (n : ℕ) (c : OneCore) (is : slice_get cores n ≡ Some c) (l : ℕ) (o : Opening) (origin : Origin) → Since n c is l o origin → IsRequested j.jobs o
  since_requested n c is l o from_job x = (let y = x.over.own in record { place = y.place; request = y.request; job_is = y.job_is; opening_is = y.opening_is })
  since_requested n c is l o (from_link m d) x = came_requested n c is m d o x.1

  given_requested : (n : ℕ) (c : OneCore) (is : slice_get cores n ≡ Some c) (l i : ℕ) (a : Gave c l i) → IsRequested j.jobs (For n c is l i a).opening
  given_requested n c is l i a = (let x = For n c is l i a in since_requested n c is l x.opening x.origin x.since)

  -- an opening comes over one link
  came_over : (n : ℕ) (c : OneCore) (is : slice_get cores n ≡ Some c) (o : Opening) (l i k e : ℕ) → Comes n c is l i o → Comes n c is k e o → l ≡ k
  came_over n c is o l i k e x y =
      let v = (beside rings prefix reason asked j cores names programs all).leading n c is in
      let t = c.start.core.monitor.circuits in
      let sound = sound_first shared_ways j.jobs c.log c.start c.finish v.went.goes v.table in
      let a = stands_before t l o.path x.along in
      let b = stands_before t k o.path y.along in
      let places : a.place ≡ b.place = one_number a.place b.place (sym a.place_is ∙ b.place_is) in
      let both : Some a.before ≡ Some b.before = sym a.before_is ∙ ap (λ (p : ℕ). slice_get o.path (p - 1)) places ∙ b.before_is in
      let one : a.before ≡ b.before = cc in
      sound.once l k a.state b.state a.state_is b.state_is (sym a.same ∙ ap (λ (z : CoreId). z.0) one ∙ b.same)

  -- where an opening comes under one number alone, the numbers that were given for it are one
  module _ (n : ℕ) (c : OneCore) (is : slice_get cores n ≡ Some c) (o : Opening) (once : (l i k e : ℕ) → Comes n c is l i o → Comes n c is k e o → (l ≡ k) × (i ≡ e)) where
    own_again : (l k i : ℕ) → IsOwnMade j.jobs c l o → Comes n c is k i o → ⊥
    own_again l k i own came =
        not_again rings prefix reason asked j cores names programs all n c is
        (record { own = o; requested = own.over.own; link = k; number = i; opening = o; came = came; binding_is = refl })

    by_origins : (l k : ℕ) (p q : Origin) → Since n c is l o p → Since n c is k o q → p ≡ q
    by_origins l k from_job from_job x y = refl
    by_origins l k from_job (from_link m d) x y = absurd (own_again l m d x y.1)
    by_origins l k (from_link m d) from_job x y = absurd (own_again k m d y x.1)
    by_origins l k (from_link m d) (from_link h e) x y =
        (let (links, numbers) = once m d h e x.1 y.1 in ap (λ (z : ℕ). from_link z d) links ∙ ap (from_link h) numbers)

    given_one : (l i k e : ℕ) (a : Gave c l i) (b : Gave c k e) → (For n c is l i a).opening ≡ o → (For n c is k e b).opening ≡ o → (l ≡ k) × (i ≡ e)
    given_one l i k e a b one two =
        let x = For n c is l i a in
        let y = For n c is k e b in
        let origins = by_origins l k x.origin y.origin (subst (λ (z : Opening). Since n c is l z x.origin) one x.since) (subst (λ (z : Opening). Since n c is k z y.origin) two y.since) in
        (Its n c is).settled.given.once l i k e a b (ap (λ (z : Opening). z.binding) (one ∙ sym two)) origins

  -- back along its route, an opening comes to each core under one number
  came_once : (most n : ℕ) (c : OneCore) (is : slice_get cores n ≡ Some c) (o : Opening) (place : ℕ) → position (is_core c.start.core.monitor.circuits.core) o.path ≡ Some place → place < most
      → (l i k e : ℕ) → Comes n c is l i o → Comes n c is k e o → (l ≡ k) × (i ≡ e)
  came_once zero n c is o place at within l i k e x y = absurd (omega (arith, within))
  came_once (suc most) n c is o place at within l i k e x y =
      let links = came_over n c is o l i k e x y in
      let z : Comes n c is l e o = subst (λ (h : ℕ). Comes n c is h e o) (sym links) y in
      let b = stands_behind c.start.core.monitor.circuits l o.path x.along in
      let d = across_start rings prefix reason asked j cores names programs all n c is l b.state b.state_is in
      let here : b.place ≡ place = one_number b.place place (sym b.place_is ∙ at) in
      let less = b.less in
      let there : position (is_core d.core.start.core.monitor.circuits.core) o.path ≡ Some b.before =
      ap (λ (h : ℕ). position (is_core h) o.path) (d.forth b.state b.state_is) ∙ b.before_is in
      let a1 = (Its d.place d.core d.core_is).under d.link x.frag x.circuit o (d.said x.frag x.has) x.says in
      let a2 = (Its d.place d.core d.core_is).under d.link z.frag z.circuit o (d.said z.frag z.has) z.says in
      let one : o ≡ (For d.place d.core d.core_is d.link x.circuit.0 a1).opening =
      (For d.place d.core d.core_is d.link x.circuit.0 a1).only x.frag x.circuit o (inl (d.said x.frag x.has)) refl x.says in
      let two : o ≡ (For d.place d.core d.core_is d.link z.circuit.0 a2).opening =
      (For d.place d.core d.core_is d.link z.circuit.0 a2).only z.frag z.circuit o (inl (d.said z.frag z.has)) refl z.says in
      let same = given_one d.place d.core d.core_is o (came_once most d.place d.core d.core_is o b.before there (omega (arith, here, less, within)))
      d.link x.circuit.0 d.link z.circuit.0 a1 a2 (sym one) (sym two) in
      (links, sym x.number ∙ same.1 ∙ z.number)

  -- wherever it is
  once_at : (n : ℕ) (c : OneCore) (is : slice_get cores n ≡ Some c) (o : Opening) (l i k e : ℕ) → Comes n c is l i o → Comes n c is k e o → (l ≡ k) × (i ≡ e)
  once_at n c is o l i k e x y =
      let at = stands_behind c.start.core.monitor.circuits l o.path x.along in
      came_once (suc at.place) n c is o at.place at.place_is (omega arith) l i k e x y

  -- so the numbers that a core gave for one binding are one
  one_for : (n : ℕ) (c : OneCore) (is : slice_get cores n ≡ Some c) (l i k e : ℕ) (a : Gave c l i) (b : Gave c k e)
      → (For n c is l i a).opening.binding ≡ (For n c is k e b).opening.binding → (l ≡ k) × (i ≡ e)
  one_for n c is l i k e a b same =
      let o = (For n c is l i a).opening in
      let two : o ≡ (For n c is k e b).opening = one_opening asked j _ all.joined o (For n c is k e b).opening (given_requested n c is l i a) (given_requested n c is k e b) same in
      given_one n c is o (once_at n c is o) l i k e a b refl (sym two)

  -- ---- a link whose numbers are used up

  module _ (n : ℕ) (c : OneCore) (is : slice_get cores n ≡ Some c) (l : ℕ) (used : IsUsedUp c.finish.core.monitor.circuits l) where
    abbrev numbered : ℕ → ℕ
    numbered i = number c.finish.core.monitor.circuits.core used.state.neighbour.0 i

    gave : (i : ℕ) → i < 1023 → Gave c l (numbered i)
    gave i below = record { link = used.state; there = used.state_is; among = (i, (let enough = used.all in omega (arith, below, enough)), refl) }

    -- the opening of each number; beyond them all that of the first
    abbrev opening_by : (i : ℕ) → (i < 1023) ⊎ (1023 ≤ i) → Opening
    opening_by i (inl below) = (For n c is l (numbered i) (gave i below)).opening
    opening_by i (inr past) = (For n c is l (numbered 0) (gave 0 (omega arith))).opening

    over_by : (i : ℕ) (b : (i < 1023) ⊎ (1023 ≤ i)) → i < 1023 → GoesOver j n c.start.core.monitor.circuits l (opening_by i b)
    over_by i (inr past) below = absurd (omega (arith, past, below))
    over_by i (inl here) below = (let x = For n c is l (numbered i) (gave i here) in by x.opening x.origin x.since) where
      by : (o : Opening) (origin : Origin) → Since n c is l o origin → GoesOver j n c.start.core.monitor.circuits l o
      by o from_job x = record {
        requested = record { place = x.over.own.place; request = x.over.own.request; job_is = x.over.own.job_is; opening_is = x.over.own.opening_is };
        over = inl (record {
          link_is = x.over.link_is;
          home = λ b at. at_home rings prefix reason asked j cores names programs all n c is o x.over.own b
              (ap (λ (z : Opening). slice_get j.bindings z.binding) (sym x.over.own.opening_is) ∙ at);
        });
      }
      by o (from_link m d) x = record { requested = since_requested n c is l o (from_link m d) x; over = inr x.2 }

    apart_by : (i k : ℕ) (a : (i < 1023) ⊎ (1023 ≤ i)) (b : (k < 1023) ⊎ (1023 ≤ k)) → i < 1023 → k < 1023 → (opening_by i a).binding ≡ (opening_by k b).binding → i ≡ k
    apart_by i k (inr past) b below too same = absurd (omega (arith, past, below))
    apart_by i k (inl here) (inr past) below too same = absurd (omega (arith, past, too))
    apart_by i k (inl here) (inl there) below too same =
        number_once c.finish.core.monitor.circuits.core used.state.neighbour.0 i k (one_for n c is l (numbered i) l (numbered k) (gave i here) (gave k there) same).1

    abbrev are_over : AreOver j n c.start.core.monitor.circuits l
    are_over = record {
      openings = λ i. opening_by i (cases_lt i 1023);
      over = λ i below. over_by i (cases_lt i 1023) below;
      apart = λ i k below too same. apart_by i k (cases_lt i 1023) (cases_lt k 1023) below too same;
    }

    -- where none was given for a binding, that is none of theirs
    module _ (b : ℕ) (none : (i : ℕ) (a : Gave c l i) → (For n c is l i a).opening.binding ≡ b → ⊥) where
      no_other : (i : ℕ) (a : (i < 1023) ⊎ (1023 ≤ i)) → i < 1023 → (opening_by i a).binding ≡ b → ⊥
      no_other i (inl here) below same = none (numbered i) (gave i here) same
      no_other i (inr past) below same = absurd (omega (arith, past, below))

      crowded_out : (e : EndId) (o : Opening) → o.binding ≡ b → client_of o.binding ≡ e → GoesOver j n c.start.core.monitor.circuits l o → IsCrowdedOut j cores e
      crowded_out e o same ends over = record {
        place = n;
        core = c;
        core_is = is;
        link = l;
        used_up = used;
        opening = o;
        end_is = ends;
        over = over;
        many = are_over;
        others = λ i below again. no_other i (cases_lt i 1023) below (again ∙ same);
      }

  -- ---- an opening that was heard, for which a core gave no number, since none was left

  record IsLeft (o : Opening) : Type 0 where
    pub place : ℕ
    pub core : OneCore
    pub core_is : slice_get cores place ≡ Some core
    pub leads : LeadsOverUsedUp core.start.core.monitor.circuits core.finish.core.monitor.circuits o.path
    pub link : ℕ
    pub number : ℕ
    pub came : Comes place core core_is link number o
    pub none : (k i : ℕ) (a : Gave core k i) → (For place core core_is k i a).origin ≢ from_link link number

  abbrev Talked : (n : ℕ) (c : OneCore) → slice_get cores n ≡ Some c → Talk
  Talked n c is = talk_of c (Its n c is).asking.steps

  abbrev Settles : (n : ℕ) (c : OneCore) (is : slice_get cores n ≡ Some c) (l i : ℕ) (o : Opening) → Type 0
  Settles n c is l i o = GivesNone (Its n c is).settled.given l i ⊎ HeardRefused (Talked n c is) o 74

  abbrev Because : (n : ℕ) (c : OneCore) → slice_get cores n ≡ Some c → Opening → Type 0
  Because n c is o = Why rings prefix reason asked j cores names programs all n c is o 74

  -- it was refused here, or was asked for further on
  settle : (n : ℕ) (c : OneCore) (is : slice_get cores n ≡ Some c) (l i : ℕ) (o : Opening) → Comes n c is l i o → Because n c is o → Settles n c is l i o
      → IsLeft o ⊎ HeardRefused (Talked n c is) o 74
  settle n c is l i o came why (inr h) = inr h
  settle n c is l i o came (inr (inr h)) (inl none) = inr h
  settle n c is l i o came (inr (inl lacks)) (inl none) = absurd (is_offered rings prefix reason asked j cores names programs all n c is l i o came lacks)
  settle n c is l i o came (inl (inl full)) (inl none) = absurd (let seen = full.0 in omega (arith, seen))
  settle n c is l i o came (inl (inr (inl lost))) (inl none) = absurd (let seen = lost.0 in omega (arith, seen))
  settle n c is l i o came (inl (inr (inr used))) (inl none) = inl (record { place = n; core = c; core_is = is; leads = used.1; link = l; number = i; came = came; none = none.none })

  -- the core that said so, forth over the link, with why it did
  record Further (n : ℕ) (c : OneCore) (is : slice_get cores n ≡ Some c) (o : Opening) (place : ℕ) : Type 0 where
    pub n2 : ℕ
    pub core : OneCore
    pub core_is : slice_get cores n2 ≡ Some core
    pub link : ℕ
    pub number : ℕ
    pub came : Comes n2 core core_is link number o
    pub why : Because n2 core core_is o
    pub settles : Settles n2 core core_is link number o
    pub behind : ℕ
    pub behind_is : position (is_core core.start.core.monitor.circuits.core) o.path ≡ Some behind
    pub less : place < behind

  further : (n : ℕ) (c : OneCore) (is : slice_get cores n ≡ Some c) (o : Opening) (place : ℕ) → HeardRefused (Talked n c is) o 74
      → position (is_core c.start.core.monitor.circuits.core) o.path ≡ Some place → Further n c is o place
  further n c is o place h at =
      let x = across_finish rings prefix reason asked j cores names programs all n c is h.link h.given.link h.given.there in
      let g = Its x.place x.core x.core_is in
      let (o2, came2, why2) = g.reasoned.refused x.link h.frag h.circuit 74 (inl (x.said h.frag h.has)) h.says in
      let (o3, came3, settles3) = g.settled.refused x.link h.frag h.circuit 74 (inl (x.said h.frag h.has)) h.says in
      let same2 : o2 ≡ o = h.only came2.frag came2.circuit o2 (inl (x.heard came2.frag came2.has)) came2.number came2.says in
      let same3 : o3 ≡ o = h.only came3.frag came3.circuit o3 (inl (x.heard came3.frag came3.has)) came3.number came3.says in
      let came = subst (λ (y : Opening). Comes x.place x.core x.core_is x.link h.circuit.0 y) same2 came2 in
      let b = stands_behind x.core.start.core.monitor.circuits x.link o.path came.along in
      let states : b.state ≡ x.state = one_state b.state x.state (sym b.state_is ∙ x.state_is) in
      let near : b.state.neighbour.0 ≡ c.start.core.monitor.circuits.core = ap (λ (a : LinkState). a.neighbour.0) states ∙ x.back in
      let before : b.before ≡ place = one_number b.before place (sym b.before_is ∙ ap (λ (k : ℕ). position (is_core k) o.path) near ∙ at) in
      let less = b.less in
      record {
        n2 = x.place;
        core = x.core;
        core_is = x.core_is;
        link = x.link;
        number = h.circuit.0;
        came = came;
        why = subst (λ (y : Opening). Because x.place x.core x.core_is y) same2 why2;
        settles = subst (λ (y : Opening). Settles x.place x.core x.core_is x.link h.circuit.0 y) same3 settles3;
        behind = b.place;
        behind_is = b.place_is;
        less = omega (arith, before, less);
      }

  forth : (most n : ℕ) (c : OneCore) (is : slice_get cores n ≡ Some c) (l i : ℕ) (o : Opening) (place : ℕ) → Comes n c is l i o → Because n c is o → Settles n c is l i o
      → position (is_core c.start.core.monitor.circuits.core) o.path ≡ Some place → length o.path ≤ place + most → IsLeft o
  forth zero n c is l i o place came why settles at within =
      let core : CoreId = record { 0 = c.start.core.monitor.circuits.core } in
      let inside = (position-Some (is_core c.start.core.monitor.circuits.core) o.path place core at).0 in
      absurd (omega (arith, inside, within))
  forth (suc most) n c is l i o place came why settles at within = elim (settle n c is l i o came why settles) [
    | inl left ↦ left
    | inr h ↦
        (let x = further n c is o place h at in
        let less = x.less in
        forth most x.n2 x.core x.core_is x.link x.number o x.behind x.came x.why x.settles x.behind_is (omega (arith, less, within)))
  ]

  -- what a core heard to be refused so, which it asked for
  heard_left : (n : ℕ) (c : OneCore) (is : slice_get cores n ≡ Some c) (l : ℕ) (link : LinkState) (f : Frag) (d : Circuit) (own : Opening) → slice_get c.start.core.monitor.circuits.links l ≡ Some link
      → Has f (Heard rings prefix reason asked j cores names programs all n c is l) → Says f (CircuitRefused d 74) → AsksOnly (Talked n c is).said (Talked n c is).monitor l d.0 own → IsLeft own
  heard_left n c is l link f d own there has says_it only =
      let x = across_start rings prefix reason asked j cores names programs all n c is l link there in
      let g = Its x.place x.core x.core_is in
      let (o2, came2, why2) = g.reasoned.refused x.link f d 74 (inl (x.said f has)) says_it in
      let (o3, came3, settles3) = g.settled.refused x.link f d 74 (inl (x.said f has)) says_it in
      let same2 : o2 ≡ own = only came2.frag came2.circuit o2 (inl (x.heard came2.frag came2.has)) came2.number came2.says in
      let same3 : o3 ≡ own = only came3.frag came3.circuit o3 (inl (x.heard came3.frag came3.has)) came3.number came3.says in
      let came = subst (λ (y : Opening). Comes x.place x.core x.core_is x.link d.0 y) same2 came2 in
      let b = stands_behind x.core.start.core.monitor.circuits x.link own.path came.along in
      forth (length own.path) x.place x.core x.core_is x.link d.0 own b.place came (subst (λ (y : Opening). Because x.place x.core x.core_is y) same2 why2)
      (subst (λ (y : Opening). Settles x.place x.core x.core_is x.link d.0 y) same3 settles3) b.place_is (omega arith)

  -- there no number was given for its binding
  left_out : (e : EndId) (o : Opening) → client_of o.binding ≡ e → IsLeft o → IsCrowdedOut j cores e
  left_out e o ends x =
      crowded_out x.place x.core x.core_is x.leads.link x.leads.used_up o.binding none e o refl ends
      (record { requested = requested; over = inr (record { next = x.leads.next; next_is = x.leads.next_is; link_is = x.leads.link_is }) })
    where
      requested : IsRequested j.jobs o
      requested = came_requested x.place x.core x.core_is x.link x.number o x.came

      by : (l : ℕ) (origin : Origin) → Since x.place x.core x.core_is l o origin → origin ≡ from_link x.link x.number
      by l from_job since = absurd (own_again x.place x.core x.core_is o (once_at x.place x.core x.core_is o) l x.link x.number since x.came)
      by l (from_link m d) since =
          (let (links, numbers) = once_at x.place x.core x.core_is o m d x.link x.number since.1 x.came in ap (λ (z : ℕ). from_link z d) links ∙ ap (from_link x.link) numbers)

      none : (i : ℕ) (a : Gave x.core x.leads.link i) → (For x.place x.core x.core_is x.leads.link i a).opening.binding ≡ o.binding → ⊥
      none i a same =
          let y = For x.place x.core x.core_is x.leads.link i a in
          let one : y.opening ≡ o = one_opening asked j _ all.joined y.opening o (given_requested x.place x.core x.core_is x.leads.link i a) requested same in
          x.none x.leads.link i a (by x.leads.link y.origin (subst (λ (z : Opening). Since x.place x.core x.core_is x.leads.link z y.origin) one y.since))

  -- ---- an opening of an own job, for which none was left

  own_out : (n : ℕ) (c : OneCore) (is : slice_get cores n ≡ Some c) (e : EndId) → WasRefused j.jobs c.start c.finish e 74 → IsCrowdedOut j cores e
  own_out n c is e x = by x.why where
    own : IsOwnRequest j.jobs c.start x.request.opening
    own = record { name = e; progress = x.progress; progress_is = x.progress_is; turn = x.turn; place = x.place; place_is = x.place_is; request = x.request; job_is = x.job_is; opening_is = refl }

    requested : IsRequested j.jobs x.request.opening
    requested = record { place = x.place; request = x.request; job_is = x.job_is; opening_is = refl }

    alone : IsOnlyRequest j.jobs x.request
    alone p w there same =
        let (bound, bound_is) = at_within j.bindings x.request.opening.binding (all.joined.there x.place (job.Open x.request) x.job_is) in
        let places = one_place asked j _ all.joined bound.opened bound x.request.opening.binding bound_is refl p x.place w x.request there x.job_is same refl in
        one_job w x.request (sym there ∙ ap (slice_get j.jobs) places ∙ x.job_is)

    -- no number was given for its binding: its end isn't there
    given_none : (l : ℕ) (origin : Origin) → Since n c is l x.request.opening origin → ⊥
    given_none l from_job since = (let clash : Some since.place ≡ None = sym since.place_is ∙ x.gone refl alone in cc)
    given_none l (from_link m d) since =
        not_again rings prefix reason asked j cores names programs all n c is
        (record { own = x.request.opening; requested = own; link = m; number = d; opening = x.request.opening; came = since.1; binding_is = refl })

    none : (i : ℕ) (a : Gave c x.request.link.0 i) → (For n c is x.request.link.0 i a).opening.binding ≡ x.request.opening.binding → ⊥
    none i a same =
        let y = For n c is x.request.link.0 i a in
        let one : y.opening ≡ x.request.opening = one_opening asked j _ all.joined y.opening x.request.opening (given_requested n c is x.request.link.0 i a) requested same in
        given_none x.request.link.0 y.origin (subst (λ (z : Opening). Since n c is x.request.link.0 z y.origin) one y.since)

    by_progress : (x.progress.jobs ≡ []) ⊎ HasOwn j n e x.progress.jobs → client_of x.request.opening.binding ≡ e
    by_progress (inl empty) = absurd (let no : None ≡ Some x.place = sym (ap (λ (xs : List ℕ). slice_get xs x.turn) empty) ∙ x.place_is in cc)
    by_progress (inr has) = opener asked j (length cores) all.joined e x.progress.jobs x.turn x.place (job.Open x.request) has.jobs_are x.place_is x.job_is

    ends : client_of x.request.opening.binding ≡ e
    ends = by_progress (all.own n c e x.progress is x.progress_is)

    over : GoesOver j n c.start.core.monitor.circuits x.request.link.0 x.request.opening
    over = record {
      requested = record { place = x.place; request = x.request; job_is = x.job_is; opening_is = refl };
      over = inl (record { link_is = refl; home = λ b at. at_home rings prefix reason asked j cores names programs all n c is x.request.opening own b at });
    }

    by : RefusesRequest (WasFull j.jobs c.finish) c.start.core.monitor.circuits c.finish.core.monitor.circuits x.request 74 → IsCrowdedOut j cores e
    by (inl full) = absurd (let seen = full.0 in omega (arith, seen))
    by (inr (inl lost)) = absurd (let seen = lost.0 in omega (arith, seen))
    by (inr (inr used)) = crowded_out n c is x.request.link.0 used.1 x.request.opening.binding none e x.request.opening refl ends over

  -- ---- at an end's progress

  progress_out : AllAmple cores → (n : ℕ) (c : OneCore) (e : EndId) → slice_get cores n ≡ Some c → refusal_at c.start e ≡ 0 → refusal_at c.finish e ≡ 74 → IsCrowdedOut j cores e
  progress_out ample n c e is none last = elim ((Its n c is).progresses (ample n c is) e) [
    | inl same ↦ absurd (let clash : 74 ≡ 0 = sym last ∙ same ∙ none in omega (arith, clash))
    | inr told ↦ by (subst (IsRefusedAt j.jobs c (Its n c is).asking.steps e) last told)
  ] where
    by : IsRefusedAt j.jobs c (Its n c is).asking.steps e 74 → IsCrowdedOut j cores e
    by (inl h) = left_out e h.own h.end_is (heard_left n c is h.link h.state h.frag h.circuit h.own h.state_is h.has h.says h.only)
    by (inr (inl own)) = own_out n c is e own
    by (inr (inr again)) = absurd (not_again rings prefix reason asked j cores names programs all n c is again)

pub spent_on : RingsConserve → CircuitsPrefix → CoresReason → SpentOnBindings
spent_on rings prefix reason asked j cores names programs all n c is l used = are_over rings prefix reason asked j cores names programs all n c is l used

pub spent_out : RingsConserve → CircuitsPrefix → CoresReason → SpentOnOthers
spent_out rings prefix reason asked j cores names programs all ample n c e is none last = progress_out rings prefix reason asked j cores names programs all ample n c e is none last
