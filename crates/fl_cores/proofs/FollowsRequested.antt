-- What a core of a run hears to be asked for is what jobs ask for; so it hears of no route that names a core twice.
use Rattle.std.proofs.Common.{◌≡◌, inl, inr, refl, sym, ◌∙◌, ap, subst, ℕ, ◌+◌, ◌-◌, ◌*◌, ◌^◌, not, Bool, true, false, if◌then◌else◌, List, [], ◌∷◌, ◌++◌, map, slice_get, slice_set, Some, arith}
use Rattle.std.specs.Prelude.{Ok}
use Rattle.fl_base.specs.declared.fragment.Frag.{Frag}
use Rattle.fl_base.specs.declared.identity.CoreId.{CoreId}
use Rattle.fl_base.specs.declared.identity.LinkId.{LinkId}
use Rattle.fl_base.specs.Control.{bare, body, circuit_of, is_ack_only}
use Rattle.fl_base.specs.Numbered.{core_id}
use Rattle.fl_link.specs.Calls.{bare_calls}
use Rattle.fl_link.specs.Looks.{found, takes_of}
use Rattle.fl_ring.specs.Laws.{SideLaw}
use Rattle.fl_ring.specs.SharedSides.{TheSide}
use Rattle.fl_hop.specs.OfCircuit.{as_carried, with_number, of_circuit}
use Rattle.fl_hop.specs.Table.{TheCircuits}
use Rattle.fl_hop.specs.Stretch.{taken_from}
use Rattle.fl_hop.proofs.Laws.{is_eq, of_join}
use Rattle.fl_link.proofs.Carried.{bare-bare}
use Rattle.fl_hop.proofs.Lists.{set_here}
use Rattle.fl_monitor.specs.declared.message.MonitorMessage.{MonitorMessage}
use Rattle.fl_monitor.specs.declared.opening.Opening.{Opening as Asked}
use Rattle.fl_monitor.specs.Fates.{comes_along}
use Rattle.fl_monitor.specs.Saying.{Says}
use Rattle.fl_monitor.proofs.Single.{says_the_same, says_alone}
use Rattle.fl_core.specs.declared.answer.MonitorAnswer.TheVariants as answer
use Rattle.fl_core.specs.View.{TheCore, side_of_link}
use Rattle.fl_core.specs.declared.core_job.CoreJob.{CoreJob}
use Rattle.fl_core_run.specs.LogEntries.{LogEntry, heard, Happens}
use Rattle.fl_core_run.specs.Run.{TheRun}
use Rattle.fl_core_run_laws.specs.Logs.{InPlace, Goes, LogsLook}
use Rattle.fl_core_run_laws.proofs.Apart.{side_before}
use Rattle.fl_core_run_laws.proofs.Aside.{rings_aside, core_aside}
use Rattle.fl_core_run_laws.proofs.Growing.{does_grow}
use Rattle.fl_core_run_laws.proofs.Laning.{link_side_of}
use Rattle.fl_model.specs.Binding.{all_differ}
use Rattle.fl_model.specs.Rings.{OpeningLabel, open_circuit}
use Rattle.fl_cores_laws.specs.Asked.{HasLogEntry, AsksBy, GoesRequested}
use Rattle.fl_cores_laws.specs.Cores.{OneCore}
use Rattle.fl_cores_laws.specs.Named.{Has}
use Rattle.fl_cores_fork.specs.Runs.{shared_ways}
use Rattle.fl_core_refines.specs.CutHearing.{said_of}
use Rattle.fl_core_refines.proofs.Opening.{path_same}
use Rattle.fl_core_refines.proofs.Readying.{asks_for}
use Rattle.fl_cores.proofs.FollowsRoutes.{RoutesDiffer}

-- ---- a message that was heard

-- in the end of the run its fragment stands among those that the link's side took
record Found (u t : TheRun TheSide) (n : ℕ) (l : LinkId) (frag : Frag) : Type 0 where
  pub link_side : side_of_link u.core.link_sides l.0 ≡ Some n
  pub on_zero : circuit_of frag.control ≡ 0
  pub side : TheSide
  pub side_is : slice_get t.rings n ≡ Some side
  pub prior : List Frag
  pub later : List Frag
  pub got : bare_calls side.got ≡ (prior ++ bare frag ∷ []) ++ later

module _ (look : LogsLook shared_ways) (law : SideLaw) (jobs : List CoreJob) where
  here : (u m t : TheRun TheSide) (rest : List LogEntry) (n : ℕ) (l : LinkId) (frag : Frag) → Happens shared_ways (heard n l frag (Ok answer.Done)) u m
      → InPlace jobs u (heard n l frag (Ok answer.Done)) → Goes shared_ways jobs m rest t → Found u t n l frag
  here u m t rest n l frag (mid, on, notes, sound, soundly, whole) place goes =
      let ((msg, is, all), takes) = on.event in
      let rings : m.rings ≡ slice_set u.rings n on.after
      = rings_aside mid m (heard n l frag (Ok answer.Done)) notes ∙ ap (λ (x : TheRun TheSide). x.rings) on.rest in
      let at : slice_get m.rings n ≡ Some on.after
      = ap (λ (xs : List TheSide). slice_get xs n) rings ∙ set_here u.rings n on.before on.after on.before_is in
      let (side, side_is, (looks, led)) = look jobs m t rest goes n on.after at in
      let one = law on.before on.after (found (bare frag) ∷ []) (on.after, inr takes, refl) in
      let more = law on.after side looks led in
      record {
        link_side = link_side_of u l n place.0;
        on_zero = place.1;
        side = side;
        side_is = side_is;
        prior = bare_calls on.before.got;
        later = takes_of looks;
        got = more.took ∙ ap (λ (xs : List Frag). xs ++ takes_of looks) one.took;
      }

  earlier : (u m t : TheRun TheSide) (log_entry : LogEntry) (n : ℕ) (l : LinkId) (frag : Frag) → Happens shared_ways log_entry u m → Found m t n l frag → Found u t n l frag
  earlier u m t log_entry n l frag (mid, does, notes, sound, soundly, whole) x =
      let core : m.core ≡ mid.core = core_aside mid m log_entry notes in
      let grows = does_grow shared_ways log_entry u mid does in
      record {
        link_side = side_before u.core.link_sides mid.core.link_sides l.0 n grows.link_sides (ap (λ (k : TheCore). side_of_link k.link_sides l.0) (sym core) ∙ x.link_side);
        on_zero = x.on_zero;
        side = x.side;
        side_is = x.side_is;
        prior = x.prior;
        later = x.later;
        got = x.got;
      }

  found_in : (u t : TheRun TheSide) (log : List LogEntry) → Goes shared_ways jobs u log t → (n : ℕ) (l : LinkId) (frag : Frag)
      → HasLogEntry (heard n l frag (Ok answer.Done)) log → Found u t n l frag
  found_in u t [] goes n l frag has = absurd has
  found_in u t (log_entry ∷ log) (m, happens, place, rest) n l frag (inl same) =
      here u m t log n l frag (subst (λ (d : LogEntry). Happens shared_ways d u m) same happens) (subst (λ (d : LogEntry). InPlace jobs u d) same place) rest
  found_in u t (log_entry ∷ log) (m, happens, place, rest) n l frag (inr later_on) = earlier u m t log_entry n l frag happens (found_in m t log rest n l frag later_on)

-- ---- it was asked for

carried_step : (w : ℕ) → circuit_of w ≡ 0 → body (body (body w - 2 ^ 32 * circuit_of (body w) + 2 ^ 32 * 0)) ≡ body w
carried_step w zero_is = omega (arith, zero_is)

-- carrying leaves a fragment on circuit 0 what it is
carried_zero : (f : Frag) → circuit_of f.control ≡ 0 → bare (as_carried (bare f)) ≡ bare f
carried_zero f zero_is = ap (λ (w : ℕ). let x : Frag = record { words = f.words; control = w } in x) (carried_step f.control zero_is)

first_call : (a : Bool) (f : Frag) → a ≡ false → (if not a then f ∷ [] else []) ≡ f ∷ []
first_call false f is = refl
first_call true f is = absurd (cc)

-- one that says something is carried on circuit 0
says_zero : (f : Frag) (m : MonitorMessage) → Says f m → of_circuit 0 (bare f ∷ []) ≡ as_carried (bare f) ∷ []
says_zero f m s =
    let alone = says_alone (bare f) m (says_the_same f (bare f) m (bare-bare f) s) in
    ap (with_number 0) (first_call (is_ack_only (bare f)) (bare f) alone.no_ack)
    ∙ ap (λ (b : Bool). if b then as_carried (bare f) ∷ [] else []) (is_eq (circuit_of (bare f).control) 0 alone.circuit)

in_first : (f : Frag) (xs ys : List Frag) → Has f xs → Has f (xs ++ ys)
in_first f [] ys h = absurd h
in_first f (x ∷ xs) ys (inl same) = inl same
in_first f (x ∷ xs) ys (inr rest) = inr (in_first f xs ys rest)

in_last : (f : Frag) (xs ys : List Frag) → Has f ys → Has f (xs ++ ys)
in_last f [] ys h = h
in_last f (x ∷ xs) ys h = inr (in_last f xs ys h)

has_carried : (prior later : List Frag) (f : Frag) (m : MonitorMessage) → Says f m → Has (as_carried (bare f)) (of_circuit 0 ((prior ++ bare f ∷ []) ++ later))
has_carried prior later f m says =
    let own : Has (as_carried (bare f)) (of_circuit 0 (bare f ∷ [])) = subst (Has (as_carried (bare f))) (sym (says_zero f m says)) (inl refl) in
    let first : Has (as_carried (bare f)) (of_circuit 0 (prior ++ bare f ∷ []))
    = subst (Has (as_carried (bare f))) (sym (of_join 0 prior (bare f ∷ []))) (in_last (as_carried (bare f)) (of_circuit 0 prior) (of_circuit 0 (bare f ∷ [])) own) in
    subst (Has (as_carried (bare f))) (sym (of_join 0 (prior ++ bare f ∷ []) later))
    (in_first (as_carried (bare f)) (of_circuit 0 (prior ++ bare f ∷ [])) (of_circuit 0 later) first)

same_value : {X : Type 0} (a b : X) → Some a ≡ Some b → a ≡ b
same_value a b is = cc

-- of each opening that a core with this table hears, and that came along its route, the route names no core twice
abbrev pub NoneTwice : TheCircuits → List LogEntry → Type 0
NoneTwice t log = (n : ℕ) (l : LinkId) (frag : Frag) (m : MonitorMessage) (o : OpeningLabel) → HasLogEntry (heard n l frag (Ok answer.Done)) log → Says frag m
    → said_of m ≡ open_circuit o → comes_along t l.0 (map core_id o.path) ≡ true → all_differ o.path ≡ true

pub none_twice : LogsLook shared_ways → SideLaw → (jobs : List CoreJob) (c : OneCore) (s t : TheRun TheSide) (log : List LogEntry) → c.start ≡ s → c.finish ≡ t
    → GoesRequested jobs c → ((l : LinkId) (n : ℕ) → side_of_link c.start.core.link_sides l.0 ≡ Some n → (p : TheSide) × (slice_get c.start.rings n ≡ Some p) × (p.got ≡ []))
    → RoutesDiffer jobs → Goes shared_ways jobs s log t → NoneTwice s.core.monitor.circuits log
none_twice look law jobs c s t log start finish requested first differ goes n l frag m o has says asked along =
    let x = found_in look law jobs s t log goes n l frag has in
    let link_side : side_of_link c.start.core.link_sides l.0 ≡ Some n = ap (λ (r : TheRun TheSide). side_of_link r.core.link_sides l.0) start ∙ x.link_side in
    let (p, p_is, p_new) = first l n link_side in
    let carries = requested.asking.links l.0 n p link_side p_is in
    let end : slice_get c.finish.rings n ≡ Some x.side = ap (λ (r : TheRun TheSide). slice_get r.rings n) finish ∙ x.side_is in
    let same_side : carries.after ≡ x.side = same_value carries.after x.side (sym carries.after_is ∙ end) in
    let all = law p carries.after carries.looks carries.led in
    let took : taken_from l.0 requested.asking.steps ≡ (x.prior ++ bare frag ∷ []) ++ x.later
    = sym carries.took_is ∙ sym (ap (λ (xs : List Frag). bare_calls xs ++ takes_of carries.looks) p_new) ∙ sym all.took
    ∙ ap (λ (y : TheSide). bare_calls y.got) same_side ∙ x.got in
    let is = asks_for m o asked in
    let its = subst (λ (y : MonitorMessage). Says frag y) is.message says in
    let said_so : AsksBy (as_carried (bare frag)) is.asked = record { circuit = is.circuit; says = says_the_same frag (as_carried (bare frag)) _ (carried_zero frag x.on_zero) its } in
    let request = requested.heard is.asked (record {
      link = l;
      frag = as_carried (bare frag);
      has = subst (λ (xs : List Frag). Has (as_carried (bare frag)) (of_circuit 0 xs)) (sym took) (has_carried x.prior x.later frag m says);
      asks = said_so;
      along = ap (λ (r : TheRun TheSide). comes_along r.core.monitor.circuits l.0 is.asked.path) start
          ∙ ap (comes_along s.core.monitor.circuits l.0) (sym (path_same is.asked.path) ∙ ap (λ (y : OpeningLabel). map core_id y.path) (sym is.opening)) ∙ along;
    }) in
    ap (λ (y : OpeningLabel). all_differ y.path) is.opening
    ∙ ap (λ (y : Asked). all_differ (map (λ (z : CoreId). z.0) y.path)) (sym request.opening_is) ∙ differ request.place request.request request.job_is
