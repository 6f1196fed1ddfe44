-- A binding by a route: from the parts of a world to the world.
use Rattle.std.proofs.Common.{◌≡◌, ◌∙◌, refl, sym, ap, ap₂, subst, ℕ, ◌<◌, ◌≤◌, Bool, true, nat_lt, nat_le, List, [], ◌∷◌, length, length-set, map, slice_get, slice_set, slice_index_or, Some, Result, Ok, Err, inl, inr, arith}
use Rattle.std.specs.Prelude.{◌&&◌, is_some}
use Rattle.std.specs.List.{list_all}
use Rattle.std.proofs.lemmas.Bool.{and_parts, or_cases, ltb-true, lt-ltb}
use Rattle.std.proofs.lemmas.List.{set-get_or}
use Rattle.std.proofs.lemmas.Option.{get_or_from_slice_get}
use Rattle.fl_base.specs.declared.identity.CoreId.{CoreId}
use Rattle.fl_base.specs.declared.identity.LinkId.{LinkId}
use Rattle.fl_base.specs.Numbered.{core_id}
use Rattle.fl_compile.specs.declared.program.Program.{Program}
use Rattle.fl_core.specs.declared.board_fault.BoardFault.TheVariants as board
use Rattle.fl_model.specs.Views.{id_of}
use Rattle.fl_monitor.specs.declared.fault.MonitorFault.{MonitorFault}
use Rattle.fl_monitor.specs.declared.fault.MonitorFault.TheVariants as monitor
use Rattle.fl_monitor.specs.Monitors.{MayOpen, wanted}
use Rattle.fl_core.specs.declared.fault.OpenFault.{OpenFault}
use Rattle.fl_core.specs.declared.fault.OpenFault.TheVariants as fault
use Rattle.fl_core.specs.Making.{asked, Asks}
use Rattle.fl_core.specs.View.{TheCore, place_of, client_of, server_of}
use Rattle.fl_model.specs.Binding.{all_differ}
use Rattle.fl_model.specs.Events.{Answer}
use Rattle.fl_world_refines.specs.declared.binding.Binding.{Binding}
use Rattle.fl_world_refines.specs.Binding.{may_be_route, by_cores, OpensBy, AsksBy}
use Rattle.fl_world_refines.specs.Lending.{Refuses}
use Rattle.fl_world_refines.specs.Making.{is_core}
use Rattle.fl_world_refines.specs.View.{TheWorld, IsWhole}
use Rattle.fl_world.specs.declared.binding.BindRequest.{BindRequest}
use Rattle.fl_world_events.specs.declared.by_route.OpenOutcome.{OpenOutcome}
use Rattle.fl_world_events.specs.declared.by_route.CircuitBinding.{CircuitBinding}
use Rattle.fl_world_events.specs.declared.by_route.OpenOutcome.TheVariants as begun
use Rattle.fl_world_events.specs.Requests.{HasDispatcher}
use Rattle.fl_world.specs.Requests.{request, IsCopyOf}
use Rattle.fl_world_events.specs.Routes.{IsNumberOf, BeginsIn, AtOne, Follows, OpensOver}
use Rattle.fl_world.specs.Routes.{Keeps, opening_along, unmade_binding, MayOpenFrom, OpensOnLink}
use Rattle.fl_world_events.proofs.Lifts.{one_value, stands}
use Rattle.fl_world_events.proofs.Routes.{core_below}
use Rattle.fl_world.proofs.Requested.{copied}

-- ---- a route

all_small : (cores : List ℕ) (count : ℕ) → count ≤ 16 → list_all (λ n. nat_lt n count) cores ≡ true
    → list_all (λ n. nat_lt n 256) cores ≡ true
all_small [] count few h = refl
all_small (c ∷ cs) count few h =
    let (first, others) = and_parts (nat_lt c count) (list_all (λ n. nat_lt n count) cs) h in
    let below = ltb-true c count first in
    ap₂ (λ (a b : Bool). a && b) (lt-ltb c 256 (omega (arith, below, few))) (all_small cs count few others)

-- what the test tells
module _ (cores : List ℕ) (w : TheWorld) (may : may_be_route cores w ≡ true) where
  all_but_last : (nat_le 2 (length cores) && nat_le (length cores) 16 && list_all (λ n. is_core n w) cores) ≡ true
  all_but_last = (and_parts _ (all_differ cores) may).0

  are_cores : list_all (λ n. is_core n w) cores ≡ true
  are_cores = (and_parts (nat_le 2 (length cores) && nat_le (length cores) 16) _ all_but_last).1

pub small_route : (w base : TheWorld) → base ≡ w → (cores : List ℕ) → length base.cores ≤ 16 → may_be_route cores w ≡ true
    → list_all (λ n. nat_lt n 256) cores ≡ true
small_route w base same cores few may =
    all_small cores (length w.cores) (subst (λ (v : TheWorld). length v.cores ≤ 16) same few) (are_cores cores w may)

-- ---- the client's core

-- none has come or gone
pub as_many : (cores cores2 : List TheCore) (n : ℕ) (Event : TheCore → TheCore → Type 0) → AtOne cores n Event cores2 → length cores2 ≡ length cores
as_many cores cores2 n Event h = ap length h.rest ∙ length-set cores n h.after

-- ---- a circuit is begun

set_same : (cores : List TheCore) (n : ℕ) (k : TheCore) → slice_get cores n ≡ Some k → slice_set cores n k ≡ cores
set_same cores n k is = ap (slice_set cores n) (sym (get_or_from_slice_get cores n k k is)) ∙ set-get_or cores n k

abbrev world_of : TheWorld → List TheCore → List Binding → TheWorld
world_of w cores bindings = record w { cores = cores; bindings = bindings }

as_it_was : (w : TheWorld) (n : ℕ) (k k2 : TheCore) (cores2 : List TheCore) (bindings2 : List Binding) → slice_get w.cores n ≡ Some k → k2 ≡ k
    → cores2 ≡ slice_set w.cores n k2 → bindings2 ≡ w.bindings → world_of w cores2 bindings2 ≡ w
as_it_was w n k k2 cores2 bindings2 is same cores bindings =
    ap₂ (world_of w) (cores ∙ ap (slice_set w.cores n) same ∙ set_same w.cores n k is) bindings

-- a refused opening left the core as it was
still_same : (x : BindRequest) (copy : Program) (l : LinkId) (n : ℕ) (path : List CoreId) (f : OpenFault) (k k2 : TheCore)
    → Asks (asked x.client.place copy l (opening_along x n path)) k (Err f) k2 → k2 ≡ k
still_same x copy l n path (fault.Board f) k k2 h = h.1
still_same x copy l n path (fault.Monitor f) k k2 h = h.2

-- its number is the answer
its_number : (x : BindRequest) (p : Program) (f : OpenFault) (n : ℕ) (w : TheWorld) (k : TheCore) (a : Answer) (w2 : TheWorld) → IsNumberOf f n
    → Refuses n w a w2 → AsksBy (request x p) (Err f) w k a w2
its_number x p (fault.Board board.NotBound) n w k a w2 is h = subst (λ m. Refuses m w a w2) is h
its_number x p (fault.Board board.Registered) n w k a w2 is h = subst (λ m. Refuses m w a w2) is h
its_number x p (fault.Board board.NotRegistered) n w k a w2 is h = subst (λ m. Refuses m w a w2) is h
its_number x p (fault.Board board.TooManyEnds) n w k a w2 is h = subst (λ m. Refuses m w a w2) is h
its_number x p (fault.Board board.Failed) n w k a w2 is h = subst (λ m. Refuses m w a w2) is h
its_number x p (fault.Board board.Memory) n w k a w2 is h = is
its_number x p (fault.Monitor monitor.Misrouted) n w k a w2 is h = subst (λ m. Refuses m w a w2) is h
its_number x p (fault.Monitor monitor.Differs) n w k a w2 is h = subst (λ m. Refuses m w a w2) is h
its_number x p (fault.Monitor monitor.NoRoute) n w k a w2 is h = subst (λ m. Refuses m w a w2) is h
its_number x p (fault.Monitor monitor.UsedUp) n w k a w2 is h = subst (λ m. Refuses m w a w2) is h
its_number x p (fault.Monitor monitor.OutboxFull) n w k a w2 is h = subst (λ m. Refuses m w a w2) is h
its_number x p (fault.Monitor monitor.PlansDiffer) n w k a w2 is h = subst (λ m. Refuses m w a w2) is h
its_number x p (fault.Monitor monitor.Memory) n w k a w2 is h = is

module _ (w : TheWorld) (x : BindRequest) (l : LinkId) (own kept : Program) (a : Answer) (cores2 : List TheCore) (bindings2 : List Binding)
    (own_is : IsCopyOf x.interface w own) (kept_is : IsCopyOf x.interface w kept) where
  abbrev Begins : List CoreId → OpenOutcome → Type 0
  Begins path o = AtOne w.cores x.client.core (BeginsIn (asked x.client.place own l (opening_along x (length w.bindings) path)) o) cores2

  -- at the core as it was before
  by_begun : (o : OpenOutcome) (cores : List ℕ) (h : Begins (map core_id cores) o) → Keeps o (unmade_binding x kept) w.bindings a bindings2
      → (p : Program) → slice_get w.programs x.interface ≡ Some p → OpensBy (Ok l) (by_cores (request x p) cores) h.before w a (world_of w cores2 bindings2)
  by_begun begun.There cores h keeps p is =
      let (there, same) = h.event.event in
      let ends = or_cases (is_some (place_of h.before (client_of (length w.bindings)))) (is_some (place_of h.before (server_of (length w.bindings)))) there in
      inr ((h.before, h.before_is, ends), (keeps.0, as_it_was w x.client.core h.before h.after cores2 bindings2 h.before_is same h.rest keeps.1))
  by_begun (begun.Refused n) cores h keeps p is =
      let (f, asks, number) = h.event.event in
      let same = still_same x own l (length w.bindings) (map core_id cores) f h.before h.after asks in
      let kept_world = as_it_was w x.client.core h.before h.after cores2 bindings2 h.before_is same h.rest keeps.1 in
      inl (record {
        program = own;
        copy = own_is p is;
        result = Err f;
        after = h.after;
        still = h.event.still;
        asks = asks;
        follows = its_number x p f n w h.after a (world_of w cores2 bindings2) number (keeps.0, kept_world);
      })
  by_begun begun.Waits cores h keeps p is =
      let (e, asks) = h.event.event in
      inl (record {
        program = own;
        copy = own_is p is;
        result = Ok e;
        after = h.after;
        still = h.event.still;
        asks = asks;
        follows = (keeps.0, record { program = kept; copy = kept_is p is; rest = ap₂ (world_of w) h.rest keeps.1 });
      })

  opens_on_link : (path : List CoreId) (o : OpenOutcome) → Begins path o → Keeps o (unmade_binding x kept) w.bindings a bindings2
      → OpensOnLink x l path w a (world_of w cores2 bindings2)
  opens_on_link path o h keeps = λ p k cores is core_is along.
      let it = subst (λ (q : List CoreId). Begins q o) along h in
      let same = one_value it.before k (sym it.before_is ∙ core_is) in
      subst (λ (c : TheCore). OpensBy (Ok l) (by_cores (request x p) cores) c w a (world_of w cores2 bindings2)) same (by_begun o cores it keeps p is)

pub opened_on_link : (w base : TheWorld) → base ≡ w → (x : BindRequest) (l : LinkId) (path : List CoreId) (own kept : Program)
    → IsCopyOf x.interface w own → IsCopyOf x.interface w kept
    → (bindings : List Binding) → bindings ≡ base.bindings → (b : Binding) → b ≡ unmade_binding x kept → (n : ℕ) → n ≡ length base.bindings
    → (o : OpenOutcome) (cores cores2 : List TheCore) → cores ≡ base.cores
    → AtOne cores x.client.core (BeginsIn (asked x.client.place own l (opening_along x n path)) o) cores2
    → (a : Answer) (bindings2 : List Binding) → Keeps o b bindings a bindings2 → (cores3 : List TheCore) → cores3 ≡ cores2
    → OpensOnLink x l path w a (world_of base cores3 bindings2)
opened_on_link w base same x l path own kept own_is kept_is bindings reserved b b_is n n_is o cores cores2 cores_are h a bindings2 keeps cores3 written =
    let opening = opening_along x (length base.bindings) path in
    let numbered = subst (λ (i : ℕ). AtOne cores x.client.core (BeginsIn (asked x.client.place own l (opening_along x i path)) o) cores2) n_is h in
    let begins = subst (λ (ks : List TheCore). AtOne ks x.client.core (BeginsIn (asked x.client.place own l opening) o) cores2) cores_are numbered in
    let follows = subst (λ (c : Binding). Keeps o c base.bindings a bindings2) b_is
    (subst (λ (bs : List Binding). Keeps o b bs a bindings2) reserved keeps) in
    let own_copy = subst (λ (v : TheWorld). IsCopyOf x.interface v own) (sym same) own_is in
    let kept_copy = subst (λ (v : TheWorld). IsCopyOf x.interface v kept) (sym same) kept_is in
    subst (λ (v : TheWorld). OpensOnLink x l path v a (world_of base cores3 bindings2)) same
    (subst (λ (ks : List TheCore). OpensOnLink x l path base a (world_of base ks bindings2)) (sym written)
    (opens_on_link base x l own kept a cores2 bindings2 own_copy kept_copy path o begins follows))

keeps_of : (o : OpenOutcome) (b : Binding) (bs : List Binding) (a : Answer) (bs2 : List Binding) → Follows o b bs a bs2 → Keeps o b bs a bs2
keeps_of begun.There b bs a bs2 h = h
keeps_of (begun.Refused n) b bs a bs2 h = h
keeps_of begun.Waits b bs a bs2 h = h

abbrev pub between_of : BindRequest → CircuitBinding
between_of x = record { interface = x.interface; client = x.client; server = x.server.core }

-- base lends its cores and bindings, and a program that is read
pub opened_over : (w base : TheWorld) → base ≡ w → (x : BindRequest) (l : LinkId) (path : List CoreId) → x.interface < length w.programs
    → (read : Program) → read ≡ slice_index_or base.programs x.interface read → (n : ℕ) → n ≡ length base.bindings
    → (cores cores2 : List TheCore) → cores ≡ base.cores → (a : Answer) (bindings2 : List Binding)
    → OpensOver read (between_of x) l (opening_along x n path) a cores cores2 base.bindings bindings2 → (cores3 : List TheCore) → cores3 ≡ cores2
    → OpensOnLink x l path w a (world_of base cores3 bindings2)
opened_over w base same x l path within read value n n_is cores cores2 cores_are a bindings2 h cores3 written =
    opened_on_link w base same x l path h.begins.own h.unmade.copy
    (copied w base same x.interface within read h.begins.own value h.begins.own_is) (copied w base same x.interface within read h.unmade.copy value
    h.unmade.copy_is)
    base.bindings refl h.binding h.unmade.is n n_is h.begun cores cores2 cores_are h.begins.begins a bindings2
    (keeps_of h.begun h.binding base.bindings a bindings2 h.follows) cores3 written

-- ---- where a circuit may be begun

pub may_open_from : (w base : TheWorld) → base ≡ w → (x : BindRequest) (path : List CoreId) (may : Result LinkId MonitorFault)
    → HasDispatcher w.cores (id_of x.client) → (k : TheCore) → k ≡ slice_index_or base.cores x.client.core k → IsWhole k
    → x.interface < length w.programs → (p : Program) → p ≡ slice_index_or base.programs x.interface p → (n : ℕ) → n ≡ length base.cores
    → MayOpen (wanted p p (core_id x.server.core) path n) k.monitor.circuits may → MayOpenFrom x path w may
may_open_from w base same x path may there k value whole within p p_value n count h =
    let below = core_below base.cores (id_of x.client) (subst (λ (v : TheWorld). HasDispatcher v.cores (id_of x.client)) (sym same) there) in
    let p_below = subst (λ (v : TheWorld). x.interface < length v.programs) (sym same) within in
    let p_is = stands base.programs x.interface p p p_below p_value refl in
    subst (λ (v : TheWorld). MayOpenFrom x path v may) same (record {
      core = k;
      core_is = stands base.cores x.client.core k k below value refl;
      whole = whole;
      may_open = λ q q_is. subst (λ (r : Program). MayOpen (wanted r r (core_id x.server.core) path (length base.cores)) k.monitor.circuits may)
          (one_value p q (sym p_is ∙ q_is))
          (subst (λ (i : ℕ). MayOpen (wanted p p (core_id x.server.core) path i) k.monitor.circuits may) count h);
    })
