-- What a core is given of a set-up's sides and queues: whose each is, and that each core's are apart.
use Rattle.std.proofs.Common.{◌≡◌, sym, ap, ◌∙◌, subst, ℕ, ◌/◌, ◌<◌, List, length, slice_get, Some, arith}
use Rattle.std.proofs.lemmas.Option.{slice_get_within}
use Rattle.fl_core.specs.View.{TheCore}
use Rattle.fl_core.specs.Sound.{IsCore}
use Rattle.fl_core.specs.Numbers.{moved, renumbered}
use Rattle.fl_core_run_laws.specs.Flows.{IsApart}
use Rattle.fl_world_refines.specs.View.{TheWorld, ring_at}
use Rattle.fl_world_refines.specs.Binding.{new_queue}
use Rattle.fl_world_refines.specs.declared.parts.Parts.{Parts}
use Rattle.fl_world_refines.specs.Apart.{AreParts}
use Rattle.fl_cores_file.specs.Jobs.{Job}
use Rattle.fl_cores_jobs.specs.Rules.{RulesOf}
use Rattle.fl_cores_jobs.specs.Whole.{IsBeside}
use Rattle.fl_core_refines.specs.SetUpStart.{SidesHaveOneCore, QueuesHaveOneCore, CoresAreApart, SidesAreThere, QueuesAreNew, LinksArePaired, CoresAreNumbered, CoresAreIdle, StartsFresh}
use Rattle.fl_cores_shares.specs.Shares.{Holdings}
use Rattle.fl_world_refines.specs.ShowsState.{NamesQueue, NamesSide}
use Rattle.fl_cores_fork.specs.Runs.{TheFinishedCore, TheCoreThread}
use Rattle.fl_cores_parts.specs.Begins.{Places}
use Rattle.fl_cores_parts.specs.Shares.{AreShared, Shares}
use Rattle.fl_cores.proofs.SidesPlaces.{there_is, moved_to}
use Rattle.fl_cores.proofs.StartNumbers.{core_before, NamesApart, apart_moved}
use Rattle.fl_cores.proofs.StartRested.{with_cores, sides_have_one_core, queues_have_one_core, sides_are_there, queues_are_new, cores_are_apart, cores_are_numbered, cores_are_idle, links_are_paired}

-- ---- what a run begins with

-- these parts are as a set-up made them, but for rules of ends
pub record AreReady (w : TheWorld) (p : Parts) : Type 0 where
  pub rings : p.rings.items ≡ w.rings
  pub queues : p.queues.items ≡ w.queues
  pub side_cores : SidesHaveOneCore (with_cores w p.cores.items)
  pub queue_cores : QueuesHaveOneCore (with_cores w p.cores.items)
  pub there : SidesAreThere (with_cores w p.cores.items)
  pub new : QueuesAreNew (with_cores w p.cores.items)
  pub apart : CoresAreApart (with_cores w p.cores.items)
  pub links : LinksArePaired (with_cores w p.cores.items)
  pub numbers : CoresAreNumbered (with_cores w p.cores.items)
  pub idle : CoresAreIdle (with_cores w p.cores.items)

pub are_ready : (w : TheWorld) (p p2 : Parts) (jobs : List Job) → StartsFresh w → AreParts w p → RulesOf p.bindings.items jobs p.cores.items p2.cores.items
    → IsBeside p p2 → AreReady w p2
are_ready w p p2 jobs fresh parts rules beside =
    let of_them : RulesOf p.bindings.items jobs w.cores p2.cores.items =
    subst (λ (ks : List TheCore). RulesOf p.bindings.items jobs ks p2.cores.items) parts.cores rules in
    record {
      rings = beside.rings ∙ parts.rings;
      queues = beside.queues ∙ parts.queues;
      side_cores = sides_have_one_core w p.bindings.items jobs p2.cores.items of_them fresh.side_cores;
      queue_cores = queues_have_one_core w p.bindings.items jobs p2.cores.items of_them fresh.queue_cores;
      there = sides_are_there w p.bindings.items jobs p2.cores.items of_them fresh.sides;
      new = queues_are_new w p.bindings.items jobs p2.cores.items of_them fresh.queues;
      apart = cores_are_apart w p.bindings.items jobs p2.cores.items of_them fresh.apart;
      links = links_are_paired w p.bindings.items jobs p2.cores.items of_them fresh.links;
      numbers = cores_are_numbered w p.bindings.items jobs p2.cores.items of_them fresh.numbers;
      idle = cores_are_idle w p.bindings.items jobs p2.cores.items of_them fresh.idle;
    }

-- ---- numbers of one owner

-- a place is told of each thing
told_place : {T : Type 0} (owners places : List ℕ) (things : List T) (holdings : Holdings T) → AreShared owners things places holdings
    → (n owner : ℕ) → slice_get owners n ≡ Some owner → (place : ℕ) × (slice_get places n ≡ Some place)
told_place owners places things holdings shared n owner at =
    let below = slice_get_within owners n owner at in
    let many = shared.handed_out.count in
    let (thing, thing_is) = there_is things n (omega (arith, below, many)) in
    let it = shared.at n owner thing at thing_is in
    (it.place, it.place_is)

-- two things of one owner that get one number are one
one_number : {T : Type 0} (owners places : List ℕ) (things : List T) (holdings : Holdings T) → AreShared owners things places holdings
    → (a b owner : ℕ) → slice_get owners a ≡ Some owner → slice_get owners b ≡ Some owner → moved places a ≡ moved places b → a ≡ b
one_number owners places things holdings shared a b owner at_a at_b same =
    let (x, x_is) = told_place owners places things holdings shared a owner at_a in
    let (y, y_is) = told_place owners places things holdings shared b owner at_b in
    let one : y ≡ x = sym (moved_to places b y y_is) ∙ sym same ∙ moved_to places a x x_is in
    shared.apart a b owner x at_a at_b x_is (y_is ∙ ap Some one)

-- ---- whose each is

module _ (w : TheWorld) (p : Parts) (ready : AreReady w p) (at : Places) (core_threads : List TheCoreThread) (outcomes : List TheFinishedCore) (shares : Shares p at core_threads outcomes) where
  pub side_owner : (n side : ℕ) (k : TheCore) → slice_get p.cores.items n ≡ Some k → NamesSide k side → slice_get shares.side_owners side ≡ Some n
  side_owner n side k k_is names =
      let ring : ring_at side < length w.rings = ready.there n side k k_is names in
      let below : side / 2 < length w.rings = ring in
      let many : length p.rings.items ≡ length w.rings = ap length ready.rings in
      shares.sides_named.each n side k k_is names (omega (arith, below, many)) (λ m d d_is names_d. ready.side_cores m n side d k d_is k_is names_d names)

  pub queue_owner : (n queue : ℕ) (k : TheCore) → slice_get p.cores.items n ≡ Some k → NamesQueue k queue → slice_get shares.queue_owners queue ≡ Some n
  queue_owner n queue k k_is names =
      let (slots, new) = ready.new n queue k k_is names in
      let below : queue < length w.queues = slice_get_within w.queues queue (new_queue slots) new in
      let many : length p.queues.items ≡ length w.queues = ap length ready.queues in
      shares.queues_named.each n queue k k_is names (omega (arith, below, many)) (λ m d d_is names_d. ready.queue_cores m n queue d k d_is k_is names_d names)

  names_apart : (n : ℕ) (k : TheCore) → slice_get p.cores.items n ≡ Some k → NamesApart at.sides at.queues k
  names_apart n k k_is = record {
    sides_apart = λ a b names_a names_b same.
        one_number shares.side_owners at.sides _ _ shares.sides a b n (side_owner n a k k_is names_a) (side_owner n b k k_is names_b) same;
    queues_apart = λ a b names_a names_b same.
        one_number shares.queue_owners at.queues _ _ shares.queues a b n (queue_owner n a k k_is names_a) (queue_owner n b k k_is names_b) same;
  }

  -- a core's sides and queues are apart when its run begins
  pub begins_apart : (n : ℕ) (k : TheCore) → slice_get p.cores.items n ≡ Some k → IsCore (renumbered at.sides at.queues k) → IsApart (renumbered at.sides at.queues k)
  begins_apart n k k_is sound =
      let core = core_before at.sides at.queues k sound in
      apart_moved at.sides at.queues k core (ready.apart n k k_is core) (names_apart n k k_is)
