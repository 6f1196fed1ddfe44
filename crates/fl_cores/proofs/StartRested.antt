-- The cores of a world behind rules that were set before a run: they changed in these alone.
use Rattle.std.proofs.Common.{◌≡◌, refl, sym, ap, ◌∙◌, subst, ℕ, zero, suc, List, [], ◌∷◌, slice_get, slice_set, Option, Some, None}
use Rattle.fl_base.specs.declared.identity.EndId.{EndId}
use Rattle.fl_core.specs.BoardView.{TheEndAtChannel, TheBoard}
use Rattle.fl_core.specs.declared.kind.ChannelKind.{ChannelKind}
use Rattle.fl_core.specs.declared.wiring.EndWiring.{EndWiring}
use Rattle.fl_core.specs.declared.wiring.EndWiring.TheVariants.{Queues, Ring, Circuit}
use Rattle.fl_core.specs.View.{TheCore, side_of_link, with_board}
use Rattle.fl_core.specs.Sound.{IsCore, IsWired, kinds_seated}
use Rattle.fl_hop.specs.Table.{link_of}
use Rattle.fl_core_run_laws.specs.Flows.{IsApart}
use Rattle.fl_world_refines.specs.declared.binding.Binding.{Binding}
use Rattle.fl_world_refines.specs.View.{TheWorld, core_in}
use Rattle.fl_cores_file.specs.Jobs.{Job, opens, replies, calls}
use Rattle.fl_world_refines.specs.ShowsState.{NamesQueue, NamesSide}
use Rattle.fl_core_refines.specs.SetUpStart.{SidesHaveOneCore, QueuesHaveOneCore, CoresAreApart, SidesAreThere, QueuesAreNew, LinksArePaired, CoresAreNumbered, IsIdle, CoresAreIdle}
use Rattle.fl_cores_jobs.specs.Rules.{RulesCore, RuleNow, RuleOf, RulesOf}

-- ---- a core

-- of a core the board alone has changed, and fragments come to each of its ends as before
pub record Rests (k k2 : TheCore) : Type 0 where
  pub same : k2 ≡ with_board k k2.board
  pub kinds : kinds_seated k2.board.seats ≡ kinds_seated k.board.seats

rests_itself : (k : TheCore) → Rests k k
rests_itself k = record { same = refl; kinds = refl }

rests_then : (k k2 k3 : TheCore) → Rests k k2 → Rests k2 k3 → Rests k k3
rests_then k k2 k3 a b = record {
  same = b.same ∙ ap (λ (c : TheCore). with_board c k3.board) a.same;
  kinds = b.kinds ∙ a.kinds;
}

-- of large records cc does not end, of any type it does
same_some : {X : Type 0} (x y : X) → Some x ≡ Some y → x ≡ y
same_some x y e = cc

kinds_set : (seats : List TheEndAtChannel) (place : ℕ) (s t : TheEndAtChannel) → slice_get seats place ≡ Some s → t.kind ≡ s.kind
    → kinds_seated (slice_set seats place t) ≡ kinds_seated seats
kinds_set [] place s t is kind = refl
kinds_set (x ∷ seats) zero s t is kind =
    let same : s ≡ x = sym (same_some x s is) in ap (λ (k : ChannelKind). k ∷ kinds_seated seats) (kind ∙ ap (λ (u : TheEndAtChannel). u.kind) same)
kinds_set (x ∷ seats) (suc place) s t is kind = ap (λ (ks : List ChannelKind). x.kind ∷ ks) (kinds_set seats place s t is kind)

core_rests : (e : EndId) (msg answer : ℕ) (k k2 : TheCore) → RulesCore e msg answer k k2 → Rests k k2
core_rests e msg answer k k2 r =
    let event = r.sets.event in
    let now : TheEndAtChannel = record { end = event.end; dispatcher = event.seat.dispatcher; channel = event.seat.channel; kind = event.seat.kind } in
    record {
      same = r.sets.rest;
      kinds = ap (λ (b : TheBoard). kinds_seated b.seats) event.board ∙ kinds_set k.board.seats r.place event.seat now event.seat_is refl;
    }

board_wired : (k : TheCore) (b : TheBoard) (w : EndWiring) → IsWired (with_board k b) w → IsWired k w
board_wired k b (Queues out from) h = h
board_wired k b (Ring side) h = h
board_wired k b (Circuit link arrivals) h = h

-- what is known of it was known before
pub core_was : (k k2 : TheCore) → Rests k k2 → IsCore k2 → IsCore k
core_was k k2 r sound =
    let s = subst IsCore r.same sound in
    record {
      kinds = sym r.kinds ∙ s.kinds;
      link_sides = s.link_sides;
      slots = s.slots;
      named = s.named;
      placed = s.placed;
      wired = λ e p is. board_wired k k2.board p.wiring (s.wired e p is);
      apart = s.apart;
    }

still_apart : (k k2 : TheCore) → Rests k k2 → IsApart k → IsApart k2
still_apart k k2 r h = subst IsApart (sym r.same) (record { link_sides = h.link_sides; rings = h.rings; ends = h.ends; puts = h.puts; takes = h.takes })

still_idle : (k k2 : TheCore) → Rests k k2 → IsIdle k → IsIdle k2
still_idle k k2 r h = subst IsIdle (sym r.same) (record { counts = h.counts; entries = h.entries; outboxes = h.outboxes })

named_side : (k k2 : TheCore) (side : ℕ) → Rests k k2 → NamesSide k2 side → NamesSide k side
named_side k k2 side r h = subst (λ (c : TheCore). NamesSide c side) r.same h

named_queue : (k k2 : TheCore) (queue : ℕ) → Rests k k2 → NamesQueue k2 queue → NamesQueue k queue
named_queue k k2 queue r h = subst (λ (c : TheCore). NamesQueue c queue) r.same h

-- ---- all cores

abbrev RestsAt : Option TheCore → Option TheCore → Type 0
RestsAt None None = Unit {0}
RestsAt (Some k) (Some k2) = Rests k k2
RestsAt None (Some k2) = ⊥
RestsAt (Some k) None = ⊥

abbrev AllRest : List TheCore → List TheCore → Type 0
AllRest cores cores2 = (n : ℕ) → RestsAt (slice_get cores n) (slice_get cores2 n)

at_itself : (o : Option TheCore) → RestsAt o o
at_itself None = tt
at_itself (Some k) = rests_itself k

at_then : (o p q : Option TheCore) → RestsAt o p → RestsAt p q → RestsAt o q
at_then None None None a b = tt
at_then None None (Some z) a b = absurd b
at_then None (Some y) q a b = absurd a
at_then (Some x) None q a b = absurd a
at_then (Some x) (Some y) None a b = absurd b
at_then (Some x) (Some y) (Some z) a b = rests_then x y z a b

all_same : (cores m : List TheCore) → m ≡ cores → AllRest cores m
all_same cores m same n = subst (λ (ks : List TheCore). RestsAt (slice_get cores n) (slice_get ks n)) (sym same) (at_itself (slice_get cores n))

all_set : (cores : List TheCore) (n : ℕ) (k after : TheCore) → slice_get cores n ≡ Some k → Rests k after → AllRest cores (slice_set cores n after)
all_set [] n k after is rests m = absurd (cc)
all_set (c ∷ cores) zero k after is rests zero = let same : k ≡ c = sym (same_some c k is) in subst (λ (x : TheCore). Rests x after) same rests
all_set (c ∷ cores) zero k after is rests (suc m) = at_itself (slice_get cores m)
all_set (c ∷ cores) (suc n) k after is rests zero = rests_itself c
all_set (c ∷ cores) (suc n) k after is rests (suc m) = all_set cores n k after is rests m

rule_rests : (o : Option Binding) (e : EndId) (msg answer : ℕ) (cores m : List TheCore) → RuleNow o e msg answer cores m → AllRest cores m
rule_rests None e msg answer cores m now = all_same cores m now
rule_rests (Some x) e msg answer cores m now =
    subst (λ (ks : List TheCore). AllRest cores ks) (sym now.rest)
    (all_set cores (core_in e.side x) now.core now.after now.core_is (core_rests e msg answer now.core now.after now.rules))

job_rests : (bindings : List Binding) (job : Job) (cores m : List TheCore) → RuleOf bindings job cores m → AllRest cores m
job_rests bindings (opens w) cores m h = all_same cores m h
job_rests bindings (replies e msg answer) cores m h = rule_rests (slice_get bindings e.binding) e msg answer cores m h
job_rests bindings (calls e c) cores m h = all_same cores m h

all_rest : (bindings : List Binding) (jobs : List Job) (cores cores2 : List TheCore) → RulesOf bindings jobs cores cores2 → AllRest cores cores2
all_rest bindings [] cores cores2 h = all_same cores cores2 h
all_rest bindings (job ∷ jobs) cores cores2 (m, one, rest) =
    λ n. at_then (slice_get cores n) (slice_get m n) (slice_get cores2 n) (job_rests bindings job cores m one n) (all_rest bindings jobs m cores2 rest n)

-- a core, as it was before rules were set
pub record WasAt (cores : List TheCore) (n : ℕ) (k2 : TheCore) : Type 0 where
  pub core : TheCore
  pub core_is : slice_get cores n ≡ Some core
  pub rests : Rests core k2

was_by : (cores : List TheCore) (n : ℕ) (k2 : TheCore) (o p : Option TheCore) → slice_get cores n ≡ o → p ≡ Some k2 → RestsAt o p → WasAt cores n k2
was_by cores n k2 None None is at h = absurd (cc)
was_by cores n k2 None (Some y) is at h = absurd h
was_by cores n k2 (Some x) None is at h = absurd h
was_by cores n k2 (Some x) (Some y) is at h =
    let same : y ≡ k2 = same_some y k2 at in record { core = x; core_is = is; rests = subst (λ (c : TheCore). Rests x c) same h }

pub was_at : (bindings : List Binding) (jobs : List Job) (cores cores2 : List TheCore) → RulesOf bindings jobs cores cores2
    → (n : ℕ) (k2 : TheCore) → slice_get cores2 n ≡ Some k2 → WasAt cores n k2
was_at bindings jobs cores cores2 of_them n k2 at =
    was_by cores n k2 (slice_get cores n) (slice_get cores2 n) refl at (all_rest bindings jobs cores cores2 of_them n)

-- and as it is behind them
pub record IsAfter (cores2 : List TheCore) (n : ℕ) (k : TheCore) : Type 0 where
  pub core : TheCore
  pub core_is : slice_get cores2 n ≡ Some core
  pub rests : Rests k core

after_by : (cores2 : List TheCore) (n : ℕ) (k : TheCore) (o p : Option TheCore) → o ≡ Some k → slice_get cores2 n ≡ p → RestsAt o p → IsAfter cores2 n k
after_by cores2 n k None p at is h = absurd (cc)
after_by cores2 n k (Some x) None at is h = absurd h
after_by cores2 n k (Some x) (Some y) at is h =
    let same : x ≡ k = same_some x k at in record { core = y; core_is = is; rests = subst (λ (c : TheCore). Rests c y) same h }

pub after_at : (bindings : List Binding) (jobs : List Job) (cores cores2 : List TheCore) → RulesOf bindings jobs cores cores2
    → (n : ℕ) (k : TheCore) → slice_get cores n ≡ Some k → IsAfter cores2 n k
after_at bindings jobs cores cores2 of_them n k at =
    after_by cores2 n k (slice_get cores n) (slice_get cores2 n) at refl (all_rest bindings jobs cores cores2 of_them n)

-- ---- a world

abbrev pub with_cores : TheWorld → List TheCore → TheWorld
with_cores w cores = record w { cores = cores }

module _ (w : TheWorld) (bindings : List Binding) (jobs : List Job) (cores2 : List TheCore) (of_them : RulesOf bindings jobs w.cores cores2) where
  was : (n : ℕ) (k2 : TheCore) → slice_get cores2 n ≡ Some k2 → WasAt w.cores n k2
  was n k2 at = was_at bindings jobs w.cores cores2 of_them n k2 at

  pub sides_have_one_core : SidesHaveOneCore w → SidesHaveOneCore (with_cores w cores2)
  sides_have_one_core one n m side c d at_n at_m names_c names_d =
      let x = was n c at_n in
      let y = was m d at_m in
      one n m side x.core y.core x.core_is y.core_is (named_side x.core c side x.rests names_c) (named_side y.core d side y.rests names_d)

  pub queues_have_one_core : QueuesHaveOneCore w → QueuesHaveOneCore (with_cores w cores2)
  queues_have_one_core one n m queue c d at_n at_m names_c names_d =
      let x = was n c at_n in
      let y = was m d at_m in
      one n m queue x.core y.core x.core_is y.core_is (named_queue x.core c queue x.rests names_c) (named_queue y.core d queue y.rests names_d)

  pub sides_are_there : SidesAreThere w → SidesAreThere (with_cores w cores2)
  sides_are_there there n side c at names = let x = was n c at in there n side x.core x.core_is (named_side x.core c side x.rests names)

  pub queues_are_new : QueuesAreNew w → QueuesAreNew (with_cores w cores2)
  queues_are_new new n queue c at names = let x = was n c at in new n queue x.core x.core_is (named_queue x.core c queue x.rests names)

  pub cores_are_apart : CoresAreApart w → CoresAreApart (with_cores w cores2)
  cores_are_apart apart n c at core =
      let x = was n c at in still_apart x.core c x.rests (apart n x.core x.core_is (core_was x.core c x.rests core))

  pub cores_are_idle : CoresAreIdle w → CoresAreIdle (with_cores w cores2)
  cores_are_idle idle n c at = let x = was n c at in still_idle x.core c x.rests (idle n x.core x.core_is)

  pub cores_are_numbered : CoresAreNumbered w → CoresAreNumbered (with_cores w cores2)
  cores_are_numbered numbered n c at =
      let x = was n c at in ap (λ (k : TheCore). k.monitor.circuits.core) x.rests.same ∙ numbered n x.core x.core_is

  pub links_are_paired : LinksArePaired w → LinksArePaired (with_cores w cores2)
  links_are_paired paired n l side c at link_side =
      let x = was n c at in
      let it = paired n l side x.core x.core_is (subst (λ (k : TheCore). side_of_link k.link_sides l ≡ Some side) x.rests.same link_side) in
      let y = after_at bindings jobs w.cores cores2 of_them it.link.neighbour.0 it.core it.core_is in
      record {
        link = it.link;
        link_is = ap (λ (k : TheCore). slice_get k.monitor.circuits.links l) x.rests.same ∙ it.link_is;
        core = y.core;
        core_is = y.core_is;
        back = it.back;
        back_is = ap (λ (k : TheCore). link_of k.monitor.circuits n) y.rests.same ∙ it.back_is;
        side_is = ap (λ (k : TheCore). side_of_link k.link_sides it.back) y.rests.same ∙ it.side_is;
        within = it.within;
      }
