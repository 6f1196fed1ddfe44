-- A world of so many cores is sound before anything is asked of it; the start is the world of one.
use Rattle.std.proofs.Common.{◌≡◌, refl, sym, ap, subst, ℕ, zero, suc, ◌<◌, List, []}
use Rattle.std.proofs.Common.{length, slice_get, Option, Some, None, arith}
use Rattle.fl_hop.specs.declared.links.LinkState.{LinkState}
use Rattle.fl_hop.specs.declared.entry.Hop.{Hop}
use Rattle.fl_hop.specs.Table.{TheCircuits, hop_at, numbers}
use Rattle.fl_hop.specs.declared.entry.HopTarget.{HopTarget}
use Rattle.fl_hop.specs.declared.entry.HopTarget.TheVariants.{Link as to_link}
use Rattle.std.proofs.Common.{nat_lt}
use Rattle.std.specs.Prelude.{Contains, filter_map}
use Rattle.fl_lists.specs.ThreeLists.{NoRepeat}
use Rattle.fl_model_laws.proofs.Cases.{either}
use Rattle.fl_model.specs.Rings.{RingEnd, MonitorLabel}
use Rattle.fl_hop.specs.Joined.{Sound as IsTable, Leads}
use Rattle.fl_model.specs.Events.{DispatcherId}
use Rattle.fl_model.specs.Waits.{Dispatcher}
use Rattle.fl_model.specs.Monitors.{Core, Link, fresh_core, link_to}
use Rattle.fl_model.specs.State.{start, core_of, dispatcher_of, link_between, Route}
use Rattle.fl_model.specs.Standing.{Routed, under_way, on_link, link_state, queue_of, answer_number}
use Rattle.fl_model.specs.SoundPlaces.{CoreStands, owns, Owner, core_to, this_end}
use Rattle.fl_model.specs.Sound.{Sound}
use Rattle.std.proofs.Common.{◌∙◌, ◌+◌, ◌++◌, map}
use Rattle.std.specs.List.{range_with_len}
use Rattle.fl_model_laws.proofs.Cases.{by_given}
use Rattle.fl_model.specs.Rings.{Label}
use Rattle.fl_model.specs.Standing.{said_by}
use Rattle.fl_model.specs.Worlds.{start_with, WorldsAreSound}
use Rattle.std.proofs.lemmas.List.FromFn.{length-map-range_with_len}
use Rattle.fl_base.specs.Given.{given}

-- each core is a fresh one
core_in_range : (a n m : ℕ) (k : Core) → slice_get (map fresh_core (range_with_len a n)) m ≡ Some k → k ≡ fresh_core (a + m)
core_in_range a zero m k h = absurd (cc)
core_in_range a (suc n) zero k h = let e : fresh_core a ≡ k = cc in let same : a ≡ a + 0 = omega arith in sym e ∙ ap fresh_core same
core_in_range a (suc n) (suc m) k h =
    let same : a + 1 + m ≡ a + suc m = omega arith in core_in_range (a + 1) n m k h ∙ ap fresh_core same

fresh_there : (n m : ℕ) (k : Core) → core_of (start_with n) m ≡ Some k → k ≡ fresh_core m
fresh_there n m k h = core_in_range 0 n m k h ∙ ap fresh_core (let same : 0 + m ≡ m = omega arith in same)

no_link : (n a b : ℕ) (link : Link) → link_between (start_with n) a b ≡ Some link → ⊥
no_link n a b link =
    by_given (λ (o : Option Link). o ≡ Some link → ⊥) (core_of (start_with n) a) None _ (λ h. absurd (cc))
    (λ k q. subst (λ (c : Core). (given (link_to b c) None λ l. slice_get c.links l) ≡ Some link → ⊥) (sym (fresh_there n a k q))
    (λ h. absurd (cc)))

no_dispatcher : (n : ℕ) (d : DispatcherId) (x : Dispatcher) → dispatcher_of (start_with n) d ≡ Some x → ⊥
no_dispatcher n d x =
    by_given (λ (o : Option Dispatcher). o ≡ Some x → ⊥) (core_of (start_with n) d.core) None _ (λ h. absurd (cc))
    (λ k q. subst (λ (c : Core). slice_get c.dispatchers d.place ≡ Some x → ⊥) (sym (fresh_there n d.core k q)) (λ h. absurd (cc)))

no_state : (n a b : ℕ) (l : LinkState) → link_state (start_with n) a b ≡ Some l → ⊥
no_state n a b x =
    by_given (λ (o : Option LinkState). o ≡ Some x → ⊥) (core_of (start_with n) a) None _ (λ h. absurd (cc))
    (λ k q. subst (λ (c : Core). (given (link_to b c) None λ l. slice_get c.circuits.links l) ≡ Some x → ⊥) (sym (fresh_there n a k q))
    (λ h. absurd (cc)))

abbrev bare_table : ℕ → TheCircuits
bare_table core = record { core = core; links = []; hops = [] }

no_hop : (core l n : ℕ) (hop : Hop) → hop_at (bare_table core) l n ≡ Some hop → ⊥
no_hop core l n hop = either (λ (o : Option Hop). o ≡ Some hop → ⊥) (nat_lt n numbers) None None (λ q h. absurd (cc)) (λ q h. absurd (cc))

no_lead : (core l n binding : ℕ) (way : HopTarget) → Leads (bare_table core) l n binding way → ⊥
no_lead core l n binding way h = no_hop core l n _ h.there

pub empty_table : (core : ℕ) → IsTable (bare_table core)
empty_table core = record {
  few = omega arith;
  whole = refl;
  apart = λ l a q. absurd (cc);
  once = λ l m a b q r e. absurd (cc);
  counts = λ l a q. absurd (cc);
  toward = λ l n binding way h. absurd (no_lead core l n binding way h);
  both = λ l m c d binding h. absurd (no_lead core l.0 c.0 binding (to_link m d) h);
  over = λ l n binding m d h. absurd (no_lead core l n binding (to_link m d) h);
  one = λ l m c d binding a b h k. absurd (no_lead core l.0 c.0 binding a h);
}

no_owner : (n : ℕ) (x : Owner) (at : RingEnd) → owns (start_with n) x at → ⊥
no_owner n (core_to a b) at h = no_link n a b h.0 h.1
no_owner n (this_end e) at h = let q = h.1 in absurd (cc)

no_label : (n a b : ℕ) → on_link (start_with n) a b ≡ []
no_label n a b =
    by_given (λ (ls : List Label). ls ≡ []) (link_between (start_with n) b a) [] _ refl (λ link q. absurd (no_link n b a link q))

no_message : (n a b : ℕ) → under_way (start_with n) a b ≡ []
no_message n a b =
    by_given (λ (ms : List MonitorLabel). filter_map said_by (on_link (start_with n) a b) ++ ms ≡ []) (link_between (start_with n) a b) [] _
    (ap (λ (ls : List Label). filter_map said_by ls ++ []) (no_label n a b)) (λ link q. absurd (no_link n a b link q))

none_in : {X : Type 0} (xs : List X) (x : X) → xs ≡ [] → Contains xs x → ⊥
none_in {X} xs x q h = let k : Contains {X = X} [] x = subst (λ (ys : List X). Contains ys x) q h in let m : k.0 < 0 = k.1 in omega arith

no_binding : (m n : ℕ) (route : Route) → Routed (start_with m) n route → ⊥
no_binding m n route r = let q : slice_get start.bindings n ≡ Some r.binding = r.there in absurd (cc)

pub world_is_sound : WorldsAreSound
world_is_sound n some few = record {
  cores = λ m k q. subst (CoreStands m) (sym (fresh_there n m k q)) (record { number = refl; links = refl; table = empty_table m });
  links = λ a b link q. absurd (no_link n a b link q);
  owners = λ x y at h k. absurd (no_owner n x at h);
  services = λ m x q. absurd (cc);
  ends = λ e x q. absurd (cc);
  seats = record {
    seated = λ e d c h. let q = h.1 in absurd (cc);
    listed = λ d y c e q r. absurd (no_dispatcher n d y q);
  };
  routes = λ m route r. absurd (no_binding n m route r);
  numbers = λ m route r. absurd (no_binding n m route r);
  verdicts = λ m route r. absurd (no_binding n m route r);
  bound = λ m b q. absurd (cc);
  opened_numbers = λ m route j here r. absurd (no_binding n m route r);
  numbers_once = λ l m p q i j r k h. absurd (no_binding n l p r);
  openings = λ a b here there p q. absurd (no_state n a b here p);
  messages = λ a b m h. absurd (none_in (under_way (start_with n) a b) m (no_message n a b) h);
  answers = λ a b. subst (λ (ms : List MonitorLabel). NoRepeat (filter_map answer_number ms)) (sym (no_message n a b)) tt;
  entries = λ m route r. absurd (no_binding n m route r);
  only_entries = λ key hop at.
      let q : link_to key.neighbour (fresh_core key.core) ≡ Some at.link =
      subst (λ (k : Core). link_to key.neighbour k ≡ Some at.link) (fresh_there n key.core at.core at.core_is) at.link_is in
      absurd (cc);
  awaited = λ m route j r q. absurd (no_binding n m route r);
  labels = λ e b j q r. absurd (cc);
  ways = record {
    links = λ a b label h. absurd (none_in (on_link (start_with n) a b) label (no_label n a b) h);
    rings = λ e b m label q r h. absurd (cc);
    queues = λ e label h. absurd (none_in (queue_of (start_with n) e) label refl h);
  };
  begun = λ m route r. absurd (no_binding n m route r);
  counted = λ e b i q r. absurd (cc);
  counts = λ m r q. absurd (cc);
  sizes = λ m r q. absurd (cc);
  waitsets = λ d x q. absurd (no_dispatcher n d x q);
  listed = λ place e b l. let q : slice_get start.bindings e.binding ≡ Some b = l.binding_is in absurd (cc);
  looked = λ e b at l q. let r : slice_get start.bindings e.binding ≡ Some b = l.binding_is in absurd (cc);
  held = λ e b q l r. let u : slice_get start.bindings e.binding ≡ Some b = l.binding_is in absurd (cc);
  waiting = λ e x q. absurd (cc);
  busy = λ e b i q r w. absurd (cc);
  queues = λ e x q r u. absurd (cc);
  outboxes = λ m l k link q r.
      let u : slice_get (fresh_core m).links l ≡ Some link = subst (λ (c : Core). slice_get c.links l ≡ Some link) (fresh_there n m k q) r in
      absurd (cc);
  bare = λ q. record {
    rings = refl;
    services = refl;
    bindings = refl;
    links = λ m k r. ap (λ (c : Core). c.links) (fresh_there n m k r);
    dispatchers = λ m k r. ap (λ (c : Core). c.dispatchers) (fresh_there n m k r);
  };
  calls = λ e b i q r. absurd (cc);
  rules = λ e b i q r msg answer u. absurd (cc);
  few_cores = let long : length (map fresh_core (range_with_len 0 n)) ≡ n = length-map-range_with_len fresh_core 0 n in omega arith;
  few_interfaces = omega arith;
  few_services = omega arith;
  few_bindings = omega arith;
  within = λ m route core r h. absurd (no_binding n m route r);
  numbers_once_back = λ l m p q i j r k h. absurd (no_binding n l p r);
}

pub start_is_sound : Sound start
start_is_sound = world_is_sound 1 (omega arith) (omega arith)
