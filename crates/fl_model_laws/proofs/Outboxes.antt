-- No outbox holds more than 64 messages.
use Rattle.std.proofs.Common.{◌≡◌, sym, ◌∙◌, ap, ℕ, ◌+◌, ◌≤◌, ◌<◌, nat_lt, true, false}
use Rattle.std.proofs.Common.{List, [], ◌∷◌, ◌++◌, drop, length, slice_get, Option, Some, arith}
use Rattle.std.proofs.lemmas.List.{length-append}
use Rattle.std.proofs.lemmas.Bool.Decides.{nat_tests}
use Rattle.fl_base.specs.Given.{given}
use Rattle.fl_base.specs.Numbered.{link_id, circuit_id}
use Rattle.fl_hop.specs.declared.entry.HopTarget.{HopTarget}
use Rattle.fl_hop.specs.declared.entry.HopTarget.TheVariants.{Link as to_link, End as to_end}
use Rattle.fl_hop.specs.declared.entry.Hop.{Hop}
use Rattle.fl_hop.specs.Table.{TheCircuits, hop_at}
use Rattle.fl_hop.specs.Openings.{opened}
use Rattle.fl_model.specs.Rings.{OpeningLabel, MonitorLabel, open_circuit, circuit_opened, circuit_refused}
use Rattle.fl_model.specs.Events.{Event}
use Rattle.fl_model.specs.Monitors.{Link, Core, Service, outbox_room, can_say, says_more, with_said, with_circuits, Heard, Hearing}
use Rattle.fl_model.specs.Monitors.{Fate, goes_on, ends_at, fails, fate, saying, hears_opening, hears_opened, hears_refused, hears}
use Rattle.fl_model.specs.State.{State}
use Rattle.fl_model.specs.Step.{step}
use Rattle.fl_model.specs.SoundLists.{OutboxesHaveRoom}
use Rattle.fl_model_laws.proofs.Cases.{either, by_given, Each, none_at_end, each_push, each_changed}
use Rattle.fl_model_laws.proofs.CoreWalk.{Cores, KeepsCores, cores_keep}
use Rattle.fl_model_laws.proofs.Walk.{step_keeps}

abbrev HasRoom : Link → Type 0
HasRoom link = length link.outbox ≤ 64

abbrev HaveRoom : Core → Type 0
HaveRoom k = Each HasRoom k.links

pub drop_shorter : {X : Type 0} (xs : List X) → length (drop 1 xs) ≤ length xs
drop_shorter [] = omega arith
drop_shorter (x ∷ xs) = omega arith

room_below : (n : ℕ) → nat_lt n 64 ≡ true → n < 64
room_below n h = grind (arith, nat_tests, h)

more_fits : (m : MonitorLabel) (link : Link) → outbox_room link ≡ true → HasRoom (says_more m link)
more_fits m link h =
    let longer : length (link.outbox ++ m ∷ []) ≡ length link.outbox + 1 = length-append link.outbox (m ∷ []) in
    let below : length link.outbox < 64 = room_below (length link.outbox) h in
    omega arith

room_there : (o : Option Link) (x : Link) → o ≡ Some x → given o false outbox_room ≡ true → outbox_room x ≡ true
room_there o x q h = sym (ap (λ (p : Option Link). given p false outbox_room) q) ∙ h

said_fits : (l : ℕ) (m : MonitorLabel) (k : Core) → can_say l k ≡ true → HaveRoom k → HaveRoom (with_said l m k)
said_fits l m k q h =
    each_changed HasRoom k.links l (says_more m) h (λ x r c. more_fits m x (room_there (slice_get k.links l) x r q))

saying_fits : (l : ℕ) (m : MonitorLabel) (t : TheCircuits) (heard : Heard) (k : Core) → HaveRoom k → HaveRoom (saying l m t heard k).core
saying_fits l m t heard k h =
    either (λ (x : Hearing). HaveRoom x.core) (can_say l k) _ _ (λ q. said_fits l m (with_circuits t k) q h) (λ q. h)

opening_fits : (l : ℕ) (o : OpeningLabel) (f : Fate) (k : Core) → HaveRoom k → HaveRoom (hears_opening l o f k).core
opening_fits l o (goes_on m n) k h = saying_fits m _ _ _ k h
opening_fits l o (ends_at d) k h = saying_fits l _ _ _ k h
opening_fits l o (fails fault) k h = saying_fits l _ _ _ k h

opened_fits : (l c : ℕ) (hop : Hop) (way : HopTarget) (k : Core) → HaveRoom k → HaveRoom (hears_opened l c hop way k).core
opened_fits l c hop (to_link m d) k h = saying_fits m.0 _ _ _ k h
opened_fits l c hop (to_end e) k h = h

refused_fits : (l c fault : ℕ) (hop : Hop) (way : HopTarget) (k : Core) → HaveRoom k → HaveRoom (hears_refused l c fault hop way k).core
refused_fits l c fault hop (to_link m d) k h = saying_fits m.0 _ _ _ k h
refused_fits l c fault hop (to_end e) k h = h

hears_fits : (services : List Service) (l : ℕ) (m : MonitorLabel) (k : Core) → HaveRoom k → HaveRoom (hears services l m k).core
hears_fits services l (open_circuit o) k h = opening_fits l o (fate services o k) k h
hears_fits services l (circuit_opened c) k h =
    by_given (λ (x : Hearing). HaveRoom x.core) (hop_at k.circuits l c) _ _ h (λ hop q. opened_fits l c hop hop.way k h)
hears_fits services l (circuit_refused c fault) k h =
    by_given (λ (x : Hearing). HaveRoom x.core) (hop_at k.circuits l c) _ _ h (λ hop q. refused_fits l c fault hop hop.way k h)

outboxes_keep : KeepsCores (λ n k. HaveRoom k)
outboxes_keep = record {
  fresh = λ n. none_at_end HasRoom;
  linked = λ n neighbour ring side k h. each_push HasRoom k.links _ h (omega arith);
  dispatcher = λ n k h. h;
  channels = λ n place f k h. h;
  opened = λ n l c o k q h. said_fits l (open_circuit o) (with_circuits (opened k.circuits (link_id l) (circuit_id c) o.binding) k) q h;
  written = λ n l k h. each_changed HasRoom k.links l _ h
      (λ x q c. let shorter : length (drop 1 x.outbox) ≤ length x.outbox = drop_shorter x.outbox in omega arith);
  heard = λ n services l m k h. hears_fits services l m k h;
}

pub step_keeps_outboxes : (s : State) (v : Event) → OutboxesHaveRoom s → OutboxesHaveRoom (step s v).state
step_keeps_outboxes s v h =
    let all = step_keeps (Cores (λ n k. HaveRoom k)) (cores_keep (λ n k. HaveRoom k) outboxes_keep) s v (λ n k q l link r. h n l k link q r) in
    λ n l k link q r. all n k q l link r
