-- What every cores file has: 1 to 16 cores, since a line on their number is refused for another one and there is one without; and events alone that
-- belong to a set-up, since no line asks for another before the cores run.
use Rattle.std.proofs.Common.{◌≡◌, refl, sym, subst, ℕ, ◌+◌, ◌≤◌, ◌==◌, ◌||◌, ◌&&◌, nat_lt, nat_le, not, Bool, true, false, if◌then◌else◌, ◌∙◌}
use Rattle.std.proofs.Common.{List, [], ◌∷◌, ◌++◌, length, Option, Some, None, arith}
use Rattle.std.specs.Bool.{MatchBool}
use Rattle.std.specs.List.{list_all, position}
use Rattle.std.proofs.lemmas.Bool.{and_from}
use Rattle.std.proofs.lemmas.Bool.Decides.{nat_tests}
use Rattle.std.proofs.lemmas.List.Folds.{list_all-append}
use Rattle.fl_base.specs.Given.{given}
use Rattle.fl_base.specs.Numbered.{most_cores, most_bindings}
use Rattle.fl_check.specs.Text.{TextOutcome, stands_for, text_fault}
use Rattle.fl_model.specs.Events.{DispatcherId, Kind, by_queues, by_ring, by_route, Event, add_interface, set_cores, add_link, add_dispatcher}
use Rattle.fl_model.specs.Events as event
use Rattle.fl_model.specs.Making.{most_interfaces, most_dispatchers, most_services, is_ring_size}
use Rattle.fl_script_lines.specs.Asked.{Asked, refuses, asks, Asks, asks_interface, is_taken}
use Rattle.fl_script_lines.specs.Commands.{Command}
use Rattle.fl_script_lines.specs.Grammar.{silent, heading, command, unread}
use Rattle.fl_script_lines.specs.Items.{Item, a_line, a_block, open_block, is_too_long}
use Rattle.fl_script_lines.specs.Names.{Names}
use Rattle.fl_world.specs.Booting.{has_bad_cores}
use Rattle.fl_cores_file.specs.Verdicts.{LineVerdict, stops, goes_on}
use Rattle.fl_cores_file.specs.Draft.{Draft, TheDraftRequest, has_interface, is_core, has_link, is_dispatcher, is_interface, has_both_places, is_route, offer_of}
use Rattle.fl_cores_file.specs.Draft.{sets_cores, adds_link, adds_dispatcher, exports, binds_by_queues, binds_by_ring, binds_by_route, binds_by, binds}
use Rattle.fl_cores_file.specs.Draft.{call_fault, rule_fault, fault_at, takes}
use Rattle.fl_cores_file.specs.CoresFile.{Reading, CoresFile, FileOutcome, is_file, refused_at, beginning, belongs, named_by, does, does_block, DoesCommand, Does}
use Rattle.fl_cores_file.specs.CoresFile.{lines_in, Behind, Follows, ReadsFrom, Reads}
use Rattle.fl_cores_file_laws.specs.SetUps.{sets_up}
use Rattle.fl_cores.specs.Promised.{is_other, config_in}
use Rattle.fl_cores.proofs.Booted.{none_other}

-- ---- cases

either : {A : Type 0} (P : A → Type 0) (b : Bool) (x y : A) → (b ≡ true → P x) → (b ≡ false → P y) → P (if b then x else y)
either P true x y f g = f refl
either P false x y f g = g refl

by_given : {X Y : Type 0} (P : Y → Type 0) (o : Option X) (y : Y) (f : X → Y) → P y → ((x : X) → o ≡ Some x → P (f x)) → P (given o y f)
by_given P None y f h g = h
by_given P (Some x) y f h g = g x refl

-- ---- what is asked

-- so many cores there may be, and each of these events is of a set-up
abbrev MayStand : ℕ → List Event → Type 0
MayStand n events = ((nat_lt n 1 || nat_lt most_cores n) ≡ false) × (list_all sets_up events ≡ true)

abbrev IsFit : Draft → Type 0
IsFit d = MayStand d.cores d.setup

-- and so it is of a draft, where things go on
abbrev Stays : LineVerdict Draft → Type 0
Stays (stops fault) = Unit {0}
Stays (goes_on d) = IsFit d

-- one event more
with_one : (v : Event) (d : Draft) → sets_up v ≡ true → IsFit d → MayStand d.cores (d.setup ++ v ∷ [])
with_one v d makes h =
    let last : list_all sets_up (v ∷ []) ≡ true = and_from (sets_up v) true makes refl in
    (h.0, list_all-append sets_up d.setup (v ∷ []) ∙ and_from (list_all sets_up d.setup) (list_all sets_up (v ∷ [])) h.1 last)

cores_stay : (n : ℕ) (d : Draft) → IsFit d → Stays (sets_cores n d)
cores_stay n d h =
    either Stays d.settled _ _ (λ q. tt)
    (λ q. either Stays (nat_lt n 1 || nat_lt most_cores n) _ _ (λ r. tt) (λ r. (r, h.1)))

link_stays : (a b size : ℕ) (d : Draft) → IsFit d → Stays (adds_link a b size d)
link_stays a b size d h =
    either Stays (not (is_core a d && is_core b d) || (a == b) || has_link a b d) _ _ (λ q. tt)
    (λ q. either Stays (not (is_ring_size size)) _ _ (λ r. tt) (λ r. with_one (add_link a b size) d refl h))

dispatcher_stays : (core : ℕ) (d : Draft) → IsFit d → Stays (adds_dispatcher core d)
dispatcher_stays core d h =
    either Stays (nat_le most_dispatchers (length d.dispatchers)) _ _ (λ q. tt)
    (λ q. either Stays (not (is_core core d)) _ _ (λ r. tt) (λ r. with_one (add_dispatcher core) d refl h))

export_stays : (name : List ℕ) (x : DispatcherId) (i : ℕ) (d : Draft) → IsFit d → Stays (exports name x i d)
export_stays name x i d h =
    either Stays (not (is_dispatcher x d && is_interface i d)) _ _ (λ q. tt)
    (λ q. either Stays (is_taken name d.services) _ _ (λ r. tt)
    (λ r. either Stays (nat_le most_services (length d.offers)) _ _ (λ s. tt) (λ s. with_one (event.export name x i) d refl h)))

queues_stay : (w : TheDraftRequest) (slots : ℕ) (d : Draft) → IsFit d → Stays (binds_by_queues w slots d)
queues_stay w slots d h =
    either Stays (not (w.client.core == w.server.core)) _ _ (λ q. tt)
    (λ q. either Stays (nat_lt slots 1 || nat_lt 1024 slots) _ _ (λ r. tt)
    (λ r. either Stays (not (has_both_places w d)) _ _ (λ s. tt) (λ s. with_one (event.bind w.client w.interface w.service (by_queues slots)) d refl h)))

ring_stays : (w : TheDraftRequest) (size : ℕ) (d : Draft) → IsFit d → Stays (binds_by_ring w size d)
ring_stays w size d h =
    either Stays (w.client.core == w.server.core) _ _ (λ q. tt)
    (λ q. either Stays (not (is_ring_size size)) _ _ (λ r. tt)
    (λ r. either Stays (not (has_both_places w d)) _ _ (λ s. tt) (λ s. with_one (event.bind w.client w.interface w.service (by_ring size)) d refl h)))

route_stays : (w : TheDraftRequest) (route : List ℕ) (d : Draft) → IsFit d → Stays (binds_by_route w route d)
route_stays w route d h = either Stays (not (is_route w route d)) _ _ (λ q. tt) (λ q. h)

kind_stays : (w : TheDraftRequest) (kind : Kind) (d : Draft) → IsFit d → Stays (binds_by w kind d)
kind_stays w (by_queues slots) d h = queues_stay w slots d h
kind_stays w (by_ring size) d h = ring_stays w size d h
kind_stays w (by_route route) d h = route_stays w route d h

bind_stays : (client : DispatcherId) (i : ℕ) (name : List ℕ) (kind : Kind) (d : Draft) → IsFit d → Stays (binds client i name kind d)
bind_stays client i name kind d h =
    either Stays (not (is_dispatcher client d && is_interface i d)) _ _ (λ q. tt)
    (λ q. either Stays (nat_le most_bindings (length d.bindings)) _ _ (λ r. tt)
    (λ r. by_given Stays (offer_of name d) _ _ tt
    (λ offer s. either Stays (not (offer.interface == i)) _ _ (λ t. tt)
    (λ t. kind_stays (record { client = client; server = offer.dispatcher; interface = i; service = name }) kind d h))))

event_stays : (v : Event) (d : Draft) → IsFit d → Stays (takes v d)
event_stays (add_interface i plan) d h =
    either Stays (has_interface i.name d) _ _ (λ q. tt)
    (λ q. either Stays (nat_le most_interfaces (length d.interfaces)) _ _ (λ r. tt) (λ r. with_one (add_interface i plan) d refl h))
event_stays (set_cores n) d h = cores_stay n d h
event_stays (add_link a b size) d h = link_stays a b size d h
event_stays (add_dispatcher core) d h = dispatcher_stays core d h
event_stays (event.export name x i) d h = export_stays name x i d h
event_stays (event.bind client i name kind) d h = bind_stays client i name kind d h
event_stays (event.call e c) d h = by_given Stays (fault_at e (call_fault e.side c) d) _ _ h (λ n q. tt)
event_stays (event.reply e msg answer) d h = by_given Stays (fault_at e (rule_fault e.side msg answer) d) _ _ h (λ n q. tt)
event_stays v d h = tt

-- ---- an item

-- so it is of a reading, where it goes on
abbrev StaysRead : LineVerdict Reading → Type 0
StaysRead (stops fault) = Unit {0}
StaysRead (goes_on r) = IsFit r.draft

named_stays : (names : Names) (v : LineVerdict Draft) → Stays v → StaysRead (named_by names v)
named_stays names (stops fault) h = tt
named_stays names (goes_on d) h = h

asked_stays : (r : Reading) (asked : Asked) → IsFit r.draft → StaysRead (does r asked)
asked_stays r (refuses fault) h = tt
asked_stays r (asks v names) h = named_stays names (takes v r.draft) (event_stays v r.draft h)

command_stays : (r : Reading) (c : Command) (v : LineVerdict Reading) → IsFit r.draft → DoesCommand r c v → StaysRead v
command_stays r c v h = by (belongs c) where
  by : (t : Bool) → MatchBool t ((asked : Asked) × Asks r.names c asked × (v ≡ does r asked)) (v ≡ stops 90) → StaysRead v
  by true (asked, a, is) = subst StaysRead (sym is) (asked_stays r asked h)
  by false is = subst StaysRead (sym is) tt

item_stays : (r : Reading) (item : Item) (v : LineVerdict Reading) → IsFit r.draft → Does r item v → StaysRead v
item_stays r (a_line silent) v h is = subst StaysRead (sym is) h
item_stays r (a_line (command c)) v h is = command_stays r c v h is
item_stays r (a_line unread) v h is = subst StaysRead (sym is) tt
item_stays r (a_line (heading plan)) v h is = subst StaysRead (sym is) tt
item_stays r open_block v h is = subst StaysRead (sym is) tt
item_stays r (a_block plan text) v h (outcome, means, is) = subst StaysRead (sym is) (by outcome) where
  by : (o : TextOutcome) → StaysRead (does_block r plan o)
  by (text_fault number offset) = tt
  by (stands_for i) = asked_stays r (asks_interface r.names i plan) h

-- ---- a file

-- so it is of a file, where a text comes to one
abbrev HasFit : FileOutcome → Type 0
HasFit (is_file file) = MayStand file.cores file.setup
HasFit (refused_at line number) = Unit {0}

behind_fits : (line : ℕ) (v : LineVerdict Reading) (further : Reading → FileOutcome → Type 0) (o : FileOutcome) → StaysRead v
    → ((r : Reading) (a : FileOutcome) → IsFit r.draft → further r a → HasFit a) → Behind line v further o → HasFit o
behind_fits line (stops fault) further o h more is = subst HasFit (sym is) tt
behind_fits line (goes_on r) further o h more is = more r o h is

items_fit : (items : List Item) (line : ℕ) (r : Reading) (o : FileOutcome) → IsFit r.draft → Follows items line r o → HasFit o
items_fit [] line r o h is = subst HasFit (sym is) h
items_fit (item ∷ items) line r o h (v, does_it, is) =
    behind_fits line v (Follows items (line + lines_in item)) o (item_stays r item v h does_it)
    (items_fit items (line + lines_in item)) is

file_fits : (text : List ℕ) (file : CoresFile) → Reads text (is_file file) → MayStand file.cores file.setup
file_fits text file reads = by (is_too_long text) reads where
  by : (t : Bool) → MatchBool t (is_file file ≡ refused_at 1 91) (ReadsFrom beginning 1 text (is_file file)) → MayStand file.cores file.setup
  by true is = let same : is_file file ≡ refused_at 1 91 = is in absurd (cc)
  by false (items, spelled, follows) = items_fit items 1 beginning (is_file file) (refl, refl) follows

-- so many cores there may be as a file has
pub counted : (text : List ℕ) (file : CoresFile) → Reads text (is_file file) → has_bad_cores (config_in file) ≡ false
counted text file reads = (file_fits text file reads).0

few_by : (n : ℕ) → (nat_lt n 1 || nat_lt most_cores n) ≡ false → n ≤ most_cores
few_by n h = grind (arith, nat_tests, h)

pub few : (text : List ℕ) (file : CoresFile) → Reads text (is_file file) → file.cores ≤ 16
few text file reads = few_by file.cores (counted text file reads)

-- and each event belongs to a set-up
pub making : (text : List ℕ) (file : CoresFile) → Reads text (is_file file) → position is_other file.setup ≡ None
making text file reads = none_other file.setup (file_fits text file reads).1
