-- The board of a state, and what the predicates of sound states say of it.
use Rattle.std.proofs.Common.{◌≡◌, refl, sym, ◌∙◌, ap, subst, ℕ, zero, suc, ◌<◌, inl, inr}
use Rattle.std.proofs.Common.{List, [], ◌∷◌, ◌++◌, length, map, slice_get, Option, Some, None, arith}
use Rattle.std.specs.Prelude.{filter_map, Contains}
use Rattle.fl_base.specs.Given.{given}
use Rattle.fl_lists.specs.ThreeLists.{NoRepeat}
use Rattle.fl_hop.specs.declared.entry.HopTarget.{HopTarget}
use Rattle.fl_hop.specs.declared.entry.HopTarget.TheVariants.{Link as to_link, End as to_end}
use Rattle.fl_hop.specs.declared.entry.Hop.{Hop}
use Rattle.fl_hop.specs.Table.{hop_at, link_of}
use Rattle.fl_hop.specs.Numbers.{number}
use Rattle.fl_model.specs.Rings.{MonitorLabel, Ring, RingSide, first_side, second_side, RingEnd, read_by}
use Rattle.fl_model.specs.Monitors.{Core, Link, link_to}
use Rattle.fl_model.specs.State.{Route, Back, local, over_ring, over_route, Binding, State, core_of, link_between}
use Rattle.fl_model.specs.Forwarding.{route_of}
use Rattle.fl_model.specs.Standing.{Routed, under_way, unread, labels_of, said_by, answer_number}
use Rattle.fl_model.specs.SoundEntries.{Leads, to_this, on_to, SaysWay, Key, EntryAt, EntryIs, EntriesStandOn, EntriesStand, EntriesAreDue, AnswersAreAwaited}
use Rattle.fl_model.specs.SoundOpenings.{MessagesAreDue, AnswersComeOnce, IsDue}
use Rattle.fl_model_laws.proofs.Views.{View, Part, Sides, part_of, sides_of, back_of, view, messages, given_map}
use Rattle.fl_model_laws.proofs.PlacesStep.{given_some}
use Rattle.fl_model_laws.proofs.Boards.{Has, Board, Says, Stands, StandOn, message, Fits}

-- ---- the board of a view

abbrev pub part_hop : ℕ → ℕ → Part → Option Hop
part_hop neighbour n p = given (link_of p.circuits neighbour) None (λ l. hop_at p.circuits l n)

abbrev pub part_line : ℕ → Part → Option Link
part_line neighbour p = given (link_of p.circuits neighbour) None (slice_get p.links)

abbrev pub hop_in : List Part → Key → Option Hop
hop_in ps key = given (slice_get ps key.core) None (part_hop key.neighbour key.number)

abbrev pub place_in : List Part → ℕ → ℕ → Option ℕ
place_in ps core neighbour = given (slice_get ps core) None (λ p. link_of p.circuits neighbour)

abbrev pub line : List Part → ℕ → ℕ → Option Link
line ps a b = given (slice_get ps a) None (part_line b)

abbrev pub route_in : List Back → ℕ → Option Route
route_in backs n = given (slice_get backs n) None route_of

abbrev pub side_said : RingSide → Sides → List MonitorLabel
side_said first_side r = r.by_second
side_said second_side r = r.by_first

abbrev pub unread_said : List Sides → RingEnd → List MonitorLabel
unread_said rings at = given (slice_get rings at.ring) [] (side_said at.side)

abbrev pub said_in : List Part → List Sides → ℕ → ℕ → List MonitorLabel
said_in ps rings a b = given (line ps b a) [] (λ l. unread_said rings l.ring) ++ given (line ps a b) [] (λ l. l.outbox)

abbrev pub board : View → Board
board v = record { hops = hop_in v.parts; places = place_in v.parts; routes = route_in v.backs; said = said_in v.parts v.rings }

abbrev pub board_of : State → Board
board_of s = board (view s)

-- ---- members

pub has_of : {X : Type 0} (xs : List X) (x : X) → Contains xs x → Has xs x
has_of [] x (i, l, e) = absurd (omega (arith, l))
has_of (y ∷ xs) x (zero, l, e) = inl e
has_of (y ∷ xs) x (suc i, l, e) = inr (has_of xs x (i, (let k : suc i < length (y ∷ xs) = l in omega arith), e))

pub of_has : {X : Type 0} (xs : List X) (x : X) → Has xs x → Contains xs x
of_has [] x h = absurd h
of_has (y ∷ xs) x h = elim h [
  | inl e ↦ (0, omega arith, e)
  | inr t ↦ (let (i, l, e) = of_has xs x t in (suc i, (let k : i < length xs = l in omega arith), e))
]

-- ---- entries

pub core_part : (s : State) (n : ℕ) (k : Core) → core_of s n ≡ Some k → slice_get (map part_of s.cores) n ≡ Some (part_of k)
core_part s n k q = by s.cores n q
  where
    by : (ks : List Core) (i : ℕ) → slice_get ks i ≡ Some k → slice_get (map part_of ks) i ≡ Some (part_of k)
    by [] i e = absurd (cc)
    by (x ∷ ks) zero e = let f : x ≡ k = cc in ap (λ (y : Core). Some (part_of y)) f
    by (x ∷ ks) (suc i) e = by ks i e

pub entry_hop : (s : State) (key : Key) (hop : Hop) → EntryAt s key hop → hop_in (map part_of s.cores) key ≡ Some hop
entry_hop s key hop e =
    ap (λ o. given o None (part_hop key.neighbour key.number)) (core_part s key.core e.core e.core_is)
    ∙ ap (λ o. given o None (λ l. hop_at e.core.circuits l key.number)) e.link_is ∙ e.there

pub hop_entry : (s : State) (key : Key) (hop : Hop) → hop_in (map part_of s.cores) key ≡ Some hop → EntryAt s key hop
hop_entry s key hop q =
    let (k, at, is) = given_some (slice_get s.cores key.core) (λ k. part_hop key.neighbour key.number (part_of k)) hop
    (sym (given_map part_of None (part_hop key.neighbour key.number) s.cores key.core) ∙ q) in
    let (l, to, there) = given_some (link_of k.circuits key.neighbour) (λ l. hop_at k.circuits l key.number) hop is in
    record { core = k; core_is = at; link = l; link_is = to; there = there }

pub place_is : (s : State) (n : ℕ) (k : Core) (neighbour : ℕ) → core_of s n ≡ Some k → place_in (map part_of s.cores) n neighbour ≡ link_to neighbour k
place_is s n k neighbour q = ap (λ o. given o None (λ (p : Part). link_of p.circuits neighbour)) (core_part s n k q)

pub says_board : (s : State) (n : ℕ) (k : Core) (way : HopTarget) (leads : Leads) → core_of s n ≡ Some k → SaysWay k way leads → Says (board_of s) n way leads
says_board s n k (to_end e) (to_this f) q h = h
says_board s n k (to_end e) (on_to neighbour number) q h = absurd h
says_board s n k (to_link l c) (to_this f) q h = absurd h
says_board s n k (to_link l c) (on_to neighbour number) q h = (place_is s n k neighbour q ∙ h.0, h.1)

pub board_says : (s : State) (n : ℕ) (k : Core) (way : HopTarget) (leads : Leads) → core_of s n ≡ Some k → Says (board_of s) n way leads → SaysWay k way leads
board_says s n k (to_end e) (to_this f) q h = h
board_says s n k (to_end e) (on_to neighbour number) q h = absurd h
board_says s n k (to_link l c) (to_this f) q h = absurd h
board_says s n k (to_link l c) (on_to neighbour number) q h = (sym (place_is s n k neighbour q) ∙ h.0, h.1)

pub entry_stands : (s : State) (key : Key) (n : ℕ) (leads : Leads) → EntryIs s key n leads → Stands (board_of s) key n leads
entry_stands s key n leads e = record {
  hop = e.hop;
  there = entry_hop s key e.hop e.entry;
  binding_is = e.binding_is;
  way = says_board s key.core e.entry.core e.hop.way leads e.entry.core_is e.way;
}

pub stands_entry : (s : State) (key : Key) (n : ℕ) (leads : Leads) → Stands (board_of s) key n leads → EntryIs s key n leads
stands_entry s key n leads e =
    let at : EntryAt s key e.hop = hop_entry s key e.hop e.there in
    record { hop = e.hop; entry = at; binding_is = e.binding_is; way = board_says s key.core at.core e.hop.way leads at.core_is e.way }

-- ---- routes

pub routed_in : (s : State) (n : ℕ) (route : Route) → Routed s n route → route_in (map back_of s.bindings) n ≡ Some route
routed_in s n route r =
    given_map back_of None route_of s.bindings n ∙ ap (λ o. given o None (λ (b : Binding). route_of b.back)) r.there ∙ ap route_of r.back

is_routed : (back : Back) (route : Route) → route_of back ≡ Some route → back ≡ over_route route
is_routed local route e = absurd (cc)
is_routed (over_ring n) route e = absurd (cc)
is_routed (over_route other) route e = let f : other ≡ route = cc in ap (λ (r : Route). over_route r) f

pub in_routed : (s : State) (n : ℕ) (route : Route) → route_in (map back_of s.bindings) n ≡ Some route → Routed s n route
in_routed s n route q =
    let (b, there, is) = given_some (slice_get s.bindings n) (λ (b : Binding). route_of b.back) route (sym (given_map back_of None route_of s.bindings n) ∙ q) in
    record { binding = b; there = there; back = is_routed b.back route is }

-- ---- messages

line_is : (s : State) (a b : ℕ) → link_between s a b ≡ line (map part_of s.cores) a b
line_is s a b = sym (given_map part_of None (part_line b) s.cores a)

unread_is : (s : State) (at : RingEnd) → filter_map said_by (labels_of (unread s at)) ≡ unread_said (map sides_of s.rings) at
unread_is s at = by (slice_get s.rings at.ring) at.side ∙ sym (given_map sides_of [] (side_said at.side) s.rings at.ring)
  where
    by : (o : Option Ring) (side : RingSide) → messages (given o [] (λ r. (read_by side r).waiting)) ≡ given o [] (λ r. side_said side (sides_of r))
    by None side = refl
    by (Some r) first_side = refl
    by (Some r) second_side = refl

pub under_way_is : (s : State) (a b : ℕ) → under_way s a b ≡ said_in (map part_of s.cores) (map sides_of s.rings) a b
under_way_is s a b =
    ap (λ o. filter_map said_by (given o [] (λ (l : Link). labels_of (unread s l.ring))) ++ given (link_between s a b) [] (λ (l : Link). l.outbox)) (line_is s b a)
    ∙ ap (λ o. filter_map said_by (given (line (map part_of s.cores) b a) [] (λ (l : Link). labels_of (unread s l.ring))) ++ given o [] (λ (l : Link). l.outbox)) (line_is s a b)
    ∙ ap (λ ms. ms ++ given (line (map part_of s.cores) a b) [] (λ (l : Link). l.outbox)) (by (line (map part_of s.cores) b a))
  where
    by : (o : Option Link) → filter_map said_by (given o [] (λ l. labels_of (unread s l.ring))) ≡ given o [] (λ l. unread_said (map sides_of s.rings) l.ring)
    by None = refl
    by (Some l) = unread_is s l.ring

-- ---- what the five predicates say

pub fits_of : (s : State) → MessagesAreDue s → AnswersComeOnce s → EntriesStand s → EntriesAreDue s → AnswersAreAwaited s → Fits (board_of s)
fits_of s due once stand only wait = record {
  messages = λ x y m h.
      let d : IsDue s (message x y m) = due x y m (of_has (under_way s x y) m (subst (λ (ms : List MonitorLabel). Has ms m) (sym (under_way_is s x y)) h)) in
      (d.binding, (d.route, (routed_in s d.binding d.route d.routed, d.due)));
  answers = λ x y. subst (λ (ms : List MonitorLabel). NoRepeat (filter_map answer_number ms)) (under_way_is s x y) (once x y);
  stand = λ n route q.
      let e : EntriesStandOn s n route = stand n route (in_routed s n route q) in
      record { near = λ j p w. entry_stands s _ n _ (e.near j p w); far = λ j p w. entry_stands s _ n _ (e.far j p w) };
  due = λ key hop q.
      let at : EntryAt s key hop = hop_entry s key hop q in
      let (route, r, (j, d)) = only key hop at in (
        route,
        routed_in s hop.binding route r,
        (
          j,
          elim d [
            | inl a ↦ inl (record { within = a.within; stands = a.stands; key_is = a.key_is; way = says_board s key.core at.core hop.way _ at.core_is a.way })
            | inr a ↦ inr (record { within = a.within; stands = a.stands; key_is = a.key_is; way = says_board s key.core at.core hop.way _ at.core_is a.way })
          ],
        ),
      );
  wait = λ n route q j h. let (hop, at, bare) = wait n route j (in_routed s n route q) h in (hop, entry_hop s _ hop at, bare);
}

module _ (s : State) (f : Fits (board_of s)) where
  pub messages_due : MessagesAreDue s
  messages_due a b m h =
      let (n, (route, (at, due))) = f.messages a b m (subst (λ (ms : List MonitorLabel). Has ms m) (under_way_is s a b) (has_of (under_way s a b) m h)) in
      record { binding = n; route = route; routed = in_routed s n route at; due = due }

  pub answers_once : AnswersComeOnce s
  answers_once a b = subst (λ (ms : List MonitorLabel). NoRepeat (filter_map answer_number ms)) (sym (under_way_is s a b)) (f.answers a b)

  pub entries_stand : EntriesStand s
  entries_stand n route r =
      let x : StandOn (board_of s) n route = f.stand n route (routed_in s n route r) in
      record { near = λ j p w. stands_entry s _ n _ (x.near j p w); far = λ j p w. stands_entry s _ n _ (x.far j p w) }

  pub entries_due : EntriesAreDue s
  entries_due key hop at =
      let (route, there, (j, d)) = f.due key hop (entry_hop s key hop at) in (
        route,
        in_routed s hop.binding route there,
        (
          j,
          elim d [
            | inl a ↦ inl (record { within = a.within; stands = a.stands; key_is = a.key_is; way = board_says s key.core at.core hop.way _ at.core_is a.way })
            | inr a ↦ inr (record { within = a.within; stands = a.stands; key_is = a.key_is; way = board_says s key.core at.core hop.way _ at.core_is a.way })
          ],
        ),
      )

  pub answers_awaited : AnswersAreAwaited s
  answers_awaited n route j r h =
      let (hop, at, bare) = f.wait n route (routed_in s n route r) j h in (hop, hop_entry s _ hop at, bare)
