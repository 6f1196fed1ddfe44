-- An end that is bound and that is what is shown of one in a sound state is sound, as its own laws ask.
use Rattle.std.proofs.Common.{◌≡◌, ◌≢◌, ◌⊎◌, inl, inr, refl, sym, ◌∙◌, ap, subst, ℕ, zero, suc, ◌+◌, ◌-◌, ◌≤◌, ◌<◌, ◌^◌, min, Bool, true, false, if◌then◌else◌, List, [], ◌∷◌, ◌++◌, length, map, take, drop, slice_get, Option, Some, None, is_some, arith}
use Rattle.std.proofs.lemmas.List.{append-nil, drop_at, drop-drop, drop-take, take-append-le, length-take, length-map}
use Rattle.std.proofs.lemmas.List.Elements.{All-nil, All-cons}
use Rattle.std.proofs.lemmas.Option.{get_or_from_slice_get}
use Rattle.fl_base.specs.declared.fragment.Frag.{Frag}
use Rattle.fl_base.specs.declared.identity.Side.{Side}
use Rattle.fl_base.specs.declared.identity.Side.TheVariants.{Client, Server}
use Rattle.fl_base.specs.declared.identity.EndId.{EndId}
use Rattle.fl_base.specs.Control.{bare}
use Rattle.fl_base.specs.Ends.{other, peer}
use Rattle.fl_base.specs.Given.{given}
use Rattle.fl_interface.specs.Limits.{is_within_limits}
use Rattle.fl_interface.proofs.SameTypes.{same_arguments_are}
use Rattle.fl_hop.proofs.Lists.{at_within}
use Rattle.fl_value_data.specs.Value.{TheCall}
use Rattle.fl_value_data.specs.Fits.{fits_of}
use Rattle.fl_wire.specs.Reading.{IsPart}
use Rattle.fl_endpoint.specs.View.{TheEnd, TheOutgoing, number_or_0, frags_from, nothing_to_send, rule_in}
use Rattle.fl_endpoint.specs.Accounts.{AreRules, Sends}
use Rattle.fl_endpoint.specs.Accounts.{Sound as EndIsSound}
use Rattle.fl_model.specs.Calls.{Planned, fragments, total, last_count, stream}
use Rattle.fl_model.specs.Ends.{Direction, written_of, taken_of, is_busy, handled, End, is_bound, rule_at}
use Rattle.fl_model.specs.State.{OpeningVerdict, undecided, granted, denied, Route, Back, local, over_ring, over_route, Binding, State, binding_of, interface_of, end_in, number_between, place_in}
use Rattle.fl_model.specs.Standing.{Routed, core_at, number_at}
use Rattle.fl_model.specs.SoundCalls.{AllFit, DirectionFits, AllSuit}
use Rattle.fl_model.specs.SoundLabels.{IsCounted}
use Rattle.fl_model.specs.SoundRoutes.{BothBound, BoundBy, BoundWhere, ClientBoundAfter}
use Rattle.fl_model.specs.Sound.{Sound}
use Rattle.fl_model_laws.proofs.ForwardsTold.{place_there}
use Rattle.fl_world_refines.specs.Fragments.{calls_off_links}
use Rattle.fl_world_refines.specs.FragmentLaws.{CallsAreCarried, NumbersAreSmall, InterfacesKeepLimits}
use Rattle.fl_world_refines.specs.Ends.{planned_of, parts_of, circuit_of, EndShows}
use Rattle.fl_world_refines.proofs.Streams.{frags, length_frags, length_stream, stream_append, total_push, last_push, Splits, splits, all_fit, fit_behind}
use Rattle.fl_world_refines.proofs.Sending.{idle_nothing, same_outgoing}
use Rattle.fl_world_refines.proofs.FramesBase.{same_some, end_of_binding}
use Rattle.fl_world_refines.proofs.WritingMachine.{bound_not}

-- ---- what is known of an end, by the machine

pub record Fair (i : Planned) (x : End) (peer : Direction) : Type 0 where
  pub within : is_within_limits i.interface ≡ true
  pub places : length x.rules ≡ length i.interface.messages
  pub rules : AllSuit i x
  pub circuit : circuit_of x < 2 ^ 16
  pub bound : is_bound x ≡ true
  pub counted : IsCounted i x.out
  pub fits : DirectionFits i x.out
  pub few : length x.out.waiting ≤ 16
  pub busy : x.out.waiting ≢ [] → is_busy i x.out ≡ true
  pub peer_fits : AllFit i peer.accepted
  pub plain : (k : ℕ) (f : Frag) → slice_get (stream 0 i peer.accepted) k ≡ Some f → bare f ≡ f

-- ---- lists of plain fragments

abbrev Plain : List Frag → Type 0
Plain [] = Unit {0}
Plain (f ∷ fs) = (bare f ≡ f) × Plain fs

plain_by : (fs : List Frag) → ((k : ℕ) (f : Frag) → slice_get fs k ≡ Some f → bare f ≡ f) → Plain fs
plain_by [] h = tt
plain_by (f ∷ fs) h = (h 0 f refl, plain_by fs (λ k g q. h (suc k) g q))

plain_take : (n : ℕ) (fs : List Frag) → Plain fs → Plain (take n fs)
plain_take zero fs h = tt
plain_take (suc n) [] h = tt
plain_take (suc n) (f ∷ fs) h = (h.0, plain_take n fs h.1)

plain_drop : (n : ℕ) (fs : List Frag) → Plain fs → Plain (drop n fs)
plain_drop zero fs h = h
plain_drop (suc n) [] h = tt
plain_drop (suc n) (f ∷ fs) h = plain_drop n fs h.1

map_plain : (fs : List Frag) → Plain fs → map bare fs ≡ fs
map_plain [] h = refl
map_plain (f ∷ fs) h = ap (λ (g : Frag). g ∷ map bare fs) h.0 ∙ ap (λ (gs : List Frag). f ∷ gs) (map_plain fs h.1)

-- ---- rules

same_rule : (o : Option (Option ℕ)) → rule_in o ≡ given o None λ rule. rule
same_rule None = refl
same_rule (Some rule) = refl

rules_are : (x : End) (peer : Direction) (t : TheEnd) → EndShows (planned_of t.program) x peer t → Fair (planned_of t.program) x peer
    → AreRules (planned_of t.program).interface t.rules
rules_are x peer t h k = record {
  places = ap (λ (rules : List (Option ℕ)). length rules) h.rules ∙ k.places;
  each = λ msg reply q.
      let there : rule_at x.rules msg ≡ Some reply
      = sym (same_rule (slice_get x.rules msg)) ∙ ap (λ (rules : List (Option ℕ)). rule_in (slice_get rules msg)) (sym h.rules) ∙ q in
      let suits = k.rules msg reply there in
      record { from = suits.message; to = suits.reply; types = same_arguments_are _ _ suits.same };
}

-- ---- what is to be sent

pub record Last (cs : List TheCall) : Type 0 where
  pub before : List TheCall
  pub last : TheCall
  pub is : cs ≡ before ++ last ∷ []

last_of : (cs : List TheCall) → cs ≢ [] → Last cs
last_of [] h = absurd (h refl)
last_of (c ∷ []) h = record { before = []; last = c; is = refl }
last_of (c ∷ d ∷ cs) h =
    let k = last_of (d ∷ cs) (λ q. absurd (cc)) in
    record { before = c ∷ k.before; last = k.last; is = ap (λ (ds : List TheCall). c ∷ ds) k.is }

none_not_busy : (i : Planned) (d : Direction) → is_busy i d ≡ true → d.accepted ≢ []
none_not_busy i d h q =
    let less = Rattle.fl_world_refines.proofs.Tests.true_lt (written_of d) (total i d.accepted) h in
    let none : total i d.accepted ≡ 0 = ap (total i) q in
    omega (arith, less, none)

fit_front : (i : Planned) (hs left : List TheCall) (c : TheCall) → AllFit i (hs ++ c ∷ left) → fits_of i.interface c ≡ true
fit_front i [] left c h = h 0 c refl
fit_front i (d ∷ hs) left c h = fit_front i hs left c (λ n e q. h (suc n) e q)

-- of the last call so many are written already
drop_last : (circuit : ℕ) (i : Planned) (cs : List TheCall) (c : TheCall) (n : ℕ) → total i cs ≤ n
    → drop n (stream circuit i (cs ++ c ∷ [])) ≡ drop (n - total i cs) (frags circuit i c)
drop_last circuit i cs c n h =
    let sum : n ≡ total i cs + (n - total i cs) = omega (arith, h) in
    let all = stream circuit i (cs ++ c ∷ []) in
    ap (λ (k : ℕ). drop k (stream circuit i (cs ++ c ∷ []))) sum
    ∙ sym (drop-drop (n - total i cs) (total i cs) (stream circuit i (cs ++ c ∷ [])))
    ∙ ap (drop (n - total i cs))
    (ap (drop (total i cs)) (stream_append circuit i cs (c ∷ []))
    ∙ drop_at (stream circuit i cs) (stream circuit i (c ∷ [])) (total i cs) (length_stream circuit i cs)
    ∙ append-nil (frags circuit i c))

frags_are : (x : End) (peer : Direction) (t : TheEnd) → EndShows (planned_of t.program) x peer t → (c : TheCall)
    → frags (circuit_of x) (planned_of t.program) c ≡ frags_from t c
frags_are x peer t h c = ap (λ (o : Option ℕ). frags (number_or_0 o) (planned_of t.program) c) (sym h.circuit)

map_frags : (x : End) (peer : Direction) (t : TheEnd) → EndShows (planned_of t.program) x peer t → (cs : List TheCall)
    → map (frags (circuit_of x) (planned_of t.program)) cs ≡ map (frags_from t) cs
map_frags x peer t h cs = ap (λ (o : Option ℕ). map (frags (number_or_0 o) (planned_of t.program)) cs) (sym h.circuit)

sends_busy : (x : End) (peer : Direction) (t : TheEnd) → EndShows (planned_of t.program) x peer t → Fair (planned_of t.program) x peer
    → is_busy (planned_of t.program) x.out ≡ true → Sends t
sends_busy x peer t h k busy =
    let i : Planned = planned_of t.program in
    let d : Direction = x.out in
    let n : ℕ = circuit_of x in
    let l : Last x.out.accepted = last_of x.out.accepted (none_not_busy i d busy) in
    let sum : total i d.accepted ≡ total i l.before + fragments i l.last = ap (total i) l.is ∙ total_push i l.before l.last in
    let last : last_count i d.accepted ≡ fragments i l.last = ap (last_count i) l.is ∙ last_push i l.before l.last in
    let least = k.counted.before in
    let less = Rattle.fl_world_refines.proofs.Tests.true_lt (written_of d) (total i d.accepted) busy in
    let before : total i l.before ≤ written_of d = omega (arith, sum, last, least) in
    let long : length (frags n i l.last) ≡ fragments i l.last = length_frags n i l.last in
    let left : drop (written_of d) (stream n i d.accepted) ≡ drop (written_of d - total i l.before) (frags n i l.last)
    = ap (λ (cs : List TheCall). drop (written_of d) (stream n i cs)) l.is ∙ drop_last n i l.before l.last (written_of d) before in
    let count : (if is_busy i d then last_count i d.accepted else 0) ≡ length (frags n i l.last)
    = ap (λ (b : Bool). if b then last_count i d.accepted else 0) busy ∙ last ∙ sym long in
    let same = frags_are x peer t h l.last in
    let number : ℕ = written_of d - total i l.before in
    let short : written_of d - total i l.before < length (frags n i l.last) = omega (arith, sum, less, before, long) in
    record {
      calls = l.last ∷ d.waiting;
      fit = All-cons (λ (c : TheCall). fits_of i.interface c ≡ true) l.last d.waiting
          (fit_front i l.before [] l.last (subst (AllFit i) l.is k.fits.accepted)) (all_fit i d.waiting k.fits.waiting);
      number = number;
      left = (
        subst (λ (fs : List Frag). number < length fs) same short,
        h.outgoing
            ∙ same_outgoing (drop (written_of d) (stream n i d.accepted)) (drop number (frags_from t l.last))
            (if is_busy i d then last_count i d.accepted else 0) (length (frags_from t l.last))
            (map (frags n i) d.waiting) (map (frags_from t) d.waiting)
            (left ∙ ap (drop number) same) (count ∙ ap (λ (fs : List Frag). length fs) same) (map_frags x peer t h d.waiting),
      );
      few = (let many : length t.outgoing.waiting ≡ length d.waiting
          = ap (λ (o : TheOutgoing). length o.waiting) h.outgoing ∙ length-map d.waiting (frags n i) in
          let few = k.few in
          omega (arith, many, few));
    }

none_waiting : (i : Planned) (d : Direction) (ws : List TheCall) → d.waiting ≡ ws → (d.waiting ≢ [] → is_busy i d ≡ true) → is_busy i d ≡ false → d.waiting ≡ []
none_waiting i d [] q h idle = q
none_waiting i d (c ∷ ws) q h idle =
    absurd (let busy = h (λ e. let none : [] ≡ c ∷ ws = sym e ∙ q in absurd (cc)) in let k : false ≡ true = sym idle ∙ busy in cc)

sends_idle : (x : End) (peer : Direction) (t : TheEnd) → EndShows (planned_of t.program) x peer t → Fair (planned_of t.program) x peer
    → is_busy (planned_of t.program) x.out ≡ false → Sends t
sends_idle x peer t h k idle =
    let i : Planned = planned_of t.program in
    let d : Direction = x.out in
    let n : ℕ = circuit_of x in
    let none = none_waiting i d d.waiting refl k.busy idle in
    let nothing : t.outgoing ≡ nothing_to_send
    = h.outgoing
    ∙ same_outgoing (drop (written_of d) (stream n i d.accepted)) [] (if is_busy i d then last_count i d.accepted else 0) 0
    (map (frags n i) d.waiting) []
    (idle_nothing n i d idle) (ap (λ (b : Bool). if b then last_count i d.accepted else 0) idle) (ap (map (frags n i)) none) in
    record {
      calls = [];
      fit = All-nil (λ (c : TheCall). fits_of i.interface c ≡ true);
      number = 0;
      left = nothing;
      few = (let many : length t.outgoing.waiting ≡ 0 = ap (λ (o : TheOutgoing). length o.waiting) nothing in omega (arith, many));
    }

sends_by : (x : End) (peer : Direction) (t : TheEnd) → EndShows (planned_of t.program) x peer t → Fair (planned_of t.program) x peer
    → (b : Bool) → is_busy (planned_of t.program) x.out ≡ b → Sends t
sends_by x peer t h k true q = sends_busy x peer t h k q
sends_by x peer t h k false q = sends_idle x peer t h k q

-- ---- what was taken of a call

none_taken : (n : ℕ) (fs : List Frag) → fs ≡ [] → take n fs ≡ []
none_taken zero fs q = refl
none_taken (suc n) [] q = refl
none_taken (suc n) (f ∷ fs) q = absurd (cc)

-- part of a call, or nothing
part_by : (i : Planned) (peer : Direction) (parts : List Frag) → parts ≡ parts_of i peer → AllFit i peer.accepted → map bare parts ≡ parts
    → (parts ≡ []) ⊎ IsPart i.plan i.interface parts
part_by i peer parts h fit plain =
    let n : ℕ = taken_of peer in
    let sp : Splits i peer.accepted (taken_of peer) = splits i peer.accepted (taken_of peer) in
    let m : ℕ = total i (handled i peer) in
    let most : total i (handled i peer) ≤ taken_of peer = sp.most in
    let sum : taken_of peer ≡ total i (handled i peer) + (taken_of peer - total i (handled i peer)) = omega (arith, most) in
    let behind : drop (total i (handled i peer)) (stream 0 i peer.accepted) ≡ stream 0 i sp.left
    = ap (λ (cs : List TheCall). drop (total i (handled i peer)) (stream 0 i cs)) sp.calls_are
    ∙ ap (drop (total i (handled i peer))) (stream_append 0 i (handled i peer) sp.left)
    ∙ drop_at (stream 0 i (handled i peer)) (stream 0 i sp.left) (total i (handled i peer)) (length_stream 0 i (handled i peer)) in
    let are : parts ≡ take (taken_of peer - total i (handled i peer)) (stream 0 i sp.left)
    = h
    ∙ ap (λ (k : ℕ). drop (total i (handled i peer)) (take k (stream 0 i peer.accepted))) sum
    ∙ drop-take (total i (handled i peer)) (taken_of peer - total i (handled i peer)) (stream 0 i peer.accepted)
    ∙ ap (take (taken_of peer - total i (handled i peer))) behind in
    by sp.left refl are (fit_behind i (handled i peer) sp.left (subst (AllFit i) sp.calls_are fit)) sp.short
  where
    by : (left : List TheCall) → left ≡ left → parts ≡ take (taken_of peer - total i (handled i peer)) (stream 0 i left) → AllFit i left
        → ((c : TheCall) (rest : List TheCall) → left ≡ c ∷ rest → taken_of peer - total i (handled i peer) < fragments i c)
        → (parts ≡ []) ⊎ IsPart i.plan i.interface parts
    by [] q are fits short = inl (are ∙ none_taken (taken_of peer - total i (handled i peer)) (stream 0 i []) refl)
    by (c ∷ rest) q are fits short =
        let less = short c rest refl in
        let long : length (frags 0 i c) ≡ fragments i c = length_frags 0 i c in
        let of_one : parts ≡ take (taken_of peer - total i (handled i peer)) (frags 0 i c)
        = are ∙ take-append-le (taken_of peer - total i (handled i peer)) (frags 0 i c) (stream 0 i rest) (omega (arith, less, long)) in
        let many : length parts ≡ taken_of peer - total i (handled i peer)
        = ap (λ (fs : List Frag). length fs) of_one
        ∙ (let k = length-take (taken_of peer - total i (handled i peer)) (frags 0 i c) in omega (arith, k, less, long)) in
        inr (record {
          call = c;
          fits = fits 0 c refl;
          short = omega (arith, many, less);
          prefix = plain ∙ of_one ∙ ap (λ (k : ℕ). take k (frags 0 i c)) (sym many);
        })

-- ---- the end

own_sound : (x : End) (peer : Direction) (t : TheEnd) → EndShows (planned_of t.program) x peer t → Fair (planned_of t.program) x peer → EndIsSound t
own_sound x peer t h k =
    let i : Planned = planned_of t.program in
    let plain : map bare t.parts ≡ t.parts
    = subst (λ (fs : List Frag). map bare fs ≡ fs) (sym h.parts)
    (map_plain (parts_of i peer) (plain_drop (total i (handled i peer)) (take (taken_of peer) (stream 0 i peer.accepted))
    (plain_take (taken_of peer) (stream 0 i peer.accepted) (plain_by (stream 0 i peer.accepted) k.plain)))) in
    record {
      within = k.within;
      words = t.program.words;
      rules = rules_are x peer t h k;
      circuit = subst (λ (o : Option ℕ). number_or_0 o < 2 ^ 16) (sym h.circuit) k.circuit;
      unbound = λ q. absurd (let e : false ≡ true = ap is_some (sym q ∙ h.circuit) ∙ k.bound in cc);
      sends = sends_by x peer t h k (is_busy i x.out) refl;
      part = part_by i peer t.parts h.parts k.peer_fits plain;
      are_bare = plain;
    }

pub sound_end : (i : Planned) (x : End) (peer : Direction) (t : TheEnd) → EndShows i x peer t → Fair i x peer → EndIsSound t
sound_end i x peer t h k =
    subst (λ (j : Planned). EndShows j x peer t → Fair j x peer → EndIsSound t) h.program (own_sound x peer t) h k

-- ---- by a sound state

on_zero : (side : Side) (b : Binding) → BothBound b → (end_in side b).circuit ≡ Some 0
on_zero Client b h = h.0
on_zero Server b h = h.1

min_next : (j : ℕ) → min j (j + 1) ≡ j
min_next j = omega arith

-- the numbers of a route have 16 bits
small_at : (s : State) (n : ℕ) (route : Route) (j : ℕ) → Sound s → NumbersAreSmall s → Routed s n route → j < length route.numbers → number_at route j < 2 ^ 16
small_at s n route j sound small routed within =
    let go = sound.numbers n route routed in
    let few = go.few in
    let differ = (sound.routes n route routed).differ in
    let c = at_within route.numbers j within in
    let is : number_at route j ≡ c.0 = get_or_from_slice_get route.numbers j c.0 0 c.1 in
    let between : number_between (core_at route j) (core_at route (j + 1)) route ≡ Some c.0
    = ap (λ (o : Option ℕ). given o None λ x. given (place_in route.cores (core_at route (j + 1))) None λ y. slice_get route.numbers (min x y))
    (place_there route.cores j (core_at route j) (omega (arith, within, few)) refl differ)
    ∙ ap (λ (o : Option ℕ). given o None λ y. slice_get route.numbers (min j y))
    (place_there route.cores (j + 1) (core_at route (j + 1)) (omega (arith, within, few)) refl differ)
    ∙ ap (slice_get route.numbers) (min_next j)
    ∙ c.1 in
    let less = (small n route (core_at route j) (core_at route (j + 1)) c.0 routed between).1 in
    omega (arith, is, less)

none_bound : {P : Type 0} (side : Side) (b : Binding) → b.client.circuit ≡ None → b.server.circuit ≡ None → is_bound (end_in side b) ≡ true → P
none_bound Client b p q h = bound_not b.client h p
none_bound Server b p q h = bound_not b.server h q

small_by : (x : End) (n : ℕ) → x.circuit ≡ Some n → n < 2 ^ 16 → circuit_of x < 2 ^ 16
small_by x n q h = subst (λ (o : Option ℕ). number_or_0 o < 2 ^ 16) (sym q) h

client_small : (route : Route) (i : ℕ) (b : Binding) → ClientBoundAfter route i b → is_bound b.client ≡ true → number_at route 0 < 2 ^ 16 → circuit_of b.client < 2 ^ 16
client_small route zero b h k less = small_by b.client (number_at route 0) h less
client_small route (suc i) b h k less = bound_not b.client k h

route_small : (route : Route) (verdict : OpeningVerdict) (side : Side) (b : Binding) → BoundBy route verdict b → is_bound (end_in side b) ≡ true
    → number_at route 0 < 2 ^ 16 → number_at route (length route.numbers - 1) < 2 ^ 16 → circuit_of (end_in side b) < 2 ^ 16
route_small route undecided side b h k first last = none_bound side b h.0 h.1 k
route_small route (denied i fault) side b h k first last = none_bound side b h.0 h.1 k
route_small route (granted i) Client b h k first last = client_small route i b h.0 k first
route_small route (granted i) Server b h k first last = small_by b.server (number_at route (length route.numbers - 1)) h.1 last

circuit_small : (s : State) (e : EndId) (b : Binding) (back : Back) → Sound s → NumbersAreSmall s → binding_of s e ≡ Some b → b.back ≡ back
    → BoundWhere back b → is_bound (end_in e.side b) ≡ true → circuit_of (end_in e.side b) < 2 ^ 16
circuit_small s e b local sound small p q where_ h = small_by (end_in e.side b) 0 (on_zero e.side b where_) (omega arith)
circuit_small s e b (over_ring n) sound small p q where_ h = small_by (end_in e.side b) 0 (on_zero e.side b where_) (omega arith)
circuit_small s e b (over_route route) sound small p q where_ h =
    let routed : Routed s e.binding route = record { binding = b; there = p; back = q } in
    let some = (sound.numbers e.binding route routed).some in
    route_small route route.verdict e.side b where_ h
    (small_at s e.binding route 0 sound small routed (omega (arith, some)))
    (small_at s e.binding route (length route.numbers - 1) sound small routed (omega (arith, some)))

calls_are : (s : State) (e : EndId) (b : Binding) (i : Planned) → binding_of s e ≡ Some b → interface_of s b ≡ Some i
    → calls_off_links s e ≡ stream 0 i (end_in e.side b).out.accepted
calls_are s e b i p q =
    ap (λ (o : Option Binding). given o [] λ c. given (interface_of s c) [] λ j. stream 0 j (end_in e.side c).out.accepted) p
    ∙ ap (λ (o : Option Planned). given o [] λ j. stream 0 j (end_in e.side b).out.accepted) q

pub fair : (s : State) (e : EndId) (b : Binding) (i : Planned) → Sound s → InterfacesKeepLimits s → CallsAreCarried s → NumbersAreSmall s
    → binding_of s e ≡ Some b → interface_of s b ≡ Some i → is_bound (end_in e.side b) ≡ true → Fair i (end_in e.side b) (end_in (other e.side) b).out
fair s e b i sound limits all small p q h =
    let k = sound.ends e (end_in e.side b) (end_of_binding s e b p) in
    let binding : k.binding ≡ b = same_some (binding_of s e) k.binding b k.there p in
    let interface : k.interface ≡ i
    = same_some (interface_of s b) k.interface i (ap (λ (x : Binding). interface_of s x) (sym binding) ∙ k.interface_is) q in
    record {
      within = limits b.interface i q;
      places = k.rules ∙ ap (λ (j : Planned). length j.interface.messages) interface;
      rules = sound.rules e b i p q;
      circuit = circuit_small s e b b.back sound small p refl (sound.bound e.binding b p) h;
      bound = h;
      counted = sound.counted e b i p q;
      fits = sound.calls e b i p q;
      few = sound.waiting e (end_in e.side b) (end_of_binding s e b p);
      busy = sound.busy e b i p q;
      peer_fits = (sound.calls (peer e) b i p q).accepted;
      plain = λ n f r. (all.off_links (peer e) n f (ap (λ (fs : List Frag). slice_get fs n) (calls_are s (peer e) b i p q) ∙ r)).is_bare;
    }
