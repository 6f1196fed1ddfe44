-- What labels stand for: what monitors say, and calls' fragments.
use Rattle.std.proofs.Common.{◌≡◌, refl, sym, ◌∙◌, ap, subst, ℕ, zero, suc, ◌<◌, ◌^◌, ◌==◌, Bool, true, false, List, [], ◌∷◌, ◌++◌, map, length, slice_get, Option, Some, None, arith}
use Rattle.std.specs.List.{range_with_len}
use Rattle.std.specs.Option.{option_map}
use Rattle.std.proofs.lemmas.Option.{slice_get-map, same_Some}
use Rattle.fl_base.specs.declared.fragment.Frag.{Frag}
use Rattle.fl_base.specs.declared.identity.EndId.{EndId}
use Rattle.fl_base.specs.Control.{body, bare, control_word, circuit_of, with_circuit}
use Rattle.fl_interface.specs.Limits.{is_within_limits}
use Rattle.std.proofs.lemmas.Bool.{and_parts, leb-true, false≢true}
use Rattle.fl_base.specs.Given.{given}
use Rattle.fl_interface.specs.Interface.{TheMessage, TheInterface}
use Rattle.fl_value_data.specs.Value.{Datum, TheCall}
use Rattle.fl_value_data.specs.Fits.{fits_of, fit_message}
use Rattle.fl_value_data.specs.declared.value.PlanNo.TheVariants.{One}
use Rattle.fl_layout.specs.Places.{count}
use Rattle.fl_wire.specs.Payload.{payload_of, frag_on, frags_of}
use Rattle.fl_endpoint.specs.Laws.{OnAnotherCircuit}
use Rattle.fl_monitor.specs.Intermon.{intermon, call_for, HasWidths}
use Rattle.fl_monitor.specs.Saying.{Says, FitsByWidths, EachTakesOneFragment, SaysNoOther, SaysWhatIsWritten, SaysTheSame, SaysAlone}
use Rattle.fl_model.specs.Calls.{Planned, stream}
use Rattle.fl_model.specs.Rings.{MonitorLabel, open_circuit, circuit_opened, circuit_refused, Label, next_of, says, acknowledges}
use Rattle.fl_model.specs.State.{Route, over_route, Binding, State, binding_of, interface_of, end_in, number_between}
use Rattle.fl_model.specs.Forwarding.{route_of}
use Rattle.fl_model.specs.SoundCalls.{AllFit, CallsFit}
use Rattle.fl_model.specs.Standing.{Routed}
use Rattle.fl_world_refines.specs.Fragments.{frag_of, Streams, said_frag, message_of, calls_on, calls_off_links, calls_between}
use Rattle.fl_world_refines.specs.RingLaws.{IsCarried, GoOn}
use Rattle.fl_world_refines.specs.FragmentLaws.{IsSaid, InterfacesKeepLimits, NumbersAreSmall, CallsAreCarried, OffLinks, GoesOn, SameFragments, TellsKind}
use Rattle.fl_ring.specs.Duo.{acknowledgement}
use Rattle.fl_model.specs.Keeping.{KeepsCalls}
use Rattle.fl_world_refines.proofs.Streams.{frags, stream_append, all_fit}
use Rattle.fl_world_refines.proofs.Matching.{data_control, same_heads}

-- ---- control words

body_is : (first : Bool) (msg circuit : ℕ) → msg < 2 ^ 16 → circuit < 2 ^ 16 → body (control_word first msg circuit) ≡ control_word first msg circuit
body_is true msg circuit m k = omega (arith, m, k)
body_is false msg circuit m k = omega (arith, m, k)

circuit_is : (first : Bool) (msg circuit : ℕ) → msg < 2 ^ 16 → circuit < 2 ^ 16 → circuit_of (control_word first msg circuit) ≡ circuit
circuit_is true msg circuit m k = omega (arith, m, k)
circuit_is false msg circuit m k = omega (arith, m, k)

carried_control : (words : List ℕ) (first : Bool) (msg circuit : ℕ) → msg < 2 ^ 16 → circuit < 2 ^ 16
    → IsCarried (record { words = words; control = control_word first msg circuit })
carried_control words first msg circuit m k = record {
  is_bare = ap (λ (w : ℕ). record { words = words; control = w }) (body_is first msg circuit m k);
  no_ack = data_control words first msg circuit;
}

-- ---- message numbers

msg_there : (ms : List TheMessage) (n : ℕ) (ds : List Datum) → fit_message (slice_get ms n) ds ≡ true → n < length ms
msg_there [] n ds h = absurd (false≢true h)
msg_there (m ∷ ms) zero ds h = omega arith
msg_there (m ∷ ms) (suc n) ds h = omega (arith, msg_there ms n ds h)

small_message : (i : TheInterface) (c : TheCall) → is_within_limits i ≡ true → fits_of i c ≡ true → c.msg < 2 ^ 16
small_message i c within fits =
    let few = leb-true (length i.messages) 256 (and_parts _ _ within).0 in
    let less = msg_there i.messages c.msg c.args fits in
    omega (arith, few, less)

-- ---- what monitors say

small_said : (m : MonitorLabel) → (call_for (message_of m)).msg < 2 ^ 16
small_said (open_circuit o) = omega arith
small_said (circuit_opened c) = omega arith
small_said (circuit_refused c fault) = omega arith

said_carried : (m : MonitorLabel) → IsCarried (said_frag m)
said_carried m = carried_control (said_frag m).words true (call_for (message_of m)).msg 0 (small_said m) (omega arith)

-- what is known of messages and their fragments
pub record Known : Type 0 where
  pub fits : FitsByWidths
  pub one : EachTakesOneFragment
  pub only : SaysNoOther
  pub written : SaysWhatIsWritten
  pub same : SaysTheSame
  pub alone : SaysAlone

said_frags : (m : MonitorLabel) → Known → HasWidths (message_of m) → frags_of One intermon (call_for (message_of m)) ≡ said_frag m ∷ []
said_frags m k w =
    ap (λ (n : ℕ). map (frag_on 0 (call_for (message_of m)).msg (payload_of One intermon (call_for (message_of m)))) (range_with_len 0 n))
    (k.one (call_for (message_of m)) ((k.fits (message_of m)).0 w))

pub is_said : Known → (m : MonitorLabel) → HasWidths (message_of m) → IsSaid m
is_said k m w =
    let plain : bare (said_frag m) ≡ said_frag m = (said_carried m).is_bare in
    let frags_are : frags_of One intermon (call_for (message_of m)) ≡ said_frag m ∷ [] = said_frags m k w in
    let first : Says (said_frag m) (message_of m) = k.written (said_frag m) (message_of m) w (sym frags_are) in
    let read : (f : Frag) → bare f ≡ said_frag m → Says f (message_of m) = λ f e. k.same (said_frag m) f (message_of m) (e ∙ sym plain) first in
    record {
      written = λ f is. same_heads f (said_frag m) [] [] (is.written ∙ frags_are);
      is = record { widths = w; written = sym frags_are };
      carried = said_carried m;
      read = read;
      only = λ f n e says_it. k.only f n (message_of m) says_it (read f e);
      alone = λ f e. k.alone f (message_of m) (read f e);
    }

-- ---- fragments of calls, one by one

in_map : (P : Frag → Type 0) (g : ℕ → Frag) (ns : List ℕ) (k : ℕ) (f : Frag) → ((n : ℕ) → P (g n)) → slice_get (map g ns) k ≡ Some f → P f
in_map P g [] k f h q = absurd (cc)
in_map P g (n ∷ ns) zero f h q = subst P (same_Some (g n) f q) (h n)
in_map P g (n ∷ ns) (suc k) f h q = in_map P g ns k f h q

in_append : (P : Frag → Type 0) (xs ys : List Frag) (k : ℕ) (f : Frag) → ((j : ℕ) (g : Frag) → slice_get xs j ≡ Some g → P g)
    → ((j : ℕ) (g : Frag) → slice_get ys j ≡ Some g → P g) → slice_get (xs ++ ys) k ≡ Some f → P f
in_append P [] ys k f a b q = b k f q
in_append P (x ∷ xs) ys zero f a b q = a zero f q
in_append P (x ∷ xs) ys (suc k) f a b q = in_append P xs ys k f (λ j g r. a (suc j) g r) b q

-- what holds of each fragment of each fitting call holds of each in their stream
in_stream : (P : Frag → Type 0) (circuit : ℕ) (i : Planned) (cs : List TheCall)
    → ((c : TheCall) (n : ℕ) → fits_of i.interface c ≡ true → P (frag_on circuit c.msg (payload_of i.plan i.interface c) n))
    → AllFit i cs → (k : ℕ) (f : Frag) → slice_get (stream circuit i cs) k ≡ Some f → P f
in_stream P circuit i [] h fit k f q = absurd (cc)
in_stream P circuit i (c ∷ cs) h fit k f q =
    in_append P (frags circuit i c) (stream circuit i cs) k f
    (λ j g r. in_map P (frag_on circuit c.msg (payload_of i.plan i.interface c)) (range_with_len 0 (count i.plan i.interface c)) j g
    (λ n. h c n (fit zero c refl)) r)
    (λ j g r. in_stream P circuit i cs h (λ n d e. fit (suc n) d e) j g r) q

get_left : (xs ys : List Frag) (k : ℕ) (f : Frag) → slice_get xs k ≡ Some f → slice_get (xs ++ ys) k ≡ Some f
get_left [] ys k f q = absurd (cc)
get_left (x ∷ xs) ys zero f q = q
get_left (x ∷ xs) ys (suc k) f q = get_left xs ys k f q

-- with another circuit
on_another : OnAnotherCircuit → (i : Planned) (circuit other : ℕ) (cs : List TheCall) (k : ℕ) (f : Frag) → circuit < 2 ^ 16 → is_within_limits i.interface ≡ true → AllFit i cs
    → slice_get (stream circuit i cs) k ≡ Some f → slice_get (stream other i cs) k ≡ Some (with_circuit other f)
on_another law i circuit other cs k f small within fit q =
    ap (λ (fs : List Frag). slice_get fs k)
    (sym (law (record { interface = i.interface; plan = i.plan }) circuit other cs small within (all_fit i cs fit)))
    ∙ slice_get-map (with_circuit other) (stream circuit i cs) k
    ∙ ap (option_map (with_circuit other)) q

-- ---- in a state

given_some : {X : Type 0} (o : Option X) (f : X → List Frag) (k : ℕ) (g : Frag) → slice_get (given o [] f) k ≡ Some g
    → (x : X) × (o ≡ Some x) × (slice_get (f x) k ≡ Some g)
given_some None f k g q = absurd (cc)
given_some (Some x) f k g q = (x, refl, q)

record OfCalls (circuit : ℕ) (s : State) (e : EndId) (k : ℕ) (f : Frag) : Type 0 where
  pub binding : Binding
  pub binding_is : binding_of s e ≡ Some binding
  pub interface : Planned
  pub interface_is : interface_of s binding ≡ Some interface
  pub at : slice_get (stream circuit interface (end_in e.side binding).out.accepted) k ≡ Some f

of_calls : (circuit : ℕ) (s : State) (e : EndId) (k : ℕ) (f : Frag) → slice_get (calls_on circuit s e) k ≡ Some f → OfCalls circuit s e k f
of_calls circuit s e k f q =
    let b = given_some (binding_of s e) (λ x. given (interface_of s x) [] λ i. stream circuit i (end_in e.side x).out.accepted) k f q in
    let i = given_some (interface_of s b.0) (λ j. stream circuit j (end_in e.side b.0).out.accepted) k f b.2 in
    record { binding = b.0; binding_is = b.1; interface = i.0; interface_is = i.1; at = i.2 }

pub calls_are : (circuit : ℕ) (s : State) (e : EndId) (x : Binding) (i : Planned) → binding_of s e ≡ Some x → interface_of s x ≡ Some i
    → calls_on circuit s e ≡ stream circuit i (end_in e.side x).out.accepted
calls_are circuit s e x i p q =
    ap (λ (o : Option Binding). given o [] λ y. given (interface_of s y) [] λ j. stream circuit j (end_in e.side y).out.accepted) p
    ∙ ap (λ (o : Option Planned). given o [] λ j. stream circuit j (end_in e.side x).out.accepted) q

record OfLink (a b : ℕ) (s : State) (e : EndId) (k : ℕ) (f : Frag) : Type 0 where
  pub binding : Binding
  pub binding_is : binding_of s e ≡ Some binding
  pub route : Route
  pub route_is : route_of binding.back ≡ Some route
  pub number : ℕ
  pub number_is : number_between a b route ≡ Some number
  pub at : slice_get (calls_on number s e) k ≡ Some f

of_link : (a b : ℕ) (s : State) (e : EndId) (k : ℕ) (f : Frag) → slice_get (calls_between a b s e) k ≡ Some f → OfLink a b s e k f
of_link a b s e k f q =
    let x = given_some (binding_of s e) (λ y. given (route_of y.back) [] λ route. given (number_between a b route) [] λ c. calls_on c s e) k f q in
    let r = given_some (route_of x.0.back) (λ route. given (number_between a b route) [] λ c. calls_on c s e) k f x.2 in
    let n = given_some (number_between a b r.0) (λ c. calls_on c s e) k f r.2 in
    record { binding = x.0; binding_is = x.1; route = r.0; route_is = r.1; number = n.0; number_is = n.1; at = n.2 }

pub link_calls_are : (a b : ℕ) (s : State) (e : EndId) (x : Binding) (route : Route) (n : ℕ) → binding_of s e ≡ Some x → route_of x.back ≡ Some route
    → number_between a b route ≡ Some n → calls_between a b s e ≡ calls_on n s e
link_calls_are a b s e x route n p q r =
    ap (λ (o : Option Binding). given o [] λ y. given (route_of y.back) [] λ w. given (number_between a b w) [] λ c. calls_on c s e) p
    ∙ ap (λ (o : Option Route). given o [] λ w. given (number_between a b w) [] λ c. calls_on c s e) q
    ∙ ap (λ (o : Option ℕ). given o [] λ c. calls_on c s e) r

-- a route is its binding's
is_routed : (s : State) (e : EndId) (x : Binding) (route : Route) → binding_of s e ≡ Some x → route_of x.back ≡ Some route → Routed s e.binding route
is_routed s e x route p q = record { binding = x; there = p; back = back_is x.back q } where
  back_is : (back : Rattle.fl_model.specs.State.Back) → route_of back ≡ Some route → back ≡ over_route route
  back_is Rattle.fl_model.specs.State.local h = absurd (cc)
  back_is (Rattle.fl_model.specs.State.over_ring n) h = absurd (cc)
  back_is (over_route r) h = ap over_route (same_Some r route h)

carried_on : (circuit : ℕ) (s : State) → circuit < 2 ^ 16 → CallsFit s → InterfacesKeepLimits s → (e : EndId) (k : ℕ) (f : Frag)
    → slice_get (calls_on circuit s e) k ≡ Some f → IsCarried f × (circuit_of f.control ≡ circuit)
carried_on circuit s small fit keep e k f q =
    let o = of_calls circuit s e k f q in
    let within = keep o.binding.interface o.interface o.interface_is in
    in_stream (λ (g : Frag). IsCarried g × (circuit_of g.control ≡ circuit)) circuit o.interface (end_in e.side o.binding).out.accepted
    (λ c n fits.
    let msg = small_message o.interface.interface c within fits in (
      carried_control (frag_on circuit c.msg (payload_of o.interface.plan o.interface.interface c) n).words (n == 0) c.msg circuit msg small,
      circuit_is (n == 0) c.msg circuit msg small,
    ))
    (fit e o.binding o.interface o.binding_is o.interface_is).accepted k f o.at

pub calls_carried : (s : State) → CallsFit s → InterfacesKeepLimits s → NumbersAreSmall s → CallsAreCarried s
calls_carried s fit keep small = record {
  off_links = λ e k f q. (carried_on 0 s (omega arith) fit keep e k f q).0;
  between = λ a b e k f q.
      let o = of_link a b s e k f q in
      (carried_on o.number s (small e.binding o.route a b o.number (is_routed s e o.binding o.route o.binding_is o.route_is) o.number_is).1
      fit keep e k f o.at).0;
}

another : OnAnotherCircuit → (circuit other : ℕ) (s : State) → circuit < 2 ^ 16 → CallsFit s → InterfacesKeepLimits s → (e : EndId) (k : ℕ) (f : Frag)
    → slice_get (calls_on circuit s e) k ≡ Some f → slice_get (calls_on other s e) k ≡ Some (with_circuit other f)
another law circuit other s small fit keep e k f q =
    let o = of_calls circuit s e k f q in
    ap (λ (fs : List Frag). slice_get fs k) (calls_are other s e o.binding o.interface o.binding_is o.interface_is)
    ∙ on_another law o.interface circuit other (end_in e.side o.binding).out.accepted k f small (keep o.binding.interface o.interface o.interface_is)
    (fit e o.binding o.interface o.binding_is o.interface_is).accepted o.at

pub off_links : (s : State) → CallsFit s → InterfacesKeepLimits s → OffLinks s
off_links s fit keep e k f q = (carried_on 0 s (omega arith) fit keep e k f q).1

pub goes_on : OnAnotherCircuit → (s : State) → CallsFit s → InterfacesKeepLimits s → NumbersAreSmall s → GoesOn s
goes_on law s fit keep small a b x binding route p q g =
    let o = of_link a b s x.end x.number x.frag g in
    let same_binding : o.binding ≡ binding = same_Some o.binding binding (sym o.binding_is ∙ p) in
    let same_route : o.route ≡ route
    = same_Some o.route route (sym o.route_is ∙ ap (λ (y : Binding). route_of y.back) same_binding ∙ q) in
    let less : o.number < 2 ^ 16 = (small x.end.binding o.route a b o.number (is_routed s x.end o.binding o.route o.binding_is o.route_is) o.number_is).1 in
    record {
      carries = λ m r.
          (carried_on o.number s less fit keep x.end x.number x.frag o.at).1
          ∙ same_Some o.number m (sym o.number_is ∙ ap (number_between a b) same_route ∙ r);
      arrives = another law o.number 0 s less fit keep x.end x.number x.frag o.at;
      onward = λ c d m r.
          ap (λ (fs : List Frag). slice_get fs x.number) (link_calls_are c d s x.end binding route m p q r)
          ∙ another law o.number m s less fit keep x.end x.number x.frag o.at;
    }

-- which it is
said_circuit : (m : MonitorLabel) → circuit_of (said_frag m).control ≡ 0
said_circuit m = circuit_is true (call_for (message_of m)).msg 0 (small_said m) (omega arith)

pub links_tell : (s : State) → CallsFit s → InterfacesKeepLimits s → NumbersAreSmall s → (a b : ℕ) (label : Label) (f : Frag)
    → frag_of (calls_between a b s) label ≡ Some f → TellsKind a b s label f
links_tell s fit keep small a b (next_of e k) f q =
    let o = of_link a b s e k f q in
    let fits = small e.binding o.route a b o.number (is_routed s e o.binding o.route o.binding_is o.route_is) o.number_is in
    record {
      binding = o.binding;
      binding_is = o.binding_is;
      route = o.route;
      route_is = o.route_is;
      number = o.number;
      number_is = o.number_is;
      some = fits.0;
      circuit = (carried_on o.number s fits.1 fit keep e k f o.at).1;
    }
links_tell s fit keep small a b (says m) f q =
    let is : said_frag m ≡ f = same_Some (said_frag m) f q in
    (sym is, ap (λ (g : Frag). circuit_of g.control) (sym is) ∙ said_circuit m)
links_tell s fit keep small a b acknowledges f q = sym (same_Some acknowledgement f q)

-- ---- while the state goes on

calls_stay : (circuit : ℕ) (s t : State) → KeepsCalls s t → (e : EndId) (k : ℕ) (f : Frag) → slice_get (calls_on circuit s e) k ≡ Some f
    → slice_get (calls_on circuit t e) k ≡ Some f
calls_stay circuit s t h e k f q =
    let o = of_calls circuit s e k f q in
    let b = h.bindings e o.binding o.binding_is in
    let i : interface_of t b.now ≡ Some o.interface
    = ap (slice_get t.interfaces) b.interface ∙ h.interfaces o.binding.interface o.interface o.interface_is in
    ap (λ (fs : List Frag). slice_get fs k)
    (calls_are circuit t e b.now o.interface b.there i
    ∙ ap (stream circuit o.interface) b.accepted.1
    ∙ stream_append circuit o.interface (end_in e.side o.binding).out.accepted b.accepted.0)
    ∙ get_left (stream circuit o.interface (end_in e.side o.binding).out.accepted) (stream circuit o.interface b.accepted.0) k f o.at

link_calls_stay : (a b : ℕ) (s t : State) → KeepsCalls s t → (e : EndId) (k : ℕ) (f : Frag) → slice_get (calls_between a b s e) k ≡ Some f
    → slice_get (calls_between a b t e) k ≡ Some f
link_calls_stay a b s t h e k f q =
    let o = of_link a b s e k f q in
    let x = h.bindings e o.binding o.binding_is in
    let r = x.numbers o.route o.route_is in
    ap (λ (fs : List Frag). slice_get fs k) (link_calls_are a b t e x.now r.0 o.number x.there r.1 (r.2 a b o.number o.number_is))
    ∙ calls_stay o.number s t h e k f o.at

by_labels : (streams more : Streams) → ((e : EndId) (k : ℕ) (f : Frag) → slice_get (streams e) k ≡ Some f → slice_get (more e) k ≡ Some f) → GoOn streams more
by_labels streams more h (next_of e k) f q = h e k f q
by_labels streams more h (says m) f q = q
by_labels streams more h acknowledges f q = q

pub labels_stay : (s t : State) → KeepsCalls s t → SameFragments s t
labels_stay s t h = record {
  off_links = by_labels (calls_off_links s) (calls_off_links t) (calls_stay 0 s t h);
  between = λ a b. by_labels (calls_between a b s) (calls_between a b t) (link_calls_stay a b s t h);
}
