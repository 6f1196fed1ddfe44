-- Outboxes: what waits for each link.
use Rattle.std.proofs.Common.{◌≡◌, refl, sym, ◌∙◌, ap, subst, ℕ, zero, suc, nat_lt, false, List, [], ◌∷◌, ◌++◌, map, length, drop, slice_get, slice_set, Option, Some, None}
use Rattle.std.proofs.lemmas.Option.{same_Some}
use Rattle.std.proofs.lemmas.List.{map_push, length-map}
use Rattle.fl_base.specs.declared.fragment.Frag.{Frag}
use Rattle.fl_base.specs.Given.{given}
use Rattle.fl_base.specs.Numbered.{link_id}
use Rattle.fl_hop.specs.Table.{TheCircuits, with_link}
use Rattle.fl_monitor.specs.declared.message.MonitorMessage.{MonitorMessage}
use Rattle.fl_monitor.specs.Intermon.{HasWidths}
use Rattle.fl_monitor.specs.Outboxes.{IsFragOf, AreFragsOf}
use Rattle.fl_monitor.specs.Monitors.{TheMonitor, waiting_for}
use Rattle.fl_monitor.specs.Monitors.{can_say as monitor_can_say, IsQueuedMessage as HasSaid}
use Rattle.fl_model.specs.Given.{changed_at}
use Rattle.fl_model.specs.Rings.{MonitorLabel, RingEnd}
use Rattle.fl_model.specs.Monitors.{Link, Core, outbox_room, says_more, with_said, with_circuits}
use Rattle.fl_world_refines.specs.Fragments.{message_of, said_frag}
use Rattle.fl_world_refines.specs.Cores.{OutboxesShow, MonitorShows}
use Rattle.fl_world_refines.specs.FragmentLaws.{MessagesAreSaid}
use Rattle.fl_world_refines.specs.CoreLaws.{SendsFirst, MonitorsBegin}

-- ---- one outbox

one_more : (frags : List Frag) (ms : List MonitorMessage) (f : Frag) (m : MonitorMessage) → AreFragsOf frags ms → IsFragOf f m → AreFragsOf (frags ++ f ∷ []) (ms ++ m ∷ [])
one_more [] [] f m a h = (h, tt)
one_more [] (n ∷ ms) f m a h = absurd a
one_more (g ∷ frags) [] f m a h = absurd a
one_more (g ∷ frags) (n ∷ ms) f m a h = (a.0, one_more frags ms f m a.1 h)

one_less : (frags : List Frag) (outbox : List MonitorLabel) → AreFragsOf frags (map message_of outbox) → AreFragsOf (drop 1 frags) (map message_of (drop 1 outbox))
one_less [] [] a = tt
one_less [] (m ∷ ms) a = absurd a
one_less (f ∷ frags) [] a = absurd a
one_less (f ∷ frags) (m ∷ ms) a = a.1

as_long : (frags : List Frag) (ms : List MonitorMessage) → AreFragsOf frags ms → length frags ≡ length ms
as_long [] [] a = refl
as_long [] (m ∷ ms) a = absurd a
as_long (f ∷ frags) [] a = absurd a
as_long (f ∷ frags) (m ∷ ms) a = ap suc (as_long frags ms a.1)

first_frag : MessagesAreSaid → (frags : List Frag) (outbox : List MonitorLabel) (said : MonitorLabel) → AreFragsOf frags (map message_of outbox)
    → slice_get outbox 0 ≡ Some said → slice_get frags 0 ≡ Some (said_frag said)
first_frag law frags [] said a q = absurd (cc)
first_frag law [] (m ∷ ms) said a q = absurd a
first_frag law (f ∷ frags) (m ∷ ms) said a q =
    let is : IsFragOf f (message_of m) = a.0 in
    let same : m ≡ said = same_Some m said q in
    ap Some ((law m is.widths).written f is ∙ ap said_frag same)

first_widths : (frags : List Frag) (outbox : List MonitorLabel) (said : MonitorLabel) → AreFragsOf frags (map message_of outbox)
    → slice_get outbox 0 ≡ Some said → HasWidths (message_of said)
first_widths frags [] said a q = absurd (cc)
first_widths [] (m ∷ ms) said a q = absurd a
first_widths (f ∷ frags) (m ∷ ms) said a q = subst (λ (n : MonitorLabel). HasWidths (message_of n)) (same_Some m said q) a.0.widths

none_left : (frags : List Frag) (outbox : List MonitorLabel) → AreFragsOf frags (map message_of outbox) → slice_get outbox 0 ≡ None → slice_get frags 0 ≡ None
none_left [] outbox a q = refl
none_left (f ∷ frags) [] a q = absurd a
none_left (f ∷ frags) (m ∷ ms) a q = absurd (cc)

-- ---- all outboxes

pub at_link : (links : List Link) (outboxes : List (List Frag)) (l : ℕ) (link : Link) → OutboxesShow links outboxes → slice_get links l ≡ Some link
    → (frags : List Frag) × (slice_get outboxes l ≡ Some frags) × AreFragsOf frags (map message_of link.outbox)
at_link [] outboxes l link a q = absurd (cc)
at_link (x ∷ links) [] l link a q = absurd a
at_link (x ∷ links) (o ∷ outboxes) zero link a q =
    let same : x ≡ link = same_Some x link q in
    (o, refl, subst (λ (y : Link). AreFragsOf o (map message_of y.outbox)) same a.0)
at_link (x ∷ links) (o ∷ outboxes) (suc l) link a q = at_link links outboxes l link a.1 q

pub at_outbox : (links : List Link) (outboxes : List (List Frag)) (l : ℕ) (frags : List Frag) → OutboxesShow links outboxes → slice_get outboxes l ≡ Some frags
    → (link : Link) × (slice_get links l ≡ Some link) × AreFragsOf frags (map message_of link.outbox)
at_outbox links [] l frags a q = absurd (cc)
at_outbox [] (o ∷ outboxes) l frags a q = absurd a
at_outbox (x ∷ links) (o ∷ outboxes) zero frags a q =
    let same : o ≡ frags = same_Some o frags q in
    (x, refl, subst (λ (fs : List Frag). AreFragsOf fs (map message_of x.outbox)) same a.0)
at_outbox (x ∷ links) (o ∷ outboxes) (suc l) frags a q = at_outbox links outboxes l frags a.1 q

pub set_both : (links : List Link) (outboxes : List (List Frag)) (l : ℕ) (link : Link) (frags : List Frag) → OutboxesShow links outboxes
    → AreFragsOf frags (map message_of link.outbox) → OutboxesShow (slice_set links l link) (slice_set outboxes l frags)
set_both [] [] l link frags a h = tt
set_both [] (o ∷ outboxes) l link frags a h = absurd a
set_both (x ∷ links) [] l link frags a h = absurd a
set_both (x ∷ links) (o ∷ outboxes) zero link frags a h = (h, a.1)
set_both (x ∷ links) (o ∷ outboxes) (suc l) link frags a h = (a.0, set_both links outboxes l link frags a.1 h)

push_both : (links : List Link) (outboxes : List (List Frag)) (ring : RingEnd) → OutboxesShow links outboxes
    → OutboxesShow (links ++ record { ring = ring; outbox = [] } ∷ []) (outboxes ++ [] ∷ [])
push_both [] [] ring a = (tt, tt)
push_both [] (o ∷ outboxes) ring a = absurd a
push_both (x ∷ links) [] ring a = absurd a
push_both (x ∷ links) (o ∷ outboxes) ring a = (a.0, push_both links outboxes ring a.1)

pub same_room : (links : List Link) (outboxes : List (List Frag)) (l : ℕ) → OutboxesShow links outboxes
    → monitor_can_say outboxes l ≡ (given (slice_get links l) false outbox_room)
same_room [] [] l a = refl
same_room [] (o ∷ outboxes) l a = absurd a
same_room (x ∷ links) [] l a = absurd a
same_room (x ∷ links) (o ∷ outboxes) zero a =
    ap (λ (n : ℕ). nat_lt n 64) (as_long o (map message_of x.outbox) a.0 ∙ length-map x.outbox message_of)
same_room (x ∷ links) (o ∷ outboxes) (suc l) a = same_room links outboxes l a.1

-- ---- the first message is sent

changed_is : (links : List Link) (l : ℕ) (f : Link → Link) (link : Link) → slice_get links l ≡ Some link → changed_at l f links ≡ slice_set links l (f link)
changed_is links l f link q = ap (λ (o : Option Link). given o links λ x. slice_set links l (f x)) q

waits_is : (outboxes : List (List Frag)) (l : ℕ) (frags : List Frag) → slice_get outboxes l ≡ Some frags → waiting_for outboxes l ≡ frags
waits_is outboxes l frags q = ap (λ (o : Option (List Frag)). given o [] λ outbox. outbox) q

pub sends_first : MessagesAreSaid → (l : ℕ) (link : Link) (k : Core) (m : TheMonitor) → MonitorShows k m → slice_get k.links l ≡ Some link → SendsFirst l link k m
sends_first law l link k m h q =
    let at = at_link k.links m.outboxes l link h.outboxes q in
    let waits : waiting_for m.outboxes l ≡ at.0 = waits_is m.outboxes l at.0 at.1 in
    record {
      next = λ said r. ap (λ (fs : List Frag). slice_get fs 0) waits ∙ first_frag law at.0 link.outbox said at.2 r;
      widths = λ said r. first_widths at.0 link.outbox said at.2 r;
      none = λ r. ap (λ (fs : List Frag). slice_get fs 0) waits ∙ none_left at.0 link.outbox at.2 r;
      gone = record {
        circuits = h.circuits;
        outboxes =
            subst (λ (ls : List Link). OutboxesShow ls (slice_set m.outboxes l (drop 1 (waiting_for m.outboxes l))))
            (sym (changed_is k.links l (λ (x : Link). record x { outbox = drop 1 x.outbox }) link q))
            (subst (λ (fs : List Frag). OutboxesShow (slice_set k.links l (record link { outbox = drop 1 link.outbox })) (slice_set m.outboxes l (drop 1 fs))) (sym waits)
            (set_both k.links m.outboxes l (record link { outbox = drop 1 link.outbox }) (drop 1 at.0) h.outboxes (one_less at.0 link.outbox at.2)));
      };
    }

pub monitors_begin : MonitorsBegin
monitors_begin = record {
  fresh = λ core. record { circuits = refl; outboxes = tt };
  linked = λ k m neighbour ring h. record {
    circuits = ap (λ (t : TheCircuits). with_link t neighbour) h.circuits;
    outboxes = push_both k.links m.outboxes ring h.outboxes;
  };
}

-- ---- one message more is to be said

pub said_shows : (l : ℕ) (said : MonitorLabel) (t : TheCircuits) (k : Core) (before after : TheMonitor) → MonitorShows k before
    → HasSaid (record { link = link_id l; message = message_of said }) before.outboxes after.outboxes → after.circuits ≡ t
    → MonitorShows (with_said l said (with_circuits t k)) after
said_shows l said t k before after h a e =
    let at = at_outbox k.links before.outboxes l a.outbox h.outboxes a.there in
    let link = at.0 in
    let more : AreFragsOf (a.outbox ++ a.frag ∷ []) (map message_of (at.0.outbox ++ said ∷ []))
    = subst (AreFragsOf (a.outbox ++ a.frag ∷ [])) (sym (map_push message_of at.0.outbox said))
    (one_more a.outbox (map message_of at.0.outbox) a.frag (message_of said) at.2 a.is) in
    record {
      circuits = e;
      outboxes =
          subst (λ (ls : List Link). OutboxesShow ls after.outboxes) (sym (changed_is k.links l (says_more said) at.0 at.1))
          (subst (OutboxesShow (slice_set k.links l (says_more said at.0))) (sym a.more)
          (set_both k.links before.outboxes l (says_more said at.0) (a.outbox ++ a.frag ∷ []) h.outboxes more));
    }
