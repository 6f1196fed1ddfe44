-- An end with a call of one fragment in transmission.
use Rattle.std.proofs.Common.{◌≡◌, ℕ, ◌+◌, ◌<◌, ◌≤◌, ◌==◌, ◌&&◌, Bool, true, false, List, [], ◌∷◌, ◌++◌, length, Option, Some, None, Result, Ok, Err, refl, sym, ap, subst, ◌∙◌, arith, length-append}
use Rattle.std.specs.Prelude.{IsSome, IsSomeAnd, slice_get}
use Rattle.std.specs.Option.{option_map}
use Rattle.std.specs.Cmp.{second_so}
use Rattle.std.proofs.lemmas.Bool.{eqb-true, ne_eqb}
use Rattle.fl_base.specs.declared.fragment.Frag.{Frag}
use Rattle.fl_base.specs.Control.{bare}
use Rattle.fl_interface.specs.Limits.{is_within_limits}
use Rattle.fl_value_data.specs.Value.{TheCall, call_of}
use Rattle.fl_value_data.specs.Fits.{fits_of}
use Rattle.fl_link.specs.Looks.{Look, placed, no_room, spent}
use Rattle.fl_ring.specs.SharedSides.{TheSide, SharedPuts}
use Rattle.fl_machine.specs.Reassembling.{TheReassembly}
use Rattle.fl_compile.specs.declared.program.Program.{Program}
use Rattle.fl_compile.specs.Programs.{TheProgram, program_of}
use Rattle.fl_codec.specs.declared.codec.Codec.{Codec}
use Rattle.fl_c_operations.specs.declared.transmitting.Sent.TheVariants.{PutNow, NoRoom, RingSpent}
use Rattle.fl_endpoint.specs.declared.answer.ReceiveAnswer.{ReceiveAnswer}
use Rattle.fl_endpoint.specs.declared.answer.ReceiveAnswer.TheVariants.{Handle, Part, Quiet, Empty, HeldBack}
use Rattle.fl_endpoint.specs.declared.fault.EndFault.{EndFault}
use Rattle.fl_endpoint.specs.declared.fault.EndFault.TheVariants.{Spent, Busy, UnknownMessage, Misfit, NotBound, Failed, Wire, Memory}
use Rattle.fl_endpoint.specs.View.{TheOutgoing, TheEnd, interface_in, frags_from, has_rules, rule_at, reply_to, holds_back, are_some, begun, goes_on, queued_behind, queued, queued_if, with_handled, with_parts}
use Rattle.fl_endpoint.specs.Events.{IsReady, IsOpen, AreCall, Calls, Receives, SetsRule}
use Rattle.fl_endpoint.specs.Lent.{IsOf, IsPlaceOf, receipt, ReceivesAt}
use Rattle.fl_endpoint.specs.Accounts.{Sound}
use Rattle.fl_endpoint.specs.Stored.{IsOwn}
use Rattle.fl_c_operations.proofs.Sent.{some_frags, idle_end, has_room, standing}
use Rattle.fl_c_operations.specs.Codecs.{AreCodecs}
use Rattle.fl_codec.specs.NumberPlaces.{has_few_numbers}
use Rattle.fl_c_operations.specs.Shorts.{IsOfFew, IsFragOfTape, AreNoShorts}
use Rattle.fl_c_operations.proofs.Shorts.{message_told}
use Rattle.fl_c_operations.specs.Transmissions.{calls_left, all_of, with_outgoing, transmitting_frag, transmitting, Transmits, MayTransmit, holds_all, IsFragFrom, IsShortAt, IsNoShortAt, SendsOne}

-- ---- what is to be sent

-- nothing waits where nothing is in transmission
abbrev pub WaitsBehind : TheOutgoing → Type 0
WaitsBehind o = o.unwritten ≡ [] → o.waiting ≡ []

pub sound_waits : (s : TheEnd) → Sound s → WaitsBehind s.outgoing
sound_waits s sound idle = ap (λ (o : TheOutgoing). o.waiting) (idle_end s sound idle)

begins_at : (us : List Frag) (o : TheOutgoing) (f : Frag) → us ≡ [] → queued_behind us o (f ∷ []) ≡ begun (f ∷ []) (calls_left us o.waiting)
begins_at [] o f e = refl
begins_at (u ∷ us) o f e = absurd (cc)

-- one more waits behind all others
queued_at : (us : List Frag) (o : TheOutgoing) (g : Frag) (gs : List Frag) → o.unwritten ≡ us → (us ≡ [] → o.waiting ≡ [])
    → calls_left us o.waiting ++ (g ∷ gs) ∷ [] ≡ all_of (queued_behind us o (g ∷ gs))
queued_at [] o g gs e none =
    ap (λ (ws : List (List Frag)). ws ++ (g ∷ gs) ∷ []) (none refl) ∙ sym (ap (λ (ws : List (List Frag)). (g ∷ gs) ∷ ws) (none refl))
queued_at (u ∷ us) o g gs e none = sym (ap (λ (vs : List Frag). calls_left vs (o.waiting ++ (g ∷ gs) ∷ [])) e)

all_queued : (o : TheOutgoing) (gs : List Frag) → 0 < length gs → WaitsBehind o → all_of o ++ gs ∷ [] ≡ all_of (queued o gs)
all_queued o [] some none = absurd (omega (arith, some))
all_queued o (g ∷ gs) some none = queued_at o.unwritten o g gs refl none

-- with what waits behind the call in transmission, as it was before
abbrev with_waiting : List (List Frag) → TheOutgoing → TheOutgoing
with_waiting ws o = record { unwritten = o.unwritten; count = o.count; waiting = ws }

goes_at : (us : List Frag) (o : TheOutgoing) (g : Frag) (gs : List Frag) → o.unwritten ≡ us → goes_on (calls_left us o.waiting) ≡ o
    → goes_on (all_of (queued_behind us o (g ∷ gs))) ≡ queued_behind us o (g ∷ gs)
goes_at [] o g gs e goes = refl
goes_at (u ∷ us) o g gs e goes =
    let ws = o.waiting ++ (g ∷ gs) ∷ [] in
    ap (λ (vs : List Frag). goes_on (calls_left vs ws)) e ∙ ap (with_waiting ws) goes

goes_queued : (o : TheOutgoing) (gs : List Frag) → 0 < length gs → goes_on (all_of o) ≡ o → goes_on (all_of (queued o gs)) ≡ queued o gs
goes_queued o [] some goes = absurd (omega (arith, some))
goes_queued o (g ∷ gs) some goes = goes_at o.unwritten o g gs refl goes

-- ---- a call of one fragment is made

-- that is how a call of one fragment is made
pub calls_transmitting : (s : TheEnd) (f : Frag) (c : TheCall) → IsReady s → s.outgoing.unwritten ≡ [] → fits_of (interface_in s) c ≡ true → frags_from s c ≡ f ∷ []
    → Calls s c (Ok tt) (transmitting_frag f s)
calls_transmitting s f c ready idle fits frags =
    let queues : begun (f ∷ []) (all_of s.outgoing) ≡ queued s.outgoing (frags_from s c)
    = sym (begins_at s.outgoing.unwritten s.outgoing f idle) ∙ ap (λ (fs : List Frag). queued s.outgoing fs) (sym frags) in
    (fits, ready, idle, ap (with_outgoing s) queues)

pub transmits_new : (s : TheEnd) (f : Frag) → Sound s → IsOwn f → IsReady s → s.outgoing.unwritten ≡ [] → Transmits f s
transmits_new s f sound own ready idle =
    let nothing = idle_end s sound idle in
    record {
      own = own;
      bound = ready.0;
      goes = subst (λ (o : TheOutgoing). goes_on (all_of o) ≡ o) (sym nothing) refl;
      few = subst (λ (o : TheOutgoing). length (all_of o) ≤ 16) (sym nothing) (omega arith);
    }

-- it stays there where the end sends what it sent
pub transmits_kept : (f : Frag) (s t : TheEnd) → t.circuit ≡ s.circuit → t.outgoing ≡ s.outgoing → Transmits f s → Transmits f t
transmits_kept f s t c o h = record {
  own = h.own;
  bound = subst (λ (k : Option ℕ). IsSome k) (sym c) h.bound;
  goes = subst (λ (x : TheOutgoing). goes_on (all_of x) ≡ x) (sym o) h.goes;
  few = subst (λ (x : TheOutgoing). length (all_of x) ≤ 16) (sym o) h.few;
}

pub transmits_still : (p : Option Frag) (s t : TheEnd) → t.circuit ≡ s.circuit → t.outgoing ≡ s.outgoing → MayTransmit p s → MayTransmit p t
transmits_still None s t c o h = tt
transmits_still (Some f) s t c o h = transmits_kept f s t c o h

-- the numbers of a call
pub short_transmitting : (p : Option Frag) (s : TheEnd) (numbers : List ℕ) (f : Frag) → IsFragFrom s numbers f → IsFragFrom (transmitting p s) numbers f
short_transmitting None s numbers f h = h
short_transmitting (Some g) s numbers f h = h

pub no_numbers_transmitting : (p : Option Frag) (s : TheEnd) (numbers : List ℕ) → AreNoShorts (program_of s.program) numbers → AreNoShorts (program_of (transmitting p s).program) numbers
no_numbers_transmitting None s numbers h = h
no_numbers_transmitting (Some f) s numbers h = h

-- ---- a rule is set

pub rules_transmitting : (p : Option Frag) (s t : TheEnd) (msg reply : ℕ) (r : Result (Unit {0}) EndFault) → SetsRule s msg reply r t → SetsRule (transmitting p s) msg reply r (transmitting p t)
rules_transmitting None s t msg reply r h = h
rules_transmitting (Some f) s t msg reply (Ok done) h = (h.0, h.1, h.2, ap (transmitting_frag f) h.3)
rules_transmitting (Some f) s t msg reply (Err UnknownMessage) h = (h.0, ap (transmitting_frag f) h.1)
rules_transmitting (Some f) s t msg reply (Err Misfit) h = (h.0, h.1, h.2, ap (transmitting_frag f) h.3)
rules_transmitting (Some f) s t msg reply (Err Spent) h = absurd h
rules_transmitting (Some f) s t msg reply (Err Busy) h = absurd h
rules_transmitting (Some f) s t msg reply (Err NotBound) h = absurd h
rules_transmitting (Some f) s t msg reply (Err Failed) h = absurd h
rules_transmitting (Some f) s t msg reply (Err (Wire fault)) h = absurd h
rules_transmitting (Some f) s t msg reply (Err Memory) h = absurd h

pub rules_keep : (s t : TheEnd) (msg reply : ℕ) (r : Result (Unit {0}) EndFault) → SetsRule s msg reply r t → (t.circuit ≡ s.circuit) × (t.outgoing ≡ s.outgoing)
rules_keep s t msg reply (Ok done) h = (ap (λ (x : TheEnd). x.circuit) h.3, ap (λ (x : TheEnd). x.outgoing) h.3)
rules_keep s t msg reply (Err UnknownMessage) h = (ap (λ (x : TheEnd). x.circuit) h.1, ap (λ (x : TheEnd). x.outgoing) h.1)
rules_keep s t msg reply (Err Misfit) h = (ap (λ (x : TheEnd). x.circuit) h.3, ap (λ (x : TheEnd). x.outgoing) h.3)
rules_keep s t msg reply (Err Spent) h = absurd h
rules_keep s t msg reply (Err Busy) h = absurd h
rules_keep s t msg reply (Err NotBound) h = absurd h
rules_keep s t msg reply (Err Failed) h = absurd h
rules_keep s t msg reply (Err (Wire fault)) h = absurd h
rules_keep s t msg reply (Err Memory) h = absurd h

pub program_transmitting : (p : Option Frag) (s : TheEnd) → (transmitting p s).program ≡ s.program
program_transmitting None s = refl
program_transmitting (Some f) s = refl

-- ---- a call is handled meanwhile

-- the end between two calls, with a fragment in transmission before these
abbrev emptied_with : Frag → TheEnd → List (List Frag) → TheEnd
emptied_with f s ws = record s { parts = []; outgoing = begun (f ∷ []) ws }

handled_at : (f : Frag) (s : TheEnd) (reply : Option TheCall) → WaitsBehind s.outgoing
    → transmitting_frag f (record s { parts = []; outgoing = queued_if s.outgoing (option_map (frags_from s) reply) })
    ≡ record s { parts = []; outgoing = queued_if (begun (f ∷ []) (all_of s.outgoing)) (option_map (frags_from (transmitting_frag f s)) reply) }
handled_at f s None none = refl
handled_at f s (Some d) none = ap (emptied_with f s) (sym (all_queued s.outgoing (frags_from s d) (some_frags s d) none))

handled_transmitting : (f : Frag) (s : TheEnd) (c : TheCall) → WaitsBehind s.outgoing → transmitting_frag f (with_handled s c) ≡ with_handled (transmitting_frag f s) c
handled_transmitting f s c none = handled_at f s (reply_to s.rules c) none

transmits_ruled : (f : Frag) (s : TheEnd) (c : TheCall) (rule : Option ℕ) → rule_at s.rules c.msg ≡ rule → WaitsBehind s.outgoing → Transmits f s → holds_all s ≡ false
    → Transmits f (record s { parts = []; outgoing = queued_if s.outgoing (option_map (frags_from s) (option_map (λ (reply : ℕ). record { msg = reply; args = c.args }) rule)) })
transmits_ruled f s c None is none h held = record { own = h.own; bound = h.bound; goes = h.goes; few = h.few }
transmits_ruled f s c (Some reply) is none h held =
    let d : TheCall = record { msg = reply; args = c.args } in
    let gs = frags_from s d in
    let some = some_frags s d in
    let room : length (all_of s.outgoing) < 16 = has_room (transmitting_frag f s) reply c.msg is held h.few in
    let long = length-append (all_of s.outgoing) (gs ∷ []) in
    record {
      own = h.own;
      bound = h.bound;
      goes = goes_queued s.outgoing gs some h.goes;
      few = subst (λ (ws : List (List Frag)). length ws ≤ 16) (all_queued s.outgoing gs some none) (omega (arith, room, long));
    }

transmits_handled : (f : Frag) (s : TheEnd) (c : TheCall) → WaitsBehind s.outgoing → Transmits f s → holds_all s ≡ false → Transmits f (with_handled s c)
transmits_handled f s c none h held = transmits_ruled f s c (rule_at s.rules c.msg) refl none h held

-- ---- a fragment is taken meanwhile

are_transmitting : (f : Frag) (s : TheEnd) (frags : List Frag) (c : TheCall) → AreCall s frags c → AreCall (transmitting_frag f s) frags c
are_transmitting f s frags c h = record { fits = h.fits; mean = h.mean; only = h.only }

-- an end that holds back has a call more than may wait behind the one in transmission
not_full : (us : List Frag) (ws : List (List Frag)) → (us ≡ [] → ws ≡ []) → length (calls_left us ws) ≤ 16 → length ws ≡ 16 → ⊥
not_full [] ws none few full = let zero : length ws ≡ 0 = ap length (none refl) in omega (arith, zero, full)
not_full (u ∷ us) ws none few full = omega (arith, few, full)

not_held : (s : TheEnd) → WaitsBehind s.outgoing → length (all_of s.outgoing) ≤ 16 → holds_back s ≡ true → ⊥
not_held s none few held =
    not_full s.outgoing.unwritten s.outgoing.waiting none few (eqb-true (length s.outgoing.waiting) 16 (second_so (has_rules s.rules) _ held))

module _ {T : Type 0} (takes : T → Look → T → Type 0) (f : Frag) (p q : T) where
  receives_transmitting : (s t : TheEnd) (r : Result ReceiveAnswer EndFault) → WaitsBehind s.outgoing → Transmits f s → holds_all s ≡ false → Receives takes s p r t q
      → Receives takes (transmitting_frag f s) p r (transmitting_frag f t) q × Transmits f t
  receives_transmitting s t (Ok (Handle call)) none transmits held (opened, (g, m, is, sees, gets, (are, t_is))) = (
    ((opened.0, held), (g, m, is, sees, gets, (are_transmitting f s (s.parts ++ g ∷ []) (call_of call) are, ap (transmitting_frag f) t_is ∙ handled_transmitting f s (call_of call) none))),
    subst (λ (x : TheEnd). Transmits f x) (sym t_is) (transmits_handled f s (call_of call) none transmits held),
  )
  receives_transmitting s t (Ok Part) none transmits held (opened, (g, m, is, sees, gets, (part, t_is))) = (
    ((opened.0, held), (g, m, is, sees, gets, (part, ap (transmitting_frag f) t_is))),
    transmits_kept f s t (ap (λ (x : TheEnd). x.circuit) t_is) (ap (λ (x : TheEnd). x.outgoing) t_is) transmits,
  )
  receives_transmitting s t (Ok Quiet) none transmits held (opened, looks, t_is) = (
    ((opened.0, held), looks, ap (transmitting_frag f) t_is),
    transmits_kept f s t (ap (λ (x : TheEnd). x.circuit) t_is) (ap (λ (x : TheEnd). x.outgoing) t_is) transmits,
  )
  receives_transmitting s t (Ok Empty) none transmits held (opened, looks, t_is) = (
    ((opened.0, held), looks, ap (transmitting_frag f) t_is),
    transmits_kept f s t (ap (λ (x : TheEnd). x.circuit) t_is) (ap (λ (x : TheEnd). x.outgoing) t_is) transmits,
  )
  receives_transmitting s t (Ok HeldBack) none transmits held h = absurd (not_held s none transmits.few h.1)
  receives_transmitting s t (Err (Wire fault)) none transmits held (opened, (g, is, sees, (refused, t_is))) = (
    ((opened.0, held), (g, is, sees, (refused, ap (transmitting_frag f) t_is))),
    transmits_kept f s t (ap (λ (x : TheEnd). x.circuit) t_is) (ap (λ (x : TheEnd). x.outgoing) t_is) transmits,
  )
  receives_transmitting s t (Err Memory) none transmits held (opened, (g, is, sees, ((c, are), t_is))) = (
    ((opened.0, held), (g, is, sees, ((c, are_transmitting f s (s.parts ++ g ∷ []) c are), ap (transmitting_frag f) t_is))),
    transmits_kept f s t (ap (λ (x : TheEnd). x.circuit) t_is) (ap (λ (x : TheEnd). x.outgoing) t_is) transmits,
  )
  receives_transmitting s t (Err NotBound) none transmits held (unbound, looks, t_is) = (
    (unbound, looks, ap (transmitting_frag f) t_is),
    transmits_kept f s t (ap (λ (x : TheEnd). x.circuit) t_is) (ap (λ (x : TheEnd). x.outgoing) t_is) transmits,
  )
  receives_transmitting s t (Err Failed) none transmits held (failed, looks, t_is) = (
    (failed, looks, ap (transmitting_frag f) t_is),
    transmits_kept f s t (ap (λ (x : TheEnd). x.circuit) t_is) (ap (λ (x : TheEnd). x.outgoing) t_is) transmits,
  )
  receives_transmitting s t (Err Spent) none transmits held h = absurd h
  receives_transmitting s t (Err Busy) none transmits held h = absurd h
  receives_transmitting s t (Err UnknownMessage) none transmits held h = absurd h
  receives_transmitting s t (Err Misfit) none transmits held h = absurd h

  -- the same at the end's place
  module _ (s t : TheEnd) (r : Result ReceiveAnswer EndFault) (none : WaitsBehind s.outgoing) (transmits : Transmits f s) (held : holds_all s ≡ false) (calls : List TheReassembly) (place : ℕ) (after : List TheReassembly)
      (h : ReceivesAt takes (receipt s p r t q) calls place after) where
    both : Receives takes (transmitting_frag f (with_parts s h.was.parts)) p r (transmitting_frag f (with_parts t h.is.parts)) q × Transmits f (with_parts t h.is.parts)
    both = receives_transmitting (with_parts s h.was.parts) (with_parts t h.is.parts) r none (transmits_kept f s (with_parts s h.was.parts) refl refl transmits) held h.event.receives

    pub received_at : ReceivesAt takes (receipt (transmitting_frag f s) p r (transmitting_frag f t) q) calls place after
    received_at = record {
      was = h.was;
      was_there = h.was_there;
      is = h.is;
      event = record {
        of = record { program = h.event.of.program; are_bare = h.event.of.are_bare };
        program = h.event.program;
        receives = both.0;
      };
      after_is = h.after_is;
    }

    pub transmits_after : Transmits f t
    transmits_after = transmits_kept f (with_parts t h.is.parts) t refl refl both.1

-- ---- the place

weaker_at : (o : Option TheReassembly) (P Q : TheReassembly → Type 0) → ((r : TheReassembly) → P r → Q r) → IsSomeAnd o P → IsSomeAnd o Q
weaker_at None P Q f h = absurd h
weaker_at (Some r) P Q f h = f r h

-- a place of the same program
pub place_as : (s t : TheEnd) (calls : List TheReassembly) (place : ℕ) → s.program ≡ t.program → IsPlaceOf s calls place → IsPlaceOf t calls place
place_as s t calls place e h =
    weaker_at (slice_get calls place) (λ r. IsOf s r) (λ r. IsOf t r) (λ r of. record { program = of.program ∙ ap program_of e; are_bare = of.are_bare }) h

-- ---- the codecs

pub coded_as : (s t : TheEnd) (codecs : List (Option Codec)) → t.program ≡ s.program → AreCodecs (program_of s.program) codecs → AreCodecs (program_of t.program) codecs
coded_as s t codecs e h = subst (λ (p : Program). AreCodecs (program_of p) codecs) (sym e) h

some_told : (a b : TheReassembly) → Some a ≡ Some b → a ≡ b
some_told a b e = cc

-- an end that receives keeps its program, which its place has
pub coded_after : {T : Type 0} (takes : T → Look → T → Type 0) (s t : TheEnd) (p q : T) (r : Result ReceiveAnswer EndFault) (calls : List TheReassembly) (place : ℕ) (after : List TheReassembly)
    (codecs : List (Option Codec)) → IsPlaceOf s calls place → ReceivesAt takes (receipt s p r t q) calls place after → AreCodecs (program_of s.program) codecs → AreCodecs (program_of t.program) codecs
coded_after takes s t p q r calls place after codecs known h coded =
    let (was, there, of) = standing s (slice_get calls place) known in
    let same : h.was ≡ was = some_told h.was was (sym h.was_there ∙ there) in
    let kept : program_of t.program ≡ program_of s.program
    = sym h.event.of.program ∙ ap program_of h.event.program ∙ ap (λ (x : TheReassembly). program_of x.program) same ∙ of.program in
    subst (λ (x : TheProgram). AreCodecs x codecs) (sym kept) coded

-- ---- the fragment in transmission is put

-- then the end has what it has to send, and no more
pub wrote_transmitting : (f : Frag) (s : TheEnd) → Transmits f s → s ≡ with_outgoing s (goes_on (all_of s.outgoing))
wrote_transmitting f s h = sym (ap (with_outgoing s) h.goes)

-- a call of one fragment that is made and put at once
pub sends_at_once : (s : TheEnd) (f : Frag) (c : TheCall) (p q : TheSide) → Sound s → IsOwn f → IsReady s → s.outgoing.unwritten ≡ [] → fits_of (interface_in s) c ≡ true → frags_from s c ≡ f ∷ []
    → SharedPuts p (placed (bare f)) q → SendsOne s p c (Ok PutNow) s q
sends_at_once s f c p q sound own ready idle fits frags puts =
    let put = subst (λ (x : Frag). SharedPuts p (placed x) q) own.bare_is puts in
    let one : 1 + 0 ≡ 1 = omega arith in
    (transmitting_frag f s, calls_transmitting s f c ready idle fits frags, ((ready.0, ready.1), (f, [], refl, refl, one, put, wrote_transmitting f s (transmits_new s f sound own ready idle))))

-- one that is made and not put: there is no room, or the ring is spent
pub sends_none : (s : TheEnd) (f : Frag) (c : TheCall) (p q : TheSide) → IsReady s → s.outgoing.unwritten ≡ [] → fits_of (interface_in s) c ≡ true → frags_from s c ≡ f ∷ []
    → SharedPuts p no_room q → SendsOne s p c (Ok NoRoom) (transmitting_frag f s) q
sends_none s f c p q ready idle fits frags puts =
    (transmitting_frag f s, calls_transmitting s f c ready idle fits frags, ((ready.0, ready.1), (λ e. absurd (cc)), puts, refl))

pub sends_spent : (s : TheEnd) (f : Frag) (c : TheCall) (p q : TheSide) → IsReady s → s.outgoing.unwritten ≡ [] → fits_of (interface_in s) c ≡ true → frags_from s c ≡ f ∷ []
    → SharedPuts p spent q → SendsOne s p c (Ok RingSpent) (transmitting_frag f s) q
sends_spent s f c p q ready idle fits frags puts =
    (transmitting_frag f s, calls_transmitting s f c ready idle fits frags, ((ready.0, ready.1), (λ e. absurd (cc)), puts, refl))

-- ---- how many calls are to be sent

pub all_busy : (us : List Frag) (ws : List (List Frag)) → true ≡ are_some us → length ws + 1 ≡ length (calls_left us ws)
all_busy [] ws e = absurd (cc)
all_busy (u ∷ us) ws e = omega arith

pub all_idle : (us : List Frag) (ws : List (List Frag)) → false ≡ are_some us → length ws ≡ length (calls_left us ws)
all_idle [] ws e = refl
all_idle (u ∷ us) ws e = absurd (cc)

pub and_true : (b c : Bool) → c ≡ true → b ≡ (b && c)
and_true true c e = sym e
and_true false c e = refl

pub and_false : (b c : Bool) → c ≡ false → false ≡ (b && c)
and_false true c e = sym e
and_false false c e = refl

-- ---- what is in transmission

pub none_is : (p : Option Frag) (s : TheEnd) → p ≡ None → s ≡ transmitting p s
none_is p s e = ap (λ (q : Option Frag). transmitting q s) (sym e)

pub some_is : (p : Option Frag) (f : Frag) (s : TheEnd) → p ≡ Some f → transmitting_frag f s ≡ transmitting p s
some_is p f s e = ap (λ (q : Option Frag). transmitting q s) (sym e)

pub transmits_is : (p : Option Frag) (f : Frag) (s : TheEnd) → p ≡ Some f → MayTransmit p s → Transmits f s
transmits_is p f s e h = subst (λ (q : Option Frag). MayTransmit q s) e h

pub transmits_at : (p : Option Frag) (f : Frag) (s : TheEnd) → p ≡ Some f → Transmits f s → MayTransmit p s
transmits_at p f s e h = subst (λ (q : Option Frag). MayTransmit q s) (sym e) h

pub transmits_none : (p : Option Frag) (s : TheEnd) → p ≡ None → MayTransmit p s
transmits_none p s e = subst (λ (q : Option Frag). MayTransmit q s) (sym e) tt

-- ---- an end that takes fragments

-- a short call that an end may take may be taken while a call of one fragment is in transmission
pub taken_transmitting : (p : Option Frag) (s : TheEnd) (msg : ℕ) (tape : List ℕ) (f : Frag) → IsShortAt s msg tape f → IsShortAt (transmitting p s) msg tape f
taken_transmitting None s msg tape f h = h
taken_transmitting (Some g) s msg tape f h = record { short = h.short; rule = h.rule; words = h.words }

-- a fragment that is no such call's
pub no_short_transmitting : (p : Option Frag) (s : TheEnd) (f : Frag) → IsNoShortAt s f → IsNoShortAt (transmitting p s) f
no_short_transmitting None s f h = h
no_short_transmitting (Some g) s f h = h

-- there is a reply to the call by rule
pub ruled : (s : TheEnd) (f : Frag) (msg reply : ℕ) (tape : List ℕ) → is_within_limits (interface_in s) ≡ true
    → has_few_numbers (slice_get (interface_in s).messages msg) ≡ true → IsFragOfTape (program_of s.program) 0 msg tape (bare f) → Some reply ≡ rule_at s.rules msg → IsNoShortAt s (bare f)
ruled s f msg reply tape within few (e, has, only) rule d fits of_few same none =
    let x = program_of s.program in
    let few_too : IsOfFew x e = subst (λ (n : ℕ). has_few_numbers (slice_get (interface_in s).messages n) ≡ true) (sym has.message) few in
    let at : d.msg ≡ msg = sym (message_told x d f within fits of_few same) ∙ message_told x e f within has.fits few_too only ∙ has.message in
    let gone : Some reply ≡ None = rule ∙ ap (rule_at s.rules) (sym at) ∙ none in
    absurd (cc)

more_than : (us : List Frag) (ws : List (List Frag)) → length (calls_left us ws) ≤ length ws + 1
more_than [] ws = omega arith
more_than (u ∷ us) ws = omega arith

few_open : (b : Bool) (n : ℕ) → n < 16 → (b && (n == 16)) ≡ false
few_open false n h = refl
few_open true n h = ne_eqb n 16 (λ e. omega (arith, h, e))

pub opens : (p : Option Frag) (s : TheEnd) → IsReady s → length s.outgoing.waiting < 15 → IsOpen (transmitting p s)
opens None s ready few = (ready, few_open (has_rules s.rules) (length s.outgoing.waiting) (omega (arith, few)))
opens (Some f) s ready few =
    (ready, few_open (has_rules s.rules) (length (all_of s.outgoing)) (omega (arith, few, more_than s.outgoing.unwritten s.outgoing.waiting)))
