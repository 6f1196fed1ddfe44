-- Ends: what an event makes of an end is what the machine makes of the end that it shows.
use Rattle.std.proofs.Common.{◌≡◌, ◌≢◌, inl, inr, refl, sym, ◌∙◌, ap, subst, ℕ, zero, suc, ◌+◌, ◌-◌, ◌≤◌, true, false, List, [], ◌∷◌, ◌++◌, length, map, take, drop, slice_get, Option, Some, None, append_assoc, arith}
use Rattle.std.specs.Prelude.{Result, Ok, Err}
use Rattle.std.specs.List.{flat_map}
use Rattle.std.proofs.lemmas.List.{append-nil, length-append, length-map, length_push, map-append, take_at}
use Rattle.std.proofs.lemmas.List.Elements.{All-push}
use Rattle.std.proofs.lemmas.Grind.{flat_map-append}
use Rattle.std.proofs.lemmas.Option.{slice_get_past}
use Rattle.fl_base.specs.declared.fragment.Frag.{Frag}
use Rattle.fl_base.specs.Control.{bare}
use Rattle.fl_base.specs.Given.{given}
use Rattle.fl_value_data.specs.declared.value.Call.{Call}
use Rattle.fl_value_data.specs.Value.{TheCall, call_of}
use Rattle.fl_value_data.specs.Fits.{fits_of}
use Rattle.fl_wire.specs.declared.fault.WireFault.{WireFault}
use Rattle.fl_wire.specs.Payload.{frags_of, frags_on}
use Rattle.fl_wire.specs.Reading.{IsPart, Reads}
use Rattle.fl_machine.specs.Receiving.{IsRefused}
use Rattle.fl_link.specs.Looks.{Look, placed, no_room, spent}
use Rattle.fl_endpoint.specs.declared.fault.EndFault.{EndFault}
use Rattle.fl_endpoint.specs.declared.fault.EndFault.TheVariants.{Spent, Busy, UnknownMessage, Misfit, NotBound, Failed, Wire, Memory}
use Rattle.fl_endpoint.specs.declared.answer.WriteAnswer.{WriteAnswer}
use Rattle.fl_endpoint.specs.declared.answer.WriteAnswer.TheVariants as write
use Rattle.fl_endpoint.specs.declared.answer.ReceiveAnswer.TheVariants as receive
use Rattle.fl_endpoint.specs.View.{TheEnd, TheOutgoing, holds_back as end_holds_back}
use Rattle.fl_endpoint.specs.Events.{Calls as EndCalls, Writes as EndWrites, SetsRule as EndSets, TakesIn, AreCall, IsReady}
use Rattle.fl_endpoint.specs.Accounts.{Sound}
use Rattle.fl_model.specs.Calls.{Planned, fragments, total, whole_in, stream}
use Rattle.fl_model.specs.Rings.{Label, there_is_room}
use Rattle.fl_model.specs.Ends.{Direction, taken_of, accepts, writes, End, is_bound, holds_back, with_rule as machine_rule, Taken, whole, a_part, takes_one, handled, comes_to, replies}
use Rattle.fl_model.specs.SoundCalls.{AllFit}
use Rattle.fl_world_refines.specs.Ends.{circuit_of, parts_of, EndShows, MachineEnd}
use Rattle.fl_world_refines.specs.EndLaws.{with_out, TakeShows}
use Rattle.fl_world_refines.proofs.Streams.{length_frags, length_stream, whole_append, whole_short, whole_one}
use Rattle.fl_world_refines.proofs.EndCalling.{idle_is, bound_is, unbound_is, call_agrees, write_agrees}
use Rattle.fl_world_refines.proofs.Taking.{taken_grows}
use Rattle.fl_world_refines.proofs.Receiving.{holds_is}
use Rattle.fl_world_refines.proofs.Rules.{rule_agrees}
use Rattle.fl_core_refines.specs.CutSides.{PutOutcome, goes_on, is_full, is_spent}
use Rattle.fl_core_refines.specs.CutEnds.{EndCut, ShowsEnd, Calls, SetsRule, Writes, wrote_next, next_label, Takes, Fails}
use Rattle.fl_core_refines.proofs.Counted.{Counts, written_counts, called_counts, replied_counts, replied_seat, exit_stays}

-- ---- what it is to send is told by the machine's end, whatever it took

-- of what the other end sends nothing
abbrev nothing_known : Direction
nothing_known = record { accepted = []; waiting = []; passed = [] }

abbrev machine_of : EndCut → MachineEnd
machine_of x = record { interface = x.planned; end = x.end; peer = nothing_known }

abbrev plain : TheEnd → TheEnd
plain s = record s { parts = []; failed = false }

plainly : (x : EndCut) (s : TheEnd) → ShowsEnd x s → EndShows x.planned x.end nothing_known (plain s)
plainly x s h = record { program = h.program; circuit = h.circuit; rules = h.rules; outgoing = h.outgoing; parts = refl; failed = refl }

-- it has changed in what it is to send alone
shown : (x : EndCut) (e : End) (s t : TheEnd) → ShowsEnd x s → EndShows x.planned e nothing_known (plain t) → t.parts ≡ s.parts → t.failed ≡ s.failed
    → Counts x.planned e.out → ShowsEnd (record x { end = e }) t
shown x e s t h g parts failed counts = record {
  program = g.program;
  circuit = g.circuit;
  rules = g.rules;
  outgoing = g.outgoing;
  reads = subst (Reads x.planned.plan x.planned.interface x.got x.came.accepted) (sym parts) h.reads;
  taken = h.taken;
  failed = failed ∙ h.failed;
  counted = counts.counted;
  stations = counts.stations;
  exits = h.exits;
}

counts_of : (x : EndCut) (s : TheEnd) → ShowsEnd x s → Counts x.planned x.end.out
counts_of x s h = record { counted = h.counted; stations = h.stations }

same : (x : EndCut) (s t : TheEnd) → ShowsEnd x s → t ≡ s → ShowsEnd x t
same x s t h e = subst (ShowsEnd x) (sym e) h

pub is_bound_now : (x : EndCut) (s : TheEnd) → ShowsEnd x s → IsReady s → is_bound x.end ≡ true
is_bound_now x s h r = bound_is x.planned x.end nothing_known (plain s) (plainly x s h) r.0

pub unbound_now : (x : EndCut) (s : TheEnd) → ShowsEnd x s → s.circuit ≡ None → is_bound x.end ≡ false
unbound_now x s h b = unbound_is x.planned x.end nothing_known (plain s) (plainly x s h) b

few : (x : EndCut) (s : TheEnd) → ShowsEnd x s → Sound s → length x.end.out.waiting ≤ 16
few x s h sound =
    let most = sound.sends.few in
    let long = length-map x.end.out.waiting (frags_on (circuit_of x.end) x.planned.plan x.planned.interface) in
    let are : length s.outgoing.waiting ≡ length (map (frags_on (circuit_of x.end) x.planned.plan x.planned.interface) x.end.out.waiting)
    = ap (λ (o : TheOutgoing). length o.waiting) h.outgoing in
    omega (arith, most, long, are)

pub holds_now : (x : EndCut) (s : TheEnd) → ShowsEnd x s → Sound s → end_holds_back s ≡ holds_back x.end
holds_now x s h sound = holds_is x.planned x.end nothing_known (plain s) (plainly x s h) (few x s h sound)

-- ---- a call

plain_calls : (s t : TheEnd) (c : TheCall) (answer : Result (Unit {0}) EndFault) → answer ≢ Err Failed → EndCalls s c answer t
    → EndCalls (plain s) c answer (plain t)
plain_calls s t c (Ok done) n a = (a.0, (a.1.0, refl), a.2, ap (λ (z : TheEnd). plain z) a.3)
plain_calls s t c (Err UnknownMessage) n a = (a.0, ap (λ (z : TheEnd). plain z) a.1)
plain_calls s t c (Err Misfit) n a = (a.0, a.1, ap (λ (z : TheEnd). plain z) a.2)
plain_calls s t c (Err NotBound) n a = (a.0, a.1, ap (λ (z : TheEnd). plain z) a.2)
plain_calls s t c (Err Busy) n a = (a.0, (a.1.0, refl), a.2, ap (λ (z : TheEnd). plain z) a.3)
plain_calls s t c (Err Memory) n a = (a.0, (a.1.0, refl), a.2, ap (λ (z : TheEnd). plain z) a.3)
plain_calls s t c (Err Failed) n a = absurd (n refl)
plain_calls s t c (Err Spent) n a = absurd a
plain_calls s t c (Err (Wire fault)) n a = absurd a

pub record Called (x : EndCut) (c : TheCall) (answer : Result (Unit {0}) EndFault) (t : TheEnd) : Type 0 where
  pub after : EndCut
  pub calls : Calls c answer x after
  pub shows : ShowsEnd after t
  pub wired_end : after.wired_end ≡ x.wired_end
  pub seat : after.end.seat ≡ x.end.seat

refused_call : (x : EndCut) (c : TheCall) (answer : Result (Unit {0}) EndFault) (s t : TheEnd) → ShowsEnd x s → t ≡ s → Calls c answer x x → Called x c answer t
refused_call x c answer s t h e calls = record { after = x; calls = calls; shows = same x s t h e; wired_end = refl; seat = refl }

pub call_shows : (x : EndCut) (c : TheCall) (answer : Result (Unit {0}) EndFault) (s t : TheEnd) → ShowsEnd x s → EndCalls s c answer t → Called x c answer t
call_shows x c (Ok done) s t h a =
    let g = call_agrees x.wired_end.name c (machine_of x) (plain s) (plain t) (Ok done) (plainly x s h) h.counted
    (plain_calls s t c (Ok done) (λ e. absurd (cc)) a) in
    let idle = idle_is x.planned x.end nothing_known (plain s) (plainly x s h) a.2 in
    record {
      after = record x { end = with_out (accepts c) x.end };
      calls = (g.0, refl);
      shows = shown x (with_out (accepts c) x.end) s t h g.1 (ap (λ (z : TheEnd). z.parts) a.3) (ap (λ (z : TheEnd). z.failed) a.3)
          (called_counts x.planned c x.end.out idle (counts_of x s h));
      wired_end = refl;
      seat = refl;
    }
call_shows x c (Err UnknownMessage) s t h a =
    let g = call_agrees x.wired_end.name c (machine_of x) (plain s) (plain t) (Err UnknownMessage) (plainly x s h) h.counted
    (plain_calls s t c (Err UnknownMessage) (λ e. absurd (cc)) a) in
    refused_call x c (Err UnknownMessage) s t h a.1 (g.0, refl)
call_shows x c (Err Misfit) s t h a =
    let g = call_agrees x.wired_end.name c (machine_of x) (plain s) (plain t) (Err Misfit) (plainly x s h) h.counted
    (plain_calls s t c (Err Misfit) (λ e. absurd (cc)) a) in
    refused_call x c (Err Misfit) s t h a.2 (g.0, refl)
call_shows x c (Err NotBound) s t h a =
    let g = call_agrees x.wired_end.name c (machine_of x) (plain s) (plain t) (Err NotBound) (plainly x s h) h.counted
    (plain_calls s t c (Err NotBound) (λ e. absurd (cc)) a) in
    refused_call x c (Err NotBound) s t h a.2 (g.0, refl)
call_shows x c (Err Busy) s t h a =
    let g = call_agrees x.wired_end.name c (machine_of x) (plain s) (plain t) (Err Busy) (plainly x s h) h.counted
    (plain_calls s t c (Err Busy) (λ e. absurd (cc)) a) in
    refused_call x c (Err Busy) s t h a.3 (g.0, refl)
call_shows x c (Err Memory) s t h a = refused_call x c (Err Memory) s t h a.3 refl
call_shows x c (Err Failed) s t h a = refused_call x c (Err Failed) s t h a.2 (sym h.failed ∙ a.1.1, refl)
call_shows x c (Err Spent) s t h a = absurd a
call_shows x c (Err (Wire fault)) s t h a = absurd a

-- ---- a reply rule

plain_rule : (s t : TheEnd) (msg reply : ℕ) (answer : Result (Unit {0}) EndFault) → EndSets s msg reply answer t
    → EndSets (plain s) msg reply answer (plain t)
plain_rule s t msg reply (Ok done) a = (a.0, a.1, a.2, ap (λ (z : TheEnd). plain z) a.3)
plain_rule s t msg reply (Err UnknownMessage) a = (a.0, ap (λ (z : TheEnd). plain z) a.1)
plain_rule s t msg reply (Err Misfit) a = (a.0, a.1, a.2, ap (λ (z : TheEnd). plain z) a.3)
plain_rule s t msg reply (Err fault) a = absurd a

pub record Ruled (x : EndCut) (msg reply : ℕ) (answer : Result (Unit {0}) EndFault) (t : TheEnd) : Type 0 where
  pub after : EndCut
  pub sets : SetsRule msg reply answer x after
  pub shows : ShowsEnd after t
  pub wired_end : after.wired_end ≡ x.wired_end
  pub seat : after.end.seat ≡ x.end.seat

pub rule_shows : (x : EndCut) (msg reply : ℕ) (answer : Result (Unit {0}) EndFault) (s t : TheEnd) → ShowsEnd x s → EndSets s msg reply answer t
    → Ruled x msg reply answer t
rule_shows x msg reply (Ok done) s t h a =
    let g = rule_agrees msg reply (machine_of x) (plain s) (plain t) (Ok done) (plainly x s h) (plain_rule s t msg reply (Ok done) a) in
    record {
      after = record x { end = machine_rule msg reply x.end };
      sets = (g.0, g.1, refl);
      shows = shown x (machine_rule msg reply x.end) s t h g.2 (ap (λ (z : TheEnd). z.parts) a.3) (ap (λ (z : TheEnd). z.failed) a.3) (counts_of x s h);
      wired_end = refl;
      seat = refl;
    }
rule_shows x msg reply (Err UnknownMessage) s t h a =
    let g = rule_agrees msg reply (machine_of x) (plain s) (plain t) (Err UnknownMessage) (plainly x s h)
    (plain_rule s t msg reply (Err UnknownMessage) a) in
    record { after = x; sets = (g.0, refl); shows = same x s t h a.1; wired_end = refl; seat = refl }
rule_shows x msg reply (Err Misfit) s t h a =
    let g = rule_agrees msg reply (machine_of x) (plain s) (plain t) (Err Misfit) (plainly x s h) (plain_rule s t msg reply (Err Misfit) a) in
    record { after = x; sets = (g.0, g.1, refl); shows = same x s t h a.3; wired_end = refl; seat = refl }
rule_shows x msg reply (Err fault) s t h a = absurd a

-- ---- a write, over a side that shows what is placed

pub record PutLaw {T V : Type 0} (puts : T → Look → T → Type 0) (Shows : V → T → Type 0) (places : Label → PutOutcome → V → V → Type 0) : Type 0 where
  pub one : (label : Label) (v : V) (p q : T) (f : Frag) → Shows v p → puts p (placed f) q → (w : V) × places label (goes_on f) v w × Shows w q
  pub full : (label : Label) (v : V) (p q : T) → Shows v p → puts p no_room q → (w : V) × places label is_full v w × Shows w q
  pub over : (label : Label) (v : V) (p q : T) → Shows v p → puts p spent q → (w : V) × places label is_spent v w × Shows w q

plain_writes : {T : Type 0} (puts : T → Look → T → Type 0) (s t : TheEnd) (p q : T) (answer : Result WriteAnswer EndFault) → answer ≢ Err Failed
    → EndWrites puts s p answer t q → EndWrites puts (plain s) p answer (plain t) q
plain_writes puts s t p q (Ok (write.Written number count)) n a =
    ((a.0.0, refl), (a.1.0, a.1.1, a.1.2, a.1.3, a.1.4, a.1.5, ap (λ (z : TheEnd). plain z) a.1.6))
plain_writes puts s t p q (Ok write.Full) n a = ((a.0.0, refl), a.1, a.2, ap (λ (z : TheEnd). plain z) a.3)
plain_writes puts s t p q (Ok write.Nothing) n a = ((a.0.0, refl), a.1, a.2, ap (λ (z : TheEnd). plain z) a.3)
plain_writes puts s t p q (Err Spent) n a = ((a.0.0, refl), a.1, a.2, ap (λ (z : TheEnd). plain z) a.3)
plain_writes puts s t p q (Err NotBound) n a = (a.0, a.1, ap (λ (z : TheEnd). plain z) a.2)
plain_writes puts s t p q (Err Failed) n a = absurd (n refl)
plain_writes puts s t p q (Err fault) n a = absurd a

pub record Wrote {T V : Type 0} (Shows : V → T → Type 0) (places : Label → PutOutcome → V → V → Type 0) (x : EndCut) (v : V)
    (answer : Result WriteAnswer EndFault) (t : TheEnd) (q : T) : Type 0 where
  pub after : EndCut
  pub side : V
  pub does : Writes places answer x v after side
  pub shows : ShowsEnd after t
  pub side_shows : Shows side q
  pub wired_end : after.wired_end ≡ x.wired_end
  pub seat : after.end.seat ≡ x.end.seat

module _ {T V : Type 0} (puts : T → Look → T → Type 0) (Shows : V → T → Type 0) (places : Label → PutOutcome → V → V → Type 0) where
  pub write_shows : PutLaw puts Shows places → (x : EndCut) (v : V) (answer : Result WriteAnswer EndFault) (s t : TheEnd) (p q : T) → ShowsEnd x s → Shows v p
      → EndWrites puts s p answer t q → Wrote Shows places x v answer t q
  write_shows law x v (Ok (write.Written number count)) s t p q h k a =
      let g = write_agrees puts (machine_of x) p q (plain s) (plain t) (Ok (write.Written number count)) (plainly x s h) h.counted h.stations
      (plain_writes puts s t p q (Ok (write.Written number count)) (λ e. absurd (cc)) a) in
      let w = law.one (next_label x) v p q g.1.0 k g.1.2 in
      record {
        after = wrote_next x;
        side = w.0;
        does = (g.0, g.2, (g.1.0, g.1.1, w.1), refl);
        shows = shown x (with_out (λ d. (writes x.planned d there_is_room).direction) x.end) s t h g.3
            (ap (λ (z : TheEnd). z.parts) a.1.6) (ap (λ (z : TheEnd). z.failed) a.1.6) (written_counts x.planned x.end.out g.0.1 (counts_of x s h));
        side_shows = w.2;
        wired_end = refl;
        seat = refl;
      }
  write_shows law x v (Ok write.Full) s t p q h k a =
      let g = write_agrees puts (machine_of x) p q (plain s) (plain t) (Ok write.Full) (plainly x s h) h.counted h.stations
      (plain_writes puts s t p q (Ok write.Full) (λ e. absurd (cc)) a) in
      let w = law.full (next_label x) v p q k g.1 in
      record { after = x; side = w.0; does = (g.0, g.2, w.1, refl); shows = same x s t h a.3; side_shows = w.2; wired_end = refl; seat = refl }
  write_shows law x v (Ok write.Nothing) s t p q h k a =
      let g = write_agrees puts (machine_of x) p q (plain s) (plain t) (Ok write.Nothing) (plainly x s h) h.counted h.stations
      (plain_writes puts s t p q (Ok write.Nothing) (λ e. absurd (cc)) a) in
      record {
        after = x;
        side = v;
        does = (g.0, g.1, refl, refl);
        shows = same x s t h a.3;
        side_shows = subst (Shows v) (sym a.2) k;
        wired_end = refl;
        seat = refl;
      }
  write_shows law x v (Err Spent) s t p q h k a =
      let g = write_agrees puts (machine_of x) p q (plain s) (plain t) (Err Spent) (plainly x s h) h.counted h.stations
      (plain_writes puts s t p q (Err Spent) (λ e. absurd (cc)) a) in
      let w = law.over (next_label x) v p q k g.1 in
      record { after = x; side = w.0; does = (g.0, g.2, w.1, refl); shows = same x s t h a.3; side_shows = w.2; wired_end = refl; seat = refl }
  write_shows law x v (Err NotBound) s t p q h k a = record {
    after = x;
    side = v;
    does = (unbound_is x.planned x.end nothing_known (plain s) (plainly x s h) a.0, refl, refl);
    shows = same x s t h a.2;
    side_shows = subst (Shows v) (sym a.1) k;
    wired_end = refl;
    seat = refl;
  }
  write_shows law x v (Err Failed) s t p q h k a = record {
    after = x;
    side = v;
    does = (sym h.failed ∙ a.0.1, refl, refl);
    shows = same x s t h a.2;
    side_shows = subst (Shows v) (sym a.1) k;
    wired_end = refl;
    seat = refl;
  }
  write_shows law x v (Err fault) s t p q h k a = absurd a

-- ---- a fragment is taken

-- so many fragments make all these calls whole
all_whole : (i : Planned) (cs : List TheCall) (n : ℕ) → total i cs ≤ n → whole_in i cs n ≡ cs
all_whole i cs n h = ap (λ (ds : List TheCall). whole_in i ds n) (sym (append-nil cs)) ∙ whole_append i cs [] n h ∙ append-nil cs

pub length_whole : (i : Planned) (frags : List Frag) (cs : List TheCall) → map bare frags ≡ flat_map (frags_of i.plan i.interface) cs → length frags ≡ total i cs
length_whole i frags cs e = sym (length-map frags bare) ∙ ap length e ∙ length_stream 0 i cs

-- those that came are whole, and what is held is behind them
taken_is : (x : EndCut) (s : TheEnd) → ShowsEnd x s → taken_of x.came ≡ total x.planned x.came.accepted + length s.parts
taken_is x s h =
    let long = length_whole x.planned h.reads.whole x.came.accepted h.reads.mean in
    let both = length-append h.reads.whole s.parts in
    let all : length x.got ≡ length (h.reads.whole ++ s.parts) = ap length h.reads.joined in
    let taken = h.taken in
    omega (arith, long, both, all, taken)

-- a fragment more
got_more : (x : EndCut) (d : Direction) (f : Frag) → taken_of d ≡ length x.got → 1 ≤ length d.passed → taken_of (takes_one d) ≡ length (x.got ++ f ∷ [])
got_more x d f e n =
    let grows = taken_grows d n in
    let long = length_push x.got f in
    omega (arith, grows, long, e)

pub record Took (x : EndCut) (f : Frag) (taken : Taken) (t : TheEnd) : Type 0 where
  pub after : EndCut
  pub takes : Takes f taken x after
  pub shows : ShowsEnd after t
  pub wired_end : after.wired_end ≡ x.wired_end
  pub seat : after.end.seat ≡ x.end.seat

-- no call more is whole
still_a_part : (i : Planned) (d : Direction) → 1 ≤ length d.passed → total i d.accepted ≤ taken_of d → comes_to i d ≡ a_part
still_a_part i d n h =
    let grows = taken_grows d n in
    let now : handled i d ≡ d.accepted = all_whole i d.accepted (taken_of d) h in
    let then_ : handled i (takes_one d) ≡ d.accepted = all_whole i d.accepted (taken_of (takes_one d)) (omega (arith, grows, h)) in
    ap (λ (cs : List TheCall). given (slice_get cs (length (handled i d))) a_part λ c. whole c) then_
    ∙ ap (λ (cs : List TheCall). given (slice_get d.accepted (length cs)) a_part λ c. whole c) now
    ∙ ap (λ (o : Option TheCall). given o a_part λ c. whole c) (slice_get_past d.accepted (length d.accepted) (omega arith))

pub take_part : (x : EndCut) (f : Frag) (s t : TheEnd) → ShowsEnd x s → TakesIn s f (Ok receive.Part) t → Took x f a_part t
take_part x f s t h a =
    let many = taken_is x s h in
    let part : IsPart x.planned.plan x.planned.interface (s.parts ++ f ∷ [])
    = subst (λ (i : Planned). IsPart i.plan i.interface (s.parts ++ f ∷ [])) h.program a.0 in
    let reads : Reads x.planned.plan x.planned.interface (x.got ++ f ∷ []) x.came.accepted (s.parts ++ f ∷ []) = record {
      whole = h.reads.whole;
      joined = ap (λ (fs : List Frag). fs ++ f ∷ []) h.reads.joined ∙ append_assoc h.reads.whole s.parts (f ∷ []);
      fit = h.reads.fit;
      mean = h.reads.mean;
      part = inr part;
    } in
    record {
      after = record x { got = x.got ++ f ∷ []; came = takes_one x.came };
      takes = record { found = still_a_part x.planned x.came h.exits (omega (arith, many)); after = refl };
      shows = subst (ShowsEnd (record x { got = x.got ++ f ∷ []; came = takes_one x.came })) (sym a.1) (record {
        program = h.program;
        circuit = h.circuit;
        rules = h.rules;
        outgoing = h.outgoing;
        reads = reads;
        taken = got_more x x.came f h.taken h.exits;
        failed = h.failed;
        counted = h.counted;
        stations = h.stations;
        exits = exit_stays x.came h.exits;
      });
      wired_end = refl;
      seat = refl;
    }

get_push : {X : Type 0} (xs : List X) (x : X) → slice_get (xs ++ x ∷ []) (length xs) ≡ Some x
get_push [] x = refl
get_push (y ∷ xs) x = get_push xs x

-- the call that came is whole
is_whole : (i : Planned) (d : Direction) (c : TheCall) (held : ℕ) → 1 ≤ length d.passed → taken_of d ≡ total i d.accepted + held
    → held + 1 ≡ fragments i c → comes_to i (accepts c d) ≡ whole c
is_whole i d c held n many last =
    let e : Direction = accepts c d in
    let cs : List TheCall = d.accepted in
    let grows : taken_of (takes_one (accepts c d)) ≡ taken_of d + 1 = taken_grows (accepts c d) n in
    let now : handled i (accepts c d) ≡ cs
    = whole_append i d.accepted (c ∷ []) (taken_of d) (omega (arith, many))
    ∙ ap (λ (ds : List TheCall). d.accepted ++ ds) (whole_short i c [] (taken_of d - total i d.accepted) (omega (arith, many, last)))
    ∙ append-nil d.accepted in
    let then_ : handled i (takes_one (accepts c d)) ≡ cs ++ c ∷ []
    = whole_append i d.accepted (c ∷ []) (taken_of (takes_one (accepts c d))) (omega (arith, many, grows))
    ∙ ap (λ (ds : List TheCall). d.accepted ++ ds)
    (whole_one i c [] (taken_of (takes_one (accepts c d)) - total i d.accepted) (omega (arith, many, last, grows))) in
    ap (λ (ds : List TheCall). given (slice_get ds (length (handled i (accepts c d)))) a_part λ b. whole b) then_
    ∙ ap (λ (ds : List TheCall). given (slice_get (cs ++ c ∷ []) (length ds)) a_part λ b. whole b) now
    ∙ ap (λ (o : Option TheCall). given o a_part λ b. whole b) (get_push d.accepted c)

-- an end that another end has had accept this call alone, of which so many fragments are taken
abbrev only : TheCall → ℕ → Direction
only c n = record { accepted = c ∷ []; waiting = []; passed = n ∷ [] }

one_fits : (i : Planned) (c : TheCall) → fits_of i.interface c ≡ true → AllFit i (c ∷ [])
one_fits i c h zero d e = let same : c ≡ d = cc in subst (λ (b : TheCall). fits_of i.interface b ≡ true) same h
one_fits i c h (suc n) d e = absurd (cc)

-- what it replies is what the machine's end does
replies_so : TakeShows → (x : EndCut) (f : Frag) (call : Call) (s t : TheEnd) → ShowsEnd x s → Sound s → s.failed ≡ false → bare f ≡ f
    → TakesIn s f (Ok (receive.Handle call)) t
    → EndShows x.planned (replies x.planned (whole (call_of call)) x.end) (takes_one (only (call_of call) (length s.parts))) t
replies_so law x f call s t h sound ready bare_is a =
    let c : TheCall = call_of call in
    let mean : s.parts ++ f ∷ [] ≡ frags_of x.planned.plan x.planned.interface (call_of call)
    = a.0.mean ∙ ap (λ (j : Planned). frags_of j.plan j.interface (call_of call)) h.program in
    let long : length (s.parts ++ f ∷ []) ≡ length s.parts + 1 = length_push s.parts f in
    let last : length (s.parts ++ f ∷ []) ≡ fragments x.planned (call_of call) = ap length mean ∙ length_frags 0 x.planned (call_of call) in
    let all : stream 0 x.planned (c ∷ []) ≡ s.parts ++ f ∷ [] = append-nil (frags_of x.planned.plan x.planned.interface (call_of call)) ∙ sym mean in
    let parts : parts_of x.planned (only (call_of call) (length s.parts)) ≡ s.parts
    = ap (λ (hs : List TheCall). drop (total x.planned hs) (take (length s.parts) (stream 0 x.planned (c ∷ []))))
    (whole_short x.planned (call_of call) [] (length s.parts) (omega (arith, long, last)))
    ∙ ap (take (length s.parts)) all
    ∙ take_at s.parts (f ∷ []) (length s.parts) refl in
    let before : EndShows x.planned x.end (only (call_of call) (length s.parts)) s = record {
      program = h.program;
      circuit = h.circuit;
      rules = h.rules;
      outgoing = h.outgoing;
      parts = sym parts;
      failed = ready;
    } in
    let fits : fits_of x.planned.interface (call_of call) ≡ true = ap (λ (j : Planned). fits_of j.interface (call_of call)) (sym h.program) ∙ a.0.fits in
    let g = law x.planned x.end (only (call_of call) (length s.parts)) f s t (Ok (receive.Handle call)) before sound h.counted
    (one_fits x.planned (call_of call) fits) (omega arith) bare_is
    (ap (λ (fs : List Frag). slice_get fs (length s.parts)) all ∙ get_push s.parts f) a in
    g.1

-- what it took reads as one call more
reads_more : (x : EndCut) (f : Frag) (c : TheCall) (s : TheEnd) → ShowsEnd x s → Sound s → bare f ≡ f → AreCall s (s.parts ++ f ∷ []) c
    → Reads x.planned.plan x.planned.interface (x.got ++ f ∷ []) (x.came.accepted ++ c ∷ []) []
reads_more x f c s h sound bare_is are =
    let mean : s.parts ++ f ∷ [] ≡ frags_of x.planned.plan x.planned.interface c
    = are.mean ∙ ap (λ (j : Planned). frags_of j.plan j.interface c) h.program in
    let fits : fits_of x.planned.interface c ≡ true = ap (λ (j : Planned). fits_of j.interface c) (sym h.program) ∙ are.fits in
    let split : x.got ++ f ∷ [] ≡ h.reads.whole ++ (s.parts ++ f ∷ [])
    = ap (λ (fs : List Frag). fs ++ f ∷ []) h.reads.joined ∙ append_assoc h.reads.whole s.parts (f ∷ []) in
    let bare_all : map bare (s.parts ++ f ∷ []) ≡ s.parts ++ f ∷ []
    = map-append bare s.parts (f ∷ []) ∙ ap (λ (fs : List Frag). fs ++ bare f ∷ []) sound.are_bare ∙ ap (λ (g : Frag). s.parts ++ g ∷ []) bare_is in
    record {
      whole = x.got ++ f ∷ [];
      joined = sym (append-nil (x.got ++ f ∷ []));
      fit = All-push (λ d. fits_of x.planned.interface d ≡ true) x.came.accepted c h.reads.fit fits;
      mean = ap (map bare) split
          ∙ map-append bare h.reads.whole (s.parts ++ f ∷ [])
          ∙ ap (λ (fs : List Frag). fs ++ map bare (s.parts ++ f ∷ [])) h.reads.mean
          ∙ ap (λ (fs : List Frag). flat_map (frags_of x.planned.plan x.planned.interface) x.came.accepted ++ fs)
          (bare_all ∙ mean ∙ sym (append-nil (frags_of x.planned.plan x.planned.interface c)))
          ∙ sym (flat_map-append (frags_of x.planned.plan x.planned.interface) x.came.accepted (c ∷ []));
      part = inl refl;
    }

pub take_whole : TakeShows → (x : EndCut) (f : Frag) (call : Call) (s t : TheEnd) → ShowsEnd x s → Sound s → s.failed ≡ false → bare f ≡ f
    → TakesIn s f (Ok (receive.Handle call)) t → Took x f (whole (call_of call)) t
take_whole law x f call s t h sound ready bare_is a =
    let many = taken_is x s h in
    let mean : s.parts ++ f ∷ [] ≡ frags_of x.planned.plan x.planned.interface (call_of call)
    = a.0.mean ∙ ap (λ (j : Planned). frags_of j.plan j.interface (call_of call)) h.program in
    let long : length (s.parts ++ f ∷ []) ≡ length s.parts + 1 = length_push s.parts f in
    let last : length (s.parts ++ f ∷ []) ≡ fragments x.planned (call_of call) = ap length mean ∙ length_frags 0 x.planned (call_of call) in
    let g = replies_so law x f call s t h sound ready bare_is a in
    let counts = replied_counts x.planned (whole (call_of call)) x.end (counts_of x s h) in
    record {
      after = record x {
        end = replies x.planned (whole (call_of call)) x.end;
        got = x.got ++ f ∷ [];
        came = takes_one (accepts (call_of call) x.came);
      };
      takes = record { found = is_whole x.planned x.came (call_of call) (length s.parts) h.exits many (omega (arith, long, last)); after = refl };
      shows = record {
        program = g.program;
        circuit = g.circuit;
        rules = g.rules;
        outgoing = g.outgoing;
        reads = subst (Reads x.planned.plan x.planned.interface (x.got ++ f ∷ []) (x.came.accepted ++ call_of call ∷ []))
            (sym (ap (λ (z : TheEnd). z.parts) a.1)) (reads_more x f (call_of call) s h sound bare_is a.0);
        taken = got_more x (accepts (call_of call) x.came) f h.taken h.exits;
        failed = ap (λ (z : TheEnd). z.failed) a.1 ∙ h.failed;
        counted = counts.counted;
        stations = counts.stations;
        exits = exit_stays (accepts (call_of call) x.came) h.exits;
      };
      wired_end = refl;
      seat = replied_seat x.planned (whole (call_of call)) x.end;
    }

pub record Failing (x : EndCut) (f : Frag) (fault : WireFault) (t : TheEnd) : Type 0 where
  pub after : EndCut
  pub fails : Fails f fault x after
  pub shows : ShowsEnd after t
  pub wired_end : after.wired_end ≡ x.wired_end
  pub seat : after.end.seat ≡ x.end.seat

pub take_wrong : (x : EndCut) (f : Frag) (fault : WireFault) (s t : TheEnd) → ShowsEnd x s → TakesIn s f (Err (Wire fault)) t → Failing x f fault t
take_wrong x f fault s t h a = record {
  after = record x { failed = true };
  fails = record {
    rest = s.parts;
    reads = h.reads;
    wrong = subst (λ (i : Planned). IsRefused i.plan i.interface s.parts f fault) h.program a.0;
    after = refl;
  };
  shows = subst (ShowsEnd (record x { failed = true })) (sym a.1) (record {
    program = h.program;
    circuit = h.circuit;
    rules = h.rules;
    outgoing = h.outgoing;
    reads = h.reads;
    taken = h.taken;
    failed = refl;
    counted = h.counted;
    stations = h.stations;
    exits = h.exits;
  });
  wired_end = refl;
  seat = refl;
}
