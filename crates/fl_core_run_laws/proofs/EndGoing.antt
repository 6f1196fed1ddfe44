-- What each event leaves of what an end is to put, and of what it took.
use Rattle.std.proofs.Common.{◌≡◌, refl, sym, ap, ◌∙◌, subst, ℕ, zero, suc, ◌<◌, List, [], ◌∷◌, ◌++◌, length, map, take, drop, arith, rules}
use Rattle.std.proofs.Common.{true, Option, Some, None, IsSome, Result, Ok, Err}
use Rattle.std.specs.List.{flat_map}
use Rattle.std.specs.Option.{option_map}
use Rattle.std.specs.Prelude.{slice_get}
use Rattle.std.proofs.lemmas.List.{append-nil, append_assoc}
use Rattle.std.proofs.lemmas.List.Elements.{All-nil, All-cons, All-append}
use Rattle.std.proofs.lemmas.Grind.{flat_map-append}
use Rattle.fl_base.specs.declared.fragment.Frag.{Frag}
use Rattle.fl_value_data.specs.Value.{TheCall, call_of}
use Rattle.fl_value_data.specs.Value.{Datum}
use Rattle.fl_value_data.specs.Fits.{fits_of, fit_message, are_arguments}
use Rattle.fl_value_data.specs.Tape.{types_of}
use Rattle.fl_interface.specs.Interface.{TheArgType, TheMessage, TheInterface}
use Rattle.fl_wire.specs.Payload.{frags_on}
use Rattle.fl_wire.specs.Reading.{AllFit}
use Rattle.fl_compile.specs.declared.program.Program.{Program}
use Rattle.fl_compile.specs.Programs.{program_of}
use Rattle.fl_link.specs.Looks.{Look}
use Rattle.fl_core.specs.declared.turn_answer.TurnAnswer.{TurnAnswer}
use Rattle.fl_core.specs.declared.turn_answer.TurnAnswer.TheVariants as turn
use Rattle.fl_core.specs.declared.kind.ChannelKind.{ChannelKind}
use Rattle.fl_core.specs.BoardTurns.{EndMoment, LooksAt}
use Rattle.fl_endpoint.specs.View.{TheEnd, TheOutgoing, interface_in, plan_in, frags_from, number_or_0, reply_to, rule_at, nothing_to_send, queued, queued_behind, queued_if, goes_on, wrote, with_call, with_written, with_part, with_handled, with_failed, bound, bound_by}
use Rattle.fl_base.specs.declared.identity.MsgNo.{MsgNo}
use Rattle.fl_endpoint.specs.Events.{Calls, Writes, SetsRule}
use Rattle.fl_endpoint.specs.Accounts.{Sound, IsLeft, AreRules, stream, stream_from, followed}
use Rattle.fl_endpoint.specs.declared.fault.EndFault.{EndFault}
use Rattle.fl_endpoint.specs.declared.fault.EndFault.TheVariants as fault
use Rattle.fl_endpoint.specs.declared.answer.WriteAnswer.{WriteAnswer}
use Rattle.fl_endpoint.specs.declared.answer.WriteAnswer.TheVariants as write
use Rattle.fl_waitset.specs.declared.waitset.Pick.{Pick}
use Rattle.fl_waitset.specs.declared.waitset.Pick.TheVariants as pick
use Rattle.fl_core_run_laws.specs.Logs.{call_in}
use Rattle.fl_core_run_laws.specs.Made.{made_by}
use Rattle.fl_core_run_laws.specs.Carried.{left_to_put, Traffic, EndGoes, rules_by, reply_in}
use Rattle.fl_core_run_laws.proofs.Looking.{if_wrote, turn_took}

abbrev all : List (List Frag) → List Frag
all xs = flat_map (λ (frags : List Frag). frags) xs

-- ---- an end that has nothing in transmission has nothing to send

some_left : {X : Type 0} (xs : List X) (n : ℕ) → n < length xs → drop n xs ≡ [] → ⊥
some_left [] n below is = absurd (omega (arith, below))
some_left (x ∷ xs) zero below is = absurd (cc)
some_left (x ∷ xs) (suc n) below is = some_left xs n (omega (arith, below)) is

idle_by : (frags : TheCall → List Frag) (number : ℕ) (calls : List TheCall) (o : TheOutgoing) → IsLeft frags number calls o → o.unwritten ≡ [] → o ≡ nothing_to_send
idle_by frags number [] o left none = left
idle_by frags number (c ∷ waits) o left none =
    absurd (some_left (frags c) number left.0 (sym (ap (λ (x : TheOutgoing). x.unwritten) left.1) ∙ none))

idle : (s : TheEnd) → Sound s → s.outgoing.unwritten ≡ [] → s.outgoing ≡ nothing_to_send
idle s sound none = idle_by (frags_from s) sound.sends.number sound.sends.calls s.outgoing sound.sends.left none

-- ---- one call more is to be put

behind : (waiting : List (List Frag)) (unwritten frags : List Frag) → unwritten ++ all (waiting ++ frags ∷ []) ≡ (unwritten ++ all waiting) ++ frags
behind waiting unwritten frags =
    ap (λ (xs : List Frag). unwritten ++ xs) (flat_map-append (λ (xs : List Frag). xs) waiting (frags ∷ []) ∙ ap (λ (xs : List Frag). all waiting ++ xs) (append-nil frags))
    ∙ sym (append_assoc unwritten (all waiting) frags)

queued_by : (o : TheOutgoing) (us frags : List Frag) → o.unwritten ≡ us → (us ≡ [] → o ≡ nothing_to_send) → left_to_put (queued_behind us o frags) ≡ left_to_put o ++ frags
queued_by o [] frags is none =
    let empty : o ≡ nothing_to_send = none refl in
    subst (λ (x : TheOutgoing). frags ++ all x.waiting ≡ left_to_put x ++ frags) (sym empty) (append-nil frags)
queued_by o (u ∷ us) frags is none = behind o.waiting o.unwritten frags

queued_left : (s : TheEnd) (frags : List Frag) → Sound s → left_to_put (queued s.outgoing frags) ≡ left_to_put s.outgoing ++ frags
queued_left s frags sound = queued_by s.outgoing s.outgoing.unwritten frags refl (λ none. idle s sound none)

-- the first fragment is put
goes_left : (waiting : List (List Frag)) → left_to_put (goes_on waiting) ≡ all waiting
goes_left [] = refl
goes_left (frags ∷ more) = refl

wrote_left : (rest : List Frag) (o : TheOutgoing) → left_to_put (wrote rest o) ≡ rest ++ all o.waiting
wrote_left [] o = goes_left o.waiting
wrote_left (f ∷ rest) o = refl

-- ---- calls that fit

abbrev Fitting : TheInterface → TheCall → Type 0
Fitting i c = fits_of i c ≡ true

abbrev pub none_fit : (i : TheInterface) → AllFit i []
none_fit i = All-nil (Fitting i)

one_fits : (i : TheInterface) (c : TheCall) → fits_of i c ≡ true → AllFit i (c ∷ [])
one_fits i c fits = All-cons (Fitting i) c [] fits (none_fit i)

both_fit : (i : TheInterface) (a b : List TheCall) → AllFit i a → AllFit i b → AllFit i (a ++ b)
both_fit i a b x y = All-append (Fitting i) a b x y

-- the reply by rule to a call that fits is one that fits
same_fit : (a b : Option TheMessage) (args : List Datum) → IsSome a → IsSome b → types_of a ≡ types_of b → fit_message a args ≡ true → fit_message b args ≡ true
same_fit None b args x y e h = absurd (search (rules, x))
same_fit (Some m) None args x y e h = absurd (search (rules, y))
same_fit (Some m) (Some n) args x y e h = subst (λ (ts : List TheArgType). are_arguments ts args ≡ true) e h

ruled_fits : (i : TheInterface) (rules : List (Option ℕ)) (c : TheCall) (o : Option ℕ) → AreRules i rules → rule_at rules c.msg ≡ o → fits_of i c ≡ true
    → AllFit i (followed (option_map (λ reply. record { msg = reply; args = c.args }) o) [])
ruled_fits i rules c None are rule fits = none_fit i
ruled_fits i rules c (Some reply) are rule fits =
    let r = are.each c.msg reply rule in
    one_fits i (record { msg = reply; args = c.args }) (same_fit (slice_get i.messages c.msg) (slice_get i.messages reply) c.args r.from r.to r.types fits)

-- ---- stretches join

abbrev pub still : Traffic
still = record { sent = []; handled = []; put = []; took = [] }

-- an end of whose fragments and calls nothing is changed
pub rests : (x y : TheEnd) → y.outgoing ≡ x.outgoing → y.parts ≡ x.parts → y.program ≡ x.program → ((c : ℕ) → x.circuit ≡ Some c → y.circuit ≡ Some c) → EndGoes still x y
rests x y outgoing parts program circuit = record {
  sends = append-nil (left_to_put x.outgoing) ∙ ap left_to_put (sym outgoing);
  gives = append-nil x.parts ∙ sym parts;
  program = program;
  sent_fit = none_fit (interface_in y);
  handled_fit = none_fit (interface_in y);
  circuit = circuit;
  unbound = λ none. refl;
}

pub stays : (x y : TheEnd) → y ≡ x → EndGoes still x y
stays x y same = rests x y (ap (λ (z : TheEnd). z.outgoing) same) (ap (λ (z : TheEnd). z.parts) same) (ap (λ (z : TheEnd). z.program) same) (λ c is. ap (λ (z : TheEnd). z.circuit) same ∙ is)

joins : (x a p m b q z : List Frag) → x ++ a ≡ p ++ m → m ++ b ≡ q ++ z → x ++ (a ++ b) ≡ (p ++ q) ++ z
joins x a p m b q z one two =
    sym (append_assoc x a b) ∙ ap (λ (xs : List Frag). xs ++ b) one ∙ append_assoc p m b ∙ ap (λ (xs : List Frag). p ++ xs) two ∙ sym (append_assoc p q z)

-- what was sent was sent on one circuit
same_by : (m y : TheEnd) (calls : List TheCall) (o : Option ℕ) → m.circuit ≡ o → y.program ≡ m.program → ((c : ℕ) → m.circuit ≡ Some c → y.circuit ≡ Some c)
    → (m.circuit ≡ None → calls ≡ []) → stream_from y calls ≡ stream_from m calls
same_by m y calls None is program circuit none = ap (stream_from y) (none is) ∙ ap (stream_from m) (sym (none is))
same_by m y calls (Some c) is program circuit none =
    ap (λ (p : Program). stream (program_of p) (number_or_0 y.circuit) calls) program
    ∙ ap (λ (o : Option ℕ). stream (program_of m.program) (number_or_0 o) calls) (circuit c is ∙ sym is)

same_stream : (m y : TheEnd) (calls : List TheCall) → y.program ≡ m.program → ((c : ℕ) → m.circuit ≡ Some c → y.circuit ≡ Some c) → (m.circuit ≡ None → calls ≡ [])
    → stream_from y calls ≡ stream_from m calls
same_stream m y calls program circuit none = same_by m y calls m.circuit refl program circuit none

stream_joins : (x : TheEnd) (circuit : ℕ) (a b : List TheCall) → stream (program_of x.program) circuit (a ++ b) ≡ stream (program_of x.program) circuit a ++ stream (program_of x.program) circuit b
stream_joins x circuit a b = flat_map-append (frags_on circuit (plan_in x) (interface_in x)) a b

-- an end that isn't bound then wasn't before
unbound_by : (o : Option ℕ) (m y : TheEnd) → m.circuit ≡ o → ((c : ℕ) → m.circuit ≡ Some c → y.circuit ≡ Some c) → y.circuit ≡ None → m.circuit ≡ None
unbound_by None m y is circuit none = is
unbound_by (Some c) m y is circuit none = absurd (let no : Some c ≡ None = sym (circuit c is) ∙ none in cc)

pub goes_then : (x m y : TheEnd) (a b c d : List TheCall) (p q t u : List Frag) → EndGoes (record { sent = a; handled = b; put = p; took = t }) x m
    → EndGoes (record { sent = c; handled = d; put = q; took = u }) m y → EndGoes (record { sent = a ++ c; handled = b ++ d; put = p ++ q; took = t ++ u }) x y
goes_then x m y a b c d p q t u g h =
    let first : left_to_put x.outgoing ++ stream_from y a ≡ p ++ left_to_put m.outgoing =
    ap (λ (xs : List Frag). left_to_put x.outgoing ++ xs) (same_stream m y a h.program h.circuit g.unbound) ∙ g.sends in
    let read : x.parts ++ t ≡ stream (program_of y.program) 0 b ++ m.parts =
    g.gives ∙ ap (λ (z : Program). stream (program_of z) 0 b ++ m.parts) (sym h.program) in
    record {
      sends = ap (λ (xs : List Frag). left_to_put x.outgoing ++ xs) (stream_joins y (number_or_0 y.circuit) a c)
          ∙ joins (left_to_put x.outgoing) (stream_from y a) p (left_to_put m.outgoing) (stream_from y c) q (left_to_put y.outgoing) first h.sends;
      gives = joins x.parts t (stream (program_of y.program) 0 b) m.parts u (stream (program_of y.program) 0 d) y.parts read h.gives
          ∙ ap (λ (xs : List Frag). xs ++ y.parts) (sym (stream_joins y 0 b d));
      program = h.program ∙ g.program;
      sent_fit = both_fit (interface_in y) a c (subst (λ (z : Program). AllFit (program_of z).interface a) (sym h.program) g.sent_fit) h.sent_fit;
      handled_fit = both_fit (interface_in y) b d (subst (λ (z : Program). AllFit (program_of z).interface b) (sym h.program) g.handled_fit) h.handled_fit;
      circuit = λ n is. h.circuit n (g.circuit n is);
      unbound = λ none. ap (λ (xs : List TheCall). xs ++ c) (g.unbound (unbound_by m.circuit m y refl h.circuit none)) ∙ h.unbound none;
    }

-- ---- a call is made

bound_not : (o : Option ℕ) → IsSome o → o ≡ None → ⊥
bound_not None some is = search (rules, some)
bound_not (Some c) some is = cc

accepts : (x : TheEnd) (c : TheCall) (y : TheEnd) → Sound x → fits_of (interface_in x) c ≡ true → IsSome x.circuit → y ≡ with_call x c → EndGoes (record { sent = c ∷ []; handled = []; put = []; took = [] }) x y
accepts x c y sound fits some is = subst (λ (z : TheEnd). EndGoes (record { sent = c ∷ []; handled = []; put = []; took = [] }) x z) (sym is) (record {
  sends = sym (queued_left x (frags_from x c) sound ∙ ap (λ (xs : List Frag). left_to_put x.outgoing ++ xs) (sym (append-nil (frags_from x c))));
  gives = append-nil x.parts;
  program = refl;
  sent_fit = one_fits (interface_in x) c fits;
  handled_fit = none_fit (interface_in x);
  circuit = λ n at. at;
  unbound = λ none. absurd (bound_not x.circuit some none);
})

pub calls_go : (x : TheEnd) (c : TheCall) (answer : Result (Unit {0}) EndFault) (y : TheEnd) → Sound x → Calls x c answer y
    → EndGoes (record { sent = made_by c answer; handled = []; put = []; took = [] }) x y
calls_go x c (Ok done) y sound h = accepts x c y sound h.0 h.1.0 h.3
calls_go x c (Err fault.UnknownMessage) y sound h = stays x y h.1
calls_go x c (Err fault.Misfit) y sound h = stays x y h.2
calls_go x c (Err fault.NotBound) y sound h = stays x y h.2
calls_go x c (Err fault.Failed) y sound h = stays x y h.2
calls_go x c (Err fault.Busy) y sound h = stays x y h.3
calls_go x c (Err fault.Memory) y sound h = stays x y h.3
calls_go x c (Err fault.Spent) y sound h = absurd h
calls_go x c (Err (fault.Wire f)) y sound h = absurd h

pub calls_rules : (x : TheEnd) (c : TheCall) (answer : Result (Unit {0}) EndFault) (y : TheEnd) → Calls x c answer y → y.rules ≡ x.rules
calls_rules x c (Ok done) y h = ap (λ (z : TheEnd). z.rules) h.3
calls_rules x c (Err fault.UnknownMessage) y h = ap (λ (z : TheEnd). z.rules) h.1
calls_rules x c (Err fault.Misfit) y h = ap (λ (z : TheEnd). z.rules) h.2
calls_rules x c (Err fault.NotBound) y h = ap (λ (z : TheEnd). z.rules) h.2
calls_rules x c (Err fault.Failed) y h = ap (λ (z : TheEnd). z.rules) h.2
calls_rules x c (Err fault.Busy) y h = ap (λ (z : TheEnd). z.rules) h.3
calls_rules x c (Err fault.Memory) y h = ap (λ (z : TheEnd). z.rules) h.3
calls_rules x c (Err fault.Spent) y h = absurd h
calls_rules x c (Err (fault.Wire f)) y h = absurd h

-- ---- a rule is set

pub rules_go : (x : TheEnd) (msg reply : MsgNo) (answer : Result (Unit {0}) EndFault) (y : TheEnd) → SetsRule x msg.0 reply.0 answer y
    → EndGoes still x y × (y.rules ≡ rules_by msg reply answer x.rules)
rules_go x msg reply (Ok done) y h =
    (rests x y (ap (λ (z : TheEnd). z.outgoing) h.3) (ap (λ (z : TheEnd). z.parts) h.3) (ap (λ (z : TheEnd). z.program) h.3) (λ c is. ap (λ (z : TheEnd). z.circuit) h.3 ∙ is), ap (λ (z : TheEnd). z.rules) h.3)
rules_go x msg reply (Err fault.UnknownMessage) y h = (stays x y h.1, ap (λ (z : TheEnd). z.rules) h.1)
rules_go x msg reply (Err fault.Misfit) y h = (stays x y h.3, ap (λ (z : TheEnd). z.rules) h.3)
rules_go x msg reply (Err fault.NotBound) y h = absurd h
rules_go x msg reply (Err fault.Failed) y h = absurd h
rules_go x msg reply (Err fault.Busy) y h = absurd h
rules_go x msg reply (Err fault.Memory) y h = absurd h
rules_go x msg reply (Err fault.Spent) y h = absurd h
rules_go x msg reply (Err (fault.Wire f)) y h = absurd h

-- ---- a fragment is written

puts_first : (x : TheEnd) (f : Frag) (rest : List Frag) (y : TheEnd) → x.outgoing.unwritten ≡ f ∷ rest → y ≡ with_written x rest
    → EndGoes (record { sent = []; handled = []; put = f ∷ []; took = [] }) x y
puts_first x f rest y stood is = subst (λ (z : TheEnd). EndGoes (record { sent = []; handled = []; put = f ∷ []; took = [] }) x z) (sym is) (record {
  sends = append-nil (left_to_put x.outgoing) ∙ ap (λ (xs : List Frag). xs ++ all x.outgoing.waiting) stood ∙ ap (λ (xs : List Frag). f ∷ xs) (sym (wrote_left rest x.outgoing));
  gives = append-nil x.parts;
  program = refl;
  sent_fit = none_fit (interface_in x);
  handled_fit = none_fit (interface_in x);
  circuit = λ n at. at;
  unbound = λ none. refl;
})

pub writes_go : {P : Type 0} (puts : P → Look → P → Type 0) (x : TheEnd) (p : P) (answer : Result WriteAnswer EndFault) (y : TheEnd) (q : P) → Writes puts x p answer y q
    → EndGoes (record { sent = []; handled = []; put = if_wrote answer x.outgoing.unwritten; took = [] }) x y × (y.rules ≡ x.rules)
writes_go puts x p (Ok (write.Written number count)) y q h =
    (subst (λ (xs : List Frag). EndGoes (record { sent = []; handled = []; put = take 1 xs; took = [] }) x y) (sym h.1.2) (puts_first x h.1.0 h.1.1 y h.1.2 h.1.6), ap (λ (z : TheEnd). z.rules) h.1.6)
writes_go puts x p (Ok write.Full) y q h = (stays x y h.3, ap (λ (z : TheEnd). z.rules) h.3)
writes_go puts x p (Ok write.Nothing) y q h = (stays x y h.3, ap (λ (z : TheEnd). z.rules) h.3)
writes_go puts x p (Err fault.Spent) y q h = (stays x y h.3, ap (λ (z : TheEnd). z.rules) h.3)
writes_go puts x p (Err fault.NotBound) y q h = (stays x y h.2, ap (λ (z : TheEnd). z.rules) h.2)
writes_go puts x p (Err fault.Failed) y q h = (stays x y h.2, ap (λ (z : TheEnd). z.rules) h.2)
writes_go puts x p (Err fault.Busy) y q h = absurd h
writes_go puts x p (Err fault.UnknownMessage) y q h = absurd h
writes_go puts x p (Err fault.Misfit) y q h = absurd h
writes_go puts x p (Err (fault.Wire f)) y q h = absurd h
writes_go puts x p (Err fault.Memory) y q h = absurd h

-- ---- a dispatcher's turn

-- the reply that is due is to be put
replies : (x : TheEnd) (o : Option TheCall) → Sound x
    → left_to_put x.outgoing ++ stream_from x (followed o []) ≡ left_to_put (queued_if x.outgoing (option_map (frags_from x) o))
replies x None sound = append-nil (left_to_put x.outgoing)
replies x (Some d) sound = ap (λ (xs : List Frag). left_to_put x.outgoing ++ xs) (append-nil (frags_from x d)) ∙ sym (queued_left x (frags_from x d) sound)

takes_part : (x : TheEnd) (f : Frag) (y : TheEnd) → y ≡ with_part x f → EndGoes (record { sent = []; handled = []; put = []; took = f ∷ [] }) x y
takes_part x f y is = subst (λ (z : TheEnd). EndGoes (record { sent = []; handled = []; put = []; took = f ∷ [] }) x z) (sym is) (record {
  sends = append-nil (left_to_put x.outgoing);
  gives = refl;
  program = refl;
  sent_fit = none_fit (interface_in x);
  handled_fit = none_fit (interface_in x);
  circuit = λ n at. at;
  unbound = λ none. refl;
})

handles : (x : TheEnd) (f : Frag) (c : TheCall) (y : TheEnd) → Sound x → fits_of (interface_in x) c ≡ true → IsSome x.circuit → x.parts ++ f ∷ [] ≡ frags_on 0 (plan_in x) (interface_in x) c → y ≡ with_handled x c
    → EndGoes (record { sent = followed (reply_to x.rules c) []; handled = c ∷ []; put = []; took = f ∷ [] }) x y
handles x f c y sound fits some mean is =
    subst (λ (z : TheEnd). EndGoes (record { sent = followed (reply_to x.rules c) []; handled = c ∷ []; put = []; took = f ∷ [] }) x z) (sym is) (record {
      sends = replies x (reply_to x.rules c) sound;
      gives = mean ∙ sym (append-nil (frags_on 0 (plan_in x) (interface_in x) c)) ∙ sym (append-nil (frags_on 0 (plan_in x) (interface_in x) c ++ []));
      program = refl;
      sent_fit = ruled_fits (interface_in x) x.rules c (rule_at x.rules c.msg) sound.rules refl fits;
      handled_fit = one_fits (interface_in x) c fits;
      circuit = λ n at. at;
      unbound = λ none. absurd (bound_not x.circuit some none);
    })

fails : (x y : TheEnd) → y ≡ with_failed x → EndGoes still x y
fails x y is = rests x y (ap (λ (z : TheEnd). z.outgoing) is) (ap (λ (z : TheEnd). z.parts) is) (ap (λ (z : TheEnd). z.program) is) (λ c at. ap (λ (z : TheEnd). z.circuit) is ∙ at)

module _ {T : Type 0} (takes : T → Look → T → Type 0) where
  pub turn_goes : (picked : Pick) (kind : ChannelKind) (a : EndMoment T) (answer : TurnAnswer) (b : EndMoment T) → Sound a.end → (h : LooksAt takes picked kind a (Ok answer) b)
      → EndGoes (record { sent = reply_in a.end.rules answer; handled = map call_of (call_in answer); put = []; took = turn_took takes picked kind a answer b h }) a.end b.end
  turn_goes (pick.Pending c) kind a (turn.Handle call) b sound h = handles a.end h.1.1.0 (call_of call) b.end sound h.1.1.5.0.fits h.1.0.0.0 h.1.1.5.0.mean h.1.1.5.1
  turn_goes (pick.Pending c) kind a turn.Part b sound h = takes_part a.end h.1.1.0 b.end h.1.1.5.1
  turn_goes (pick.Pending c) kind a turn.Quiet b sound h = stays a.end b.end h.1.2
  turn_goes (pick.Pending c) kind a turn.Full b sound h = stays a.end b.end h.0.3
  turn_goes (pick.Pending c) kind a turn.Nothing b sound h = stays a.end b.end h.1.2
  turn_goes (pick.Pending c) kind a (turn.Refused f) b sound h = fails a.end b.end h.0.1.3.1
  turn_goes (pick.Pending c) kind a turn.Ready b sound h = absurd h
  turn_goes (pick.Polled c) kind a turn.Ready b sound h = stays a.end b.end h.1
  turn_goes (pick.Polled c) kind a turn.Quiet b sound h = stays a.end b.end h.1
  turn_goes (pick.Polled c) kind a (turn.Handle call) b sound h = absurd h.0
  turn_goes (pick.Polled c) kind a turn.Part b sound h = absurd h.0
  turn_goes (pick.Polled c) kind a turn.Full b sound h = absurd h.0
  turn_goes (pick.Polled c) kind a turn.Nothing b sound h = absurd h.0
  turn_goes (pick.Polled c) kind a (turn.Refused f) b sound h = absurd h.0

  pub turn_rules : (picked : Pick) (kind : ChannelKind) (a : EndMoment T) (answer : TurnAnswer) (b : EndMoment T) → LooksAt takes picked kind a (Ok answer) b → b.end.rules ≡ a.end.rules
  turn_rules (pick.Pending c) kind a (turn.Handle call) b h = ap (λ (z : TheEnd). z.rules) h.1.1.5.1
  turn_rules (pick.Pending c) kind a turn.Part b h = ap (λ (z : TheEnd). z.rules) h.1.1.5.1
  turn_rules (pick.Pending c) kind a turn.Quiet b h = ap (λ (z : TheEnd). z.rules) h.1.2
  turn_rules (pick.Pending c) kind a turn.Full b h = ap (λ (z : TheEnd). z.rules) h.0.3
  turn_rules (pick.Pending c) kind a turn.Nothing b h = ap (λ (z : TheEnd). z.rules) h.1.2
  turn_rules (pick.Pending c) kind a (turn.Refused f) b h = ap (λ (z : TheEnd). z.rules) h.0.1.3.1
  turn_rules (pick.Pending c) kind a turn.Ready b h = absurd h
  turn_rules (pick.Polled c) kind a answer b h = ap (λ (z : TheEnd). z.rules) h.1

-- ---- an end is bound, if it wasn't

bound_rests : (o : Option ℕ) (c : ℕ) (x y : TheEnd) → x.circuit ≡ o → y ≡ bound_by o c x → EndGoes still x y × (y.rules ≡ x.rules)
bound_rests None c x y at is = (
  rests x y (ap (λ (z : TheEnd). z.outgoing) is) (ap (λ (z : TheEnd). z.parts) is) (ap (λ (z : TheEnd). z.program) is) (λ n some. absurd (let no : None ≡ Some n = sym at ∙ some in cc)),
  ap (λ (z : TheEnd). z.rules) is,
)
bound_rests (Some before) c x y at is = (stays x y is, ap (λ (z : TheEnd). z.rules) is)

pub bound_goes : (x y : TheEnd) (c : ℕ) → y ≡ bound x c → EndGoes still x y × (y.rules ≡ x.rules)
bound_goes x y c is = bound_rests x.circuit c x y refl is
