-- What an end of one core comes to send, by the machine: its calls that are accepted and its replies by rule, of which the last may wait.
use Rattle.std.proofs.Common.{◌≡◌, ◌≢◌, ◌⊎◌, inl, inr, refl, sym, ◌∙◌, ap, subst, ℕ, zero, suc, ◌+◌, ◌-◌, ◌≤◌, ◌==◌, ◌&&◌, not, nat_le}
use Rattle.std.proofs.Common.{Bool, true, false, if◌then◌else◌, List, [], ◌∷◌, ◌++◌, append_assoc, length, length-append, take, slice_get, Option, Some, None, arith}
use Rattle.std.specs.List.{flat_map}
use Rattle.std.proofs.lemmas.Bool.Decides.{nat_tests}
use Rattle.std.proofs.lemmas.List.{append-nil}
use Rattle.fl_base.specs.declared.identity.EndId.{EndId}
use Rattle.fl_base.specs.declared.identity.Side.{Side}
use Rattle.fl_base.specs.declared.identity.Side.TheVariants.{Client, Server}
use Rattle.fl_base.specs.Ends.{peer}
use Rattle.fl_base.specs.Given.{given}
use Rattle.fl_value_data.specs.Fits.{fits_of}
use Rattle.fl_value_data.specs.Value.{TheCall}
use Rattle.fl_core.specs.View.{slot_of}
use Rattle.fl_model.specs.Events.{DispatcherId, call, write, turn, reply, Answer, accepted, nothing, handle, refused}
use Rattle.fl_model.specs.Calls.{Planned}
use Rattle.fl_model.specs.Rings.{Label, next_of, says, acknowledges, RingEnd, Room, there_is_room, no_room, spent, looks, takes}
use Rattle.fl_model.specs.Ends.{Queue, joined_by, without_first, Direction, written_of, is_busy, accepts, accepts_or_waits, accepts_waiting, passes, Wrote, writes_by, writes}
use Rattle.fl_model.specs.Ends.{End, is_bound, rule_at, with_rule, holds_back, Taken, whole, a_part, takes_one, comes_to, replies}
use Rattle.fl_model.specs.Waits.{Dispatcher, triggers, waits_in, Due, pending, polled, no_one, due}
use Rattle.fl_model.specs.State.{Back, local, over_ring, over_route, Binding, State, StepOutcome, answers, Outlet, peer_queue, ring_side, dispatcher_of, binding_of}
use Rattle.fl_model.specs.State.{interface_of, end_in, end_of, outlet_by, own_ring, first_on, change_ring, change_end, change_out, change_channel, in_queue, delivers}
use Rattle.fl_model.specs.Sending.{outlet_room, makes_sure_of, puts_to, writes_to, calls as machine_calls, writes_fragment}
use Rattle.fl_model.specs.Taking.{Chosen, chosen, takes_next, taken_answer, takes_label, goes_back, gives_by, gives, finds, examines, turns_by, turns as machine_turns}
use Rattle.fl_model.specs.Taking.{has_message, arguments_of, sets_rule}
use Rattle.fl_interface.specs.SameTypes.{same_arguments}
use Rattle.fl_model.specs.Step.{settles_by, settles, step}
use Rattle.fl_model.specs.Runs.{same_side, same_end, reached}
use Rattle.fl_model.specs.Laws.{accepted_by, waiting_at}
use Rattle.fl_model.specs.Sound.{Sound}
use Rattle.fl_model.specs.SoundPlaces.{stations}
use Rattle.fl_model_laws.proofs.Cases.{either, by_given}
use Rattle.fl_model_laws.proofs.Ends.{end_alike, same_end_true, elsewhere, here, Has, has_kept}
use Rattle.fl_model_laws.proofs.EndsStep.{queue_out}
use Rattle.fl_model_laws.proofs.Places.{changed_other}
use Rattle.fl_model_laws.proofs.Replies.{EndOk, taken_ok}
use Rattle.fl_model_laws.proofs.RepliesStep.{same_out}
use Rattle.fl_model_laws.proofs.Small.{changed_here}
use Rattle.fl_model_laws.proofs.SoundSteps.{steps_are_sound}
use Rattle.fl_world_refines.proofs.FramesBase.{same_some, end_of_binding}
use Rattle.fl_core_run.specs.Accepted.{accepted_of}
use Rattle.fl_cores_file.specs.Jobs.{Job, opens, replies as rule_job, calls as call_job, own_calls, rule_for, reply_to}
use Rattle.fl_core_refines.specs.AloneTurns.{here as at_core, swept}
use Rattle.fl_core_refines.specs.AloneCalls.{CallProgress, CallRun, CallTask, post_at, at_post, next_call, does, one_made, one_handled, with_made, with_handled}
use Rattle.fl_core_refines.specs.AloneCalls.{calls, serves, has_turn, serves_at, one_turn, turned}
use Rattle.fl_cores.specs.OneCore.{rule_in, post_for}

-- ---- what is read off an end: what it came to send, and its reply rules

pub record Sent : Type 0 where
  pub all : List TheCall
  pub rules : List (Option ℕ)

abbrev pub all_of : Direction → List TheCall
all_of d = d.accepted ++ d.waiting

abbrev sent_as : List TheCall → List (Option ℕ) → Sent
sent_as all rules = record { all = all; rules = rules }

abbrev sent_by_end : End → Sent
sent_by_end x = sent_as (all_of x.out) x.rules

abbrev pub sent_in : Option End → Sent
sent_in o = record { all = given o [] λ x. x.out.accepted ++ x.out.waiting; rules = given o [] λ x. x.rules }

abbrev pub sent_at : State → EndId → Sent
sent_at s e = sent_in (end_of s e)

out_sent : (x : End) (d : Direction) → all_of d ≡ all_of x.out → sent_by_end (record x { out = d }) ≡ sent_by_end x
out_sent x d q = ap (λ (cs : List TheCall). sent_as cs x.rules) q

queue_sent : (g : Queue → Queue) (x : End) → sent_by_end (in_queue g x) ≡ sent_by_end x
queue_sent g x = by_given (λ (y : End). sent_by_end y ≡ sent_by_end x) x.queue x _ refl (λ q r. refl)

channel_sent : (e f : EndId) (g : ℕ → End → Dispatcher → Dispatcher) (s : State) → sent_at (change_channel f g s) e ≡ sent_at s e
channel_sent e f g s =
    by_given (λ (t : State). sent_at t e ≡ sent_at s e) (end_of s f) _ _ refl
    (λ x q. by_given (λ (t : State). sent_at t e ≡ sent_at s e) x.seat _ _ refl (λ seat r. refl))

delivered_sent : (e : EndId) (l : Label) (f : EndId) (s : State) → sent_at (delivers l f s) e ≡ sent_at s e
delivered_sent e l f s =
    channel_sent e f (λ c x. triggers c) (change_end f (in_queue (joined_by l)) s)
    ∙ end_alike sent_in e f (in_queue (joined_by l)) s (λ x. queue_sent (joined_by l) x)

settled_sent : (e : EndId) (a : Answer) (s : State) → sent_at (settles_by a s) e ≡ sent_at s e
settled_sent e (refused n) s = refl
settled_sent e a s = refl

-- what leaves an end with just that
abbrev Keeps : EndId → State → StepOutcome → Type 0
Keeps e s o = sent_at o.state e ≡ sent_at s e

-- ---- a write: at most it accepts the first reply that waits

next_all : (d : Direction) (ws : List TheCall) → d.waiting ≡ ws → all_of (accepts_waiting ws d) ≡ all_of d
next_all d [] q = refl
next_all d (c ∷ cs) q = append_assoc d.accepted (c ∷ []) cs ∙ ap (λ (w : List TheCall). d.accepted ++ w) (sym q)

pub writes_all : (i : Planned) (d : Direction) → all_of (writes i d there_is_room).direction ≡ all_of d
writes_all i d =
    either (λ (w : Wrote). all_of w.direction ≡ all_of d) (is_busy i d) (writes_by i d there_is_room) _
    (λ q. either (λ (k : Direction). all_of k ≡ all_of d) (is_busy i (passes 0 d)) (passes 0 d) (accepts_waiting d.waiting (passes 0 d)) (λ r. refl)
    (λ r. next_all (passes 0 d) d.waiting refl))
    (λ q. refl)

put_sent : (e f : EndId) (o : Outlet) (l : Label) (s : State) → sent_at (puts_to f o l s) e ≡ sent_at s e
put_sent e f peer_queue l s = delivered_sent e l (peer f) s
put_sent e f (ring_side at) l s = refl

sure_sent : (e : EndId) (o : Outlet) (s : State) → sent_at (makes_sure_of o s) e ≡ sent_at s e
sure_sent e peer_queue s = refl
sure_sent e (ring_side at) s = refl

wrote_sent : (e f : EndId) (i : Planned) (d : Direction) (o : Outlet) (r : Room) (s : State) → sent_at (writes_to f i d o r s).state e ≡ sent_at s e
wrote_sent e f i d o there_is_room s =
    put_sent e f o (next_of f (written_of d)) (change_out f (λ k. (writes i k there_is_room).direction) s)
    ∙ end_alike sent_in e f (λ x. record x { out = (writes i x.out there_is_room).direction }) s
    (λ x. out_sent x (writes i x.out there_is_room).direction (writes_all i x.out))
wrote_sent e f i d o no_room s = refl
wrote_sent e f i d o spent s = refl

write_sent : (e f : EndId) (s : State) → Keeps e s (writes_fragment f s)
write_sent e f s =
    by_given (Keeps e s) (binding_of s f) _ _ refl
    (λ b p. by_given (Keeps e s) (interface_of s b) _ _ refl
    (λ i q. either (Keeps e s) (not (is_bound (end_in f.side b))) _ _ (λ r. refl)
    (λ r. either (Keeps e s) (not (is_busy i (end_in f.side b).out)) _ _ (λ t. refl)
    (λ t. by_given (Keeps e s) (outlet_by s f.side b.back) _ _ refl
    (λ o u. wrote_sent e f i (end_in f.side b).out o (outlet_room f o (makes_sure_of o s)) (makes_sure_of o s) ∙ sure_sent e o s)))))

write_keeps : (e f : EndId) (s : State) → Keeps e s (step s (write f))
write_keeps e f s = settled_sent e (writes_fragment f s).answer (writes_fragment f s).state ∙ write_sent e f s

-- ---- a reply rule: calls stay

abbrev KeepsAll : EndId → State → StepOutcome → Type 0
KeepsAll e s o = (sent_at o.state e).all ≡ (sent_at s e).all

rule_sent : (e f : EndId) (msg answer : ℕ) (s : State) → KeepsAll e s (sets_rule f msg answer s)
rule_sent e f msg answer s =
    by_given (KeepsAll e s) (binding_of s f) _ _ refl
    (λ b p. by_given (KeepsAll e s) (interface_of s b) _ _ refl
    (λ i q. either (KeepsAll e s) (not (has_message msg i && has_message answer i)) _ _ (λ r. refl)
    (λ r. either (KeepsAll e s) (not (same_arguments (arguments_of msg i) (arguments_of answer i))) _ _ (λ t. refl)
    (λ t. end_alike (λ (o : Option End). (sent_in o).all) e f (with_rule msg answer) s (λ x. refl)))))

rule_keeps : (e f : EndId) (msg answer : ℕ) (s : State) → KeepsAll e s (step s (reply f msg answer))
rule_keeps e f msg answer s =
    ap (λ (k : Sent). k.all) (settled_sent e (sets_rule f msg answer s).answer (sets_rule f msg answer s).state) ∙ rule_sent e f msg answer s

pub job_keeps : (job : Job) (e : EndId) (s : State) → (sent_at (reached s (rule_in job)) e).all ≡ (sent_at s e).all
job_keeps (rule_job f msg answer) e s = rule_keeps e f msg answer s
job_keeps (opens request) e s = refl
job_keeps (call_job f c) e s = refl

-- ---- a call

record Accepts (f : EndId) (c : TheCall) (s : State) (o : StepOutcome) : Type 0 where
  pub binding : Binding
  pub binding_is : binding_of s f ≡ Some binding
  pub interface : Planned
  pub interface_is : interface_of s binding ≡ Some interface
  pub free : is_busy interface (end_in f.side binding).out ≡ false
  pub outcome : o ≡ answers (change_out f (accepts c) s) accepted

-- it is refused, or accepted
abbrev Called : EndId → TheCall → State → StepOutcome → Type 0
Called f c s o = ((n : ℕ) × (o ≡ answers s (refused n))) ⊎ Accepts f c s o

call_comes : (f : EndId) (c : TheCall) (s : State) → Called f c s (machine_calls f c s)
call_comes f c s =
    by_given (Called f c s) (binding_of s f) _ _ (inl (92, refl))
    (λ b p. by_given (Called f c s) (interface_of s b) _ _ (inl (92, refl))
    (λ i q. either (Called f c s) (nat_le (length i.interface.messages) c.msg) _ _ (λ r. inl (41, refl))
    (λ r. either (Called f c s) (not (fits_of i.interface c)) _ _ (λ t. inl (42, refl))
    (λ t. either (Called f c s) (not (is_bound (end_in f.side b))) _ _ (λ u. inl (43, refl))
    (λ u. either (Called f c s) (is_busy i (end_in f.side b).out) _ _ (λ v. inl (40, refl))
    (λ v. inr (record { binding = b; binding_is = p; interface = i; interface_is = q; free = v; outcome = refl })))))))

pub none_wait : (busy : Bool) (ws : List TheCall) → (ws ≢ [] → busy ≡ true) → busy ≡ false → ws ≡ []
none_wait busy [] k q = refl
none_wait busy (w ∷ ws) k q =
    let waits : busy ≡ true = k (λ none. let clash : w ∷ ws ≡ [] = none in absurd (cc)) in
    let clash : true ≡ false = sym waits ∙ q in
    absurd (cc)

-- one more, where none wait
pub one_more : (asked waiting : List TheCall) (c : TheCall) → waiting ≡ [] → (asked ++ c ∷ []) ++ waiting ≡ (asked ++ waiting) ++ c ∷ []
one_more asked waiting c none =
    ap (λ (ws : List TheCall). (asked ++ c ∷ []) ++ ws) none
    ∙ append-nil (asked ++ c ∷ [])
    ∙ ap (λ (cs : List TheCall). cs ++ c ∷ []) (sym (append-nil asked))
    ∙ ap (λ (ws : List TheCall). (asked ++ ws) ++ c ∷ []) (sym none)

-- ---- a turn: the end that handles a call replies by its rules

abbrev pub reply_on : TheCall → Option ℕ → List TheCall
reply_on c o = given o [] λ msg. record { msg = msg; args = c.args } ∷ []

abbrev replies_of : List (Option ℕ) → TheCall → List TheCall
replies_of rules c = reply_on c (rule_at rules c.msg)

abbrev replied : TheCall → Sent → Sent
replied c k = record k { all = k.all ++ replies_of k.rules c }

abbrev Quiet : Answer → Type 0
Quiet a = (b : CallRun) → with_handled a b ≡ b

record Handles (e : EndId) (s : State) (o : StepOutcome) : Type 0 where
  pub end : EndId
  pub handled : TheCall
  pub answer_is : o.answer ≡ handle end handled
  pub sent : sent_at o.state e ≡ (if same_end e end then replied handled (sent_at s e) else sent_at s e)

abbrev Turned : EndId → State → StepOutcome → Type 0
Turned e s o = (Quiet o.answer × Keeps e s o) ⊎ Handles e s o

pub reply_all : (i : Planned) (r : TheCall) (d : Direction) → (d.waiting ≢ [] → is_busy i d ≡ true) → all_of (accepts_or_waits i r d) ≡ all_of d ++ r ∷ []
reply_all i r d k =
    either (λ (g : Direction). all_of g ≡ all_of d ++ r ∷ []) (is_busy i d) _ _
    (λ q. sym (append_assoc d.accepted d.waiting (r ∷ [])))
    (λ q. one_more d.accepted d.waiting r (none_wait (is_busy i d) d.waiting k q))

replied_by : (i : Planned) (c : TheCall) (x : End) (o : Option ℕ) → EndOk i x
    → sent_by_end (given o x λ msg. record x { out = accepts_or_waits i (record { msg = msg; args = c.args }) x.out })
    ≡ sent_as (all_of x.out ++ reply_on c o) x.rules
replied_by i c x None h = ap (λ (cs : List TheCall). sent_as cs x.rules) (sym (append-nil (all_of x.out)))
replied_by i c x (Some msg) h = ap (λ (cs : List TheCall). sent_as cs x.rules) (reply_all i (record { msg = msg; args = c.args }) x.out h.busy)

replied_end : (i : Planned) (c : TheCall) (x : End) → EndOk i x → sent_by_end (replies i (whole c) x) ≡ replied c (sent_by_end x)
replied_end i c x h = replied_by i c x (rule_at x.rules c.msg) h

handled_sent : (b : Bool) (e f : EndId) (c : TheCall) (i : Planned) (w : State) → same_end e f ≡ b → Has (EndOk i) w f
    → sent_at (change_end f (replies i (whole c)) w) e ≡ (if b then replied c (sent_at w e) else sent_at w e)
handled_sent true e f c i w q h =
    subst (λ (g : EndId). sent_at (change_end f (replies i (whole c)) w) g ≡ replied c (sent_at w g)) (sym (same_end_true e f q))
    (ap sent_in (here f (replies i (whole c)) w h.end h.there)
    ∙ replied_end i c h.end h.holds
    ∙ sym (ap (λ (o : Option End). replied c (sent_in o)) h.there))
handled_sent false e f c i w q h = ap sent_in (elsewhere e f (replies i (whole c)) w q)

took_sent : (e f sender : EndId) (t : Taken) (i : Planned) (s u : State) → Has (EndOk i) u f → sent_at u e ≡ sent_at s e
    → Turned e s (answers (takes_next f sender t i u) (taken_answer f t))
took_sent e f sender t i s u h same = by t
  where
    w : State
    w = change_out sender takes_one u

    alike : sent_at w e ≡ sent_at s e
    alike = end_alike sent_in e sender (λ y. record y { out = takes_one y.out }) u (λ y. refl) ∙ same

    has : Has (EndOk i) w f
    has = has_kept (EndOk i) f sender (λ y. record y { out = takes_one y.out }) u (λ y k. taken_ok i y k) h

    by : (t : Taken) → Turned e s (answers (takes_next f sender t i u) (taken_answer f t))
    by a_part = inl ((λ b. refl), end_alike sent_in e f (replies i a_part) w (λ y. refl) ∙ alike)
    by (whole c) = inr (record {
      end = f;
      handled = c;
      answer_is = refl;
      sent = handled_sent (same_end e f) e f c i w refl has ∙ ap (λ (k : Sent). if same_end e f then replied c k else k) alike;
    })

label_sent : (e f : EndId) (l : Label) (i : Planned) (s u : State) → Has (EndOk i) u f → sent_at u e ≡ sent_at s e → Turned e s (takes_label f i l u)
label_sent e f (next_of sender k) i s u h same =
    by_given (Turned e s) (end_of u sender) _ _ (inl ((λ b. refl), same)) (λ y q. took_sent e f sender (comes_to i y.out) i s u h same)
label_sent e f (says m) i s u h same = inl ((λ b. refl), same)
label_sent e f acknowledges i s u h same = inl ((λ b. refl), same)

-- an end of a sound state
two_by : (back : Back) (s : State) (n : ℕ) (b : Binding) → Sound s → slice_get s.bindings n ≡ Some b → b.back ≡ back → 2 ≤ stations back
two_by local s n b sound q r = omega arith
two_by (over_ring m) s n b sound q r = omega arith
two_by (over_route route) s n b sound q r =
    let some : 2 ≤ length route.cores = (sound.routes n route (record { binding = b; there = q; back = r })).some in
    omega (arith, some)

ok_at : (s : State) (f : EndId) (b : Binding) (i : Planned) → Sound s → binding_of s f ≡ Some b → interface_of s b ≡ Some i → Has (EndOk i) s f
ok_at s f b i sound p q =
    let there = end_of_binding s f b p in
    let stands = sound.ends f (end_in f.side b) there in
    let same : stands.binding ≡ b = same_some (binding_of s f) stands.binding b stands.there p in
    let passed : length (end_in f.side b).out.passed ≡ stations b.back
    = stands.passed ∙ ap (λ (w : Binding). stations w.back) same in
    let two : 2 ≤ stations b.back = two_by b.back s f.binding b sound p refl in
    record {
      end = end_in f.side b;
      there = there;
      holds = record { stations = omega (arith, passed, two); busy = sound.busy f b i p q; few = sound.waiting f (end_in f.side b) there };
    }

nothing_sent : (e : EndId) (s : State) → Turned e s (answers s nothing)
nothing_sent e s = inl ((λ b. refl), refl)

given_sent : (e : EndId) (t : Chosen) (i : Planned) (o : Option Queue) (back : Back) (s : State) → Has (EndOk i) s t.end → Turned e s (gives_by t i o back s)
given_sent e t i (Some q) back s h =
    by_given (Turned e s) (slice_get q.labels 0) _ _ (inl ((λ b. refl), refl))
    (λ label u.
    let emptied : Has (EndOk i) (change_end t.end (in_queue without_first) s) t.end =
    has_kept (EndOk i) t.end t.end (in_queue without_first) s
    (λ y k. same_out i y (in_queue without_first y) (queue_out y without_first) k) h in
    label_sent e t.end label i s (goes_back t (waits_in (Some (without_first q))) (change_end t.end (in_queue without_first) s))
    (record { end = emptied.end; there = emptied.there; holds = emptied.holds })
    (end_alike sent_in e t.end (in_queue without_first) s (λ x. queue_sent without_first x)))
given_sent e t i None back s h =
    by_given (Turned e s) (own_ring t.end.side back) _ _ (nothing_sent e s)
    (λ at u. by_given (Turned e s) (first_on at s) _ _ (inl ((λ b. refl), refl))
    (λ first v. label_sent e t.end first.label i s (goes_back t (waits_in None) (change_ring at.ring (takes at.side) s))
    (record { end = h.end; there = h.there; holds = h.holds }) refl))

gives_sent : (e : EndId) (t : Chosen) (s : State) → Sound s → Turned e s (gives t s)
gives_sent e t s sound =
    by_given (Turned e s) (binding_of s t.end) _ _ (nothing_sent e s)
    (λ b p. by_given (Turned e s) (interface_of s b) _ _ (nothing_sent e s)
    (λ i q. either (Turned e s) (holds_back (end_in t.end.side b)) _ _ (λ r. inl ((λ x. refl), refl))
    (λ r. given_sent e t i (end_in t.end.side b).queue b.back s (ok_at s t.end b i sound p q))))

found_sent : (e : EndId) (t : Chosen) (at : RingEnd) (l : Label) (s u : State) → sent_at u e ≡ sent_at s e → Turned e s (finds t at l u)
found_sent e t at acknowledges s u same = inl ((λ b. refl), same)
found_sent e t at (next_of f k) s u same = inl ((λ b. refl), same)
found_sent e t at (says m) s u same = inl ((λ b. refl), same)

examines_sent : (e : EndId) (t : Chosen) (s : State) → Turned e s (examines t s)
examines_sent e t s =
    by_given (Turned e s) (binding_of s t.end) _ _ (nothing_sent e s)
    (λ b p. by_given (Turned e s) (own_ring t.end.side b.back) _ _ (nothing_sent e s)
    (λ at q. by_given (Turned e s) (first_on at s) _ _ (inl ((λ x. refl), refl))
    (λ first r. found_sent e t at first.label s (change_ring at.ring (looks at.side) s) refl)))

due_sent : (e : EndId) (d : DispatcherId) (x : Dispatcher) (w : Due) (s : State) → Sound s → Turned e s (turns_by d x w s)
due_sent e d x (pending c) s sound = by_given (Turned e s) (slice_get x.ends c) _ _ (nothing_sent e s) (λ f q. gives_sent e (chosen d c f) s sound)
due_sent e d x (polled c) s sound = by_given (Turned e s) (slice_get x.ends c) _ _ (nothing_sent e s) (λ f q. examines_sent e (chosen d c f) s)
due_sent e d x no_one s sound = nothing_sent e s

turn_sent : (e : EndId) (d : DispatcherId) (s : State) → Sound s → Turned e s (machine_turns d s)
turn_sent e d s sound = by_given (Turned e s) (dispatcher_of s d) _ _ (inl ((λ b. refl), refl)) (λ x q. due_sent e d x (due x) s sound)

turn_keeps : (e : EndId) (d : DispatcherId) (s : State) → Sound s → Turned e s (step s (turn d))
turn_keeps e d s sound =
    let o : StepOutcome = machine_turns d s in
    elim (turn_sent e d s sound) [
      | inl both ↦ inl (both.0, settled_sent e o.answer o.state ∙ both.1)
      | inr h ↦ inr (record { end = h.end; handled = h.handled; answer_is = h.answer_is; sent = settled_sent e o.answer o.state ∙ h.sent })
    ]

-- ---- ends and slots

abbrev an_end : ℕ → Side → EndId
an_end binding side = record { binding = binding; side = side }

one_slot : (e f : EndId) → slot_of e ≡ slot_of f → e ≡ f
one_slot e f same = by e.binding f.binding e.side f.side same
  where
    by : (a b : ℕ) (s t : Side) → slot_of (record { binding = a; side = s }) ≡ slot_of (record { binding = b; side = t }) → an_end a s ≡ an_end b t
    by a b Client Client same = let one : a ≡ b = omega (arith, same) in ap (λ (n : ℕ). an_end n Client) one
    by a b Client Server same = absurd (omega (arith, same))
    by a b Server Client same = absurd (omega (arith, same))
    by a b Server Server same = let one : a ≡ b = omega (arith, same) in ap (λ (n : ℕ). an_end n Server) one

side_self : (s : Side) → same_side s s ≡ true
side_self Client = refl
side_self Server = refl

end_self : (e : EndId) → same_end e e ≡ true
end_self e =
    let binding : (e.binding == e.binding) ≡ true = grind (arith, nat_tests) in
    ap (λ (b : Bool). b && same_side e.side e.side) binding ∙ side_self e.side

other_slot : (e f : EndId) → same_end e f ≡ false → slot_of e ≢ slot_of f
other_slot e f q same =
    let clash : true ≡ false = sym (end_self e) ∙ ap (λ (g : EndId). same_end e g) (one_slot e f same) ∙ q in
    absurd (cc)

-- ---- a run of calls

-- an end came to send the calls of its post that are made, and the replies by its rules to those that it handled
pub record Sends (jobs : List Job) (e : EndId) (a : CallRun) : Type 0 where
  pub sound : Sound a.state
  pub rules : (msg : ℕ) → rule_at (sent_at a.state e).rules msg ≡ rule_for jobs e msg
  pub post : CallProgress
  pub post_is : post_at a e ≡ Some post
  pub calls_are : post.calls ≡ own_calls jobs e
  pub sent : (sent_at a.state e).all ≡ take post.made post.calls ++ flat_map (reply_to jobs e) post.handled

-- it has no calls of its own, or no rules
abbrev pub CallsOrReplies : List Job → EndId → Type 0
CallsOrReplies jobs e = (own_calls jobs e ≡ []) ⊎ ((cs : List TheCall) → flat_map (reply_to jobs e) cs ≡ [])

take_next : (cs : List TheCall) (n : ℕ) (c : TheCall) → slice_get cs n ≡ Some c → take (suc n) cs ≡ take n cs ++ c ∷ []
take_next [] n c q = absurd (cc)
take_next (x ∷ cs) zero c q = let same : x ≡ c = same_some (Some x) x c refl q in ap (λ (y : TheCall). y ∷ []) same
take_next (x ∷ cs) (suc n) c q = ap (λ (ys : List TheCall). x ∷ ys) (take_next cs n c q)

flat_last : (f : TheCall → List TheCall) (xs : List TheCall) (x : TheCall) → flat_map f (xs ++ x ∷ []) ≡ flat_map f xs ++ f x
flat_last f [] x = append-nil (f x)
flat_last f (y ∷ ys) x = ap (λ (zs : List TheCall). f y ++ zs) (flat_last f ys x) ∙ sym (append_assoc (f y) (flat_map f ys) (f x))

-- a call that was accepted, and is made
abbrev made_by : EndId → TheCall → CallRun → CallRun
made_by f c a = at_post f one_made (record a { state = record (change_out f (accepts c) a.state) { may_set_cores = false } })

module _ (jobs : List Job) (e : EndId) (alone : CallsOrReplies jobs e) where
  stays : (a b : CallRun) → Sound b.state → post_at b e ≡ post_at a e → sent_at b.state e ≡ sent_at a.state e → Sends jobs e a → Sends jobs e b
  stays a b sound post same h = record {
    sound = sound;
    rules = λ msg. ap (λ (k : Sent). rule_at k.rules msg) same ∙ h.rules msg;
    post = h.post;
    post_is = post ∙ h.post_is;
    calls_are = h.calls_are;
    sent = ap (λ (k : Sent). k.all) same ∙ h.sent;
  }

  other_post : (f : EndId) (change : CallProgress → CallProgress) (a : CallRun) → same_end e f ≡ false → post_at (at_post f change a) e ≡ post_at a e
  other_post f change a q = changed_other a.posts (slot_of f) (slot_of e) change (other_slot e f q)

  -- ---- a call

  sound_made : (f : EndId) (c : TheCall) (a : CallRun) → Accepts f c a.state (machine_calls f c a.state) → Sound a.state
      → Sound (record (change_out f (accepts c) a.state) { may_set_cores = false })
  sound_made f c a x sound = subst Sound (ap (λ (o : StepOutcome). (settles (call f c) o).state) x.outcome) (steps_are_sound a.state (call f c) sound)

  none_replied : (cs : List TheCall) (n : ℕ) (c : TheCall) (handled : List TheCall) → cs ≡ own_calls jobs e → slice_get cs n ≡ Some c
      → flat_map (reply_to jobs e) handled ≡ []
  none_replied cs n c handled are next = elim alone [
    | inl none ↦
        (let clash : slice_get [] n ≡ Some c = ap (λ (xs : List TheCall). slice_get xs n) (sym (are ∙ none)) ∙ next in
        absurd (cc))
    | inr no_rules ↦ no_rules handled
  ]

  one_made_more : (cs : List TheCall) (n : ℕ) (c : TheCall) (replied_to : List TheCall) → slice_get cs n ≡ Some c → replied_to ≡ []
      → (take n cs ++ replied_to) ++ c ∷ [] ≡ take (n + 1) cs ++ replied_to
  one_made_more cs n c replied_to next none =
      let count : suc n ≡ n + 1 = omega arith in
      sym (one_more (take n cs) replied_to c none)
      ∙ ap (λ (xs : List TheCall). xs ++ replied_to) (sym (take_next cs n c next) ∙ ap (λ (m : ℕ). take m cs) count)

  own_made : (c : TheCall) (a : CallRun) → Accepts e c a.state (machine_calls e c a.state) → next_call a e ≡ Some c → Sends jobs e a → Sends jobs e (made_by e c a)
  own_made c a x next h =
      let y : End = end_in e.side x.binding in
      let there : end_of a.state e ≡ Some y = end_of_binding a.state e x.binding x.binding_is in
      let at : slice_get h.post.calls h.post.made ≡ Some c
      = sym (ap (λ (o : Option CallProgress). given o None λ p. slice_get p.calls p.made) h.post_is) ∙ next in
      let none : y.out.waiting ≡ []
      = none_wait (is_busy x.interface y.out) y.out.waiting (h.sound.busy e x.binding x.interface x.binding_is x.interface_is) x.free in
      let was : sent_at a.state e ≡ sent_by_end y = ap sent_in there in
      let now : sent_at (made_by e c a).state e ≡ sent_by_end (record y { out = accepts c y.out })
      = ap sent_in (here e (λ z. record z { out = accepts c z.out }) a.state y there) in
      let no_reply = none_replied h.post.calls h.post.made c h.post.handled h.calls_are at in
      record {
        sound = sound_made e c a x h.sound;
        rules = λ msg. ap (λ (k : Sent). rule_at k.rules msg) now ∙ sym (ap (λ (k : Sent). rule_at k.rules msg) was) ∙ h.rules msg;
        post = one_made h.post;
        post_is = changed_here a.posts (slot_of e) one_made h.post h.post_is;
        calls_are = h.calls_are;
        sent = ap (λ (k : Sent). k.all) now
            ∙ one_more y.out.accepted y.out.waiting c none
            ∙ sym (ap (λ (k : Sent). k.all ++ c ∷ []) was)
            ∙ ap (λ (cs : List TheCall). cs ++ c ∷ []) h.sent
            ∙ one_made_more h.post.calls h.post.made c (flat_map (reply_to jobs e) h.post.handled) at no_reply;
      }

  accepted_sends : (b : Bool) (f : EndId) (c : TheCall) (a : CallRun) → Accepts f c a.state (machine_calls f c a.state) → same_end e f ≡ b
      → next_call a f ≡ Some c → Sends jobs e a → Sends jobs e (made_by f c a)
  accepted_sends true f c a x q next h =
      let is : e ≡ f = same_end_true e f q in
      subst (λ (g : EndId). Sends jobs e (made_by g c a)) is
      (own_made c a (subst (λ (g : EndId). Accepts g c a.state (machine_calls g c a.state)) (sym is) x)
      (subst (λ (g : EndId). next_call a g ≡ Some c) (sym is) next) h)
  accepted_sends false f c a x q next h =
      stays a (made_by f c a) (sound_made f c a x h.sound)
      (other_post f one_made (record a { state = record (change_out f (accepts c) a.state) { may_set_cores = false } }) q)
      (ap sent_in (elsewhere e f (λ y. record y { out = accepts c y.out }) a.state q)) h

  call_sends : (f : EndId) (c : TheCall) (a : CallRun) → next_call a f ≡ Some c → Sends jobs e a → Sends jobs e (calls f c a)
  call_sends f c a next h = elim (call_comes f c a.state) [
    | inl (n, q) ↦ subst (Sends jobs e) (sym (ap (λ (o : StepOutcome). with_made f (settles (call f c) o).answer (record a { state = (settles (call f c) o).state })) q)) h
    | inr x ↦
        subst (Sends jobs e)
        (sym (ap (λ (o : StepOutcome). with_made f (settles (call f c) o).answer (record a { state = (settles (call f c) o).state })) x.outcome))
        (accepted_sends (same_end e f) f c a x refl next h)
  ]

  -- ---- an end in order

  write_sends : (f : EndId) (a : CallRun) → Sends jobs e a → Sends jobs e (does (write f) a)
  write_sends f a h = stays a (does (write f) a) (steps_are_sound a.state (write f) h.sound) refl (write_keeps e f a.state) h

  serves_sends : (f : EndId) (a : CallRun) → Sends jobs e a → Sends jobs e (serves f a)
  serves_sends f a h =
      write_sends f (given (next_call a f) a λ c. calls f c a)
      (by_given (Sends jobs e) (next_call a f) a (λ c. calls f c a) h (λ c q. call_sends f c a q h))

  -- ---- a turn

  own_handled : (c : TheCall) (a b : CallRun) → Sound b.state → post_at b e ≡ post_at a e → sent_at b.state e ≡ replied c (sent_at a.state e) → Sends jobs e a
      → Sends jobs e (at_post e (one_handled c) b)
  own_handled c a b sound posts now h =
      let made : List TheCall = take h.post.made h.post.calls in
      let before : List TheCall = flat_map (reply_to jobs e) h.post.handled in
      let by_rule : replies_of (sent_at a.state e).rules c ≡ reply_to jobs e c
      = ap (reply_on c) (h.rules c.msg) in
      record {
        sound = sound;
        rules = λ msg. ap (λ (k : Sent). rule_at k.rules msg) now ∙ h.rules msg;
        post = one_handled c h.post;
        post_is = changed_here b.posts (slot_of e) (one_handled c) h.post (posts ∙ h.post_is);
        calls_are = h.calls_are;
        sent = ap (λ (k : Sent). k.all) now
            ∙ ap (λ (cs : List TheCall). cs ++ replies_of (sent_at a.state e).rules c) h.sent
            ∙ ap (λ (cs : List TheCall). (made ++ before) ++ cs) by_rule
            ∙ append_assoc made before (reply_to jobs e c)
            ∙ ap (λ (cs : List TheCall). made ++ cs) (sym (flat_last (reply_to jobs e) h.post.handled c));
      }

  handled_sends : (t : Bool) (d : ℕ) (a : CallRun) (x : Handles e a.state (step a.state (turn (at_core d)))) → same_end e x.end ≡ t → Sends jobs e a
      → Sends jobs e (at_post x.end (one_handled x.handled) (does (turn (at_core d)) a))
  handled_sends true d a x q h =
      let b : CallRun = does (turn (at_core d)) a in
      subst (λ (g : EndId). Sends jobs e (at_post g (one_handled x.handled) b)) (same_end_true e x.end q)
      (own_handled x.handled a b (steps_are_sound a.state (turn (at_core d)) h.sound) refl
      (x.sent ∙ ap (λ (t : Bool). if t then replied x.handled (sent_at a.state e) else sent_at a.state e) q) h)
  handled_sends false d a x q h =
      let b : CallRun = does (turn (at_core d)) a in
      stays a (at_post x.end (one_handled x.handled) b) (steps_are_sound a.state (turn (at_core d)) h.sound) (other_post x.end (one_handled x.handled) b q)
      (x.sent ∙ ap (λ (t : Bool). if t then replied x.handled (sent_at a.state e) else sent_at a.state e) q) h

  turn_sends : (d : ℕ) (a : CallRun) → Sends jobs e a → Sends jobs e (has_turn d a)
  turn_sends d a h =
      let b : CallRun = does (turn (at_core d)) a in
      elim (turn_keeps e (at_core d) a.state h.sound) [
        | inl both ↦
            subst (Sends jobs e) (sym (both.0 b)) (stays a b (steps_are_sound a.state (turn (at_core d)) h.sound) refl both.1 h)
        | inr x ↦
            subst (Sends jobs e) (sym (ap (λ (w : Answer). with_handled w b) x.answer_is)) (handled_sends (same_end e x.end) d a x refl h)
      ]

  -- ---- so many turns

  swept_sends : (f : ℕ → CallRun → CallRun) → ((n : ℕ) (a : CallRun) → Sends jobs e a → Sends jobs e (f n a)) → (n : ℕ) (a : CallRun) → Sends jobs e a
      → Sends jobs e (swept f n a)
  swept_sends f one zero a h = h
  swept_sends f one (suc n) a h = one n (swept f n a) (swept_sends f one n a h)

  served_sends : (p : CallTask) (n : ℕ) (a : CallRun) → Sends jobs e a → Sends jobs e (serves_at p n a)
  served_sends p n a h = by_given (Sends jobs e) (slice_get p.ends n) a (λ f. serves f a) h (λ f q. serves_sends f a h)

  round_sends : (p : CallTask) (k : ℕ) (a : CallRun) → Sends jobs e a → Sends jobs e (one_turn p a)
  round_sends p k a h =
      swept_sends has_turn turn_sends p.dispatchers (swept (serves_at p) (length p.ends) a) (swept_sends (serves_at p) (served_sends p) (length p.ends) a h)

  pub turns_send : (p : CallTask) (n : ℕ) (a : CallRun) → Sends jobs e a → Sends jobs e (turned p n a)
  turns_send p n a h = swept_sends (λ k. one_turn p) (round_sends p) n a h

-- ---- as it begins

-- it came to send nothing yet, and has the rules of its jobs
pub record Begun (jobs : List Job) (s : State) (e : EndId) : Type 0 where
  pub none : (sent_at s e).all ≡ []
  pub rules : (msg : ℕ) → rule_at (sent_at s e).rules msg ≡ rule_for jobs e msg

pub first_sends : (jobs : List Job) (e : EndId) (a : CallRun) → Sound a.state → Begun jobs a.state e → post_at a e ≡ Some (post_for jobs e) → Sends jobs e a
first_sends jobs e a sound begun post = record {
  sound = sound;
  rules = begun.rules;
  post = post_for jobs e;
  post_is = post;
  calls_are = refl;
  sent = begun.none;
}

-- ---- what it accepted of that

take_front : (xs ys : List TheCall) → take (length xs) (xs ++ ys) ≡ xs
take_front [] ys = refl
take_front (x ∷ xs) ys = ap (λ (zs : List TheCall). x ∷ zs) (take_front xs ys)

pub front : (xs ys : List TheCall) → accepted_of (length ys) (xs ++ ys) ≡ xs
front xs ys =
    let long : length (xs ++ ys) ≡ length xs + length ys = length-append xs ys in
    let number : length (xs ++ ys) - length ys ≡ length xs = omega (arith, long) in
    ap (λ (n : ℕ). take n (xs ++ ys)) number ∙ take_front xs ys

both_lists : (o : Option End) → (sent_in o).all ≡ (given o [] λ x. x.out.accepted) ++ (given o [] λ x. x.out.waiting)
both_lists None = refl
both_lists (Some x) = refl

pub accepted_there : (jobs : List Job) (e : EndId) (a : CallRun) (h : Sends jobs e a)
    → accepted_of (length (waiting_at a.state e)) (take h.post.made h.post.calls ++ flat_map (reply_to jobs e) h.post.handled) ≡ accepted_by a.state e
accepted_there jobs e a h =
    ap (accepted_of (length (waiting_at a.state e))) (sym h.sent ∙ both_lists (end_of a.state e))
    ∙ front (accepted_by a.state e) (waiting_at a.state e)
