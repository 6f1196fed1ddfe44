-- What an end accepted: the calls that it was asked for and that were accepted, and replies by rule, in order.
use Rattle.std.proofs.Common.{◌≡◌, ◌≢◌, refl, sym, ◌∙◌, ap, subst, ℕ, Bool, true, false, if◌then◌else◌, List, [], ◌∷◌, ◌++◌, Option, Some, None, append_assoc}
use Rattle.std.proofs.lemmas.List.{append-nil}
use Rattle.std.specs.List.{cons_option}
use Rattle.fl_base.specs.declared.identity.EndId.{EndId}
use Rattle.fl_base.specs.Ends.{peer}
use Rattle.fl_base.specs.Given.{given}
use Rattle.fl_value_data.specs.Value.{TheCall}
use Rattle.fl_lists.specs.declared.place.Place.TheVariants.{Polled}
use Rattle.fl_model.specs.Events.{Event, call, Answer, accepted, handle}
use Rattle.fl_model.specs.Calls.{Planned}
use Rattle.fl_model.specs.Rings.{Label, next_of, says, acknowledges, RingEnd, there_is_room, takes}
use Rattle.fl_model.specs.Ends.{Queue, End, Direction, is_busy, accepts, accepts_or_waits, accepts_waiting, passes, written_of, Wrote, writes, writes_by, Taken, whole, a_part, takes_one, comes_to, rule_at, replies, without_first}
use Rattle.fl_model.specs.Waits.{waits_in}
use Rattle.fl_model.specs.State.{Binding, State, start, StepOutcome, answers, Outlet, peer_queue, ring_side, end_in, end_of, binding_of, change_end, change_out, change_ring, in_queue}
use Rattle.fl_model.specs.Sending.{puts_to, writes_to}
use Rattle.fl_model.specs.Taking.{Chosen, takes_label, takes_next, taken_answer, goes_back}
use Rattle.fl_model.specs.Step.{step}
use Rattle.fl_model.specs.Runs.{same_end, accepted_in, run, reached, calls_accepted}
use Rattle.fl_model.specs.Laws.{accepted_by, waiting_at, Merged, neither, from_first, from_second, reply_in, replied_in, replies_due, AllAccepted}
use Rattle.fl_model_laws.proofs.Cases.{either, by_given, none_at_end}
use Rattle.fl_model_laws.proofs.Replies.{EndOk, taken_ok}
use Rattle.fl_model_laws.proofs.EndsStep.{AllOk, BindingOk, all_keep, end_ok, queue_out}
use Rattle.fl_model_laws.proofs.RepliesStep.{replies_keep, same_out}
use Rattle.fl_model_laws.proofs.Walk.{At, step_keeps}
use Rattle.fl_model_laws.proofs.Told.{IsPlain, writes_plain}
use Rattle.fl_model_laws.proofs.Ends.{end_at, end_alike, elsewhere, here, same_end_true, Has, has_kept}
use Rattle.fl_model_laws.proofs.Alike.{ReadsCalls, delivered_alike}
use Rattle.fl_model_laws.proofs.Telling.{TellsCalls, tells_of}

-- ---- what is read off an end

record Calls : Type 0 where
  accepted : List TheCall
  waiting : List TheCall

abbrev calls : Direction → Calls
calls d = record { accepted = d.accepted; waiting = d.waiting }

abbrev calls_in : Option End → Calls
calls_in o = record { accepted = given o [] λ x. x.out.accepted; waiting = given o [] λ x. x.out.waiting }

reads_calls : ReadsCalls calls_in
reads_calls = record { by_out = λ x y q. ap calls q; fresh = λ messages stations q. refl }

-- ---- merged lists

merged_after : {xs ys zs ms ns os : List TheCall} → Merged xs ys zs → Merged ms ns os → Merged (xs ++ ms) (ys ++ ns) (zs ++ os)
merged_after neither k = k
merged_after (from_first h) k = from_first (merged_after h k)
merged_after (from_second h) k = from_second (merged_after h k)

-- ---- what a step adds

record Adds (e : EndId) (v : Event) (z : State) (o : StepOutcome) : Type 0 where
  more : List TheCall
  replies : List TheCall
  merged : Merged (accepted_in e v o.answer) replies more
  accepted : accepted_by o.state e ≡ accepted_by z e ++ more
  all : waiting_at z e ++ replied_in e z o.answer ≡ replies ++ waiting_at o.state e

not_accepted : (e : EndId) (v : Event) (a : Answer) → IsPlain a → accepted_in e v a ≡ []
not_accepted e (call f c) accepted h = absurd h
not_accepted e v a h = refl

not_replied : (e : EndId) (z : State) (a : Answer) → IsPlain a → replied_in e z a ≡ []
not_replied e z (handle f c) h = absurd h
not_replied e z a h = refl

handling_accepts_none : (e : EndId) (v : Event) (f : EndId) (c : TheCall) → accepted_in e v (handle f c) ≡ []
handling_accepts_none e (call g d) f c = refl
handling_accepts_none e v f c = refl

-- what is added to one end's calls, of which so many are replies by rule and so many fell due
record Grows (asked due : List TheCall) (x y : Calls) : Type 0 where
  more : List TheCall
  replies : List TheCall
  merged : Merged asked replies more
  accepted : y.accepted ≡ x.accepted ++ more
  all : x.waiting ++ due ≡ replies ++ y.waiting

adds_by : (e : EndId) (v : Event) (z : State) (o : StepOutcome) (x y : Calls) (asked due : List TheCall) → calls_in (end_of z e) ≡ x
    → calls_in (end_of o.state e) ≡ y → accepted_in e v o.answer ≡ asked → replied_in e z o.answer ≡ due → Grows asked due x y → Adds e v z o
adds_by e v z o x y asked due p q r t g = record {
  more = g.more;
  replies = g.replies;
  merged = subst (λ (cs : List TheCall). Merged cs g.replies g.more) (sym r) g.merged;
  accepted = ap (λ (k : Calls). k.accepted) q ∙ g.accepted ∙ ap (λ (k : Calls). k.accepted ++ g.more) (sym p);
  all = ap (λ (k : Calls). k.waiting ++ replied_in e z o.answer) p ∙ ap (λ (cs : List TheCall). x.waiting ++ cs) t ∙ g.all
      ∙ ap (λ (k : Calls). g.replies ++ k.waiting) (sym q);
}

adds_none : (x : Calls) → Grows [] [] x x
adds_none x = record { more = []; replies = []; merged = neither; accepted = sym (append-nil x.accepted); all = append-nil x.waiting }

stays : (e : EndId) (v : Event) (z : State) (o : StepOutcome) → accepted_in e v o.answer ≡ [] → replied_in e z o.answer ≡ []
    → calls_in (end_of o.state e) ≡ calls_in (end_of z e) → Adds e v z o
stays e v z o p q h = adds_by e v z o (calls_in (end_of z e)) (calls_in (end_of z e)) [] [] refl h p q (adds_none _)

plain_adds : (e : EndId) (v : Event) (z : State) (o : StepOutcome) → IsPlain o.answer → calls_in (end_of o.state e) ≡ calls_in (end_of z e) → Adds e v z o
plain_adds e v z o p h = stays e v z o (not_accepted e v o.answer p) (not_replied e z o.answer p) h

-- ---- a call

asks : (c : TheCall) (x : Calls) → Grows (c ∷ []) [] x (record { accepted = x.accepted ++ c ∷ []; waiting = x.waiting })
asks c x = record { more = c ∷ []; replies = []; merged = from_first neither; accepted = refl; all = append-nil x.waiting }

chosen : (e f : EndId) (c : TheCall) (t : Bool) → same_end e f ≡ t → accepted_in e (call f c) accepted ≡ (if t then c ∷ [] else [])
chosen e f c t q = ap (λ (b : Bool). if b then c ∷ [] else []) q

there : (s : State) (f : EndId) (b : Binding) → binding_of s f ≡ Some b → end_of s f ≡ Some (end_in f.side b)
there s f b q = ap (end_at f.side) q

called_by : (t : Bool) (e f : EndId) (c : TheCall) (b : Binding) (z s : State) → same_end e f ≡ t → binding_of s f ≡ Some b
    → calls_in (end_of s e) ≡ calls_in (end_of z e) → Adds e (call f c) z (answers (change_out f (accepts c) s) accepted)
called_by true e f c b z s q at h =
    let x : End = end_in f.side b in
    let is : e ≡ f = same_end_true e f q in
    let was : end_of s e ≡ Some x = subst (λ (g : EndId). end_of s g ≡ Some x) (sym is) (there s f b at) in
    let now : end_of (change_out f (accepts c) s) e ≡ Some (record x { out = accepts c x.out }) =
    subst (λ (g : EndId). end_of (change_out f (accepts c) s) g ≡ Some (record x { out = accepts c x.out })) (sym is)
    (here f (λ y. record y { out = accepts c y.out }) s x (there s f b at)) in
    adds_by e (call f c) z (answers (change_out f (accepts c) s) accepted) (calls x.out) (calls (accepts c x.out)) (c ∷ []) []
    (sym h ∙ ap calls_in was) (ap calls_in now) (chosen e f c true q) refl (asks c (calls x.out))
called_by false e f c b z s q at h =
    stays e (call f c) z (answers (change_out f (accepts c) s) accepted) (chosen e f c false q) refl
    (ap calls_in (elsewhere e f (λ y. record y { out = accepts c y.out }) s q) ∙ h)

-- ---- a write

abbrev Sends : Direction → Direction → Type 0
Sends d k = Grows [] [] (calls d) (calls k)

accepted_next : (d : Direction) (ws : List TheCall) → d.waiting ≡ ws → Sends d (accepts_waiting ws d)
accepted_next d [] q = adds_none (calls d)
accepted_next d (c ∷ cs) q = record { more = c ∷ []; replies = c ∷ []; merged = from_second neither; accepted = refl; all = append-nil d.waiting ∙ q }

writes_on : (i : Planned) (d : Direction) → Sends d (writes i d there_is_room).direction
writes_on i d =
    either (λ (w : Wrote). Sends d w.direction) (is_busy i d) (writes_by i d there_is_room) _
    (λ q. either (Sends d) (is_busy i (passes 0 d)) (passes 0 d) (accepts_waiting d.waiting (passes 0 d)) (λ r. adds_none (calls d))
    (λ r. accepted_next (passes 0 d) d.waiting refl))
    (λ q. adds_none (calls d))

put_alike : (e f : EndId) (o : Outlet) (l : Label) (s : State) → calls_in (end_of (puts_to f o l s) e) ≡ calls_in (end_of s e)
put_alike e f peer_queue l s = delivered_alike calls_in reads_calls e l (peer f) s
put_alike e f (ring_side at) l s = refl

written_by : (t : Bool) (e f : EndId) (v : Event) (b : Binding) (i : Planned) (o : Outlet) (z s : State) → same_end e f ≡ t → binding_of s f ≡ Some b
    → calls_in (end_of s e) ≡ calls_in (end_of z e) → Adds e v z (writes_to f i (end_in f.side b).out o there_is_room s)
written_by true e f v b i o z s q at h =
    let x : End = end_in f.side b in
    let g : End → End = λ y. record y { out = (writes i y.out there_is_room).direction } in
    let is : e ≡ f = same_end_true e f q in
    let was : end_of s e ≡ Some x = subst (λ (k : EndId). end_of s k ≡ Some x) (sym is) (there s f b at) in
    let now : end_of (change_end f g s) e ≡ Some (g x) =
    subst (λ (k : EndId). end_of (change_end f g s) k ≡ Some (g x)) (sym is) (here f g s x (there s f b at)) in
    let plain = writes_plain i x.out there_is_room in
    adds_by e v z (writes_to f i x.out o there_is_room s) (calls x.out) (calls (writes i x.out there_is_room).direction) [] []
    (sym h ∙ ap calls_in was) (put_alike e f o (next_of f (written_of x.out)) (change_end f g s) ∙ ap calls_in now)
    (not_accepted e v _ plain) (not_replied e z _ plain) (writes_on i x.out)
written_by false e f v b i o z s q at h =
    let x : End = end_in f.side b in
    let g : End → End = λ y. record y { out = (writes i y.out there_is_room).direction } in
    plain_adds e v z (writes_to f i x.out o there_is_room s) (writes_plain i x.out there_is_room)
    (put_alike e f o (next_of f (written_of x.out)) (change_end f g s) ∙ ap calls_in (elsewhere e f g s q) ∙ h)

-- ---- a turn

-- the end that takes has its rules, and replies wait only where it is busy
record IsTaking (i : Planned) (x y : End) : Type 0 where
  rules : y.rules ≡ x.rules
  ok : EndOk i y

abbrev reply_by : List (Option ℕ) → TheCall → Option TheCall
reply_by rules c = given (rule_at rules c.msg) None λ msg. Some (record { msg = msg; args = c.args })

none_waits : (i : Planned) (d : Direction) (ws : List TheCall) → (d.waiting ≢ [] → is_busy i d ≡ true) → is_busy i d ≡ false → d.waiting ≡ ws → d.waiting ≡ []
none_waits i d [] k q r = r
none_waits i d (w ∷ ws) k q r = absurd (let b : is_busy i d ≡ true = k (λ p. let u : w ∷ ws ≡ [] = sym r ∙ p in absurd (cc)) in let u : true ≡ false = sym b ∙ q in cc)

reply_grows : (i : Planned) (r : TheCall) (d : Direction) → (d.waiting ≢ [] → is_busy i d ≡ true)
    → Grows [] (r ∷ []) (calls d) (calls (accepts_or_waits i r d))
reply_grows i r d k =
    either (λ (g : Direction). Grows [] (r ∷ []) (calls d) (calls g)) (is_busy i d) _ _
    (λ q. record { more = []; replies = []; merged = neither; accepted = sym (append-nil d.accepted); all = refl })
    (λ q.
    let none : d.waiting ≡ [] = none_waits i d d.waiting k q refl in
    record {
      more = r ∷ [];
      replies = r ∷ [];
      merged = from_second neither;
      accepted = refl;
      all = ap (λ (ws : List TheCall). ws ++ r ∷ []) none ∙ ap (λ (ws : List TheCall). r ∷ ws) (sym none);
    })

replies_by : (i : Planned) (c : TheCall) (y : End) (o : Option ℕ) → EndOk i y
    → Grows [] (cons_option (given o None λ msg. Some (record { msg = msg; args = c.args })) []) (calls y.out)
    (calls (given o y λ msg. record y { out = accepts_or_waits i (record { msg = msg; args = c.args }) y.out }).out)
replies_by i c y None h = adds_none (calls y.out)
replies_by i c y (Some msg) h = reply_grows i (record { msg = msg; args = c.args }) y.out h.busy

handled_here : (e : EndId) (v : Event) (c : TheCall) (i : Planned) (z w : State) (x : End) → same_end e e ≡ true → end_of z e ≡ Some x
    → Has (IsTaking i x) w e → calls_in (end_of w e) ≡ calls_in (end_of z e) → Adds e v z (answers (change_end e (replies i (whole c)) w) (handle e c))
handled_here e v c i z w x q at h a =
    let y : End = h.end in
    let due : replied_in e z (handle e c) ≡ cons_option (reply_by y.rules c) [] =
    ap (λ (b : Bool). if b then cons_option (reply_in z e c) [] else []) q
    ∙ ap (λ (o : Option End). cons_option (given o None λ k. reply_by k.rules c) []) at
    ∙ ap (λ (rules : List (Option ℕ)). cons_option (reply_by rules c) []) (sym h.holds.rules) in
    adds_by e v z (answers (change_end e (replies i (whole c)) w) (handle e c)) (calls y.out) (calls (replies i (whole c) y).out)
    [] (cons_option (reply_by y.rules c) [])
    (sym a ∙ ap calls_in h.there) (ap calls_in (here e (replies i (whole c)) w y h.there)) (handling_accepts_none e v e c) due
    (replies_by i c y (rule_at y.rules c.msg) h.holds.ok)

handled_by : (t : Bool) (e f : EndId) (v : Event) (c : TheCall) (i : Planned) (z w : State) (x : End) → same_end e f ≡ t → end_of z f ≡ Some x
    → Has (IsTaking i x) w f → calls_in (end_of w e) ≡ calls_in (end_of z e) → Adds e v z (answers (change_end f (replies i (whole c)) w) (handle f c))
handled_by true e f v c i z w x q at h a =
    let is : e ≡ f = same_end_true e f q in
    subst (λ (g : EndId). Adds e v z (answers (change_end g (replies i (whole c)) w) (handle g c))) is
    (handled_here e v c i z w x (subst (λ (g : EndId). same_end e g ≡ true) (sym is) q) (subst (λ (g : EndId). end_of z g ≡ Some x) (sym is) at)
    (subst (λ (g : EndId). Has (IsTaking i x) w g) (sym is) h) a)
handled_by false e f v c i z w x q at h a =
    stays e v z (answers (change_end f (replies i (whole c)) w) (handle f c)) (handling_accepts_none e v f c)
    (ap (λ (b : Bool). if b then cons_option (reply_in z e c) [] else []) q)
    (ap calls_in (elsewhere e f (replies i (whole c)) w q) ∙ a)

took : (e f sender : EndId) (v : Event) (t : Taken) (i : Planned) (z u : State) (x : End) → end_of z f ≡ Some x → Has (IsTaking i x) u f
    → calls_in (end_of u e) ≡ calls_in (end_of z e) → Adds e v z (answers (takes_next f sender t i u) (taken_answer f t))
took e f sender v t i z u x at h a = by_what t
  where
    w : State
    w = change_out sender takes_one u

    alike : calls_in (end_of w e) ≡ calls_in (end_of z e)
    alike = end_alike calls_in e sender (λ y. record y { out = takes_one y.out }) u (λ y. refl) ∙ a

    has : Has (IsTaking i x) w f
    has = has_kept (IsTaking i x) f sender (λ y. record y { out = takes_one y.out }) u (λ y k. record { rules = k.rules; ok = taken_ok i y k.ok }) h

    by_what : (t : Taken) → Adds e v z (answers (takes_next f sender t i u) (taken_answer f t))
    by_what a_part = plain_adds e v z _ tt (end_alike calls_in e f (replies i a_part) w (λ y. refl) ∙ alike)
    by_what (whole c) = handled_by (same_end e f) e f v c i z w x refl at has alike

label_adds : (e f : EndId) (v : Event) (l : Label) (i : Planned) (z u : State) (x : End) → end_of z f ≡ Some x → Has (IsTaking i x) u f
    → calls_in (end_of u e) ≡ calls_in (end_of z e) → Adds e v z (takes_label f i l u)
label_adds e f v (next_of sender k) i z u x at h a =
    by_given (Adds e v z) (end_of u sender) _ _ (plain_adds e v z _ tt a) (λ y q. took e f sender v (comes_to i y.out) i z u x at h a)
label_adds e f v (says m) i z u x at h a = plain_adds e v z _ tt a
label_adds e f v acknowledges i z u x at h a = plain_adds e v z _ tt a

-- ---- the step

no_rules_changed : (g : Queue → Queue) (x : End) → (in_queue g x).rules ≡ x.rules
no_rules_changed g x = by_given (λ (y : End). y.rules ≡ x.rules) x.queue x _ refl (λ q r. refl)

taking : (i : Planned) (s : State) (f : EndId) (b : Binding) → At s f b i → AllOk EndOk s → Has (IsTaking i (end_in f.side b)) s f
taking i s f b at h = record {
  end = end_in f.side b;
  there = there s f b at.binding;
  holds = record { rules = refl; ok = end_ok EndOk s.interfaces f.side b i at.interface (h f.binding b at.binding) };
}

from_queue_adds : (e : EndId) (v : Event) (t : Chosen) (b : Binding) (i : Planned) (q : Queue) (label : Label) (z : State) → At z t.end b i → AllOk EndOk z
    → Adds e v z (takes_label t.end i label (goes_back t (waits_in (Some (without_first q))) (change_end t.end (in_queue without_first) z)))
from_queue_adds e v t b i q label z at h =
    let x : End = end_in t.end.side b in
    let emptied : Has (IsTaking i x) (change_end t.end (in_queue without_first) z) t.end =
    has_kept (IsTaking i x) t.end t.end (in_queue without_first) z
    (λ y k. record { rules = no_rules_changed without_first y ∙ k.rules; ok = same_out i y (in_queue without_first y) (queue_out y without_first) k.ok })
    (taking i z t.end b at h) in
    label_adds e t.end v label i z (goes_back t (waits_in (Some (without_first q))) (change_end t.end (in_queue without_first) z)) x
    (there z t.end b at.binding) (record { end = emptied.end; there = emptied.there; holds = emptied.holds })
    (end_alike calls_in e t.end (in_queue without_first) z (λ y. ap calls (queue_out y without_first)))

from_ring_adds : (e : EndId) (v : Event) (t : Chosen) (b : Binding) (i : Planned) (at : RingEnd) (label : Label) (z : State) → At z t.end b i → AllOk EndOk z
    → Adds e v z (takes_label t.end i label (goes_back t Polled (change_ring at.ring (takes at.side) z)))
from_ring_adds e v t b i at label z k h =
    let had : Has (IsTaking i (end_in t.end.side b)) z t.end = taking i z t.end b k h in
    label_adds e t.end v label i z (goes_back t Polled (change_ring at.ring (takes at.side) z)) (end_in t.end.side b)
    (there z t.end b k.binding) (record { end = had.end; there = had.there; holds = had.holds }) refl

tells_accepted : (e : EndId) (v : Event) (z : State) → AllOk EndOk z
    → TellsCalls calls_in (AllOk EndOk) e (calls_in (end_of z e)) v (λ s. s ≡ z) (Adds e v z)
tells_accepted e v z ok = record {
  begun = λ s q. record { kept = subst (AllOk EndOk) (sym q) ok; alike = ap (λ (t : State). calls_in (end_of t e)) q };
  plain = λ o p k h. plain_adds e v z o p h;
  settled = λ a s h. record { more = h.more; replies = h.replies; merged = h.merged; accepted = h.accepted; all = h.all };
  called = λ f c b i s u at q h.
      subst (λ (w : Event). Adds e w z (answers (change_out f (accepts c) s) accepted)) (sym u)
      (called_by (same_end e f) e f c b z s refl at.binding h.alike);
  written = λ f b i o s at q h. written_by (same_end e f) e f v b i o z s refl at.binding h.alike;
  from_queue = λ t b i q label s d at u k l same.
      subst (λ (w : State). At w t.end b i → Adds e v z (takes_label t.end i label (goes_back t (waits_in (Some (without_first q))) (change_end t.end (in_queue without_first) w))))
      (sym same) (λ k. from_queue_adds e v t b i q label z k ok) at;
  from_ring = λ t b i at first s d k u l m same.
      subst (λ (w : State). At w t.end b i → Adds e v z (takes_label t.end i first.label (goes_back t Polled (change_ring at.ring (takes at.side) w))))
      (sym same) (λ k. from_ring_adds e v t b i at first.label z k ok) k;
  moves = λ here p first route hop s t k h q. end_alike calls_in e p.end (λ y. record y { out = passes p.station y.out }) t (λ y. refl);
}

step_adds : (e : EndId) (v : Event) (z : State) → AllOk EndOk z → Adds e v z (step z v)
step_adds e v z ok =
    tells_of calls_in reads_calls (AllOk EndOk) (all_keep EndOk replies_keep) e (calls_in (end_of z e)) v (λ s. s ≡ z) (Adds e v z)
    (tells_accepted e v z ok) z refl

-- ---- the law

record Since (e : EndId) (z : State) (vs : List Event) : Type 0 where
  more : List TheCall
  replies : List TheCall
  merged : Merged (calls_accepted e (run z vs)) replies more
  accepted : accepted_by (reached z vs) e ≡ accepted_by z e ++ more
  all : waiting_at z e ++ replies_due e z vs ≡ replies ++ waiting_at (reached z vs) e

since : (e : EndId) (vs : List Event) (z : State) → AllOk EndOk z → Since e z vs
since e [] z ok = record {
  more = [];
  replies = [];
  merged = neither;
  accepted = sym (append-nil (accepted_by z e));
  all = append-nil (waiting_at z e);
}
since e (v ∷ vs) z ok =
    let o : StepOutcome = step z v in
    let a : Adds e v z o = step_adds e v z ok in
    let b : Since e o.state vs = since e vs o.state (step_keeps (AllOk EndOk) (all_keep EndOk replies_keep) z v ok) in
    record {
      more = a.more ++ b.more;
      replies = a.replies ++ b.replies;
      merged = merged_after a.merged b.merged;
      accepted = b.accepted ∙ ap (λ (cs : List TheCall). cs ++ b.more) a.accepted ∙ append_assoc (accepted_by z e) a.more b.more;
      all = sym (append_assoc (waiting_at z e) (replied_in e z o.answer) (replies_due e o.state vs))
          ∙ ap (λ (cs : List TheCall). cs ++ replies_due e o.state vs) a.all
          ∙ append_assoc a.replies (waiting_at o.state e) (replies_due e o.state vs)
          ∙ ap (λ (cs : List TheCall). a.replies ++ cs) b.all
          ∙ sym (append_assoc a.replies b.replies (waiting_at (reached o.state vs) e));
    }

pub all_accepted : AllAccepted
all_accepted vs e =
    let h : Since e start vs = since e vs start (none_at_end (BindingOk EndOk start.interfaces)) in
    record { replies = h.replies; merged = subst (λ (cs : List TheCall). Merged (calls_accepted e (run start vs)) h.replies cs) (sym h.accepted) h.merged; all = h.all }
