-- What each event adds to the account of an end, and that accounts add up.
use Rattle.std.proofs.Common.{◌≡◌, ℕ, true, List, [], ◌∷◌, ◌++◌, map, Option, Some, None, refl, sym, ap, subst, ◌∙◌, append_assoc}
use Rattle.std.specs.Prelude.{IsSome}
use Rattle.std.specs.List.{flat_map}
use Rattle.std.proofs.lemmas.List.{map-append}
use Rattle.std.proofs.lemmas.List.Elements.{All-nil, All-cons, All-append}
use Rattle.std.proofs.lemmas.Grind.{flat_map-append}
use Rattle.fl_base.specs.declared.fragment.Frag.{Frag}
use Rattle.fl_value_data.specs.Value.{TheCall}
use Rattle.fl_wire.specs.Payload.{frags_on}
use Rattle.fl_wire.specs.Reading.{AllFit}
use Rattle.fl_compile.specs.declared.program.Program.{Program}
use Rattle.fl_compile.specs.Programs.{TheProgram, program_of}
use Rattle.fl_endpoint.specs.View.{TheEnd, TheOutgoing, number_or_0, interface_in, plan_in, frags_from, bound_by, bound, reply_to, queued, with_call, with_written, with_part}
use Rattle.fl_endpoint.specs.Accounts.{Accepted, asked, by_rule, calls_in, replies_in, stream, streams, EndHistory, no_event, joined, Account, Replies, followed, replies_by, Sound}
use Rattle.fl_endpoint.proofs.Sendings.{QueuedOne, WroteOne}
use Rattle.fl_endpoint.proofs.Sounds.{Fits, queued_call, idle_end, emptied}

append_nil : {A : Type 0} (xs : List A) → xs ++ [] ≡ xs
append_nil [] = refl
append_nil (x ∷ xs) = ap (λ (ys : List _). x ∷ ys) (append_nil xs)

-- ---- accounts add up

joins : {A : Type 0} (x p q y p2 q2 z : List A) → x ++ p ≡ q ++ y → y ++ p2 ≡ q2 ++ z → x ++ (p ++ p2) ≡ (q ++ q2) ++ z
joins x p q y p2 q2 z a b =
    sym (append_assoc x p p2) ∙ ap (λ (l : List _). l ++ p2) a ∙ append_assoc q y p2 ∙ ap (λ (l : List _). q ++ l) b ∙ sym (append_assoc q q2 z)

pub replies_more : (xs ys : List Accepted) → replies_in (xs ++ ys) ≡ replies_in xs ++ replies_in ys
replies_more [] ys = refl
replies_more (asked c ∷ xs) ys = replies_more xs ys
replies_more (by_rule c ∷ xs) ys = ap (λ (l : List TheCall). c ∷ l) (replies_more xs ys)

-- the circuit stays, or nothing was sent before
same_stream : {A : Type 0} (f : ℕ → List TheCall → A) (o u : Option ℕ) (calls : List TheCall) → ((c : ℕ) → o ≡ Some c → u ≡ Some c) → (o ≡ None → calls ≡ [])
    → ((a b : ℕ) → f a [] ≡ f b []) → f (number_or_0 o) calls ≡ f (number_or_0 u) calls
same_stream f None u calls keeps none empty =
    ap (f 0) (none refl) ∙ empty 0 (number_or_0 u) ∙ ap (f (number_or_0 u)) (sym (none refl))
same_stream f (Some c) u calls keeps none empty = ap (λ (x : Option ℕ). f (number_or_0 x) calls) (sym (keeps c refl))

none_before : (o u : Option ℕ) → ((c : ℕ) → o ≡ Some c → u ≡ Some c) → u ≡ None → o ≡ None
none_before None u keeps e = refl
none_before (Some c) u keeps e = let k : u ≡ Some c = keeps c refl in absurd cc

no_more : {A : Type 0} (xs ys : List A) → xs ≡ [] → ys ≡ [] → xs ++ ys ≡ []
no_more xs ys a b = ap (λ (l : List _). l ++ ys) a ∙ b

pub chain : (s t u : TheEnd) (h g : EndHistory) → Account s h t → Account t g u → Account s (joined h g) u
chain s t u h g a b =
    let k = number_or_0 u.circuit in
    let p = program_of u.program in
    let same : program_of t.program ≡ p = ap (λ (x : Program). program_of x) (sym b.program) in
    let calls : calls_in (h.accepted ++ g.accepted) ≡ calls_in h.accepted ++ calls_in g.accepted = map-append _ h.accepted g.accepted in
    let fit : AllFit p.interface (calls_in h.accepted) = subst (λ (q : TheProgram). AllFit q.interface (calls_in h.accepted)) same a.accepted_fit in
    let sent : stream (program_of t.program) (number_or_0 t.circuit) (calls_in h.accepted) ≡ stream p k (calls_in h.accepted)
    = same_stream (stream (program_of t.program)) t.circuit u.circuit (calls_in h.accepted) b.circuit (λ e. ap calls_in (a.unbound e).0) (λ m n. refl)
    ∙ ap (λ (q : TheProgram). stream q k (calls_in h.accepted)) same in
    let wait : (cs : List TheCall) → (t.circuit ≡ None → cs ≡ []) → streams (program_of t.program) (number_or_0 t.circuit) cs ≡ streams p k cs
    = λ cs none. same_stream (streams (program_of t.program)) t.circuit u.circuit cs b.circuit none (λ m n. refl) ∙ ap (λ (q : TheProgram). streams q k cs) same in
    let due_is = wait h.due (λ e. (a.unbound e).1) in
    let replies_are = wait (replies_in h.accepted) (λ e. ap replies_in (a.unbound e).0) in
    let read : stream (program_of t.program) 0 h.handled ≡ stream p 0 h.handled = ap (λ (q : TheProgram). stream q 0 h.handled) same in
    record {
      program = b.program ∙ a.program;
      failed = λ e. b.failed (a.failed e);
      circuit = λ c e. b.circuit c (a.circuit c e);
      unbound = λ e.
          let before = none_before t.circuit u.circuit b.circuit e in
          (no_more h.accepted g.accepted (a.unbound before).0 (b.unbound e).0, no_more h.due g.due (a.unbound before).1 (b.unbound e).1);
      accepted_fit = subst (λ (cs : List TheCall). AllFit p.interface cs) (sym calls) (All-append (Fits u) (calls_in h.accepted) (calls_in g.accepted) fit b.accepted_fit);
      sends = ap (λ (cs : List TheCall). s.outgoing.unwritten ++ stream p k cs) calls
          ∙ ap (λ (xs : List Frag). s.outgoing.unwritten ++ xs) (flat_map-append (frags_on k p.plan p.interface) (calls_in h.accepted) (calls_in g.accepted))
          ∙ joins s.outgoing.unwritten (stream p k (calls_in h.accepted)) h.put t.outgoing.unwritten (stream p k (calls_in g.accepted)) g.put u.outgoing.unwritten
          (ap (λ (xs : List Frag). s.outgoing.unwritten ++ xs) (sym sent) ∙ a.sends) b.sends;
      waits = ap (λ (xs : List (List Frag)). s.outgoing.waiting ++ xs) (map-append (frags_on k p.plan p.interface) h.due g.due)
          ∙ joins s.outgoing.waiting (streams p k h.due) (streams p k (replies_in h.accepted)) t.outgoing.waiting (streams p k g.due) (streams p k (replies_in g.accepted)) u.outgoing.waiting
          (ap (λ (xs : List (List Frag)). s.outgoing.waiting ++ xs) (sym due_is) ∙ a.waits ∙ ap (λ (xs : List (List Frag)). xs ++ t.outgoing.waiting) replies_are) b.waits
          ∙ ap (λ (xs : List (List Frag)). xs ++ u.outgoing.waiting)
          (sym (map-append (frags_on k p.plan p.interface) (replies_in h.accepted) (replies_in g.accepted)) ∙ ap (streams p k) (sym (replies_more h.accepted g.accepted)));
      handled_fit = All-append (Fits u) h.handled g.handled (subst (λ (q : TheProgram). AllFit q.interface h.handled) same a.handled_fit) b.handled_fit;
      gives = joins s.parts h.took (stream p 0 h.handled) t.parts g.took (stream p 0 g.handled) u.parts (a.gives ∙ ap (λ (xs : List Frag). xs ++ t.parts) read) b.gives
          ∙ ap (λ (xs : List Frag). xs ++ u.parts) (sym (flat_map-append (frags_on 0 p.plan p.interface) h.handled g.handled));
    }

followed_more : (o : Option TheCall) (xs ys zs : List TheCall) → xs ≡ ys ++ zs → followed o xs ≡ followed o ys ++ zs
followed_more None xs ys zs e = e
followed_more (Some d) xs ys zs e = ap (λ (l : List TheCall). d ∷ l) e

replies_by_more : (rules : List (Option ℕ)) (xs ys : List TheCall) → replies_by rules (xs ++ ys) ≡ replies_by rules xs ++ replies_by rules ys
replies_by_more rules [] ys = refl
replies_by_more rules (c ∷ xs) ys =
    followed_more (reply_to rules c) (replies_by rules (xs ++ ys)) (replies_by rules xs) (replies_by rules ys) (replies_by_more rules xs ys)

pub chain_replies : (s t u : TheEnd) (handled handled2 due due2 : List TheCall) → Replies s handled due t → Replies t handled2 due2 u → Replies s (handled ++ handled2) (due ++ due2) u
chain_replies s t u handled handled2 due due2 a b = record {
  rules = b.rules ∙ a.rules;
  replies = ap (λ (l : List TheCall). l ++ due2) a.replies
      ∙ ap (λ (l : List TheCall). replies_by s.rules handled ++ l) (b.replies ∙ ap (λ (x : List (Option ℕ)). replies_by x handled2) a.rules)
      ∙ sym (replies_by_more s.rules handled handled2);
}

abbrev pub happened : List Accepted → List Frag → List Frag → List TheCall → List TheCall → EndHistory
happened accepted put took handled due = record { accepted = accepted; put = put; took = took; handled = handled; due = due }

-- ---- an event that adds nothing

pub adds_nothing : (s t : TheEnd) → t.program ≡ s.program → (s.failed ≡ true → t.failed ≡ true) → ((c : ℕ) → s.circuit ≡ Some c → t.circuit ≡ Some c)
    → t.outgoing ≡ s.outgoing → t.parts ≡ s.parts → Account s no_event t
adds_nothing s t program failed circuit outgoing parts = record {
  program = program;
  failed = failed;
  circuit = circuit;
  unbound = λ e. (refl, refl);
  accepted_fit = All-nil (Fits t);
  sends = append_nil s.outgoing.unwritten ∙ ap (λ (o : TheOutgoing). o.unwritten) (sym outgoing);
  waits = append_nil s.outgoing.waiting ∙ ap (λ (o : TheOutgoing). o.waiting) (sym outgoing);
  handled_fit = All-nil (Fits t);
  gives = append_nil s.parts ∙ sym parts;
}

pub same_end : (s t : TheEnd) → t ≡ s → Account s no_event t
same_end s t e = subst (λ (x : TheEnd). Account s no_event x) (sym e) (adds_nothing s s refl (λ h. h) (λ c h. h) refl refl)

pub same_replies : (s t : TheEnd) → t ≡ s → Replies s [] [] t
same_replies s t e = record { rules = ap (λ (x : TheEnd). x.rules) e; replies = refl }

-- ---- a call, and a write

not_unbound : {A : Type 0} (o : Option ℕ) → IsSome o → o ≡ None → A
not_unbound None some e = absurd cc
not_unbound (Some x) some e = absurd cc

pub call_account : (s : TheEnd) (c : TheCall) → Sound s → IsSome s.circuit → Fits s c → s.outgoing.unwritten ≡ [] → Account s (happened (asked c ∷ []) [] [] [] []) (with_call s c)
call_account s c sound some fits idle =
    let q = queued_call s c sound fits in
    let nothing = idle_end s sound idle in
    record {
      program = refl;
      failed = λ e. e;
      circuit = λ k e. e;
      unbound = λ e. not_unbound s.circuit some e;
      accepted_fit = All-cons (Fits s) c [] fits (All-nil (Fits s));
      sends = ap (λ (cs : List TheCall). s.outgoing.unwritten ++ flat_map (frags_from s) cs) (sym (q.at_once idle)) ∙ q.sends;
      waits = append_nil s.outgoing.waiting ∙ ap (λ (o : TheOutgoing). o.waiting) nothing ∙ ap (λ (o : TheOutgoing). (queued o (frags_from s c)).waiting) (sym nothing);
      handled_fit = All-nil (Fits s);
      gives = append_nil s.parts;
    }

-- replies alone
abbrev pub all_replies : List TheCall → List Accepted
all_replies calls = map by_rule calls

pub replies_calls : (calls : List TheCall) → calls_in (all_replies calls) ≡ calls
replies_calls [] = refl
replies_calls (c ∷ calls) = ap (λ (l : List TheCall). c ∷ l) (replies_calls calls)

pub replies_all : (calls : List TheCall) → replies_in (all_replies calls) ≡ calls
replies_all [] = refl
replies_all (c ∷ calls) = ap (λ (l : List TheCall). c ∷ l) (replies_all calls)

pub write_account : (s : TheEnd) (f : Frag) (rest : List Frag) (w : WroteOne (frags_from s) (Fits s) f rest s.outgoing) → IsSome s.circuit
    → Account s (happened (all_replies w.accepted) (f ∷ []) [] [] []) (with_written s rest)
write_account s f rest w some = record {
  program = refl;
  failed = λ e. e;
  circuit = λ k e. e;
  unbound = λ e. not_unbound s.circuit some e;
  accepted_fit = subst (λ (cs : List TheCall). AllFit (interface_in s) cs) (sym (replies_calls w.accepted)) w.fit;
  sends = ap (λ (cs : List TheCall). s.outgoing.unwritten ++ flat_map (frags_from s) cs) (replies_calls w.accepted) ∙ w.sends;
  waits = w.waits ∙ ap (λ (cs : List TheCall). map (frags_from s) cs ++ (with_written s rest).outgoing.waiting) (sym (replies_all w.accepted));
  handled_fit = All-nil (Fits s);
  gives = append_nil s.parts;
}

-- ---- a fragment taken

pub part_account : (s : TheEnd) (f : Frag) → Account s (happened [] [] (f ∷ []) [] []) (with_part s f)
part_account s f = record {
  program = refl;
  failed = λ e. e;
  circuit = λ k e. e;
  unbound = λ e. (refl, refl);
  accepted_fit = All-nil (Fits s);
  sends = append_nil s.outgoing.unwritten;
  waits = append_nil s.outgoing.waiting;
  handled_fit = All-nil (Fits s);
  gives = refl;
}

-- a call handled, to which no reply is due
pub handled_account : (s : TheEnd) (f : Frag) (c : TheCall) → Fits s c → s.parts ++ f ∷ [] ≡ frags_on 0 (plan_in s) (interface_in s) c → Account s (happened [] [] (f ∷ []) (c ∷ []) []) (emptied s)
handled_account s f c fits mean = record {
  program = refl;
  failed = λ e. e;
  circuit = λ k e. e;
  unbound = λ e. (refl, refl);
  accepted_fit = All-nil (Fits s);
  sends = append_nil s.outgoing.unwritten;
  waits = append_nil s.outgoing.waiting;
  handled_fit = All-cons (Fits s) c [] fits (All-nil (Fits s));
  gives = mean ∙ sym (append_nil (frags_on 0 (plan_in s) (interface_in s) c)) ∙ sym (append_nil (frags_on 0 (plan_in s) (interface_in s) c ++ []));
}

-- a call handled, to which a reply is due
pub replied_account : (s : TheEnd) (f : Frag) (c d : TheCall) (q : QueuedOne (frags_from s) (Fits s) d s.outgoing) → IsSome s.circuit → Fits s c
    → s.parts ++ f ∷ [] ≡ frags_on 0 (plan_in s) (interface_in s) c → Account s (happened (all_replies q.accepted) [] (f ∷ []) (c ∷ []) (d ∷ [])) (with_call (emptied s) d)
replied_account s f c d q some fits mean = record {
  program = refl;
  failed = λ e. e;
  circuit = λ k e. e;
  unbound = λ e. not_unbound s.circuit some e;
  accepted_fit = subst (λ (cs : List TheCall). AllFit (interface_in s) cs) (sym (replies_calls q.accepted)) q.fit;
  sends = ap (λ (cs : List TheCall). s.outgoing.unwritten ++ flat_map (frags_from s) cs) (replies_calls q.accepted) ∙ q.sends;
  waits = q.waits ∙ ap (λ (cs : List TheCall). map (frags_from s) cs ++ (queued s.outgoing (frags_from s d)).waiting) (sym (replies_all q.accepted));
  handled_fit = All-cons (Fits s) c [] fits (All-nil (Fits s));
  gives = mean ∙ sym (append_nil (frags_on 0 (plan_in s) (interface_in s) c)) ∙ sym (append_nil (frags_on 0 (plan_in s) (interface_in s) c ++ []));
}

-- ---- an end that failed, one that is bound, and one with a rule more

pub bound_account : (s : TheEnd) (circuit : ℕ) → Account s no_event (bound s circuit)
bound_account s circuit = by_circuit s.circuit s circuit refl
  where
    by_circuit : (o : Option ℕ) (s : TheEnd) (circuit : ℕ) → s.circuit ≡ o → Account s no_event (bound_by o circuit s)
    by_circuit None s circuit is = adds_nothing s (record s { circuit = Some circuit }) refl (λ h. h) (λ c h. let k : s.circuit ≡ None = is in absurd cc) refl refl
    by_circuit (Some before) s circuit is = same_end s s refl

pub bound_replies : (s : TheEnd) (circuit : ℕ) → Replies s [] [] (bound s circuit)
bound_replies s circuit = by_circuit s.circuit s circuit
  where
    by_circuit : (o : Option ℕ) (s : TheEnd) (circuit : ℕ) → Replies s [] [] (bound_by o circuit s)
    by_circuit None s circuit = record { rules = refl; replies = refl }
    by_circuit (Some before) s circuit = record { rules = refl; replies = refl }
