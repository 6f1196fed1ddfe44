-- Ends stay sound.
use Rattle.std.proofs.Common.{◌≡◌, ◌⊎◌, inl, inr, ⊎_elim, ℕ, zero, suc, ◌^◌, ◌<◌, ◌≤◌, ◌==◌, ◌&&◌, Bool, true, false, List, [], ◌∷◌, ◌++◌, map, length, Option, Some, None, refl, sym, ap, subst, ◌∙◌, arith}
use Rattle.std.specs.Prelude.{IsSome, replicate, slice_get, slice_set}
use Rattle.std.specs.Option.{option_map}
use Rattle.std.proofs.lemmas.List.{map-append, length-replicate}
use Rattle.std.proofs.lemmas.List.Elements.{All-nil, All-cons}
use Rattle.std.proofs.lemmas.Bool.{false≢true, cases_lt}
use Rattle.fl_base.specs.declared.fragment.Frag.{Frag}
use Rattle.fl_interface.specs.Interface.{TheArgType, TheMessage, TheInterface}
use Rattle.fl_interface.specs.Limits.{is_within_limits}
use Rattle.fl_value_data.specs.Value.{Datum, TheCall}
use Rattle.fl_value_data.specs.Fits.{fits_of, fit_message, are_arguments}
use Rattle.fl_value_data.specs.Tape.{types_of}
use Rattle.fl_layout.specs.Places.{count}
use Rattle.fl_wire.specs.Payload.{frags_of}
use Rattle.fl_wire.specs.Reading.{IsPart, AllFit, OneReading}
use Rattle.fl_wire.specs.Words.{interface_words_fit}
use Rattle.fl_compile.specs.declared.program.Program.{Program}
use Rattle.fl_compile.specs.Programs.{program_of}
use Rattle.fl_base.specs.Control.{bare}
use Rattle.fl_endpoint.specs.View.{TheEnd, TheOutgoing, number_or_0, interface_in, plan_in, frags_from, nothing_to_send, fresh, bound_by, bound, has_rules, rule_in, rule_at, holds_back, queued_if, with_call, with_written, with_part, with_handled, with_failed}
use Rattle.fl_endpoint.specs.Events.{AreCall}
use Rattle.fl_endpoint.specs.Accounts.{IsRule, AreRules, Sound}
use Rattle.fl_endpoint.proofs.Outgoings.{length_frags}
use Rattle.fl_endpoint.proofs.Sendings.{QueuedOne, queued_one, WroteOne, wrote_one, idle_is}

abbrev pub Fits : TheEnd → TheCall → Type 0
Fits s c = fits_of (interface_in s) c ≡ true

-- each call has a fragment at least
pub some_frags : (s : TheEnd) (c : TheCall) → 0 < length (frags_from s c)
some_frags s c =
    let long : length (frags_from s c) ≡ count (plan_in s) (interface_in s) c = length_frags (number_or_0 s.circuit) (plan_in s) (interface_in s) c in
    omega (arith, long)

pub queued_call : (s : TheEnd) (c : TheCall) → Sound s → Fits s c → QueuedOne (frags_from s) (Fits s) c s.outgoing
queued_call s c sound fits =
    queued_one (frags_from s) (Fits s) c sound.sends.number sound.sends.calls s.outgoing (some_frags s c) fits sound.sends.fit sound.sends.left

pub wrote_frag : (s : TheEnd) (f : Frag) (rest : List Frag) → Sound s → s.outgoing.unwritten ≡ f ∷ rest → WroteOne (frags_from s) (Fits s) f rest s.outgoing
wrote_frag s f rest sound e =
    wrote_one (frags_from s) (Fits s) sound.sends.number sound.sends.calls s.outgoing f rest (some_frags s) sound.sends.fit sound.sends.left e

-- nothing waits at an end that isn't busy
pub idle_end : (s : TheEnd) → Sound s → s.outgoing.unwritten ≡ [] → s.outgoing ≡ nothing_to_send
idle_end s sound e = idle_is (frags_from s) sound.sends.number sound.sends.calls s.outgoing sound.sends.left e

none_is_not : {A B : Type 0} (o : Option A) → IsSome o → o ≡ None → B
none_is_not None some e = absurd cc
none_is_not (Some x) some e = absurd cc

-- one call more, at an end that is bound
pub sound_call : (s : TheEnd) (c : TheCall) → Sound s → IsSome s.circuit → Fits s c → length s.outgoing.waiting < 16 → Sound (with_call s c)
sound_call s c sound bound fits few =
    let q = queued_call s c sound fits in
    record {
      within = sound.within;
      words = sound.words;
      rules = sound.rules;
      circuit = sound.circuit;
      unbound = λ e. none_is_not s.circuit bound e;
      sends = record { calls = q.calls; fit = q.all; number = q.number; left = q.left; few = q.few few };
      part = sound.part;
      are_bare = sound.are_bare;
    }

pub sound_written : (s : TheEnd) (f : Frag) (rest : List Frag) → Sound s → IsSome s.circuit → s.outgoing.unwritten ≡ f ∷ rest → Sound (with_written s rest)
sound_written s f rest sound bound e =
    let w = wrote_frag s f rest sound e in
    record {
      within = sound.within;
      words = sound.words;
      rules = sound.rules;
      circuit = sound.circuit;
      unbound = λ e. none_is_not s.circuit bound e;
      sends = record { calls = w.calls; fit = w.all; number = w.number; left = w.left; few = omega (arith, w.few, sound.sends.few) };
      part = sound.part;
      are_bare = sound.are_bare;
    }

-- ---- an end that is made, and one that is bound

abbrev no_number : Option ℕ
no_number = None

no_rule : (n msg reply : ℕ) → rule_in (slice_get (replicate n no_number) msg) ≡ Some reply → ⊥
no_rule zero msg reply e = absurd cc
no_rule (suc n) zero reply e = absurd cc
no_rule (suc n) (suc msg) reply e = no_rule n msg reply e

pub sound_fresh : (program : Program) → is_within_limits (program_of program).interface ≡ true → interface_words_fit (program_of program).interface ≡ true
    → Sound (fresh program None)
sound_fresh program within words = record {
  within = within;
  words = words;
  rules = record {
    places = length-replicate (length (program_of program).interface.messages) None;
    each = λ msg reply e. absurd (no_rule (length (program_of program).interface.messages) msg reply e);
  };
  circuit = omega arith;
  unbound = λ e. record { outgoing = refl; parts = refl; failed = refl };
  sends = record { calls = []; fit = All-nil (Fits (fresh program None)); number = 0; left = refl; few = omega arith };
  part = inl refl;
  are_bare = refl;
}

bound_now : (o : Option ℕ) (s : TheEnd) (circuit : ℕ) → s.circuit ≡ o → circuit < 2 ^ 16 → Sound s → Sound (bound_by o circuit s)
bound_now (Some before) s circuit is small sound = sound
bound_now None s circuit is small sound =
    let idle = sound.unbound is in
    record {
      within = sound.within;
      words = sound.words;
      rules = sound.rules;
      circuit = small;
      unbound = λ e. absurd cc;
      sends = record { calls = []; fit = All-nil (Fits (record s { circuit = Some circuit })); number = 0; left = idle.outgoing; few = subst (λ (o : TheOutgoing). length o.waiting ≤ 16) (sym idle.outgoing) (omega arith) };
      part = inl idle.parts;
      are_bare = sound.are_bare;
    }

pub sound_bound : (s : TheEnd) (circuit : ℕ) → circuit < 2 ^ 16 → Sound s → Sound (bound s circuit)
sound_bound s circuit small sound = bound_now s.circuit s circuit refl small sound

-- ---- an end that takes fragments

pub sound_failed : (s : TheEnd) → IsSome s.circuit → Sound s → Sound (with_failed s)
sound_failed s bound sound = record {
  within = sound.within;
  words = sound.words;
  rules = sound.rules;
  circuit = sound.circuit;
  unbound = λ e. none_is_not s.circuit bound e;
  sends = record { calls = sound.sends.calls; fit = sound.sends.fit; number = sound.sends.number; left = sound.sends.left; few = sound.sends.few };
  part = sound.part;
  are_bare = sound.are_bare;
}

pub bare_more : (parts : List Frag) (f : Frag) → map bare parts ≡ parts → bare f ≡ f → map bare (parts ++ f ∷ []) ≡ parts ++ f ∷ []
bare_more parts f e h = map-append bare parts (f ∷ []) ∙ ap (λ (xs : List Frag). xs ++ bare f ∷ []) e ∙ ap (λ (x : Frag). parts ++ x ∷ []) h

pub sound_part : (s : TheEnd) (f : Frag) → IsSome s.circuit → bare f ≡ f → IsPart (plan_in s) (interface_in s) (s.parts ++ f ∷ []) → Sound s → Sound (with_part s f)
sound_part s f bound is part sound = record {
  within = sound.within;
  words = sound.words;
  rules = sound.rules;
  circuit = sound.circuit;
  unbound = λ e. none_is_not s.circuit bound e;
  sends = record { calls = sound.sends.calls; fit = sound.sends.fit; number = sound.sends.number; left = sound.sends.left; few = sound.sends.few };
  part = inr part;
  are_bare = bare_more s.parts f sound.are_bare is;
}

-- with nothing taken since the last whole call
abbrev pub emptied : TheEnd → TheEnd
emptied s = record s { parts = [] }

pub sound_emptied : (s : TheEnd) → IsSome s.circuit → Sound s → Sound (emptied s)
sound_emptied s bound sound = record {
  within = sound.within;
  words = sound.words;
  rules = sound.rules;
  circuit = sound.circuit;
  unbound = λ e. none_is_not s.circuit bound e;
  sends = record { calls = sound.sends.calls; fit = sound.sends.fit; number = sound.sends.number; left = sound.sends.left; few = sound.sends.few };
  part = inl refl;
  are_bare = refl;
}

-- ---- replies by rule

pub same_fit : (a b : Option TheMessage) (args : List Datum) → IsSome a → IsSome b → types_of a ≡ types_of b → fit_message a args ≡ true → fit_message b args ≡ true
same_fit None b args x y e h = absurd cc
same_fit (Some m) None args x y e h = absurd cc
same_fit (Some m) (Some n) args x y e h = subst (λ (ts : List TheArgType). are_arguments ts args ≡ true) e h

-- the reply to a call that fits is one that fits
pub reply_fits : (i : TheInterface) (rules : List (Option ℕ)) (c : TheCall) (reply : ℕ) → AreRules i rules → rule_at rules c.msg ≡ Some reply → fits_of i c ≡ true
    → fits_of i (record { msg = reply; args = c.args }) ≡ true
reply_fits i rules c reply are rule fits =
    let r = are.each c.msg reply rule in
    same_fit (slice_get i.messages c.msg) (slice_get i.messages reply) c.args r.from r.to r.types fits

pub has_room : (s : TheEnd) (reply : ℕ) (msg : ℕ) → rule_at s.rules msg ≡ Some reply → holds_back s ≡ false → length s.outgoing.waiting ≤ 16 → length s.outgoing.waiting < 16
has_room s reply msg rule held few = ⊎_elim
    (λ (h : length s.outgoing.waiting < 16). h)
    (λ (h : 16 ≤ length s.outgoing.waiting).
    let full : (length s.outgoing.waiting == 16) ≡ true = same_is (length s.outgoing.waiting) 16 (omega (arith, h, few)) in
    let any : has_rules s.rules ≡ true = rule_any s.rules msg reply rule in
    let both : (has_rules s.rules && (length s.outgoing.waiting == 16)) ≡ true = ap (λ (b : Bool). b && (length s.outgoing.waiting == 16)) any ∙ full in
    absurd (false≢true (sym held ∙ both)))
    (cases_lt (length s.outgoing.waiting) 16)
  where
    same_is : (m n : ℕ) → m ≡ n → (m == n) ≡ true
    same_is m n e = grind (arith, e)

    rule_any : (rules : List (Option ℕ)) (msg reply : ℕ) → rule_at rules msg ≡ Some reply → has_rules rules ≡ true
    rule_any [] msg reply e = absurd cc
    rule_any (Some x ∷ rules) zero reply e = refl
    rule_any (None ∷ rules) zero reply e = absurd cc
    rule_any (Some x ∷ rules) (suc msg) reply e = refl
    rule_any (None ∷ rules) (suc msg) reply e = rule_any rules msg reply e

handled_now : (s : TheEnd) (c : TheCall) (rule : Option ℕ) → rule_at s.rules c.msg ≡ rule → IsSome s.circuit → fits_of (interface_in s) c ≡ true → holds_back s ≡ false → Sound s
    → Sound (record s { parts = []; outgoing = queued_if s.outgoing (option_map (frags_from s) (option_map (λ (reply : ℕ). record { msg = reply; args = c.args }) rule)) })
handled_now s c None is bound fits held sound = sound_emptied s bound sound
handled_now s c (Some reply) is bound fits held sound =
    sound_call (emptied s) (record { msg = reply; args = c.args }) (sound_emptied s bound sound) bound
    (reply_fits (interface_in s) s.rules c reply sound.rules is fits) (has_room s reply c.msg is held sound.sends.few)

pub sound_handled : (s : TheEnd) (c : TheCall) → IsSome s.circuit → fits_of (interface_in s) c ≡ true → holds_back s ≡ false → Sound s → Sound (with_handled s c)
sound_handled s c bound fits held sound = handled_now s c (rule_at s.rules c.msg) refl bound fits held sound

-- ---- a rule that is set

rule_set : (rules : List (Option ℕ)) (msg reply a b : ℕ) → rule_at (slice_set rules msg (Some reply)) a ≡ Some b → ((a ≡ msg) × (b ≡ reply)) ⊎ (rule_at rules a ≡ Some b)
rule_set [] msg reply a b e = inr e
rule_set (x ∷ rules) zero reply zero b e = let h : b ≡ reply = cc in inl (refl, h)
rule_set (x ∷ rules) zero reply (suc a) b e = inr e
rule_set (x ∷ rules) (suc msg) reply zero b e = inr e
rule_set (x ∷ rules) (suc msg) reply (suc a) b e = ⊎_elim
    (λ (h : (a ≡ msg) × (b ≡ reply)). inl (ap (λ (n : ℕ). suc n) h.0, h.1))
    (λ (h : rule_at rules a ≡ Some b). inr h)
    (rule_set rules msg reply a b e)

set_length : (rules : List (Option ℕ)) (msg : ℕ) (x : Option ℕ) → length (slice_set rules msg x) ≡ length rules
set_length [] msg x = refl
set_length (y ∷ rules) zero x = refl
set_length (y ∷ rules) (suc msg) x = ap (λ (n : ℕ). suc n) (set_length rules msg x)

set_rule : (i : TheInterface) (rules : List (Option ℕ)) (msg reply : ℕ) → ((a b : ℕ) → rule_at rules a ≡ Some b → IsRule i a b) → IsRule i msg reply
    → (a b : ℕ) → rule_at (slice_set rules msg (Some reply)) a ≡ Some b → IsRule i a b
set_rule i rules msg reply each new a b e = ⊎_elim
    (λ (h : (a ≡ msg) × (b ≡ reply)). subst (λ (m : ℕ). IsRule i m b) (sym h.0) (subst (λ (r : ℕ). IsRule i msg r) (sym h.1) new))
    (λ (h : rule_at rules a ≡ Some b). each a b h)
    (rule_set rules msg reply a b e)

-- other rules for the same interface
pub sound_ruled : (s : TheEnd) (rules : List (Option ℕ)) → AreRules (interface_in s) rules → Sound s → Sound (record s { rules = rules })
sound_ruled s rules are sound = record {
  within = sound.within;
  words = sound.words;
  rules = are;
  circuit = sound.circuit;
  unbound = λ e. let idle = sound.unbound e in record { outgoing = idle.outgoing; parts = idle.parts; failed = idle.failed };
  sends = record { calls = sound.sends.calls; fit = sound.sends.fit; number = sound.sends.number; left = sound.sends.left; few = sound.sends.few };
  part = sound.part;
  are_bare = sound.are_bare;
}

-- the rules of another end of the same interface
pub sound_exchanged : (s t : TheEnd) → interface_in s ≡ interface_in t → Sound s → Sound t → Sound (record s { rules = t.rules })
sound_exchanged s t same sound other = sound_ruled s t.rules (subst (λ (i : TheInterface). AreRules i t.rules) (sym same) other.rules) sound

pub sound_rule : (s : TheEnd) (msg reply : ℕ) → IsRule (interface_in s) msg reply → Sound s → Sound (record s { rules = slice_set s.rules msg (Some reply) })
sound_rule s msg reply new sound =
    sound_ruled s (slice_set s.rules msg (Some reply))
    (record { places = set_length s.rules msg (Some reply) ∙ sound.rules.places; each = set_rule (interface_in s) s.rules msg reply sound.rules.each new }) sound

-- ---- a call that is whole

-- fragments that mean a call mean no other
pub are_call : (s : TheEnd) (f : Frag) (c : TheCall) → OneReading → interface_words_fit (interface_in s) ≡ true → map bare s.parts ≡ s.parts → bare f ≡ f → fits_of (interface_in s) c ≡ true
    → map bare (s.parts ++ f ∷ []) ≡ frags_of (plan_in s) (interface_in s) c → AreCall s (s.parts ++ f ∷ []) c
are_call s f c law words are_bare is fits means =
    let mean : s.parts ++ f ∷ [] ≡ frags_of (plan_in s) (interface_in s) c = sym (bare_more s.parts f are_bare is) ∙ means in
    let one : (d : TheCall) → fits_of (interface_in s) d ≡ true → AllFit (interface_in s) (d ∷ []) = λ d h. All-cons (Fits s) d [] h (All-nil (Fits s)) in
    record {
      fits = fits;
      mean = mean;
      only = λ d fit e.
          let same = law (plan_in s) (interface_in s) (d ∷ []) (c ∷ []) [] [] words (one d fit) (one c fits) (inl refl) (inl refl)
          (ap (λ (xs : List Frag). (xs ++ []) ++ []) (sym e ∙ mean)) in
          first_same d c same.0;
    }
  where
    first_same : (d c : TheCall) → ◌≡◌ {A = List TheCall} (d ∷ []) (c ∷ []) → d ≡ c
    first_same d c e = cc
