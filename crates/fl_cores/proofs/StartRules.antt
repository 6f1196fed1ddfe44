-- Reply rules that are set before a run: an end has those of its jobs, and nothing else of it has changed.
use Rattle.std.proofs.Common.{◌≡◌, ◌≢◌, refl, sym, ap, ◌∙◌, subst, ℕ, zero, suc, ◌<◌, ◌==◌, ◌&&◌, if◌then◌else◌, List, [], ◌∷◌, length, slice_get, slice_set, Option, Some, None, IsSome}
use Rattle.std.proofs.Common.{Bool, true, false, arith}
use Rattle.std.proofs.lemmas.Bool.Decides.{nat_tests}
use Rattle.std.proofs.lemmas.List.{length-set}
use Rattle.fl_base.specs.declared.identity.Side.{Side}
use Rattle.fl_base.specs.declared.identity.Side.TheVariants.{Client, Server}
use Rattle.fl_base.specs.declared.identity.EndId.{EndId}
use Rattle.fl_base.specs.Given.{given}
use Rattle.fl_endpoint.specs.View.{TheEnd, interface_in, rule_in as what_stands, rule_at as rule_of_end, with_rule}
use Rattle.fl_endpoint.specs.Events.{IsMessage}
use Rattle.fl_core.specs.BoardView.{TheEndAtChannel, TheBoard}
use Rattle.fl_core.proofs.BoardPlaces.{one_stands, set_here, set_elsewhere}
use Rattle.fl_core.specs.View.{TheCore, place_of, with_board}
use Rattle.fl_model.specs.Runs.{same_side, same_end}
use Rattle.fl_world_refines.specs.declared.binding.Binding.{Binding}
use Rattle.fl_world_refines.specs.View.{core_in}
use Rattle.fl_cores_file.specs.Jobs.{Job, opens, replies, calls, rule_in, rule_for}
use Rattle.fl_cores_jobs.specs.Rules.{RulesCore, RulesAt, RuleNow, RuleOf, RulesOf}

-- ---- an end by its name

one_side : (a b : Side) → same_side a b ≡ true → a ≡ b
one_side Client Client is = refl
one_side Client Server is = absurd (cc)
one_side Server Client is = absurd (cc)
one_side Server Server is = refl

one_end_by : (e f : EndId) (a b : Bool) → (e.binding == f.binding) ≡ a → same_side e.side f.side ≡ b → (a && b) ≡ true → e ≡ f
one_end_by e f true true same sides is =
    let bindings : e.binding ≡ f.binding = grind (arith, nat_tests, same) in
    let side : e.side ≡ f.side = one_side e.side f.side sides in
    ap (λ (n : ℕ). let x : EndId = record { binding = n; side = e.side } in x) bindings
    ∙ ap (λ (s : Side). let x : EndId = record { binding = f.binding; side = s } in x) side
one_end_by e f true false same sides is = absurd (cc)
one_end_by e f false b same sides is = absurd (cc)

one_end : (e f : EndId) → same_end e f ≡ true → e ≡ f
one_end e f is = one_end_by e f (e.binding == f.binding) (same_side e.side f.side) refl refl is

side_self : (s : Side) → same_side s s ≡ true
side_self Client = refl
side_self Server = refl

end_self : (e : EndId) → same_end e e ≡ true
end_self e =
    let binding : (e.binding == e.binding) ≡ true = grind (arith, nat_tests) in
    ap (λ (b : Bool). b && same_side e.side e.side) binding ∙ side_self e.side

same_true : (e f : EndId) → f ≡ e → same_end e f ≡ true
same_true e f same = ap (same_end e) same ∙ end_self e

-- ---- the rules of an end

-- what is told for a message is its rule, and where nothing is, that which it had
abbrev pub later_or : Option ℕ → Option ℕ → Option ℕ
later_or later before = given later before λ answer. Some answer

-- these rules are set, and nothing else of the end has changed
pub record IsRuled (rule : ℕ → Option ℕ) (x y : TheEnd) : Type 0 where
  pub same : y ≡ record x { rules = y.rules }
  pub count : length y.rules ≡ length x.rules
  pub rules : (msg : ℕ) → rule_of_end y.rules msg ≡ later_or (rule msg) (rule_of_end x.rules msg)

over : (later o before : Option ℕ) → later_or later (later_or o before) ≡ later_or (later_or later o) before
over None o before = refl
over (Some answer) o before = refl

ruled_then : (first later : ℕ → Option ℕ) (x y z : TheEnd) → IsRuled first x y → IsRuled later y z → IsRuled (λ msg. later_or (later msg) (first msg)) x z
ruled_then first later x y z a b = record {
  same = b.same ∙ ap (λ (w : TheEnd). let u : TheEnd = record w { rules = z.rules } in u) a.same;
  count = b.count ∙ a.count;
  rules = λ msg. b.rules msg ∙ ap (later_or (later msg)) (a.rules msg) ∙ over (later msg) (first msg) (rule_of_end x.rules msg);
}

no_rule : (rule : ℕ → Option ℕ) (x : TheEnd) → ((msg : ℕ) → rule msg ≡ None) → IsRuled rule x x
no_rule rule x none = record {
  same = refl;
  count = refl;
  rules = λ msg. sym (ap (λ (o : Option ℕ). later_or o (rule_of_end x.rules msg)) (none msg));
}

abbrev one_rule : ℕ → ℕ → ℕ → Option ℕ
one_rule msg answer m = if msg == m then Some answer else None

set_by : (rules : List (Option ℕ)) (msg answer m : ℕ) (b : Bool) → (msg == m) ≡ b → msg < length rules
    → rule_of_end (slice_set rules msg (Some answer)) m ≡ later_or (if b then Some answer else None) (rule_of_end rules m)
set_by rules msg answer m true is below =
    let same : m ≡ msg = grind (arith, nat_tests, is) in
    ap (rule_of_end (slice_set rules msg (Some answer))) same ∙ here rules msg below
  where
    here : (rs : List (Option ℕ)) (n : ℕ) → n < length rs → rule_of_end (slice_set rs n (Some answer)) n ≡ Some answer
    here [] n few = absurd (omega (arith, few))
    here (r ∷ rs) zero few = refl
    here (r ∷ rs) (suc n) few = here rs n (omega (arith, few))
set_by rules msg answer m false is below =
    let other : m ≢ msg = λ e. let self : msg ≡ m = sym e in absurd (grind (arith, nat_tests, is, self)) in
    ap what_stands (set_elsewhere rules msg m (Some answer) other)

set_rule : (x y : TheEnd) (msg answer : ℕ) → msg < length x.rules → y ≡ with_rule x msg answer → IsRuled (one_rule msg answer) x y
set_rule x y msg answer below is =
    let rules : y.rules ≡ slice_set x.rules msg (Some answer) = ap (λ (u : TheEnd). u.rules) is in
    record {
      same = is ∙ ap (λ (rs : List (Option ℕ)). let u : TheEnd = record x { rules = rs } in u) (sym rules);
      count = ap length rules ∙ length-set x.rules msg (Some answer);
      rules = λ m. ap (λ (rs : List (Option ℕ)). rule_of_end rs m) rules ∙ set_by x.rules msg answer m (msg == m) refl below;
    }

-- ---- an end at its place

-- the end of this name, and no other, is at this place of a core
pub record SitsIn (k : TheCore) (e : EndId) (place : ℕ) (x : TheEnd) : Type 0 where
  pub place_is : place_of k e ≡ Some place
  pub alone : (f : EndId) → place_of k f ≡ Some place → f ≡ e
  pub seat : TheEndAtChannel
  pub seat_is : slice_get k.board.seats place ≡ Some seat
  pub end_is : seat.end ≡ x

pub record Sits (cores : List TheCore) (n : ℕ) (e : EndId) (place : ℕ) (x : TheEnd) : Type 0 where
  pub core : TheCore
  pub core_is : slice_get cores n ≡ Some core
  pub sits : SitsIn core e place x

-- after rules were set
pub record RuledIn (k : TheCore) (e : EndId) (place : ℕ) (rule : ℕ → Option ℕ) (x : TheEnd) : Type 0 where
  pub end : TheEnd
  pub sits : SitsIn k e place end
  pub ruled : IsRuled rule x end

pub record RuledAt (cores : List TheCore) (n : ℕ) (e : EndId) (place : ℕ) (rule : ℕ → Option ℕ) (x : TheEnd) : Type 0 where
  pub end : TheEnd
  pub sits : Sits cores n e place end
  pub ruled : IsRuled rule x end

-- there is a place for the rule of each message
abbrev pub HasPlaces : TheEnd → Type 0
HasPlaces x = length x.rules ≡ length (interface_in x).messages

message_within : {M : Type 0} (messages : List M) (msg : ℕ) → IsSome (slice_get messages msg) → msg < length messages
message_within [] msg h = absurd (cc)
message_within (m ∷ messages) zero h = omega arith
message_within (m ∷ messages) (suc msg) h = let below = message_within messages msg h in omega (arith, below)

abbrev job_rule : EndId → Job → ℕ → Option ℕ
job_rule e job msg = rule_in e msg job

module _ (e : EndId) (place : ℕ) (x : TheEnd) where
  -- the core of another run of the same board but for one place
  sits_kept : (k k2 : TheCore) (y : TheEnd) (seat : TheEndAtChannel) → k2 ≡ with_board k k2.board → slice_get k2.board.seats place ≡ Some seat → seat.end ≡ y
      → SitsIn k e place x → SitsIn k2 e place y
  sits_kept k k2 y seat rest seat_is end_is s = record {
    place_is = ap (λ (c : TheCore). place_of c e) rest ∙ s.place_is;
    alone = λ f at. s.alone f (ap (λ (c : TheCore). place_of c f) (sym rest) ∙ at);
    seat = seat;
    seat_is = seat_is;
    end_is = end_is;
  }

  -- the rule is another end's
  elsewhere : (f : EndId) (msg answer : ℕ) (k k2 : TheCore) → RulesCore f msg answer k k2 → same_end e f ≡ false → SitsIn k e place x → SitsIn k2 e place x
  elsewhere f msg answer k k2 r other s =
      let away : place ≢ r.place = λ at.
      let named : place_of k f ≡ Some place = r.place_is ∙ ap Some (sym at) in
      let yes_it_is : same_end e f ≡ true = same_true e f (s.alone f named) in absurd (cc) in
      let event = r.sets.event in
      sits_kept k k2 x s.seat r.sets.rest
      (ap (λ (b : TheBoard). slice_get b.seats place) event.board ∙ set_elsewhere k.board.seats r.place place _ away ∙ s.seat_is)
      s.end_is s

  -- it is this end's
  here : (msg answer : ℕ) (k k2 : TheCore) → RulesCore e msg answer k k2 → HasPlaces x → SitsIn k e place x → RuledIn k2 e place (one_rule msg answer) x
  here msg answer k k2 r places s =
      let told : Some r.place ≡ Some place = sym r.place_is ∙ s.place_is in
      let at : r.place ≡ place = cc in
      let event = r.sets.event in
      let seat : event.seat ≡ s.seat = one_stands k.board.seats place event.seat s.seat (ap (slice_get k.board.seats) (sym at) ∙ event.seat_is) s.seat_is in
      let was : event.seat.end ≡ x = ap (λ (u : TheEndAtChannel). u.end) seat ∙ s.end_is in
      let set : event.end ≡ with_rule x msg answer = event.event.3 ∙ ap (λ (u : TheEnd). with_rule u msg answer) was in
      let message : IsMessage (interface_in x) msg = subst (λ (u : TheEnd). IsMessage (interface_in u) msg) was event.event.0 in
      let few : msg < length (interface_in x).messages = message_within (interface_in x).messages msg message in
      let below : msg < length x.rules = omega (arith, few, places) in
      let now : TheEndAtChannel = record { end = event.end; dispatcher = event.seat.dispatcher; channel = event.seat.channel; kind = event.seat.kind } in
      record {
        end = event.end;
        sits = sits_kept k k2 event.end now r.sets.rest
            (ap (λ (b : TheBoard). slice_get b.seats place) event.board ∙ ap (λ (n : ℕ). slice_get (slice_set k.board.seats n now) place) at
            ∙ set_here k.board.seats place s.seat now s.seat_is)
            refl s;
        ruled = set_rule x event.end msg answer below set;
      }

-- ---- one job, and all

rule_here : (e f : EndId) (msg answer m : ℕ) → same_end e f ≡ true → rule_in e m (replies f msg answer) ≡ one_rule msg answer m
rule_here e f msg answer m is = ap (λ (b : Bool). if b && (msg == m) then Some answer else None) is

rule_elsewhere : (e f : EndId) (msg answer m : ℕ) → same_end e f ≡ false → rule_in e m (replies f msg answer) ≡ None
rule_elsewhere e f msg answer m is = ap (λ (b : Bool). if b && (msg == m) then Some answer else None) is

by_rules : (x y : TheEnd) (rule rule2 : ℕ → Option ℕ) → ((msg : ℕ) → rule2 msg ≡ rule msg) → IsRuled rule x y → IsRuled rule2 x y
by_rules x y rule rule2 same r = record {
  same = r.same;
  count = r.count;
  rules = λ msg. r.rules msg ∙ ap (λ (o : Option ℕ). later_or o (rule_of_end x.rules msg)) (sym (same msg));
}

module _ (bindings : List Binding) (e : EndId) (b : Binding) (b_is : slice_get bindings e.binding ≡ Some b) (place : ℕ) where
  abbrev home : ℕ
  home = core_in e.side b

  quiet : (rule : ℕ → Option ℕ) (x : TheEnd) (cores m : List TheCore) → m ≡ cores → ((msg : ℕ) → rule msg ≡ None) → Sits cores home e place x → RuledAt m home e place rule x
  quiet rule x cores m same none s = record {
    end = x;
    sits = subst (λ (ks : List TheCore). Sits ks home e place x) (sym same) s;
    ruled = no_rule rule x none;
  }

  -- another core's rule, or a rule at this core
  kept_by : (f : EndId) (msg answer n : ℕ) (x : TheEnd) (cores m : List TheCore) (t : Bool) → (n == home) ≡ t → same_end e f ≡ false → RulesAt n f msg answer cores m
      → Sits cores home e place x → Sits m home e place x
  kept_by f msg answer n x cores m true is other r s =
      let at : n ≡ home = grind (arith, nat_tests, is) in
      let core : r.core ≡ s.core = one_stands cores home r.core s.core (ap (slice_get cores) (sym at) ∙ r.core_is) s.core_is in
      record {
        core = r.after;
        core_is = ap (λ (ks : List TheCore). slice_get ks home) r.rest ∙ ap (λ (i : ℕ). slice_get (slice_set cores i r.after) home) at
            ∙ set_here cores home s.core r.after s.core_is;
        sits = elsewhere e place x f msg answer r.core r.after r.rules other (subst (λ (k : TheCore). SitsIn k e place x) (sym core) s.sits);
      }
  kept_by f msg answer n x cores m false is other r s =
      let away : home ≢ n = λ at. let self : n ≡ home = sym at in absurd (grind (arith, nat_tests, is, self)) in
      record {
        core = s.core;
        core_is = ap (λ (ks : List TheCore). slice_get ks home) r.rest ∙ set_elsewhere cores n home r.after away ∙ s.core_is;
        sits = s.sits;
      }

  -- the end's own
  set_at : (msg answer : ℕ) (x : TheEnd) (cores m : List TheCore) → HasPlaces x → RulesAt home e msg answer cores m → Sits cores home e place x
      → RuledAt m home e place (one_rule msg answer) x
  set_at msg answer x cores m places r s =
      let core : s.core ≡ r.core = one_stands cores home s.core r.core s.core_is r.core_is in
      let it = here e place x msg answer r.core r.after r.rules places (subst (λ (k : TheCore). SitsIn k e place x) core s.sits) in
      record {
        end = it.end;
        sits = record {
          core = r.after;
          core_is = ap (λ (ks : List TheCore). slice_get ks home) r.rest ∙ set_here cores home r.core r.after r.core_is;
          sits = it.sits;
        };
        ruled = it.ruled;
      }

  reply_by : (f : EndId) (msg answer : ℕ) (x : TheEnd) (cores m : List TheCore) (t : Bool) (o : Option Binding) → same_end e f ≡ t → slice_get bindings f.binding ≡ o
      → HasPlaces x → RuleNow o f msg answer cores m → Sits cores home e place x → RuledAt m home e place (job_rule e (replies f msg answer)) x
  reply_by f msg answer x cores m false None is at places now s =
      quiet (job_rule e (replies f msg answer)) x cores m now (λ n. rule_elsewhere e f msg answer n is) s
  reply_by f msg answer x cores m false (Some y) is at places now s = record {
    end = x;
    sits = kept_by f msg answer (core_in f.side y) x cores m (core_in f.side y == home) refl is now s;
    ruled = no_rule (job_rule e (replies f msg answer)) x (λ n. rule_elsewhere e f msg answer n is);
  }
  reply_by f msg answer x cores m true None is at places now s =
      let one = one_end e f is in
      let none : None ≡ Some b = sym at ∙ ap (λ (u : EndId). slice_get bindings u.binding) (sym one) ∙ b_is in absurd (cc)
  reply_by f msg answer x cores m true (Some y) is at places now s =
      let one = one_end e f is in
      let there : Some y ≡ Some b = sym at ∙ ap (λ (u : EndId). slice_get bindings u.binding) (sym one) ∙ b_is in
      let same : y ≡ b = cc in
      let own : RulesAt home e msg answer cores m =
      subst (λ (u : EndId). RulesAt (core_in u.side b) u msg answer cores m) (sym one)
      (subst (λ (u : Binding). RulesAt (core_in f.side u) f msg answer cores m) same now) in
      let it = set_at msg answer x cores m places own s in
      record {
        end = it.end;
        sits = it.sits;
        ruled = by_rules x it.end (one_rule msg answer) (job_rule e (replies f msg answer)) (λ n. rule_here e f msg answer n is) it.ruled;
      }

  by_job : (job : Job) (x : TheEnd) (cores m : List TheCore) → HasPlaces x → RuleOf bindings job cores m → Sits cores home e place x → RuledAt m home e place (job_rule e job) x
  by_job (opens w) x cores m places of_it s = quiet (job_rule e (opens w)) x cores m of_it (λ msg. refl) s
  by_job (replies f msg answer) x cores m places of_it s =
      reply_by f msg answer x cores m (same_end e f) (slice_get bindings f.binding) refl refl places of_it s
  by_job (calls f c) x cores m places of_it s = quiet (job_rule e (calls f c)) x cores m of_it (λ msg. refl) s

  -- after all jobs its rules are those that they ask for
  pub by_jobs : (jobs : List Job) (x : TheEnd) (cores cores2 : List TheCore) → HasPlaces x → RulesOf bindings jobs cores cores2 → Sits cores home e place x
      → RuledAt cores2 home e place (λ msg. rule_for jobs e msg) x
  by_jobs [] x cores cores2 places of_them s = quiet (λ msg. rule_for [] e msg) x cores cores2 of_them (λ msg. refl) s
  by_jobs (job ∷ jobs) x cores cores2 places of_them s =
      let (m, one, rest) = of_them in
      let a = by_job job x cores m places one s in
      let still : HasPlaces a.end =
      a.ruled.count ∙ places ∙ ap (λ (u : TheEnd). length (interface_in u).messages) (sym a.ruled.same) in
      let more = by_jobs jobs a.end m cores2 still rest a.sits in
      record {
        end = more.end;
        sits = more.sits;
        ruled = ruled_then (job_rule e job) (λ msg. rule_for jobs e msg) x a.end more.end a.ruled more.ruled;
      }
