-- At an end that is set up the machine finds the binding, and the interface, that a line finds; so it refuses a call and a rule there alike.
use Rattle.std.proofs.Common.{◌≡◌, refl, sym, ◌∙◌, ap, subst, ℕ, ◌+◌, ◌≤◌, Bool, true, false, not, ◌&&◌, ◌||◌, if◌then◌else◌, List, length, nat_le, slice_get}
use Rattle.std.proofs.Common.{Option, Some, None, option_map, arith}
use Rattle.std.specs.Prelude.{unwrap_or}
use Rattle.std.proofs.lemmas.List.{length-map}
use Rattle.std.proofs.lemmas.Option.{slice_get-map}
use Rattle.fl_base.specs.declared.identity.EndId.{EndId}
use Rattle.fl_base.specs.Ends.{other}
use Rattle.fl_base.specs.Given.{given}
use Rattle.fl_interface.specs.SameTypes.{same_arguments}
use Rattle.fl_value_data.specs.Fits.{fits_of}
use Rattle.fl_value_data.specs.Value.{TheCall}
use Rattle.fl_model.specs.Calls.{Planned}
use Rattle.fl_model.specs.Ends.{End, accepts, is_bound, is_busy, with_rule}
use Rattle.fl_model.specs.Events.{Event, call, reply, refused, accepted, done}
use Rattle.fl_model.specs.Sending as machine
use Rattle.fl_model.specs.State.{Binding, State, StepOutcome, answers, change_end, change_out, end_in}
use Rattle.fl_model.specs.Step.{step}
use Rattle.fl_model.specs.Taking.{arguments_of, has_message}
use Rattle.fl_cores_file.specs.CoresFile.{which_opened, count_set_up, numbered, numbers_of, end_by}
use Rattle.fl_cores_file.specs.Draft.{Bound, Draft, use_at, is_for_calls, is_for_rules, call_fault, rule_fault, takes}
use Rattle.fl_cores_file.specs.Verdicts.{stops, goes_on}
use Rattle.fl_cores_file_laws.specs.AtEnds.{fault_answered, fault_asked, EndsRefuseAlike}
use Rattle.fl_cores_file_laws.specs.SetUps.{ComeTo, behind}
use Rattle.fl_cores_file_laws.proofs.Accepted.{which_same}
use Rattle.fl_cores_file_laws.proofs.BoundKinds.{kind_of, kinds, known, set_up_kinds}
use Rattle.fl_cores_file_laws.proofs.Joining.{none_past, past_of}
use Rattle.fl_cores_file_laws.proofs.Lines.{the_machines, mirrored, same_answer}
use Rattle.fl_cores_file_laws.proofs.Lists.{got_map}
use Rattle.fl_cores_file_laws.proofs.Mirrors.{Mirrors}
use Rattle.fl_cores_file_laws.proofs.Numbers.{which, before, number_at, numbers, numbers_long, number_is, picked_at, both_kinds}
use Rattle.fl_cores_file_laws.proofs.Seated.{kind_is}
use Rattle.fl_cores_file_laws.proofs.Standing.{Sort, sort_of, sorts, picked, Kept, kept_by, only_set_up}
use Rattle.fl_cores_file_laws.proofs.Views.{view_of}

-- ---- by the tests that both make

call_by : (s t : State) (y : Draft) (lacks misfits unbound busy ruled : Bool)
    → fault_answered (StepOutcome.answer (if lacks then answers s (refused 41) else if misfits then answers s (refused 42)
    else if unbound then answers s (refused 43) else if busy then answers s (refused 40) else answers t accepted))
    ≡ fault_asked (given (if lacks then Some 41 else if misfits then Some 42 else if ruled then Some 44 else None) (goes_on y) stops)
call_by s t y true misfits unbound busy ruled = refl
call_by s t y false true unbound busy ruled = refl
call_by s t y false false true busy true = refl
call_by s t y false false true busy false = refl
call_by s t y false false false true true = refl
call_by s t y false false false true false = refl
call_by s t y false false false false true = refl
call_by s t y false false false false false = refl

rule_by : (s t : State) (y : Draft) (lacks misfits taken : Bool)
    → fault_answered (StepOutcome.answer (if lacks then answers s (refused 41) else if misfits then answers s (refused 42) else answers t done))
    ≡ fault_asked (given (if lacks then Some 41 else if misfits then Some 42 else if taken then Some 44 else None) (goes_on y) stops)
rule_by s t y true misfits taken = refl
rule_by s t y false true taken = refl
rule_by s t y false false true = refl
rule_by s t y false false false = refl

-- ---- what is found at an end

module _ (lines : List Event) (d : Draft) (come : ComeTo lines d) where
  abbrev s : State
  s = behind d

  abbrev ss : List Sort
  ss = sorts d.bindings

  abbrev ns : List ℕ
  ns = numbers ss

  kept_d : Kept d
  kept_d = kept_by lines d come

  same : s.interfaces ≡ d.interfaces
  same = let m : Mirrors d (view_of s) = mirrored lines d come in m.interfaces

  at_once : kinds s ≡ known (picked false ss)
  at_once = set_up_kinds d.cores d.setup (only_set_up lines d come) (the_machines lines d come).passes ∙ ap known kept_d.set_up

  -- a binding that is set up
  there : (e : EndId) (b : Bound) → slice_get d.bindings e.binding ≡ Some b → b.is_opened ≡ false
      → (x : Binding) × (slice_get s.bindings (numbered ns e.binding) ≡ Some x) × (x.interface ≡ b.interface)
  there e b at set_up =
      let k = e.binding in
      let here : slice_get ss k ≡ Some (sort_of b) = slice_get-map sort_of d.bindings k ∙ ap (option_map sort_of) at in
      let place : numbered ns k ≡ before false ss k =
      number_is ss k (sort_of b) here ∙ ap (number_at 0 (count_set_up (which ss)) ss k) set_up
      ∙ (let e : 0 + before false ss k ≡ before false ss k = omega arith in e) in
      let own : slice_get (picked false ss) (numbered ns k) ≡ Some b.interface =
      ap (slice_get (picked false ss)) place ∙ picked_at false ss k (sort_of b) here set_up in
      let kind : slice_get (kinds s) (numbered ns k) ≡ Some (Some b.interface) =
      ap (λ ks. slice_get ks (numbered ns k)) at_once ∙ slice_get-map (λ (i : ℕ). Some i) (picked false ss) (numbered ns k)
      ∙ ap (option_map (λ (i : ℕ). Some i)) own in
      let one = got_map kind_of s.bindings (numbered ns k) (Some b.interface) kind in
      (one.0, one.1, kind_is one.0.back one.0.interface b.interface one.2)

  -- no binding
  missing : (e : EndId) → slice_get d.bindings e.binding ≡ None → slice_get s.bindings (numbered ns e.binding) ≡ None
  missing e at =
      let k = e.binding in
      let past : length d.bindings ≤ k = past_of d.bindings k at in
      let long = numbers_long 0 (count_set_up (which ss)) ss in
      let number : numbered ns k ≡ k =
      ap (λ (o : Option ℕ). unwrap_or o k) (none_past ns k (omega (arith, past, long, length-map d.bindings sort_of))) in
      none_past s.bindings (numbered ns k)
      (omega (
        arith,
        past,
        number,
        both_kinds ss,
        length-map d.bindings sort_of,
        length-map s.bindings kind_of,
        ap length at_once,
        length-map (picked false ss) (λ (i : ℕ). Some i),
      ))

  -- so what both say by what is found there
  module _ (finds : Bound → Planned → Option ℕ) (asks : Binding → Planned → StepOutcome) (y : Draft)
      (alike : (b : Bound) (x : Binding) (i : Planned) → fault_answered (asks x i).answer ≡ fault_asked (given (finds b i) (goes_on y) stops)) where
    abbrev answered : Option Binding → Option ℕ
    answered o =
        fault_answered (StepOutcome.answer (given o (answers s (refused 92)) λ x.
        given (slice_get s.interfaces x.interface) (answers s (refused 92)) λ i. asks x i))

    abbrev told : Option Bound → Option ℕ
    told o =
        fault_asked (given (given o (Some 92) λ (b : Bound). given (slice_get d.interfaces b.interface) (Some 92) λ i. finds b i) (goes_on y) stops)

    spoken : (b : Bound) (x : Binding) (o : Option Planned)
        → fault_answered (StepOutcome.answer (given o (answers s (refused 92)) λ i. asks x i))
        ≡ fault_asked (given (given o (Some 92) λ i. finds b i) (goes_on y) stops)
    spoken b x None = refl
    spoken b x (Some i) = alike b x i

    at_end : (e : EndId) → (slice_get (which_opened d.bindings) e.binding ≡ Some true → ⊥)
        → answered (slice_get s.bindings (numbered ns e.binding)) ≡ told (slice_get d.bindings e.binding)
    at_end e not_opened = by (slice_get d.bindings e.binding) refl
      where
        by_kind : (b : Bound) → slice_get d.bindings e.binding ≡ Some b → (o : Bool) → b.is_opened ≡ o → b.is_opened ≡ false
        by_kind b at false is = is
        by_kind b at true is =
            absurd (not_opened (slice_get-map (λ (x : Bound). x.is_opened) d.bindings e.binding ∙ ap (option_map (λ (x : Bound). x.is_opened)) at ∙ ap Some is))

        by : (o : Option Bound) → slice_get d.bindings e.binding ≡ o
            → answered (slice_get s.bindings (numbered ns e.binding)) ≡ told (slice_get d.bindings e.binding)
        by None at = ap answered (missing e at) ∙ sym (ap told at)
        by (Some b) at =
            let one = there e b at (by_kind b at b.is_opened refl) in
            ap answered one.1
            ∙ ap (λ n. fault_answered (StepOutcome.answer (given (slice_get s.interfaces n) (answers s (refused 92)) λ i. asks one.0 i))) one.2
            ∙ ap (λ (is : List Planned). fault_answered (StepOutcome.answer (given (slice_get is b.interface) (answers s (refused 92)) λ i. asks one.0 i))) same
            ∙ spoken b one.0 (slice_get d.interfaces b.interface) ∙ sym (ap told at)

  calls_alike : (e : EndId) → (slice_get (which_opened d.bindings) e.binding ≡ Some true → ⊥) → (c : TheCall)
      → fault_answered (step s (call (end_by ns e) c)).answer ≡ fault_asked (takes (call e c) d)
  calls_alike e not_opened c =
      let f = end_by ns e in
      ap fault_answered (same_answer (call f c) s)
      ∙ at_end (call_fault e.side c) (λ x i. machine.makes_call f c i (end_in e.side x) s) _
      (λ b x i. call_by s (change_out f (accepts c) s) _ (nat_le (length i.interface.messages) c.msg) (not (fits_of i.interface c))
      (not (is_bound (end_in e.side x))) (is_busy i (End.out (end_in e.side x))) (is_for_rules (use_at e.side b))) e not_opened

  rules_alike : (e : EndId) → (slice_get (which_opened d.bindings) e.binding ≡ Some true → ⊥) → (msg answer : ℕ)
      → fault_answered (step s (reply (end_by ns e) msg answer)).answer ≡ fault_asked (takes (reply e msg answer) d)
  rules_alike e not_opened msg answer =
      let f = end_by ns e in
      let t = change_end f (with_rule msg answer) s in
      ap fault_answered (same_answer (reply f msg answer) s)
      ∙ at_end (rule_fault e.side msg answer)
      (λ x i. if not (has_message msg i && has_message answer i) then answers s (refused 41)
      else if not (same_arguments (arguments_of msg i) (arguments_of answer i)) then answers s (refused 42) else answers t done) _
      (λ b x i. rule_by s t _ (not (has_message msg i && has_message answer i)) (not (same_arguments (arguments_of msg i) (arguments_of answer i)))
      (is_for_calls (use_at e.side b) || is_for_rules (use_at (other e.side) b))) e not_opened

-- by the numbers that the law names
pub ends_refuse_alike : EndsRefuseAlike
ends_refuse_alike lines d come e not_opened = record {
  calls = λ c.
      subst (λ (os : List Bool). fault_answered (step (behind d) (call (end_by (numbers_of os) e) c)).answer ≡ fault_asked (takes (call e c) d))
      (sym (which_same d.bindings)) (calls_alike lines d come e not_opened c);
  rules = λ msg answer.
      subst (λ (os : List Bool).
      fault_answered (step (behind d) (reply (end_by (numbers_of os) e) msg answer)).answer ≡ fault_asked (takes (reply e msg answer) d))
      (sym (which_same d.bindings)) (rules_alike lines d come e not_opened msg answer);
}
