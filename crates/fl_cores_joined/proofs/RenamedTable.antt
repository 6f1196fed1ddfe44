-- A table of circuits under other numbers of bindings: what is looked up there, what becomes of it, and what a message
-- comes to at it.
use Rattle.std.proofs.Common.{◌≡◌, refl, sym, ◌∙◌, ap, subst, ℕ, ◌<◌, ◌==◌, nat_lt, Bool, true, false, if◌then◌else◌, List, [], ◌∷◌, length, map, slice_index_or, Option, Some, None, arith}
use Rattle.std.specs.Prelude.{◌||◌, option_map}
use Rattle.std.specs.List.{list_any}
use Rattle.std.proofs.lemmas.Bool.{eq-eqb, eqb-true}
use Rattle.std.proofs.lemmas.Bool.Decides.{nat_tests}
use Rattle.fl_base.specs.Numbered.{most_bindings}
use Rattle.fl_base.specs.Given.{given}
use Rattle.fl_base.specs.declared.identity.LinkId.{LinkId}
use Rattle.fl_hop.specs.declared.entry.Hop.{Hop}
use Rattle.fl_hop.specs.declared.entry.HopTarget.{HopTarget}
use Rattle.fl_hop.specs.declared.entry.HopTarget.TheVariants.{Link, End}
use Rattle.fl_hop.specs.declared.fault.HopFault.TheVariants.{Misrouted, NoLink}
use Rattle.fl_hop.specs.Table.{TheCircuits, numbers, slot, hop_at, is_of, stands, put_at, with_entry, without_entry}
use Rattle.fl_hop.specs.Later.{way_at}
use Rattle.fl_base.specs.declared.identity.Side.TheVariants.{Server}
use Rattle.fl_hop.specs.Numbers.{next_own, after_taking}
use Rattle.fl_hop.specs.Openings.{if_used_up, open_fault, answered, IsWaiting}
use Rattle.fl_hop.proofs.Lists.{index_map}
use Rattle.fl_monitor.specs.declared.heard.MessageOutcome.{MessageOutcome}
use Rattle.fl_monitor.specs.declared.heard.MessageOutcome.TheVariants as heard
use Rattle.fl_monitor.specs.declared.message.MonitorMessage.{MonitorMessage}
use Rattle.fl_monitor.specs.declared.message.MonitorMessage.TheVariants.{OpenCircuit, CircuitOpened, CircuitRefused}
use Rattle.fl_monitor.specs.Hearing.{table_after}
use Rattle.fl_cores_joined.specs.Renamed.{Renaming, message_under, way_under, hop_under, circuits_under, outcome_under}
use Rattle.fl_cores_joined.proofs.Joining.{map_set}

module _ (r : Renaming) where
  abbrev entry_under : Option Hop → Option Hop
  entry_under o = option_map (hop_under r) o

  -- ---- numbers

  one_number : (a b : ℕ) → r.to a ≡ r.to b → a ≡ b
  one_number a b same = sym (r.there a) ∙ ap r.back same ∙ r.there b

  same_test : (a b : ℕ) → (r.to a == r.to b) ≡ (a == b)
  same_test a b = by (r.to a == r.to b) (a == b) refl refl
    where
      by : (x y : Bool) → (r.to a == r.to b) ≡ x → (a == b) ≡ y → (r.to a == r.to b) ≡ (a == b)
      by true true p q = p ∙ sym q
      by false false p q = p ∙ sym q
      by true false p q =
          let e : true ≡ false = sym (eq-eqb a b (one_number a b (eqb-true (r.to a) (r.to b) p))) ∙ q in
          absurd (cc)
      by false true p q =
          let e : true ≡ false = sym (eq-eqb (r.to a) (r.to b) (ap r.to (eqb-true a b q))) ∙ p in
          absurd (cc)

  pub few_same : (n : ℕ) → nat_lt (r.to n) most_bindings ≡ nat_lt n most_bindings
  few_same n = by (nat_lt (r.to n) most_bindings) (nat_lt n most_bindings) refl refl
    where
      less : (a : ℕ) → nat_lt a most_bindings ≡ true → a < most_bindings
      less a h = grind (arith, nat_tests, h)

      not_less : (a : ℕ) → nat_lt a most_bindings ≡ false → a < most_bindings → ⊥
      not_less a h l = absurd (grind (arith, nat_tests, h, l))

      by : (x y : Bool) → nat_lt (r.to n) most_bindings ≡ x → nat_lt n most_bindings ≡ y → nat_lt (r.to n) most_bindings ≡ nat_lt n most_bindings
      by true true p q = p ∙ sym q
      by false false p q = p ∙ sym q
      by true false p q =
          absurd (not_less n q (subst (λ (k : ℕ). k < most_bindings) (r.there n) (r.few_back (r.to n) (less (r.to n) p))))
      by false true p q = absurd (not_less (r.to n) p (r.few n (less n q)))

  -- ---- what is looked up

  pub hop_there : (t : TheCircuits) (l n : ℕ) → hop_at (circuits_under r t) l n ≡ entry_under (hop_at t l n)
  hop_there t l n = by (nat_lt n numbers)
    where
      by : (b : Bool) → (if b then slice_index_or (map entry_under t.hops) (slot l n) None else None)
          ≡ entry_under (if b then slice_index_or t.hops (slot l n) None else None)
      by true = index_map entry_under t.hops (slot l n) None
      by false = refl

  pub way_there : (t : TheCircuits) (l n : ℕ) → way_at (circuits_under r t) l n ≡ option_map (way_under r) (way_at t l n)
  way_there t l n = ap (λ (o : Option Hop). option_map (λ (hop : Hop). hop.way) o) (hop_there t l n) ∙ by (hop_at t l n)
    where
      by : (o : Option Hop) → option_map (λ (hop : Hop). hop.way) (entry_under o) ≡ option_map (way_under r) (option_map (λ (hop : Hop). hop.way) o)
      by None = refl
      by (Some hop) = refl

  of_it : (binding : ℕ) (o : Option Hop) → is_of (r.to binding) (entry_under o) ≡ is_of binding o
  of_it binding None = refl
  of_it binding (Some hop) = same_test hop.binding binding

  any_there : (binding : ℕ) (hops : List (Option Hop)) → list_any (is_of (r.to binding)) (map entry_under hops) ≡ list_any (is_of binding) hops
  any_there binding [] = refl
  any_there binding (o ∷ hops) =
      ap (λ (b : Bool). b || list_any (is_of (r.to binding)) (map entry_under hops)) (of_it binding o)
      ∙ ap (λ (b : Bool). is_of binding o || b) (any_there binding hops)

  pub stands_there : (t : TheCircuits) (binding : ℕ) → stands (circuits_under r t) (r.to binding) ≡ stands t binding
  stands_there t binding = any_there binding t.hops

  pub fault_there : (t : TheCircuits) (l binding : ℕ) → open_fault (circuits_under r t) l (r.to binding) ≡ open_fault t l binding
  fault_there t l binding =
      ap (λ (b : Bool). if nat_lt l (length t.links) then (if b then Some Misrouted else if_used_up (next_own t l)) else Some NoLink) (stands_there t binding)

  -- ---- what becomes of it

  put_there : (way : HopTarget) (o : Option Hop) (hops : List (Option Hop))
      → map entry_under (put_at way o hops) ≡ put_at (way_under r way) (entry_under o) (map entry_under hops)
  put_there (Link l c) o hops = map_set entry_under hops (slot l.0 c.0) o
  put_there (End e) o hops = refl

  pub entry_there : (t : TheCircuits) (binding : ℕ) (b : Bool) (one two : HopTarget)
      → circuits_under r (with_entry t binding b one two) ≡ with_entry (circuits_under r t) (r.to binding) b (way_under r one) (way_under r two)
  entry_there t binding b one two =
      let first = put_at one (Some (record { binding = binding; way = two; answered = b })) t.hops in
      ap (λ (hops : List (Option Hop)). record t { hops = hops })
      (put_there two (Some (record { binding = binding; way = one; answered = b })) first
      ∙ ap (put_at (way_under r two) (Some (record { binding = r.to binding; way = way_under r one; answered = b })))
      (put_there one (Some (record { binding = binding; way = two; answered = b })) t.hops))

  pub removed_there : (t : TheCircuits) (one two : HopTarget)
      → circuits_under r (without_entry t one two) ≡ without_entry (circuits_under r t) (way_under r one) (way_under r two)
  removed_there t one two =
      ap (λ (hops : List (Option Hop)). record t { hops = hops })
      (put_there two None (put_at one None t.hops) ∙ ap (put_at (way_under r two) None) (put_there one None t.hops))

  -- ---- a message

  pub waits_there : (t : TheCircuits) (l n : ℕ) (hop : Hop) → IsWaiting t l n hop → IsWaiting (circuits_under r t) l n (hop_under r hop)
  waits_there t l n hop h = record { here = h.here; there = hop_there t l n ∙ ap entry_under h.there; unanswered = h.unanswered }

  -- and what becomes of the table
  pub after_there : (t : TheCircuits) (l : LinkId) (m : MonitorMessage) (out : MessageOutcome)
      → table_after (circuits_under r t) l (message_under r m) (outcome_under r out) ≡ circuits_under r (table_after t l m out)
  after_there t l (OpenCircuit c binding service path) (heard.OpeningWentOn b m n) =
      sym (entry_there _ binding false (Link l c) (Link m n))
  after_there t l (OpenCircuit c binding service path) (heard.ServerMade b dispatcher d) =
      sym (entry_there (after_taking t l.0) binding false (Link l c) (End (record { binding = binding; side = Server })))
  after_there t l (OpenCircuit c binding service path) (heard.OpeningFailed b fault) = refl
  after_there t l (OpenCircuit c binding service path) (heard.AnswerWentOn b m d) = refl
  after_there t l (OpenCircuit c binding service path) (heard.EndOpened e d) = refl
  after_there t l (OpenCircuit c binding service path) (heard.EndRefused e reason) = refl
  after_there t l (CircuitOpened c) out = ap (λ (o : Option Hop). given o (circuits_under r t) (λ hop. answered (circuits_under r t) l c hop))
      (hop_there t l.0 c.0) ∙ by (hop_at t l.0 c.0)
    where
      by : (o : Option Hop) → given (entry_under o) (circuits_under r t) (λ hop. answered (circuits_under r t) l c hop)
          ≡ circuits_under r (given o t (λ (hop : Hop). answered t l c hop))
      by None = refl
      by (Some hop) = sym (entry_there t hop.binding true hop.way (Link l c))
  after_there t l (CircuitRefused c reason) out =
      ap (λ (o : Option Hop). given o (circuits_under r t) (λ hop. without_entry (circuits_under r t) (Link l c) hop.way)) (hop_there t l.0 c.0)
      ∙ by (hop_at t l.0 c.0)
    where
      by : (o : Option Hop) → given (entry_under o) (circuits_under r t) (λ hop. without_entry (circuits_under r t) (Link l c) hop.way)
          ≡ circuits_under r (given o t (λ (hop : Hop). without_entry t (Link l c) hop.way))
      by None = refl
      by (Some hop) = sym (removed_there t (Link l c) hop.way)
