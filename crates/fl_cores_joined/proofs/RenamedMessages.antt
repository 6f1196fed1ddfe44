-- What a message comes to under other numbers of bindings, and what is said then; a message out of its place stays so.
use Rattle.std.proofs.Common.{◌≡◌, ◌∙◌, ◌&&◌, ◌∷◌, [], ℕ, refl, subst, Bool, List, None, Option, Some, ap, map, nat_lt, not, option_map, sym, true}
use Rattle.fl_base.specs.Numbered.{most_bindings}
use Rattle.fl_base.specs.declared.identity.LinkId.{LinkId}
use Rattle.fl_hop.specs.Numbers.{next_due}
use Rattle.fl_hop.specs.Openings.{is_next}
use Rattle.fl_hop.specs.Table.{TheCircuits, stands}
use Rattle.fl_hop.specs.declared.entry.Hop.{Hop}
use Rattle.fl_hop.specs.declared.entry.HopTarget.{HopTarget}
use Rattle.fl_model_laws.proofs.Small.{both_are}
use Rattle.fl_monitor.specs.Fates.{Known, comes_along, is_for_another, is_in_place}
use Rattle.fl_monitor.specs.Hearing.{ComesTo, IsMisrouted, heard_by, opened_at, refused_at}
use Rattle.fl_monitor.specs.declared.decision.OpeningDecision.{OpeningDecision}
use Rattle.fl_monitor.specs.declared.heard.MessageOutcome.{MessageOutcome}
use Rattle.fl_monitor.specs.declared.hearing.LinkMessage.{LinkMessage}
use Rattle.fl_monitor.specs.declared.message.MonitorMessage.{MonitorMessage}
use Rattle.fl_monitor.specs.declared.opening.Opening.{Opening}
use Rattle.fl_hop.specs.declared.entry.HopTarget.TheVariants.{Link, End}
use Rattle.fl_monitor.specs.declared.decision.OpeningDecision.TheVariants.{GoesOn, EndsAt, Fails}
use Rattle.fl_monitor.specs.Fates.{fate}
use Rattle.fl_monitor.specs.Hearing.{says}
use Rattle.fl_monitor.specs.declared.heard.MessageOutcome.TheVariants as heard
use Rattle.fl_monitor.specs.declared.message.MonitorMessage.TheVariants.{OpenCircuit, CircuitOpened, CircuitRefused}
use Rattle.fl_cores_joined.specs.Renamed.{Renaming, reversed, message_under, way_under, hop_under, circuits_under, outcome_under}
use Rattle.fl_cores_joined.proofs.RenamedTable.{few_same, stands_there, waits_there}

module _ (r : Renaming) where
  -- what is known is the same, under that number
  pub comes_there : (k k2 : Known) (t : TheCircuits) (l : LinkId) (m : MonitorMessage) (out : MessageOutcome) → k2.names ≡ k.names → k2.here ≡ k.here
      → ComesTo k t l m out → ComesTo k2 (circuits_under r t) l (message_under r m) (outcome_under r out)
  comes_there k k2 t l (OpenCircuit c binding service path) out names here (place, is) =
      let o : Opening = record { binding = binding; service = service; path = path } in
      let p : Opening = record { binding = r.to binding; service = service; path = path } in
      let same : k2 ≡ k = λ i. record { names = names i; here = here i } in
      let in_place : is_in_place k2 (circuits_under r t) l.0 c.0 p ≡ is_in_place k t l.0 c.0 o =
      ap (λ (x : Known). is_in_place x (circuits_under r t) l.0 c.0 p) same
      ∙ ap (λ (b : Bool). is_next (next_due t l.0) c.0 && b && not k.here.has_end && not (stands (circuits_under r t) (r.to binding))
      && comes_along t l.0 path && not (is_for_another k.names t o)) (few_same r binding)
      ∙ ap (λ (b : Bool). is_next (next_due t l.0) c.0 && nat_lt binding most_bindings && not k.here.has_end && not b
      && comes_along t l.0 path && not (is_for_another k.names t o)) (stands_there r t binding) in
      (in_place ∙ place, ap (outcome_under r) is ∙ by (fate k t l.0 o) ∙ ap (λ (x : Known). heard_by (r.to binding) c (fate x t l.0 o)) (sym same))
    where
      by : (d : OpeningDecision) → outcome_under r (heard_by binding c d) ≡ heard_by (r.to binding) c d
      by (GoesOn m n) = refl
      by (EndsAt dispatcher) = refl
      by (Fails fault) = refl
  comes_there k k2 t l (CircuitOpened c) out names here (hop, waits, is) =
      (hop_under r hop, waits_there r t l.0 c.0 hop waits, ap (outcome_under r) is ∙ by hop.way)
    where
      by : (way : HopTarget) → outcome_under r (opened_at c hop.binding way) ≡ opened_at c (r.to hop.binding) (way_under r way)
      by (Link m d) = refl
      by (End e) = refl
  comes_there k k2 t l (CircuitRefused c reason) out names here (hop, waits, is) =
      (hop_under r hop, waits_there r t l.0 c.0 hop waits, ap (outcome_under r) is ∙ by hop.way)
    where
      by : (way : HopTarget) → outcome_under r (refused_at reason hop.binding way) ≡ refused_at reason (r.to hop.binding) (way_under r way)
      by (Link m d) = refl
      by (End e) = refl

  -- ---- what is said then

  abbrev pub said_under : LinkMessage → LinkMessage
  said_under s = record { link = s.link; message = message_under r s.message }

  pub says_there : (l : LinkId) (m : MonitorMessage) (out : MessageOutcome)
      → says l (message_under r m) (outcome_under r out) ≡ option_map said_under (says l m out)
  says_there l (OpenCircuit c binding service path) (heard.OpeningWentOn b n d) = refl
  says_there l (CircuitOpened c) (heard.OpeningWentOn b n d) = refl
  says_there l (CircuitRefused c reason) (heard.OpeningWentOn b n d) = refl
  says_there l (OpenCircuit c binding service path) (heard.OpeningFailed b fault) = refl
  says_there l (CircuitOpened c) (heard.OpeningFailed b fault) = refl
  says_there l (CircuitRefused c reason) (heard.OpeningFailed b fault) = refl
  says_there l (OpenCircuit c binding service path) (heard.AnswerWentOn b n d) = refl
  says_there l (CircuitOpened c) (heard.AnswerWentOn b n d) = refl
  says_there l (CircuitRefused c reason) (heard.AnswerWentOn b n d) = refl
  says_there l m (heard.ServerMade b dispatcher c) = refl
  says_there l m (heard.EndOpened e c) = refl
  says_there l m (heard.EndRefused e reason) = refl

  -- ---- the way back

  way_back : (way : HopTarget) → way_under (reversed r) (way_under r way) ≡ way
  way_back (Link l c) = refl
  way_back (End e) = λ i. End (record { binding = r.there e.binding i; side = e.side })

  hop_back : (hop : Hop) → hop_under (reversed r) (hop_under r hop) ≡ hop
  hop_back hop = λ i. record { binding = r.there hop.binding i; way = way_back hop.way i; answered = hop.answered }

  hops_back : (hops : List (Option Hop)) → map (option_map (hop_under (reversed r))) (map (option_map (hop_under r)) hops) ≡ hops
  hops_back [] = refl
  hops_back (None ∷ hops) = ap (λ (hs : List (Option Hop)). None ∷ hs) (hops_back hops)
  hops_back (Some hop ∷ hops) = let rest = hops_back hops in λ i. Some (hop_back hop i) ∷ rest i

  pub circuits_back : (t : TheCircuits) → circuits_under (reversed r) (circuits_under r t) ≡ t
  circuits_back t = ap (λ (hops : List (Option Hop)). record t { hops = hops }) (hops_back t.hops)

  pub message_back : (m : MonitorMessage) → message_under (reversed r) (message_under r m) ≡ m
  message_back (OpenCircuit c binding service path) = λ i. OpenCircuit c (r.there binding i) service path
  message_back (CircuitOpened c) = refl
  message_back (CircuitRefused c reason) = refl

-- a message out of its place is there too
module _ (r : Renaming) where
  pub misrouted_there : (k k2 : Known) (t : TheCircuits) (l : LinkId) (m : MonitorMessage) → k2.names ≡ k.names → k2.here ≡ k.here
      → IsMisrouted k t l m → IsMisrouted k2 (circuits_under r t) l (message_under r m)
  misrouted_there k k2 t l m names here none out comes =
      let back = comes_there (reversed r) k2 k (circuits_under r t) l (message_under r m) out (sym names) (sym here) comes in
      none (outcome_under (reversed r) out)
      (subst (λ (n : MonitorMessage). ComesTo k t l n (outcome_under (reversed r) out)) (message_back r m)
      (subst (λ (u : TheCircuits). ComesTo k u l (message_under (reversed r) (message_under r m)) (outcome_under (reversed r) out)) (circuits_back r t) back))

-- ---- the binding of a message in its place is one that may be

pub few_in_place : (k : Known) (t : TheCircuits) (l c : ℕ) (o : Opening) → is_in_place k t l c o ≡ true → nat_lt o.binding most_bindings ≡ true
few_in_place k t l c o h =
    let one = is_next (next_due t l) c in
    let two = nat_lt o.binding most_bindings in
    let three = not k.here.has_end in
    let four = not (stands t o.binding) in
    let five = comes_along t l o.path in
    let (abcde, f_is) = both_are (one && two && three && four && five) (not (is_for_another k.names t o)) h in
    let (abcd, e_is) = both_are (one && two && three && four) five abcde in
    let (abc, d_is) = both_are (one && two && three) four abcd in
    let (ab, c_is) = both_are (one && two) three abc in
    let (a_is, b_is) = both_are one two ab in
    b_is
