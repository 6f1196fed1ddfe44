-- What went through local queues is what their ends put and took.
use Rattle.std.proofs.Common.{◌≡◌, refl, sym, ap, ◌∙◌, subst, ℕ, ◌==◌, if◌then◌else◌, List, [], ◌∷◌, ◌++◌, slice_get}
use Rattle.std.proofs.Common.{Option, Some, None, Bool, true, false, arith}
use Rattle.std.proofs.lemmas.Bool.Decides.{nat_tests}
use Rattle.fl_base.specs.declared.fragment.Frag.{Frag}
use Rattle.fl_base.specs.declared.identity.EndId.{EndId}
use Rattle.fl_base.specs.Given.{given}
use Rattle.fl_link.specs.Queue.{TheQueue, QueuePuts, QueueTakes}
use Rattle.fl_core.proofs.BoardPlaces.{one_stands}
use Rattle.fl_core.specs.declared.turn_answer.TurnAnswer.{TurnAnswer}
use Rattle.fl_hop.specs.declared.forward.ForwardOutcome.TheVariants.{Moved, Full, Spent}
use Rattle.fl_hop.specs.Stretch.{same_end}
use Rattle.fl_core.specs.View.{TheCore, place_of, side_of_link, outlet_by, inlet_by}
use Rattle.fl_core.specs.Sound.{IsCore}
use Rattle.fl_core.specs.declared.wiring.WiredEnd.{WiredEnd}
use Rattle.fl_core.specs.declared.wiring.EndWiring.{EndWiring}
use Rattle.fl_core.specs.declared.wiring.EndWiring.TheVariants.{Queues, Ring, Circuit}
use Rattle.fl_core.specs.declared.wiring.Outlet.{Outlet}
use Rattle.fl_core.specs.declared.wiring.Outlet.TheVariants as outlet
use Rattle.fl_core.specs.declared.wiring.Inlet.{Inlet}
use Rattle.fl_core.specs.declared.wiring.Inlet.TheVariants as inlet
use Rattle.fl_core.specs.declared.core_job.CoreJob.{CoreJob}
use Rattle.fl_core_run.specs.Run.{SideRelations, TheRun}
use Rattle.fl_core_run.specs.LogEntries.{LogEntry, looked, passed, arrived, heard, said, told, opened, called, ruled, wrote, acked, turned, OnQueue, Does}
use Rattle.fl_core_run_laws.specs.Logs.{InPlace, Goes, Carries}
use Rattle.fl_core_run_laws.specs.Flows.{IsApart}
use Rattle.fl_core_run_laws.proofs.Aside.{queues_aside}
use Rattle.fl_core_run_laws.proofs.Looking.{writes_looks, turn_looks}
use Rattle.fl_core_run_laws.proofs.Carrying.{write_put, turns_took, acted_put, acted_took, of_end}
use Rattle.fl_core_run_laws.proofs.Bearing.{at_side, BearsAt, nothing_there, bears_same, bears_on, bears_one}
use Rattle.fl_core_run_laws.proofs.Laning.{some_is, puts_to, takes_from, wired_end_out, wired_end_in}
use Rattle.fl_core_run_laws.proofs.Seating.{Sits, sits_first, apart, together}
use Rattle.fl_core_run_laws.proofs.Handling.{one_end}

-- ---- what was put to queue i, and what was taken from it

abbrev pub queue_put : {S : Type 0} (w : SideRelations S) (log_entry : LogEntry) (s m : TheRun S) → Does w log_entry s m → ℕ → List Frag
queue_put w (wrote e (outlet.Queue k) answer) s m h i = at_side k i (write_put w h.0 (outlet.Queue k) answer s m h.2)
queue_put w log_entry s m h i = []

abbrev pub queue_took : {S : Type 0} (w : SideRelations S) (log_entry : LogEntry) (s m : TheRun S) → Does w log_entry s m → ℕ → List Frag
queue_took w (turned d e (inlet.Queue k) answer) s m h i = at_side k i (turns_took w d h.0 (inlet.Queue k) answer s m h.3)
queue_took w log_entry s m h i = []

module _ {S : Type 0} (w : SideRelations S) where
  abbrev QueueBears : TheRun S → TheRun S → ℕ → List Frag → List Frag → Type 0
  QueueBears s m i put took = BearsAt QueuePuts QueueTakes s.queues m.queues i put took

  stays : (s m : TheRun S) (i : ℕ) → m.queues ≡ s.queues → QueueBears s m i [] []
  stays s m i same = bears_same QueuePuts QueueTakes s.queues m.queues i same

  one_queue : (n i : ℕ) (s m : TheRun S) (Event : TheCore → TheQueue → TheCore → TheQueue → Type 0) (h : OnQueue n s Event m) (put took : List Frag) → Carries QueuePuts QueueTakes put took h.before h.after
      → QueueBears s m i (at_side n i put) (at_side n i took)
  one_queue n i s m Event h put took c = bears_one QueuePuts QueueTakes s.queues m.queues n i h.before h.after put took h.before_is (ap (λ (x : TheRun S). x.queues) h.rest) c

  does_bear : (log_entry : LogEntry) (s m : TheRun S) (h : Does w log_entry s m) (i : ℕ) → QueueBears s m i (queue_put w log_entry s m h i) (queue_took w log_entry s m h i)
  does_bear (looked n l answer) s m h i = stays s m i (ap (λ (x : TheRun S). x.queues) h.rest)
  does_bear (passed n k frag c Moved) s m h i = stays s m i (ap (λ (x : TheRun S). x.queues) h.2.rest ∙ ap (λ (x : TheRun S). x.queues) h.1.rest)
  does_bear (passed n k frag c Full) s m h i = stays s m i (ap (λ (x : TheRun S). x.queues) h.rest)
  does_bear (passed n k frag c Spent) s m h i = stays s m i (ap (λ (x : TheRun S). x.queues) h.rest)
  does_bear (arrived n l frag e answer) s m h i = stays s m i (ap (λ (x : TheRun S). x.queues) h.rest)
  does_bear (heard n l frag answer) s m h i = stays s m i (ap (λ (x : TheRun S). x.queues) h.rest)
  does_bear (said n l answer) s m h i = stays s m i (ap (λ (x : TheRun S). x.queues) h.rest)
  does_bear (told n l answer) s m h i = stays s m i (ap (λ (x : TheRun S). x.queues) h.rest)
  does_bear (opened name request answer) s m h i = stays s m i (ap (λ (x : TheRun S). x.queues) h.rest)
  does_bear (called name c answer) s m h i = stays s m i (ap (λ (x : TheRun S). x.queues) h.2.rest)
  does_bear (ruled name msg reply answer) s m h i = stays s m i (ap (λ (x : TheRun S). x.queues) h.2.rest)
  does_bear (wrote name (outlet.Queue n) answer) s m h i =
      subst (λ (xs : List Frag). QueueBears s m i (at_side n i (write_put w h.0 (outlet.Queue n) answer s m h.2)) xs) (nothing_there n i)
      (one_queue n i s m _ h.2 (write_put w h.0 (outlet.Queue n) answer s m h.2) []
      (writes_looks QueuePuts QueueTakes h.2.event.writes.seat.end h.2.before answer h.2.event.writes.end h.2.after h.2.event.writes.event))
  does_bear (wrote name (outlet.Side n) answer) s m h i = stays s m i (ap (λ (x : TheRun S). x.queues) h.2.rest)
  does_bear (acked name n answer) s m h i = stays s m i (ap (λ (x : TheRun S). x.queues) h.2.rest)
  does_bear (turned d name (inlet.Queue n) answer) s m h i =
      subst (λ (xs : List Frag). QueueBears s m i xs (at_side n i (turns_took w d h.0 (inlet.Queue n) answer s m h.3))) (nothing_there n i)
      (one_queue n i s m _ h.3 [] (turns_took w d h.0 (inlet.Queue n) answer s m h.3)
      (turn_looks QueuePuts QueueTakes h.3.event.event.picked h.3.event.event.seat.kind _ answer _ h.3.event.event.looks))
  does_bear (turned d name (inlet.Side n) answer) s m h i = stays s m i (ap (λ (x : TheRun S). x.queues) h.3.rest)
  does_bear (turned d name inlet.Arrivals answer) s m h i = stays s m i (ap (λ (x : TheRun S). x.queues) h.3.rest)

  abbrev pub log_queue_put : (jobs : List CoreJob) (log : List LogEntry) (s t : TheRun S) → Goes w jobs s log t → ℕ → List Frag
  log_queue_put jobs [] s t h i = []
  log_queue_put jobs (log_entry ∷ log) s t h i = queue_put w log_entry s h.1.0 h.1.1 i ++ log_queue_put jobs log h.0 t h.3 i

  abbrev pub log_queue_took : (jobs : List CoreJob) (log : List LogEntry) (s t : TheRun S) → Goes w jobs s log t → ℕ → List Frag
  log_queue_took jobs [] s t h i = []
  log_queue_took jobs (log_entry ∷ log) s t h i = queue_took w log_entry s h.1.0 h.1.1 i ++ log_queue_took jobs log h.0 t h.3 i

  pub log_queue_bears : (jobs : List CoreJob) (log : List LogEntry) (s t : TheRun S) (h : Goes w jobs s log t) (i : ℕ)
      → BearsAt QueuePuts QueueTakes s.queues t.queues i (log_queue_put jobs log s t h i) (log_queue_took jobs log s t h i)
  log_queue_bears jobs [] s t h i = stays s t i (ap (λ (x : TheRun S). x.queues) h)
  log_queue_bears jobs (log_entry ∷ log) s t h i =
      let one : BearsAt QueuePuts QueueTakes s.queues h.0.queues i (queue_put w log_entry s h.1.0 h.1.1 i) (queue_took w log_entry s h.1.0 h.1.1 i) =
      subst (λ (xs : List TheQueue). BearsAt QueuePuts QueueTakes s.queues xs i (queue_put w log_entry s h.1.0 h.1.1 i) (queue_took w log_entry s h.1.0 h.1.1 i)) (sym (queues_aside h.1.0 h.0 log_entry h.1.2))
      (does_bear log_entry s h.1.0 h.1.1 i) in
      bears_on QueuePuts QueueTakes s.queues h.0.queues t.queues i (queue_put w log_entry s h.1.0 h.1.1 i) (queue_took w log_entry s h.1.0 h.1.1 i)
      (log_queue_put jobs log h.0 t h.3 i) (log_queue_took jobs log h.0 t h.3 i) one (log_queue_bears jobs log h.0 t h.3 i)

-- ---- whose that was

nothing_of : (b : Bool) → (let xs : List Frag = [] in xs) ≡ (if b then [] else [])
nothing_of true = refl
nothing_of false = refl

module _ {S : Type 0} (w : SideRelations S) (jobs : List CoreJob) (s m : TheRun S) (apart_is : IsApart s.core) (core : IsCore s.core)
    (name : EndId) (e : ℕ) (p : WiredEnd) (at : place_of s.core name ≡ Some e) (there : slice_get s.core.wired_ends e ≡ Some p) where
  sits : Sits s.core.places name e
  sits = sits_first s.core name e core at

  own : (f : ℕ) (q : WiredEnd) → f ≡ e → slice_get s.core.wired_ends f ≡ Some q → q ≡ p
  own f q same stands = one_stands s.core.wired_ends e q p (subst (λ (j : ℕ). slice_get s.core.wired_ends j ≡ Some q) same stands) there

  agree : (i : ℕ) (n : EndId) (f k : ℕ) (a b : Bool) → place_of s.core n ≡ Some f → (k == i) ≡ a → same_end n name ≡ b → (k ≡ i → f ≡ e) → (f ≡ e → k ≡ i) → a ≡ b
  agree i n f k true true place x y one two = refl
  agree i n f k false false place x y one two = refl
  agree i n f k true false place x y one two =
      let same : k ≡ i = grind (arith, nat_tests, x) in
      absurd (apart s.core n name f e sits place y (sym (one same)))
  agree i n f k false true place x y one two =
      let same : k ≡ i = two (together s.core n name f e sits place (one_end n name y)) in
      absurd (grind (arith, nat_tests, x, same))

  elsewhere : (n : EndId) (f : ℕ) (frags : List Frag) → place_of s.core n ≡ Some f → (f ≡ e → ⊥) → (b : Bool) → same_end n name ≡ b → [] ≡ (if b then frags else [])
  elsewhere n f frags place not_same false is = refl
  elsewhere n f frags place not_same true is = absurd (not_same (together s.core n name f e sits place (one_end n name is)))

  -- ---- the end that puts to queue i

  module _ (i a : ℕ) (wiring : p.wiring ≡ Queues i a) where
    own_out : (f : ℕ) (q : WiredEnd) (out : Outlet) → f ≡ e → slice_get s.core.wired_ends f ≡ Some q → outlet_by s.core.link_sides q.wiring ≡ Some out → out ≡ outlet.Queue i
    own_out f q out same stands puts =
        let found : Some out ≡ Some (outlet.Queue i) = sym puts ∙ ap (λ (x : WiredEnd). outlet_by s.core.link_sides x.wiring) (own f q same stands) ∙ ap (outlet_by s.core.link_sides) wiring in
        some_is out (outlet.Queue i) found

    only_out : (f k : ℕ) (q : WiredEnd) (x : EndWiring) → slice_get s.core.wired_ends f ≡ Some q → q.wiring ≡ x → outlet_by s.core.link_sides x ≡ Some (outlet.Queue k) → k ≡ i → f ≡ e
    only_out f k q (Queues o b) stands is puts same =
        let one : o ≡ k = cc in
        apart_is.puts f e i b a q p stands there (is ∙ ap (λ (j : ℕ). Queues j b) (one ∙ same)) wiring
    only_out f k q (Ring r) stands is puts same = absurd (cc)
    only_out f k q (Circuit l b) stands is puts same = by (side_of_link s.core.link_sides l.0) puts where
      by : (o : Option ℕ) → (given o None λ (j : ℕ). Some (outlet.Side j)) ≡ Some (outlet.Queue k) → f ≡ e
      by None h = absurd (cc)
      by (Some j) h = absurd (cc)

    pub queues_put : (log_entry : LogEntry) (by : InPlace jobs s log_entry) (h : Does w log_entry s m) → queue_put w log_entry s m h i ≡ of_end name log_entry (acted_put w log_entry s m h)
    queues_put (looked n x answer) by h = refl
    queues_put (passed n k frag c result) by h = refl
    queues_put (arrived n x frag d answer) by h = refl
    queues_put (heard n x frag answer) by h = refl
    queues_put (said n x answer) by h = refl
    queues_put (told n x answer) by h = refl
    queues_put (opened n request answer) by h = refl
    queues_put (called n c answer) by h = refl
    queues_put (ruled n msg reply answer) by h = refl
    queues_put (wrote n (outlet.Side k) answer) by h =
        let wired_end = wired_end_out s.core h.0 (outlet.Side k) (slice_get s.core.wired_ends h.0) refl (puts_to s n h.0 by.0 (outlet.Side k) h.1 by.1 by.2) in
        elsewhere n h.0 (write_put w h.0 (outlet.Side k) answer s m h.2) h.1 (λ same. let no : outlet.Side k ≡ outlet.Queue i = own_out h.0 wired_end.0 (outlet.Side k) same wired_end.1 wired_end.2 in cc) (same_end n name) refl
    queues_put (wrote n (outlet.Queue k) answer) by h =
        let wired_end = wired_end_out s.core h.0 (outlet.Queue k) (slice_get s.core.wired_ends h.0) refl (puts_to s n h.0 by.0 (outlet.Queue k) h.1 by.1 by.2) in
        ap (λ (b : Bool). if b then write_put w h.0 (outlet.Queue k) answer s m h.2 else [])
        (agree i n h.0 k (k == i) (same_end n name) h.1 refl refl (only_out h.0 k wired_end.0 wired_end.0.wiring wired_end.1 refl wired_end.2)
        (λ same. let one : outlet.Queue k ≡ outlet.Queue i = own_out h.0 wired_end.0 (outlet.Queue k) same wired_end.1 wired_end.2 in cc))
    queues_put (acked n k answer) by h = refl
    queues_put (turned d n from answer) by h = nothing_of (same_end n name)

  -- ---- the end that takes from queue i

  module _ (i a : ℕ) (wiring : p.wiring ≡ Queues a i) where
    own_in : (f : ℕ) (q : WiredEnd) (from : Inlet) → f ≡ e → slice_get s.core.wired_ends f ≡ Some q → inlet_by q.wiring ≡ from → from ≡ inlet.Queue i
    own_in f q from same stands takes = sym takes ∙ ap (λ (x : WiredEnd). inlet_by x.wiring) (own f q same stands) ∙ ap inlet_by wiring

    only_in : (f k : ℕ) (q : WiredEnd) (x : EndWiring) → slice_get s.core.wired_ends f ≡ Some q → q.wiring ≡ x → inlet_by x ≡ inlet.Queue k → k ≡ i → f ≡ e
    only_in f k q (Queues o b) stands is takes same =
        let one : b ≡ k = cc in
        apart_is.takes f e i o a q p stands there (is ∙ ap (λ (j : ℕ). Queues o j) (one ∙ same)) wiring
    only_in f k q (Ring r) stands is takes same = absurd (cc)
    only_in f k q (Circuit l b) stands is takes same = absurd (cc)

    turned_elsewhere : (d : ℕ) (n : EndId) (from : Inlet) (answer : TurnAnswer) (by : InPlace jobs s (turned d n from answer)) (h : Does w (turned d n from answer) s m) → (from ≡ inlet.Queue i → ⊥)
        → [] ≡ (if same_end n name then turns_took w d h.0 from answer s m h.3 else [])
    turned_elsewhere d n from answer by h other =
        let wired_end = wired_end_in s.core h.0 from (slice_get s.core.wired_ends h.0) refl (takes_from s d h.0 by.0 from h.2 by.1 by.3) in
        elsewhere n h.0 (turns_took w d h.0 from answer s m h.3) h.1 (λ same. other (own_in h.0 wired_end.0 from same wired_end.1 wired_end.2)) (same_end n name) refl

    pub queues_took : (log_entry : LogEntry) (by : InPlace jobs s log_entry) (h : Does w log_entry s m) → queue_took w log_entry s m h i ≡ of_end name log_entry (acted_took w log_entry s m h)
    queues_took (looked n x answer) by h = refl
    queues_took (passed n k frag c result) by h = refl
    queues_took (arrived n x frag d answer) by h = refl
    queues_took (heard n x frag answer) by h = refl
    queues_took (said n x answer) by h = refl
    queues_took (told n x answer) by h = refl
    queues_took (opened n request answer) by h = refl
    queues_took (called n c answer) by h = refl
    queues_took (ruled n msg reply answer) by h = refl
    queues_took (wrote n out answer) by h = nothing_of (same_end n name)
    queues_took (acked n k answer) by h = refl
    queues_took (turned d n (inlet.Side k) answer) by h = turned_elsewhere d n (inlet.Side k) answer by h (λ no. cc)
    queues_took (turned d n (inlet.Queue k) answer) by h =
        let wired_end = wired_end_in s.core h.0 (inlet.Queue k) (slice_get s.core.wired_ends h.0) refl (takes_from s d h.0 by.0 (inlet.Queue k) h.2 by.1 by.3) in
        ap (λ (b : Bool). if b then turns_took w d h.0 (inlet.Queue k) answer s m h.3 else [])
        (agree i n h.0 k (k == i) (same_end n name) h.1 refl refl (only_in h.0 k wired_end.0 wired_end.0.wiring wired_end.1 refl wired_end.2)
        (λ same. let one : inlet.Queue k ≡ inlet.Queue i = own_in h.0 wired_end.0 (inlet.Queue k) same wired_end.1 wired_end.2 in cc))
    queues_took (turned d n inlet.Arrivals answer) by h = turned_elsewhere d n inlet.Arrivals answer by h (λ no. cc)
