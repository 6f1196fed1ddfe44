-- What a ring's side placed and took is what its end put and took.
use Rattle.std.proofs.Common.{◌≡◌, refl, sym, ap, ◌∙◌, subst, ℕ, ◌==◌, if◌then◌else◌, List, [], ◌∷◌, slice_get}
use Rattle.std.proofs.Common.{Option, Some, None, Bool, true, false, arith}
use Rattle.std.proofs.lemmas.Bool.Decides.{nat_tests}
use Rattle.fl_base.specs.declared.fragment.Frag.{Frag}
use Rattle.fl_base.specs.declared.identity.EndId.{EndId}
use Rattle.fl_base.specs.Control.{bare, with_circuit}
use Rattle.fl_base.specs.Given.{given}
use Rattle.fl_core.proofs.BoardPlaces.{one_stands}
use Rattle.fl_core.specs.declared.turn_answer.TurnAnswer.{TurnAnswer}
use Rattle.fl_hop.specs.declared.forward.ForwardOutcome.TheVariants.{Moved, Full, Spent}
use Rattle.fl_hop.specs.Stretch.{same_end}
use Rattle.fl_monitor.specs.Monitors.{waiting_for}
use Rattle.fl_core.specs.View.{place_of, side_of_link, outlet_by, inlet_by}
use Rattle.fl_core.specs.Sound.{IsCore}
use Rattle.fl_core.specs.declared.wiring.WiredEnd.{WiredEnd}
use Rattle.fl_core.specs.declared.wiring.EndWiring.{EndWiring}
use Rattle.fl_core.specs.declared.wiring.EndWiring.TheVariants.{Queues, Ring, Circuit}
use Rattle.fl_core.specs.declared.wiring.Outlet.{Outlet}
use Rattle.fl_core.specs.declared.wiring.Outlet.TheVariants as outlet
use Rattle.fl_core.specs.declared.wiring.Inlet.{Inlet}
use Rattle.fl_core.specs.declared.wiring.Inlet.TheVariants as inlet
use Rattle.fl_core.specs.declared.core_job.CoreJob.{CoreJob}
use Rattle.fl_core_run.specs.Run.{SideRelations, TheRun}
use Rattle.fl_core_run.specs.LogEntries.{LogEntry, looked, passed, arrived, heard, said, told, opened, called, ruled, wrote, acked, turned, Does}
use Rattle.fl_core_run_laws.specs.Logs.{InPlace}
use Rattle.fl_core_run_laws.specs.Flows.{IsApart}
use Rattle.fl_core_run_laws.proofs.Looking.{if_arrived, if_heard, if_said}
use Rattle.fl_core_run_laws.proofs.Carrying.{write_put, turns_took, acted_put, acted_took, of_end}
use Rattle.fl_core_run_laws.proofs.Bearing.{at_side, ring_put, ring_took}
use Rattle.fl_core_run_laws.proofs.Laning.{some_is, link_side_of, puts_to, takes_from, wired_end_out, wired_end_in}
use Rattle.fl_core_run_laws.proofs.Seating.{Sits, sits_first, apart, together}
use Rattle.fl_core_run_laws.proofs.Handling.{one_end}

module _ {S : Type 0} (w : SideRelations S) (jobs : List CoreJob) (s m : TheRun S) (apart_is : IsApart s.core) (core : IsCore s.core)
    (name : EndId) (e i : ℕ) (p : WiredEnd) (at : place_of s.core name ≡ Some e) (there : slice_get s.core.wired_ends e ≡ Some p) (ring : p.wiring ≡ Ring i) where
  -- the side is no link's
  no_link_side : (l n : ℕ) (frags : List Frag) → side_of_link s.core.link_sides l ≡ Some n → at_side n i frags ≡ []
  no_link_side l n frags link_side = by (n == i) refl where
    by : (b : Bool) → (n == i) ≡ b → (if b then frags else []) ≡ []
    by false test = refl
    by true test = let same : n ≡ i = grind (arith, nat_tests, test) in absurd (apart_is.rings l e i p (link_side ∙ ap Some same) there ring)

  sits : Sits s.core.places name e
  sits = sits_first s.core name e core at

  -- the end of another name that puts to the side is this one
  only_out : (f k : ℕ) (q : WiredEnd) (x : EndWiring) → slice_get s.core.wired_ends f ≡ Some q → q.wiring ≡ x → outlet_by s.core.link_sides x ≡ Some (outlet.Side k) → k ≡ i → f ≡ e
  only_out f k q (Ring r) stands is puts same =
      let found : Some (outlet.Side r) ≡ Some (outlet.Side k) = puts in
      let one : r ≡ k = cc in
      apart_is.ends f e i q p stands there (is ∙ ap Ring (one ∙ same)) ring
  only_out f k q (Queues a b) stands is puts same = absurd (cc)
  only_out f k q (Circuit l a) stands is puts same = by (side_of_link s.core.link_sides l.0) refl puts where
    by : (o : Option ℕ) → side_of_link s.core.link_sides l.0 ≡ o → (given o None λ (j : ℕ). Some (outlet.Side j)) ≡ Some (outlet.Side k) → f ≡ e
    by None link_side h = absurd (cc)
    by (Some j) link_side h =
        let one : j ≡ k = cc in
        absurd (apart_is.rings l.0 e i p (link_side ∙ ap Some (one ∙ same)) there ring)

  only_in : (f k : ℕ) (q : WiredEnd) (x : EndWiring) → slice_get s.core.wired_ends f ≡ Some q → q.wiring ≡ x → inlet_by x ≡ inlet.Side k → k ≡ i → f ≡ e
  only_in f k q (Ring r) stands is takes same =
      let one : r ≡ k = cc in
      apart_is.ends f e i q p stands there (is ∙ ap Ring (one ∙ same)) ring
  only_in f k q (Queues a b) stands is takes same = absurd (cc)
  only_in f k q (Circuit l a) stands is takes same = absurd (cc)

  -- this end's own
  own_out : (f : ℕ) (q : WiredEnd) (out : Outlet) → f ≡ e → slice_get s.core.wired_ends f ≡ Some q → outlet_by s.core.link_sides q.wiring ≡ Some out → out ≡ outlet.Side i
  own_out f q out same stands puts =
      let here : slice_get s.core.wired_ends e ≡ Some q = subst (λ (j : ℕ). slice_get s.core.wired_ends j ≡ Some q) same stands in
      let one : q ≡ p = one_stands s.core.wired_ends e q p here there in
      let found : Some out ≡ Some (outlet.Side i) = sym puts ∙ ap (λ (x : WiredEnd). outlet_by s.core.link_sides x.wiring) one ∙ ap (outlet_by s.core.link_sides) ring in
      some_is out (outlet.Side i) found

  own_in : (f : ℕ) (q : WiredEnd) (from : Inlet) → f ≡ e → slice_get s.core.wired_ends f ≡ Some q → inlet_by q.wiring ≡ from → from ≡ inlet.Side i
  own_in f q from same stands takes =
      let here : slice_get s.core.wired_ends e ≡ Some q = subst (λ (j : ℕ). slice_get s.core.wired_ends j ≡ Some q) same stands in
      let one : q ≡ p = one_stands s.core.wired_ends e q p here there in
      sym takes ∙ ap (λ (x : WiredEnd). inlet_by x.wiring) one ∙ ap inlet_by ring

  -- two tests that agree
  agree : (n : EndId) (f k : ℕ) (a b : Bool) → place_of s.core n ≡ Some f → (k == i) ≡ a → same_end n name ≡ b → (k ≡ i → f ≡ e) → (f ≡ e → k ≡ i) → a ≡ b
  agree n f k true true place x y one two = refl
  agree n f k false false place x y one two = refl
  agree n f k true false place x y one two =
      let same : k ≡ i = grind (arith, nat_tests, x) in
      absurd (apart s.core n name f e sits place y (sym (one same)))
  agree n f k false true place x y one two =
      let same : k ≡ i = two (together s.core n name f e sits place (one_end n name y)) in
      absurd (grind (arith, nat_tests, x, same))

  -- an end that puts or takes elsewhere isn't this one
  elsewhere : (n : EndId) (f : ℕ) (frags : List Frag) → place_of s.core n ≡ Some f → (f ≡ e → ⊥) → (b : Bool) → same_end n name ≡ b → [] ≡ (if b then frags else [])
  elsewhere n f frags place not_same false is = refl
  elsewhere n f frags place not_same true is = absurd (not_same (together s.core n name f e sits place (one_end n name is)))

  nothing_of : (b : Bool) → (let xs : List Frag = [] in xs) ≡ (if b then [] else [])
  nothing_of true = refl
  nothing_of false = refl

  pub rings_put : (log_entry : LogEntry) (by : InPlace jobs s log_entry) (h : Does w log_entry s m) → ring_put w log_entry s m h i ≡ of_end name log_entry (acted_put w log_entry s m h)
  rings_put (looked n x answer) by h = refl
  rings_put (passed n k frag c Moved) by h = no_link_side by.onward.0 k (bare (with_circuit c.0 frag) ∷ []) by.side
  rings_put (passed n k frag c Full) by h = refl
  rings_put (passed n k frag c Spent) by h = refl
  rings_put (arrived n x frag d answer) by h = refl
  rings_put (heard n x frag answer) by h = refl
  rings_put (said n x answer) by h = no_link_side x.0 n (if_said answer (waiting_for s.core.monitor.outboxes x.0)) (link_side_of s x n by)
  rings_put (told n x answer) by h = refl
  rings_put (opened n request answer) by h = refl
  rings_put (called n c answer) by h = refl
  rings_put (ruled n msg reply answer) by h = refl
  rings_put (wrote n (outlet.Queue k) answer) by h =
      let wired_end = wired_end_out s.core h.0 (outlet.Queue k) (slice_get s.core.wired_ends h.0) refl (puts_to s n h.0 by.0 (outlet.Queue k) h.1 by.1 by.2) in
      elsewhere n h.0 (write_put w h.0 (outlet.Queue k) answer s m h.2) h.1 (λ same. let no : outlet.Queue k ≡ outlet.Side i = own_out h.0 wired_end.0 (outlet.Queue k) same wired_end.1 wired_end.2 in cc) (same_end n name) refl
  rings_put (wrote n (outlet.Side k) answer) by h =
      let wired_end = wired_end_out s.core h.0 (outlet.Side k) (slice_get s.core.wired_ends h.0) refl (puts_to s n h.0 by.0 (outlet.Side k) h.1 by.1 by.2) in
      ap (λ (b : Bool). if b then write_put w h.0 (outlet.Side k) answer s m h.2 else [])
      (agree n h.0 k (k == i) (same_end n name) h.1 refl refl (only_out h.0 k wired_end.0 wired_end.0.wiring wired_end.1 refl wired_end.2)
      (λ same. let one : outlet.Side k ≡ outlet.Side i = own_out h.0 wired_end.0 (outlet.Side k) same wired_end.1 wired_end.2 in cc))
  rings_put (acked n k answer) by h = refl
  rings_put (turned d n (inlet.Queue k) answer) by h = nothing_of (same_end n name)
  rings_put (turned d n (inlet.Side k) answer) by h = nothing_of (same_end n name)
  rings_put (turned d n inlet.Arrivals answer) by h = nothing_of (same_end n name)

  turned_elsewhere : (d : ℕ) (n : EndId) (from : Inlet) (answer : TurnAnswer) (by : InPlace jobs s (turned d n from answer)) (h : Does w (turned d n from answer) s m) → (from ≡ inlet.Side i → ⊥)
      → [] ≡ (if same_end n name then turns_took w d h.0 from answer s m h.3 else [])
  turned_elsewhere d n from answer by h other =
      let wired_end = wired_end_in s.core h.0 from (slice_get s.core.wired_ends h.0) refl (takes_from s d h.0 by.0 from h.2 by.1 by.3) in
      elsewhere n h.0 (turns_took w d h.0 from answer s m h.3) h.1 (λ same. other (own_in h.0 wired_end.0 from same wired_end.1 wired_end.2)) (same_end n name) refl

  pub rings_took : (log_entry : LogEntry) (by : InPlace jobs s log_entry) (h : Does w log_entry s m) → ring_took w log_entry s m h i ≡ of_end name log_entry (acted_took w log_entry s m h)
  rings_took (looked n x answer) by h = refl
  rings_took (passed n k frag c Moved) by h = no_link_side by.link.0 n (bare frag ∷ []) (link_side_of s by.link n by.leads.link_side)
  rings_took (passed n k frag c Full) by h = refl
  rings_took (passed n k frag c Spent) by h = refl
  rings_took (arrived n x frag d answer) by h = no_link_side x.0 n (if_arrived answer (bare frag)) (link_side_of s x n by.link_side)
  rings_took (heard n x frag answer) by h = no_link_side x.0 n (if_heard answer (bare frag)) (link_side_of s x n by.0)
  rings_took (said n x answer) by h = refl
  rings_took (told n x answer) by h = refl
  rings_took (opened n request answer) by h = refl
  rings_took (called n c answer) by h = refl
  rings_took (ruled n msg reply answer) by h = refl
  rings_took (wrote n (outlet.Queue k) answer) by h = nothing_of (same_end n name)
  rings_took (wrote n (outlet.Side k) answer) by h = nothing_of (same_end n name)
  rings_took (acked n k answer) by h = refl
  rings_took (turned d n (inlet.Queue k) answer) by h = turned_elsewhere d n (inlet.Queue k) answer by h (λ no. cc)
  rings_took (turned d n (inlet.Side k) answer) by h =
      let wired_end = wired_end_in s.core h.0 (inlet.Side k) (slice_get s.core.wired_ends h.0) refl (takes_from s d h.0 by.0 (inlet.Side k) h.2 by.1 by.3) in
      ap (λ (b : Bool). if b then turns_took w d h.0 (inlet.Side k) answer s m h.3 else [])
      (agree n h.0 k (k == i) (same_end n name) h.1 refl refl (only_in h.0 k wired_end.0 wired_end.0.wiring wired_end.1 refl wired_end.2)
      (λ same. let one : inlet.Side k ≡ inlet.Side i = own_in h.0 wired_end.0 (inlet.Side k) same wired_end.1 wired_end.2 in cc))
  rings_took (turned d n inlet.Arrivals answer) by h = turned_elsewhere d n inlet.Arrivals answer by h (λ no. cc)
