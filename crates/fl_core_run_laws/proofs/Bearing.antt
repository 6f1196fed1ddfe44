-- What each side of a ring placed and took, by one event and in a log.
use Rattle.std.proofs.Common.{◌≡◌, ◌≢◌, refl, sym, ap, ◌∙◌, subst, ℕ, ◌==◌, if◌then◌else◌, List, [], ◌∷◌, ◌++◌, slice_get, slice_set}
use Rattle.std.proofs.Common.{Some, Bool, true, false, arith}
use Rattle.std.proofs.lemmas.Bool.Decides.{nat_tests}
use Rattle.std.proofs.lemmas.List.{append-nil}
use Rattle.fl_base.specs.declared.fragment.Frag.{Frag}
use Rattle.fl_base.specs.Control.{bare, with_circuit}
use Rattle.fl_link.specs.Looks.{Look}
use Rattle.fl_core.proofs.BoardPlaces.{one_stands, set_here, set_elsewhere}
use Rattle.fl_hop.specs.declared.forward.ForwardOutcome.TheVariants.{Moved, Full, Spent}
use Rattle.fl_monitor.specs.Monitors.{waiting_for}
use Rattle.fl_core.specs.View.{TheCore}
use Rattle.fl_core.specs.declared.wiring.Outlet.TheVariants as outlet
use Rattle.fl_core.specs.declared.wiring.Inlet.TheVariants as inlet
use Rattle.fl_core.specs.declared.core_job.CoreJob.{CoreJob}
use Rattle.fl_core_run.specs.Run.{SideRelations, TheRun}
use Rattle.fl_core_run.specs.LogEntries.{LogEntry, looked, passed, arrived, heard, said, told, opened, called, ruled, wrote, acked, turned, OnRing, Does}
use Rattle.fl_core_run_laws.specs.Logs.{Goes, Carries}
use Rattle.fl_core_run_laws.proofs.Aside.{rings_aside}
use Rattle.fl_core_run_laws.proofs.Looking.{if_arrived, if_heard, if_said, idle, bears_then, put_one, take_one, ahead_looks, arrives_looks, heard_looks, said_looks, told_looks, acks_looks, writes_looks, turn_looks}
use Rattle.fl_core_run_laws.proofs.Carrying.{write_put, turns_took}

-- these, at side n
abbrev pub at_side : ℕ → ℕ → List Frag → List Frag
at_side n i frags = if n == i then frags else []

-- what an event placed at side i, and what it took there
abbrev pub ring_put : {S : Type 0} (w : SideRelations S) (log_entry : LogEntry) (s m : TheRun S) → Does w log_entry s m → ℕ → List Frag
ring_put w (passed n k frag c Moved) s m h i = at_side k i (bare (with_circuit c.0 frag) ∷ [])
ring_put w (said n l answer) s m h i = at_side n i (if_said answer (waiting_for s.core.monitor.outboxes l.0))
ring_put w (wrote e (outlet.Side k) answer) s m h i = at_side k i (write_put w h.0 (outlet.Side k) answer s m h.2)
ring_put w log_entry s m h i = []

abbrev pub ring_took : {S : Type 0} (w : SideRelations S) (log_entry : LogEntry) (s m : TheRun S) → Does w log_entry s m → ℕ → List Frag
ring_took w (passed n k frag c Moved) s m h i = at_side n i (bare frag ∷ [])
ring_took w (arrived n l frag e answer) s m h i = at_side n i (if_arrived answer (bare frag))
ring_took w (heard n l frag answer) s m h i = at_side n i (if_heard answer (bare frag))
ring_took w (turned d e (inlet.Side k) answer) s m h i = at_side k i (turns_took w d h.0 (inlet.Side k) answer s m h.3)
ring_took w log_entry s m h i = []

-- the side at place i, if there is one, went on so
abbrev pub BearsAt : {S : Type 0} → (S → Look → S → Type 0) → (S → Look → S → Type 0) → List S → List S → ℕ → List Frag → List Frag → Type 0
BearsAt {S} puts takes ps qs i put took = (p : S) → slice_get ps i ≡ Some p → (q : S) × (slice_get qs i ≡ Some q) × Carries puts takes put took p q

pub nothing_there : (n i : ℕ) → at_side n i [] ≡ []
nothing_there n i = by (n == i) where
  by : (b : Bool) → (if b then [] else []) ≡ (let xs : List Frag = [] in xs)
  by true = refl
  by false = refl

module _ {S : Type 0} (puts takes : S → Look → S → Type 0) where
  pub bears_same : (ps qs : List S) (i : ℕ) → qs ≡ ps → BearsAt puts takes ps qs i [] []
  bears_same ps qs i same p at = (p, ap (λ (xs : List S). slice_get xs i) same ∙ at, idle puts takes p p refl)

  pub bears_on : (ps ms qs : List S) (i : ℕ) (a b c d : List Frag) → BearsAt puts takes ps ms i a b → BearsAt puts takes ms qs i c d → BearsAt puts takes ps qs i (a ++ c) (b ++ d)
  bears_on ps ms qs i a b c d g h p at =
      let (m, there, one) = g p at in
      let (q, after, two) = h m there in
      (q, after, bears_then puts takes a b c d p m q one two)

  at_one : (ps : List S) (n i : ℕ) (before after p : S) (put took : List Frag) (b : Bool) → slice_get ps n ≡ Some before → Carries puts takes put took before after → (n == i) ≡ b → slice_get ps i ≡ Some p
      → (q : S) × (slice_get (slice_set ps n after) i ≡ Some q) × Carries puts takes (if b then put else []) (if b then took else []) p q
  at_one ps n i before after p put took true there h same at =
      let eq : n ≡ i = grind (arith, nat_tests, same) in
      let here : slice_get ps i ≡ Some before = subst (λ (j : ℕ). slice_get ps j ≡ Some before) eq there in
      let is : before ≡ p = one_stands ps i before p here at in
      (after, subst (λ (j : ℕ). slice_get (slice_set ps n after) j ≡ Some after) eq (set_here ps n before after there), subst (λ (x : S). Carries puts takes put took x after) is h)
  at_one ps n i before after p put took false there h same at =
      let ne : i ≢ n = λ e. absurd (grind (arith, nat_tests, same, e)) in
      (p, set_elsewhere ps n i after ne ∙ at, idle puts takes p p refl)

  pub bears_one : (ps qs : List S) (n i : ℕ) (before after : S) (put took : List Frag) → slice_get ps n ≡ Some before → qs ≡ slice_set ps n after → Carries puts takes put took before after
      → BearsAt puts takes ps qs i (at_side n i put) (at_side n i took)
  bears_one ps qs n i before after put took there is h p at =
      subst (λ (xs : List S). (q : S) × (slice_get xs i ≡ Some q) × Carries puts takes (at_side n i put) (at_side n i took) p q) (sym is)
      (at_one ps n i before after p put took (n == i) there h refl at)

module _ {S : Type 0} (w : SideRelations S) where
  abbrev RingBears : TheRun S → TheRun S → ℕ → List Frag → List Frag → Type 0
  RingBears s m i put took = BearsAt w.puts w.takes s.rings m.rings i put took

  stays : (s m : TheRun S) (i : ℕ) → m.rings ≡ s.rings → RingBears s m i [] []
  stays s m i same = bears_same w.puts w.takes s.rings m.rings i same

  one_ring : (n i : ℕ) (s m : TheRun S) (Event : TheCore → S → TheCore → S → Type 0) (h : OnRing n s Event m) (put took : List Frag) → Carries w.puts w.takes put took h.before h.after
      → RingBears s m i (at_side n i put) (at_side n i took)
  one_ring n i s m Event h put took c = bears_one w.puts w.takes s.rings m.rings n i h.before h.after put took h.before_is (ap (λ (x : TheRun S). x.rings) h.rest) c

  placed_at : (n i : ℕ) (s m : TheRun S) (Event : TheCore → S → TheCore → S → Type 0) (h : OnRing n s Event m) (put : List Frag) → Carries w.puts w.takes put [] h.before h.after
      → RingBears s m i (at_side n i put) []
  placed_at n i s m Event h put c = subst (λ (xs : List Frag). RingBears s m i (at_side n i put) xs) (nothing_there n i) (one_ring n i s m Event h put [] c)

  taken_at : (n i : ℕ) (s m : TheRun S) (Event : TheCore → S → TheCore → S → Type 0) (h : OnRing n s Event m) (took : List Frag) → Carries w.puts w.takes [] took h.before h.after
      → RingBears s m i [] (at_side n i took)
  taken_at n i s m Event h took c = subst (λ (xs : List Frag). RingBears s m i xs (at_side n i took)) (nothing_there n i) (one_ring n i s m Event h [] took c)

  quiet_at : (n i : ℕ) (s m : TheRun S) (Event : TheCore → S → TheCore → S → Type 0) (h : OnRing n s Event m) → Carries w.puts w.takes [] [] h.before h.after → RingBears s m i [] []
  quiet_at n i s m Event h c = subst (λ (xs : List Frag). RingBears s m i xs []) (nothing_there n i) (placed_at n i s m Event h [] c)

  pub does_bear : (log_entry : LogEntry) (s m : TheRun S) (h : Does w log_entry s m) (i : ℕ) → RingBears s m i (ring_put w log_entry s m h i) (ring_took w log_entry s m h i)
  does_bear (looked n l answer) s m h i = quiet_at n i s m _ h (ahead_looks w.puts w.takes w.front l.0 s.core h.before answer m.core h.after h.event)
  does_bear (passed n k frag c Moved) s m h i =
      subst (λ (xs : List Frag). RingBears s m i xs (at_side n i (bare frag ∷ []))) (append-nil (at_side k i (bare (with_circuit c.0 frag) ∷ [])))
      (bears_on w.puts w.takes s.rings h.0.rings m.rings i (at_side k i (bare (with_circuit c.0 frag) ∷ [])) [] [] (at_side n i (bare frag ∷ []))
      (placed_at k i s h.0 _ h.1 (bare (with_circuit c.0 frag) ∷ []) (put_one w.puts w.takes h.1.before h.1.after _ h.1.event.0))
      (taken_at n i h.0 m _ h.2 (bare frag ∷ []) (take_one w.puts w.takes h.2.before h.2.after _ h.2.event.0)))
  does_bear (passed n k frag c Full) s m h i = quiet_at k i s m _ h (put_one w.puts w.takes h.before h.after _ h.event.0)
  does_bear (passed n k frag c Spent) s m h i = quiet_at k i s m _ h (put_one w.puts w.takes h.before h.after _ h.event.0)
  does_bear (arrived n l frag e answer) s m h i =
      taken_at n i s m _ h (if_arrived answer (bare frag)) (arrives_looks w.puts w.takes l.0 frag e s.core h.before answer m.core h.after h.event)
  does_bear (heard n l frag answer) s m h i = taken_at n i s m _ h (if_heard answer (bare frag)) (heard_looks w.puts w.takes frag h.before answer h.after h.event.1)
  does_bear (said n l answer) s m h i =
      placed_at n i s m _ h (if_said answer (waiting_for s.core.monitor.outboxes l.0)) (said_looks w.puts w.takes l.0 s.core h.before answer m.core h.after h.event)
  does_bear (told n l answer) s m h i = quiet_at n i s m _ h (told_looks w.puts w.takes h.before answer h.after h.event.0)
  does_bear (opened name request answer) s m h i = stays s m i (ap (λ (x : TheRun S). x.rings) h.rest)
  does_bear (called name c answer) s m h i = stays s m i (ap (λ (x : TheRun S). x.rings) h.2.rest)
  does_bear (ruled name msg reply answer) s m h i = stays s m i (ap (λ (x : TheRun S). x.rings) h.2.rest)
  does_bear (wrote name (outlet.Queue n) answer) s m h i = stays s m i (ap (λ (x : TheRun S). x.rings) h.2.rest)
  does_bear (wrote name (outlet.Side n) answer) s m h i =
      placed_at n i s m _ h.2 (write_put w h.0 (outlet.Side n) answer s m h.2)
      (writes_looks w.puts w.takes h.2.event.writes.seat.end h.2.before answer h.2.event.writes.end h.2.after h.2.event.writes.event)
  does_bear (acked name n answer) s m h i =
      quiet_at n i s m _ h.2 (acks_looks w.puts w.takes h.2.event.0.0.kind h.2.event.0.0.end h.2.before answer h.2.after h.2.event.0.2)
  does_bear (turned d name (inlet.Queue n) answer) s m h i = stays s m i (ap (λ (x : TheRun S). x.rings) h.3.rest)
  does_bear (turned d name (inlet.Side n) answer) s m h i =
      taken_at n i s m _ h.3 (turns_took w d h.0 (inlet.Side n) answer s m h.3)
      (turn_looks w.puts w.takes h.3.event.event.picked h.3.event.event.seat.kind _ answer _ h.3.event.event.looks)
  does_bear (turned d name inlet.Arrivals answer) s m h i = stays s m i (ap (λ (x : TheRun S). x.rings) h.3.rest)

  -- ---- a log

  abbrev pub log_ring_put : (jobs : List CoreJob) (log : List LogEntry) (s t : TheRun S) → Goes w jobs s log t → ℕ → List Frag
  log_ring_put jobs [] s t h i = []
  log_ring_put jobs (log_entry ∷ log) s t h i = ring_put w log_entry s h.1.0 h.1.1 i ++ log_ring_put jobs log h.0 t h.3 i

  abbrev pub log_ring_took : (jobs : List CoreJob) (log : List LogEntry) (s t : TheRun S) → Goes w jobs s log t → ℕ → List Frag
  log_ring_took jobs [] s t h i = []
  log_ring_took jobs (log_entry ∷ log) s t h i = ring_took w log_entry s h.1.0 h.1.1 i ++ log_ring_took jobs log h.0 t h.3 i

  pub log_bears : (jobs : List CoreJob) (log : List LogEntry) (s t : TheRun S) (h : Goes w jobs s log t) (i : ℕ)
      → BearsAt w.puts w.takes s.rings t.rings i (log_ring_put jobs log s t h i) (log_ring_took jobs log s t h i)
  log_bears jobs [] s t h i = stays s t i (ap (λ (x : TheRun S). x.rings) h)
  log_bears jobs (log_entry ∷ log) s t h i =
      let one : BearsAt w.puts w.takes s.rings h.0.rings i (ring_put w log_entry s h.1.0 h.1.1 i) (ring_took w log_entry s h.1.0 h.1.1 i) =
      subst (λ (xs : List S). BearsAt w.puts w.takes s.rings xs i (ring_put w log_entry s h.1.0 h.1.1 i) (ring_took w log_entry s h.1.0 h.1.1 i)) (sym (rings_aside h.1.0 h.0 log_entry h.1.2))
      (does_bear log_entry s h.1.0 h.1.1 i) in
      bears_on w.puts w.takes s.rings h.0.rings t.rings i (ring_put w log_entry s h.1.0 h.1.1 i) (ring_took w log_entry s h.1.0 h.1.1 i)
      (log_ring_put jobs log h.0 t h.3 i) (log_ring_took jobs log h.0 t h.3 i) one (log_bears jobs log h.0 t h.3 i)
