-- What ends' progress have as handled is what the log has.
use Rattle.std.proofs.Common.{◌≡◌, ◌≢◌, refl, sym, ap, ◌∙◌, subst, ℕ, ◌<◌, ◌+◌, ◌*◌, ◌==◌, ◌&&◌, if◌then◌else◌, nat_lt, List, [], ◌∷◌, ◌++◌, length, slice_get, slice_set}
use Rattle.std.proofs.Common.{Option, Some, None, IsSome, Bool, true, false, Result, Ok, Err, arith, rules}
use Rattle.std.proofs.lemmas.List.{length-set, append-nil, append_assoc}
use Rattle.std.proofs.lemmas.Bool.Decides.{nat_tests}
use Rattle.fl_base.specs.declared.identity.Side.{Side}
use Rattle.fl_base.specs.declared.identity.Side.TheVariants.{Client, Server}
use Rattle.fl_base.specs.declared.identity.EndId.{EndId}
use Rattle.fl_base.specs.Given.{given}
use Rattle.fl_base.specs.Numbered.{most_bindings}
use Rattle.fl_value_data.specs.declared.value.Call.{Call}
use Rattle.fl_core.proofs.BoardPlaces.{set_here, set_elsewhere}
use Rattle.fl_core.specs.declared.turn_answer.TurnAnswer.{TurnAnswer}
use Rattle.fl_core.specs.declared.turn_answer.TurnAnswer.TheVariants as turn
use Rattle.fl_endpoint.specs.declared.fault.EndFault.{EndFault}
use Rattle.fl_hop.specs.Stretch.{same_side, same_end}
use Rattle.fl_hop.specs.declared.forward.ForwardOutcome.TheVariants.{Moved, Full, Spent}
use Rattle.fl_monitor.specs.declared.fault.MonitorFault.TheVariants as monitor
use Rattle.fl_core.specs.declared.answer.MonitorAnswer.{MonitorAnswer}
use Rattle.fl_core.specs.declared.answer.MonitorAnswer.TheVariants as heard_as
use Rattle.fl_core.specs.declared.fault.LinkReceiveFault.{LinkReceiveFault}
use Rattle.fl_core.specs.declared.fault.OpenFault.{OpenFault}
use Rattle.fl_core.specs.declared.fault.OpenFault.TheVariants as opening
use Rattle.fl_core.specs.declared.wiring.Outlet.TheVariants as outlet
use Rattle.fl_core.specs.declared.wiring.Inlet.TheVariants as inlet
use Rattle.fl_core.specs.View.{side_number, slot_of}
use Rattle.fl_core.specs.declared.core_job.CoreJob.{CoreJob}
use Rattle.fl_core_run.specs.EndProgress.{TheEndProgress, progress_place, advanced, with_handled, with_refusal, ChangesIf}
use Rattle.fl_core_run.specs.Run.{SideRelations, TheRun, AtProgress}
use Rattle.fl_core_run.specs.LogEntries.{LogEntry, looked, passed, arrived, heard, said, told, opened, called, ruled, wrote, acked, turned, Does, NotesHeard, NotesOpened, NotesCalled, NotesTurned, Notes, Happens}
use Rattle.fl_core_run_laws.specs.Logs.{Goes, call_in, handled_in, handled_at, in_progress, handled_of}

-- ---- events of a core leave the ends' progress

pub progresses_stay : {S : Type 0} (w : SideRelations S) (log_entry : LogEntry) (s m : TheRun S) → Does w log_entry s m → m.progresses ≡ s.progresses
progresses_stay w (looked n l answer) s m h = ap (λ (x : TheRun _). x.progresses) h.rest
progresses_stay w (passed n k frag c Moved) s m h = ap (λ (x : TheRun _). x.progresses) h.2.rest ∙ ap (λ (x : TheRun _). x.progresses) h.1.rest
progresses_stay w (passed n k frag c Full) s m h = ap (λ (x : TheRun _). x.progresses) h.rest
progresses_stay w (passed n k frag c Spent) s m h = ap (λ (x : TheRun _). x.progresses) h.rest
progresses_stay w (arrived n l frag e answer) s m h = ap (λ (x : TheRun _). x.progresses) h.rest
progresses_stay w (heard n l frag answer) s m h = ap (λ (x : TheRun _). x.progresses) h.rest
progresses_stay w (said n l answer) s m h = ap (λ (x : TheRun _). x.progresses) h.rest
progresses_stay w (told n l answer) s m h = ap (λ (x : TheRun _). x.progresses) h.rest
progresses_stay w (opened name request answer) s m h = ap (λ (x : TheRun _). x.progresses) h.rest
progresses_stay w (called name c answer) s m h = ap (λ (x : TheRun _). x.progresses) h.2.rest
progresses_stay w (ruled name msg reply answer) s m h = ap (λ (x : TheRun _). x.progresses) h.2.rest
progresses_stay w (wrote name (outlet.Queue n) answer) s m h = ap (λ (x : TheRun _). x.progresses) h.2.rest
progresses_stay w (wrote name (outlet.Side n) answer) s m h = ap (λ (x : TheRun _). x.progresses) h.2.rest
progresses_stay w (acked name n answer) s m h = ap (λ (x : TheRun _). x.progresses) h.2.rest
progresses_stay w (turned d name (inlet.Queue n) answer) s m h = ap (λ (x : TheRun _). x.progresses) h.3.rest
progresses_stay w (turned d name (inlet.Side n) answer) s m h = ap (λ (x : TheRun _). x.progresses) h.3.rest
progresses_stay w (turned d name inlet.Arrivals answer) s m h = ap (λ (x : TheRun _). x.progresses) h.3.rest

-- ---- a list of ends' progress

-- what the end's progress of an end has as handled, in a list of ends' progress
abbrev has : List TheEndProgress → EndId → List Call
has progresses name = given (progress_place progresses name) [] λ n. in_progress (slice_get progresses n)

place_by : ℕ → EndId → Option ℕ
place_by k e = if nat_lt e.binding most_bindings then (if nat_lt (slot_of e) k then Some (slot_of e) else None) else None

pub same_place : (xs ys : List TheEndProgress) (e : EndId) → length ys ≡ length xs → progress_place ys e ≡ progress_place xs e
same_place xs ys e same = ap (λ (k : ℕ). if nat_lt e.binding most_bindings then (if nat_lt (slot_of e) k then Some (slot_of e) else None) else None) same

-- an end with an end's progress has it at its slot
slot_from : (e : EndId) (k n : ℕ) (a b : Bool) → (if a then (if b then Some (slot_of e) else None) else None) ≡ Some n → n ≡ slot_of e
slot_from e k n true true is = let same : slot_of e ≡ n = cc in sym same
slot_from e k n true false is = absurd (cc)
slot_from e k n false b is = absurd (cc)

pub at_slot : (progresses : List TheEndProgress) (e : EndId) (n : ℕ) → progress_place progresses e ≡ Some n → n ≡ slot_of e
at_slot progresses e n is = slot_from e (length progresses) n (nat_lt e.binding most_bindings) (nat_lt (slot_of e) (length progresses)) is

sides_differ : (a b : Side) → same_side a b ≡ false → side_number a ≢ side_number b
sides_differ Client Client not_same e = absurd (cc)
sides_differ Client Server not_same e = absurd (omega (arith, e))
sides_differ Server Client not_same e = absurd (omega (arith, e))
sides_differ Server Server not_same e = absurd (cc)

sides_same : (a b : Side) → same_side a b ≡ true → side_number a ≡ side_number b
sides_same Client Client yes_is = refl
sides_same Client Server yes_is = absurd (cc)
sides_same Server Client yes_is = absurd (cc)
sides_same Server Server yes_is = refl

few : (a : Side) → side_number a < 2
few Client = omega arith
few Server = omega arith

slots_by : (p q m n : ℕ) (x y : Side) (a b : Bool) → (p == q) ≡ a → same_side x y ≡ b → (2 * p + side_number x == 2 * q + side_number y) ≡ (a && b)
slots_by p q m n x y true true same sides = let s = sides_same x y sides in grind (arith, nat_tests, same, s)
slots_by p q m n x y true false same sides = let s = sides_differ x y sides in grind (arith, nat_tests, same, s)
slots_by p q m n x y false b same sides = let s = few x in let t = few y in grind (arith, nat_tests, same, s, t)

pub slots : (e name : EndId) → (slot_of e == slot_of name) ≡ same_end e name
slots e name = slots_by e.binding name.binding 0 0 e.side name.side (e.binding == name.binding) (same_side e.side name.side) refl refl

-- ---- one end's progress changes

replaced_by : (progresses : List TheEndProgress) (n p : ℕ) (d x : TheEndProgress) (b : Bool) → slice_get progresses n ≡ Some d → (n == p) ≡ b
    → in_progress (slice_get (slice_set progresses n x) p) ≡ (if b then x.handled else in_progress (slice_get progresses p))
replaced_by progresses n p d x true at same =
    let eq : n ≡ p = grind (arith, nat_tests, same) in
    ap in_progress (subst (λ (i : ℕ). slice_get (slice_set progresses n x) i ≡ Some x) eq (set_here progresses n d x at))
replaced_by progresses n p d x false at same =
    let ne : p ≢ n = λ e. absurd (grind (arith, nat_tests, same, e)) in
    ap in_progress (set_elsewhere progresses n p x ne)

-- an end that is the same by its parts is the same
one_side : (a b : Side) → same_side a b ≡ true → a ≡ b
one_side Client Client is = refl
one_side Client Server is = absurd (cc)
one_side Server Client is = absurd (cc)
one_side Server Server is = refl

one_end_by : (e name : EndId) (a b : Bool) → (e.binding == name.binding) ≡ a → same_side e.side name.side ≡ b → (a && b) ≡ true → e ≡ name
one_end_by e name true true same sides is =
    let bindings : e.binding ≡ name.binding = grind (arith, nat_tests, same) in
    let side : e.side ≡ name.side = one_side e.side name.side sides in
    ap (λ (n : ℕ). record { binding = n; side = e.side }) bindings ∙ ap (λ (s : Side). record { binding = name.binding; side = s }) side
one_end_by e name true false same sides is = absurd (cc)
one_end_by e name false b same sides is = absurd (cc)

pub one_end : (e name : EndId) → same_end e name ≡ true → e ≡ name
one_end e name is = one_end_by e name (e.binding == name.binding) (same_side e.side name.side) refl refl is

module _ {S : Type 0} (e name : EndId) (change : TheEndProgress → TheEndProgress) (extra : List Call) (adds : (d : TheEndProgress) → (change d).handled ≡ d.handled ++ extra)
    (m t : TheRun S) (p : ℕ) (at : progress_place m.progresses name ≡ Some p) where
  finish : (n : ℕ) (d : TheEndProgress) (b : Bool) → slice_get m.progresses n ≡ Some d → (n == p) ≡ b
      → (if b then (change d).handled else in_progress (slice_get m.progresses p)) ≡ in_progress (slice_get m.progresses p) ++ (if b then extra else [])
  finish n d true there same =
      let eq : n ≡ p = grind (arith, nat_tests, same) in
      let here : slice_get m.progresses p ≡ Some d = subst (λ (i : ℕ). slice_get m.progresses i ≡ Some d) eq there in
      adds d ∙ ap (λ (xs : List Call). xs ++ extra) (ap in_progress (sym here))
  finish n d false there same = sym (append-nil (in_progress (slice_get m.progresses p)))

  change_by : (o : Option ℕ) → progress_place m.progresses e ≡ o → ChangesIf o m.progresses change t.progresses → (b : Bool) → same_end e name ≡ b
      → handled_of t name ≡ handled_of m name ++ (if b then extra else [])
  change_by None is same true one =
      let none : progress_place m.progresses name ≡ None = subst (λ (x : EndId). progress_place m.progresses x ≡ None) (one_end e name one) is in
      absurd (let k : Some p ≡ None = sym at ∙ none in cc)
  change_by None is same false one = ap (λ (xs : List TheEndProgress). has xs name) same ∙ sym (append-nil (handled_of m name))
  change_by (Some n) is h b one =
      let lengths : length t.progresses ≡ length m.progresses = ap length h.rest ∙ length-set m.progresses n (change h.progress) in
      let placed : progress_place t.progresses name ≡ Some p = same_place m.progresses t.progresses name lengths ∙ at in
      let test : (n == p) ≡ b =
      ap (λ (i : ℕ). i == p) (at_slot m.progresses e n is) ∙ ap (λ (i : ℕ). slot_of e == i) (at_slot m.progresses name p at) ∙ slots e name ∙ one in
      let after : handled_of t name ≡ in_progress (slice_get t.progresses p) = ap (λ (o : Option ℕ). given o [] (λ (i : ℕ). in_progress (slice_get t.progresses i))) placed in
      let before : handled_of m name ≡ in_progress (slice_get m.progresses p) = ap (λ (o : Option ℕ). given o [] (λ (i : ℕ). in_progress (slice_get m.progresses i))) at in
      after ∙ ap (λ (xs : List TheEndProgress). in_progress (slice_get xs p)) h.rest ∙ replaced_by m.progresses n p h.progress (change h.progress) b h.progress_is test
      ∙ finish n h.progress b h.progress_is test ∙ ap (λ (xs : List Call). xs ++ (if b then extra else [])) (sym before)

  pub changed : AtProgress e change m t → handled_of t name ≡ handled_of m name ++ (if same_end e name then extra else [])
  changed h = change_by (progress_place m.progresses e) refl h.changes (same_end e name) refl

-- a change that handles nothing
same_by : (b : Bool) (extra : List Call) → extra ≡ [] → (if b then extra else []) ≡ []
same_by true extra is = is
same_by false extra is = refl

-- there are as many ends' progress as before
pub as_many : (o : Option ℕ) (xs ys : List TheEndProgress) (change : TheEndProgress → TheEndProgress) → ChangesIf o xs change ys → length ys ≡ length xs
as_many None xs ys change h = ap length h
as_many (Some n) xs ys change h = ap length h.rest ∙ length-set xs n (change h.progress)

module _ {S : Type 0} (name : EndId) (m t : TheRun S) (p : ℕ) (at : progress_place m.progresses name ≡ Some p) where
  -- this was handled more, and there are as many ends' progress
  abbrev After : List Call → Type 0
  After more = (handled_of t name ≡ handled_of m name ++ more) × (length t.progresses ≡ length m.progresses)

  quiet_change : (e : EndId) (change : TheEndProgress → TheEndProgress) → ((d : TheEndProgress) → (change d).handled ≡ d.handled) → AtProgress e change m t → After []
  quiet_change e change keeps h = (
    changed e name change [] (λ d. keeps d ∙ sym (append-nil d.handled)) m t p at h
        ∙ ap (λ (xs : List Call). handled_of m name ++ xs) (same_by (same_end e name) [] refl),
    as_many (progress_place m.progresses e) m.progresses t.progresses change h.changes,
  )

  nothing_new : t ≡ m → After []
  nothing_new same = (ap (λ (x : TheRun S). handled_of x name) same ∙ sym (append-nil (handled_of m name)), ap (λ (x : TheRun S). length x.progresses) same)

  -- what is no handled call adds nothing, whoever's it is
  none_here : (e : EndId) → t ≡ m → After (if same_end e name then [] else [])
  none_here e same = ((nothing_new same).0 ∙ ap (λ (xs : List Call). handled_of m name ++ xs) (sym (same_by (same_end e name) [] refl)), (nothing_new same).1)

  noted_heard : (answer : Result MonitorAnswer LinkReceiveFault) → NotesHeard answer m t → After []
  noted_heard (Ok (heard_as.OpeningRefused e reason)) h = quiet_change e (with_refusal reason) (λ d. refl) h
  noted_heard (Ok heard_as.Full) h = nothing_new h
  noted_heard (Ok heard_as.Done) h = nothing_new h
  noted_heard (Ok (heard_as.Opened e)) h = nothing_new h
  noted_heard (Err fault) h = nothing_new h

  noted_opened : (e : EndId) (answer : Result ℕ OpenFault) → NotesOpened e answer m t → After []
  noted_opened e (Ok k) h = quiet_change e advanced (λ d. refl) h
  noted_opened e (Err (opening.Board fault)) h = quiet_change e _ (λ d. refl) h
  noted_opened e (Err (opening.Monitor monitor.OutboxFull)) h = nothing_new h
  noted_opened e (Err (opening.Monitor monitor.Misrouted)) h = quiet_change e _ (λ d. refl) h
  noted_opened e (Err (opening.Monitor monitor.Differs)) h = quiet_change e _ (λ d. refl) h
  noted_opened e (Err (opening.Monitor monitor.NoRoute)) h = quiet_change e _ (λ d. refl) h
  noted_opened e (Err (opening.Monitor monitor.UsedUp)) h = quiet_change e _ (λ d. refl) h
  noted_opened e (Err (opening.Monitor monitor.PlansDiffer)) h = quiet_change e _ (λ d. refl) h
  noted_opened e (Err (opening.Monitor monitor.Memory)) h = quiet_change e _ (λ d. refl) h

  noted_called : (e : EndId) (answer : Result (Unit {0}) EndFault) → NotesCalled e answer m t → After []
  noted_called e (Ok done) h = quiet_change e advanced (λ d. refl) h
  noted_called e (Err fault) h = nothing_new h

  noted_turned : (e : EndId) (answer : TurnAnswer) → NotesTurned e answer m t → After (if same_end e name then call_in answer else [])
  noted_turned e (turn.Handle call) h =
      (changed e name (with_handled call) (call ∷ []) (λ d. refl) m t p at h, as_many (progress_place m.progresses e) m.progresses t.progresses (with_handled call) h.changes)
  noted_turned e turn.Part h = none_here e h
  noted_turned e turn.Ready h = none_here e h
  noted_turned e turn.Quiet h = none_here e h
  noted_turned e turn.Full h = none_here e h
  noted_turned e turn.Nothing h = none_here e h
  noted_turned e (turn.Refused fault) h = none_here e h

  pub noted : (log_entry : LogEntry) → Notes log_entry m t → After (handled_in name log_entry)
  noted (looked n l answer) h = nothing_new h
  noted (passed n k frag c outcome) h = nothing_new h
  noted (arrived n l frag e answer) h = nothing_new h
  noted (heard n l frag answer) h = noted_heard answer h
  noted (said n l answer) h = nothing_new h
  noted (told n l answer) h = nothing_new h
  noted (opened e request answer) h = noted_opened e answer h
  noted (called e c answer) h = noted_called e answer h
  noted (ruled e msg reply answer) h = quiet_change e advanced (λ d. refl) h
  noted (wrote e out answer) h = nothing_new h
  noted (acked e n answer) h = nothing_new h
  noted (turned d e from answer) h = noted_turned e answer h

-- ---- one event, and a log

module _ {S : Type 0} (w : SideRelations S) (name : EndId) where
  happened : (log_entry : LogEntry) (s t : TheRun S) (p : ℕ) → progress_place s.progresses name ≡ Some p → Happens w log_entry s t
      → (handled_of t name ≡ handled_of s name ++ handled_in name log_entry) × (progress_place t.progresses name ≡ Some p)
  happened log_entry s t p at h =
      let stay : h.0.progresses ≡ s.progresses = progresses_stay w log_entry s h.0 h.1 in
      let there : progress_place h.0.progresses name ≡ Some p = ap (λ (xs : List TheEndProgress). progress_place xs name) stay ∙ at in
      let after = noted name h.0 t p there log_entry h.2 in
      (after.0 ∙ ap (λ (xs : List TheEndProgress). has xs name ++ handled_in name log_entry) stay, same_place h.0.progresses t.progresses name after.1 ∙ there)

  handled_by_log : (jobs : List CoreJob) (log : List LogEntry) (s t : TheRun S) (p : ℕ) → progress_place s.progresses name ≡ Some p → Goes w jobs s log t
      → handled_of t name ≡ handled_of s name ++ handled_at name log
  handled_by_log jobs [] s t p at h = ap (λ (x : TheRun S). handled_of x name) h ∙ sym (append-nil (handled_of s name))
  handled_by_log jobs (log_entry ∷ log) s t p at h =
      let one = happened log_entry s h.0 p at h.1 in
      handled_by_log jobs log h.0 t p one.1 h.3 ∙ ap (λ (xs : List Call). xs ++ handled_at name log) one.0
      ∙ append_assoc (handled_of s name) (handled_in name log_entry) (handled_at name log)

  handled_from : (jobs : List CoreJob) (o : Option ℕ) (log : List LogEntry) (s t : TheRun S) → progress_place s.progresses name ≡ o → IsSome o → Goes w jobs s log t
      → handled_of t name ≡ handled_of s name ++ handled_at name log
  handled_from jobs None log s t at some h = absurd (search (rules, some))
  handled_from jobs (Some p) log s t at some h = handled_by_log jobs log s t p at h

  pub tells_handled : (jobs : List CoreJob) (s t : TheRun S) (log : List LogEntry) → IsSome (progress_place s.progresses name) → Goes w jobs s log t
      → handled_of t name ≡ handled_of s name ++ handled_at name log
  tells_handled jobs s t log some h = handled_from jobs (progress_place s.progresses name) log s t refl some h

pub progresses_tell : {S : Type 0} (w : SideRelations S) (jobs : List CoreJob) (s t : TheRun S) (log : List LogEntry) (name : EndId) → IsSome (progress_place s.progresses name) → Goes w jobs s log t
    → handled_of t name ≡ handled_of s name ++ handled_at name log
progresses_tell w jobs s t log name some h = tells_handled w name jobs s t log some h
