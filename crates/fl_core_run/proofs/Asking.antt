-- A circuit that may be asked for, and what came of asking.
use Rattle.std.proofs.Common.{◌≡◌, refl, sym, ap, subst, ℕ, zero, suc, ◌<◌, ◌&&◌, Bool, true, false, nat_lt, List, [], ◌∷◌, length, slice_get, Option, Some, None, Result, Ok, Err, arith}
use Rattle.std.proofs.lemmas.Bool.{and_parts, ltb-true}
use Rattle.std.specs.Prelude.{not, is_some}
use Rattle.fl_monitor.specs.Monitors.{can_say}
use Rattle.fl_compile.specs.declared.program.Program.{Program}
use Rattle.fl_core.proofs.Begun.{refused_open}
use Rattle.fl_core.specs.declared.board_fault.BoardFault.TheVariants as board
use Rattle.fl_monitor.specs.declared.fault.MonitorFault.TheVariants as monitor
use Rattle.fl_core.specs.Making.{Asked, Asks, RefusesOpen}
use Rattle.fl_core.specs.View.{TheCore, place_of, client_of}
use Rattle.fl_core.specs.declared.fault.OpenFault.{OpenFault}
use Rattle.fl_core.specs.declared.fault.OpenFault.TheVariants.{Board, Monitor}
use Rattle.fl_core.specs.declared.core_job.OpenRequest.{OpenRequest}
use Rattle.fl_core_run.specs.Run.{SideRelations, TheRun}
use Rattle.fl_core_run.specs.LogEntries.{opened, Does, NotesOpened, IsSound}
use Rattle.fl_core_run.specs.Steps.{lacks_to_open, may_ask, OpensIf}
use Rattle.fl_core_run.specs.Inside.{OfProgress}

pub record MayAsk {S : Type 0} (s : TheRun S) (request : OpenRequest) : Type 0 where
  pub dispatcher : request.dispatcher < length s.core.board.dispatchers
  pub program : request.interface < length s.offers.programs
  pub few : request.opening.binding < 1024
  pub new : place_of s.core (client_of request.opening.binding) ≡ None

none_there : (o : Option ℕ) → not (is_some o) ≡ true → o ≡ None
none_there None is = refl
none_there (Some e) is = absurd (cc)

all_four : (a b c d e : Bool) → true ≡ ((((a && b) && c) && d) && e) → (a ≡ true) × (b ≡ true) × (c ≡ true) × (d ≡ true)
all_four a b c d e h =
    let four = and_parts (((a && b) && c) && d) e (sym h) in
    let three = and_parts ((a && b) && c) d four.0 in
    let two = and_parts (a && b) c three.0 in
    let one = and_parts a b two.0 in
    (one.0, one.1, two.1, three.1)

pub may : {S : Type 0} (s : TheRun S) (request : OpenRequest) → true ≡ may_ask s request → MayAsk s request
may s request h =
    let all =
    all_four (nat_lt request.dispatcher (length s.core.board.dispatchers)) (nat_lt request.interface (length s.offers.programs)) (nat_lt request.opening.binding 1024)
    (not (is_some (place_of s.core (client_of request.opening.binding)))) (can_say s.core.monitor.outboxes request.link.0) h in
    record {
      dispatcher = ltb-true request.dispatcher (length s.core.board.dispatchers) all.0;
      program = ltb-true request.interface (length s.offers.programs) all.1;
      few = ltb-true request.opening.binding 1024 all.2;
      new = none_there (place_of s.core (client_of request.opening.binding)) all.3;
    }

-- ---- a refusal that is found before it is asked

there_is : {X : Type 0} (xs : List X) (n : ℕ) → n < length xs → (x : X) × (slice_get xs n ≡ Some x)
there_is [] n below = absurd (omega (arith, below))
there_is (x ∷ xs) zero below = (x, refl)
there_is (x ∷ xs) (suc n) below = there_is xs n (omega (arith, below))

-- none is for want of memory
not_memory : (k : TheCore) (request : OpenRequest) (f : OpenFault) → RefusesOpen request.dispatcher request.link request.opening k f → lacks_to_open (Err f) ≡ false
not_memory k request (Board board.TooManyEnds) h = refl
not_memory k request (Board board.NotBound) h = refl
not_memory k request (Board board.Registered) h = refl
not_memory k request (Board board.NotRegistered) h = refl
not_memory k request (Board board.Failed) h = refl
not_memory k request (Board board.Memory) h = absurd h
not_memory k request (Monitor monitor.Memory) h = absurd h.1
not_memory k request (Monitor monitor.Misrouted) h = refl
not_memory k request (Monitor monitor.OutboxFull) h = refl
not_memory k request (Monitor monitor.Differs) h = refl
not_memory k request (Monitor monitor.NoRoute) h = refl
not_memory k request (Monitor monitor.UsedUp) h = refl
not_memory k request (Monitor monitor.PlansDiffer) h = refl

-- where it was refused here, the core is as it was, and where memory was refused all is
core_left : (a : Asked) (k k2 : TheCore) (fault : OpenFault) → Asks a k (Err fault) k2 → k2 ≡ k
core_left a k k2 (Board fault) h = h.1
core_left a k k2 (Monitor fault) h = h.2

pub asked_left : {S : Type 0} (a : Asked) (s : TheRun S) (k : TheCore) (answer : Result ℕ OpenFault) → lacks_to_open answer ≡ true → Asks a s.core answer k → record s { core = k } ≡ s
asked_left a s k (Ok e) is h = absurd (cc)
asked_left a s k (Err fault) is h = ap (λ (c : TheCore). record s { core = c }) (core_left a s.core k fault h)

-- the opening that was judged before a copy was made is one that was asked for
pub refused_before : {S : Type 0} (w : SideRelations S) (s t : TheRun S) (place : Option ℕ) (request : OpenRequest) (f : OpenFault) (b : Bool) → true ≡ b
    → request.interface < length s.offers.programs → RefusesOpen request.dispatcher request.link request.opening s.core f
    → OfProgress place s (λ name. NotesOpened name (Err f) s t) → IsSound s.core → w.whole s.rings → OfProgress place s (λ name. OpensIf w b name request s t)
refused_before w s t place request f b may below h notes sound whole = λ name at.
    let source : (p : Program) × (slice_get s.offers.programs request.interface ≡ Some p) = there_is s.offers.programs request.interface below in
    let does : Does w (opened name request (Err f)) s s = record {
      event = record {
        program = source.0;
        copy = record { source = source.0; source_is = source.1; same = refl };
        asks = (refused_open request.dispatcher source.0 request.link request.opening s.core f h).0;
      };
      rest = refl;
    } in
    subst (λ (x : Bool). OpensIf w x name request s t) may (Err f, (s, does, notes name at, sound, tt, whole), not_memory s.core request f h)
