-- One end of a circuit more: k is the core before, and base the same by its fields.
use Rattle.std.proofs.Common.{◌≡◌, refl, sym, ap, ◌∙◌, subst, ℕ, ◌<◌, ◌≤◌, nat_lt, ◌+◌, Bool, true, false, List, [], ◌∷◌, ◌++◌, length, slice_get, slice_set, Option, Some, None, Result, Ok, Err, IfErr, arith}
use Rattle.std.proofs.lemmas.List.{length-append, length-set}
use Rattle.fl_base.specs.declared.identity.EndId.{EndId}
use Rattle.fl_base.specs.declared.identity.LinkId.{LinkId}
use Rattle.fl_base.specs.declared.identity.Circuit.{Circuit as Number}
use Rattle.fl_link.specs.Queue.{TheQueue}
use Rattle.fl_endpoint.specs.View.{TheEnd, fresh}
use Rattle.fl_hop.specs.declared.links.LinkState.{LinkState}
use Rattle.fl_hop.specs.declared.fault.HopFault.TheVariants.{NoLink}
use Rattle.fl_hop.specs.Table.{TheCircuits}
use Rattle.fl_hop.specs.Numbers.{changed, with_opening}
use Rattle.fl_hop.specs.Openings.{open_fault, opened}
use Rattle.fl_hop.proofs.Cells.{is_less}
use Rattle.fl_core.specs.declared.kind.ChannelKind.{ChannelKind}
use Rattle.fl_core.specs.declared.kind.ChannelKind.TheVariants.{Queue}
use Rattle.fl_core.specs.declared.board_fault.BoardFault.{BoardFault}
use Rattle.fl_core.specs.declared.board_fault.BoardFault.TheVariants as board
use Rattle.fl_compile.specs.declared.program.Program.{Program}
use Rattle.fl_monitor.specs.declared.fault.MonitorFault.TheVariants as monitor
use Rattle.fl_core.specs.BoardView.{TheDispatcher, TheBoard, with_new_end}
use Rattle.fl_core.specs.BoardEvents.{Adds}
use Rattle.fl_monitor.specs.declared.opening.Opening.{Opening}
use Rattle.fl_monitor.specs.Monitors.{TheMonitor, Opens}
use Rattle.fl_core.specs.declared.wiring.EndWiring.{EndWiring}
use Rattle.fl_core.specs.declared.wiring.EndWiring.TheVariants.{Queues, Ring, Circuit}
use Rattle.fl_core.specs.declared.wiring.WiredEnd.{WiredEnd}
use Rattle.fl_core.specs.declared.fault.OpenFault.{OpenFault}
use Rattle.fl_core.specs.declared.fault.OpenFault.TheVariants.{Board, Monitor}
use Rattle.fl_core.specs.View.{TheCore, slot_of, place_of, new_arrivals, arrivals_by, circuit_wired_end, with_circuit_wired_end}
use Rattle.fl_core.specs.Sound.{IsCore, IsWired}
use Rattle.fl_core.specs.Making.{HasPlace, HasNoPlace, Asked, asked, BeginsOn, Asks, MayOpen, RefusesOpen, OpensLast}
use Rattle.fl_core.proofs.HasWiredEnd.{seats_wired_ends, grown_kept}
use Rattle.fl_core.proofs.Making.{added_kinds}

-- ---- an end that was added last

pub taken_back : (b c c2 : TheBoard) (n e : ℕ) (s : TheEnd) (kind : ChannelKind) → Adds b n s kind (Ok e) c
    → ((x : TheBoard) (m : ℕ) (d : TheDispatcher) (t : TheEnd) (k : ChannelKind) → slice_get x.dispatchers m ≡ Some d → c ≡ with_new_end x m d t k → c2 ≡ x) → c2 ≡ b
taken_back b c c2 n e s kind (e_is, (d, at, few, c_is)) back = back b n d s kind at c_is

-- ---- a link that a circuit is opened on

changed_length : (f : LinkState → LinkState) (links : List LinkState) (l : ℕ) (a : Option LinkState) → length (changed f links l a) ≡ length links
changed_length f links l None = refl
changed_length f links l (Some a) = length-set links l (f a)

pub opened_length : (t : TheCircuits) (l : LinkId) (c : Number) (binding : ℕ) → length (opened t l c binding).links ≡ length t.links
opened_length t l c binding = changed_length with_opening t.links l.0 (slice_get t.links l.0)

link_there : (t : TheCircuits) (l binding : ℕ) (test : Bool) → nat_lt l (length t.links) ≡ test → open_fault t l binding ≡ None → l < length t.links
link_there t l binding true is h = is_less l (length t.links) is
link_there t l binding false is h = let refused : open_fault t l binding ≡ Some NoLink = rw is refl in absurd (cc (h, refused))

-- ---- the core

queue_below : (k : TheCore) (w : EndWiring) (a : ℕ) → IsWired k w → arrivals_by w ≡ Some a → a < length k.arrivals
queue_below k (Queues out from) a h is = absurd (cc)
queue_below k (Ring side) a h is = absurd (cc)
queue_below k (Circuit link arrivals) a h is = let same : arrivals ≡ a = cc in omega (arith, h.1, same)

not_new : (k : TheCore) → IsCore k → (f a : ℕ) (q : WiredEnd) → slice_get k.wired_ends f ≡ Some q → arrivals_by q.wiring ≡ Some a → Some (length k.arrivals) ≡ Some a → ⊥
not_new k sound f a q at theirs mine =
    let below = queue_below k q.wiring a (sound.wired f q at) theirs in
    let same : length k.arrivals ≡ a = cc in
    omega (arith, below, same)

module _ (k base : TheCore) (same : base ≡ k) (sound : IsCore base) (n : ℕ) (s : TheEnd) (name : EndId) (l : LinkId) (e : ℕ) (b : TheBoard) (m : TheMonitor) (queue : TheQueue)
    (wired_ends : List WiredEnd) (places : List (Option ℕ)) (arrivals : List TheQueue) (few : name.binding < 1024) (new : place_of k name ≡ None)
    (adds : Adds base.board n s Queue (Ok e) b) (links : length m.circuits.links ≡ length base.monitor.circuits.links) (there : l.0 < length base.link_sides) (queue_is : queue ≡ new_arrivals)
    (wired_ends_are : wired_ends ≡ base.wired_ends ++ circuit_wired_end name l (length base.arrivals) ∷ []) (places_are : places ≡ slice_set base.places (slot_of name) (Some e))
    (arrivals_are : arrivals ≡ base.arrivals ++ queue ∷ []) where
  abbrev pub has_wired_end : TheCore
  has_wired_end = record { board = b; monitor = m; wired_ends = wired_ends; places = places; link_sides = base.link_sides; arrivals = arrivals }

  pub has_wired_end_is : has_wired_end ≡ record (with_circuit_wired_end base b e name l) { monitor = m }
  has_wired_end_is =
      ap (λ (ps : List WiredEnd). record has_wired_end { wired_ends = ps }) wired_ends_are
      ∙ ap (λ (qs : List (Option ℕ)). record has_wired_end { wired_ends = base.wired_ends ++ circuit_wired_end name l (length base.arrivals) ∷ []; places = qs }) places_are
      ∙ ap (λ (qs : List TheQueue). record (with_circuit_wired_end base b e name l) { monitor = m; arrivals = qs }) (arrivals_are ∙ ap (λ (q : TheQueue). base.arrivals ++ q ∷ []) queue_is)

  pub has_wired_end_kept : IsCore has_wired_end
  has_wired_end_kept =
      let new_base : place_of base name ≡ None = subst (λ (x : TheCore). place_of x name ≡ None) (sym same) new in
      let more : length (base.arrivals ++ new_arrivals ∷ []) ≡ length base.arrivals + 1 = length-append base.arrivals (new_arrivals ∷ []) in
      let longer : length base.arrivals ≤ length (base.arrivals ++ new_arrivals ∷ []) = omega (arith, more) in
      let below : length base.arrivals < length (base.arrivals ++ new_arrivals ∷ []) = omega (arith, more) in
      let place_is : e ≡ length base.wired_ends = adds.0 ∙ seats_wired_ends base sound in
      let kept = grown_kept base sound b m (base.arrivals ++ new_arrivals ∷ []) (circuit_wired_end name l (length base.arrivals)) (added_kinds base.board b n e s Queue adds) links longer few new_base
      (there, below) (λ f a q at theirs mine. not_new base sound f a q at theirs mine) in
      subst IsCore (sym (has_wired_end_is ∙ ap (λ (x : ℕ). record (with_circuit_wired_end base b x name l) { monitor = m }) place_is)) kept

pub asks_refused : (a : Asked) (k base : TheCore) → base ≡ k → (fault : OpenFault) (b : TheBoard) (m : TheMonitor) (wired_ends : List WiredEnd) (arrivals : List TheQueue)
    → wired_ends ≡ base.wired_ends → arrivals ≡ base.arrivals → HasPlace base.board a.dispatcher → BeginsOn a base.board base.monitor (Err fault) b m
    → Asks a k (Err fault) (record base { board = b; monitor = m; wired_ends = wired_ends; arrivals = arrivals })
asks_refused a k base same fault b m wired_ends arrivals wired_ends_are arrivals_are place h = subst (λ (x : TheCore). Asks a x (Err fault) (record base { board = b; monitor = m; wired_ends = wired_ends; arrivals = arrivals })) same (by_fault fault h) where
  as_before : b ≡ base.board → m ≡ base.monitor → record base { board = b; monitor = m; wired_ends = wired_ends; arrivals = arrivals } ≡ base
  as_before b_is m_is =
      ap (λ (x : TheBoard). record base { board = x; monitor = m; wired_ends = wired_ends; arrivals = arrivals }) b_is
      ∙ ap (λ (x : TheMonitor). record base { monitor = x; wired_ends = wired_ends; arrivals = arrivals }) m_is
      ∙ ap (λ (x : List WiredEnd). record base { wired_ends = x; arrivals = arrivals }) wired_ends_are
      ∙ ap (λ (x : List TheQueue). record base { arrivals = x }) arrivals_are

  by_fault : (f : OpenFault) → BeginsOn a base.board base.monitor (Err f) b m → Asks a base (Err f) (record base { board = b; monitor = m; wired_ends = wired_ends; arrivals = arrivals })
  by_fault (Board f) (adds, b_is, m_is) = (adds, as_before b_is m_is)
  by_fault (Monitor f) (opens, b_is, m_is) = (place, opens, as_before b_is m_is)

pub no_place_asked : (a : Asked) (k base : TheCore) → base ≡ k → (fault : BoardFault) (wired_ends : List WiredEnd) (arrivals : List TheQueue) → wired_ends ≡ base.wired_ends → arrivals ≡ base.arrivals
    → HasNoPlace base.board a.dispatcher fault → Asks a k (Err (Board fault)) (record base { wired_ends = wired_ends; arrivals = arrivals })
no_place_asked a k base same fault wired_ends arrivals wired_ends_are arrivals_are h =
    subst (λ (x : TheCore). Asks a x (Err (Board fault)) (record base { wired_ends = wired_ends; arrivals = arrivals })) same
    (h (fresh a.program None) Queue, ap (λ (x : List WiredEnd). record base { wired_ends = x; arrivals = arrivals }) wired_ends_are ∙ ap (λ (x : List TheQueue). record base { arrivals = x }) arrivals_are)

pub link_opened : (l : LinkId) (o : Opening) (m m2 : TheMonitor) (c : Number) → Opens l o m (Ok c) m2 → l.0 < length m.circuits.links
link_opened l o m m2 c h = link_there m.circuits l.0 o.binding (nat_lt l.0 (length m.circuits.links)) refl h.0

pub opens_length : (l : LinkId) (o : Opening) (m m2 : TheMonitor) (c : Number) → Opens l o m (Ok c) m2 → length m2.circuits.links ≡ length m.circuits.links
opens_length l o m m2 c h = ap (λ (t : TheCircuits). length t.links) h.3 ∙ opened_length m.circuits l c o.binding

-- ---- memory is wanting last

asks_not : (n : ℕ) (program : Program) (l : LinkId) (o : Opening) (k : TheCore) (f : OpenFault) → RefusesOpen n l o k f → Asks (asked n program l o) k (Err f) k
asks_not n program l o k (Board board.TooManyEnds) h = (h (fresh program None) Queue, refl)
asks_not n program l o k (Board board.NotBound) h = absurd h
asks_not n program l o k (Board board.Registered) h = absurd h
asks_not n program l o k (Board board.NotRegistered) h = absurd h
asks_not n program l o k (Board board.Failed) h = absurd h
asks_not n program l o k (Board board.Memory) h = absurd h
asks_not n program l o k (Monitor monitor.Memory) h = absurd h.1
asks_not n program l o k (Monitor monitor.Misrouted) h = (h.0, h.1, refl)
asks_not n program l o k (Monitor monitor.OutboxFull) h = (h.0, h.1, refl)
asks_not n program l o k (Monitor monitor.Differs) h = (h.0, h.1, refl)
asks_not n program l o k (Monitor monitor.NoRoute) h = (h.0, h.1, refl)
asks_not n program l o k (Monitor monitor.UsedUp) h = (h.0, h.1, refl)
asks_not n program l o k (Monitor monitor.PlansDiffer) h = (h.0, h.1, refl)

refused_last : (n : ℕ) (l : LinkId) (o : Opening) (k : TheCore) (f : OpenFault) → RefusesOpen n l o k f → OpensLast n l o k f
refused_last n l o k (Board board.TooManyEnds) h = tt
refused_last n l o k (Board board.NotBound) h = tt
refused_last n l o k (Board board.Registered) h = tt
refused_last n l o k (Board board.NotRegistered) h = tt
refused_last n l o k (Board board.Failed) h = tt
refused_last n l o k (Board board.Memory) h = absurd h
refused_last n l o k (Monitor monitor.Memory) h = absurd h.1
refused_last n l o k (Monitor monitor.Misrouted) h = tt
refused_last n l o k (Monitor monitor.OutboxFull) h = tt
refused_last n l o k (Monitor monitor.Differs) h = tt
refused_last n l o k (Monitor monitor.NoRoute) h = tt
refused_last n l o k (Monitor monitor.UsedUp) h = tt
refused_last n l o k (Monitor monitor.PlansDiffer) h = tt

-- so it is where the opening was refused before
pub refused_open : (n : ℕ) (program : Program) (l : LinkId) (o : Opening) (k : TheCore) (f : OpenFault) → RefusesOpen n l o k f
    → Asks (asked n program l o) k (Err f) k × OpensLast n l o k f
refused_open n program l o k f h = (asks_not n program l o k f h, refused_last n l o k f h)

may_last : (n : ℕ) (l : LinkId) (o : Opening) (k : TheCore) (f : OpenFault) → MayOpen n l o k → OpensLast n l o k f
may_last n l o k (Board board.TooManyEnds) may = tt
may_last n l o k (Board board.NotBound) may = tt
may_last n l o k (Board board.Registered) may = tt
may_last n l o k (Board board.NotRegistered) may = tt
may_last n l o k (Board board.Failed) may = tt
may_last n l o k (Board board.Memory) may = may
may_last n l o k (Monitor monitor.Memory) may = may
may_last n l o k (Monitor monitor.Misrouted) may = tt
may_last n l o k (Monitor monitor.OutboxFull) may = tt
may_last n l o k (Monitor monitor.Differs) may = tt
may_last n l o k (Monitor monitor.NoRoute) may = tt
may_last n l o k (Monitor monitor.UsedUp) may = tt
may_last n l o k (Monitor monitor.PlansDiffer) may = tt

-- and where it may be begun, whatever comes of it
pub begun_last : (n : ℕ) (l : LinkId) (o : Opening) (k : TheCore) (r : Result ℕ OpenFault) → MayOpen n l o k → IfErr r (OpensLast n l o k)
begun_last n l o k (Ok e) may = tt
begun_last n l o k (Err f) may = may_last n l o k f may
