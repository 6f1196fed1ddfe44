-- What went over a core's links is what its sides placed and took; and what went over rings is what their ends put and took.
use Rattle.std.proofs.Common.{◌≡◌, refl, sym, ap, ◌∙◌, ℕ, ◌==◌, if◌then◌else◌, nat_lt, List, [], ◌∷◌, ◌++◌, map, length, slice_get}
use Rattle.std.proofs.Common.{Option, Some, None, Bool, true, false, Result, Ok, Err, arith}
use Rattle.std.proofs.lemmas.Bool.Decides.{nat_tests}
use Rattle.fl_base.specs.declared.fragment.Frag.{Frag}
use Rattle.fl_base.specs.declared.identity.EndId.{EndId}
use Rattle.fl_base.specs.declared.identity.LinkId.{LinkId}
use Rattle.fl_base.specs.Control.{bare, with_circuit}
use Rattle.fl_base.specs.Given.{given}
use Rattle.fl_link.proofs.Carried.{bare-bare}
use Rattle.fl_hop.specs.declared.entry.HopTarget.TheVariants.{Link, End}
use Rattle.fl_hop.specs.declared.forward.ForwardOutcome.{ForwardOutcome}
use Rattle.fl_hop.specs.declared.forward.ForwardOutcome.TheVariants.{Moved, Full, Spent}
use Rattle.fl_hop.specs.Table.{TheCircuits}
use Rattle.fl_hop.specs.Stretch.{TableStep, CircuitEvent as HopEvent, passed as hop_passed, wrote as hop_wrote, said as hop_said, heard as hop_heard, taken_from, put_on}
use Rattle.fl_monitor.specs.Monitors.{waiting_for}
use Rattle.fl_core.specs.View.{TheCore, place_of, side_of_link, outlet_of, outlet_by, inlet_of, inlet_by}
use Rattle.fl_core.specs.declared.answer.MonitorAnswer.{MonitorAnswer}
use Rattle.fl_core.specs.declared.answer.MonitorAnswer.TheVariants as heard_as
use Rattle.fl_core.specs.declared.fault.LinkReceiveFault.{LinkReceiveFault}
use Rattle.fl_core.specs.declared.wiring.WiredEnd.{WiredEnd}
use Rattle.fl_core.specs.declared.wiring.EndWiring.{EndWiring}
use Rattle.fl_core.specs.declared.wiring.EndWiring.TheVariants.{Queues, Ring, Circuit}
use Rattle.fl_core.specs.declared.wiring.Outlet.{Outlet}
use Rattle.fl_core.specs.declared.wiring.Outlet.TheVariants as outlet
use Rattle.fl_core.specs.declared.wiring.Inlet.{Inlet}
use Rattle.fl_core.specs.declared.wiring.Inlet.TheVariants as inlet
use Rattle.fl_core.specs.declared.core_job.CoreJob.{CoreJob}
use Rattle.fl_core_run.specs.declared.lent.LentTakeEnd.{LentTakeEnd}
use Rattle.fl_core_run.specs.declared.lent.LentPutEnd.{LentPutEnd}
use Rattle.fl_core_run.specs.Run.{SideRelations, TheRun, lent_link_side, lends_out, lends_in, lent_post, lent_due}
use Rattle.fl_core_run.specs.LogEntries.{LogEntry, looked, passed, arrived, heard, said, told, opened, called, ruled, wrote, acked, turned, Does}
use Rattle.fl_core_run_laws.specs.Logs.{InPlace}
use Rattle.fl_core_run_laws.specs.Flows.{IsApart}
use Rattle.fl_core_run_laws.proofs.Looking.{if_arrived, if_heard, if_said}
use Rattle.fl_core_run_laws.proofs.Carrying.{write_put}
use Rattle.fl_core_run_laws.proofs.Bearing.{at_side, ring_put, ring_took}
use Rattle.fl_core.specs.BoardView.{due}

-- ---- the steps that an event is

abbrev pub link_by : EndWiring → Option LinkId
link_by (Circuit l a) = Some l
link_by (Ring n) = None
link_by (Queues out from) = None

-- the link of the end at place e, where it is a circuit's
abbrev pub link_at : TheCore → ℕ → Option LinkId
link_at k e = given (slice_get k.wired_ends e) None λ p. link_by p.wiring

abbrev pub step_of : TheCircuits → HopEvent → TableStep
step_of t event = record { moment = t; circuit_event = event }

abbrev pub steps_of : TheCircuits → (Frag → HopEvent) → List Frag → List TableStep
steps_of t log_entry frags = map (λ (f : Frag). step_of t (log_entry f)) frags

abbrev pub steps_by : TheCircuits → Option LinkId → EndId → List Frag → List TableStep
steps_by t None name frags = []
steps_by t (Some l) name frags = steps_of t (hop_wrote name l.0) frags

abbrev pub event_steps : {S : Type 0} (w : SideRelations S) (jobs : List CoreJob) (log_entry : LogEntry) (s m : TheRun S) → InPlace jobs s log_entry → Does w log_entry s m → List TableStep
event_steps w jobs (passed n k frag c Moved) s m by h = step_of s.core.monitor.circuits (hop_passed by.link.0 frag (Link by.onward c)) ∷ []
event_steps w jobs (arrived n l frag e answer) s m by h = steps_of s.core.monitor.circuits (λ f. hop_passed l.0 f (End e)) (if_arrived answer frag)
event_steps w jobs (heard n l frag answer) s m by h = steps_of s.core.monitor.circuits (hop_heard l.0) (if_heard answer frag)
event_steps w jobs (said n l answer) s m by h = steps_of s.core.monitor.circuits (hop_said l.0) (if_said answer (waiting_for s.core.monitor.outboxes l.0))
event_steps w jobs (wrote e out answer) s m by h = steps_by s.core.monitor.circuits (link_at s.core h.0) e (write_put w h.0 out answer s m h.2)
event_steps w jobs log_entry s m by h = []

-- ---- lists of steps, and what they say of a link

bare_arrived : (answer : Result ForwardOutcome LinkReceiveFault) (frag : Frag) → if_arrived answer (bare frag) ≡ map bare (if_arrived answer frag)
bare_arrived (Ok Moved) frag = refl
bare_arrived (Ok Full) frag = refl
bare_arrived (Ok Spent) frag = refl
bare_arrived (Err fault) frag = refl

bare_heard : (answer : Result MonitorAnswer LinkReceiveFault) (frag : Frag) → if_heard answer (bare frag) ≡ map bare (if_heard answer frag)
bare_heard (Ok heard_as.Full) frag = refl
bare_heard (Ok heard_as.Done) frag = refl
bare_heard (Ok (heard_as.Opened e)) frag = refl
bare_heard (Ok (heard_as.OpeningRefused e reason)) frag = refl
bare_heard (Err fault) frag = refl

module _ (t : TheCircuits) (l m : ℕ) where
  -- all on this link, or none
  said_put : (b : Bool) (frags : List Frag) → (m == l) ≡ b → put_on l (steps_of t (hop_said m) frags) ≡ (if b then map bare frags else [])
  said_put true [] is = refl
  said_put false [] is = refl
  said_put true (f ∷ frags) is = ap (λ (c : Bool). (if c then bare f ∷ [] else []) ++ put_on l (steps_of t (hop_said m) frags)) is ∙ ap (λ (xs : List Frag). bare f ∷ xs) (said_put true frags is)
  said_put false (f ∷ frags) is = ap (λ (c : Bool). (if c then bare f ∷ [] else []) ++ put_on l (steps_of t (hop_said m) frags)) is ∙ said_put false frags is

  wrote_put : (e : EndId) (b : Bool) (frags : List Frag) → (m == l) ≡ b → put_on l (steps_of t (hop_wrote e m) frags) ≡ (if b then map bare frags else [])
  wrote_put e true [] is = refl
  wrote_put e false [] is = refl
  wrote_put e true (f ∷ frags) is = ap (λ (c : Bool). (if c then bare f ∷ [] else []) ++ put_on l (steps_of t (hop_wrote e m) frags)) is ∙ ap (λ (xs : List Frag). bare f ∷ xs) (wrote_put e true frags is)
  wrote_put e false (f ∷ frags) is = ap (λ (c : Bool). (if c then bare f ∷ [] else []) ++ put_on l (steps_of t (hop_wrote e m) frags)) is ∙ wrote_put e false frags is

  heard_took : (b : Bool) (frags : List Frag) → (m == l) ≡ b → taken_from l (steps_of t (hop_heard m) frags) ≡ (if b then map bare frags else [])
  heard_took true [] is = refl
  heard_took false [] is = refl
  heard_took true (f ∷ frags) is = ap (λ (c : Bool). (if c then bare f ∷ [] else []) ++ taken_from l (steps_of t (hop_heard m) frags)) is ∙ ap (λ (xs : List Frag). bare f ∷ xs) (heard_took true frags is)
  heard_took false (f ∷ frags) is = ap (λ (c : Bool). (if c then bare f ∷ [] else []) ++ taken_from l (steps_of t (hop_heard m) frags)) is ∙ heard_took false frags is

  arrived_took : (e : EndId) (b : Bool) (frags : List Frag) → (m == l) ≡ b → taken_from l (steps_of t (λ f. hop_passed m f (End e)) frags) ≡ (if b then map bare frags else [])
  arrived_took e true [] is = refl
  arrived_took e false [] is = refl
  arrived_took e true (f ∷ frags) is = ap (λ (c : Bool). (if c then bare f ∷ [] else []) ++ taken_from l (steps_of t (λ g. hop_passed m g (End e)) frags)) is ∙ ap (λ (xs : List Frag). bare f ∷ xs) (arrived_took e true frags is)
  arrived_took e false (f ∷ frags) is = ap (λ (c : Bool). (if c then bare f ∷ [] else []) ++ taken_from l (steps_of t (λ g. hop_passed m g (End e)) frags)) is ∙ arrived_took e false frags is

  -- and the other way nothing
  said_took : (frags : List Frag) → taken_from l (steps_of t (hop_said m) frags) ≡ []
  said_took [] = refl
  said_took (f ∷ frags) = said_took frags

  wrote_took : (e : EndId) (frags : List Frag) → taken_from l (steps_of t (hop_wrote e m) frags) ≡ []
  wrote_took e [] = refl
  wrote_took e (f ∷ frags) = wrote_took e frags

  heard_put : (frags : List Frag) → put_on l (steps_of t (hop_heard m) frags) ≡ []
  heard_put [] = refl
  heard_put (f ∷ frags) = heard_put frags

  arrived_put : (e : EndId) (frags : List Frag) → put_on l (steps_of t (λ f. hop_passed m f (End e)) frags) ≡ []
  arrived_put e [] = refl
  arrived_put e (f ∷ frags) = arrived_put e frags

-- ---- which side is whose

link_side_of_by : (o : Option ℕ) (r n : ℕ) → (given o None λ i. if nat_lt i r then Some i else None) ≡ Some n → o ≡ Some n
link_side_of_by None r n is = absurd (cc)
link_side_of_by (Some i) r n is = by (nat_lt i r) is where
  by : (b : Bool) → (if b then Some i else None) ≡ Some n → Some i ≡ Some n
  by true h = h
  by false h = absurd (cc)

pub link_side_of : {S : Type 0} (s : TheRun S) (l : LinkId) (n : ℕ) → lent_link_side s l ≡ Some n → side_of_link s.core.link_sides l.0 ≡ Some n
link_side_of s l n is = link_side_of_by (side_of_link s.core.link_sides l.0) (length s.rings) n is

map_at : (n i : ℕ) (frags : List Frag) → map bare (at_side n i frags) ≡ (if n == i then map bare frags else [])
map_at n i frags = by (n == i) where
  by : (b : Bool) → map bare (if b then frags else []) ≡ (if b then map bare frags else [])
  by true = refl
  by false = refl

module _ (k : TheCore) (apart_is : IsApart k) (l i : ℕ) (here : side_of_link k.link_sides l ≡ Some i) where
  -- a link's side is the side exactly where the link is the link
  same_by : (m n : ℕ) (a b : Bool) → side_of_link k.link_sides m ≡ Some n → (n == i) ≡ a → (m == l) ≡ b → a ≡ b
  same_by m n true true link_side x y = refl
  same_by m n false false link_side x y = refl
  same_by m n true false link_side x y =
      let one : n ≡ i = grind (arith, nat_tests, x) in
      let links : m ≡ l = apart_is.link_sides m l i (link_side ∙ ap Some one) here in
      absurd (grind (arith, nat_tests, y, links))
  same_by m n false true link_side x y =
      let one : m ≡ l = grind (arith, nat_tests, y) in
      let found : Some n ≡ Some i = sym link_side ∙ ap (λ (j : ℕ). side_of_link k.link_sides j) one ∙ here in
      let sides : n ≡ i = cc in
      absurd (grind (arith, nat_tests, x, sides))

  same_test : (m n : ℕ) → side_of_link k.link_sides m ≡ Some n → (n == i) ≡ (m == l)
  same_test m n link_side = same_by m n (n == i) (m == l) link_side refl refl

  -- what some link placed, by its side and by its number
  by_side : (m n : ℕ) (frags : List Frag) → side_of_link k.link_sides m ≡ Some n → at_side n i frags ≡ (if m == l then frags else [])
  by_side m n frags link_side = ap (λ (b : Bool). if b then frags else []) (same_test m n link_side)

-- ---- where an end puts and takes

pub some_is : {X : Type 0} (x y : X) → Some x ≡ Some y → x ≡ y
some_is x y e = cc

module _ {S : Type 0} (s : TheRun S) where
  post_by : (o : Option Outlet) (f : ℕ) (post : LentPutEnd) → (given o None λ out. if lends_out s out then (let p : LentPutEnd = record { end = f; outlet = out } in Some p) else None) ≡ Some post → o ≡ Some post.outlet
  post_by None f post is = absurd (cc)
  post_by (Some out) f post is = by (lends_out s out) is where
    by : (b : Bool) → (if b then (let p : LentPutEnd = record { end = f; outlet = out } in Some p) else None) ≡ Some post → Some out ≡ Some post.outlet
    by true h = ap (λ (o : Option LentPutEnd). given o None λ (p : LentPutEnd). Some p.outlet) h
    by false h = absurd (cc)

  -- of an end that writes, by its place
  pub puts_to : (name : EndId) (f : ℕ) (post : LentPutEnd) (out : Outlet) → place_of s.core name ≡ Some f → lent_post s name ≡ Some post → post.outlet ≡ out → outlet_of s.core f ≡ Some out
  puts_to name f post out at is same =
      post_by (outlet_of s.core f) f post
      (sym (ap (λ (o : Option ℕ). given o None λ (e : ℕ). given (outlet_of s.core e) None λ (x : Outlet). if lends_out s x then (let p : LentPutEnd = record { end = e; outlet = x } in Some p) else None) at) ∙ is)
      ∙ ap Some same

  due_by : (o : Option Inlet) (f : ℕ) (d : LentTakeEnd) → (given o None λ x. if lends_in s x then (let p : LentTakeEnd = record { end = f; inlet = x } in Some p) else None) ≡ Some d → o ≡ Some d.inlet
  due_by None f d is = absurd (cc)
  due_by (Some x) f d is = by (lends_in s x) is where
    by : (b : Bool) → (if b then (let p : LentTakeEnd = record { end = f; inlet = x } in Some p) else None) ≡ Some d → Some x ≡ Some d.inlet
    by true h = ap (λ (o : Option LentTakeEnd). given o None λ (p : LentTakeEnd). Some p.inlet) h
    by false h = absurd (cc)

  -- of an end that is due
  pub takes_from : (n f : ℕ) (d : LentTakeEnd) (from : Inlet) → due s.core.board n ≡ Some f → lent_due s n ≡ Some d → d.inlet ≡ from → inlet_of s.core f ≡ Some from
  takes_from n f d from at is same =
      due_by (inlet_of s.core f) f d
      (sym (ap (λ (o : Option ℕ). given o None λ (e : ℕ). given (inlet_of s.core e) None λ (x : Inlet). if lends_in s x then (let p : LentTakeEnd = record { end = e; inlet = x } in Some p) else None) at) ∙ is)
      ∙ ap Some same

pub wired_end_out : (k : TheCore) (f : ℕ) (out : Outlet) (o : Option WiredEnd) → slice_get k.wired_ends f ≡ o → (given o None λ p. outlet_by k.link_sides p.wiring) ≡ Some out → (p : WiredEnd) × (slice_get k.wired_ends f ≡ Some p) × (outlet_by k.link_sides p.wiring ≡ Some out)
wired_end_out k f out None at is = absurd (cc)
wired_end_out k f out (Some p) at is = (p, at, is)

pub wired_end_in : (k : TheCore) (f : ℕ) (from : Inlet) (o : Option WiredEnd) → slice_get k.wired_ends f ≡ o → (given o None λ p. Some (inlet_by p.wiring)) ≡ Some from → (p : WiredEnd) × (slice_get k.wired_ends f ≡ Some p) × (inlet_by p.wiring ≡ from)
wired_end_in k f from None at is = absurd (cc)
wired_end_in k f from (Some p) at is = (p, at, some_is (inlet_by p.wiring) from is)

link_is : (k : TheCore) (f : ℕ) (p : WiredEnd) → slice_get k.wired_ends f ≡ Some p → link_at k f ≡ link_by p.wiring
link_is k f p at = ap (λ (o : Option WiredEnd). given o None λ (q : WiredEnd). link_by q.wiring) at

-- ---- a link, and one event

once_put : (b c : Bool) (f : Frag) → b ≡ c → (if b then bare (bare f) ∷ [] else []) ≡ (if c then bare f ∷ [] else []) ++ []
once_put true true f same = ap (λ (g : Frag). g ∷ []) (bare-bare f)
once_put false false f same = refl
once_put true false f same = absurd (cc)
once_put false true f same = absurd (cc)

once_took : (b c : Bool) (f : Frag) → b ≡ c → (if b then f ∷ [] else []) ≡ (if c then f ∷ [] else []) ++ []
once_took true true f same = refl
once_took false false f same = refl
once_took true false f same = absurd (cc)
once_took false true f same = absurd (cc)

module _ {S : Type 0} (w : SideRelations S) (jobs : List CoreJob) (s m : TheRun S) (apart_is : IsApart s.core) (l i : ℕ) (here : side_of_link s.core.link_sides l ≡ Some i) where
  -- no end of a ring has the side
  not_ring : (f n : ℕ) (p : WiredEnd) (frags : List Frag) → slice_get s.core.wired_ends f ≡ Some p → p.wiring ≡ Ring n → (b : Bool) → (n == i) ≡ b → (if b then frags else []) ≡ []
  not_ring f n p frags at ring false test = refl
  not_ring f n p frags at ring true test =
      let same : n ≡ i = grind (arith, nat_tests, test) in
      absurd (apart_is.rings l f i p here at (ring ∙ ap Ring same))

  -- a write
  wrote_by : (name : EndId) (f : ℕ) (p : WiredEnd) (frags : List Frag) (x : EndWiring) (out : Outlet) → slice_get s.core.wired_ends f ≡ Some p → p.wiring ≡ x → outlet_by s.core.link_sides x ≡ Some out → (n : ℕ) → out ≡ outlet.Side n
      → map bare (at_side n i frags) ≡ put_on l (steps_by s.core.monitor.circuits (link_by x) name frags)
  wrote_by name f p frags (Ring r) out at is puts n side =
      let found : Some (outlet.Side r) ≡ Some (outlet.Side n) = puts ∙ ap Some side in
      let same : r ≡ n = cc in
      ap (map bare) (not_ring f n p frags at (is ∙ ap Ring same) (n == i) refl)
  wrote_by name f p frags (Queues a b) out at is puts n side = absurd (let no : Some (outlet.Queue a) ≡ Some (outlet.Side n) = puts ∙ ap Some side in cc)
  wrote_by name f p frags (Circuit link a) out at is puts n side = by (side_of_link s.core.link_sides link.0) refl puts where
    by : (o : Option ℕ) → side_of_link s.core.link_sides link.0 ≡ o → (given o None λ (j : ℕ). Some (outlet.Side j)) ≡ Some out
        → map bare (at_side n i frags) ≡ put_on l (steps_by s.core.monitor.circuits (Some link) name frags)
    by None link_side h = absurd (cc)
    by (Some j) link_side h =
        let found : Some (outlet.Side j) ≡ Some (outlet.Side n) = h ∙ ap Some side in
        let same : j ≡ n = cc in
        let link_side_is : side_of_link s.core.link_sides link.0 ≡ Some n = link_side ∙ ap Some same in
        map_at n i frags ∙ ap (λ (b : Bool). if b then map bare frags else []) (same_test s.core apart_is l i here link.0 n link_side_is)
        ∙ sym (wrote_put s.core.monitor.circuits l link.0 name (link.0 == l) frags refl)

  queue_link : (x : EndWiring) (out : Outlet) (n : ℕ) → outlet_by s.core.link_sides x ≡ Some out → out ≡ outlet.Queue n → link_by x ≡ None
  queue_link (Queues a b) out n puts is = refl
  queue_link (Ring r) out n puts is = refl
  queue_link (Circuit link a) out n puts is = by (side_of_link s.core.link_sides link.0) puts where
    by : (o : Option ℕ) → (given o None λ (j : ℕ). Some (outlet.Side j)) ≡ Some out → Some link ≡ None
    by None h = absurd (cc)
    by (Some j) h = absurd (let no : Some (outlet.Side j) ≡ Some (outlet.Queue n) = h ∙ ap Some is in cc)

  -- an end's turn takes nothing from a link's side
  turn_by : (f n : ℕ) (p : WiredEnd) (frags : List Frag) (x : EndWiring) → slice_get s.core.wired_ends f ≡ Some p → p.wiring ≡ x → inlet_by x ≡ inlet.Side n → at_side n i frags ≡ []
  turn_by f n p frags (Ring r) at is takes =
      let same : r ≡ n = cc in
      not_ring f n p frags at (is ∙ ap Ring same) (n == i) refl
  turn_by f n p frags (Queues a b) at is takes = absurd (cc)
  turn_by f n p frags (Circuit link a) at is takes = absurd (cc)

  pub links_put : (log_entry : LogEntry) (by : InPlace jobs s log_entry) (h : Does w log_entry s m) → map bare (ring_put w log_entry s m h i) ≡ put_on l (event_steps w jobs log_entry s m by h)
  links_put (looked n x answer) by h = refl
  links_put (passed n k frag c Moved) by h =
      map_at k i (bare (with_circuit c.0 frag) ∷ []) ∙ once_put (k == i) (by.onward.0 == l) (with_circuit c.0 frag) (same_test s.core apart_is l i here by.onward.0 k by.side)
  links_put (passed n k frag c Full) by h = refl
  links_put (passed n k frag c Spent) by h = refl
  links_put (arrived n x frag e answer) by h = sym (arrived_put s.core.monitor.circuits l x.0 e (if_arrived answer frag))
  links_put (heard n x frag answer) by h = sym (heard_put s.core.monitor.circuits l x.0 (if_heard answer frag))
  links_put (said n x answer) by h =
      let frags = if_said answer (waiting_for s.core.monitor.outboxes x.0) in
      map_at n i frags ∙ ap (λ (b : Bool). if b then map bare frags else []) (same_test s.core apart_is l i here x.0 n (link_side_of s x n by))
      ∙ sym (said_put s.core.monitor.circuits l x.0 (x.0 == l) frags refl)
  links_put (told n x answer) by h = refl
  links_put (opened name request answer) by h = refl
  links_put (called name c answer) by h = refl
  links_put (ruled name msg reply answer) by h = refl
  links_put (wrote name (outlet.Queue n) answer) by h =
      let puts = puts_to s name h.0 by.0 (outlet.Queue n) h.1 by.1 by.2 in
      let wired_end = wired_end_out s.core h.0 (outlet.Queue n) (slice_get s.core.wired_ends h.0) refl puts in
      sym (ap (λ (o : Option LinkId). put_on l (steps_by s.core.monitor.circuits o name (write_put w h.0 (outlet.Queue n) answer s m h.2)))
      (link_is s.core h.0 wired_end.0 wired_end.1 ∙ queue_link wired_end.0.wiring (outlet.Queue n) n wired_end.2 refl))
  links_put (wrote name (outlet.Side n) answer) by h =
      let puts = puts_to s name h.0 by.0 (outlet.Side n) h.1 by.1 by.2 in
      let wired_end = wired_end_out s.core h.0 (outlet.Side n) (slice_get s.core.wired_ends h.0) refl puts in
      let frags = write_put w h.0 (outlet.Side n) answer s m h.2 in
      wrote_by name h.0 wired_end.0 frags wired_end.0.wiring (outlet.Side n) wired_end.1 refl wired_end.2 n refl
      ∙ sym (ap (λ (o : Option LinkId). put_on l (steps_by s.core.monitor.circuits o name frags)) (link_is s.core h.0 wired_end.0 wired_end.1))
  links_put (acked name n answer) by h = refl
  links_put (turned d name (inlet.Queue n) answer) by h = refl
  links_put (turned d name (inlet.Side n) answer) by h = refl
  links_put (turned d name inlet.Arrivals answer) by h = refl

  wrote_none : (o : Option LinkId) (name : EndId) (frags : List Frag) → taken_from l (steps_by s.core.monitor.circuits o name frags) ≡ []
  wrote_none None name frags = refl
  wrote_none (Some x) name frags = wrote_took s.core.monitor.circuits l x.0 name frags

  pub links_took : (log_entry : LogEntry) (by : InPlace jobs s log_entry) (h : Does w log_entry s m) → ring_took w log_entry s m h i ≡ taken_from l (event_steps w jobs log_entry s m by h)
  links_took (looked n x answer) by h = refl
  links_took (passed n k frag c Moved) by h =
      once_took (n == i) (by.link.0 == l) (bare frag) (same_test s.core apart_is l i here by.link.0 n (link_side_of s by.link n by.leads.link_side))
  links_took (passed n k frag c Full) by h = refl
  links_took (passed n k frag c Spent) by h = refl
  links_took (arrived n x frag e answer) by h =
      by_side s.core apart_is l i here x.0 n (if_arrived answer (bare frag)) (link_side_of s x n by.link_side)
      ∙ ap (λ (xs : List Frag). if x.0 == l then xs else []) (bare_arrived answer frag)
      ∙ sym (arrived_took s.core.monitor.circuits l x.0 e (x.0 == l) (if_arrived answer frag) refl)
  links_took (heard n x frag answer) by h =
      by_side s.core apart_is l i here x.0 n (if_heard answer (bare frag)) (link_side_of s x n by.0)
      ∙ ap (λ (xs : List Frag). if x.0 == l then xs else []) (bare_heard answer frag)
      ∙ sym (heard_took s.core.monitor.circuits l x.0 (x.0 == l) (if_heard answer frag) refl)
  links_took (said n x answer) by h = sym (said_took s.core.monitor.circuits l x.0 (if_said answer (waiting_for s.core.monitor.outboxes x.0)))
  links_took (told n x answer) by h = refl
  links_took (opened name request answer) by h = refl
  links_took (called name c answer) by h = refl
  links_took (ruled name msg reply answer) by h = refl
  links_took (wrote name (outlet.Queue n) answer) by h = sym (wrote_none (link_at s.core h.0) name (write_put w h.0 (outlet.Queue n) answer s m h.2))
  links_took (wrote name (outlet.Side n) answer) by h = sym (wrote_none (link_at s.core h.0) name (write_put w h.0 (outlet.Side n) answer s m h.2))
  links_took (acked name n answer) by h = refl
  links_took (turned d name (inlet.Queue n) answer) by h = refl
  links_took (turned d name (inlet.Side n) answer) by h =
      let takes = takes_from s d h.0 by.0 (inlet.Side n) h.2 by.1 by.3 in
      let wired_end = wired_end_in s.core h.0 (inlet.Side n) (slice_get s.core.wired_ends h.0) refl takes in
      turn_by h.0 n wired_end.0 _ wired_end.0.wiring wired_end.1 refl wired_end.2
  links_took (turned d name inlet.Arrivals answer) by h = refl
